use Rattle.std.proofs.Common.{length, refl, ap, ◌∙◌}
use Rattle.edge_point.proofs.PutLaws.{block_word, failed_leaves, one_called, one_keeps, one_places, one_point, one_put, put_long, waits_given, wrote, wrote_same}
use Rattle.edge_point.proofs.StepLaws.{rest_over}
use Rattle.edge_point.proofs.put.put.Goals as goal

pub returns-in-Ok-clause-stands : goal.returns-in-Ok-clause-stands
returns-in-Ok-clause-stands g c =
    let d = g.D.Disk in
    let p = c.args.p.now in
    let is = c.requires.stands in
    one_point d p _ is c.requires.live c.args.b c.requires.block
    (wrote d p _ is c.requires.live c.args.b c.requires.block c.requires.is_new (rest_over p p.imap c.write.new.self) refl c.write.ensures.origin
    c.in-Ok.ensures.changes)
    (λ shows. refl) (λ shows. ap length (waits_given d c.write.new.self c.args.b _ (c.in-Ok.ensures.bytes shows))
    ∙ put_long d p c.args.b c.requires.block is c.requires.live c.args.at c.args.bytes.now c.args.node c.requires.range shows)

pub returns-in-Ok-clause-called : goal.returns-in-Ok-clause-called
returns-in-Ok-clause-called g c =
    let d = g.D.Disk in
    let p = c.args.p.now in
    one_called d p _ c.requires.stands c.requires.live c.args.b c.requires.block
    (wrote d p _ c.requires.stands c.requires.live c.args.b c.requires.block c.requires.is_new (rest_over p p.imap c.write.new.self) refl
    c.write.ensures.origin c.in-Ok.ensures.changes)
    tt c.in-Ok.ensures.cause.passed (returns-in-Ok-clause-stands g c) (g.met.D.Disk.sure_is_shown c.write.new.self.disk)

pub returns-in-Ok-clause-point : goal.returns-in-Ok-clause-point
returns-in-Ok-clause-point g c =
    let d = g.D.Disk in
    let p = c.args.p.now in
    one_keeps d p _ c.requires.stands c.requires.live c.args.b c.requires.block
    (wrote d p _ c.requires.stands c.requires.live c.args.b c.requires.block c.requires.is_new (rest_over p p.imap c.write.new.self) refl
    c.write.ensures.origin c.in-Ok.ensures.changes)

pub returns-in-Ok-clause-places : goal.returns-in-Ok-clause-places
returns-in-Ok-clause-places g c =
    let d = g.D.Disk in
    let p = c.args.p.now in
    one_places d p _ c.requires.stands c.requires.live c.args.b c.requires.block
    (wrote d p _ c.requires.stands c.requires.live c.args.b c.requires.block c.requires.is_new (rest_over p p.imap c.write.new.self) refl
    c.write.ensures.origin c.in-Ok.ensures.changes)

pub returns-in-Ok-clause-put : goal.returns-in-Ok-clause-put
returns-in-Ok-clause-put g c = λ shows.
    let d = g.D.Disk in
    let p = c.args.p.now in
    one_put d p _ c.requires.stands c.requires.live c.args.b c.requires.block
    (wrote d p _ c.requires.stands c.requires.live c.args.b c.requires.block c.requires.is_new (rest_over p p.imap c.write.new.self) refl
    c.write.ensures.origin c.in-Ok.ensures.changes)
    _ shows
    (wrote_same d p _ c.requires.stands c.requires.live c.args.b c.requires.block c.requires.is_new (rest_over p p.imap c.write.new.self) refl
    c.write.ensures.origin
    c.in-Ok.ensures.changes shows)
    (waits_given d c.write.new.self c.args.b _ (c.in-Ok.ensures.bytes shows))

pub returns-in-Err-clause-called : goal.returns-in-Err-clause-called
returns-in-Err-clause-called g c =
    let p = c.args.p.now in
    (failed_leaves g.D.Disk p _ c.requires.stands c.requires.live (rest_over p p.imap c.write.new.self) refl c.write.ensures.origin c.in-Err.ensures.fault
    c.write.ensures.cause.later c.in-Err.ensures.cause.failed (g.met.D.Disk.sure_is_shown c.write.new.self.disk) c.end_with.new.p c.end_with.result
    c.end_with.ensures.answer c.end_with.ensures.ended).called

pub returns-in-Err-clause-point : goal.returns-in-Err-clause-point
returns-in-Err-clause-point g c =
    let p = c.args.p.now in
    (failed_leaves g.D.Disk p _ c.requires.stands c.requires.live (rest_over p p.imap c.write.new.self) refl c.write.ensures.origin c.in-Err.ensures.fault
    c.write.ensures.cause.later c.in-Err.ensures.cause.failed (g.met.D.Disk.sure_is_shown c.write.new.self.disk) c.end_with.new.p c.end_with.result
    c.end_with.ensures.answer c.end_with.ensures.ended).point

pub returns-in-Ok-clause-word : goal.returns-in-Ok-clause-word
returns-in-Ok-clause-word g c = λ node shows block e.
    let d = g.D.Disk in
    let p = c.args.p.now in
    block_word d _ c.args.b c.requires.block (returns-in-Ok-clause-stands g c) c.requires.live block e shows (c.in-Ok.ensures.word node)
