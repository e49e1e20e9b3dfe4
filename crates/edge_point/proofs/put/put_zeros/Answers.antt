use Rattle.std.proofs.Common.{ℕ, length, replicate, refl, ap, ◌∙◌}
use Rattle.std.proofs.lemmas.List.{length-replicate}
use Rattle.edge_point.proofs.PutLaws.{failed_leaves, waits_given, wrote_leaves, wrote_places, wrote_put}
use Rattle.edge_point.proofs.StepLaws.{rest_over}
use Rattle.edge_point.proofs.put.put_zeros.Goals as goal

pub returns-in-Ok-clause-stands : goal.returns-in-Ok-clause-stands
returns-in-Ok-clause-stands g c =
    let d = g.D.Disk in
    let p = c.args.p.now in
    (wrote_leaves d p _ c.requires.stands c.requires.live c.args.b c.requires.block c.requires.is_new (rest_over p p.imap c.fresh.new.self) refl
    c.fresh.ensures.origin
    c.in-Ok.ensures.changes (tt {0}) c.in-Ok.ensures.cause.passed (g.met.D.Disk.sure_is_shown c.fresh.new.self.disk)
    (λ shows. ap length (waits_given d c.fresh.new.self c.args.b _ c.in-Ok.ensures.bytes) ∙ length-replicate (d.origin p.cache.disk).block_size 0
    ∙ c.requires.stands.fits.size)).stands

pub returns-in-Ok-clause-called : goal.returns-in-Ok-clause-called
returns-in-Ok-clause-called g c =
    let d = g.D.Disk in
    let p = c.args.p.now in
    (wrote_leaves d p _ c.requires.stands c.requires.live c.args.b c.requires.block c.requires.is_new (rest_over p p.imap c.fresh.new.self) refl
    c.fresh.ensures.origin
    c.in-Ok.ensures.changes (tt {0}) c.in-Ok.ensures.cause.passed (g.met.D.Disk.sure_is_shown c.fresh.new.self.disk)
    (λ shows. ap length (waits_given d c.fresh.new.self c.args.b _ c.in-Ok.ensures.bytes) ∙ length-replicate (d.origin p.cache.disk).block_size 0
    ∙ c.requires.stands.fits.size)).called

pub returns-in-Ok-clause-point : goal.returns-in-Ok-clause-point
returns-in-Ok-clause-point g c =
    let d = g.D.Disk in
    let p = c.args.p.now in
    (wrote_leaves d p _ c.requires.stands c.requires.live c.args.b c.requires.block c.requires.is_new (rest_over p p.imap c.fresh.new.self) refl
    c.fresh.ensures.origin
    c.in-Ok.ensures.changes (tt {0}) c.in-Ok.ensures.cause.passed (g.met.D.Disk.sure_is_shown c.fresh.new.self.disk)
    (λ shows. ap length (waits_given d c.fresh.new.self c.args.b _ c.in-Ok.ensures.bytes) ∙ length-replicate (d.origin p.cache.disk).block_size 0
    ∙ c.requires.stands.fits.size)).point

pub returns-in-Ok-clause-places : goal.returns-in-Ok-clause-places
returns-in-Ok-clause-places g c =
    let p = c.args.p.now in
    wrote_places g.D.Disk p _ c.requires.stands c.requires.live c.args.b c.requires.block c.requires.is_new (rest_over p p.imap c.fresh.new.self) refl
    c.fresh.ensures.origin
    c.in-Ok.ensures.changes

pub returns-in-Ok-clause-put : goal.returns-in-Ok-clause-put
returns-in-Ok-clause-put g c = λ shows.
    let d = g.D.Disk in
    let p = c.args.p.now in
    wrote_put d p _ c.requires.stands c.requires.live c.args.b c.requires.block c.requires.is_new (rest_over p p.imap c.fresh.new.self) refl
    c.fresh.ensures.origin
    c.in-Ok.ensures.changes (λ old. replicate p.master.geometry.block_size 0) shows
    (waits_given d c.fresh.new.self c.args.b _ c.in-Ok.ensures.bytes ∙ ap (λ (n : ℕ). replicate n 0) c.requires.stands.fits.size)

pub returns-in-Err-clause-called : goal.returns-in-Err-clause-called
returns-in-Err-clause-called g c =
    let p = c.args.p.now in
    (failed_leaves g.D.Disk p _ c.requires.stands c.requires.live (rest_over p p.imap c.fresh.new.self) refl c.fresh.ensures.origin c.in-Err.ensures.fault
    c.fresh.ensures.cause.later c.in-Err.ensures.cause.failed (g.met.D.Disk.sure_is_shown c.fresh.new.self.disk) c.end_with.new.p c.end_with.result
    c.end_with.ensures.answer c.end_with.ensures.ended).called

pub returns-in-Err-clause-point : goal.returns-in-Err-clause-point
returns-in-Err-clause-point g c =
    let p = c.args.p.now in
    (failed_leaves g.D.Disk p _ c.requires.stands c.requires.live (rest_over p p.imap c.fresh.new.self) refl c.fresh.ensures.origin c.in-Err.ensures.fault
    c.fresh.ensures.cause.later c.in-Err.ensures.cause.failed (g.met.D.Disk.sure_is_shown c.fresh.new.self.disk) c.end_with.new.p c.end_with.result
    c.end_with.ensures.answer c.end_with.ensures.ended).point
