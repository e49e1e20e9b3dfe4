use Rattle.std.proofs.Common.{◌≡◌, ◌∙◌, true, length, refl, ap, arith}
use Rattle.std.specs.Prelude.{IsTrue}
use Rattle.edge_cache.specs.Calls.{content_in}
use Rattle.edge_cache.proofs.SealLaws.{length_marked}
use Rattle.edge_mount.proofs.WholeLaws.{length-back}
use Rattle.edge_nodes.proofs.GeometryLaws.{geometry_long}
use Rattle.edge_point.specs.Seen.{state_of}
use Rattle.edge_point.proofs.EffectLaws.{new_used}
use Rattle.edge_point.proofs.FindLaws.{whole_back}
use Rattle.edge_point.proofs.PutLaws.{failed_leaves, rest_room, room_given, wrote_leaves, wrote_places, wrote_put}
use Rattle.edge_point.specs.Uses.{form_of}
use Rattle.edge_point.proofs.NodeLaws.{emptied, empty_node, same_node}
use Rattle.edge_point.proofs.PlacedLaws.{is_sealed}
use Rattle.edge_point.proofs.put.put_pointers.Goals as goal

pub returns-in-Ok-clause-stands : goal.returns-in-Ok-clause-stands
returns-in-Ok-clause-stands g c =
    let d = g.D.Disk in
    let p = c.args.p.now in
    let x = c.fill_pointers.new.out in
    let back = whole_back p.block.len x p.block.items (omega arith) p.block.ok.0 in
    let len : length x ≡ p.master.geometry.block_size = c.fill_pointers.ensures.len in
    let given = λ (shows : IsTrue (d.origin p.cache.disk).shows). room_given d p c.requires.stands c.requires.live c.args.b c.requires.block shows
    c.deref.result.now x true
    c.write.new.self (c.in-Ok.ensures.bytes shows) (c.deref.ensures.value ∙ back) len in
    let enough = (geometry_long p.master.geometry c.requires.stands.geometry).least in
    (wrote_leaves d p _ c.requires.stands c.requires.live c.args.b c.requires.block c.requires.is_new
    (rest_room p c.write.new.self c.fill_pointers.new.out (length-back p.block.len c.fill_pointers.new.out p.block.items (omega arith) p.block.ok.0))
    refl c.write.ensures.origin c.in-Ok.ensures.changes
    (tt {0}) c.in-Ok.ensures.cause.passed (g.met.D.Disk.sure_is_shown c.write.new.self.disk)
    (λ shows. ap length (given shows) ∙ length_marked true x (omega (arith, len)) ∙ len)).stands

pub returns-in-Ok-clause-called : goal.returns-in-Ok-clause-called
returns-in-Ok-clause-called g c =
    let d = g.D.Disk in
    let p = c.args.p.now in
    let x = c.fill_pointers.new.out in
    let back = whole_back p.block.len x p.block.items (omega arith) p.block.ok.0 in
    let len : length x ≡ p.master.geometry.block_size = c.fill_pointers.ensures.len in
    let given = λ (shows : IsTrue (d.origin p.cache.disk).shows). room_given d p c.requires.stands c.requires.live c.args.b c.requires.block shows
    c.deref.result.now x true
    c.write.new.self (c.in-Ok.ensures.bytes shows) (c.deref.ensures.value ∙ back) len in
    let enough = (geometry_long p.master.geometry c.requires.stands.geometry).least in
    (wrote_leaves d p _ c.requires.stands c.requires.live c.args.b c.requires.block c.requires.is_new
    (rest_room p c.write.new.self c.fill_pointers.new.out (length-back p.block.len c.fill_pointers.new.out p.block.items (omega arith) p.block.ok.0))
    refl c.write.ensures.origin c.in-Ok.ensures.changes
    (tt {0}) c.in-Ok.ensures.cause.passed (g.met.D.Disk.sure_is_shown c.write.new.self.disk)
    (λ shows. ap length (given shows) ∙ length_marked true x (omega (arith, len)) ∙ len)).called

pub returns-in-Ok-clause-point : goal.returns-in-Ok-clause-point
returns-in-Ok-clause-point g c =
    let d = g.D.Disk in
    let p = c.args.p.now in
    let x = c.fill_pointers.new.out in
    let back = whole_back p.block.len x p.block.items (omega arith) p.block.ok.0 in
    let len : length x ≡ p.master.geometry.block_size = c.fill_pointers.ensures.len in
    let given = λ (shows : IsTrue (d.origin p.cache.disk).shows). room_given d p c.requires.stands c.requires.live c.args.b c.requires.block shows
    c.deref.result.now x true
    c.write.new.self (c.in-Ok.ensures.bytes shows) (c.deref.ensures.value ∙ back) len in
    let enough = (geometry_long p.master.geometry c.requires.stands.geometry).least in
    (wrote_leaves d p _ c.requires.stands c.requires.live c.args.b c.requires.block c.requires.is_new
    (rest_room p c.write.new.self c.fill_pointers.new.out (length-back p.block.len c.fill_pointers.new.out p.block.items (omega arith) p.block.ok.0))
    refl c.write.ensures.origin c.in-Ok.ensures.changes
    (tt {0}) c.in-Ok.ensures.cause.passed (g.met.D.Disk.sure_is_shown c.write.new.self.disk)
    (λ shows. ap length (given shows) ∙ length_marked true x (omega (arith, len)) ∙ len)).point

pub returns-in-Ok-clause-places : goal.returns-in-Ok-clause-places
returns-in-Ok-clause-places g c =
    let p = c.args.p.now in
    wrote_places g.D.Disk p _ c.requires.stands c.requires.live c.args.b c.requires.block c.requires.is_new
    (rest_room p c.write.new.self c.fill_pointers.new.out (length-back p.block.len c.fill_pointers.new.out p.block.items (omega arith) p.block.ok.0))
    refl c.write.ensures.origin c.in-Ok.ensures.changes

pub returns-in-Ok-clause-empties : goal.returns-in-Ok-clause-empties
returns-in-Ok-clause-empties g c = λ shows.
    let d = g.D.Disk in
    let p = c.args.p.now in
    let s = state_of d p in
    let b = c.args.b in
    let x = c.fill_pointers.new.out in
    let back = whole_back p.block.len x p.block.items (omega arith) p.block.ok.0 in
    let len : length x ≡ p.master.geometry.block_size = c.fill_pointers.ensures.len in
    let given = λ (shows : IsTrue (d.origin p.cache.disk).shows). room_given d p c.requires.stands c.requires.live c.args.b c.requires.block shows
    c.deref.result.now x true
    c.write.new.self (c.in-Ok.ensures.bytes shows) (c.deref.ensures.value ∙ back) len in
    let enough = (geometry_long p.master.geometry c.requires.stands.geometry).least in
    let node = content_in d c.write.new.self b in
    let spells = same_node p.master.geometry c.args.double c.saturating_add-sequence.result c.args.owner _ x node (omega (arith, len)) c.fill_pointers.ensures
    (is_sealed x node (omega (arith, len)) (given shows) (c.in-Ok.ensures.word refl)) in
    emptied p.master.geometry s.working _ (form_of c.args.double) c.args.owner b node
    (wrote_put d p _ c.requires.stands c.requires.live c.args.b c.requires.block c.requires.is_new
    (rest_room p c.write.new.self c.fill_pointers.new.out (length-back p.block.len c.fill_pointers.new.out p.block.items (omega arith) p.block.ok.0))
    refl c.write.ensures.origin c.in-Ok.ensures.changes (λ old. node) shows refl)
    (new_used s.committed s.working b (c.requires.is_new shows)) (empty_node p.master.geometry c.args.double c.saturating_add-sequence.result c.args.owner
    node spells)

pub returns-in-Err-clause-called : goal.returns-in-Err-clause-called
returns-in-Err-clause-called g c =
    let p = c.args.p.now in
    (failed_leaves g.D.Disk p _ c.requires.stands c.requires.live
    (rest_room p c.write.new.self c.fill_pointers.new.out (length-back p.block.len c.fill_pointers.new.out p.block.items (omega arith) p.block.ok.0))
    refl c.write.ensures.origin c.in-Err.ensures.fault c.write.ensures.cause.later c.in-Err.ensures.cause.failed
    (g.met.D.Disk.sure_is_shown c.write.new.self.disk)
    c.end_with.new.p c.end_with.result c.end_with.ensures.answer c.end_with.ensures.ended).called

pub returns-in-Err-clause-point : goal.returns-in-Err-clause-point
returns-in-Err-clause-point g c =
    let p = c.args.p.now in
    (failed_leaves g.D.Disk p _ c.requires.stands c.requires.live
    (rest_room p c.write.new.self c.fill_pointers.new.out (length-back p.block.len c.fill_pointers.new.out p.block.items (omega arith) p.block.ok.0))
    refl c.write.ensures.origin c.in-Err.ensures.fault c.write.ensures.cause.later c.in-Err.ensures.cause.failed
    (g.met.D.Disk.sure_is_shown c.write.new.self.disk)
    c.end_with.new.p c.end_with.result c.end_with.ensures.answer c.end_with.ensures.ended).point
