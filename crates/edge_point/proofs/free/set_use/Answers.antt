use Rattle.std.proofs.Common.{length, sym, ap, ◌∙◌, subst}
use Rattle.edge_nodes.proofs.GeometryLaws.{limits}
use Rattle.edge_store.specs.Calls.{KeepsPlaces, NeverDamaged}
use Rattle.edge_store.specs.State.{Told}
use Rattle.edge_anchor.proofs.PlaceLaws.{block_has_bit}
use Rattle.edge_point.specs.Changing.{IsBlock}
use Rattle.edge_point.specs.Seen.{state_of}
use Rattle.edge_point.specs.Standing.{IsPoint}
use Rattle.edge_point.specs.Uses.{SetsUse, UseSet}
use Rattle.edge_point.specs.declared.parts.Parts.{Parts}
use Rattle.edge_point.proofs.AnswerLaws.{LeavesStep, leaves_step, ok_after, room_after}
use Rattle.edge_point.proofs.EndingLaws.{told_after}
use Rattle.edge_point.proofs.FindLaws.{always}
use Rattle.edge_point.proofs.PutLaws.{one_places, one_point, one_set}
use Rattle.edge_point.proofs.PlacedLaws.{ok_map}
use Rattle.edge_point.proofs.free.set_use.Goals as goal

pub mark-step-requires-clause-block : goal.mark-step-requires-clause-block
mark-step-requires-clause-block g c =
    let r = c.args.p.now.master.geometry in
    block_has_bit r (limits r c.requires.stands.geometry) c.args.b c.requires.block

point : (g : Rattle.edge_point.proofs.free.set_use.Given.Over) (c : goal.After-end_by_step g) → IsPoint g.D.Disk c.mark-step.new.p
point g c =
    let p = c.args.p.now in
    one_point g.D.Disk p c.mark-step.new.p c.requires.stands c.requires.live c.args.b c.requires.block c.mark-step.ensures.step.changes
    (λ shows. c.mark-step.ensures.numbers)
    (λ shows. ap length (c.mark-step.ensures.bytes shows) ∙ (c.requires.stands.told c.requires.live shows).whole c.args.b c.requires.block)

left : (g : Rattle.edge_point.proofs.free.set_use.Given.Over) (c : goal.After-end_by_step g)
    → LeavesStep g.D.Disk c.args.p.now c.end_by_step.new.p c.end_by_step.result
left g c = leaves_step g.D.Disk (IsBlock c.args.b) c.args.p.now c.mark-step.new.p c.requires.stands c.requires.live
    (g.met.D.Disk.sure_is_shown c.mark-step.new.p.cache.disk)
    c.end_by_step.new.p c.mark-step.result c.end_by_step.result c.mark-step.ensures.step
    (always c.mark-step.result (IsPoint g.D.Disk c.mark-step.new.p) (point g c)) c.end_by_step.ensures.answer c.end_by_step.ensures.ended

pub returns-clause-stands : goal.returns-clause-stands
returns-clause-stands g c = (left g c).stands

pub returns-clause-room : goal.returns-clause-room
returns-clause-room g c = room_after c.mark-step.new.p c.end_by_step.new.p c.mark-step.result c.end_by_step.ensures.ended ∙ c.mark-step.ensures.room

pub returns-clause-called : goal.returns-clause-called
returns-clause-called g c = (left g c).called

pub returns-clause-point : goal.returns-clause-point
returns-clause-point g c = (left g c).point

pub returns-clause-undamaged : goal.returns-clause-undamaged
returns-clause-undamaged g c = λ told. subst (NeverDamaged {T = Unit {0}}) (sym c.end_by_step.ensures.answer) (c.mark-step.ensures.undamaged told)

pub returns-clause-places : goal.returns-clause-places
returns-clause-places g c =
    let d = g.D.Disk in
    let p = c.args.p.now in
    let m = c.mark-step.new.p in
    ok_after m c.end_by_step.new.p c.mark-step.result c.end_by_step.result (λ (x : Parts g.row.D.Denot). KeepsPlaces (state_of d p) (state_of d x))
    c.end_by_step.ensures.answer c.end_by_step.ensures.ended
    (always c.mark-step.result _ (one_places d p m c.requires.stands c.requires.live c.args.b c.requires.block c.mark-step.ensures.step.changes))

pub returns-clause-set : goal.returns-clause-set
returns-clause-set g c =
    let d = g.D.Disk in
    let p = c.args.p.now in
    let m = c.mark-step.new.p in
    let changes = c.mark-step.ensures.step.changes in
    ok_after m c.end_by_step.new.p c.mark-step.result c.end_by_step.result
    (λ (x : Parts g.row.D.Denot). SetsUse (state_of d p) (state_of d x) c.args.b c.args.used)
    c.end_by_step.ensures.answer c.end_by_step.ensures.ended
    (told_after c.mark-step.result (Told (state_of d p)) (UseSet (state_of d p).working (state_of d m).working c.args.b c.args.used)
    (λ shows. ok_map c.mark-step.result
    (λ here. one_set d p m c.requires.stands c.requires.live c.args.b c.requires.block changes c.args.used (point g c) (changes.live ∙ c.requires.live) shows
    here)
    (c.mark-step.ensures.used shows)))
