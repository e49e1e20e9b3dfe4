use Rattle.std.proofs.Common.{◌<◌, ℕ, sym, ◌∙◌, subst}
use Rattle.std.specs.Prelude.{IfOk, Result}
use Rattle.edge_store.specs.Calls.{NeverDamaged}
use Rattle.edge_store.specs.State.{IsAllocable}
use Rattle.edge_store.specs.declared.fault.StoreFault.{StoreFault}
use Rattle.edge_point.specs.Seen.{state_of}
use Rattle.edge_point.specs.Uses.{IsFreeIn}
use Rattle.edge_point.proofs.AnswerLaws.{room_after}
use Rattle.edge_point.proofs.EndingLaws.{Leaves, leaves}
use Rattle.edge_point.proofs.FreeLaws.{answer_free}
use Rattle.edge_point.proofs.RoomLaws.{now_free}
use Rattle.edge_point.proofs.free.find_free.Goals as goal

left : (g : Rattle.edge_point.proofs.free.find_free.Given.Over) (c : goal.After-end_by_step g)
    → Leaves g.D.Disk c.args.p.now c.end_by_step.new.p c.end_by_step.result
left g c = leaves g.D.Disk c.args.p.now c.seek_free-step.new.p c.requires.stands c.requires.live (g.met.D.Disk.sure_is_shown c.seek_free-step.new.p.cache.disk)
    c.end_by_step.new.p c.seek_free-step.result c.end_by_step.result c.seek_free-step.ensures.sees c.end_by_step.ensures.answer c.end_by_step.ensures.ended

pub returns-clause-stands : goal.returns-clause-stands
returns-clause-stands g c = (left g c).stands

pub returns-clause-room : goal.returns-clause-room
returns-clause-room g c = room_after c.seek_free-step.new.p c.end_by_step.new.p c.seek_free-step.result c.end_by_step.ensures.ended
    ∙ c.seek_free-step.ensures.room

pub returns-clause-called : goal.returns-clause-called
returns-clause-called g c = (left g c).called

pub returns-clause-point : goal.returns-clause-point
returns-clause-point g c = (left g c).point

pub returns-clause-working : goal.returns-clause-working
returns-clause-working g c = (left g c).works

pub returns-clause-undamaged : goal.returns-clause-undamaged
returns-clause-undamaged g c = λ told.
    let d = g.D.Disk in
    let p = c.args.p.now in
    let some : 0 < p.imap.counts.free
    = subst (λ (n : ℕ). 0 < n) (sym (now_free d p c.requires.stands c.requires.live told)) (c.requires.room told) in
    subst (NeverDamaged {T = ℕ}) (sym c.end_by_step.ensures.answer)
    (c.seek_free-step.ensures.sound told (c.requires.stands.told c.requires.live told).tied some)

pub returns-clause-block : goal.returns-clause-block
returns-clause-block g c =
    subst (λ (r : Result ℕ StoreFault). IfOk r (IsAllocable (state_of g.D.Disk c.args.p.now))) (sym c.end_by_step.ensures.answer) c.seek_free-step.ensures.block

pub returns-clause-free : goal.returns-clause-free
returns-clause-free g c =
    let d = g.D.Disk in
    let p = c.args.p.now in
    subst (λ (r : Result ℕ StoreFault). IfOk r (IsFreeIn (state_of d p))) (sym c.end_by_step.ensures.answer)
    (answer_free d p c.requires.stands c.requires.live c.seek_free-step.result c.seek_free-step.ensures.block c.seek_free-step.ensures.free)
