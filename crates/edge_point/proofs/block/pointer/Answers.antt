use Rattle.std.proofs.Common.{◌≡◌, ℕ, Bool, sym, subst}
use Rattle.std.specs.Prelude.{IfOk, Result, slice_index}
use Rattle.edge_store.specs.Damages.{damage_at}
use Rattle.edge_store.specs.State.{Told}
use Rattle.edge_store.specs.Told.{IsPointerOf}
use Rattle.edge_store.specs.View.{content_at, entries_in}
use Rattle.edge_store.specs.declared.fault.StoreFault.{StoreFault}
use Rattle.edge_point.specs.Blocks.{TellsMet}
use Rattle.edge_point.specs.Seen.{next_view, state_of, view_told}
use Rattle.edge_point.proofs.EndingLaws.{Leaves, leaves, meets, told_met, told_then}
use Rattle.edge_point.proofs.block.pointer.Goals as goal

left : (g : Rattle.edge_point.proofs.block.pointer.Given.Over) (c : goal.After-end_by_step g)
    → Leaves g.D.Disk c.args.p.now c.end_by_step.new.p c.end_by_step.result
left g c = leaves g.D.Disk c.args.p.now c.seek_pointer-step.new.p c.requires.stands c.requires.live
    (g.met.D.Disk.sure_is_shown c.seek_pointer-step.new.p.cache.disk)
    c.end_by_step.new.p c.seek_pointer-step.result c.end_by_step.result c.seek_pointer-step.ensures.sees c.end_by_step.ensures.answer
    c.end_by_step.ensures.ended

pub returns-clause-stands : goal.returns-clause-stands
returns-clause-stands g c = (left g c).stands

pub returns-clause-called : goal.returns-clause-called
returns-clause-called g c = (left g c).called

pub returns-clause-point : goal.returns-clause-point
returns-clause-point g c = (left g c).point

pub returns-clause-reads : goal.returns-clause-reads
returns-clause-reads g c = (left g c).reads

pub returns-clause-below : goal.returns-clause-below
returns-clause-below g c = (left g c).below

pub returns-clause-clean : goal.returns-clause-clean
returns-clause-clean g c = (left g c).clean

pub returns-clause-damage : goal.returns-clause-damage
returns-clause-damage g c = λ told.
    let d = g.D.Disk in
    let p = c.args.p.now in
    let s = c.args.s in
    let step = c.seek_pointer-step in
    let met : TellsMet (damage_at (next_view d p) s.form s.owner s.block) c.end_by_step.result
    = subst (TellsMet (damage_at (next_view d p) s.form s.owner s.block)) (sym c.end_by_step.ensures.answer)
    (step.ensures.met told (c.requires.stands.told c.requires.live told).tied) in
    meets (damage_at (state_of d p).working s.form s.owner s.block) (state_of d p) (state_of d c.end_by_step.new.p) c.end_by_step.result
    (told_met d p s c.end_by_step.result told met) (left g c).works

pub returns-clause-pointer : goal.returns-clause-pointer
returns-clause-pointer g c =
    let d = g.D.Disk in
    let p = c.args.p.now in
    let s = c.args.s in
    let step = c.seek_pointer-step in
    subst (λ (r : Result ℕ StoreFault). IfOk r (IsPointerOf (state_of d p) s c.args.i)) (sym c.end_by_step.ensures.answer)
    (told_then step.result (Told (state_of d p)) (λ to. to ≡ slice_index (entries_in (content_at (state_of d p).working s.form s.block)) c.args.i)
    (λ told. subst (λ (t : Bool). IfOk step.result (λ to. to ≡ slice_index
    (entries_in (content_at (view_told t (next_view d p)) s.form s.block)) c.args.i)) (sym told)
    (step.ensures.pointer told (c.requires.stands.told c.requires.live told).tied)))
