use Rattle.std.proofs.Common.{ℕ, List, Some, sym, ap, ◌∙◌, subst}
use Rattle.edge_image.specs.View.{block_told}
use Rattle.edge_store.specs.Damages.{damage_at}
use Rattle.edge_store.specs.State.{Told}
use Rattle.edge_point.specs.Blocks.{TellsMet}
use Rattle.edge_point.specs.Seen.{next_view, state_of}
use Rattle.edge_point.specs.Uses.{HoldsBytes}
use Rattle.edge_point.specs.declared.parts.Parts.{Parts}
use Rattle.edge_point.proofs.AnswerLaws.{ok_after}
use Rattle.edge_point.proofs.EndedLaws.{next_told}
use Rattle.edge_point.proofs.EndingLaws.{Leaves, leaves, meets, told_after, told_met}
use Rattle.edge_point.proofs.PutLaws.{used_holds}
use Rattle.edge_point.proofs.PlacedLaws.{ok_map}
use Rattle.edge_point.proofs.look.open_block.Goals as goal

left : (g : Rattle.edge_point.proofs.look.open_block.Given.Over) (c : goal.After-end_by_step g)
    → Leaves g.D.Disk c.args.p.now c.end_by_step.new.p c.end_by_step.result
left g c = leaves g.D.Disk c.args.p.now c.load-step.new.p c.requires.stands c.requires.live (g.met.D.Disk.sure_is_shown c.load-step.new.p.cache.disk)
    c.end_by_step.new.p c.load-step.result c.end_by_step.result c.load-step.ensures.sees c.end_by_step.ensures.answer c.end_by_step.ensures.ended

pub returns-clause-stands : goal.returns-clause-stands
returns-clause-stands g c = (left g c).stands

pub returns-clause-called : goal.returns-clause-called
returns-clause-called g c = (left g c).called

pub returns-clause-point : goal.returns-clause-point
returns-clause-point g c = (left g c).point

pub returns-clause-working : goal.returns-clause-working
returns-clause-working g c = (left g c).works

pub returns-clause-damage : goal.returns-clause-damage
returns-clause-damage g c = λ told.
    let d = g.D.Disk in
    let p = c.args.p.now in
    let s = c.args.s in
    let met : TellsMet (damage_at (next_view d p) s.form s.owner s.block) c.end_by_step.result
    = subst (TellsMet (damage_at (next_view d p) s.form s.owner s.block)) (sym c.end_by_step.ensures.answer)
    (c.load-step.ensures.met told (c.requires.stands.told c.requires.live told).tied) in
    meets (damage_at (state_of d p).working s.form s.owner s.block) (state_of d p) (state_of d c.end_by_step.new.p) c.end_by_step.result
    (told_met d p s c.end_by_step.result told met) (left g c).works

pub returns-clause-room : goal.returns-clause-room
returns-clause-room g c =
    let d = g.D.Disk in
    let p = c.args.p.now in
    let b = c.args.s.block in
    let m = c.load-step.new.p in
    ok_after m c.end_by_step.new.p c.load-step.result c.end_by_step.result (λ (x : Parts g.row.D.Denot). HoldsBytes (state_of d p) b x.block.items)
    c.end_by_step.ensures.answer c.end_by_step.ensures.ended
    (told_after c.load-step.result (Told (state_of d p)) _ (λ told. ok_map c.load-step.result
    (λ e on. used_holds d p b c.requires.block told (next_told d p c.requires.stands c.requires.live told b c.requires.block ∙ on)
    ∙ ap (λ (x : List ℕ). Some (block_told p.master.geometry x)) (sym e)) (c.load-step.ensures.bytes told)))
