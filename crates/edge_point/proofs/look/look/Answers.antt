use Rattle.std.proofs.Common.{sym, subst}
use Rattle.edge_store.specs.Damages.{damage_at}
use Rattle.edge_point.specs.Blocks.{TellsMet}
use Rattle.edge_point.specs.Seen.{next_view, state_of}
use Rattle.edge_point.proofs.EndingLaws.{Leaves, leaves, meets, told_met}
use Rattle.edge_point.proofs.look.look.Goals as goal

left : (g : Rattle.edge_point.proofs.look.look.Given.Over) (c : goal.After-end_by_step g)
    → Leaves g.D.Disk c.args.p.now c.end_by_step.new.p c.end_by_step.result
left g c = leaves g.D.Disk c.args.p.now c.seek_block-step.new.p c.requires.stands c.requires.live
    (g.met.D.Disk.sure_is_shown c.seek_block-step.new.p.cache.disk)
    c.end_by_step.new.p c.seek_block-step.result c.end_by_step.result c.seek_block-step.ensures.sees c.end_by_step.ensures.answer c.end_by_step.ensures.ended

pub returns-clause-stands : goal.returns-clause-stands
returns-clause-stands g c = (left g c).stands

pub returns-clause-called : goal.returns-clause-called
returns-clause-called g c = (left g c).called

pub returns-clause-point : goal.returns-clause-point
returns-clause-point g c = (left g c).point

pub returns-clause-working : goal.returns-clause-working
returns-clause-working g c = (left g c).works

pub returns-clause-damage : goal.returns-clause-damage
returns-clause-damage g c = λ told.
    let d = g.D.Disk in
    let p = c.args.p.now in
    let s = c.args.s in
    let met : TellsMet (damage_at (next_view d p) s.form s.owner s.block) c.end_by_step.result
    = subst (TellsMet (damage_at (next_view d p) s.form s.owner s.block)) (sym c.end_by_step.ensures.answer)
    (c.seek_block-step.ensures.met told (c.requires.stands.told c.requires.live told).tied) in
    meets (damage_at (state_of d p).working s.form s.owner s.block) (state_of d p) (state_of d c.end_by_step.new.p) c.end_by_step.result
    (told_met d p s c.end_by_step.result told met) (left g c).works
