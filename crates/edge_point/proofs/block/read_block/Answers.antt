use Rattle.std.proofs.Common.{◌≡◌, ◌+◌, Bool, length, sym, subst}
use Rattle.std.specs.Prelude.{OnOk, Result, slice_range}
use Rattle.edge_base.specs.declared.form.Form.TheVariants.{Plain}
use Rattle.edge_store.specs.Damages.{damage_at}
use Rattle.edge_store.specs.State.{Told}
use Rattle.edge_store.specs.Told.{AreBytesOf}
use Rattle.edge_store.specs.View.{bytes_in, content_at}
use Rattle.edge_store.specs.declared.fault.StoreFault.{StoreFault}
use Rattle.edge_point.specs.Blocks.{TellsMet}
use Rattle.edge_point.specs.Seen.{next_view, state_of, view_told}
use Rattle.edge_point.proofs.EndingLaws.{Leaves, leaves, meets, told_after, told_met}
use Rattle.edge_point.proofs.block.read_block.Goals as goal

left : (g : Rattle.edge_point.proofs.block.read_block.Given.Over) (c : goal.After-end_by_step g)
    → Leaves g.D.Disk c.args.p.now c.end_by_step.new.p c.end_by_step.result
left g c = leaves g.D.Disk c.args.p.now c.seek_bytes-step.new.p c.requires.stands c.requires.live
    (g.met.D.Disk.sure_is_shown c.seek_bytes-step.new.p.cache.disk)
    c.end_by_step.new.p c.seek_bytes-step.result c.end_by_step.result c.seek_bytes-step.ensures.sees c.end_by_step.ensures.answer c.end_by_step.ensures.ended

pub returns-clause-stands : goal.returns-clause-stands
returns-clause-stands g c = (left g c).stands

pub returns-clause-called : goal.returns-clause-called
returns-clause-called g c = (left g c).called

pub returns-clause-point : goal.returns-clause-point
returns-clause-point g c = (left g c).point

pub returns-clause-reads : goal.returns-clause-reads
returns-clause-reads g c = (left g c).reads

pub returns-clause-below : goal.returns-clause-below
returns-clause-below g c = (left g c).below

pub returns-clause-clean : goal.returns-clause-clean
returns-clause-clean g c = (left g c).clean

pub returns-clause-damage : goal.returns-clause-damage
returns-clause-damage g c = λ told.
    let d = g.D.Disk in
    let p = c.args.p.now in
    let s = c.args.s in
    let step = c.seek_bytes-step in
    let met : TellsMet (damage_at (next_view d p) s.form s.owner s.block) c.end_by_step.result
    = subst (TellsMet (damage_at (next_view d p) s.form s.owner s.block)) (sym c.end_by_step.ensures.answer)
    (step.ensures.met told (c.requires.stands.told c.requires.live told).tied) in
    meets (damage_at (state_of d p).working s.form s.owner s.block) (state_of d p) (state_of d c.end_by_step.new.p) c.end_by_step.result
    (told_met d p s c.end_by_step.result told met) (left g c).works

pub returns-clause-bytes : goal.returns-clause-bytes
returns-clause-bytes g c =
    let d = g.D.Disk in
    let p = c.args.p.now in
    let s = c.args.s in
    let step = c.seek_bytes-step in
    let until = c.args.at + length c.args.out.now in
    subst (λ (r : Result (Unit {0}) StoreFault). OnOk r (AreBytesOf (state_of d p) s c.args.at until step.new.out)) (sym c.end_by_step.ensures.answer)
    (told_after step.result (Told (state_of d p)) (step.new.out ≡ slice_range (bytes_in (content_at (state_of d p).working Plain s.block)) c.args.at until)
    (λ told. subst (λ (t : Bool). OnOk step.result (step.new.out ≡ slice_range
    (bytes_in (content_at (view_told t (next_view d p)) Plain s.block)) c.args.at until)) (sym told)
    (step.ensures.bytes told (c.requires.stands.told c.requires.live told).tied)))
