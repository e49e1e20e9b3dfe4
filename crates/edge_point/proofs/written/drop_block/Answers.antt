use Rattle.std.proofs.Common.{false, ◌∙◌, subst}
use Rattle.edge_store.specs.Damages.{damage_at}
use Rattle.edge_store.specs.View.{View}
use Rattle.edge_point.specs.Seen.{state_of}
use Rattle.edge_point.specs.Uses.{UseSet}
use Rattle.edge_point.proofs.AnswerLaws.{allocable_mid, called_then, keeps_then, told_mid}
use Rattle.edge_point.proofs.PlacedLaws.{ok_map}
use Rattle.edge_point.proofs.EffectLaws.{dropped_of, meets_as, meets_then}
use Rattle.edge_point.proofs.FindLaws.{err_is}
use Rattle.edge_point.proofs.FoundLaws.{called_err}
use Rattle.edge_point.proofs.written.drop_block.Goals as goal

pub returns-in_err-look-clause-called : goal.returns-in_err-look-clause-called
returns-in_err-look-clause-called g c = called_err (state_of g.D.Disk c.args.p.now) (state_of g.D.Disk c.look.new.p) c.look.result _ c.in_err-look.field-0.0
    c.look.ensures.called c.in_err-look.was (err_is _ _ c.from_residual.ensures)

pub returns-in_err-look-clause-damage : goal.returns-in_err-look-clause-damage
returns-in_err-look-clause-damage g c = λ told.
    let s = state_of g.D.Disk c.args.p.now in
    meets_as (damage_at s.working c.args.s.form c.args.s.owner c.args.s.block) s (state_of g.D.Disk c.look.new.p) c.look.result _ c.in_err-look.field-0.0
    (c.look.ensures.damage told) c.in_err-look.was (err_is _ _ c.from_residual.ensures)

pub set_use-requires-clause-live : goal.set_use-requires-clause-live
set_use-requires-clause-live g c = c.in_ok-look.ensures.called.live

pub set_use-requires-clause-block : goal.set_use-requires-clause-block
set_use-requires-clause-block g c = allocable_mid (state_of g.D.Disk c.args.p.now) (state_of g.D.Disk c.look.new.p) c.look.ensures.called.origin
    c.args.s.block c.requires.block

pub returns-clause-called : goal.returns-clause-called
returns-clause-called g c = called_then (state_of g.D.Disk c.args.p.now) (state_of g.D.Disk c.look.new.p) (state_of g.D.Disk c.set_use.new.p) tt
    c.set_use.result
    c.in_ok-look.ensures.called c.set_use.ensures.called

pub returns-clause-point : goal.returns-clause-point
returns-clause-point g c = keeps_then (state_of g.D.Disk c.args.p.now) (state_of g.D.Disk c.look.new.p) (state_of g.D.Disk c.set_use.new.p)
    c.look.ensures.point c.set_use.ensures.point

pub returns-clause-damage : goal.returns-clause-damage
returns-clause-damage g c = λ told.
    let s = state_of g.D.Disk c.args.p.now in
    let m = state_of g.D.Disk c.look.new.p in
    meets_then (damage_at s.working c.args.s.form c.args.s.owner c.args.s.block) s m (state_of g.D.Disk c.set_use.new.p) tt c.set_use.result
    (c.in_ok-look.ensures.damage told) (c.set_use.ensures.undamaged (told_mid s m c.look.ensures.called.origin told))

pub returns-clause-places : goal.returns-clause-places
returns-clause-places g c = ok_map c.set_use.result (λ e. e ∙ c.look.ensures.working.places) c.set_use.ensures.places

pub returns-clause-dropped : goal.returns-clause-dropped
returns-clause-dropped g c =
    let s = state_of g.D.Disk c.args.p.now in
    let m = state_of g.D.Disk c.look.new.p in
    let n = state_of g.D.Disk c.set_use.new.p in
    ok_map c.set_use.result (λ set told. dropped_of s.working n.working c.args.s.block
    (subst (λ (v : View). UseSet v n.working c.args.s.block false) c.look.ensures.working.working
    (set (told_mid s m c.look.ensures.called.origin told)))) c.set_use.ensures.set
