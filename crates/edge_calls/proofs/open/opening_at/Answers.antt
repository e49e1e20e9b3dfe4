use Rattle.std.proofs.Common.{◌∙◌, sym, ap, subst}
use Rattle.std.specs.Prelude.{Ok, Err}
use Rattle.std.proofs.lemmas.Result.{err_from_is_err_and}
use Rattle.edge_base.specs.declared.refusal.Refusal.{Refusal}
use Rattle.edge_volume.specs.Parts.{IsOfNoDamage}
use Rattle.edge_volume.specs.Stopped.{fault_of, IfAnswered}
use Rattle.edge_walk.specs.Spots.{spot_in}
use Rattle.edge_walk.specs.declared.spot.Spot.{Spot}
use Rattle.edge_walk.proofs.StillLaws.{on_tree_before}
use Rattle.edge_calls.specs.Openings.{OpensAs}
use Rattle.edge_calls.proofs.OpeningLaws.{opens_bad, opens_unwalked, opens_root, opens_within}
use Rattle.edge_calls.proofs.open.opening_at.Goals as goal

pub returns-then-are_bad_flags-clause-opens : goal.returns-then-are_bad_flags-clause-opens
returns-then-are_bad_flags-clause-opens g c =
    opens_bad (g.S.Store.state c.args.s.now) c.args.handles.now c.args.path.now c.args.flags.now (sym c.are_bad_flags.ensures ∙ c.if-are_bad_flags.true)

pub returns-in_err-spot-clause-undamaged : goal.returns-in_err-spot-clause-undamaged
returns-in_err-spot-clause-undamaged g c z stands tree =
    let p = err_from_is_err_and c.from_residual.result c.from_residual.ensures.1 in
    subst (λ r. IsOfNoDamage (fault_of r)) (sym (p.1 ∙ ap Err p.2)) (c.in_err-spot.ensures.undamaged z stands tree)

pub returns-in_err-spot-clause-opens : goal.returns-in_err-spot-clause-opens
returns-in_err-spot-clause-opens g c =
    let st = g.S.Store.state c.args.s.now in
    let p = err_from_is_err_and c.from_residual.result c.from_residual.ensures.1 in
    subst (λ r. IfAnswered r (OpensAs st c.args.handles.now c.args.path.now c.args.flags.now)) (sym (p.1 ∙ ap Err p.2))
    (opens_unwalked st c.args.handles.now c.args.path.now c.args.flags.now (sym c.are_bad_flags.ensures ∙ c.if-are_bad_flags.false) c.in_err-spot.field-0.0 c.in_err-spot.ensures.spot)

pub returns-in-Top-clause-opens : goal.returns-in-Top-clause-opens
returns-in-Top-clause-opens g c =
    let st = g.S.Store.state c.args.s.now in
    subst (λ (e : Refusal). OpensAs st c.args.handles.now c.args.path.now c.args.flags.now (Err e)) (sym c.root_refusal.ensures)
    (opens_root st c.args.handles.now c.args.path.now c.args.flags.now (sym c.are_bad_flags.ensures ∙ c.if-are_bad_flags.false)
    (λ z stands tree. sym (ap (λ (spot : Spot). Ok (spot_in spot)) c.in-Top.is) ∙ c.in_ok-spot.ensures.spot z stands tree))

pub returns-in-Within-clause-undamaged : goal.returns-in-Within-clause-undamaged
returns-in-Within-clause-undamaged g c =
    on_tree_before g.S.Store c.args.s.now c.spot_at.new.s c.in_ok-spot.ensures.looks (λ t. IsOfNoDamage (fault_of c.opening_in.result)) c.opening_in.ensures.undamaged

pub returns-in-Within-clause-opens : goal.returns-in-Within-clause-opens
returns-in-Within-clause-opens g c =
    opens_within g.S.Store c.args.s.now c.spot_at.new.s c.in_ok-spot.ensures.looks c.args.handles.now c.args.path.now c.in-Within.d c.in-Within.name.now c.args.flags.now
    (sym c.are_bad_flags.ensures ∙ c.if-are_bad_flags.false)
    (λ z stands tree. sym (ap (λ (spot : Spot). Ok (spot_in spot)) c.in-Within.is) ∙ c.in_ok-spot.ensures.spot z stands tree)
    c.opening_in.result c.opening_in.ensures.opens
