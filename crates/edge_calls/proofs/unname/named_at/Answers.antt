use Rattle.std.proofs.Common.{◌∙◌, Some, None, sym, ap}
use Rattle.std.specs.Prelude.{Err}
use Rattle.std.proofs.lemmas.Result.{err_from_is_err_and}
use Rattle.edge_volume.specs.Parts.{IsOfNoDamage}
use Rattle.edge_volume.specs.Stopped.{fault_of}
use Rattle.edge_volume.proofs.LookLaws.{looks_on}
use Rattle.edge_walk.proofs.StillLaws.{on_tree_before}
use Rattle.edge_calls.proofs.unname.named_at.Goals as goal

pub returns-in_err-head-clause-undamaged : goal.returns-in_err-head-clause-undamaged
returns-in_err-head-clause-undamaged g c z stands tree damage e =
    let p = err_from_is_err_and c.from_residual-in_err-head.result c.from_residual-in_err-head.ensures.1 in
    on_tree_before g.S.Store c.args.s.now c.at_spot.new.s
    (looks_on g.S.Store None c.args.s.now c.spot_at.new.s c.at_spot.new.s c.in_ok-spot.ensures.looks c.in_ok-found.ensures.looks)
    (λ t. IsOfNoDamage (Some c.in_err-head.field-0.0)) c.in_err-head.ensures.undamaged z stands tree damage (sym (ap fault_of (p.1 ∙ ap Err p.2)) ∙ e)
