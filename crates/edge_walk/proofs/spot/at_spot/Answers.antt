use Rattle.std.proofs.Common.{◌∙◌, ◌≤◌, sym, ap, subst}
use Rattle.std.specs.Prelude.{Ok, Err}
use Rattle.std.proofs.lemmas.Result.{err_from_is_err_and}
use Rattle.edge_base.specs.declared.geometry.Request.{Request}
use Rattle.edge_model.specs.Walk.{at_spot}
use Rattle.edge_volume.specs.Stopped.{fault_in}
use Rattle.edge_volume.proofs.LookLaws.{looks_of_call}
use Rattle.edge_walk.specs.Spots.{HasHolder, spot_in}
use Rattle.edge_walk.specs.declared.spot.Spot.{Spot}
use Rattle.edge_walk.proofs.FindLaws.{each_reached}
use Rattle.edge_walk.proofs.TreeLaws.{found_in_tree, reached_root, undamaged_in_tree}
use Rattle.edge_walk.proofs.spot.at_spot.Goals as goal

pub returns-in-Top-clause-reached : goal.returns-in-Top-clause-reached
returns-in-Top-clause-reached g c =
    reached_root (g.S.Store.state c.args.s.now)
    (subst (λ (r : Request). 1 ≤ r.inodes) c.geometry.ensures c.request-within_limits.ensures.limits.some_inode)

pub returns-in_err-found-in-Within-clause-undamaged : goal.returns-in_err-found-in-Within-clause-undamaged
returns-in_err-found-in-Within-clause-undamaged g c z stands tree damage e =
    let st = g.S.Store.state c.args.s.now in
    let p = err_from_is_err_and c.from_residual.result c.from_residual.ensures.1 in
    let holder = subst (HasHolder st) c.in-Within.is c.requires.holder in
    undamaged_in_tree st c.in-Within.d holder.directory (Err c.in_err-found-in-Within.field-0.0) c.in_err-found-in-Within.ensures.undamaged
    z stands tree damage (sym (ap fault_in (p.1 ∙ ap Err p.2)) ∙ e)

pub returns-in_ok-found-in-Within-clause-found : goal.returns-in_ok-found-in-Within-clause-found
returns-in_ok-found-in-Within-clause-found g c z stands tree =
    let st = g.S.Store.state c.args.s.now in
    let holder = subst (HasHolder st) c.in-Within.is c.requires.holder in
    let found = c.in_ok-found-in-Within in
    sym (found_in_tree st c.in-Within.d c.in-Within.name.now found.found holder.directory found.ensures.found z stands tree)
    ∙ ap (λ (spot : Spot). at_spot z.tree (spot_in spot)) (sym c.in-Within.is)

pub returns-in_ok-found-in-Within-clause-reached : goal.returns-in_ok-found-in-Within-clause-reached
returns-in_ok-found-in-Within-clause-reached g c =
    let st = g.S.Store.state c.args.s.now in
    let holder = subst (HasHolder st) c.in-Within.is c.requires.holder in
    let found = c.in_ok-found-in-Within in
    let call = found.ensures in
    each_reached g.S.Store c.args.s.now c.find.new.s c.in-Within.d c.in-Within.name.now found.found
    (looks_of_call g.S.Store c.args.s.now c.find.new.s (Ok found.found) call.called call.point call.reads call.below call.clean call.damage)
    holder call.within call.seen call.found
