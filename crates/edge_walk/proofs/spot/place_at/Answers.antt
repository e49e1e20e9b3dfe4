use Rattle.std.proofs.Common.{◌∙◌, sym, ap}
use Rattle.std.specs.Prelude.{Ok, Err}
use Rattle.std.proofs.lemmas.Result.{err_from_is_err_and}
use Rattle.edge_volume.specs.Stopped.{fault_in}
use Rattle.edge_volume.proofs.LookLaws.{looks_of_call}
use Rattle.edge_walk.proofs.FindLaws.{place_reached}
use Rattle.edge_walk.proofs.TreeLaws.{place_in_tree, undamaged_in_tree}
use Rattle.edge_walk.proofs.spot.place_at.Goals as goal

pub returns-in_err-place-clause-undamaged : goal.returns-in_err-place-clause-undamaged
returns-in_err-place-clause-undamaged g c z stands tree damage e =
    let p = err_from_is_err_and c.from_residual.result c.from_residual.ensures.1 in
    undamaged_in_tree (g.S.Store.state c.args.s.now) c.args.d c.requires.holder.directory (Err c.in_err-place.field-0.0) c.in_err-place.ensures.undamaged
    z stands tree damage (sym (ap fault_in (p.1 ∙ ap Err p.2)) ∙ e)

pub returns-clause-place : goal.returns-clause-place
returns-clause-place g c =
    place_in_tree (g.S.Store.state c.args.s.now) c.args.d c.args.name.now c.in_ok-place.place c.requires.holder.directory c.in_ok-place.ensures.place

pub returns-clause-reached : goal.returns-clause-reached
returns-clause-reached g c =
    let call = c.in_ok-place.ensures in
    place_reached g.S.Store c.args.s.now c.look_up.new.s c.args.d c.args.name.now c.in_ok-place.place
    (looks_of_call g.S.Store c.args.s.now c.look_up.new.s (Ok c.in_ok-place.place) call.called call.point call.reads call.below call.clean call.damage)
    c.requires.holder call.within call.seen call.place
