use Rattle.std.proofs.Common.{◌≡◌, ◌∙◌, ℕ, ◌+◌, ◌≤◌, Bool, true, false, cond, List, [], length, refl, sym, ap, subst, arith, Some, None}
use Rattle.edge_base.specs.commands.Events as event
use Rattle.edge_model.specs.Asking.{closing_points}
use Rattle.edge_model.specs.Run.{closing_state, closing_trees}
use Rattle.edge_model.specs.State.{State, closes_with_point}
use Rattle.edge_mask.specs.Mask.{mask_of}
use Rattle.edge_volume.specs.Volume.{VolumeState, VolumeStands, points_due}
use Rattle.edge_calls.specs.State.{volume_of}
use Rattle.edge_calls.proofs.FinishLaws.{finish_stands, finish_trees, closing_count}
use Rattle.edge_calls.proofs.ask.VolumeAsk.finish.Goals as goal

pub returns-in-Ok-clause-closes : goal.returns-in-Ok-clause-closes
returns-in-Ok-clause-closes g c =
    c.in-Ok.ensures.taken ∙ ap (λ b. (g.S.Store.state c.args.self.now.store).points + points_due b) (c.has.ensures.one event.umount refl)

pub returns-in-Ok-clause-one_point : goal.returns-in-Ok-clause-one_point
returns-in-Ok-clause-one_point g c =
    let is = c.in-Ok.ensures.taken ∙ ap (λ b. (g.S.Store.state c.args.self.now.store).points + points_due b) (c.has.ensures.one event.umount refl) in omega arith

pub returns-in-Ok-clause-come : goal.returns-in-Ok-clause-come
returns-in-Ok-clause-come g c s stands =
    let old = volume_of g.S.Store c.args.self.now in
    let new = volume_of g.S.Store (record c.args.self.now { store = c.take_point.new.s }) in
    let due = c.has.ensures.one event.umount refl in
    record {
      to_state = finish_stands old new c.has.result due s stands refl refl c.in-Ok.ensures.ends (c.in-Ok.ensures.comes s stands.store);
      by_points = c.in-Ok.ensures.taken ∙ ap (λ (n : ℕ). old.store.points + n) (closing_count old c.has.result due s stands);
    }

pub returns-in-Ok-clause-trees : goal.returns-in-Ok-clause-trees
returns-in-Ok-clause-trees g c s stands =
    let old = volume_of g.S.Store c.args.self.now in
    let new = volume_of g.S.Store (record c.args.self.now { store = c.take_point.new.s }) in
    finish_trees old new c.has.result (c.has.ensures.one event.umount refl) s stands None c.in-Ok.ensures.ends (c.in-Ok.ensures.comes s stands.store)

pub returns-in-Err-clause-trees : goal.returns-in-Err-clause-trees
returns-in-Err-clause-trees g c s stands =
    let old = volume_of g.S.Store c.args.self.now in
    let new = volume_of g.S.Store (record c.args.self.now { store = c.take_point.new.s }) in
    finish_trees old new c.has.result (c.has.ensures.one event.umount refl) s stands (Some c.in-Err.fault) c.in-Err.ensures.ends (c.in-Err.ensures.comes s stands.store)
