use Rattle.std.proofs.Common.{◌≡◌, ◌∙◌, Some, None, refl, sym, ap, subst}
use Rattle.std.specs.Prelude.{Ok, Err}
use Rattle.std.proofs.lemmas.Result.{err_from_is_err_and}
use Rattle.edge_base.specs.outside.Below.{Origin}
use Rattle.edge_model.specs.Asked as command
use Rattle.edge_volume.specs.Nodes.{OnTree, head_at}
use Rattle.edge_volume.specs.Parts.{IsOfNoDamage}
use Rattle.edge_volume.specs.Did.{Did}
use Rattle.edge_volume.proofs.LookLaws.{looks_on}
use Rattle.edge_walk.proofs.StillLaws.{on_tree_before}
use Rattle.edge_calls.specs.State.{volume_of}
use Rattle.edge_calls.proofs.PathLaws.{stat_unreached, stat_ended, stat_told}
use Rattle.edge_calls.proofs.volume.Volume.stat.Goals as goal

pub returns-in_err-number-clause-did : goal.returns-in_err-number-clause-did
returns-in_err-number-clause-did g c out =
    let old = volume_of g.S.Store c.args.self.now in
    let new = volume_of g.S.Store (record c.args.self.now { store = c.reach.new.s }) in
    let reached = c.in_err-number.ensures in
    let p = err_from_is_err_and c.from_residual.result c.from_residual.ensures.1 in
    subst (λ r. Did (command.stat c.args.path.now) r old new out) (sym (p.1 ∙ ap Err p.2))
    (stat_unreached c.args.path.now old new out refl refl c.in_err-number.field-0.0 reached.looks.ends reached.looks.point reached.looks.reads reached.undamaged reached.number)

pub returns-in_err-head-clause-did : goal.returns-in_err-head-clause-did
returns-in_err-head-clause-did g c out =
    let old = volume_of g.S.Store c.args.self.now in
    let new = volume_of g.S.Store (record c.args.self.now { store = c.named_head.new.s }) in
    let reached = c.in_ok-number.ensures in
    let fault = c.in_err-head.field-0.0 in
    let looks = looks_on g.S.Store (Some fault) c.args.self.now.store c.reach.new.s c.named_head.new.s reached.looks c.in_err-head.ensures.looks in
    let p = err_from_is_err_and c.from_residual-in_err-head.result c.from_residual-in_err-head.ensures.1 in
    subst (λ r. Did (command.stat c.args.path.now) r old new out) (sym (p.1 ∙ ap Err p.2))
    (stat_ended c.args.path.now old new out refl refl fault looks.ends looks.point
    (on_tree_before g.S.Store c.args.self.now.store c.reach.new.s reached.looks (λ t. IsOfNoDamage (Some fault)) c.in_err-head.ensures.undamaged))

pub returns-clause-did : goal.returns-clause-did
returns-clause-did g c out =
    let old = volume_of g.S.Store c.args.self.now in
    let new = volume_of g.S.Store (record c.args.self.now { store = c.named_head.new.s }) in
    let reached = c.in_ok-number.ensures in
    let n = c.in_ok-number.number in
    let head = c.in_ok-head.head in
    let looks = looks_on g.S.Store None c.args.self.now.store c.reach.new.s c.named_head.new.s reached.looks c.in_ok-head.ensures.looks in
    subst (λ answer. Did (command.stat c.args.path.now) (Ok answer) old new out) (sym c.told.ensures)
    (stat_told c.args.path.now old new out refl refl looks.ends looks.point (looks.reads refl) n head reached.number
    (subst (λ (o : Origin). OnTree old.store (λ t. Some head ≡ head_at o.request t n)) reached.looks.ends.origin
    (on_tree_before g.S.Store c.args.self.now.store c.reach.new.s reached.looks (λ t. Some head ≡ head_at (g.S.Store.state c.reach.new.s).origin.request t n)
    c.in_ok-head.ensures.head)))
