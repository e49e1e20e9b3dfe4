use Rattle.std.proofs.Common.{◌∙◌, sym, ap, subst}
use Rattle.std.specs.Prelude.{Ok, Err}
use Rattle.std.proofs.lemmas.Result.{err_from_is_err_and}
use Rattle.edge_store.proofs.DamageLaws.{tells_of_inode}
use Rattle.edge_volume.specs.Parts.{Looks}
use Rattle.edge_volume.specs.Stopped.{fault_in}
use Rattle.edge_volume.proofs.LookLaws.{looks_of_call}
use Rattle.edge_volume.proofs.NodeLaws.{meets_undamaged, told_head}
use Rattle.edge_walk.proofs.head.named_head.Goals as goal

pub returns-in_err-head-clause-looks : goal.returns-in_err-head-clause-looks
returns-in_err-head-clause-looks g c =
    let old = g.S.Store.state c.args.s.now in
    let new = g.S.Store.state c.head.new.self in
    let call = c.in_err-head.ensures in
    let p = err_from_is_err_and c.from_residual.result c.from_residual.ensures.1 in
    subst (λ r. Looks g.S.Store (fault_in r) c.args.s.now c.head.new.self) (sym (p.1 ∙ ap Err p.2))
    (looks_of_call g.S.Store c.args.s.now c.head.new.self (Err c.in_err-head.field-0.0) call.called call.point call.reads call.below call.clean
    (λ told. tells_of_inode old new (Err c.in_err-head.field-0.0) call.called call.point c.args.n (g.met.S.Store.working_is_view c.args.s.now told c.requires.live) (call.damage told)))

pub returns-in_err-head-clause-undamaged : goal.returns-in_err-head-clause-undamaged
returns-in_err-head-clause-undamaged g c z stands tree damage e =
    let p = err_from_is_err_and c.from_residual.result c.from_residual.ensures.1 in
    meets_undamaged (g.S.Store.state c.args.s.now) (g.S.Store.state c.head.new.self) c.args.n (Err c.in_err-head.field-0.0) z stands
    (c.in_err-head.ensures.damage stands.told) damage (sym (ap fault_in (p.1 ∙ ap Err p.2)) ∙ e)

pub returns-in-Some-clause-head : goal.returns-in-Some-clause-head
returns-in-Some-clause-head g c z stands tree =
    sym c.in-Some.is ∙ told_head (g.S.Store.state c.args.s.now) (g.S.Store.state c.head.new.self) c.args.n (Ok c.in_ok-head.field-0) c.in_ok-head.ensures.head z stands tree
