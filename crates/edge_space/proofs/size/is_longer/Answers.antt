use Rattle.std.proofs.Common.{◌∙◌, sym, ap}
use Rattle.std.proofs.lemmas.Result.{err_from_is_err_and}
use Rattle.std.specs.Prelude.{Err}
use Rattle.edge_store.proofs.DamageLaws.{tells_of_inode}
use Rattle.edge_tree.proofs.KindLaws.{inode_untangled}
use Rattle.edge_file.proofs.AnswerLaws.{same_fault}
use Rattle.edge_space.proofs.size.is_longer.Goals as goal

pub returns-in_err-head-clause-damage : goal.returns-in_err-head-clause-damage
returns-in_err-head-clause-damage g c told d e =
    let met = c.in_err-head.ensures in
    let p = err_from_is_err_and c.from_residual.result c.from_residual.ensures.1 in
    tells_of_inode _ (g.S.Store.state c.head.new.self) (Err c.in_err-head.field-0.0) met.called met.point c.args.n
    (g.met.S.Store.working_is_view c.args.s.now told c.requires.live) (met.damage told) d (ap Err (sym p.2) ∙ same_fault _ _ (sym p.1 ∙ e))

pub returns-in_err-head-clause-untangled : goal.returns-in_err-head-clause-untangled
returns-in_err-head-clause-untangled g c told d e =
    let old = g.S.Store.state c.args.s.now in
    let met = c.in_err-head.ensures in
    let p = err_from_is_err_and c.from_residual.result c.from_residual.ensures.1 in
    inode_untangled old (g.S.Store.state c.head.new.self) c.args.n (Err c.in_err-head.field-0.0) (g.met.S.Store.working_is_view c.args.s.now told c.requires.live) (met.damage told) d (ap Err (sym p.2) ∙ same_fault _ _ (sym p.1 ∙ e))
