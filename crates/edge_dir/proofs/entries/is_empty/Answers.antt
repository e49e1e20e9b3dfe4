use Rattle.std.proofs.Common.{◌∙◌, ◌==◌, ℕ, sym, ap, subst}
use Rattle.std.specs.Prelude.{Err}
use Rattle.std.proofs.lemmas.Result.{err_from_is_err_and}
use Rattle.edge_file.proofs.AnswerLaws.{same_fault}
use Rattle.edge_base.specs.layout.Places.{IsWithinLimits}
use Rattle.edge_dir.proofs.DirectoryLaws.{none_is_empty}
use Rattle.edge_dir.proofs.StoreLaws.{count_seen}
use Rattle.edge_dir.proofs.entries.is_empty.Goals as goal

pub returns-clause-seen : goal.returns-clause-seen
returns-clause-seen g c told = ap (λ (x : ℕ). x == 0) (count_seen (g.S.Store.state c.args.s.now) c.args.d c.in_ok-blocks.blocks c.in_ok-blocks.ensures.blocks told)

pub returns-clause-empty : goal.returns-clause-empty
returns-clause-empty g c told slots parent node =
    let old = g.S.Store.state c.args.s.now in
    let limits : IsWithinLimits old.origin.request = subst IsWithinLimits c.geometry.ensures c.request-within_limits.ensures.limits in
    returns-clause-seen g c told ∙ none_is_empty old.origin.request old.working c.args.d slots parent node limits

pub returns-in_err-blocks-clause-undamaged : goal.returns-in_err-blocks-clause-undamaged
returns-in_err-blocks-clause-undamaged g c told slots parent node d e =
    let p = err_from_is_err_and c.from_residual.result c.from_residual.ensures.1 in
    c.in_err-blocks.ensures.undamaged told slots parent node d (ap Err (sym p.2) ∙ same_fault _ _ (sym p.1 ∙ e))
