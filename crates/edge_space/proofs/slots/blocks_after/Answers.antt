use Rattle.std.proofs.Common.{◌∙◌, sym, ap, subst}
use Rattle.std.specs.Prelude.{Err}
use Rattle.std.proofs.lemmas.Result.{err_from_is_err_and}
use Rattle.edge_base.specs.layout.Places.{IsWithinLimits}
use Rattle.edge_file.proofs.AnswerLaws.{same_fault}
use Rattle.edge_space.specs.Slots.{blocks_with}
use Rattle.edge_space.proofs.LeftLaws.{left_is}
use Rattle.edge_space.proofs.slots.blocks_after.Goals as goal

pub returns-in_err-blocks-clause-undamaged : goal.returns-in_err-blocks-clause-undamaged
returns-in_err-blocks-clause-undamaged g c told shaped sound d e =
    let p = err_from_is_err_and c.from_residual.result c.from_residual.ensures.1 in
    c.in_err-blocks.ensures.undamaged told sound.0 sound.1 sound.2 d (ap Err (sym p.2) ∙ same_fault _ _ (sym p.1 ∙ e))

pub returns-clause-left : goal.returns-clause-left
returns-clause-left g c told left is =
    let old = g.S.Store.state c.args.s.now in
    let r = old.origin.request in
    let limits : IsWithinLimits r = subst IsWithinLimits c.geometry-g.ensures c.request-within_limits.ensures.limits in
    let alone = left_is r old.working c.args.put c.args.clear left limits is in
    let blocks = c.in_ok-blocks.ensures.left told is.slots is.parent is.node alone.without.after alone.without.trim is.in_range alone.without.is_set in
    c.blocks_with.ensures.count ∙ (λ i. blocks_with (c.geometry-g.ensures i) c.args.put c.args.clear.dir (blocks i)) ∙ sym alone.is_left
