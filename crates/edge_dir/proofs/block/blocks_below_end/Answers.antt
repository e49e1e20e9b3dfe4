use Rattle.std.proofs.Common.{◌≡◌, ◌∙◌, ◌≤◌, Some, sym, ap, subst}
use Rattle.std.proofs.lemmas.Result.{err_from_is_err_and}
use Rattle.std.specs.Prelude.{Err}
use Rattle.edge_base.specs.declared.geometry.Request.{Request}
use Rattle.edge_base.specs.declared.node.Head.{Head}
use Rattle.edge_base.specs.layout.Places.{max_blocks_of}
use Rattle.edge_base.specs.outside.Below.{Origin}
use Rattle.edge_base.specs.tree.Slots.{pieces}
use Rattle.edge_moves.proofs.SlotLaws.{some_pointers_fit}
use Rattle.edge_file.proofs.AnswerLaws.{same_fault}
use Rattle.edge_file.proofs.StepLaws.{some_bytes}
use Rattle.edge_dir.proofs.ViewLaws.{sized}
use Rattle.edge_dir.proofs.block.blocks_below_end.Goals as goal

pub returns-in_err-head-clause-undamaged : goal.returns-in_err-head-clause-undamaged
returns-in_err-head-clause-undamaged g c told slots parent node d e =
    let old = g.S.Store.state c.args.s.now in
    let r = old.origin.request in
    let some = some_bytes r (some_pointers_fit r (g.met.S.Store.is_geometry c.args.s.now)) in
    let p = err_from_is_err_and c.from_residual.result c.from_residual.ensures.1 in
    c.in_err-head.ensures.undamaged told (sized r old.working c.args.d slots parent node some) d (ap Err (sym p.2) ∙ same_fault _ _ (sym p.1 ∙ e))

pub returns-clause-most : goal.returns-clause-most
returns-clause-most g c =
    let same = c.geometry.ensures ∙ ap (λ (o : Origin). o.request) c.in_ok-head.ensures.called.origin in
    subst (λ (r : Request). c.block_count.result ≤ max_blocks_of r) same c.block_count.ensures.low

pub returns-clause-blocks : goal.returns-clause-blocks
returns-clause-blocks g c told =
    let same = c.geometry.ensures ∙ ap (λ (o : Origin). o.request) c.in_ok-head.ensures.called.origin in
    let first = c.in_ok-head.ensures in
    let asked = c.requires.directory told in
    let both : Some asked.0 ≡ Some c.in_ok-head.head = sym asked.1 ∙ first.head told in
    let one : asked.0 ≡ c.in_ok-head.head = cc in (
      c.in_ok-head.head,
      first.head told,
      ap (λ (h : Head). h.kind) (sym one) ∙ asked.2,
      c.block_count.ensures.count ∙ ap (λ (r : Request). pieces r.block_size c.in_ok-head.head.size) same,
    )
