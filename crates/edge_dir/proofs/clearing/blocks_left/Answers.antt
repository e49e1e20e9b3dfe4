use Rattle.std.proofs.Common.{◌≡◌, ◌∙◌, ℕ, ◌+◌, ◌-◌, ◌*◌, ◌<◌, ◌≤◌, Some, None, sym, ap, subst, arith}
use Rattle.std.specs.Prelude.{Err}
use Rattle.std.proofs.lemmas.Result.{err_from_is_err_and}
use Rattle.edge_base.specs.tree.Slots.{slots_in_block}
use Rattle.edge_store.proofs.CallLaws.{same_below_twice}
use Rattle.edge_cut.proofs.GoLaws.{goes_on_then}
use Rattle.edge_slots.specs.Block.{IsLastFilled}
use Rattle.edge_file.proofs.AnswerLaws.{same_fault}
use Rattle.edge_dir.specs.Cleared.{AreBlocksLeft}
use Rattle.edge_dir.specs.Directory.{IsLastIn}
use Rattle.edge_dir.specs.Looked.{HasSlot}
use Rattle.edge_dir.proofs.KeptLaws.{more_empty, some_left}
use Rattle.edge_dir.proofs.StoreLaws.{last_too, node_on, told_on}
use Rattle.edge_dir.proofs.clearing.blocks_left.Goals as goal

pub returns-in_err-found-clause-undamaged : goal.returns-in_err-found-clause-undamaged
returns-in_err-found-clause-undamaged g c told slots parent node d e =
    let old = g.S.Store.state c.args.s.now in
    let mid = g.S.Store.state c.loop-left.s in
    let inv = c.loop-left.invariant in
    let p = err_from_is_err_and c.from_residual.result c.from_residual.ensures.1 in
    c.in_err-found.ensures.undamaged (told_on old mid c.args.d inv.goes_on.called.origin inv.reads.working told) slots parent
    (node_on old mid c.args.d inv.goes_on.called.origin inv.reads.working slots parent node) d (ap Err (sym p.2) ∙ same_fault _ _ (sym p.1 ∙ e))

pub returns-in-Some-clause-left : goal.returns-in-Some-clause-left
returns-in-Some-clause-left g c told =
    let first = g.S.Store.state c.args.s.now in
    let now = g.S.Store.state c.loop-left.s in
    let inv = c.loop-left.invariant in
    let i = c.loop-left.left - 1 in
    let r = first.origin.request in
    let b = c.slots_in_block-in_block.result in
    let k = c.in-Some.field-0 in
    let width : b ≡ slots_in_block r = c.slots_in_block-in_block.ensures.count ∙ ap slots_in_block c.geometry.ensures in
    let next : c.loop-left.left ≡ i + 1 = omega (arith, c.loop-left-test.true) in
    let here : IsLastIn now c.args.d i b (Some k) = subst (IsLastIn now c.args.d i b) c.in-Some.is c.in_ok-found.ensures.last in
    let last = last_too first now c.args.d inv.goes_on.called.origin inv.reads.working i b (Some k) here told in
    subst (AreBlocksLeft r first.working c.args.d c.args.count) (sym next)
    (some_left r first.working c.args.d c.args.count i last.0 k last.1 (omega (arith, next, inv.within)) (subst (λ (m : ℕ). IsLastFilled r last.0 m (Some k)) width last.2)
    (subst (λ (m : ℕ). (j : ℕ) → m * slots_in_block r ≤ j → j < c.args.count * slots_in_block r → HasSlot r first.working c.args.d j None) next (inv.seen told)))

pub loop-left-preserved : goal.loop-left-preserved
loop-left-preserved g c =
    let first = g.S.Store.state c.args.s.now in
    let now = g.S.Store.state c.loop-left.s in
    let read = g.S.Store.state c.last_in_block.new.s in
    let inv = c.loop-left.invariant in
    let done = c.in_ok-found.ensures in
    let i = c.loop-left.left - 1 in
    let r = first.origin.request in
    let b = c.slots_in_block-in_block.result in
    let width : b ≡ slots_in_block r = c.slots_in_block-in_block.ensures.count ∙ ap slots_in_block c.geometry.ensures in
    let next : c.loop-left.left ≡ i + 1 = omega (arith, c.loop-left-test.true) in
    record {
      goes_on = goes_on_then first now read c.in_ok-found.found inv.goes_on done.called done.point;
      reads = record { working = done.reads.working ∙ inv.reads.working; places = done.reads.places ∙ inv.reads.places };
      same_below = λ clean. same_below_twice (inv.same_below clean) (done.below (inv.still_clean clean));
      still_clean = λ clean. done.clean (inv.still_clean clean);
      within = omega (arith, inv.within);
      seen = λ told.
          let here : IsLastIn now c.args.d i b None = subst (IsLastIn now c.args.d i b) c.in-None.is done.last in
          let last = last_too first now c.args.d inv.goes_on.called.origin inv.reads.working i b None here told in
          more_empty r first.working c.args.d c.args.count i last.0 last.1 (subst (λ (m : ℕ). IsLastFilled r last.0 m None) width last.2)
          (subst (λ (m : ℕ). (j : ℕ) → m * slots_in_block r ≤ j → j < c.args.count * slots_in_block r → HasSlot r first.working c.args.d j None) next (inv.seen told));
    }
