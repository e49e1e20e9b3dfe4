use Rattle.std.proofs.Common.{◌≡◌, ◌∙◌, ℕ, ◌+◌, ◌*◌, ◌<◌, [], sym, ap, subst, arith}
use Rattle.std.specs.Prelude.{Err}
use Rattle.std.proofs.lemmas.Result.{err_from_is_err_and}
use Rattle.edge_file.proofs.AnswerLaws.{same_fault}
use Rattle.edge_base.specs.layout.Places.{IsWithinLimits}
use Rattle.edge_base.specs.tree.Slots.{slots_in_block}
use Rattle.edge_store.proofs.CallLaws.{same_below_twice}
use Rattle.edge_cut.proofs.GoLaws.{goes_on_then}
use Rattle.edge_dir.specs.Looked.{AreFilledBefore, IsFirstFreeAt, blocks_below_end}
use Rattle.edge_dir.proofs.DirectoryLaws.{free_is}
use Rattle.edge_dir.proofs.SeenLaws.{all_filled, first_free_of, free_at_end}
use Rattle.edge_dir.proofs.StoreLaws.{count_seen, node_on, seeks_too, told_on}
use Rattle.edge_dir.specs.Bounds.{IsSearchWithin}
use Rattle.edge_dir.proofs.BoundLaws.{end_within, free_within, slot_within_all}
use Rattle.edge_base.specs.layout.Places.{max_blocks_of}
use Rattle.edge_base.specs.outside.Below.{Origin}
use Rattle.edge_dir.proofs.look.free_slot.Goals as goal

end_is : (blocks all in_block n end : ℕ) → blocks ≡ all → in_block ≡ n → end ≡ blocks * in_block + 0 → all * n ≡ end
end_is blocks all in_block n end count width is = (λ t. sym count t * sym width t) ∙ (let e : blocks * in_block ≡ blocks * in_block + 0 = omega arith in e) ∙ sym is

pub loop-i-preserved : goal.loop-i-preserved
loop-i-preserved g c =
    let first = g.S.Store.state c.args.s.now in
    let now = g.S.Store.state c.loop-i.s in
    let read = g.S.Store.state c.seek_in_block.new.s in
    let inv = c.loop-i.invariant in
    let done = c.in_ok-found.ensures in
    let i = c.loop-i.i in
    let r = first.origin.request in
    let n = slots_in_block r in
    let next : (i + 1) * n ≡ i * n + n = grind arith in
    record {
      goes_on = goes_on_then first now read c.in_ok-found.found inv.goes_on done.called done.point;
      reads = record { working = done.reads.working ∙ inv.reads.working; places = done.reads.places ∙ inv.reads.places };
      same_below = λ clean. same_below_twice (inv.same_below clean) (done.below (inv.still_clean clean));
      still_clean = λ clean. done.clean (inv.still_clean clean);
      within = tt;
      seen = λ told.
          let seeks = seeks_too first now c.args.d inv.goes_on.called.origin inv.reads.working i [] c.in_ok-found.found done.seeks told in
          subst (AreFilledBefore r first.working c.args.d) (sym next) (all_filled r first.working c.args.d i seeks.0 seeks.1 c.in_ok-found.found (inv.seen told) seeks.2 (sym c.free_in.ensures ∙ c.in-None.is));
    }

pub returns-clause-seen : goal.returns-clause-seen
returns-clause-seen g c told =
    let first = g.S.Store.state c.args.s.now in
    let r = first.origin.request in
    let width : c.slots_in_block-in_block.result ≡ slots_in_block r = c.slots_in_block-in_block.ensures.count ∙ ap slots_in_block c.geometry-g.ensures in
    let count = count_seen first c.args.d c.in_ok-blocks.blocks c.in_ok-blocks.ensures.blocks told in
    let all : c.loop-i.i ≡ blocks_below_end r first.working c.args.d = omega (arith, count, c.loop-i-test.false, c.loop-i.auto.i-end) in
    let end = ap (λ (x : ℕ). x * slots_in_block r) all in
    subst (IsFirstFreeAt r first.working c.args.d) (end_is _ _ _ _ _ count width c.slot_number-2.ensures)
    (free_at_end r first.working c.args.d (subst (AreFilledBefore r first.working c.args.d) end (c.loop-i.invariant.seen told)))

pub returns-clause-slot : goal.returns-clause-slot
returns-clause-slot g c told slots parent node =
    let first = g.S.Store.state c.args.s.now in
    let limits : IsWithinLimits first.origin.request = subst IsWithinLimits c.geometry-g.ensures c.request-limits.ensures.limits in
    free_is first.origin.request first.working c.args.d slots parent node limits _ (returns-clause-seen g c told)

pub returns-in_err-blocks-clause-undamaged : goal.returns-in_err-blocks-clause-undamaged
returns-in_err-blocks-clause-undamaged g c told slots parent node d e =
    let p = err_from_is_err_and c.from_residual.result c.from_residual.ensures.1 in
    c.in_err-blocks.ensures.undamaged told slots parent node d (ap Err (sym p.2) ∙ same_fault _ _ (sym p.1 ∙ e))

pub returns-in_err-found-clause-undamaged : goal.returns-in_err-found-clause-undamaged
returns-in_err-found-clause-undamaged g c told slots parent node d e =
    let old = g.S.Store.state c.args.s.now in
    let mid = g.S.Store.state c.loop-i.s in
    let p = err_from_is_err_and c.from_residual-in_err-found.result c.from_residual-in_err-found.ensures.1 in
    c.in_err-found.ensures.undamaged (told_on old mid c.args.d c.loop-i.invariant.goes_on.called.origin c.loop-i.invariant.reads.working told) slots parent
    (node_on old mid c.args.d c.loop-i.invariant.goes_on.called.origin c.loop-i.invariant.reads.working slots parent node) d (ap Err (sym p.2) ∙ same_fault _ _ (sym p.1 ∙ e))

pub returns-in-Some-clause-seen : goal.returns-in-Some-clause-seen
returns-in-Some-clause-seen g c told =
    let first = g.S.Store.state c.args.s.now in
    let now = g.S.Store.state c.loop-i.s in
    let inv = c.loop-i.invariant in
    let i = c.loop-i.i in
    let r = first.origin.request in
    let width : c.slots_in_block-in_block.result ≡ slots_in_block r = c.slots_in_block-in_block.ensures.count ∙ ap slots_in_block c.geometry-g.ensures in
    let count = count_seen first c.args.d c.in_ok-blocks.blocks c.in_ok-blocks.ensures.blocks told in
    let seeks = seeks_too first now c.args.d inv.goes_on.called.origin inv.reads.working i [] c.in_ok-found.found c.in_ok-found.ensures.seeks told in
    subst (IsFirstFreeAt r first.working c.args.d) (ap (λ (x : ℕ). i * x + c.in-Some.slot) (sym width) ∙ sym c.slot_number.ensures)
    (first_free_of r first.working c.args.d i seeks.0 seeks.1 c.in_ok-found.found c.in-Some.slot (omega (arith, count, c.loop-i-test.true)) (inv.seen told) seeks.2 (sym c.free_in.ensures ∙ c.in-Some.is))

pub returns-in-Some-clause-slot : goal.returns-in-Some-clause-slot
returns-in-Some-clause-slot g c told slots parent node =
    let first = g.S.Store.state c.args.s.now in
    let limits : IsWithinLimits first.origin.request = subst IsWithinLimits c.geometry-g.ensures c.request-limits.ensures.limits in
    free_is first.origin.request first.working c.args.d slots parent node limits _ (returns-in-Some-clause-seen g c told)

pub returns-in-Some-clause-most : goal.returns-in-Some-clause-most
returns-in-Some-clause-most g c =
    let r = (g.S.Store.state c.args.s.now).origin.request in
    let i = c.loop-i.i in
    let width : c.slots_in_block-in_block.result ≡ slots_in_block r = c.slots_in_block-in_block.ensures.count ∙ ap slots_in_block c.geometry-g.ensures in
    let low : i < max_blocks_of r = (let most = c.in_ok-blocks.ensures.most in omega (arith, most, c.loop-i-test.true)) in
    let search = subst (λ (o : Origin). IsSearchWithin o.request c.in_ok-found.found) c.loop-i.invariant.goes_on.called.origin c.in_ok-found.ensures.within in
    let inner = free_within r c.in_ok-found.found c.in-Some.slot search (sym c.free_in.ensures ∙ c.in-Some.is) in
    let all = slot_within_all r i c.slots_in_block-in_block.result c.in-Some.slot c.slot_number.result low width inner c.slot_number.ensures in
    omega (arith, all)

pub returns-clause-most : goal.returns-clause-most
returns-clause-most g c =
    let r = (g.S.Store.state c.args.s.now).origin.request in
    let width : c.slots_in_block-in_block.result ≡ slots_in_block r = c.slots_in_block-in_block.ensures.count ∙ ap slots_in_block c.geometry-g.ensures in
    end_within r c.in_ok-blocks.blocks c.slots_in_block-in_block.result c.slot_number-2.result c.in_ok-blocks.ensures.most width c.slot_number-2.ensures
