use Rattle.std.proofs.Common.{◌≡◌, ◌∙◌, ℕ, ◌+◌, ◌*◌, ◌<◌, sym, ap, subst, arith}
use Rattle.std.specs.Prelude.{Err}
use Rattle.std.proofs.lemmas.Result.{err_from_is_err_and}
use Rattle.edge_file.proofs.AnswerLaws.{same_fault}
use Rattle.edge_base.specs.layout.Places.{IsWithinLimits}
use Rattle.edge_base.specs.tree.Slots.{slots_in_block}
use Rattle.edge_store.proofs.CallLaws.{same_below_twice}
use Rattle.edge_cut.proofs.GoLaws.{goes_on_then}
use Rattle.edge_slots.specs.declared.block.Search.TheVariants.{Found, Missing}
use Rattle.edge_dir.specs.Directory.{earlier, SeeksIn}
use Rattle.edge_dir.specs.Looked.{IsFirstNamedAt, IsFirstFreeAt, LacksBefore, blocks_below_end, slots_below_end}
use Rattle.edge_dir.proofs.DirectoryLaws.{free_is, named_is, no_name_is}
use Rattle.edge_dir.proofs.SeenLaws.{IsFreeSoFar, first_named_here, free_at_end, free_more, free_there, lacks_more}
use Rattle.edge_dir.proofs.StoreLaws.{count_seen, node_on, seeks_too, told_on}
use Rattle.edge_dir.specs.Bounds.{IsBelow, IsSearchWithin, max_slots_of}
use Rattle.edge_dir.proofs.BoundLaws.{earlier_within, end_within, named_within}
use Rattle.edge_base.specs.layout.Places.{max_blocks_of}
use Rattle.edge_base.specs.outside.Below.{Origin}
use Rattle.edge_dir.proofs.look.look_up.Goals as goal

end_is : (blocks all in_block n end : ℕ) → blocks ≡ all → in_block ≡ n → end ≡ blocks * in_block + 0 → all * n ≡ end
end_is blocks all in_block n end count width is = (λ t. sym count t * sym width t) ∙ (let e : blocks * in_block ≡ blocks * in_block + 0 = omega arith in e) ∙ sym is

pub loop-i-preserved : goal.loop-i-preserved
loop-i-preserved g c =
    let first = g.S.Store.state c.args.s.now in
    let now = g.S.Store.state c.loop-i.s in
    let read = g.S.Store.state c.seek_in_block.new.s in
    let inv = c.loop-i.invariant in
    let done = c.in_ok-found.ensures in
    let i = c.loop-i.i in
    let r = first.origin.request in
    let n = slots_in_block r in
    let next : (i + 1) * n ≡ i * n + n = grind arith in
    let width : c.slots_in_block-in_block.result ≡ n = c.slots_in_block-in_block.ensures.count ∙ ap slots_in_block c.geometry-g.ensures in
    record {
      goes_on = goes_on_then first now read c.in_ok-found.found inv.goes_on done.called done.point;
      reads = record { working = done.reads.working ∙ inv.reads.working; places = done.reads.places ∙ inv.reads.places };
      same_below = λ clean. same_below_twice (inv.same_below clean) (done.below (inv.still_clean clean));
      still_clean = λ clean. done.clean (inv.still_clean clean);
      within =
          let search = subst (IsSearchWithin r) c.in-Missing.is (subst (λ (o : Origin). IsSearchWithin o.request c.in_ok-found.found) inv.goes_on.called.origin done.within) in
          subst (IsBelow (max_slots_of r)) (sym c.earlier-free.ensures.slot)
          (earlier_within r i c.slots_in_block-in_block.result c.loop-i.free c.in-Missing.here (let most = c.in_ok-blocks.ensures.most in omega (arith, most, c.loop-i-test.true)) width inv.within search);
      seen = λ told.
          let so = inv.seen told in
          let seeks = seeks_too first now c.args.d inv.goes_on.called.origin inv.reads.working i c.args.name.now (Missing c.in-Missing.here)
          (subst (SeeksIn now c.args.d i c.args.name.now) c.in-Missing.is done.seeks) told in
          let lacks = lacks_more r first.working c.args.d i seeks.0 seeks.1 n c.args.name.now (omega arith) so.0 seeks.2.lacks in
          let free = free_more r first.working c.args.d i seeks.0 seeks.1 c.loop-i.free c.in-Missing.here so.1 seeks.2.first_empty in (
            subst (LacksBefore r first.working c.args.d c.args.name.now) (sym next) lacks,
            subst (λ (k : ℕ). IsFreeSoFar r first.working c.args.d k c.earlier-free.result) (sym next)
                (subst (IsFreeSoFar r first.working c.args.d (i * n + n)) (ap (λ (x : ℕ). earlier c.loop-i.free (i * x) c.in-Missing.here) (sym width) ∙ sym c.earlier-free.ensures.slot) free),
          );
    }

pub returns-in-Found-clause-seen : goal.returns-in-Found-clause-seen
returns-in-Found-clause-seen g c told =
    let first = g.S.Store.state c.args.s.now in
    let now = g.S.Store.state c.loop-i.s in
    let inv = c.loop-i.invariant in
    let i = c.loop-i.i in
    let r = first.origin.request in
    let width : c.slots_in_block-in_block.result ≡ slots_in_block r = c.slots_in_block-in_block.ensures.count ∙ ap slots_in_block c.geometry-g.ensures in
    let count = count_seen first c.args.d c.in_ok-blocks.blocks c.in_ok-blocks.ensures.blocks told in
    let seeks = seeks_too first now c.args.d inv.goes_on.called.origin inv.reads.working i c.args.name.now (Found c.in-Found.slot c.in-Found.number)
    (subst (SeeksIn now c.args.d i c.args.name.now) c.in-Found.is c.in_ok-found.ensures.seeks) told in
    subst (λ (x : ℕ). IsFirstNamedAt r first.working c.args.d c.args.name.now x c.in-Found.number)
    (ap (λ (x : ℕ). i * x + c.in-Found.slot) (sym width) ∙ sym c.slot_number-slot.ensures)
    (first_named_here r first.working c.args.d i seeks.0 seeks.1 c.args.name.now c.in-Found.slot c.in-Found.number (omega (arith, count, c.loop-i-test.true)) (inv.seen told).0 seeks.2)

pub returns-in-Found-clause-place : goal.returns-in-Found-clause-place
returns-in-Found-clause-place g c told slots parent node =
    let first = g.S.Store.state c.args.s.now in
    let limits : IsWithinLimits first.origin.request = subst IsWithinLimits c.geometry-g.ensures c.request-limits.ensures.limits in
    named_is first.origin.request first.working c.args.d slots parent node limits c.args.name.now _ c.in-Found.number (returns-in-Found-clause-seen g c told)

pub returns-in-Some-clause-seen : goal.returns-in-Some-clause-seen
returns-in-Some-clause-seen g c told =
    let first = g.S.Store.state c.args.s.now in
    let r = first.origin.request in
    let so = c.loop-i.invariant.seen told in
    let count = count_seen first c.args.d c.in_ok-blocks.blocks c.in_ok-blocks.ensures.blocks told in
    let all : c.loop-i.i ≡ blocks_below_end r first.working c.args.d = omega (arith, count, c.loop-i-test.false, c.loop-i.auto.i-end) in
    let end = ap (λ (x : ℕ). x * slots_in_block r) all in (
      subst (LacksBefore r first.working c.args.d c.args.name.now) end so.0,
      free_there r first.working c.args.d c.in-Some.slot
          (subst (IsFreeSoFar r first.working c.args.d (slots_below_end r first.working c.args.d)) c.in-Some.is (subst (λ (x : ℕ). IsFreeSoFar r first.working c.args.d x c.loop-i.free) end so.1)),
    )

pub returns-in-Some-clause-place : goal.returns-in-Some-clause-place
returns-in-Some-clause-place g c told slots parent node =
    let first = g.S.Store.state c.args.s.now in
    let limits : IsWithinLimits first.origin.request = subst IsWithinLimits c.geometry-g.ensures c.request-limits.ensures.limits in
    let seen = returns-in-Some-clause-seen g c told in (
      no_name_is first.origin.request first.working c.args.d slots parent node limits c.args.name.now seen.0,
      free_is first.origin.request first.working c.args.d slots parent node limits _ seen.1,
    )

pub returns-in-None-clause-seen : goal.returns-in-None-clause-seen
returns-in-None-clause-seen g c told =
    let first = g.S.Store.state c.args.s.now in
    let r = first.origin.request in
    let so = c.loop-i.invariant.seen told in
    let width : c.slots_in_block-in_block.result ≡ slots_in_block r = c.slots_in_block-in_block.ensures.count ∙ ap slots_in_block c.geometry-g.ensures in
    let count = count_seen first c.args.d c.in_ok-blocks.blocks c.in_ok-blocks.ensures.blocks told in
    let all : c.loop-i.i ≡ blocks_below_end r first.working c.args.d = omega (arith, count, c.loop-i-test.false, c.loop-i.auto.i-end) in
    let end = ap (λ (x : ℕ). x * slots_in_block r) all in (
      subst (LacksBefore r first.working c.args.d c.args.name.now) end so.0,
      subst (IsFirstFreeAt r first.working c.args.d) (end_is _ _ _ _ _ count width c.slot_number.ensures)
          (free_at_end r first.working c.args.d
          (subst (IsFreeSoFar r first.working c.args.d (slots_below_end r first.working c.args.d)) c.in-None.is (subst (λ (x : ℕ). IsFreeSoFar r first.working c.args.d x c.loop-i.free) end so.1))),
    )

pub returns-in-None-clause-place : goal.returns-in-None-clause-place
returns-in-None-clause-place g c told slots parent node =
    let first = g.S.Store.state c.args.s.now in
    let limits : IsWithinLimits first.origin.request = subst IsWithinLimits c.geometry-g.ensures c.request-limits.ensures.limits in
    let seen = returns-in-None-clause-seen g c told in (
      no_name_is first.origin.request first.working c.args.d slots parent node limits c.args.name.now seen.0,
      free_is first.origin.request first.working c.args.d slots parent node limits _ seen.1,
    )

pub returns-in_err-blocks-clause-undamaged : goal.returns-in_err-blocks-clause-undamaged
returns-in_err-blocks-clause-undamaged g c told slots parent node d e =
    let p = err_from_is_err_and c.from_residual.result c.from_residual.ensures.1 in
    c.in_err-blocks.ensures.undamaged told slots parent node d (ap Err (sym p.2) ∙ same_fault _ _ (sym p.1 ∙ e))

pub returns-in_err-found-clause-undamaged : goal.returns-in_err-found-clause-undamaged
returns-in_err-found-clause-undamaged g c told slots parent node d e =
    let old = g.S.Store.state c.args.s.now in
    let mid = g.S.Store.state c.loop-i.s in
    let p = err_from_is_err_and c.from_residual-in_err-found.result c.from_residual-in_err-found.ensures.1 in
    c.in_err-found.ensures.undamaged (told_on old mid c.args.d c.loop-i.invariant.goes_on.called.origin c.loop-i.invariant.reads.working told) slots parent
    (node_on old mid c.args.d c.loop-i.invariant.goes_on.called.origin c.loop-i.invariant.reads.working slots parent node) d (ap Err (sym p.2) ∙ same_fault _ _ (sym p.1 ∙ e))

pub returns-in-Found-clause-within : goal.returns-in-Found-clause-within
returns-in-Found-clause-within g c =
    let r = (g.S.Store.state c.args.s.now).origin.request in
    let i = c.loop-i.i in
    let width : c.slots_in_block-in_block.result ≡ slots_in_block r = c.slots_in_block-in_block.ensures.count ∙ ap slots_in_block c.geometry-g.ensures in
    let low : i < max_blocks_of r = (let most = c.in_ok-blocks.ensures.most in omega (arith, most, c.loop-i-test.true)) in
    let search = subst (IsSearchWithin r) c.in-Found.is
    (subst (λ (o : Origin). IsSearchWithin o.request c.in_ok-found.found) c.loop-i.invariant.goes_on.called.origin c.in_ok-found.ensures.within) in
    named_within r i c.slots_in_block-in_block.result c.in-Found.slot c.slot_number-slot.result low width search.0 c.slot_number-slot.ensures c.in-Found.number search.1 search.2

pub returns-in-Some-clause-within : goal.returns-in-Some-clause-within
returns-in-Some-clause-within g c =
    let r = (g.S.Store.state c.args.s.now).origin.request in
    let low = subst (IsBelow (max_slots_of r)) c.in-Some.is c.loop-i.invariant.within in
    omega (arith, low)

pub returns-in-None-clause-within : goal.returns-in-None-clause-within
returns-in-None-clause-within g c =
    let r = (g.S.Store.state c.args.s.now).origin.request in
    let width : c.slots_in_block-in_block.result ≡ slots_in_block r = c.slots_in_block-in_block.ensures.count ∙ ap slots_in_block c.geometry-g.ensures in
    end_within r c.in_ok-blocks.blocks c.slots_in_block-in_block.result c.slot_number.result c.in_ok-blocks.ensures.most width c.slot_number.ensures
