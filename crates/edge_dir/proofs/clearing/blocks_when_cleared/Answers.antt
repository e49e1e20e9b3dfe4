use Rattle.std.proofs.Common.{◌≡◌, ◌≢◌, ◌∙◌, ℕ, true, false, ◌+◌, ◌/◌, ◌%◌, ◌<◌, ◌≤◌, sym, ap, subst, arith}
use Rattle.std.specs.Prelude.{Err}
use Rattle.std.proofs.lemmas.Result.{err_from_is_err_and}
use Rattle.std.proofs.Math.Nat.{div-mul-le_self, mod-lt, mul-le-mul_left}
use Rattle.edge_base.specs.layout.Places.{IsWithinLimits}
use Rattle.edge_base.specs.outside.Below.{Origin}
use Rattle.edge_base.specs.tree.Slots.{pieces, slots_in_block}
use Rattle.edge_store.specs.View.{View, head_of_inode}
use Rattle.edge_file.proofs.AnswerLaws.{same_fault}
use Rattle.edge_dir.specs.Cleared.{SeesBlocksLeft, SeesFilledBut}
use Rattle.edge_dir.specs.Looked.{blocks_below_end}
use Rattle.edge_dir.proofs.EndLaws.{some_slots}
use Rattle.edge_dir.proofs.KeptLaws.{all_left, fewer_left, loses_empty, loses_none, other_left}
use Rattle.edge_dir.proofs.LeftLaws.{filled_too, left_too}
use Rattle.edge_dir.proofs.StoreLaws.{below_end, count_seen, node_on, told_back, told_on}
use Rattle.edge_dir.proofs.clearing.blocks_when_cleared.Goals as goal

pub overflow_add-slot : goal.overflow_add-slot
overflow_add-slot g c =
    let n = c.from-in_block.result in
    let least : 2 ≤ n = omega (arith, c.from-in_block.ensures, c.slots_in_block.ensures.least) in
    let low = div-mul-le_self c.args.slot n in
    let twice = mul-le-mul_left {m = 2} {n = n} (c.args.slot / n) least in
    omega (arith, low, twice, c.ranges.slot)

pub has_other-requires-clause-end : goal.has_other-requires-clause-end
has_other-requires-clause-end g c =
    let first = c.in_ok-count.ensures in
    below_end (g.S.Store.state c.args.s.now) (g.S.Store.state c.blocks_below_end.new.s) c.args.d first.called.origin first.reads.working c.in_ok-count.count _ first.blocks (omega arith)

pub has_other-requires-clause-slot : goal.has_other-requires-clause-slot
has_other-requires-clause-slot g c =
    let first = c.in_ok-count.ensures in
    let r = (g.S.Store.state c.args.s.now).origin.request in
    let limits : IsWithinLimits r = subst IsWithinLimits c.geometry-g.ensures c.request-limits.ensures.limits in
    let width : c.from-in_block.result ≡ slots_in_block r = c.from-in_block.ensures ∙ c.slots_in_block.ensures.count ∙ ap slots_in_block c.geometry-g.ensures in
    let some : 0 < c.from-in_block.result = omega (arith, width, some_slots r limits) in
    let low = mod-lt c.args.slot some in
    subst (λ (o : Origin). c.args.slot % c.from-in_block.result < slots_in_block o.request) (sym first.called.origin) (omega (arith, low, width))

pub blocks_left-requires-clause-end : goal.blocks_left-requires-clause-end
blocks_left-requires-clause-end g c told =
    let old = g.S.Store.state c.args.s.now in
    let last = g.S.Store.state c.has_other.new.s in
    let first = c.in_ok-count.ensures in
    let second = c.in_ok-other.ensures in
    let origin = second.called.origin ∙ first.called.origin in
    let working = second.reads.working ∙ first.reads.working in
    let b = first.blocks (told_back old last c.args.d origin working told) in
    let same = ap (λ (o : Origin). pieces o.request.block_size b.0.size) origin in
    (b.0, ap (λ (v : View). head_of_inode (v.inodes c.args.d)) working ∙ b.1, b.2, omega (arith, b.3, same))

pub returns-in_err-count-clause-undamaged : goal.returns-in_err-count-clause-undamaged
returns-in_err-count-clause-undamaged g c told slots parent node d e =
    let p = err_from_is_err_and c.from_residual.result c.from_residual.ensures.1 in
    c.in_err-count.ensures.undamaged told slots parent node d (ap Err (sym p.2) ∙ same_fault _ _ (sym p.1 ∙ e))

pub returns-in_err-other-clause-undamaged : goal.returns-in_err-other-clause-undamaged
returns-in_err-other-clause-undamaged g c told slots parent node d e =
    let old = g.S.Store.state c.args.s.now in
    let mid = g.S.Store.state c.blocks_below_end.new.s in
    let first = c.in_ok-count.ensures in
    let p = err_from_is_err_and c.from_residual-in_err-other.result c.from_residual-in_err-other.ensures.1 in
    c.in_err-other.ensures.undamaged (told_on old mid c.args.d first.called.origin first.reads.working told) slots parent
    (node_on old mid c.args.d first.called.origin first.reads.working slots parent node) d (ap Err (sym p.2) ∙ same_fault _ _ (sym p.1 ∙ e))

pub returns-in_err-left-clause-undamaged : goal.returns-in_err-left-clause-undamaged
returns-in_err-left-clause-undamaged g c told slots parent node d e =
    let old = g.S.Store.state c.args.s.now in
    let last = g.S.Store.state c.has_other.new.s in
    let first = c.in_ok-count.ensures in
    let second = c.in_ok-other.ensures in
    let origin = second.called.origin ∙ first.called.origin in
    let working = second.reads.working ∙ first.reads.working in
    let p = err_from_is_err_and c.from_residual-in_err-left.result c.from_residual-in_err-left.ensures.1 in
    c.in_err-left.ensures.undamaged (told_on old last c.args.d origin working told) slots parent
    (node_on old last c.args.d origin working slots parent node) d (ap Err (sym p.2) ∙ same_fault _ _ (sym p.1 ∙ e))

-- ---- the slot is not in the last block

pub returns-then-slot-in_block-clause-loses : goal.returns-then-slot-in_block-clause-loses
returns-then-slot-in_block-clause-loses g c told =
    let old = g.S.Store.state c.args.s.now in
    loses_none old.origin.request old.working c.args.d c.args.slot c.in_ok-count.count (count_seen old c.args.d c.in_ok-count.count c.in_ok-count.ensures.blocks told)

pub returns-then-slot-in_block-clause-left : goal.returns-then-slot-in_block-clause-left
returns-then-slot-in_block-clause-left g c told slots parent node after trim low set =
    let old = g.S.Store.state c.args.s.now in
    let r = old.origin.request in
    let limits : IsWithinLimits r = subst IsWithinLimits c.geometry-g.ensures c.request-limits.ensures.limits in
    let width : c.from-in_block.result ≡ slots_in_block r = c.from-in_block.ensures ∙ c.slots_in_block.ensures.count ∙ ap slots_in_block c.geometry-g.ensures in
    let count = count_seen old c.args.d c.in_ok-count.count c.in_ok-count.ensures.blocks told in
    let here : c.args.slot / c.from-in_block.result + 1 ≢ c.in_ok-count.count = λ e. absurd (omega (arith, e)) in
    let apart : c.args.slot / slots_in_block r + 1 ≢ blocks_below_end r old.working c.args.d =
    λ e. here (ap (λ (n : ℕ). c.args.slot / n + 1) width ∙ e ∙ sym count) in
    count ∙ all_left r old.working c.args.d c.args.slot slots after parent node limits trim low set apart

-- ---- it is, and another one there is filled

pub returns-then-other-clause-loses : goal.returns-then-other-clause-loses
returns-then-other-clause-loses g c told =
    let old = g.S.Store.state c.args.s.now in
    loses_none old.origin.request old.working c.args.d c.args.slot c.in_ok-count.count (count_seen old c.args.d c.in_ok-count.count c.in_ok-count.ensures.blocks told)

pub returns-then-other-clause-left : goal.returns-then-other-clause-left
returns-then-other-clause-left g c told slots parent node after trim low set =
    let old = g.S.Store.state c.args.s.now in
    let mid = g.S.Store.state c.blocks_below_end.new.s in
    let r = old.origin.request in
    let first = c.in_ok-count.ensures in
    let limits : IsWithinLimits r = subst IsWithinLimits c.geometry-g.ensures c.request-limits.ensures.limits in
    let width : c.from-in_block.result ≡ slots_in_block r = c.from-in_block.ensures ∙ c.slots_in_block.ensures.count ∙ ap slots_in_block c.geometry-g.ensures in
    let count = count_seen old c.args.d c.in_ok-count.count first.blocks told in
    let here : c.args.slot / c.from-in_block.result + 1 ≡ c.in_ok-count.count = omega arith in
    let last_block : c.args.slot / slots_in_block r + 1 ≡ blocks_below_end r old.working c.args.d = ap (λ (n : ℕ). c.args.slot / n + 1) (sym width) ∙ here ∙ count in
    let seen : SeesFilledBut old c.args.d (c.args.slot / c.from-in_block.result) (c.args.slot % c.from-in_block.result) true =
    filled_too old mid c.args.d first.called.origin first.reads.working (c.args.slot / c.from-in_block.result) (c.args.slot % c.from-in_block.result) true
    (subst (SeesFilledBut mid c.args.d (c.args.slot / c.from-in_block.result) (c.args.slot % c.from-in_block.result)) c.if-other.true c.in_ok-other.ensures.other) in
    let is = subst (λ (n : ℕ). SeesFilledBut old c.args.d (c.args.slot / n) (c.args.slot % n) true) width seen told in
    count ∙ other_left r old.working c.args.d c.args.slot slots after parent node limits trim low set is.0 is.1 last_block is.2

-- ---- and none is

pub returns-clause-loses : goal.returns-clause-loses
returns-clause-loses g c told =
    let old = g.S.Store.state c.args.s.now in
    let mid = g.S.Store.state c.blocks_below_end.new.s in
    let last = g.S.Store.state c.has_other.new.s in
    let r = old.origin.request in
    let first = c.in_ok-count.ensures in
    let second = c.in_ok-other.ensures in
    let limits : IsWithinLimits r = subst IsWithinLimits c.geometry-g.ensures c.request-limits.ensures.limits in
    let width : c.from-in_block.result ≡ slots_in_block r = c.from-in_block.ensures ∙ c.slots_in_block.ensures.count ∙ ap slots_in_block c.geometry-g.ensures in
    let count = count_seen old c.args.d c.in_ok-count.count first.blocks told in
    let here : c.args.slot / c.from-in_block.result + 1 ≡ c.in_ok-count.count = omega arith in
    let last_block : c.args.slot / slots_in_block r + 1 ≡ blocks_below_end r old.working c.args.d = ap (λ (n : ℕ). c.args.slot / n + 1) (sym width) ∙ here ∙ count in
    let seen : SeesFilledBut old c.args.d (c.args.slot / c.from-in_block.result) (c.args.slot % c.from-in_block.result) false =
    filled_too old mid c.args.d first.called.origin first.reads.working (c.args.slot / c.from-in_block.result) (c.args.slot % c.from-in_block.result) false
    (subst (SeesFilledBut mid c.args.d (c.args.slot / c.from-in_block.result) (c.args.slot % c.from-in_block.result)) c.if-other.false c.in_ok-other.ensures.other) in
    let is = subst (λ (n : ℕ). SeesFilledBut old c.args.d (c.args.slot / n) (c.args.slot % n) false) width seen told in
    let before = left_too old last c.args.d (second.called.origin ∙ first.called.origin) (second.reads.working ∙ first.reads.working) (c.args.slot / c.from-in_block.result) c.in_ok-left.left c.in_ok-left.ensures.left in
    let left = subst (λ (n : ℕ). SeesBlocksLeft old c.args.d (c.args.slot / n) c.in_ok-left.left) width before told in
    loses_empty r old.working c.args.d c.args.slot c.in_ok-left.left is.0 (some_slots r limits) is.1 last_block is.2 left

pub returns-clause-left : goal.returns-clause-left
returns-clause-left g c told slots parent node after trim low set =
    let old = g.S.Store.state c.args.s.now in
    let mid = g.S.Store.state c.blocks_below_end.new.s in
    let last = g.S.Store.state c.has_other.new.s in
    let r = old.origin.request in
    let first = c.in_ok-count.ensures in
    let second = c.in_ok-other.ensures in
    let limits : IsWithinLimits r = subst IsWithinLimits c.geometry-g.ensures c.request-limits.ensures.limits in
    let width : c.from-in_block.result ≡ slots_in_block r = c.from-in_block.ensures ∙ c.slots_in_block.ensures.count ∙ ap slots_in_block c.geometry-g.ensures in
    let count = count_seen old c.args.d c.in_ok-count.count first.blocks told in
    let here : c.args.slot / c.from-in_block.result + 1 ≡ c.in_ok-count.count = omega arith in
    let last_block : c.args.slot / slots_in_block r + 1 ≡ blocks_below_end r old.working c.args.d = ap (λ (n : ℕ). c.args.slot / n + 1) (sym width) ∙ here ∙ count in
    let seen : SeesFilledBut old c.args.d (c.args.slot / c.from-in_block.result) (c.args.slot % c.from-in_block.result) false =
    filled_too old mid c.args.d first.called.origin first.reads.working (c.args.slot / c.from-in_block.result) (c.args.slot % c.from-in_block.result) false
    (subst (SeesFilledBut mid c.args.d (c.args.slot / c.from-in_block.result) (c.args.slot % c.from-in_block.result)) c.if-other.false c.in_ok-other.ensures.other) in
    let is = subst (λ (n : ℕ). SeesFilledBut old c.args.d (c.args.slot / n) (c.args.slot % n) false) width seen told in
    let before = left_too old last c.args.d (second.called.origin ∙ first.called.origin) (second.reads.working ∙ first.reads.working) (c.args.slot / c.from-in_block.result) c.in_ok-left.left c.in_ok-left.ensures.left in
    let left = subst (λ (n : ℕ). SeesBlocksLeft old c.args.d (c.args.slot / n) c.in_ok-left.left) width before told in
    fewer_left r old.working c.args.d c.args.slot slots after parent node limits trim low set is.0 is.1 last_block c.in_ok-left.left is.2 left
