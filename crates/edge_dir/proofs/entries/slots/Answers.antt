use Rattle.std.proofs.Common.{◌≡◌, ◌∙◌, ℕ, ◌+◌, ◌-◌, ◌*◌, ◌<◌, Some, None, sym, ap, subst, arith}
use Rattle.std.specs.Prelude.{Err}
use Rattle.std.proofs.lemmas.Result.{err_from_is_err_and}
use Rattle.edge_file.proofs.AnswerLaws.{same_fault}
use Rattle.edge_base.specs.layout.Places.{IsWithinLimits}
use Rattle.edge_base.specs.tree.Slots.{slots_in_block}
use Rattle.edge_slots.specs.Block.{IsLastBelow}
use Rattle.edge_dir.specs.Directory.{IsLastIn}
use Rattle.edge_dir.specs.Looked.{AreSlotsUpTo}
use Rattle.edge_dir.proofs.DirectoryLaws.{slots_are_counted}
use Rattle.edge_dir.proofs.SeenLaws.{counted_none, counted_some, counted_zero}
use Rattle.edge_dir.proofs.StoreLaws.{below_end, count_seen, last_too, node_on, told_on}
use Rattle.edge_dir.specs.Bounds.{IsBelow}
use Rattle.edge_dir.proofs.BoundLaws.{end_within, slot_within_all}
use Rattle.edge_base.specs.layout.Places.{max_blocks_of}
use Rattle.edge_dir.proofs.entries.slots.Goals as goal

pub last_in_block-requires-clause-end : goal.last_in_block-requires-clause-end
last_in_block-requires-clause-end g c =
    let first = c.in_ok-blocks.ensures in
    below_end (g.S.Store.state c.args.s.now) (g.S.Store.state c.blocks_below_end.new.s) c.args.d first.called.origin first.reads.working c.in_ok-blocks.blocks (c.in_ok-blocks.blocks - 1) first.blocks (omega (arith, c.if-blocks-eq0.false))

pub returns-then-blocks-eq0-clause-seen : goal.returns-then-blocks-eq0-clause-seen
returns-then-blocks-eq0-clause-seen g c told =
    let old = g.S.Store.state c.args.s.now in
    let count = count_seen old c.args.d c.in_ok-blocks.blocks c.in_ok-blocks.ensures.blocks told in
    counted_zero old.origin.request old.working c.args.d (sym count ∙ c.if-blocks-eq0.true)

pub returns-then-blocks-eq0-clause-count : goal.returns-then-blocks-eq0-clause-count
returns-then-blocks-eq0-clause-count g c told slots parent node =
    let old = g.S.Store.state c.args.s.now in
    let r = old.origin.request in
    let limits : IsWithinLimits r = subst IsWithinLimits c.geometry-g.ensures c.request-limits.ensures.limits in
    slots_are_counted r old.working c.args.d slots parent node limits 0 (returns-then-blocks-eq0-clause-seen g c told)

pub returns-in-Some-clause-seen : goal.returns-in-Some-clause-seen
returns-in-Some-clause-seen g c told =
    let old = g.S.Store.state c.args.s.now in
    let mid = g.S.Store.state c.blocks_below_end.new.s in
    let r = old.origin.request in
    let first = c.in_ok-blocks.ensures in
    let q = c.in_ok-blocks.blocks - 1 in
    let k = c.in-Some.last in
    let count = count_seen old c.args.d c.in_ok-blocks.blocks first.blocks told in
    let same : c.slots_in_block-in_block.result ≡ slots_in_block r = c.slots_in_block-in_block.ensures.count ∙ ap slots_in_block c.geometry-g.ensures in
    let last : IsLastIn mid c.args.d q c.slots_in_block-in_block.result (Some k) = subst (IsLastIn mid c.args.d q c.slots_in_block-in_block.result) c.in-Some.is c.in_ok-found.ensures.last in
    let found = last_too old mid c.args.d first.called.origin first.reads.working q c.slots_in_block-in_block.result (Some k) last told in
    let is : q * slots_in_block r + k + 1 ≡ c.slot_number.result + 1 = ap (λ (x : ℕ). q * x + k + 1) (sym same) ∙ ap (λ (x : ℕ). x + 1) (sym c.slot_number.ensures) in
    subst (AreSlotsUpTo r old.working c.args.d) is
    (counted_some r old.working c.args.d q found.0 found.1 k (omega (arith, count, c.if-blocks-eq0.false)) (subst (λ (b : ℕ). IsLastBelow r found.0 b k) same found.2))

pub returns-in-Some-clause-count : goal.returns-in-Some-clause-count
returns-in-Some-clause-count g c told slots parent node =
    let old = g.S.Store.state c.args.s.now in
    let r = old.origin.request in
    let limits : IsWithinLimits r = subst IsWithinLimits c.geometry-g.ensures c.request-limits.ensures.limits in
    slots_are_counted r old.working c.args.d slots parent node limits _ (returns-in-Some-clause-seen g c told)

pub returns-in-None-clause-seen : goal.returns-in-None-clause-seen
returns-in-None-clause-seen g c told =
    let old = g.S.Store.state c.args.s.now in
    let mid = g.S.Store.state c.blocks_below_end.new.s in
    let r = old.origin.request in
    let first = c.in_ok-blocks.ensures in
    let q = c.in_ok-blocks.blocks - 1 in
    let count = count_seen old c.args.d c.in_ok-blocks.blocks first.blocks told in
    let same : c.slots_in_block-in_block.result ≡ slots_in_block r = c.slots_in_block-in_block.ensures.count ∙ ap slots_in_block c.geometry-g.ensures in
    let last : IsLastIn mid c.args.d q c.slots_in_block-in_block.result None = subst (IsLastIn mid c.args.d q c.slots_in_block-in_block.result) c.in-None.is c.in_ok-found.ensures.last in
    let found = last_too old mid c.args.d first.called.origin first.reads.working q c.slots_in_block-in_block.result None last told in
    let whole : q * c.slots_in_block-in_block.result ≡ q * c.slots_in_block-in_block.result + 0 = omega arith in
    let is : q * slots_in_block r ≡ c.slot_number-in-None.result = ap (λ (x : ℕ). q * x) (sym same) ∙ whole ∙ sym c.slot_number-in-None.ensures in
    subst (AreSlotsUpTo r old.working c.args.d) is
    (counted_none r old.working c.args.d q found.0 found.1 (omega (arith, count, c.if-blocks-eq0.false)) (λ j low. found.2 j (omega (arith, same, low))))

pub returns-in-None-clause-count : goal.returns-in-None-clause-count
returns-in-None-clause-count g c told slots parent node =
    let old = g.S.Store.state c.args.s.now in
    let r = old.origin.request in
    let limits : IsWithinLimits r = subst IsWithinLimits c.geometry-g.ensures c.request-limits.ensures.limits in
    slots_are_counted r old.working c.args.d slots parent node limits _ (returns-in-None-clause-seen g c told)

pub returns-in_err-blocks-clause-undamaged : goal.returns-in_err-blocks-clause-undamaged
returns-in_err-blocks-clause-undamaged g c told slots parent node d e =
    let p = err_from_is_err_and c.from_residual.result c.from_residual.ensures.1 in
    c.in_err-blocks.ensures.undamaged told slots parent node d (ap Err (sym p.2) ∙ same_fault _ _ (sym p.1 ∙ e))

pub returns-in_err-found-clause-undamaged : goal.returns-in_err-found-clause-undamaged
returns-in_err-found-clause-undamaged g c told slots parent node d e =
    let old = g.S.Store.state c.args.s.now in
    let mid = g.S.Store.state c.blocks_below_end.new.s in
    let p = err_from_is_err_and c.from_residual-in_err-found.result c.from_residual-in_err-found.ensures.1 in
    c.in_err-found.ensures.undamaged (told_on old mid c.args.d c.in_ok-blocks.ensures.called.origin c.in_ok-blocks.ensures.reads.working told) slots parent
    (node_on old mid c.args.d c.in_ok-blocks.ensures.called.origin c.in_ok-blocks.ensures.reads.working slots parent node) d (ap Err (sym p.2) ∙ same_fault _ _ (sym p.1 ∙ e))

pub returns-in-Some-clause-most : goal.returns-in-Some-clause-most
returns-in-Some-clause-most g c =
    let r = (g.S.Store.state c.args.s.now).origin.request in
    let q = c.in_ok-blocks.blocks - 1 in
    let width : c.slots_in_block-in_block.result ≡ slots_in_block r = c.slots_in_block-in_block.ensures.count ∙ ap slots_in_block c.geometry-g.ensures in
    let low : q < max_blocks_of r = (let most = c.in_ok-blocks.ensures.most in omega (arith, most, c.if-blocks-eq0.false)) in
    let inner = subst (IsBelow c.slots_in_block-in_block.result) c.in-Some.is c.in_ok-found.ensures.within in
    let all = slot_within_all r q c.slots_in_block-in_block.result c.in-Some.last c.slot_number.result low width (omega (arith, inner, width)) c.slot_number.ensures in
    omega (arith, all)

pub returns-in-None-clause-most : goal.returns-in-None-clause-most
returns-in-None-clause-most g c =
    let r = (g.S.Store.state c.args.s.now).origin.request in
    let width : c.slots_in_block-in_block.result ≡ slots_in_block r = c.slots_in_block-in_block.ensures.count ∙ ap slots_in_block c.geometry-g.ensures in
    end_within r (c.in_ok-blocks.blocks - 1) c.slots_in_block-in_block.result c.slot_number-in-None.result (let most = c.in_ok-blocks.ensures.most in omega (arith, most)) width c.slot_number-in-None.ensures
