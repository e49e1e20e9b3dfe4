use Rattle.std.proofs.Common.{◌≡◌, ◌∙◌, ◌≤◌, ◌<◌, ℕ, ◌/◌, ◌%◌, None, sym, ap, subst, arith}
use Rattle.std.specs.Prelude.{Err}
use Rattle.std.proofs.lemmas.Result.{err_from_is_err_and}
use Rattle.std.proofs.Math.Nat.{div-lt_iff_lt-mul, mod-lt}
use Rattle.edge_base.specs.layout.Places.{IsWithinLimits}
use Rattle.edge_base.specs.outside.Below.{Origin}
use Rattle.edge_base.specs.tree.Slots.{slots_in_block}
use Rattle.edge_file.proofs.AnswerLaws.{same_fault}
use Rattle.edge_dir.specs.Directory.{IsEntryOfBlock}
use Rattle.edge_dir.specs.Looked.{blocks_below_end}
use Rattle.edge_dir.proofs.EndLaws.{some_slots}
use Rattle.edge_dir.proofs.EntryLaws.{entry_in_slots, sees_entry}
use Rattle.edge_dir.proofs.StoreLaws.{below_end, count_seen, entry_too, node_on, told_on}
use Rattle.edge_dir.specs.Bounds.{IsSaidWithin}
use Rattle.edge_dir.proofs.BoundLaws.{said_within_at}
use Rattle.edge_base.specs.layout.Places.{max_blocks_of}
use Rattle.edge_dir.proofs.entries.entry_at.Goals as goal

pub entry_in_block-requires-clause-end : goal.entry_in_block-requires-clause-end
entry_in_block-requires-clause-end g c =
    let first = c.in_ok-blocks.ensures in
    below_end (g.S.Store.state c.args.s.now) (g.S.Store.state c.blocks_below_end.new.s) c.args.d first.called.origin first.reads.working c.in_ok-blocks.blocks _ first.blocks (omega arith)

pub entry_in_block-requires-clause-slot : goal.entry_in_block-requires-clause-slot
entry_in_block-requires-clause-slot g c =
    let first = c.in_ok-blocks.ensures in
    let r = (g.S.Store.state c.args.s.now).origin.request in
    let limits : IsWithinLimits r = subst IsWithinLimits c.geometry-g.ensures c.request-within_limits.ensures.limits in
    let width : c.from-in_block.result ≡ slots_in_block r = c.from-in_block.ensures ∙ c.slots_in_block.ensures.count ∙ ap slots_in_block c.geometry-g.ensures in
    let some : 0 < c.from-in_block.result = omega (arith, width, some_slots r limits) in
    let low = mod-lt c.args.slot some in
    subst (λ (o : Origin). c.args.slot % c.from-in_block.result < slots_in_block o.request) (sym first.called.origin) (omega (arith, low, width))

pub returns-in_err-blocks-clause-undamaged : goal.returns-in_err-blocks-clause-undamaged
returns-in_err-blocks-clause-undamaged g c told slots parent node d e =
    let p = err_from_is_err_and c.from_residual.result c.from_residual.ensures.1 in
    c.in_err-blocks.ensures.undamaged told slots parent node d (ap Err (sym p.2) ∙ same_fault _ _ (sym p.1 ∙ e))

pub returns-in_err-entry-clause-undamaged : goal.returns-in_err-entry-clause-undamaged
returns-in_err-entry-clause-undamaged g c told slots parent node d e =
    let old = g.S.Store.state c.args.s.now in
    let mid = g.S.Store.state c.blocks_below_end.new.s in
    let first = c.in_ok-blocks.ensures in
    let p = err_from_is_err_and c.from_residual-in_err-entry.result c.from_residual-in_err-entry.ensures.1 in
    c.in_err-entry.ensures.undamaged (told_on old mid c.args.d first.called.origin first.reads.working told) slots parent
    (node_on old mid c.args.d first.called.origin first.reads.working slots parent node) d (ap Err (sym p.2) ∙ same_fault _ _ (sym p.1 ∙ e))

pub returns-clause-seen : goal.returns-clause-seen
returns-clause-seen g c =
    let old = g.S.Store.state c.args.s.now in
    let mid = g.S.Store.state c.blocks_below_end.new.s in
    let r = old.origin.request in
    let first = c.in_ok-blocks.ensures in
    let limits : IsWithinLimits r = subst IsWithinLimits c.geometry-g.ensures c.request-within_limits.ensures.limits in
    let width : c.from-in_block.result ≡ slots_in_block r = c.from-in_block.ensures ∙ c.slots_in_block.ensures.count ∙ ap slots_in_block c.geometry-g.ensures in
    let is = entry_too old mid c.args.d first.called.origin first.reads.working (c.args.slot / c.from-in_block.result) (c.args.slot % c.from-in_block.result) c.entry_in_block.new.name c.in_ok-entry.entry c.in_ok-entry.ensures.entry in
    sees_entry old c.args.d c.args.slot c.entry_in_block.new.name c.in_ok-entry.entry
    (λ told.
    let count = count_seen old c.args.d c.in_ok-blocks.blocks first.blocks told in
    let row : c.args.slot / slots_in_block r < blocks_below_end r old.working c.args.d = subst (λ (n : ℕ). c.args.slot / n < blocks_below_end r old.working c.args.d) width (omega (arith, count)) in
    (div-lt_iff_lt-mul (some_slots r limits)).0 row)
    (subst (λ (n : ℕ). IsEntryOfBlock old c.args.d (c.args.slot / n) (c.args.slot % n) c.entry_in_block.new.name c.in_ok-entry.entry) width is)

pub returns-clause-entry : goal.returns-clause-entry
returns-clause-entry g c =
    let old = g.S.Store.state c.args.s.now in
    let limits : IsWithinLimits old.origin.request = subst IsWithinLimits c.geometry-g.ensures c.request-within_limits.ensures.limits in
    entry_in_slots old c.args.d c.args.slot c.entry_in_block.new.name c.in_ok-entry.entry limits (returns-clause-seen g c)

pub returns-then-slot-in_block-clause-seen : goal.returns-then-slot-in_block-clause-seen
returns-then-slot-in_block-clause-seen g c told low =
    let old = g.S.Store.state c.args.s.now in
    let r = old.origin.request in
    let limits : IsWithinLimits r = subst IsWithinLimits c.geometry-g.ensures c.request-within_limits.ensures.limits in
    let width : c.from-in_block.result ≡ slots_in_block r = c.from-in_block.ensures ∙ c.slots_in_block.ensures.count ∙ ap slots_in_block c.geometry-g.ensures in
    let late : c.in_ok-blocks.blocks ≤ c.args.slot / c.from-in_block.result = omega arith in
    let past : c.in_ok-blocks.blocks ≤ c.args.slot / slots_in_block r = subst (λ (n : ℕ). c.in_ok-blocks.blocks ≤ c.args.slot / n) width late in
    let count = count_seen old c.args.d c.in_ok-blocks.blocks c.in_ok-blocks.ensures.blocks told in
    let row = (div-lt_iff_lt-mul (some_slots r limits)).1 low in
    absurd (omega (arith, past, count, row))

pub returns-then-slot-in_block-clause-entry : goal.returns-then-slot-in_block-clause-entry
returns-then-slot-in_block-clause-entry g c =
    let old = g.S.Store.state c.args.s.now in
    let limits : IsWithinLimits old.origin.request = subst IsWithinLimits c.geometry-g.ensures c.request-within_limits.ensures.limits in
    entry_in_slots old c.args.d c.args.slot c.args.name.now None limits (returns-then-slot-in_block-clause-seen g c)

pub returns-clause-within : goal.returns-clause-within
returns-clause-within g c =
    let r = (g.S.Store.state c.args.s.now).origin.request in
    let first = c.in_ok-blocks.ensures in
    let width : c.from-in_block.result ≡ slots_in_block r = c.from-in_block.ensures ∙ c.slots_in_block.ensures.count ∙ ap slots_in_block c.geometry-g.ensures in
    let low : c.args.slot / slots_in_block r < max_blocks_of r =
    subst (λ (n : ℕ). c.args.slot / n < max_blocks_of r) width (let most = first.most in omega (arith, most)) in
    said_within_at r c.args.slot c.entry_in_block.new.name c.in_ok-entry.entry low
    (subst (λ (o : Origin). IsSaidWithin o.request c.entry_in_block.new.name c.in_ok-entry.entry) first.called.origin c.in_ok-entry.ensures.within)
