use Rattle.std.proofs.Common.{◌≡◌, ◌∙◌, ℕ, ◌+◌, ◌/◌, ◌<◌, ◌≤◌, inl, inr, sym, ap, subst, arith}
use Rattle.std.specs.Prelude.{Err, OnOk, replicate}
use Rattle.std.proofs.lemmas.Result.{err_from_is_err_and}
use Rattle.edge_base.specs.layout.Places.{IsWithinLimits}
use Rattle.edge_base.specs.tree.Slots.{slot_blocks, slots_in_block}
use Rattle.edge_tree.specs.Own.{IsNodeShaped, UndamagedIf, UntangledIf}
use Rattle.edge_cut.proofs.GoLaws.{on_ok_both, on_ok_map}
use Rattle.edge_cut.specs.Cuts.{RoomForCutAt}
use Rattle.edge_file.specs.Writing.{IsNodeSized, WritesBytes}
use Rattle.edge_file.proofs.AnswerLaws.{same_fault}
use Rattle.edge_dir.specs.Cleared.{CutsSlots, EmptiesSlot}
use Rattle.edge_dir.specs.Written.{GrowsToBlock, NeverWithRoom, UntangledWithRoom, place_of_slot}
use Rattle.edge_dir.proofs.ClearLaws.{cleared_by_cut, cleared_by_write, room_to_cut, room_to_empty}
use Rattle.edge_dir.proofs.EndLaws.{some_bytes, some_slots}
use Rattle.edge_dir.proofs.KeptLaws.{same_blocks}
use Rattle.edge_dir.proofs.LeftLaws.{back, ends_back}
use Rattle.edge_dir.proofs.ViewLaws.{sized}
use Rattle.edge_dir.proofs.clearing.clear.Goals as goal

pub returns-in_err-left-clause-undamaged : goal.returns-in_err-left-clause-undamaged
returns-in_err-left-clause-undamaged g c told slots parent node after rules low set room d e =
    let p = err_from_is_err_and c.from_residual.result c.from_residual.ensures.1 in
    c.in_err-left.ensures.undamaged told slots parent node d (ap Err (sym p.2) ∙ same_fault _ _ (sym p.1 ∙ e))

pub returns-in_err-left-clause-untangled : goal.returns-in_err-left-clause-untangled
returns-in_err-left-clause-untangled g c told rules d e =
    let p = err_from_is_err_and c.from_residual.result c.from_residual.ensures.1 in
    c.in_err-left.ensures.untangled told d (ap Err (sym p.2) ∙ same_fault _ _ (sym p.1 ∙ e))

-- ---- the block of the slot is left

pub returns-then-slot-in_block-clause-undamaged : goal.returns-then-slot-in_block-clause-undamaged
returns-then-slot-in_block-clause-undamaged g c told slots parent node after rules low set room =
    let old = g.S.Store.state c.args.s.now in
    let mid = g.S.Store.state c.blocks_when_cleared.new.s in
    let r = old.origin.request in
    let first = c.in_ok-left.ensures in
    let width : c.from-in_block.result ≡ slots_in_block r = c.from-in_block.ensures ∙ c.slots_in_block.ensures.count ∙ ap slots_in_block c.geometry-g.ensures in
    let left = first.left told slots parent node after rules.last_filled low set in
    let row = ap (λ (n : ℕ). c.args.slot / n) width in
    let there : c.args.slot / slots_in_block r < slot_blocks r after = omega (arith, row, left) in
    let never : NeverWithRoom old c.args.d c.args.slot (4 + r.name_max) c.empty_slot.result =
    back old mid first.called.origin first.point.committed first.reads.working (λ s. NeverWithRoom s c.args.d c.args.slot (4 + s.origin.request.name_max) c.empty_slot.result) c.empty_slot.ensures.undamaged in
    never told slots parent node (room_to_empty old c.args.d c.args.slot after room there)

pub returns-then-slot-in_block-clause-untangled : goal.returns-then-slot-in_block-clause-untangled
returns-then-slot-in_block-clause-untangled g c told rules =
    let old = g.S.Store.state c.args.s.now in
    let mid = g.S.Store.state c.blocks_when_cleared.new.s in
    let first = c.in_ok-left.ensures in
    let never : UntangledWithRoom old c.args.d c.args.slot (4 + old.origin.request.name_max) c.empty_slot.result =
    back old mid first.called.origin first.point.committed first.reads.working (λ s. UntangledWithRoom s c.args.d c.args.slot (4 + s.origin.request.name_max) c.empty_slot.result) c.empty_slot.ensures.untangled in
    never told (rules.0, rules.1)

pub returns-then-slot-in_block-clause-emptied : goal.returns-then-slot-in_block-clause-emptied
returns-then-slot-in_block-clause-emptied g c =
    let old = g.S.Store.state c.args.s.now in
    let mid = g.S.Store.state c.blocks_when_cleared.new.s in
    let new = g.S.Store.state c.empty_slot.new.s in
    let first = c.in_ok-left.ensures in
    let done = c.empty_slot.ensures in
    on_ok_both c.empty_slot.result (λ bytes size. inl (bytes, size))
    (back old mid first.called.origin first.point.committed first.reads.working
    (λ s. OnOk c.empty_slot.result (WritesBytes s new c.args.d (place_of_slot s.origin.request c.args.slot) (replicate (4 + s.origin.request.name_max) 0))) done.bytes)
    (back old mid first.called.origin first.point.committed first.reads.working (λ s. OnOk c.empty_slot.result (GrowsToBlock s new c.args.d c.args.slot)) done.size)

pub returns-then-slot-in_block-clause-cleared : goal.returns-then-slot-in_block-clause-cleared
returns-then-slot-in_block-clause-cleared g c =
    let old = g.S.Store.state c.args.s.now in
    let mid = g.S.Store.state c.blocks_when_cleared.new.s in
    let new = g.S.Store.state c.empty_slot.new.s in
    let r = old.origin.request in
    let first = c.in_ok-left.ensures in
    let limits : IsWithinLimits r = subst IsWithinLimits c.geometry-g.ensures c.request-within_limits.ensures.limits in
    let width : c.from-in_block.result ≡ slots_in_block r = c.from-in_block.ensures ∙ c.slots_in_block.ensures.count ∙ ap slots_in_block c.geometry-g.ensures in
    let row = ap (λ (n : ℕ). c.args.slot / n) width in
    on_ok_map c.empty_slot.result (λ empties told slots after parent node rules low set.
    let left = first.left told slots parent node after rules.last_filled low set in
    let there : c.args.slot / slots_in_block r < slot_blocks r after = omega (arith, row, left) in
    cleared_by_write r old.committed old.working new.working c.args.d c.args.slot slots after parent there
    (same_blocks slots after c.args.slot node.rules.last_filled rules.last_filled low set (slots_in_block r) (some_slots r limits) there)
    (empties told slots after parent node rules low set there))
    (back old mid first.called.origin first.point.committed first.reads.working (λ s. OnOk c.empty_slot.result (EmptiesSlot s new c.args.d c.args.slot)) c.empty_slot.ensures.emptied)

-- ---- it is not

pub returns-clause-undamaged : goal.returns-clause-undamaged
returns-clause-undamaged g c told slots parent node after rules low set room =
    let old = g.S.Store.state c.args.s.now in
    let mid = g.S.Store.state c.blocks_when_cleared.new.s in
    let r = old.origin.request in
    let first = c.in_ok-left.ensures in
    let limits : IsWithinLimits r = subst IsWithinLimits c.geometry-g.ensures c.request-within_limits.ensures.limits in
    let width : c.from-in_block.result ≡ slots_in_block r = c.from-in_block.ensures ∙ c.slots_in_block.ensures.count ∙ ap slots_in_block c.geometry-g.ensures in
    let row = ap (λ (n : ℕ). c.args.slot / n) width in
    let left : c.in_ok-left.left ≡ slot_blocks r after = first.left told slots parent node after rules.last_filled low set in
    let past : slot_blocks r after ≤ c.args.slot / slots_in_block r = omega (arith, row, left) in
    let never : UndamagedIf old (IsNodeSized old c.args.d) (RoomForCutAt old c.args.d c.in_ok-left.left) c.cut_blocks.result =
    back old mid first.called.origin first.point.committed first.reads.working (λ s. UndamagedIf s (IsNodeSized s c.args.d) (RoomForCutAt s c.args.d c.in_ok-left.left) c.cut_blocks.result)
    c.cut_blocks.ensures.undamaged in
    never told (sized r old.working c.args.d slots parent node (some_bytes r limits))
    (subst (RoomForCutAt old c.args.d) (sym left) (room_to_cut old c.args.d c.args.slot after room past))

pub returns-clause-untangled : goal.returns-clause-untangled
returns-clause-untangled g c told rules =
    let old = g.S.Store.state c.args.s.now in
    let mid = g.S.Store.state c.blocks_when_cleared.new.s in
    let r = old.origin.request in
    let first = c.in_ok-left.ensures in
    let width : c.from-in_block.result ≡ slots_in_block r = c.from-in_block.ensures ∙ c.slots_in_block.ensures.count ∙ ap slots_in_block c.geometry-g.ensures in
    let row = ap (λ (n : ℕ). c.args.slot / n) width in
    let never : UntangledIf old (IsNodeShaped old c.args.d × RoomForCutAt old c.args.d c.in_ok-left.left) c.cut_blocks.result =
    back old mid first.called.origin first.point.committed first.reads.working (λ s. UntangledIf s (IsNodeShaped s c.args.d × RoomForCutAt s c.args.d c.in_ok-left.left) c.cut_blocks.result)
    c.cut_blocks.ensures.untangled in
    never told (rules.0, rules.2 c.in_ok-left.left (omega (arith, row)))

pub returns-clause-emptied : goal.returns-clause-emptied
returns-clause-emptied g c =
    let old = g.S.Store.state c.args.s.now in
    let mid = g.S.Store.state c.blocks_when_cleared.new.s in
    let new = g.S.Store.state c.cut_blocks.new.s in
    let r = old.origin.request in
    let first = c.in_ok-left.ensures in
    let width : c.from-in_block.result ≡ slots_in_block r = c.from-in_block.ensures ∙ c.slots_in_block.ensures.count ∙ ap slots_in_block c.geometry-g.ensures in
    let row = ap (λ (n : ℕ). c.args.slot / n) width in
    on_ok_map c.cut_blocks.result (λ ends. inr (c.in_ok-left.left, record { before = omega (arith, row); loses = first.loses; ends = ends_back old mid new first.called.origin first.point.committed first.reads.working c.args.d c.in_ok-left.left ends }))
    c.cut_blocks.ensures.ends

pub returns-clause-cleared : goal.returns-clause-cleared
returns-clause-cleared g c =
    let old = g.S.Store.state c.args.s.now in
    let mid = g.S.Store.state c.blocks_when_cleared.new.s in
    let new = g.S.Store.state c.cut_blocks.new.s in
    let r = old.origin.request in
    let first = c.in_ok-left.ensures in
    let width : c.from-in_block.result ≡ slots_in_block r = c.from-in_block.ensures ∙ c.slots_in_block.ensures.count ∙ ap slots_in_block c.geometry-g.ensures in
    let row = ap (λ (n : ℕ). c.args.slot / n) width in
    on_ok_map c.cut_blocks.result (λ cuts told slots after parent node rules low set.
    let left : c.in_ok-left.left ≡ slot_blocks r after = first.left told slots parent node after rules.last_filled low set in
    cleared_by_cut r old.committed old.working new.working c.args.d c.args.slot slots after parent (omega (arith, row, left))
    (cuts told slots after parent c.args.slot node rules low set left (omega (arith, row))))
    (back old mid first.called.origin first.point.committed first.reads.working (λ s. OnOk c.cut_blocks.result (CutsSlots s new c.args.d c.in_ok-left.left)) c.cut_blocks.ensures.cut)
