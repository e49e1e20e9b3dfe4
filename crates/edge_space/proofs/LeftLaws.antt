-- How many data blocks of a directory are left when a slot is cleared, and an entry was put into another before.
use Rattle.std.proofs.Common.{◌≡◌, ◌≢◌, ◌∙◌, ℕ, ◌+◌, ◌==◌, ◌≤◌, Bool, true, false, cond, max, inl, inr, length, Option, Some, None, sym, ap, subst, arith}
use Rattle.std.proofs.lemmas.Bool.{cases_eq, cond-true, cond-false, eq-eqb, ne_eqb}
use Rattle.edge_base.specs.declared.geometry.Request.{Request}
use Rattle.edge_base.specs.layout.Places.{IsWithinLimits}
use Rattle.edge_base.specs.tree.Slots.{Entry, Slots, slot_blocks, slots_in_block}
use Rattle.edge_store.specs.View.{View}
use Rattle.edge_dir.specs.Directory.{slot_of}
use Rattle.edge_dir.specs.Written.{IsSetTo}
use Rattle.edge_dir.proofs.EndLaws.{some_slots}
use Rattle.edge_dir.proofs.SetLaws.{blocks_filled, length_filled}
use Rattle.edge_space.specs.Slots.{IsCleared, block_of_slot, blocks_with}
use Rattle.edge_space.specs.declared.change.SlotAt.{SlotAt}
use Rattle.edge_space.proofs.EmptyLaws.{IsEmptied, emptied}

-- no fewer than without what is put
pub blocks_with_least : (g : Request) (put : Option SlotAt) (d blocks : ℕ) → blocks ≤ blocks_with g put d blocks
blocks_with_least g None d blocks = omega arith
blocks_with_least g (Some put) d blocks = by (put.dir == d)
  where
    by : (t : Bool) → blocks ≤ cond t (max blocks (block_of_slot g put + 1)) blocks
    by true = omega arith
    by false = omega arith

-- A slot is set in slots of which another was emptied before or after: nothing else differs.
module _ (slots held after without : Slots) (put clear : ℕ) (e : Entry) (apart : put ≢ clear) (is_held : IsSetTo slots held put (Some e)) (is_cleared : IsSetTo held after clear None)
    (emptied : IsSetTo slots without clear None) where
  set_besides : IsSetTo without after put (Some e)
  set_besides = (is_cleared.1 put apart ∙ is_held.0, others)
    where
      others : (j : ℕ) → j ≢ put → slot_of after j ≡ slot_of without j
      others j other = elim (cases_eq j clear) [
        | inl here ↦ ap (slot_of after) here ∙ is_cleared.0 ∙ sym (ap (slot_of without) here ∙ emptied.0)
        | inr there ↦ is_cleared.1 j there ∙ is_held.1 j other ∙ sym (emptied.1 j there)
      ]

-- The slots without the one that is cleared, and the blocks that are left, told by theirs.
pub record IsLeft (g : Request) (put : Option SlotAt) (clear : SlotAt) (slots : Slots) (left : ℕ) : Type 0 where
  pub without : IsEmptied slots clear.slot
  pub is_left : left ≡ blocks_with g put clear.dir (slot_blocks g without.after)

pub left_is : (g : Request) (v : View) (put : Option SlotAt) (clear : SlotAt) (left : ℕ) → IsWithinLimits g → (is : IsCleared g v put clear left) → IsLeft g put clear is.slots left
left_is g v None clear left limits is = record {
  without = record { after = is.after; trim = is.after_trimmed; is_set = subst (λ (l : Slots). IsSetTo l is.after clear.slot None) is.is_held is.is_cleared };
  is_left = is.left_are;
}
left_is g v (Some put) clear left limits is = elim (cases_eq put.dir clear.dir) [
  | inl same ↦
      let without = emptied is.slots clear.slot is.node.rules.last_filled in
      let held = is.is_held.0 same in
      let set = set_besides is.slots is.held is.after without.after put.slot clear.slot held.0 (is.apart same) held.1 is.is_cleared without.is_set in
      let long = length_filled without.after is.after put.slot held.0 without.trim is.after_trimmed set in
      let blocks = blocks_filled (slots_in_block g) put.slot (length without.after) (length is.after) (some_slots g limits) long in
      record { without = without; is_left = is.left_are ∙ blocks ∙ sym (cond-true (put.dir == clear.dir) _ _ (eq-eqb put.dir clear.dir same)) }
  | inr apart ↦ record {
    without = record { after = is.after; trim = is.after_trimmed; is_set = subst (λ (l : Slots). IsSetTo l is.after clear.slot None) (is.is_held.1 apart) is.is_cleared };
    is_left = is.left_are ∙ sym (cond-false (put.dir == clear.dir) _ _ (ne_eqb put.dir clear.dir apart));
  }
]
