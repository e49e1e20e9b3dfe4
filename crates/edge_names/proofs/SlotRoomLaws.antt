-- Room of a slot, which lies within one block: to put an entry into it, and to clear it.
use Rattle.std.proofs.Common.{◌≡◌, ◌∙◌, ℕ, ◌+◌, ◌*◌, ◌/◌, ◌%◌, ◌<◌, ◌≤◌, cond, [], ◌∷◌, Some, None, sym, subst, arith}
use Rattle.std.specs.Prelude.{nat_lt}
use Rattle.std.proofs.Math.Nat.{mod-lt}
use Rattle.edge_base.specs.declared.geometry.Request.{Request}
use Rattle.edge_base.specs.layout.Places.{IsWithinLimits, max_blocks_of}
use Rattle.edge_base.specs.tree.Slots.{Slots, slot_blocks, slots_in_block}
use Rattle.edge_store.specs.State.{StoreState}
use Rattle.edge_store.specs.View.{View, free_now}
use Rattle.edge_moves.specs.Writable.{fresh_on_chain}
use Rattle.edge_shape.specs.Where.{cut_need}
use Rattle.edge_file.specs.Bytes.{blocks_under}
use Rattle.edge_file.specs.Rewritten.{fresh_on}
use Rattle.edge_file.specs.Writing.{RoomForBytes}
use Rattle.edge_file.proofs.BlockLaws.{fresh_on-chain}
use Rattle.edge_file.proofs.JoinLaws.{fresh_on-alike}
use Rattle.edge_file.proofs.RangeLaws.{block_alone, lists}
use Rattle.edge_dir.specs.Cleared.{clearing_need}
use Rattle.edge_dir.specs.Written.{place_of_slot}
use Rattle.edge_dir.proofs.EndLaws.{slot_within, some_slots}
use Rattle.edge_space.specs.declared.change.SlotAt.{SlotAt}
use Rattle.edge_space.specs.Slots.{IsSlotWithin, block_of_slot, need_of_slots}

-- the bytes of a slot, or the first of them, lie in its block alone
pub slot_alone : (g : Request) (k len : ℕ) → IsWithinLimits g → k / slots_in_block g < max_blocks_of g → 0 < len → len ≤ 4 + g.name_max
    → (i : ℕ) → lists (k / slots_in_block g ∷ []) i ≡ lists (blocks_under g (place_of_slot g k) len) i
slot_alone g k len limits low some short =
    let within = slot_within g (k % slots_in_block g) (mod-lt k (some_slots g limits)) in
    block_alone g (k / slots_in_block g) (k % slots_in_block g * (4 + g.name_max)) len low some (omega (arith, within, short))

-- so they make the chain of that block dirty
pub part_fresh : (g : Request) (c v : View) (d k len : ℕ) → IsWithinLimits g → k / slots_in_block g < max_blocks_of g → 0 < len → len ≤ 4 + g.name_max
    → fresh_on g c v d (blocks_under g (place_of_slot g k) len) ≡ fresh_on_chain g c v d (k / slots_in_block g)
part_fresh g c v d k len limits low some short =
    sym (fresh_on-alike g c v v d (k / slots_in_block g ∷ []) (blocks_under g (place_of_slot g k) len) [] (slot_alone g k len limits low some short))
    ∙ fresh_on-chain g c v d (k / slots_in_block g)

pub slot_fresh : (g : Request) (c v : View) (d slot : ℕ) → IsWithinLimits g → IsSlotWithin g (record { dir = d; slot = slot })
    → fresh_on g c v d (blocks_under g (place_of_slot g slot) (4 + g.name_max)) ≡ fresh_on_chain g c v d (slot / slots_in_block g)
slot_fresh g c v d slot limits low = part_fresh g c v d slot (4 + g.name_max) limits low (omega arith) (omega arith)

module _ (st : StoreState) (d slot : ℕ) (limits : IsWithinLimits st.origin.request) (low : IsSlotWithin st.origin.request (record { dir = d; slot = slot })) where
  abbrev at : SlotAt
  at = record { dir = d; slot = slot }

  abbrev free : ℕ
  free = free_now st.origin.request st.committed st.working

  -- as many blocks are free as putting an entry takes
  pub room_to_put : (left : ℕ) → need_of_slots st.origin.request st.committed st.working (Some at) None left ≤ free
      → RoomForBytes st d (place_of_slot st.origin.request slot) (4 + st.origin.request.name_max)
  room_to_put left room = subst (λ (n : ℕ). n ≤ free) (sym (slot_fresh st.origin.request st.committed st.working d slot limits low)) room

  -- as many as clearing the slot takes, which leaves these slots
  pub room_to_clear : (after : Slots) → need_of_slots st.origin.request st.committed st.working None (Some at) (slot_blocks st.origin.request after) ≤ free
      → clearing_need st d slot after ≤ free
  room_to_clear after room =
      let g = st.origin.request in
      subst (λ (n : ℕ). cond (nat_lt (block_of_slot g at) (slot_blocks g after)) n (cut_need g st.committed st.working d (slot_blocks g after)) ≤ free)
      (sym (slot_fresh g st.committed st.working d slot limits low)) room
