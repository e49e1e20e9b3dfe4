-- What calls do that set a slot of a directory, where the views are told. v is the working view before, w the one after, and c the committed
-- view; old and new are a store as a call begins and after it.
use Rattle.std.specs.Prelude.{◌≡◌, ◌≢◌, ◌<◌, ◌≤◌, ◌+◌, ◌*◌, ◌/◌, ◌%◌, ℕ, max, List, [], ◌∷◌, length, slice_index, Option, Some, Result}
use Rattle.edge_base.specs.declared.geometry.Request.{Request}
use Rattle.edge_base.specs.declared.node.Head.{Head}
use Rattle.edge_base.specs.tree.NodeRules.{IsDirectory}
use Rattle.edge_base.specs.tree.Nodes.{directory, indices_of}
use Rattle.edge_base.specs.tree.Slots.{Entry, Slots, slot_blocks, slot_bytes, slots_in_block}
use Rattle.edge_store.specs.Changed.{NodeChanged, NodeDirtied}
use Rattle.edge_store.specs.Calls.{NeverDamaged}
use Rattle.edge_store.specs.Placed.{HasNode}
use Rattle.edge_store.specs.declared.fault.StoreFault.{StoreFault}
use Rattle.edge_store.specs.State.{StoreState, Told}
use Rattle.edge_store.specs.View.{View, head_of_inode}
use Rattle.edge_tree.specs.Own.{IsNodeShaped, UntangledIf}
use Rattle.edge_slots.specs.Slot.{entry_of}
use Rattle.edge_file.specs.Bytes.{with_bytes}
use Rattle.edge_file.specs.Writing.{GrowsTo, RoomForBytes}
use Rattle.edge_dir.specs.Directory.{OnSlots, slot_of}

-- the slots are others in slot k alone, which has come to be this one
abbrev pub IsSetTo : Slots → Slots → ℕ → Option Entry → Type 0
IsSetTo slots after k slot = (slot_of after k ≡ slot) × ((j : ℕ) → j ≢ k → slot_of after j ≡ slot_of slots j)

-- Directory d, which had slots, has others. Data blocks of it were written or added, and others removed; nothing else has changed.
pub record SlotsChanged (g : Request) (c v w : View) (d : ℕ) (slots after : Slots) (parent : ℕ) (writes removes : List ℕ) : Type 0 where
  pub node : HasNode g w d (directory after parent)
  -- its head has another size, and is as it was in all else
  pub head : (head : Head) → head_of_inode (v.inodes d) ≡ Some head
      → head_of_inode (w.inodes d) ≡ Some (record head { size = g.block_size * slot_blocks g after })
  pub changed : NodeChanged g v w d (indices_of g (directory slots parent)) (indices_of g (directory after parent))
  pub dirtied : NodeDirtied g c v w d (indices_of g (directory slots parent)) (indices_of g (directory after parent)) writes removes

-- ---- one slot

-- where slot k begins
abbrev pub place_of_slot : Request → ℕ → ℕ
place_of_slot g k = k / slots_in_block g * g.block_size + k % slots_in_block g * (4 + g.name_max)

-- node d has at least the size at which the data block of slot k ends, and its head is as it was in all else
abbrev pub GrowsToBlock : StoreState → StoreState → ℕ → ℕ → Type 0
GrowsToBlock old new d k = GrowsTo old new d ((k / slots_in_block old.origin.request + 1) * old.origin.request.block_size)

-- the bytes of a slot with others put first into them are those of another
abbrev pub BecomesSlot : Request → Option Entry → List ℕ → Option Entry → Type 0
BecomesSlot g old new slot = (q : ℕ) → q < 4 + g.name_max → slice_index (slot_bytes g slot) q ≡ with_bytes (slice_index (slot_bytes g old)) 0 new q

-- nothing is told of a directory that keeps its rules, where as many blocks are free as positions on the chain of a slot's block are not new
abbrev pub NeverWithRoom : {T : Type 0} → StoreState → ℕ → ℕ → ℕ → Result T StoreFault → Type 0
NeverWithRoom s d k len result = OnSlots s d (λ slots. RoomForBytes s d (place_of_slot s.origin.request k) len → NeverDamaged result)

-- no tangled node is told of one that has the shape of a node, where there is as much room
abbrev pub UntangledWithRoom : {T : Type 0} → StoreState → ℕ → ℕ → ℕ → Result T StoreFault → Type 0
UntangledWithRoom s d k len result = UntangledIf s (IsNodeShaped s d × RoomForBytes s d (place_of_slot s.origin.request k) len) result

-- Bytes were written first into slot k of a directory, which makes of it another slot, if the directory keeps its rules before and after.
abbrev pub WritesSlot : StoreState → StoreState → ℕ → ℕ → List ℕ → Type 0
WritesSlot old new d k put = Told old → (slots after : Slots) (parent : ℕ) (slot : Option Entry)
    → HasNode old.origin.request old.working d (directory slots parent) → IsDirectory old.origin.request after → IsSetTo slots after k slot
    → BecomesSlot old.origin.request (slot_of slots k) put slot → k / slots_in_block old.origin.request ≤ slot_blocks old.origin.request slots
    → slot_blocks old.origin.request after ≡ max (slot_blocks old.origin.request slots) (k / slots_in_block old.origin.request + 1)
    → SlotsChanged old.origin.request old.committed old.working new.working d slots after parent (k / slots_in_block old.origin.request ∷ []) []

-- Slot k of a directory, at most at its end, has this entry, and its other slots stay, if the directory keeps its rules before and after.
abbrev pub PlacesEntry : StoreState → StoreState → ℕ → ℕ → Entry → Type 0
PlacesEntry old new d k e = Told old → (slots after : Slots) (parent : ℕ)
    → HasNode old.origin.request old.working d (directory slots parent) → IsDirectory old.origin.request after → k ≤ length slots
    → IsSetTo slots after k (Some e)
    → SlotsChanged old.origin.request old.committed old.working new.working d slots after parent (k / slots_in_block old.origin.request ∷ []) []

-- Slot k, which is filled, has another number, and its name and the other slots stay, if the directory keeps its rules before and after.
abbrev pub ReplacesNumber : StoreState → StoreState → ℕ → ℕ → ℕ → Type 0
ReplacesNumber old new d k number = Told old → (slots after : Slots) (parent : ℕ) (e : Entry)
    → HasNode old.origin.request old.working d (directory slots parent) → IsDirectory old.origin.request after → slot_of slots k ≡ Some e
    → IsSetTo slots after k (Some (entry_of e.name number))
    → SlotsChanged old.origin.request old.committed old.working new.working d slots after parent (k / slots_in_block old.origin.request ∷ []) []
