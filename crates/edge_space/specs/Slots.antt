-- A change of slots in a view: an entry is put into one, and then another is cleared.
use Rattle.std.specs.Prelude.{◌≡◌, ◌≢◌, ◌<◌, ◌+◌, ◌/◌, ◌==◌, ℕ, min, max, nat_lt, if◌then◌else◌, List, [], ◌∷◌, length, IfSome, Option, Some, None}
use Rattle.edge_base.specs.declared.geometry.Request.{Request}
use Rattle.edge_base.specs.layout.Places.{max_blocks_of}
use Rattle.edge_base.specs.tree.Nodes.{directory}
use Rattle.edge_base.specs.tree.Positions.{Position, data_at}
use Rattle.edge_base.specs.tree.Slots.{Entry, Slots, slot_blocks, slots_in_block, trimmed}
use Rattle.edge_store.specs.Placed.{HasNode}
use Rattle.edge_store.specs.View.{View}
use Rattle.edge_moves.specs.Writable.{fresh_on_chain}
use Rattle.edge_shape.specs.Where.{cut_need}
use Rattle.edge_count.specs.Beside.{fresh_beside}
use Rattle.edge_count.specs.Cuts.{removed}
use Rattle.edge_dir.specs.Written.{IsSetTo}
use Rattle.edge_space.specs.declared.change.SlotAt.{SlotAt}

-- the data block of a slot
abbrev pub block_of_slot : Request → SlotAt → ℕ
block_of_slot g at = at.slot / slots_in_block g

-- it is one that a node may have
abbrev pub IsSlotWithin : Request → SlotAt → Type 0
IsSlotWithin g at = block_of_slot g at < max_blocks_of g

-- ---- which blocks are left

-- An entry was put into a slot, if that is one of directory d: the directory had slots, and has others then.
abbrev pub IsPutInto : Option SlotAt → ℕ → Slots → Slots → Type 0
IsPutInto None d slots held = held ≡ slots
IsPutInto (Some put) d slots held = (put.dir ≡ d → (e : Entry) × IsSetTo slots held put.slot (Some e)) × (put.dir ≢ d → held ≡ slots)

-- A directory that keeps its rules has slots, and `held` when the entry has been put, if that is into this directory. Slot `clear` of
-- them, another one, is cleared then, and empty slots at the end are cut off: so many data blocks are left.
pub record IsCleared (g : Request) (v : View) (put : Option SlotAt) (clear : SlotAt) (left : ℕ) : Type 0 where
  pub slots : Slots
  pub parent : ℕ
  pub node : HasNode g v clear.dir (directory slots parent)
  pub in_range : clear.slot < length slots
  pub held : Slots
  pub is_held : IsPutInto put clear.dir slots held
  pub apart : IfSome put (λ at. at.dir ≡ clear.dir → at.slot ≢ clear.slot)
  pub after : Slots
  pub after_trimmed : trimmed after ≡ after
  pub is_cleared : IsSetTo held after clear.slot None
  pub left_are : left ≡ slot_blocks g after

-- A directory d that has so many data blocks has those up to a slot that is put into it, too.
abbrev pub blocks_with : Request → Option SlotAt → ℕ → ℕ → ℕ
blocks_with g None d blocks = blocks
blocks_with g (Some put) d blocks = if put.dir == d then max blocks (block_of_slot g put + 1) else blocks

-- ---- positions

-- a slot that is put writes or adds its block
abbrev pub put_writes : Request → Option SlotAt → List Position
put_writes g None = []
put_writes g (Some put) = data_at put.dir (block_of_slot g put) ∷ []

-- one that is cleared writes its block, where that is left
abbrev pub clear_writes : Request → Option SlotAt → ℕ → List Position
clear_writes g None left = []
clear_writes g (Some clear) left = if nat_lt (block_of_slot g clear) left then data_at clear.dir (block_of_slot g clear) ∷ [] else []

-- and removes the blocks that are not
abbrev pub clear_removes : Option SlotAt → (ℕ → List ℕ) → ℕ → List Position
clear_removes None indices left = []
clear_removes (Some clear) indices left = removed clear.dir left (indices clear.dir)

-- ---- free blocks

-- how many it takes to clear a slot
abbrev pub clear_need : Request → View → View → SlotAt → ℕ → ℕ
clear_need g c v clear left =
    if nat_lt (block_of_slot g clear) left then fresh_on_chain g c v clear.dir (block_of_slot g clear) else cut_need g c v clear.dir left

-- and besides that, to put an entry: what is on both chains of a directory is counted once
abbrev pub put_need : Request → View → View → SlotAt → SlotAt → ℕ → ℕ
put_need g c v put clear left = if put.dir == clear.dir
    then fresh_beside g c v put.dir (block_of_slot g put) (min (block_of_slot g clear) left)
    else fresh_on_chain g c v put.dir (block_of_slot g put)

abbrev pub need_of_slots : Request → View → View → Option SlotAt → Option SlotAt → ℕ → ℕ
need_of_slots g c v None None left = 0
need_of_slots g c v (Some put) None left = fresh_on_chain g c v put.dir (block_of_slot g put)
need_of_slots g c v None (Some clear) left = clear_need g c v clear left
need_of_slots g c v (Some put) (Some clear) left = clear_need g c v clear left + put_need g c v put clear left
