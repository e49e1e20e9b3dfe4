-- What holds of each answer, also over a store that tells nothing of what it holds: it may be handed on to the calls that ask for it.
use Rattle.std.specs.Prelude.{◌<◌, ◌≤◌, ◌+◌, ◌*◌, ◌/◌, ℕ, List, take, Option, Some, None}
use Rattle.edge_base.specs.declared.geometry.Request.{Request}
use Rattle.edge_base.specs.layout.Places.{max_blocks_of}
use Rattle.edge_base.specs.tree.NodeRules.{IsEntry}
use Rattle.edge_base.specs.tree.Slots.{slots_in_block}
use Rattle.edge_slots.specs.Slot.{entry_of}
use Rattle.edge_slots.specs.declared.block.Search.{Search}
use Rattle.edge_slots.specs.declared.block.Search.TheVariants.{Found, Missing}
use Rattle.edge_dir.specs.declared.look.Found as look
use Rattle.edge_dir.specs.declared.look.Place.{Place}
use Rattle.edge_dir.specs.declared.look.Place.TheVariants.{Taken, Free}

-- how many slots a directory may have
abbrev pub max_slots_of : Request → ℕ
max_slots_of g = max_blocks_of g * slots_in_block g

-- Slot k lies in a data block that a node may have, and the number is one of a node that is not the root.
pub record IsNamedWithin (g : Request) (k number : ℕ) : Type 0 where
  pub block : k / slots_in_block g < max_blocks_of g
  pub from : 3 ≤ number
  pub below : number < 2 + g.inodes

abbrev pub IsFoundWithin : Request → Option look.Found → Type 0
IsFoundWithin g (Some found) = IsNamedWithin g found.slot found.number
IsFoundWithin g None = Unit {0}

-- a free slot may be the one behind the last that a directory may have
abbrev pub IsPlaceWithin : Request → Place → Type 0
IsPlaceWithin g (Taken found) = IsNamedWithin g found.slot found.number
IsPlaceWithin g (Free slot) = slot ≤ max_slots_of g

-- ---- an entry, of which the bytes of the name were put first into a list

-- It is one that a slot may have, and the name has 1 byte to the geometry's.
pub record IsEntryWithin (g : Request) (list : List ℕ) (entry : ℕ × ℕ) : Type 0 where
  pub allowed : IsEntry g (entry_of (take entry.1 list) entry.0)
  pub least : 1 ≤ entry.1
  pub most : entry.1 ≤ g.name_max

abbrev pub IsSaidWithin : Request → List ℕ → Option (ℕ × ℕ) → Type 0
IsSaidWithin g list (Some entry) = IsEntryWithin g list entry
IsSaidWithin g list None = Unit {0}

-- the same of slot k, which lies in a data block that a node may have
abbrev pub IsSaidWithinAt : Request → ℕ → List ℕ → Option (ℕ × ℕ) → Type 0
IsSaidWithinAt g k list (Some entry) = (k / slots_in_block g < max_blocks_of g) × IsEntryWithin g list entry
IsSaidWithinAt g k list None = Unit {0}

-- ---- one block

-- none, or one below a bound
abbrev pub IsBelow : ℕ → Option ℕ → Type 0
IsBelow bound (Some k) = k < bound
IsBelow bound None = Unit {0}

-- the slots of a search are slots of a block, and the number is one of a node that is not the root
abbrev pub IsSearchWithin : Request → Search → Type 0
IsSearchWithin g (Found slot number) = (slot < slots_in_block g) × (3 ≤ number) × (number < 2 + g.inodes)
IsSearchWithin g (Missing free) = IsBelow (slots_in_block g) free
