-- What holds of each file and each directory, taken by itself.
use Rattle.std.specs.Prelude.{◌≡◌, ◌≤◌, ◌<◌, ℕ, ◌/◌, ◌+◌, Bool, true, false, List, length, slice_index, slice_index_or, All, filter_map}
use Rattle.std.specs.List.{IsDistinct}
use Rattle.std.specs.Str.{bytes_eq}
use Rattle.edge_base.specs.declared.geometry.Request.{Request}
use Rattle.edge_base.specs.layout.Places.{max_blocks_of, max_size_of}
use Rattle.edge_base.specs.tree.Slots.{Entry, Slots, pieces, is_name, slot_blocks, trimmed}
use Rattle.edge_base.specs.tree.Nodes.{Node, file, directory}

-- A file has bytes, at most the greatest size of them, a flag for each block up to its end, and zeros where a block is absent.
pub record IsFile (g : Request) (content : List ℕ) (present : List Bool) : Type 0 where
  pub bytes : All (λ byte. byte < 256) content
  pub size : length content ≤ max_size_of g
  pub flags : length present ≡ pieces g.block_size (length content)
  pub absent_zero : (k : ℕ) → slice_index_or present (k / g.block_size) false ≡ false → slice_index content k ≡ 0

-- the slots that are filled
abbrev pub entries_of_slots : Slots → List Entry
entries_of_slots slots = filter_map (λ slot. slot) slots

-- an entry has a name of the geometry, and the number of a node that is not the root
pub record IsEntry (g : Request) (e : Entry) : Type 0 where
  pub bytes : All (λ byte. byte < 256) e.name
  pub name : is_name g e.name ≡ true
  pub from : 3 ≤ e.number
  pub below : e.number < 2 + g.inodes

-- A directory's entries have different names; its last slot is filled; its blocks are no more than a node may have.
pub record IsDirectory (g : Request) (slots : Slots) : Type 0 where
  pub entries : All (IsEntry g) (entries_of_slots slots)
  pub apart : IsDistinct (λ a b. bytes_eq a.name b.name) (entries_of_slots slots)
  pub last_filled : trimmed slots ≡ slots
  pub size : slot_blocks g slots ≤ max_blocks_of g

abbrev pub IsNode : Request → Node → Type 0
IsNode g (file content present) = IsFile g content present
IsNode g (directory slots parent) = IsDirectory g slots
