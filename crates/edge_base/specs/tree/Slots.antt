-- The slots of a directory, as a list and as they stand in its blocks.
use Rattle.std.specs.Prelude.{ℕ, ◌+◌, ◌-◌, ◌*◌, ◌/◌, ◌==◌, ◌&&◌, ◌||◌, not, Bool, nat_le, List, [], ◌∷◌, ◌++◌, length, take, drop, replicate, Option, Some, None}
use Rattle.std.specs.List.{list_any}
use Rattle.std.specs.Str.{bytes_eq}
use Rattle.byteorder.specs.Endian.{little_bytes}
use Rattle.edge_base.specs.declared.geometry.Request.{Request}

-- a name and the number of the node that it names
pub record Entry : Type 0 where
  pub name : List ℕ
  pub number : ℕ

-- an empty slot is None
abbrev pub Slots : Type 0
Slots = List (Option Entry)

-- how many pieces of n hold so many
abbrev pub pieces : ℕ → ℕ → ℕ
pieces n count = (count + (n - 1)) / n

-- no name, or one that no entry may have: empty, `.`, `..`, or with a zero byte
abbrev pub is_bad_name : List ℕ → Bool
is_bad_name name = bytes_eq name [] || bytes_eq name (46 ∷ []) || bytes_eq name (46 ∷ 46 ∷ []) || list_any (λ b. b == 0) name

-- a name that an entry may have: 1 to the geometry's bytes, none of them zero or `/`, and neither `.` nor `..`
abbrev pub is_name : Request → List ℕ → Bool
is_name g name = not (is_bad_name name) && not (list_any (λ b. b == 47) name) && nat_le (length name) g.name_max

abbrev pub slots_in_block : Request → ℕ
slots_in_block g = g.block_size / (4 + g.name_max)

-- the blocks that hold the slots
abbrev pub slot_blocks : Request → Slots → ℕ
slot_blocks g slots = pieces (slots_in_block g) (length slots)

-- a slot: the number, and the name padded with zeros; an empty slot is all zero
abbrev pub slot_bytes : Request → Option Entry → List ℕ
slot_bytes g None = replicate (4 + g.name_max) 0
slot_bytes g (Some e) = little_bytes 4 e.number ++ e.name ++ replicate (g.name_max - length e.name) 0

-- the slots of block i
abbrev pub slots_of_block : Request → Slots → ℕ → Slots
slots_of_block g slots i = take (slots_in_block g) (drop (i * slots_in_block g) slots)

-- without the empty slots at the end
abbrev pub trimmed : Slots → Slots
trimmed [] = []
trimmed (slot ∷ slots) = onto slot (trimmed slots)
  where
    onto : Option Entry → Slots → Slots
    onto None [] = []
    onto None (next ∷ rest) = None ∷ next ∷ rest
    onto (Some e) rest = Some e ∷ rest
