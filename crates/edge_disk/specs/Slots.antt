-- The blocks of a disk in memory, and the slots in which it remembers further candidates.
use Rattle.std.specs.Prelude.{◌≡◌, ◌≢◌, ◌<◌, ◌+◌, ℕ, ◌==◌, List, [], ◌∷◌, ◌++◌, length, map, filter, take, slice_index_or, Vec}
use Rattle.std.specs.List.{All}
use Rattle.std.specs.declared.alloc.Global.{Global}
use Rattle.edge_disk.specs.declared.slot.Slot.{Slot}

-- the bytes of block b, none where there is no such block
abbrev pub block_in : List (Vec ℕ Global) → ℕ → List ℕ
block_in image b = slice_index_or (map (λ (v : Vec ℕ Global). v.items) image) b []

-- the candidates in these slots that are block b's, as they joined
abbrev pub remembered : ℕ → List Slot → List (List ℕ)
remembered b slots = map (λ (s : Slot). s.bytes.items) (filter (λ (s : Slot). s.block == b) slots)

-- a block of n bytes
abbrev pub IsBlock : ℕ → List ℕ → Type 0
IsBlock n bytes = (length bytes ≡ n) × All (λ byte. byte < 256) bytes

-- each block, or each slot, has n bytes
abbrev pub AllBlocksHave : ℕ → List (Vec ℕ Global) → Type 0
AllBlocksHave n image = All (λ (v : Vec ℕ Global). IsBlock n v.items) image

abbrev pub AllSlotsHave : ℕ → List Slot → Type 0
AllSlotsHave n slots = All (λ (s : Slot). IsBlock n s.bytes.items) slots

-- One slot more is in use, by these bytes of block b.
pub record Remembers (b : ℕ) (bytes : List ℕ) (used : ℕ) (old new : List Slot) : Type 0 where
  pub here : remembered b (take (used + 1) new) ≡ remembered b (take used old) ++ bytes ∷ []
  pub elsewhere : (k : ℕ) → k ≢ b → remembered k (take (used + 1) new) ≡ remembered k (take used old)
