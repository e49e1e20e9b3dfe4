-- The search for a number that passes a test, from one on and round.
use Rattle.std.specs.Prelude.{ℕ, ◌⊎◌, max, ◌&&◌, not, nat_le, false, Bool, List, Option, Some, None, ◌≤◌, ◌<◌}
use Rattle.edge_base.specs.layout.Bytes.{bit_in}
use Rattle.edge_bits.specs.Bits.{IsLeast, NonePasses}

-- The least number that passes from `from` on, of those from `first` on and below `end`; where there is none, the least of all.
abbrev pub IsNext : (ℕ → Bool) → ℕ → ℕ → ℕ → ℕ → Type 0
IsNext test first end from i = IsLeast test (max first from) end i ⊎ (NonePasses test (max first from) end × IsLeast test first end i)

-- a number lies within bounds
abbrev pub IsWithin : ℕ → ℕ → ℕ → Type 0
IsWithin first end i = (first ≤ i) × (i < end)

-- what a search round answers: None exactly where no number passes
abbrev pub Finds : (ℕ → Bool) → ℕ → ℕ → ℕ → Option ℕ → Type 0
Finds test first end from None = NonePasses test first end
Finds test first end from (Some i) = IsNext test first end from i

-- what a search from the lowest number on answers
abbrev pub FindsLeast : (ℕ → Bool) → ℕ → ℕ → Option ℕ → Type 0
FindsLeast test first end None = NonePasses test first end
FindsLeast test first end (Some i) = IsLeast test first end i

-- whether a bit is clear in two nodes
abbrev pub is_clear_in : List ℕ → List ℕ → ℕ → Bool
is_clear_in b d i = not (bit_in 16 b i) && not (bit_in 16 d i)

-- whether a number was found, and lies from `from` on
abbrev pub reaches : Option ℕ → ℕ → Bool
reaches None from = false
reaches (Some i) from = nat_le from i
