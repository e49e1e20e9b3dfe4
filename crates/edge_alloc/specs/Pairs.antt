-- Two bitmaps of the same blocks: those of the committed view, and those of the working one.
use Rattle.std.specs.Prelude.{ℕ, ◌+◌, max, ◌&&◌, not, Bool, count_by, List}
use Rattle.std.specs.List.{range_with_len}
use Rattle.edge_base.specs.layout.Bytes.{bit_in}
use Rattle.edge_bits.specs.Bits.{IsLeast, NonePasses}
use Rattle.edge_alloc.specs.declared.Counts.{Counts}
use Rattle.edge_alloc.specs.declared.Window.{Window}

-- whether a bit is clear in both
abbrev pub is_free : List ℕ → List ℕ → ℕ → Bool
is_free committed working i = not (bit_in 0 committed i) && not (bit_in 0 working i)

-- the least free bit of a window from a number on, and that there is none
abbrev pub IsLeastFree : List ℕ → List ℕ → Window → ℕ → ℕ → Type 0
IsLeastFree committed working w from i = IsLeast (is_free committed working) (max w.first from) (w.first + w.len) i

abbrev pub NoneIsFree : List ℕ → List ℕ → Window → ℕ → Type 0
NoneIsFree committed working w from = NonePasses (is_free committed working) (max w.first from) (w.first + w.len)

-- whether a bit is set in the committed bitmap, and clear in the working one
abbrev pub is_almost_free : List ℕ → List ℕ → ℕ → Bool
is_almost_free committed working i = bit_in 0 committed i && not (bit_in 0 working i)

-- how many bits of a window are free, and how many almost free
abbrev pub counts_of : List ℕ → List ℕ → Window → Counts
counts_of committed working w = record {
  free = count_by (is_free committed working) (range_with_len w.first w.len);
  almost = count_by (is_almost_free committed working) (range_with_len w.first w.len);
}
