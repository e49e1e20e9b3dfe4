-- What the bytes of a block read as.
use Rattle.std.specs.Prelude.{ℕ, ◌+◌, ◌-◌, ◌*◌, ◌/◌, ◌%◌, ◌==◌, not, Bool, List, length, map, slice_range, slice_index}
use Rattle.std.specs.List.{list_all, range_with_len}
use Rattle.std.specs.Int.{bit_at}
use Rattle.byteorder.specs.Endian.{little_from, big_from}

-- the number in the n bytes from a place on, the lowest first
unfoldable pub number_at : ℕ → ℕ → List ℕ → ℕ
number_at at n b = little_from at n b

-- the first four bytes as one number, the highest first
unfoldable pub signature_in : List ℕ → ℕ
signature_in b = big_from 0 4 b

-- n numbers of four bytes each from a place on
abbrev pub numbers_at : ℕ → ℕ → List ℕ → List ℕ
numbers_at from n b = map (λ i. number_at (from + 4 * i) 4 b) (range_with_len 0 n)

-- whether the bytes from one place to another are all zero
unfoldable pub is_zero : ℕ → ℕ → List ℕ → Bool
is_zero from to b = list_all (λ x. x == 0) (slice_range b from to)

-- Bit i of a bitmap that begins at a place: the least significant first of its byte i / 8.
unfoldable pub bit_in : ℕ → List ℕ → ℕ → Bool
bit_in from b i = bit_at (slice_index b (from + i / 8)) (i % 8) == 1

-- whether the bits of a bitmap from number count on to the block's end are clear
unfoldable pub clear_from : ℕ → ℕ → List ℕ → Bool
clear_from count from b = list_all (λ i. not (bit_in from b i)) (range_with_len count (8 * (length b - from) - count))
