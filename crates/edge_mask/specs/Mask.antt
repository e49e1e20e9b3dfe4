-- Sets of events as masks.
use Rattle.std.specs.Prelude.{◌≡◌, ℕ}
use Rattle.std.specs.Int.{bit_at}
use Rattle.edge_mask.specs.declared.Events.{Events}

-- the mask of a set: the sum of its events' bits
abbrev pub mask_of : Events → ℕ
mask_of events = events.0

-- a mask has every bit of another
abbrev pub HasAll : ℕ → ℕ → Type 0
HasAll mask other = (i : ℕ) → bit_at other i ≡ 1 → bit_at mask i ≡ 1
