-- Bitmaps as truth values: bit i of a list of bytes is `bit_in 0 bytes i`.
use Rattle.std.specs.Prelude.{◌≡◌, ◌≤◌, ◌<◌, ◌+◌, ◌*◌, ◌==◌, ◌&&◌, ℕ, not, nat_le, nat_lt, Bool, true, false, List}
use Rattle.std.specs.Int.{bit_at}
use Rattle.edge_base.specs.layout.Bytes.{bit_in}

-- whether a bit is clear
abbrev pub is_clear : List ℕ → ℕ → Bool
is_clear bytes i = not (bit_in 0 bytes i)

-- The least number that passes a test, of those from one on and below another.
pub record IsLeast (test : ℕ → Bool) (from end i : ℕ) : Type 0 where
  pub at_least : from ≤ i
  pub below : i < end
  pub passes : test i ≡ true
  pub first : (k : ℕ) → from ≤ k → k < i → test k ≡ false

-- no number from one on, and below another, passes a test
abbrev pub NonePasses : (ℕ → Bool) → ℕ → ℕ → Type 0
NonePasses test from end = (k : ℕ) → from ≤ k → k < end → test k ≡ false

-- Bit i of the word w, of 64 bits, says whether 64 * w + i passes a test.
pub record HasBits (test : ℕ → Bool) (w word : ℕ) : Type 0 where
  pub bits : (i : ℕ) → i < 64 → (bit_at word i == 1) ≡ test (64 * w + i)

-- whether a number is from one on, and below another
abbrev pub is_within : ℕ → ℕ → ℕ → Bool
is_within from end k = nat_le from k && nat_lt k end
