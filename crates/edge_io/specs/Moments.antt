-- Moments that come from a clock.
use Rattle.std.specs.Prelude.{◌≡◌, ◌<◌, ◌≤◌, ℕ, List, length, drop, slice_get, Some}

-- A clock gave the first of the moments left. It takes it where another is left, and else keeps it.
pub record GivesMoment (moment : ℕ) (before after : List ℕ) : Type 0 where
  pub first : slice_get before 0 ≡ Some moment
  pub taken : 1 < length before → after ≡ drop 1 before
  pub kept : length before ≤ 1 → after ≡ before
