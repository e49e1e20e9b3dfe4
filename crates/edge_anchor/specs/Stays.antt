-- What leaves a view as it was.
use Rattle.std.specs.Prelude.{◌≡◌, ℕ, Bool, true, List}

-- A block is used exactly where it was, and where it was it holds the bytes that it held.
pub record BlockStays (used now : ℕ → Bool) (old new : ℕ → List ℕ) (b : ℕ) : Type 0 where
  pub same_use : now b ≡ used b
  pub bytes : used b ≡ true → new b ≡ old b
