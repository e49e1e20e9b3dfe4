-- Numbers that are counted by the positions that lead to them.
use Rattle.std.specs.Prelude.{◌≡◌, ◌≤◌, ◌<◌, ℕ, ◌+◌, Bool, true, List}
use Rattle.edge_base.specs.tree.Positions.{Position, has}

-- Of the n numbers from a on, the positions lead by f to those that pass the test: each to one, no two to the same, and to each of them one.
pub record LeadTo (f : Position → ℕ) (ps : List Position) (test : ℕ → Bool) (a n : ℕ) : Type 0 where
  pub inside : (p : Position) → has ps p ≡ true → (a ≤ f p) × (f p < a + n) × (test (f p) ≡ true)
  pub once : (p q : Position) → has ps p ≡ true → has ps q ≡ true → f p ≡ f q → p ≡ q
  pub each : (b : ℕ) → a ≤ b → b < a + n → test b ≡ true → (p : Position) × (has ps p ≡ true) × (f p ≡ b)
