-- What an object over a disk was made with, and that a call leaves the disk below as it was.
use Rattle.std.specs.Prelude.{ℕ, Bool, List}
use Rattle.edge_base.specs.declared.geometry.Request.{Request}

-- What an object over a disk was made with, which no call changes.
pub record Origin : Type 0 where
  pub request : Request
  -- whether the bytes that reads of the disk below give are told
  pub tells : Bool
  -- whatever else it was made with, as numbers
  pub others : List ℕ

-- No candidate of the disk below has changed: neither what a block may hold, nor which blocks have one candidate.
pub record SameBelow (may_old may_new : ℕ → List ℕ → Type 0) (sure_old sure_new : ℕ → Type 0) : Type 0 where
  pub adds_none : (k : ℕ) (c : List ℕ) → may_new k c → may_old k c
  pub stays : (k : ℕ) (c : List ℕ) → may_old k c → may_new k c
  pub sure : (k : ℕ) → sure_new k → sure_old k
  pub sure_stays : (k : ℕ) → sure_old k → sure_new k
