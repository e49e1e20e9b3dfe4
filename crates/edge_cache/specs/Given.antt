-- What waits in buffers to be written, and what giving some of it up does to the disk.
use Rattle.std.specs.Prelude.{◌≡◌, ℕ, ◌==◌, Bool, ◌⊎◌, List, [], ◌∷◌, Option, Some, None, IsTrue, if◌then◌else◌}
use Rattle.edge_cache.specs.Kept.{Kept}

-- the bytes of a block that wait in a changed buffer
unfoldable pub waiting : List Kept → ℕ → Option (List ℕ)
waiting [] b = None
waiting (k ∷ ks) b = if k.block == b then (if k.changed then Some k.bytes else None) else waiting ks b

-- the bytes that wait, or else those that the disk shows
abbrev pub or_shown : Option (List ℕ) → List ℕ → List ℕ
or_shown None shown = shown
or_shown (Some bytes) shown = bytes

-- what waits after a change of block b, with what waited of b before it
abbrev pub except : ℕ → (ℕ → Option (List ℕ)) → (ℕ → Option (List ℕ)) → ℕ → Option (List ℕ)
except b w_old w_new k = if k == b then w_old k else w_new k

-- Some of what waited may have been written, each to its block, and nothing else has changed. `w_old` and `w_new`
-- tell what waits before and after.
pub record GivesUp (shows : Bool) (w_old w_new : ℕ → Option (List ℕ)) (shown_old shown_new : ℕ → List ℕ)
    (may_old may_new : ℕ → List ℕ → Type 0) (sure_old sure_new : ℕ → Type 0) : Type 0 where
  -- nothing waits that did not before
  pub fewer : (k : ℕ) (c : List ℕ) → w_new k ≡ Some c → w_old k ≡ Some c
  -- what waits no more is shown
  pub written : IsTrue shows → (k : ℕ) (c : List ℕ) → w_old k ≡ Some c → w_new k ≡ None → shown_new k ≡ c
  pub shown : (k : ℕ) → (shown_new k ≡ shown_old k) ⊎ (w_old k ≡ Some (shown_new k))
  -- a candidate that is added is what waited
  pub adds : (k : ℕ) (c : List ℕ) → may_new k c → may_old k c ⊎ (w_old k ≡ Some c)
  pub stays : (k : ℕ) (c : List ℕ) → w_old k ≡ None → may_old k c → may_new k c
  pub sure : (k : ℕ) → w_old k ≡ None → sure_new k → sure_old k
  pub sure_stays : (k : ℕ) → w_old k ≡ None → sure_old k → sure_new k

-- What waits, as `w` tells it, may have been written, each to its block, and nothing else of the disk has changed.
pub record Writes (w : ℕ → Option (List ℕ)) (shown_old shown_new : ℕ → List ℕ) (may_old may_new : ℕ → List ℕ → Type 0)
    (sure_old sure_new : ℕ → Type 0) : Type 0 where
  pub shown : (k : ℕ) → (shown_new k ≡ shown_old k) ⊎ (w k ≡ Some (shown_new k))
  pub adds : (k : ℕ) (c : List ℕ) → may_new k c → may_old k c ⊎ (w k ≡ Some c)
  pub stays : (k : ℕ) (c : List ℕ) → w k ≡ None → may_old k c → may_new k c
  pub sure : (k : ℕ) → w k ≡ None → sure_new k → sure_old k
  pub sure_stays : (k : ℕ) → w k ≡ None → sure_old k → sure_new k
