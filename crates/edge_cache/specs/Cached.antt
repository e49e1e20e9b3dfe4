-- What a cache means.
use Rattle.std.specs.Prelude.{◌≡◌, ℕ, ◌<◌, ◌≤◌, ◌-◌, ◌==◌, ◌⊎◌, false, not, List, ◌∷◌, length, take, filter, Contains, None, Result, OnOk, OnErr, IsTrue}
use Rattle.edge_cache.specs.Kept.{Kept}
use Rattle.edge_cache.specs.Places.{kept_at, blocks_of, AllApart}
use Rattle.edge_cache.specs.Given.{waiting, or_shown}
use Rattle.edge_disk.specs.Disk.{Origin}

-- a disk, and the buffers that hold a block of it, the last used first
pub record Cached (D : Type 0) : Type 0 where
  pub disk : D
  pub held : List Kept

-- the bytes of a block as reads give them: those that wait in its buffer, or else those that the disk shows
abbrev pub content : List Kept → (ℕ → List ℕ) → ℕ → List ℕ
content held shown b = or_shown (waiting held b) (shown b)

-- nothing waits
abbrev pub IsClean : List Kept → Type 0
IsClean held = (b : ℕ) → waiting held b ≡ None

-- ---- the list of held blocks

abbrev pub list_of : List Kept → List ℕ
list_of held = blocks_of held

-- how many blocks are held at most
abbrev pub most_held : ℕ
most_held = 32

-- the list after block b was used: b first, and at most as many as may be held
abbrev pub used_last : ℕ → List ℕ → List ℕ
used_last b list = take most_held (b ∷ filter (λ x. not (x == b)) list)

-- The list after a call on block b. A fault may take the block that was used longest ago out of a full list.
pub record Lists {T E : Type 0} (b : ℕ) (result : Result T E) (old new : List ℕ) : Type 0 where
  pub used : OnOk result (new ≡ used_last b old)
  pub fault : OnErr result ((new ≡ old) ⊎ (new ≡ take (most_held - 1) old))

-- a block that stays in the list keeps what waits of it
abbrev pub KeepsListed : List Kept → List Kept → Type 0
KeepsListed old new = (k : ℕ) → Contains (list_of new) k → waiting new k ≡ waiting old k

-- ---- what a cache keeps of its disk

pub record IsCache (origin : Origin) (shown : ℕ → List ℕ) (size : ℕ) (held : List Kept) : Type 0 where
  pub size_is : size ≡ origin.block_size
  pub few : length held ≤ most_held
  pub apart : AllApart (blocks_of held)
  pub in_range : (i : ℕ) → i < length held → (kept_at held i).block < origin.blocks
  -- a buffer that is not changed has the bytes that the disk shows
  pub same : IsTrue origin.shows → (i : ℕ) → i < length held → (kept_at held i).changed ≡ false
      → shown (kept_at held i).block ≡ (kept_at held i).bytes
