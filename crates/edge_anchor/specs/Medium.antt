-- A disk with what waits above it, and what is kept of both so that a cut of the power leaves the last point, or the one under way.
use Rattle.std.specs.Prelude.{◌≡◌, ◌⊎◌, ℕ, List, Option, Some, None}
use Rattle.edge_cache.specs.Cached.{Cached}
use Rattle.edge_cache.specs.Given.{waiting}
use Rattle.edge_disk.specs.Disk.{DiskState}
use Rattle.edge_disk.specs.State.{disk_of}
use Rattle.edge_disk.specs.declared.disk.Disk.{Ghosts}
use Rattle.edge_anchor.specs.Anchor.{Anchor, HangsOn, IsRoot, LeadsTo, Needs, Loses, IsNext, spare_of}

-- ---- a medium

-- A disk, and the bytes that wait in a cache to be written to it.
pub record Medium : Type 1 where
  pub disk : DiskState
  pub waits : ℕ → Option (List ℕ)

abbrev pub medium_of : {D : Type 0} → Ghosts D → Cached D → Medium
medium_of g c = record { disk = disk_of g c.disk; waits = waiting c.held }

-- As if a cut left what is shown: each block has that as its one candidate. So what is said of images that a cut leaves is said of the
-- shown one, where a disk tells no candidates.
abbrev pub shown_alone : Medium → Medium
shown_alone m = record {
  disk = record { origin = m.disk.origin; shown = m.disk.shown; may_hold = λ k c. c ≡ m.disk.shown k; is_sure = λ k. Unit {0}; faults = m.disk.faults };
  waits = m.waits;
}

-- ---- what is kept

-- Each block that is meant has one candidate, and nothing waits for it.
pub record AreKept (IsMeant : ℕ → Type 0) (m : Medium) : Type 0 where
  pub sure : (k : ℕ) → IsMeant k → m.disk.is_sure k
  pub idle : (k : ℕ) → IsMeant k → m.waits k ≡ None

-- Each candidate of a block is such, and what waits for it.
pub record HoldsOnly (b : ℕ) (IsSuch : List ℕ → Type 0) (m : Medium) : Type 0 where
  pub candidates : (c : List ℕ) → m.disk.may_hold b c → IsSuch c
  pub waiting : (c : List ℕ) → m.waits b ≡ Some c → IsSuch c

-- Between two points: what the last one needs is kept, and the spare metaroot loses, whichever of its candidates a cut leaves.
pub record IsCommitted (a : Anchor) (m : Medium) : Type 0 where
  pub hangs : HangsOn a m.disk.shown
  pub root : IsRoot a (m.disk.shown a.place)
  pub needed : AreKept (Needs a) m
  pub spare : HoldsOnly (spare_of a) (Loses a) m

-- Inside a point, from its first flush on: what the next metaroot b leads to is kept too, and the spare one may be b.
pub record IsTurning (a b : Anchor) (m : Medium) : Type 0 where
  pub next : IsNext a b
  pub hangs : HangsOn a m.disk.shown
  pub root : IsRoot a (m.disk.shown a.place)
  pub hangs_next : HangsOn b m.disk.shown
  pub needed : AreKept (λ k. Needs a k ⊎ LeadsTo b k) m
  pub spare : HoldsOnly (spare_of a) (λ c. Loses a c ⊎ IsRoot b c) m

-- ---- what calls do

-- what may be written to a block: what waits for it, or what it is given
abbrev pub MayWrite : (ℕ → List ℕ → Type 0) → Medium → ℕ → List ℕ → Type 0
MayWrite IsGiven m k c = (m.waits k ≡ Some c) ⊎ IsGiven k c

-- From m it has come to n by calls that give blocks these bytes: what waited may have been written, and the disk flushed.
pub record Follows (IsGiven : ℕ → List ℕ → Type 0) (m n : Medium) : Type 0 where
  pub waits : (k : ℕ) (c : List ℕ) → n.waits k ≡ Some c → MayWrite IsGiven m k c
  pub shown : (k : ℕ) → (n.disk.shown k ≡ m.disk.shown k) ⊎ MayWrite IsGiven m k (n.disk.shown k)
  pub adds : (k : ℕ) (c : List ℕ) → n.disk.may_hold k c → m.disk.may_hold k c ⊎ MayWrite IsGiven m k c
  pub sure : (k : ℕ) → ((c : List ℕ) → MayWrite IsGiven m k c → ⊥) → m.disk.is_sure k → n.disk.is_sure k

-- calls that give nothing
abbrev pub none_given : ℕ → List ℕ → Type 0
none_given k c = ⊥

-- one that gives block b these bytes
abbrev pub one_given : ℕ → List ℕ → ℕ → List ℕ → Type 0
one_given b bytes k c = (k ≡ b) × (c ≡ bytes)
