-- What a disk means: what it was made with, what reads give, and what a cut of the power may leave.
-- Candidates are told by two predicates: what a block may hold, and that it has one candidate alone.
use Rattle.std.specs.Prelude.{◌≡◌, ◌≢◌, ◌⊎◌, ◌<◌, ℕ, Bool, List, Result, OnOk, OnErr, IsTrue}

-- What a disk was made with, which no call changes.
pub record Origin : Type 0 where
  pub blocks : ℕ
  pub block_size : ℕ
  -- whether the bytes that reads give are told
  pub shows : Bool
  -- whether the candidates are told
  pub keeps : Bool
  -- whatever else the disk was made with, as numbers
  pub others : List ℕ

-- What a disk means, as one value: the members of its trait. `specs/State.antt` gives that of a disk.
pub record DiskState : Type 1 where
  pub origin : Origin
  -- what reads give
  pub shown : ℕ → List ℕ
  -- what a block may be found to hold after a cut of the power
  pub may_hold : ℕ → List ℕ → Type 0
  -- the blocks with one candidate alone
  pub is_sure : ℕ → Type 0
  pub faults : ℕ

-- A write of bytes to block b, in what reads give before and after it.
pub record ShownAfterWrite {T E : Type 0} (origin : Origin) (b : ℕ) (bytes : List ℕ) (result : Result T E) (old new : ℕ → List ℕ) : Type 0 where
  pub done : IsTrue origin.shows → OnOk result (new b ≡ bytes)
  pub either : (new b ≡ bytes) ⊎ (new b ≡ old b)
  pub others : (k : ℕ) → k ≢ b → new k ≡ old k

-- The same in the candidates. The count of faults is the one before the write.
pub record MayAfterWrite {T E : Type 0} (origin : Origin) (b : ℕ) (bytes : List ℕ) (result : Result T E) (faults : ℕ)
    (old new : ℕ → List ℕ → Type 0) : Type 0 where
  pub there : IsTrue origin.keeps → OnOk result (new b bytes)
  pub adds : (c : List ℕ) → new b c → old b c ⊎ (c ≡ bytes)
  pub failed : OnErr result ((c : List ℕ) → old b c → new b c)
  pub after_fault : 0 < faults → (c : List ℕ) → old b c → new b c
  pub others : (k : ℕ) (c : List ℕ) → k ≢ b → new k c → old k c
  pub others_stay : (k : ℕ) (c : List ℕ) → k ≢ b → old k c → new k c

-- The same in which blocks have one candidate.
pub record SureAfterWrite {T E : Type 0} (b : ℕ) (result : Result T E) (faults : ℕ) (old new : ℕ → Type 0) : Type 0 where
  pub failed : OnErr result (new b → old b)
  pub after_fault : 0 < faults → new b → old b
  pub others : (k : ℕ) → k ≢ b → new k → old k
  pub others_stay : (k : ℕ) → k ≢ b → old k → new k

-- A flush removes candidates only where it answers Ok on a disk that has had no fault.
pub record MayAfterFlush {T E : Type 0} (result : Result T E) (faults : ℕ) (old new : ℕ → List ℕ → Type 0) : Type 0 where
  pub adds_none : (k : ℕ) (c : List ℕ) → new k c → old k c
  pub failed : OnErr result ((k : ℕ) (c : List ℕ) → old k c → new k c)
  pub after_fault : 0 < faults → (k : ℕ) (c : List ℕ) → old k c → new k c

pub record SureAfterFlush {T E : Type 0} (origin : Origin) (result : Result T E) (faults : ℕ) (old new : ℕ → Type 0) : Type 0 where
  pub done : IsTrue origin.keeps → faults ≡ 0 → OnOk result ((k : ℕ) → new k)
  pub stays : (k : ℕ) → old k → new k
  pub failed : OnErr result ((k : ℕ) → new k → old k)
  pub after_fault : 0 < faults → (k : ℕ) → new k → old k
