-- What a disk in memory means, and what its calls do beyond what those of every disk do.
use Rattle.std.specs.Prelude.{◌≡◌, ◌≢◌, ◌<◌, ◌≤◌, ◌+◌, ℕ, List, [], ◌∷◌, ◌++◌, length, take, slice_index, slice_index_or, true, Contains, Result, OnOk, OnErr}
use Rattle.edge_disk.specs.Disk.{Origin}
use Rattle.edge_disk.specs.Slots.{block_in, remembered}
use Rattle.edge_disk.specs.declared.memory.MemoryDisk.{MemoryDisk}

-- the numbers of the calls that fail, and the number of the next call
abbrev pub fails_of : MemoryDisk → List ℕ
fails_of d = d.fails.items

abbrev pub calls_of : MemoryDisk → ℕ
calls_of d = d.calls

-- how many candidates beyond one for each block the disk can remember, and how many it does
abbrev pub room_of : MemoryDisk → ℕ
room_of d = length d.slots.items

abbrev pub used_of : MemoryDisk → ℕ
used_of d = d.used

-- what the disk was made with: besides the blocks its room, and the numbers of the calls that fail
abbrev pub origin_of : MemoryDisk → Origin
origin_of d = record {
  blocks = length d.image.items;
  block_size = d.block_size;
  shows = true;
  keeps = true;
  others = room_of d ∷ fails_of d;
}

abbrev pub shown_of : MemoryDisk → ℕ → List ℕ
shown_of d b = block_in d.image.items b

-- the candidates of a block beyond its shown bytes, in the order in which they joined: the bytes that a write replaced, or those of a write that failed
abbrev pub extra_of : MemoryDisk → ℕ → List (List ℕ)
extra_of d b = remembered b (take d.used d.slots.items)

-- all candidates of a block, the shown bytes first
abbrev pub candidates_of : MemoryDisk → ℕ → List (List ℕ)
candidates_of d b = shown_of d b ∷ extra_of d b

-- the candidate of a block whose number is picked for it
abbrev pub picked_of : MemoryDisk → List ℕ → ℕ → List ℕ
picked_of d pick b = slice_index_or (candidates_of d b) (slice_index pick b) []

abbrev pub may_hold_of : MemoryDisk → ℕ → List ℕ → Type 0
may_hold_of d b = Contains (candidates_of d b)

abbrev pub is_sure_of : MemoryDisk → ℕ → Type 0
is_sure_of d b = length (candidates_of d b) ≡ 1

abbrev pub faults_of : MemoryDisk → ℕ
faults_of d = d.faults

-- The two causes of a failure: the next call is one of those that fail, and no room is left.
abbrev pub IsListed : MemoryDisk → Type 0
IsListed d = Contains (fails_of d) (calls_of d)

abbrev pub IsFull : MemoryDisk → Type 0
IsFull d = used_of d ≡ room_of d

-- No further candidate has come or gone.
pub record SameExtra (old new : MemoryDisk) : Type 0 where
  pub extra : extra_of new ≡ extra_of old
  pub used : used_of new ≡ used_of old

-- A write of bytes to block b, in the further candidates. Where there is room, block b has one more: its
-- former shown bytes if the write answers Ok, and else the bytes of the write.
pub record ExtraAfterWrite {T E : Type 0} (b : ℕ) (bytes : List ℕ) (result : Result T E) (old new : MemoryDisk) : Type 0 where
  pub done : OnOk result (extra_of new b ≡ extra_of old b ++ shown_of old b ∷ [])
  pub failed : ¬ IsFull old → OnErr result (extra_of new b ≡ extra_of old b ++ bytes ∷ [])
  pub others : (k : ℕ) → k ≢ b → extra_of new k ≡ extra_of old k
  pub used : ¬ IsFull old → used_of new ≡ used_of old + 1
  pub full : IsFull old → SameExtra old new
  pub in_room : used_of new ≤ room_of new

-- A flush in the further candidates: where it answers Ok on a disk that has had no fault, none is left, and else all stay.
pub record ExtraAfterFlush {T E : Type 0} (result : Result T E) (old new : MemoryDisk) : Type 0 where
  pub none_left : faults_of old ≡ 0 → OnOk result ((k : ℕ) → extra_of new k ≡ [])
  pub room_again : faults_of old ≡ 0 → OnOk result (used_of new ≡ 0)
  pub failed : OnErr result (SameExtra old new)
  pub after_fault : 0 < faults_of old → SameExtra old new
