-- What calls of a pointer tree answer where the views are told. s is a store as a call begins; old and new are it and the store after the
-- call.
use Rattle.std.specs.Prelude.{◌≡◌, ◌≢◌, ℕ, true, Result}
use Rattle.edge_base.specs.declared.form.Form.{Form}
use Rattle.edge_store.specs.declared.fault.StoreFault.{StoreFault}
use Rattle.edge_store.specs.declared.spot.Spot.{Spot}
use Rattle.edge_store.specs.Calls.{NeverDamaged, TellsDamage, TellsNoTangle}
use Rattle.edge_store.specs.Damages.{IsLinked}
use Rattle.edge_store.specs.Placed.{entry_at, data_block, pointer_at, IsShaped}
use Rattle.edge_store.specs.State.{StoreState, Told}
use Rattle.edge_store.specs.View.{is_spot, is_link, is_whole}
use Rattle.edge_moves.specs.Sound.{IsSound}

-- ---- damage

-- what is told is there, in the store as the call leaves it
abbrev pub TellsWhatIs : {T : Type 0} → StoreState → StoreState → Result T StoreFault → Type 0
TellsWhatIs old new result = Told old → TellsDamage new result

-- nothing is told of a node that has the shape of a node
abbrev pub NeverOnShaped : {T : Type 0} → StoreState → ℕ → Result T StoreFault → Type 0
NeverOnShaped s n result = Told s → IsShaped s.origin.request s.working n → NeverDamaged result

-- nothing is told of a node that can be read and whose pointers are sound
abbrev pub NeverOnSound : {T : Type 0} → StoreState → ℕ → Result T StoreFault → Type 0
NeverOnSound s n result = Told s → is_whole (s.working.inodes n) ≡ true → IsSound s.origin.request s.working n → NeverDamaged result

-- nothing is told of an inode that can be read, where the entry is absent or leads to an allocable block
abbrev pub NeverOnGoodEntry : {T : Type 0} → StoreState → ℕ → ℕ → Result T StoreFault → Type 0
NeverOnGoodEntry s n e result = Told s → is_whole (s.working.inodes n) ≡ true → is_link s.origin.request (entry_at s.working n e) ≡ true → NeverDamaged result

-- nothing is told of a pointer node that is used with its form and owner, where the pointer is absent or leads to an allocable block
abbrev pub NeverOnGoodPointer : {T : Type 0} → StoreState → Spot → ℕ → Result T StoreFault → Type 0
NeverOnGoodPointer s spot i result = Told s → is_spot s.working spot.form spot.owner spot.block ≡ true
    → is_link s.origin.request (pointer_at s.working spot.form spot.block i) ≡ true → NeverDamaged result

-- no tangled node is told
abbrev pub NeverTangled : {T : Type 0} → StoreState → Result T StoreFault → Type 0
NeverTangled s result = Told s → TellsNoTangle result

-- ---- links

-- a pointer of node n leads to the block, if there is one
abbrev pub IsLinkedTo : StoreState → ℕ → Form → ℕ → Type 0
IsLinkedTo s n form b = Told s → b ≢ 0 → IsLinked s.origin.request s.working n form b

-- a pointer of the spot's owner leads to it, if there is a block
abbrev pub IsLinkedSpot : StoreState → Spot → Type 0
IsLinkedSpot s spot = IsLinkedTo s spot.owner spot.form spot.block

-- the inode of number n can be read
abbrev pub IsReadable : StoreState → ℕ → Type 0
IsReadable s n = Told s → is_whole (s.working.inodes n) ≡ true

-- the block has its form and its owner, if there is one
abbrev pub IsSpotOf : StoreState → Spot → Type 0
IsSpotOf s spot = Told s → spot.block ≢ 0 → is_spot s.working spot.form spot.owner spot.block ≡ true

-- the pointer in a place of a pointer node, 0 where the node is absent
abbrev pub IsPointerAt : StoreState → Spot → ℕ → ℕ → Type 0
IsPointerAt s spot place b = Told s → b ≡ pointer_at s.working spot.form spot.block place

-- ---- data blocks

-- data block i of node n, 0 where it is absent
abbrev pub IsDataBlock : StoreState → ℕ → ℕ → ℕ → Type 0
IsDataBlock s n i b = Told s → b ≡ data_block s.origin.request s.working n i
