-- What calls over the bytes of a node answer where the views are told. s is a store as a call begins.
use Rattle.std.specs.Prelude.{◌≡◌, ℕ, ◌<◌, ◌≤◌, ◌-◌, ◌++◌, true, min, List, length, drop, Some, Result}
use Rattle.edge_base.specs.declared.node.Head.{Head}
use Rattle.edge_base.specs.layout.Places.{max_size_of}
use Rattle.edge_store.specs.declared.fault.StoreFault.{StoreFault}
use Rattle.edge_store.specs.Calls.{NeverDamaged}
use Rattle.edge_store.specs.Placed.{IsSized}
use Rattle.edge_store.specs.State.{StoreState, Told}
use Rattle.edge_store.specs.View.{head_of_inode, is_whole}
use Rattle.edge_file.specs.Bytes.{bytes_at, size_at}

-- nothing is told of a node of a proper shape, whose size is at most the greatest, and that has no data block past its end
abbrev pub NeverOnSized : {T : Type 0} → StoreState → ℕ → Result T StoreFault → Type 0
NeverOnSized s n result = Told s → IsSized s.origin.request s.working n → NeverDamaged result

-- the head of node n, which it has
abbrev pub HasHead : StoreState → ℕ → Head → Type 0
HasHead s n head = Told s → head_of_inode (s.working.inodes n) ≡ Some head

-- bytes of node n from a place on
abbrev pub AreBytesAt : StoreState → ℕ → ℕ → List ℕ → Type 0
AreBytesAt s n at bytes = Told s → bytes ≡ bytes_at s.origin.request s.working n at (length bytes)

-- how many of so many bytes from a place on node n has
abbrev pub IsCountAt : StoreState → ℕ → ℕ → ℕ → ℕ → Type 0
IsCountAt s n at len count = Told s → count ≡ min len (size_at s.working n - at)

-- the first so many bytes of a list are those of node n from a place on, and the others as they were
abbrev pub ReadsInto : StoreState → ℕ → ℕ → List ℕ → List ℕ → ℕ → Type 0
ReadsInto s n at old new count = Told s → new ≡ bytes_at s.origin.request s.working n at count ++ drop count old

-- node n can be read, and its size is greater than that of any file
abbrev pub IsTooGreat : StoreState → ℕ → Type 0
IsTooGreat s n = Told s → (head : Head) × (head_of_inode (s.working.inodes n) ≡ Some head) × (max_size_of s.origin.request < head.size)

-- nothing is told of a node whose head can be read and has at most the greatest size
abbrev pub NeverOnHead : {T : Type 0} → StoreState → ℕ → Result T StoreFault → Type 0
NeverOnHead s n result = Told s → (head : Head) → head_of_inode (s.working.inodes n) ≡ Some head → head.size ≤ max_size_of s.origin.request
    → NeverDamaged result

-- nothing is told of an inode that can be read
abbrev pub NeverOnWhole : {T : Type 0} → StoreState → ℕ → Result T StoreFault → Type 0
NeverOnWhole s n result = Told s → is_whole (s.working.inodes n) ≡ true → NeverDamaged result
