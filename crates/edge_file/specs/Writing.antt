-- What calls do that write bytes of a node, where the views are told. s is a store as a call begins; old and new are it and the store
-- after the call.
use Rattle.std.specs.Prelude.{◌≡◌, ◌≢◌, ◌<◌, ◌≤◌, ℕ, max, false, List, Option, Some, None, replicate}
use Rattle.edge_base.specs.declared.node.Head.{Head}
use Rattle.edge_store.specs.Effects.{HeadSet}
use Rattle.edge_store.specs.Placed.{HasPlaces, IsOnce, IsSized}
use Rattle.edge_store.specs.State.{StoreState, Told}
use Rattle.edge_store.specs.View.{View, entries_of_inode, free_now, head_of_inode}
use Rattle.edge_shape.specs.Shape.{HasShape}
use Rattle.edge_file.specs.Bytes.{blocks_under, size_at}
use Rattle.edge_file.specs.Rewritten.{fresh_on, IsWritten}
use Rattle.edge_file.specs.Shortened.{has_rest, rest_of, shortening_need, IsShortened}

-- as many blocks are free as positions on the chains of a range are not new
abbrev pub RoomForBytes : StoreState → ℕ → ℕ → ℕ → Type 0
RoomForBytes s n at len =
    fresh_on s.origin.request s.committed s.working n (blocks_under s.origin.request at len)
    ≤ free_now s.origin.request s.committed s.working

abbrev pub IsNodeSized : StoreState → ℕ → Type 0
IsNodeSized s n = IsSized s.origin.request s.working n

-- Bytes of node n are written from a place on, if it had the shape of a node.
abbrev pub WritesBytes : StoreState → StoreState → ℕ → ℕ → List ℕ → Type 0
WritesBytes old new n at bytes = Told old → (indices : List ℕ)
    → HasPlaces old.origin.request old.working n indices → IsOnce old.origin.request old.working n indices
    → IsWritten old.origin.request old.committed old.working new.working n at bytes indices

-- a head with at least this size
abbrev pub grown : Option Head → ℕ → Option Head
grown (Some head) size = Some (record head { size = max head.size size })
grown None size = None

-- node n has at least this size, and its head is as it was in all else
abbrev pub GrowsTo : StoreState → StoreState → ℕ → ℕ → Type 0
GrowsTo old new n size = Told old → head_of_inode (new.working.inodes n) ≡ grown (head_of_inode (old.working.inodes n)) size

-- The head of node n is set to one with at least this size, as it was in all else, and nothing else changes.
abbrev pub GrowsHead : StoreState → StoreState → ℕ → ℕ → Type 0
GrowsHead old new n size = Told old → (head : Head) → head_of_inode (old.working.inodes n) ≡ Some head
    → HeadSet old.working new.working n (record head { size = max head.size size })

-- each inode but that of number n stays
abbrev pub KeepsInodesBut : StoreState → StoreState → ℕ → Type 0
KeepsInodesBut old new n = Told old → (x : ℕ) → x ≢ n → new.working.inodes x ≡ old.working.inodes x

-- From v to w all blocks stay, the other inodes, and the entries of node n.
pub record SameBlocks (v w : View) (n : ℕ) : Type 0 where
  pub blocks : w.blocks ≡ v.blocks
  pub others : (m : ℕ) → m ≢ n → w.inodes m ≡ v.inodes m
  pub entries : entries_of_inode (w.inodes n) ≡ entries_of_inode (v.inodes n)

abbrev pub KeepsBlocks : StoreState → StoreState → ℕ → Type 0
KeepsBlocks old new n = Told old → SameBlocks old.working new.working n

-- ---- another size

-- as many blocks are free as shortening needs
abbrev pub RoomToShorten : StoreState → ℕ → ℕ → Type 0
RoomToShorten s n size = shortening_need s.origin.request s.committed s.working n size ≤ free_now s.origin.request s.committed s.working

-- as many as another size needs: none, where it is no less
abbrev pub RoomForSize : StoreState → ℕ → ℕ → Type 0
RoomForSize s n size = size < size_at s.working n → RoomToShorten s n size

-- the bytes of the last block behind the size are zeros
abbrev pub ClearsRest : StoreState → StoreState → ℕ → ℕ → Type 0
ClearsRest old new n size = WritesBytes old new n size (replicate (rest_of old.origin.request old.working n size) 0)

-- where there are none, all stays
abbrev pub StaysWithoutRest : StoreState → StoreState → ℕ → ℕ → Type 0
StaysWithoutRest old new n size = Told old → has_rest old.origin.request old.working n size ≡ false → new.working ≡ old.working

-- Node n is cut behind so many bytes, if it had the shape of a node.
abbrev pub Shortens : StoreState → StoreState → ℕ → ℕ → Type 0
Shortens old new n size = Told old → (indices : List ℕ) → HasShape old.origin.request old.working n indices
    → IsShortened old.origin.request old.committed old.working new.working n size indices

-- the same where it had more bytes; else all blocks stay
abbrev pub ShortensTo : StoreState → StoreState → ℕ → ℕ → Type 0
ShortensTo old new n size = Told old → size < size_at old.working n → Shortens old new n size

abbrev pub LengthensTo : StoreState → StoreState → ℕ → ℕ → Type 0
LengthensTo old new n size = Told old → size_at old.working n ≤ size → SameBlocks old.working new.working n

-- Where node n had no more bytes, its head is set to one with this size, as it was in all else, and nothing else changes.
abbrev pub LengthensHead : StoreState → StoreState → ℕ → ℕ → Type 0
LengthensHead old new n size = Told old → (head : Head) → head_of_inode (old.working.inodes n) ≡ Some head → head.size ≤ size
    → HeadSet old.working new.working n (record head { size = size })

-- a head with this size
abbrev pub sized : Option Head → ℕ → Option Head
sized (Some head) size = Some (record head { size = size })
sized None size = None

-- node n has this size, and its head is as it was in all else
abbrev pub SetsSize : StoreState → StoreState → ℕ → ℕ → Type 0
SetsSize old new n size = Told old → head_of_inode (new.working.inodes n) ≡ sized (head_of_inode (old.working.inodes n)) size
