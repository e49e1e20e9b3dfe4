-- What the bitmap of used blocks means: two lists of truth values, those of the last point and the working ones. Where they are in imap
-- nodes, they are read off what blocks hold: `content`.
use Rattle.std.specs.Prelude.{◌≡◌, ◌≢◌, ◌⊎◌, ℕ, ◌+◌, ◌-◌, ◌*◌, ◌/◌, ◌<◌, ◌≤◌, ◌&&◌, not, min, max, Bool, true, false, count_by, List, length, drop}
use Rattle.std.specs.List.{range_with_len}
use Rattle.edge_base.specs.declared.geometry.Request.{Request}
use Rattle.edge_base.specs.layout.Bitmap.{bit_under, used_under, live_place}
use Rattle.edge_base.specs.layout.Bytes.{number_at, bit_in}
use Rattle.edge_base.specs.layout.Places.{imap_nodes_of, imap_place_of, table_start_of, first_allocable_of, allocable_of, root_bits_of}
use Rattle.edge_base.specs.layout.Sizes.{node_bits}
use Rattle.edge_base.specs.layout.Spelling.{SpellsImap, bits_of_node}
use Rattle.edge_alloc.specs.declared.Counts.{Counts}
use Rattle.edge_disk.specs.Disk.{Origin}
use Rattle.edge_imap.specs.declared.fault.BlockState.{BlockState}
use Rattle.edge_imap.specs.declared.fault.BlockState.TheVariants.{Free, Used, New, AlmostFree}

-- ---- two lists

-- A geometry, the bytes of the bitmap in the last metaroot and of the one in the next, and the counts.
pub record Bitmaps : Type 0 where
  pub geometry : Request
  pub committed : List ℕ
  pub working : List ℕ
  pub counts : Counts

abbrev pub bitmaps : Request → List ℕ → List ℕ → Counts → Bitmaps
bitmaps g committed working counts = record { geometry = g; committed = committed; working = working; counts = counts }

-- whether bit i is set in the list of the last point
abbrev pub committed_bit : Bitmaps → (ℕ → List ℕ) → ℕ → Bool
committed_bit m content i = bit_under m.geometry m.committed content i

-- and in the working one
abbrev pub working_bit : Bitmaps → (ℕ → List ℕ) → ℕ → Bool
working_bit m content i = bit_under m.geometry m.working content i

-- the same by blocks, from the inode table on: whether a block is used
abbrev pub committed_use : Bitmaps → (ℕ → List ℕ) → ℕ → Bool
committed_use m content b = used_under m.geometry m.committed content b

abbrev pub working_use : Bitmaps → (ℕ → List ℕ) → ℕ → Bool
working_use m content b = used_under m.geometry m.working content b

-- the bits of the bitmap: one for each block from the inode table on
abbrev pub bits_of : Request → ℕ
bits_of g = g.blocks - table_start_of g

-- the bit of the first allocable block
abbrev pub first_bit : Request → ℕ
first_bit g = 2 * g.inodes

-- the state of a block, by whether it is used in the last point and in the working list
abbrev pub state_of : Bool → Bool → BlockState
state_of true true = Used
state_of true false = AlmostFree
state_of false true = New
state_of false false = Free

-- whether a bit is clear in both lists
abbrev pub is_free_under : Request → List ℕ → List ℕ → (ℕ → List ℕ) → ℕ → Bool
is_free_under g committed working content i = not (bit_under g committed content i) && not (bit_under g working content i)

abbrev pub is_free_bit : Bitmaps → (ℕ → List ℕ) → ℕ → Bool
is_free_bit m content i = is_free_under m.geometry m.committed m.working content i

-- Of the used blocks that two lists tell, that of block b alone differs: the new list has this value there.
pub record ChangesUse (g : Request) (b : ℕ) (used : Bool) (old new : ℕ → Bool) : Type 0 where
  pub here : new b ≡ used
  pub others : (k : ℕ) → table_start_of g ≤ k → k ≢ b → new k ≡ old k

-- ---- the bytes of a root's bitmap

pub record IsRootBits (g : Request) (roots : List ℕ) : Type 0 where
  pub len : length roots + 32 ≡ g.block_size
  pub unused : (i : ℕ) → root_bits_of g ≤ i → i < 8 * length roots → bit_in 0 roots i ≡ false

pub record IsBitmaps (m : Bitmaps) : Type 0 where
  pub committed : IsRootBits m.geometry m.committed
  pub working : IsRootBits m.geometry m.working

-- the place of pair i that is not live
abbrev pub spare_place : Request → List ℕ → ℕ → ℕ
spare_place g roots i = imap_place_of g i (not (bit_in 0 roots i))

-- the pair of imap nodes that has a bit
abbrev pub node_of : Request → ℕ → ℕ
node_of g bit = bit / node_bits g.block_size

-- The bits of node j that stand for allocable blocks: so many, from its bit `first` on.
pub record IsWindow (g : Request) (j first len : ℕ) : Type 0 where
  pub begins : first ≡ min (bits_of_node g j) (first_bit g - j * node_bits g.block_size)
  pub ends : first + len ≡ bits_of_node g j

-- a block is the live place of a pair
abbrev pub IsLive : Request → List ℕ → ℕ → Type 0
IsLive g roots k = (j : ℕ) × (j < imap_nodes_of g) × (k ≡ live_place g roots j)

-- and under one of two roots
abbrev pub IsLiveUnder : Request → List ℕ → List ℕ → ℕ → Type 0
IsLiveUnder g committed working k = IsLive g committed k ⊎ IsLive g working k

abbrev pub IsNamed : Bitmaps → ℕ → Type 0
IsNamed m k = IsLiveUnder m.geometry m.committed m.working k

-- a block is the live place of the pair that holds a bit
abbrev pub HoldsBit : Request → List ℕ → ℕ → ℕ → Type 0
HoldsBit g roots bit k = (node_of g bit < imap_nodes_of g) × (k ≡ live_place g roots (node_of g bit))

-- and under one of two roots
abbrev pub HoldsBitUnder : Request → List ℕ → List ℕ → ℕ → ℕ → Type 0
HoldsBitUnder g committed working bit k = HoldsBit g committed bit k ⊎ HoldsBit g working bit k

abbrev pub IsNamedFor : Bitmaps → ℕ → ℕ → Type 0
IsNamedFor m bit k = HoldsBitUnder m.geometry m.committed m.working bit k

-- ---- the tie to a cache

-- the disk has blocks of this size, and enough of them
pub record IsFit (g : Request) (origin : Origin) : Type 0 where
  pub size : origin.block_size ≡ g.block_size
  pub blocks : g.blocks ≤ origin.blocks

-- these bytes are imap node j
abbrev pub IsNode : Request → ℕ → List ℕ → Type 0
IsNode g j b = SpellsImap g j (number_at 8 8 b) (drop 16 b) b

-- the live nodes under the bits of a root are nodes
abbrev pub HasNodes : Request → List ℕ → (ℕ → List ℕ) → Type 0
HasNodes g roots content = (j : ℕ) → j < imap_nodes_of g → IsNode g j (content (live_place g roots j))

-- how many bits of a list that stand for allocable blocks are clear
abbrev pub count_clear : Request → (ℕ → Bool) → ℕ
count_clear g list = count_by (λ i. not (list i)) (range_with_len (first_bit g) (allocable_of g))

-- and of those that are in the block of node j
abbrev pub count_in_node : Request → ℕ → List ℕ → ℕ
count_in_node g j b =
    let start = j * node_bits g.block_size in
    let low = max (first_bit g) start in
    count_by (λ i. not (bit_in 16 b i)) (range_with_len (low - start) (min (start + node_bits g.block_size) (bits_of g) - low))

-- how many allocable blocks neither list uses, and how many the list of the last point alone does
abbrev pub allocable_counts : Request → (ℕ → Bool) → (ℕ → Bool) → Counts
allocable_counts g committed working = record {
  free = count_by (λ b. not (committed b) && not (working b)) (range_with_len (first_allocable_of g) (allocable_of g));
  almost = count_by (λ b. committed b && not (working b)) (range_with_len (first_allocable_of g) (allocable_of g));
}

-- The counts after a block, of which the list of the last point says this, became used in the working list, or not used.
abbrev pub counts_after : Counts → Bool → Bool → Counts
counts_after c true true = record { free = c.free; almost = c.almost - 1 }
counts_after c true false = record { free = c.free; almost = min (c.almost + 1) 4294967295 }
counts_after c false true = record { free = c.free - 1; almost = c.almost }
counts_after c false false = record { free = min (c.free + 1) 4294967295; almost = c.almost }

-- and after the working list became that of the last point
abbrev pub counts_settled : Counts → Counts
counts_settled c = record { free = min (c.free + c.almost) 4294967295; almost = 0 }

-- The bitmap belongs to what blocks hold: the nodes that its bits name are there, and its counts are those of its lists.
pub record IsTied (m : Bitmaps) (content : ℕ → List ℕ) : Type 0 where
  pub committed : HasNodes m.geometry m.committed content
  pub working : HasNodes m.geometry m.working content
  pub counts : m.counts ≡ allocable_counts m.geometry (committed_use m content) (working_use m content)

-- the same bytes at the places of imap nodes
abbrev pub SameNodes : Request → (ℕ → List ℕ) → (ℕ → List ℕ) → Type 0
SameNodes g old new = (j : ℕ) (second : Bool) → j < imap_nodes_of g → new (imap_place_of g j second) ≡ old (imap_place_of g j second)
