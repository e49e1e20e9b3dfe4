-- Numbers of inodes, by the bits of their two places. Number n has the bits 2 * (n - 2) and the one behind it: a pair.
use Rattle.std.specs.Prelude.{◌≡◌, ◌<◌, ℕ, ◌+◌, ◌*◌, ◌%◌, ◌==◌, ◌&&◌, not, Bool, false, true, count_by, List, drop}
use Rattle.std.specs.List.{range_with_len}
use Rattle.edge_base.specs.declared.geometry.Request.{Request}
use Rattle.edge_base.specs.layout.Bitmap.{bit_under}
use Rattle.edge_base.specs.layout.Bytes.{bit_in}
use Rattle.edge_base.specs.layout.Places.{inode_place_of}
use Rattle.edge_base.specs.layout.Sizes.{node_bits}

-- whether a number has no inode, by the blocks that are used: neither of its places is
abbrev pub is_free_number : Request → (ℕ → Bool) → ℕ → Bool
is_free_number g used n = not (used (inode_place_of g n false)) && not (used (inode_place_of g n true))

-- how many numbers have none
abbrev pub free_inodes_of : Request → (ℕ → Bool) → ℕ
free_inodes_of g used = count_by (is_free_number g used) (range_with_len 2 g.inodes)

-- whether i is the even bit of a pair of clear bits, of those that a test says are set
abbrev pub is_pair : (ℕ → Bool) → ℕ → Bool
is_pair bit i = not (bit i) && not (bit (i + 1)) && (i % 2 == 0)

abbrev pub is_clear_pair : List ℕ → ℕ → Bool
is_clear_pair bytes i = is_pair (bit_in 0 bytes) i

-- the same of the bitmap under the bits of a root
abbrev pub is_pair_under : Request → List ℕ → (ℕ → List ℕ) → ℕ → Bool
is_pair_under g roots content i = is_pair (bit_under g roots content) i

-- The pairs of the inode table in a node of which these are the bytes are those of the bitmap.
abbrev pub HasTable : Request → List ℕ → (ℕ → List ℕ) → ℕ → List ℕ → Type 0
HasTable g roots content node b = (k : ℕ) → k < node_bits g.block_size
    → is_clear_pair (drop 16 b) k ≡ is_pair_under g roots content (node * node_bits g.block_size + k)
