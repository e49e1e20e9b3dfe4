-- The bytes of a node: those of its data blocks, one block behind the other.
use Rattle.std.specs.Prelude.{ℕ, ◌+◌, ◌*◌, ◌-◌, ◌/◌, ◌%◌, ◌&&◌, Bool, nat_le, nat_lt, if◌then◌else◌, List, length, map, filter, flat_map, slice_index, Option, Some, None}
use Rattle.std.specs.List.{range_with_len}
use Rattle.edge_base.specs.declared.form.Form.TheVariants.{Plain}
use Rattle.edge_base.specs.declared.geometry.Request.{Request}
use Rattle.edge_base.specs.declared.node.Head.{Head}
use Rattle.edge_base.specs.layout.Places.{max_blocks_of}
use Rattle.edge_base.specs.tree.Nodes.{Node, file, directory, indices_of, block_of}
use Rattle.edge_store.specs.Placed.{data_block}
use Rattle.edge_store.specs.View.{View, bytes_in, content_at, head_of_inode}

-- byte k of node n: 0 where its block is absent, since block 0 is never used
unfoldable pub byte_of : Request → View → ℕ → ℕ → ℕ
byte_of g v n k = slice_index (bytes_in (content_at v Plain (data_block g v n (k / g.block_size)))) (k % g.block_size)

-- so many bytes of node n from a place on
unfoldable pub bytes_at : Request → View → ℕ → ℕ → ℕ → List ℕ
bytes_at g v n at len = map (byte_of g v n) (range_with_len at len)

-- bytes, told by their places, with others from a place on
abbrev pub with_bytes : (ℕ → ℕ) → ℕ → List ℕ → ℕ → ℕ
with_bytes old at new k = if nat_le at k && nat_lt k (at + length new) then slice_index new (k - at) else old k

-- the byte list of a node without blocks: a file's content, or the blocks of a directory, one behind the other
abbrev pub bytes_of : Request → Node → List ℕ
bytes_of g (file content present) = content
bytes_of g (directory slots parent) = flat_map (block_of g (directory slots parent)) (indices_of g (directory slots parent))

-- ---- sizes

abbrev pub size_in : Option Head → ℕ
size_in (Some head) = head.size
size_in None = 0

-- the bytes of node n up to its end are so many
abbrev pub size_at : View → ℕ → ℕ
size_at v n = size_in (head_of_inode (v.inodes n))

-- ---- the data blocks of a range

-- whether data block i has one of so many bytes from a place on
abbrev pub is_under : Request → ℕ → ℕ → ℕ → Bool
is_under g at len i = nat_lt 0 len && nat_lt at (i * g.block_size + g.block_size) && nat_lt (i * g.block_size) (at + len)

-- the data blocks that have
unfoldable pub blocks_under : Request → ℕ → ℕ → List ℕ
blocks_under g at len = filter (is_under g at len) (range_with_len 0 (max_blocks_of g))
