-- What a number of a tree has: a file or a directory, as bytes and slots, without blocks.
use Rattle.std.specs.Prelude.{ℕ, ◌+◌, ◌-◌, ◌*◌, Bool, true, false, List, [], ◌∷◌, ◌++◌, length, take, drop, replicate, flat_map}
use Rattle.std.specs.List.{range_with_len}
use Rattle.edge_base.specs.declared.geometry.Request.{Request}
use Rattle.edge_base.specs.declared.node.NodeType.{NodeType}
use Rattle.edge_base.specs.declared.node.NodeType.TheVariants.{File, Directory}
use Rattle.edge_base.specs.tree.Slots.{Slots, slot_blocks, slots_of_block, slot_bytes}

-- A file is its bytes, and for each of its blocks whether it is present. A directory is its slots and the number of the directory that names it, 0 for the
-- root.
pub data Node : Type 0 where
  file : List ℕ → List Bool → Node
  directory : Slots → ℕ → Node

-- the indices whose flag is set, counted from i
abbrev pub marked_from : ℕ → List Bool → List ℕ
marked_from i [] = []
marked_from i (true ∷ flags) = i ∷ marked_from (i + 1) flags
marked_from i (false ∷ flags) = marked_from (i + 1) flags

-- the indices of a node's data blocks
abbrev pub indices_of : Request → Node → List ℕ
indices_of g (file content present) = marked_from 0 present
indices_of g (directory slots parent) = range_with_len 0 (slot_blocks g slots)

abbrev pub kind_of : Node → NodeType
kind_of (file content present) = File
kind_of (directory slots parent) = Directory

-- the size in bytes
abbrev pub size_of : Request → Node → ℕ
size_of g (file content present) = length content
size_of g (directory slots parent) = g.block_size * slot_blocks g slots

abbrev pub parent_of : Node → ℕ
parent_of (file content present) = 0
parent_of (directory slots parent) = parent

-- bytes followed by zeros, up to a block
abbrev pub padded : Request → List ℕ → List ℕ
padded g bytes = bytes ++ replicate (g.block_size - length bytes) 0

-- the bytes of data block i
abbrev pub block_of : Request → Node → ℕ → List ℕ
block_of g (file content present) i = padded g (take g.block_size (drop (i * g.block_size) content))
block_of g (directory slots parent) i = padded g (flat_map (slot_bytes g) (slots_of_block g slots i))
