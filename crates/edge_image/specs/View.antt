-- The view of an image: the inodes and the blocks that its bitmap says are used.
use Rattle.std.specs.Prelude.{ℕ, ◌&&◌, Bool, true, false, if◌then◌else◌, List, Option, Some, None, Result, Ok, Err}
use Rattle.edge_base.specs.declared.damage.DamageKind.TheVariants as kinds
use Rattle.edge_base.specs.declared.geometry.Request.{Request}
use Rattle.edge_base.specs.declared.node.Head.{Head}
use Rattle.edge_base.specs.declared.node.NodeFault.{NodeFault}
use Rattle.edge_base.specs.layout.Places.{entries_of, inode_place_of}
use Rattle.edge_base.specs.layout.Bytes.{numbers_at}
use Rattle.edge_base.specs.layout.Spelling.{inode_in, pointer_in}
use Rattle.edge_disk.specs.Image.{Image}
use Rattle.edge_store.specs.View.{View, Inode, whole, broken, Block, is_allocable, is_number, kind_of_fault}
use Rattle.edge_image.specs.Image.{Live, used_in}

-- ---- inodes

-- an inode with this head, or one that cannot be read, with the damage of its place
abbrev pub inode_told : Request → ℕ → List ℕ → Result Head NodeFault → Inode
inode_told g place bytes (Ok head) = whole head (numbers_at 32 (entries_of g) bytes)
inode_told g place bytes (Err fault) = broken (record { block = place; kind = kind_of_fault fault })

-- the inode that the bytes of a place spell
abbrev pub inode_at : Request → ℕ → List ℕ → Inode
inode_at g place bytes = inode_told g place bytes (inode_in bytes)

-- A number has the inode at its one used place. Where both places are used it cannot be read. content is what blocks hold.
abbrev pub inode_by : Request → (ℕ → List ℕ) → ℕ → Bool → Bool → Option Inode
inode_by g content n true true = Some (broken (record { block = inode_place_of g n false; kind = kinds.TwoPlaces }))
inode_by g content n true false = Some (inode_at g (inode_place_of g n false) (content (inode_place_of g n false)))
inode_by g content n false true = Some (inode_at g (inode_place_of g n true) (content (inode_place_of g n true)))
inode_by g content n false false = None

-- the inode of a number, where there is one; used tells which blocks are used
abbrev pub inode_under : Request → (ℕ → Bool) → (ℕ → List ℕ) → ℕ → Option Inode
inode_under g used content n =
    if is_number g n then inode_by g content n (used (inode_place_of g n false)) (used (inode_place_of g n true)) else None

-- ---- blocks

-- a block's bytes, with the pointer nodes that they spell, or why they spell none
abbrev pub block_told : Request → List ℕ → Block
block_told g bytes = record { bytes = bytes; indirect = pointer_in g false bytes; double = pointer_in g true bytes }

-- the block of a number, where it is allocable and used
abbrev pub block_under : Request → (ℕ → Bool) → (ℕ → List ℕ) → ℕ → Option Block
block_under g used content b = if is_allocable g b && used b then Some (block_told g (content b)) else None

-- ---- the view

-- the view of blocks that hold this content, of which these are used
abbrev pub view_over : Request → (ℕ → Bool) → (ℕ → List ℕ) → View
view_over g used content = record { inodes = inode_under g used content; blocks = block_under g used content }

-- the view below a live metaroot
unfoldable pub view_of : Request → Image → Live → View
view_of g image live = view_over g (used_in g image live) image.block
