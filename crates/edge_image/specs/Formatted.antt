-- What formatting makes of an image, and what such an image opens to.
use Rattle.std.specs.Prelude.{◌≡◌, ◌<◌, ◌≤◌, ℕ, ◌-◌, ◌==◌, ◌&&◌, false, List, replicate, Ok}
use Rattle.edge_base.specs.declared.geometry.Request.{Request}
use Rattle.edge_base.specs.declared.node.Head.{Head}
use Rattle.edge_base.specs.declared.node.Master.{Master}
use Rattle.edge_base.specs.declared.node.Metaroot.{Metaroot}
use Rattle.edge_base.specs.declared.node.NodeType.TheVariants.{Directory}
use Rattle.edge_base.specs.layout.Places.{entries_of, is_inline_of, imap_nodes_of, imap_place_of, inode_place_of, first_allocable_of, allocable_of}
use Rattle.edge_base.specs.layout.Bytes.{number_at, numbers_at, bit_in}
use Rattle.edge_base.specs.layout.Spelling.{master_in, metaroot_in, imap_in, inode_in}
use Rattle.edge_disk.specs.Image.{Image}
use Rattle.edge_model.specs.Tree.{only_root}
use Rattle.edge_image.specs.Image.{root_number}
use Rattle.edge_image.specs.Opens.{OpensTo}

-- the master of a geometry, and of the time of formatting
abbrev pub master_of : Request → ℕ → Master
master_of g time = record { geometry = g; time = time }

-- a metaroot by which all allocable blocks are free, and all numbers but the root's
abbrev pub first_metaroot : Request → Metaroot
first_metaroot g = record { sequence = 1; free_blocks = allocable_of g; free_inodes = g.inodes - 1; next = first_allocable_of g }

-- an empty directory
abbrev pub empty_root : Head
empty_root = record { size = 0; kind = Directory; links = 1; parent = 0 }

-- the first place of the root's inode
abbrev pub root_place : Request → ℕ
root_place g = inode_place_of g root_number false

abbrev pub zero_block : Request → List ℕ
zero_block g = replicate g.block_size 0

-- The block spells the first metaroot. Of its bits the first alone is set, that of the root's first place; where there are imap nodes none
-- is, so that the first of each pair is live.
pub record HasFirstMetaroot (g : Request) (b : List ℕ) : Type 0 where
  pub spells : metaroot_in g b ≡ Ok (first_metaroot g)
  pub bits : (k : ℕ) → bit_in 32 b k ≡ (is_inline_of g && (k == 0))

-- The block spells imap node i, with sequence number 1. Of the bits of all nodes the first alone is set.
pub record HasFirstImap (g : Request) (i : ℕ) (b : List ℕ) : Type 0 where
  pub spells : imap_in g i b ≡ Ok 1
  pub bits : (k : ℕ) → bit_in 16 b k ≡ ((i == 0) && (k == 0))

-- each first node of a pair of imap nodes is such a one
abbrev pub HasFirstImaps : Request → (ℕ → List ℕ) → Type 0
HasFirstImaps g content = (i : ℕ) → i < imap_nodes_of g → HasFirstImap g i (content (imap_place_of g i false))

-- The block spells the inode of an empty root, with sequence number 1 and no block.
pub record HasEmptyRoot (g : Request) (b : List ℕ) : Type 0 where
  pub spells : inode_in b ≡ Ok empty_root
  pub sequence : number_at 8 8 b ≡ 1
  pub entries : numbers_at 32 (entries_of g) b ≡ replicate (entries_of g) 0

-- Formatted with a geometry at a time. The other blocks may hold any bytes.
pub record IsFormatted (g : Request) (time : ℕ) (image : Image) : Type 0 where
  pub block_size : image.block_size ≡ g.block_size
  pub blocks : g.blocks ≤ image.blocks
  pub master : master_in (image.block 0) ≡ Ok (master_of g time)
  pub metaroot : HasFirstMetaroot g (image.block 1)
  pub imap : HasFirstImaps g image.block
  pub second : image.block 2 ≡ zero_block g
  pub root : HasEmptyRoot g (image.block (root_place g))

-- The image opens to an empty root directory alone, by the master of this geometry and time and a live metaroot with sequence number 1.
pub record OpensFresh (g : Request) (time : ℕ) (image : Image) : Type 0 where
  pub opens : OpensTo image only_root
  pub master : opens.master ≡ master_of g time
  pub sequence : opens.live.root.sequence ≡ 1
  -- its nodes are the fresh ones
  pub formatted : IsFormatted g time image
