-- A metaroot with all that hangs on it.
use Rattle.std.specs.Prelude.{◌≡◌, ◌⊎◌, ◌<◌, ◌≤◌, ◌+◌, ◌-◌, ℕ, Bool, true, List, drop, Ok}
use Rattle.edge_base.specs.declared.geometry.Request.{Request}
use Rattle.edge_base.specs.declared.node.Master.{Master}
use Rattle.edge_base.specs.declared.node.Metaroot.{Metaroot}
use Rattle.edge_base.specs.layout.Bitmap.{live_place, used_under}
use Rattle.edge_base.specs.layout.Places.{imap_nodes_of, table_start_of}
use Rattle.edge_base.specs.layout.Spelling.{master_in, metaroot_in}
use Rattle.edge_disk.specs.Disk.{Origin}
use Rattle.edge_disk.specs.Image.{Image}
use Rattle.edge_store.specs.View.{View}
use Rattle.edge_image.specs.Image.{Live, roots_in, used_in, free_blocks_of, free_inodes_of, spells_imap}
use Rattle.edge_image.specs.View.{view_over}

-- ---- an anchor

-- A master, and a metaroot: the block that it lies in, its fields, the bytes of its bitmap, and which blocks these say are used.
pub record Anchor : Type 0 where
  pub master : Master
  pub place : ℕ
  pub root : Metaroot
  pub roots : List ℕ
  pub used : ℕ → Bool

abbrev pub geometry_of : Anchor → Request
geometry_of a = a.master.geometry

-- the metaroot, as the live one of an image
abbrev pub live_by : Anchor → Live
live_by a = record { place = a.place; root = a.root }

-- the other block of a metaroot
abbrev pub spare_of : Anchor → ℕ
spare_of a = 3 - a.place

-- the anchor that an image has in its master and its live metaroot
abbrev pub anchor_in : Image → Master → Live → Anchor
anchor_in image master live =
    record { master = master; place = live.place; root = live.root; roots = roots_in image live; used = used_in master.geometry image live }

-- the view of an anchor, over what blocks hold
abbrev pub view_at : Anchor → (ℕ → List ℕ) → View
view_at a content = view_over (geometry_of a) a.used content

-- ---- what it hangs on

-- a block that has a bit in the bitmap: one from the inode table on
pub record HasBit (g : Request) (b : ℕ) : Type 0 where
  pub from : table_start_of g ≤ b
  pub below : b < g.blocks

-- What blocks hold is as the metaroot says.
pub record HangsOn (a : Anchor) (content : ℕ → List ℕ) : Type 0 where
  pub master : master_in (content 0) ≡ Ok a.master
  -- the live imap nodes are nodes
  pub nodes : (i : ℕ) → i < imap_nodes_of (geometry_of a) → spells_imap (geometry_of a) i (content (live_place (geometry_of a) a.roots i)) ≡ true
  -- the bits tell the used blocks, and the counts are theirs
  pub bits : (b : ℕ) → HasBit (geometry_of a) b → used_under (geometry_of a) a.roots content b ≡ a.used b
  pub free_blocks : a.root.free_blocks ≡ free_blocks_of (geometry_of a) a.used
  pub free_inodes : a.root.free_inodes ≡ free_inodes_of (geometry_of a) a.used

-- These bytes are the metaroot.
pub record IsRoot (a : Anchor) (bytes : List ℕ) : Type 0 where
  pub spells : metaroot_in (geometry_of a) bytes ≡ Ok a.root
  pub roots : drop 32 bytes ≡ a.roots

-- The metaroot leads to the block: block 0, a live imap node, the used place of an inode, or a used allocable block.
pub data LeadsTo (a : Anchor) (b : ℕ) : Type 0 where
  to_master : b ≡ 0 → LeadsTo a b
  to_node : (i : ℕ) → i < imap_nodes_of (geometry_of a) → b ≡ live_place (geometry_of a) a.roots i → LeadsTo a b
  to_used : HasBit (geometry_of a) b → a.used b ≡ true → LeadsTo a b

-- the blocks that an anchor needs: its own, and those that it leads to
abbrev pub Needs : Anchor → ℕ → Type 0
Needs a b = (b ≡ a.place) ⊎ LeadsTo a b

-- ---- two metaroots

-- The bytes spell no metaroot, or one that the anchor's beats.
abbrev pub Loses : Anchor → List ℕ → Type 0
Loses a bytes = (r : Metaroot) → metaroot_in (geometry_of a) bytes ≡ Ok r → (r.sequence < a.root.sequence) ⊎ ((r.sequence ≡ a.root.sequence) × (a.place ≡ 1))

-- b's metaroot comes after a's: in the other block, with the next sequence number.
pub record IsNext (a b : Anchor) : Type 0 where
  pub master : b.master ≡ a.master
  pub place : b.place ≡ spare_of a
  pub sequence : b.root.sequence ≡ a.root.sequence + 1

-- ---- its disk

-- The disk has blocks of the geometry's size, and enough of them, and the metaroot lies in block 1 or 2.
pub record IsOn (origin : Origin) (a : Anchor) : Type 0 where
  pub size : (geometry_of a).block_size ≡ origin.block_size
  pub blocks : (geometry_of a).blocks ≤ origin.blocks
  pub place : (a.place ≡ 1) ⊎ (a.place ≡ 2)
