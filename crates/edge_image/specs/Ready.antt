-- When an image is ready to be served, and with which head of the root directory.
use Rattle.std.specs.Prelude.{◌≡◌, ◌⊎◌, ◌<◌, ◌≤◌, ◌^◌, ℕ, false, Some, None, Ok}
use Rattle.edge_base.specs.declared.geometry.Request.{Request}
use Rattle.edge_base.specs.declared.node.Head.{Head}
use Rattle.edge_base.specs.declared.node.Master.{Master}
use Rattle.edge_base.specs.declared.node.Metaroot.{Metaroot}
use Rattle.edge_base.specs.layout.Spelling.{master_in, metaroot_in, inode_in}
use Rattle.edge_disk.specs.Image.{Image}
use Rattle.edge_image.specs.Image.{Live, live_of, roots_in, used_in, used_place, root_number, free_blocks_of, free_inodes_of, has_bad_imap, reason_of}

-- No reason holds, exactly one place of the root's number is used, and it spells an inode with this head.
pub record IsReady (image : Image) (head : Head) : Type 0 where
  pub mounts : reason_of image ≡ None
  pub master : Master
  pub is_master : master_in (image.block 0) ≡ Ok master
  pub live : Live
  pub is_live : live_of master.geometry image ≡ Some live
  pub place : ℕ
  pub one_place : used_place master.geometry (used_in master.geometry image live) root_number ≡ Some place
  pub spells : inode_in (image.block place) ≡ Ok head

-- What mounting asks of an image with this master and this live metaroot.
pub record IsMountable (image : Image) (master : Master) (live : Live) : Type 0 where
  pub blocks : 3 ≤ image.blocks
  pub is_master : master_in (image.block 0) ≡ Ok master
  pub size : master.geometry.block_size ≡ image.block_size
  pub fits : master.geometry.blocks ≤ image.blocks
  pub is_live : live_of master.geometry image ≡ Some live
  pub sequence : live.root.sequence ≤ 2 ^ 63
  pub imap_nodes : has_bad_imap master.geometry (roots_in image live) image.block ≡ false
  pub free_blocks : live.root.free_blocks ≡ free_blocks_of master.geometry (used_in master.geometry image live)
  pub free_inodes : live.root.free_inodes ≡ free_inodes_of master.geometry (used_in master.geometry image live)
  pub room : 3 ≤ live.root.free_blocks

-- A block, 1 or 2, that spells a metaroot which no other of the two beats.
pub record IsLive (g : Request) (image : Image) (live : Live) : Type 0 where
  pub place : (live.place ≡ 1) ⊎ (live.place ≡ 2)
  pub spells : metaroot_in g (image.block live.place) ≡ Ok live.root
  pub wins : (other : ℕ) (root : Metaroot) → (other ≡ 1) ⊎ (other ≡ 2) → metaroot_in g (image.block other) ≡ Ok root
      → (root.sequence < live.root.sequence) ⊎ ((root.sequence ≡ live.root.sequence) × (live.place ≤ other))
