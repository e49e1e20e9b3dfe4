-- When an image opens by an anchor.
use Rattle.std.specs.Prelude.{◌≡◌, ◌≤◌, false, Some, Ok}
use Rattle.edge_base.specs.layout.Spelling.{master_in}
use Rattle.edge_disk.specs.Image.{Image}
use Rattle.edge_store.specs.View.{View}
use Rattle.edge_image.specs.Image.{live_of, roots_in, used_in, has_bad_imap, free_blocks_of, free_inodes_of}
use Rattle.edge_image.specs.View.{view_of}
use Rattle.edge_anchor.specs.Anchor.{Anchor, geometry_of, live_by}

-- The image has the anchor's master and its metaroot as the live one, and below them this view. All is so that mounting asks, but for two
-- things that the anchor alone decides: a sequence number that is not too great, and room.
pub record OpensAs (a : Anchor) (v : View) (image : Image) : Type 0 where
  pub blocks : 3 ≤ image.blocks
  pub master : master_in (image.block 0) ≡ Ok a.master
  pub size : (geometry_of a).block_size ≡ image.block_size
  pub fits : (geometry_of a).blocks ≤ image.blocks
  pub live : live_of (geometry_of a) image ≡ Some (live_by a)
  pub imap_nodes : has_bad_imap (geometry_of a) (roots_in image (live_by a)) image.block ≡ false
  pub free_blocks : a.root.free_blocks ≡ free_blocks_of (geometry_of a) (used_in (geometry_of a) image (live_by a))
  pub free_inodes : a.root.free_inodes ≡ free_inodes_of (geometry_of a) (used_in (geometry_of a) image (live_by a))
  pub view : view_of (geometry_of a) image (live_by a) ≡ v
