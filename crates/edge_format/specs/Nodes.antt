-- The blocks that formatting writes, and those that it does not.
use Rattle.std.specs.Prelude.{◌≡◌, ◌≢◌, ◌<◌, ℕ, false, List}
use Rattle.edge_base.specs.declared.geometry.Request.{Request}
use Rattle.edge_base.specs.layout.Places.{imap_nodes_of, imap_place_of}
use Rattle.edge_image.specs.Formatted.{HasFirstMetaroot, HasFirstImaps, HasEmptyRoot, root_place, zero_block}

-- a block that no imap node is written to
abbrev pub IsBesideImaps : Request → ℕ → Type 0
IsBesideImaps g b = (i : ℕ) → i < imap_nodes_of g → b ≢ imap_place_of g i false

-- a block that the nodes are not written to
pub record IsBesideNodes (g : Request) (b : ℕ) : Type 0 where
  pub not_imap : IsBesideImaps g b
  pub not_first : b ≢ 1
  pub not_second : b ≢ 2
  pub not_root : b ≢ root_place g

-- a block that formatting does not write
pub record IsBeside (g : Request) (b : ℕ) : Type 0 where
  pub not_master : b ≢ 0
  pub beside_nodes : IsBesideNodes g b

-- each imap node stands in its first place, the first metaroot in block 1, none in block 2, and the root's inode in its first place
pub record HasNodes (g : Request) (block : ℕ → List ℕ) : Type 0 where
  pub imap : HasFirstImaps g block
  pub metaroot : HasFirstMetaroot g (block 1)
  pub second : block 2 ≡ zero_block g
  pub root : HasEmptyRoot g (block (root_place g))
