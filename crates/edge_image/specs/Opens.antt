-- When a view stands for a tree, and when an image opens to one.
use Rattle.std.specs.Prelude.{◌≡◌, ◌≢◌, ◌↔◌, ◌<◌, ℕ, true, List, Some, None, Ok}
use Rattle.edge_base.specs.declared.damage.Damage.{Damage}
use Rattle.edge_base.specs.declared.geometry.Request.{Request}
use Rattle.edge_base.specs.declared.node.Head.{Head}
use Rattle.edge_base.specs.declared.node.Master.{Master}
use Rattle.edge_base.specs.layout.Spelling.{master_in}
use Rattle.edge_base.specs.tree.Positions.{Position, has}
use Rattle.edge_base.specs.tree.Nodes.{Node, kind_of, size_of, parent_of}
use Rattle.edge_disk.specs.Disk.{DiskState}
use Rattle.edge_disk.specs.Image.{Image}
use Rattle.edge_disk.specs.State.{shown_by}
use Rattle.edge_store.specs.View.{View, whole, broken, is_used}
use Rattle.edge_store.specs.Placed.{block_at, HoldsNode}
use Rattle.edge_model.specs.Tree.{Tree, links_of, tree_positions}
use Rattle.edge_model.specs.Rules.{IsTree}
use Rattle.edge_image.specs.Image.{Live, live_of, reason_of}
use Rattle.edge_image.specs.View.{view_of}

-- the head of a tree's node
abbrev pub head_of_node : Request → Tree → ℕ → Node → Head
head_of_node g t n node = record { size = size_of g node; kind = kind_of node; links = links_of g t n; parent = parent_of node }

-- number n has an inode with this head
pub record HasHead (v : View) (n : ℕ) (head : Head) : Type 0 where
  pub entries : List ℕ
  pub inode : v.inodes n ≡ Some (whole head entries)

-- a block where the tree has a position
pub record IsPlaced (g : Request) (v : View) (t : Tree) (b : ℕ) : Type 0 where
  pub position : Position
  pub in_tree : has (tree_positions g t) position ≡ true
  pub block : block_at g v position ≡ b

pub record StandsFor (g : Request) (v : View) (t : Tree) : Type 0 where
  -- the numbers of the view are those of the tree
  pub numbers : (n : ℕ) → (t n ≡ None) ↔ (v.inodes n ≡ None)
  -- each inode has the head of the node
  pub heads : (n : ℕ) (node : Node) → t n ≡ Some node → HasHead v n (head_of_node g t n node)
  -- and its blocks are where the node needs them, and hold its bytes or its slots
  pub nodes : (n : ℕ) (node : Node) → t n ≡ Some node → HoldsNode g v n node
  -- no block is pointed to twice
  pub once : (p q : Position) → has (tree_positions g t) p ≡ true → has (tree_positions g t) q ≡ true → block_at g v p ≡ block_at g v q → p ≡ q
  -- each used block is pointed to
  pub each : (b : ℕ) → is_used v b ≡ true → IsPlaced g v t b

-- An image opens to a tree where no reason holds, each inode of its view is whole, and the view stands for the tree.
pub record OpensTo (image : Image) (t : Tree) : Type 0 where
  pub mounts : reason_of image ≡ None
  pub master : Master
  pub is_master : master_in (image.block 0) ≡ Ok master
  pub live : Live
  pub is_live : live_of master.geometry image ≡ Some live
  pub unbroken : (n : ℕ) (damage : Damage) → (view_of master.geometry image live).inodes n ≢ Some (broken damage)
  pub tree : IsTree master.geometry t
  pub stands : StandsFor master.geometry (view_of master.geometry image live) t

-- Images of one size with the same blocks. What stands behind the last block means nothing.
pub record IsAlike (image other : Image) : Type 0 where
  pub blocks : other.blocks ≡ image.blocks
  pub block_size : other.block_size ≡ image.block_size
  pub same : (b : ℕ) → b < image.blocks → other.block b ≡ image.block b

-- A disk is sound where each of its blocks has one candidate, it has had no fault, and what it shows opens to the tree.
pub record IsSound (disk : DiskState) (t : Tree) : Type 0 where
  pub sure : (b : ℕ) → b < disk.origin.blocks → disk.is_sure b
  pub no_fault : disk.faults ≡ 0
  pub opens : OpensTo (shown_by disk) t
