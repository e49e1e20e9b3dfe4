-- When a view stands for nodes whose links are told apart from their names, and when it has come to stand for another node at a number.
use Rattle.std.specs.Prelude.{◌≡◌, ◌↔◌, ◌&&◌, ℕ, ◌==◌, true, if◌then◌else◌, List, [], Option, Some, None}
use Rattle.edge_base.specs.declared.geometry.Request.{Request}
use Rattle.edge_base.specs.declared.node.Head.{Head}
use Rattle.edge_base.specs.tree.Positions.{Position, has}
use Rattle.edge_base.specs.tree.Nodes.{Node, kind_of, size_of, parent_of, indices_of, block_of}
use Rattle.edge_store.specs.View.{View, is_used, is_new}
use Rattle.edge_store.specs.Placed.{block_at, HoldsNode}
use Rattle.edge_store.specs.Changed.{NodeChanged}
use Rattle.edge_model.specs.Tree.{Tree, tree_positions}
use Rattle.edge_image.specs.Opens.{HasHead, IsPlaced}

-- ---- a view and the nodes of a tree

-- the head of a node that has so many links
abbrev pub head_with : Request → ℕ → Node → Head
head_with g links node = record { size = size_of g node; kind = kind_of node; links = links; parent = parent_of node }

-- The view has number n with this head, and its blocks hold the bytes or the slots of the node.
pub record NodeStands (g : Request) (v : View) (n : ℕ) (node : Node) (links : ℕ) : Type 0 where
  pub head : HasHead v n (head_with g links node)
  pub holds : HoldsNode g v n node

-- As a view stands for a tree, but for the links, which are told: between a node and its name they are not those of its names.
pub record StandsWith (g : Request) (v : View) (t : Tree) (links : ℕ → ℕ) : Type 0 where
  -- the numbers of the view are those of the tree
  pub numbers : (n : ℕ) → (t n ≡ None) ↔ (v.inodes n ≡ None)
  -- each node stands by itself
  pub nodes : (n : ℕ) (node : Node) → t n ≡ Some node → NodeStands g v n node (links n)
  -- no block is pointed to twice
  pub once : (p q : Position) → has (tree_positions g t) p ≡ true → has (tree_positions g t) q ≡ true → block_at g v p ≡ block_at g v q → p ≡ q
  -- each used block is pointed to
  pub each : (b : ℕ) → is_used v b ≡ true → IsPlaced g v t b

-- the links of number n told anew
abbrev pub with_links : (ℕ → ℕ) → ℕ → ℕ → ℕ → ℕ
with_links links n now x = if x == n then now else links x

-- ---- another node at a number

-- the data blocks of what a number has
abbrev pub indices_at : Request → Option Node → List ℕ
indices_at g None = []
indices_at g (Some node) = indices_of g node

-- number n stands for the node, or is gone
abbrev pub StandsAlone : Request → View → ℕ → Option Node → ℕ → Type 0
StandsAlone g w n None links = w.inodes n ≡ None
StandsAlone g w n (Some node) links = NodeStands g w n node links

-- From v to w number n, which had what it has in t, has come to stand for another node. No other node has changed.
pub record NodeBecomes (g : Request) (v w : View) (t : Tree) (n : ℕ) (node : Option Node) (links : ℕ) : Type 0 where
  pub stands : StandsAlone g w n node links
  pub changed : NodeChanged g v w n (indices_at g (t n)) (indices_at g node)

-- two nodes with the same data blocks, as those that differ in their parent alone
pub record HasSameBlocks (g : Request) (old new : Node) : Type 0 where
  pub indices : indices_of g new ≡ indices_of g old
  pub blocks : (i : ℕ) → block_of g new i ≡ block_of g old i

-- ---- dirty positions

-- Of the tree the positions of a list are those whose block is in the view and not in the committed one.
abbrev pub IsTied : Request → View → View → Tree → List Position → Type 0
IsTied g committed v t dirty = (p : Position) → has dirty p ≡ (has (tree_positions g t) p && is_new committed v (block_at g v p))
