-- Where the blocks of a node are, and when a view has a node.
use Rattle.std.specs.Prelude.{◌≡◌, ◌≢◌, ◌↔◌, ℕ, ◌+◌, ◌-◌, ◌/◌, ◌%◌, ◌<◌, ◌≤◌, ◌==◌, true, nat_lt, if◌then◌else◌, List, [], ◌∷◌, slice_index, Some}
use Rattle.std.specs.List.{list_any}
use Rattle.edge_base.specs.declared.form.Form.{Form}
use Rattle.edge_base.specs.declared.form.Form.TheVariants.{Plain, Indirect, Double}
use Rattle.edge_base.specs.declared.geometry.Request.{Request}
use Rattle.edge_base.specs.declared.way.Way.{Way}
use Rattle.edge_base.specs.declared.way.Way.TheVariants as way
use Rattle.edge_base.specs.layout.Places.{pointers_of, max_size_of}
use Rattle.edge_base.specs.tree.Slots.{pieces}
use Rattle.edge_base.specs.tree.Positions.{Position, has, positions_of, positions_of_form}
use Rattle.edge_base.specs.tree.Nodes.{Node, indices_of, block_of, size_of, kind_of, parent_of}
use Rattle.edge_base.specs.tree.NodeRules.{IsNode}
use Rattle.edge_base.specs.declared.node.Head.{Head}
use Rattle.edge_store.specs.View.{View, whole, bytes, content_at, entries_in, entries_of_inode, is_spot}

-- entry e of an inode; 0 is absent
abbrev pub entry_at : View → ℕ → ℕ → ℕ
entry_at v n e = slice_index (entries_of_inode (v.inodes n)) e

-- the pointer in a place of a pointer node; 0 where the node is absent
abbrev pub pointer_at : View → Form → ℕ → ℕ → ℕ
pointer_at v form b place = if b == 0 then 0 else slice_index (entries_in (content_at v form b)) place

-- ---- the block at a position, 0 where it is absent

unfoldable pub double_block : Request → View → ℕ → ℕ → ℕ
double_block g v n d = entry_at v n (g.direct + g.indirect + d)

unfoldable pub indirect_block : Request → View → ℕ → ℕ → ℕ
indirect_block g v n j =
    if nat_lt j g.indirect then entry_at v n (g.direct + j)
    else pointer_at v Double (double_block g v n ((j - g.indirect) / pointers_of g)) ((j - g.indirect) % pointers_of g)

unfoldable pub data_block : Request → View → ℕ → ℕ → ℕ
data_block g v n i =
    if nat_lt i g.direct then entry_at v n i
    else pointer_at v Indirect (indirect_block g v n ((i - g.direct) / pointers_of g)) ((i - g.direct) % pointers_of g)

abbrev pub block_at : Request → View → Position → ℕ
block_at g v p = by_form p.form
  where
    by_form : Form → ℕ
    by_form Plain = data_block g v p.number p.index
    by_form Indirect = indirect_block g v p.number p.index
    by_form Double = double_block g v p.number p.index

-- ---- a way from the entries of an inode

-- the block that a way leads to, 0 where it breaks off
abbrev pub follow : View → List ℕ → Way → ℕ
follow v entries (way.Direct entry) = slice_index entries entry
follow v entries (way.Single entry place) = pointer_at v Indirect (slice_index entries entry) place
follow v entries (way.Double entry outer place) = pointer_at v Indirect (pointer_at v Double (slice_index entries entry) outer) place

-- the pointer nodes on a way, from the data block up
abbrev pub nodes_on : View → List ℕ → Way → List ℕ
nodes_on v entries (way.Direct entry) = []
nodes_on v entries (way.Single entry place) = slice_index entries entry ∷ []
nodes_on v entries (way.Double entry outer place) = pointer_at v Double (slice_index entries entry) outer ∷ slice_index entries entry ∷ []

-- ---- a node

-- Node n has a block exactly at the positions that these data blocks need, and each is used, with its form and owner.
pub record HasPlaces (g : Request) (v : View) (n : ℕ) (indices : List ℕ) : Type 0 where
  pub places : (p : Position) → p.number ≡ n → p.index < positions_of_form g p.form
      → (block_at g v p ≢ 0) ↔ (has (positions_of g n indices) p ≡ true)
  pub spots : (p : Position) → has (positions_of g n indices) p ≡ true → is_spot v p.form n (block_at g v p) ≡ true

-- no block of node n is pointed to twice from it
abbrev pub IsOnce : Request → View → ℕ → List ℕ → Type 0
IsOnce g v n indices = (p q : Position) → has (positions_of g n indices) p ≡ true → has (positions_of g n indices) q ≡ true
    → block_at g v p ≡ block_at g v q → p ≡ q

-- Node n taken by itself has the shape of a node: it has an inode that can be read, its pointers lead where some data blocks need them,
-- and no two to one block.
pub record IsShaped (g : Request) (v : View) (n : ℕ) : Type 0 where
  pub head : Head
  pub entries : List ℕ
  pub inode : v.inodes n ≡ Some (whole head entries)
  pub indices : List ℕ
  pub places : HasPlaces g v n indices
  pub once : IsOnce g v n indices

-- Besides, its size is at most the greatest, and it has no data block past its end.
pub record IsSized (g : Request) (v : View) (n : ℕ) : Type 0 where
  pub shaped : IsShaped g v n
  pub size : shaped.head.size ≤ max_size_of g
  pub ends : (i : ℕ) → list_any (λ k. k == i) shaped.indices ≡ true → i < pieces g.block_size shaped.head.size

-- The blocks of node n are those of a file or a directory, and hold its bytes or its slots.
pub record HoldsNode (g : Request) (v : View) (n : ℕ) (node : Node) : Type 0 where
  pub places : HasPlaces g v n (indices_of g node)
  pub contents : (i : ℕ) → list_any (λ k. k == i) (indices_of g node) ≡ true → content_at v Plain (data_block g v n i) ≡ bytes (block_of g node i)

-- The view has the file or directory as node n, whatever names it, and it keeps its rules.
pub record HasNode (g : Request) (v : View) (n : ℕ) (node : Node) : Type 0 where
  pub head : Head
  pub entries : List ℕ
  pub inode : v.inodes n ≡ Some (whole head entries)
  pub size : head.size ≡ size_of g node
  pub kind : head.kind ≡ kind_of node
  pub parent : head.parent ≡ parent_of node
  pub holds : HoldsNode g v n node
  pub once : IsOnce g v n (indices_of g node)
  pub rules : IsNode g node
