-- What makes a function from numbers to nodes a tree.
use Rattle.std.specs.Prelude.{◌≡◌, ◌≢◌, ℕ, ◌+◌, ◌<◌, ◌≤◌, true, List, is_some, slice_get, Bool, Some}
use Rattle.edge_base.specs.declared.geometry.Request.{Request}
use Rattle.edge_base.specs.tree.Slots.{Entry, Slots}
use Rattle.edge_base.specs.tree.Nodes.{Node, file, directory}
use Rattle.edge_base.specs.tree.NodeRules.{IsNode}
use Rattle.edge_model.specs.Tree.{Tree, slots_at, names_of_number}

-- a slot of directory d names n
pub record Names (t : Tree) (d n : ℕ) : Type 0 where
  pub slot : ℕ
  pub entry : Entry
  pub is_there : slice_get (slots_at t d) slot ≡ Some (Some entry)
  pub number_is : entry.number ≡ n

-- reached from the root by names
pub data IsReached (t : Tree) : ℕ → Type 0 where
  root : IsReached t 2
  below : (d n : ℕ) → IsReached t d → Names t d n → IsReached t n

pub record IsTree (g : Request) (t : Tree) : Type 0 where
  -- the numbers are 2 to m + 1
  pub in_range : (n : ℕ) → is_some (t n) ≡ true → (2 ≤ n) × (n < 2 + g.inodes)
  -- the root is a directory without a parent
  pub root : (slots : Slots) × (t 2 ≡ Some (directory slots 0))
  -- each node keeps the rules of a file or a directory
  pub nodes : (n : ℕ) (node : Node) → t n ≡ Some node → IsNode g node
  -- what a slot names is there, and is not the root
  pub named : (d n : ℕ) → Names t d n → (is_some (t n) ≡ true) × (n ≢ 2)
  -- each number is reached from the root
  pub reached : (n : ℕ) → is_some (t n) ≡ true → IsReached t n
  -- a file has 1 to 65,535 names
  pub links : (n : ℕ) (content : List ℕ) (present : List Bool) → t n ≡ Some (file content present)
      → (1 ≤ names_of_number g t n) × (names_of_number g t n ≤ 65535)
  -- another directory has one name, and its parent holds it
  pub one_name : (n : ℕ) (slots : Slots) (parent : ℕ) → t n ≡ Some (directory slots parent) → n ≢ 2 → (names_of_number g t n ≡ 1) × Names t parent n
