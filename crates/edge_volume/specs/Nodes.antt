-- What calls over a store tell of the nodes of a tree.
use Rattle.std.specs.Prelude.{◌≡◌, ℕ, true, Option, Some, None}
use Rattle.edge_base.specs.declared.geometry.Request.{Request}
use Rattle.edge_base.specs.declared.node.Head.{Head}
use Rattle.edge_base.specs.tree.Nodes.{Node}
use Rattle.edge_store.specs.State.{StoreState, Told, IsNumber, HasInode}
use Rattle.edge_store.specs.View.{head_of_inode, is_head}
use Rattle.edge_model.specs.Rules.{IsTree}
use Rattle.edge_model.specs.State.{State}
use Rattle.edge_model.specs.Tree.{Tree}
use Rattle.edge_image.specs.Opens.{head_of_node}
use Rattle.edge_volume.specs.Volume.{StoreStands}

-- where the store stands for a state whose tree keeps its rules, this holds of the tree
abbrev pub OnTree : StoreState → (Tree → Type 0) → Type 0
OnTree st Holds = (z : State) → StoreStands st z → IsTree st.origin.request z.tree → Holds z.tree

-- the head of a node, None where there is none
abbrev pub head_of_some : Request → Tree → ℕ → Option Node → Option Head
head_of_some g t n None = None
head_of_some g t n (Some node) = Some (head_of_node g t n node)

-- the head of a number of a tree
abbrev pub head_at : Request → Tree → ℕ → Option Head
head_at g t n = head_of_some g t n (t n)

-- Number n is one that a node may have, the head is one that a node may have, and where the views are told the number has an inode with it.
pub record IsNodeOf (st : StoreState) (n : ℕ) (head : Head) : Type 0 where
  pub number : IsNumber st n
  pub rules : is_head head ≡ true
  pub there : HasInode st n
  pub is_head : Told st → head_of_inode (st.working.inodes n) ≡ Some head

-- where no head was found, a number that a node may have has no inode in the working view
abbrev pub IsNoNode : StoreState → ℕ → Option Head → Type 0
IsNoNode st n found = found ≡ None → Told st → IsNumber st n → st.working.inodes n ≡ None
