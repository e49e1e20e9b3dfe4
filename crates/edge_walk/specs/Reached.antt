-- What is known of a number that a walk has come to. st is a store at that moment.
use Rattle.std.specs.Prelude.{◌≡◌, ℕ, true, is_some, None}
use Rattle.edge_store.specs.Damages.{IsNamed}
use Rattle.edge_store.specs.State.{StoreState, Told, IsNumber, HasInode}
use Rattle.edge_dir.specs.Directory.{IsDirectoryNode}
use Rattle.edge_volume.specs.Nodes.{OnTree}

-- Number n is one that a node may have. Where the views are told something names it, and in a tree it has a node.
pub record IsReached (st : StoreState) (n : ℕ) : Type 0 where
  pub number : IsNumber st n
  pub named : Told st → IsNamed st.origin.request st.working n
  pub there : OnTree st (λ t. is_some (t n) ≡ true)

-- something names number n, and it has no inode
abbrev pub LacksInode : StoreState → ℕ → Type 0
LacksInode st n = Told st → IsNamed st.origin.request st.working n × (st.working.inodes n ≡ None)

-- Number d is one that a node may have. Where the views are told it has an inode, which is a directory's.
pub record IsHolder (st : StoreState) (d : ℕ) : Type 0 where
  pub number : IsNumber st d
  pub there : HasInode st d
  pub directory : IsDirectoryNode st d
