-- What a change of a view makes of the tree that it stands for.
use Rattle.std.specs.Prelude.{◌≡◌, ℕ, Option}
use Rattle.edge_base.specs.declared.geometry.Request.{Request}
use Rattle.edge_base.specs.declared.node.Head.{Head}
use Rattle.edge_store.specs.View.{View, head_of_inode}
use Rattle.edge_model.specs.State.{Edit}
use Rattle.edge_model.specs.Tree.{Tree}
use Rattle.edge_image.specs.Opens.{StandsFor}
use Rattle.edge_stands.specs.Dirtied.{TreeDirtied}

-- From v, which stands for a tree, to w an edit of it was made: w stands for the edit's tree, and of it those positions are dirty that were
-- and those that the edit touches. c is the committed view.
pub record IsEdited (g : Request) (c v w : View) (t : Tree) (e : Edit) : Type 0 where
  pub stands : StandsFor g w e.tree
  pub dirtied : TreeDirtied g c v w t e.tree e.writes e.removes

-- the head of number n was made another one
abbrev pub HasHeadOf : View → View → ℕ → (Option Head → Option Head) → Type 0
HasHeadOf v w n then = head_of_inode (w.inodes n) ≡ then (head_of_inode (v.inodes n))
