-- What a change of a tree makes dirty.
use Rattle.std.specs.Prelude.{◌≡◌, ◌&&◌, ◌||◌, ℕ, true, false, List}
use Rattle.edge_base.specs.declared.geometry.Request.{Request}
use Rattle.edge_base.specs.tree.Positions.{Position, data_at, has, touched}
use Rattle.edge_store.specs.Fresh.{is_dirty}
use Rattle.edge_store.specs.View.{View}
use Rattle.edge_model.specs.Tree.{Tree, tree_positions}

-- From v, which stands for t, to w, which stands for u, data positions were written or added, and others removed. c is the committed view.
pub record TreeDirtied (g : Request) (c v w : View) (t u : Tree) (writes removes : List Position) : Type 0 where
  -- of the tree's positions those are dirty that were, and those that such a change touches
  pub dirty : (p : Position) → has (tree_positions g u) p ≡ true
      → is_dirty g c w p ≡ ((has (tree_positions g t) p && is_dirty g c v p) || has (touched g (λ q. false) writes removes) p)
  -- a data block that the tree had not is one that was added
  pub added : (n i : ℕ) → has (tree_positions g u) (data_at n i) ≡ true → has (tree_positions g t) (data_at n i) ≡ false → has writes (data_at n i) ≡ true
