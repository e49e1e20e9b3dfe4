-- What a change lists of the data blocks of its tree.
use Rattle.std.specs.Prelude.{◌≡◌, ◌&&◌, ◌||◌, not, ℕ}
use Rattle.edge_base.specs.declared.geometry.Request.{Request}
use Rattle.edge_base.specs.tree.Positions.{has, data_at}
use Rattle.edge_model.specs.State.{Edit}
use Rattle.edge_model.specs.Tree.{Tree, tree_positions}

-- The data blocks after a change are those that it writes, and those that were there and that it does not remove.
abbrev pub IsListed : Request → Tree → Edit → Type 0
IsListed g t e = (n i : ℕ) → has (tree_positions g e.tree) (data_at n i)
    ≡ (has e.writes (data_at n i) || (has (tree_positions g t) (data_at n i) && not (has e.removes (data_at n i))))
