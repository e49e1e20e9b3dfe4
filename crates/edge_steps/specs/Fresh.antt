-- The positions that a change makes dirty and that were not, counted without the ones that are dirty already.
use Rattle.std.specs.Prelude.{◌&&◌, not, false, List, filter}
use Rattle.edge_base.specs.declared.geometry.Request.{Request}
use Rattle.edge_base.specs.tree.Positions.{Position, has, touched}
use Rattle.edge_model.specs.State.{State, Edit}
use Rattle.edge_model.specs.Tree.{tree_positions}

-- Of what a change touches, as if nothing were dirty, the positions that are there afterwards and are not dirty.
abbrev pub fresh_positions_of : Request → State → Edit → List Position
fresh_positions_of g s e = filter (λ p. has (tree_positions g e.tree) p && not (has s.dirty p)) (touched g (λ p. false) e.writes e.removes)
