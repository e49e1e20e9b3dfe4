-- What a cut of a node at an index removes, and the pointer nodes that it goes through.
use Rattle.std.specs.Prelude.{ℕ, ◌-◌, nat_le, List, map, filter}
use Rattle.edge_base.specs.declared.form.Form.{Form}
use Rattle.edge_base.specs.declared.form.Form.TheVariants.{Plain, Indirect, Double}
use Rattle.edge_base.specs.declared.geometry.Request.{Request}
use Rattle.edge_base.specs.tree.Positions.{Position, data_at}
use Rattle.edge_moves.specs.Relinks.{number_under}
use Rattle.edge_shape.specs.declared.cut.Cut.{Cut}
use Rattle.edge_shape.specs.declared.cut.Cut.TheVariants.{Whole, Node, Top, Both}

-- the data positions of node n from i on
abbrev pub removed : ℕ → ℕ → List ℕ → List Position
removed n i indices = map (data_at n) (filter (λ x. nat_le i x) indices)

-- the pointer node of a form that a cut goes through, and how many there are, at most one
abbrev pub first_through : Request → Cut → Form → ℕ
first_through g (Whole entry) form = 0
first_through g (Node entry place) Plain = 0
first_through g (Node entry place) Indirect = entry - g.direct
first_through g (Node entry place) Double = 0
first_through g (Top entry place) Plain = 0
first_through g (Top entry place) Indirect = 0
first_through g (Top entry place) Double = entry - g.direct - g.indirect
first_through g (Both entry outer place) Plain = 0
first_through g (Both entry outer place) Indirect = number_under g Double (entry - g.direct - g.indirect) outer
first_through g (Both entry outer place) Double = entry - g.direct - g.indirect

abbrev pub many_through : Cut → Form → ℕ
many_through (Whole entry) form = 0
many_through (Node entry place) Plain = 0
many_through (Node entry place) Indirect = 1
many_through (Node entry place) Double = 0
many_through (Top entry place) Plain = 0
many_through (Top entry place) Indirect = 0
many_through (Top entry place) Double = 1
many_through (Both entry outer place) Plain = 0
many_through (Both entry outer place) Indirect = 1
many_through (Both entry outer place) Double = 1
