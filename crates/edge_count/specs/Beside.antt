-- Positions of one chain that are not on another.
use Rattle.std.specs.Prelude.{◌-◌, ◌/◌, ◌&&◌, not, ℕ, count_by}
use Rattle.edge_base.specs.declared.geometry.Request.{Request}
use Rattle.edge_base.specs.layout.Places.{pointers_of}
use Rattle.edge_base.specs.tree.Chains.{is_on_chain}
use Rattle.edge_base.specs.tree.Positions.{chain}
use Rattle.edge_store.specs.Fresh.{is_dirty}
use Rattle.edge_store.specs.View.{View}

-- how many positions of the chain of data block i of node n are not dirty, without those on the chain of its data block k
abbrev pub fresh_beside : Request → View → View → ℕ → ℕ → ℕ → ℕ
fresh_beside g c v n i k = count_by (λ p. not (is_dirty g c v p) && not (is_on_chain g p.form p.index k)) (chain g n i)

-- the indirect node, of a node's, that data block i stands under, if it is no direct one; and the double-indirect one, if that is no single one
abbrev pub row_of : Request → ℕ → ℕ
row_of g i = (i - g.direct) / pointers_of g

abbrev pub table_of : Request → ℕ → ℕ
table_of g i = (row_of g i - g.indirect) / pointers_of g
