-- The allocable blocks that positions occupy.
use Rattle.std.specs.Prelude.{ℕ, Bool, List}
use Rattle.edge_base.specs.declared.geometry.Request.{Request}
use Rattle.edge_base.specs.layout.Places.{first_allocable_of, allocable_of}
use Rattle.edge_base.specs.tree.Positions.{Position}
use Rattle.edge_base.specs.tree.Counting.{LeadTo}
use Rattle.edge_store.specs.View.{View}
use Rattle.edge_store.specs.Placed.{block_at}

-- The blocks of the positions are the allocable ones that pass the test, each of one position.
abbrev pub Occupy : Request → View → List Position → (ℕ → Bool) → Type 0
Occupy g v ps test = LeadTo (block_at g v) ps test (first_allocable_of g) (allocable_of g)
