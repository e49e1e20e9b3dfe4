-- The blocks that a view uses.
use Rattle.std.specs.Prelude.{◌≡◌, ℕ, true}
use Rattle.edge_base.specs.declared.geometry.Request.{Request}
use Rattle.edge_store.specs.View.{View, is_allocable, is_used}

-- a view uses allocable blocks alone
abbrev pub UsesAllocable : Request → View → Type 0
UsesAllocable g v = (b : ℕ) → is_used v b ≡ true → is_allocable g b ≡ true
