use Rattle.std.proofs.Common.{◌≢◌, ◌<◌, ℕ}
use Rattle.edge_cache.specs.Places.{kept_at}
use Rattle.edge_cache.proofs.shelf.Shelf.find.Given as goal

abbrev pub invariant-loop-p : goal.invariant-loop-p
invariant-loop-p l = (k : ℕ) → k < l.p → (kept_at l.self.list k).block ≢ l.b
