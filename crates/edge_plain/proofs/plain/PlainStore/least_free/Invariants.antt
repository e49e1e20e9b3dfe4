use Rattle.std.proofs.Common.{◌≡◌, ◌≤◌, ◌<◌, ℕ, false}
use Rattle.edge_base.specs.layout.Places.{first_allocable_of}
use Rattle.edge_plain.specs.KeptView.{view_of}
use Rattle.edge_store.specs.View.{is_free}
use Rattle.edge_plain.proofs.plain.PlainStore.least_free.Given as goal

abbrev pub invariant-loop-b : goal.invariant-loop-b
invariant-loop-b l = (k : ℕ) → first_allocable_of l.self.working.geometry ≤ k → k < l.b → is_free (view_of l.self.committed) (view_of l.self.working) k ≡ false
