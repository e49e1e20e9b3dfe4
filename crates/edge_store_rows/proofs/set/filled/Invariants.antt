use Rattle.edge_store.specs.State.{IsLive}
use Rattle.edge_store_rows.proofs.set.filled.Given as goal

abbrev pub invariant-loop-slot : goal.invariant-loop-slot
invariant-loop-slot g l = IsLive (g.S.Store.state l.s)
