use Rattle.std.proofs.Common.{◌≤◌, ◌-◌}
use Rattle.std.specs.Prelude.{replicate, slice_index}
use Rattle.edge_file.proofs.LoopLaws.{WrittenSoFar}
use Rattle.edge_file.proofs.write.fill_bytes.Given as goal

abbrev pub invariant-loop-done : goal.invariant-loop-done
invariant-loop-done g l = (l.done ≤ l.count) × WrittenSoFar (g.S.Store.state l.fn.s) (g.S.Store.state l.s) l.n l.at (replicate l.done (slice_index l.same 0))

abbrev pub decreases-loop-done : goal.decreases-loop-done
decreases-loop-done g l = l.count - l.done
