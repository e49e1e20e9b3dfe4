use Rattle.std.proofs.Common.{◌≤◌, ◌-◌, length, take}
use Rattle.edge_file.proofs.LoopLaws.{WrittenSoFar}
use Rattle.edge_file.proofs.write.write_bytes.Given as goal

abbrev pub invariant-loop-done : goal.invariant-loop-done
invariant-loop-done g l = (l.done ≤ length l.bytes) × WrittenSoFar (g.S.Store.state l.fn.s) (g.S.Store.state l.s) l.n l.at (take l.done l.bytes)

abbrev pub decreases-loop-done : goal.decreases-loop-done
decreases-loop-done g l = length l.bytes - l.done
