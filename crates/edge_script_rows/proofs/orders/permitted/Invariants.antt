-- Each number up to here has its candidate.
use Rattle.std.proofs.Common.{◌<◌, ℕ, length}
use Rattle.std.specs.Prelude.{slice_index}
use Rattle.edge_disk.specs.Memory.{candidates_of}
use Rattle.edge_script_rows.proofs.orders.permitted.Given as goal

abbrev pub invariant-loop-b : goal.invariant-loop-b
invariant-loop-b l = (k : ℕ) → k < l.b → slice_index l.pick k < length (candidates_of l.disk k)
