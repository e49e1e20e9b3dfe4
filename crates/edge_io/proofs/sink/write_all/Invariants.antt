use Rattle.std.proofs.Common.{◌≡◌, ◌≤◌, ◌-◌, ◌++◌, length, take}
use Rattle.std.specs.Prelude.{IsTrue}
use Rattle.edge_io.proofs.sink.write_all.Given as goal

abbrev pub invariant-loop-at : goal.invariant-loop-at
invariant-loop-at g l =
    let sink = g.K.Sink in
    record {
      inside : l.at ≤ length l.bytes;
      tells : sink.tells l.out ≡ sink.tells l.fn.out;
      faults : sink.faults l.out ≡ sink.faults l.fn.out;
      taken : IsTrue (sink.tells l.fn.out) → sink.taken l.out ≡ sink.taken l.fn.out ++ take l.at l.bytes;
    }

abbrev pub decreases-loop-at : goal.decreases-loop-at
decreases-loop-at g l = length l.initial.bytes - l.at
