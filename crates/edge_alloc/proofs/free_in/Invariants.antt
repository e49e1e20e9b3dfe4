use Rattle.std.proofs.Common.{◌*◌, min}
use Rattle.edge_bits.specs.Bits.{NonePasses}
use Rattle.edge_alloc.specs.Pairs.{is_free}
use Rattle.edge_alloc.proofs.free_in.Given as goal

abbrev pub invariant-loop-word : goal.invariant-loop-word
invariant-loop-word l = NonePasses (is_free l.committed l.working) l.start (min (64 * l.word) l.end)
