use Rattle.std.proofs.Common.{◌*◌, min}
use Rattle.edge_bits.specs.Bits.{is_clear, NonePasses}
use Rattle.edge_bits.proofs.first_zero_from.Given as goal

abbrev pub invariant-loop-w : goal.invariant-loop-w
invariant-loop-w l = NonePasses (is_clear l.bytes) l.from (min (64 * l.w) l.len)
