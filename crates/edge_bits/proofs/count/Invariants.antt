use Rattle.std.proofs.Common.{◌≡◌, ◌*◌, ◌-◌, min}
use Rattle.std.specs.List.{count_by, range_with_len}
use Rattle.edge_base.specs.layout.Bytes.{bit_in}
use Rattle.edge_bits.proofs.count.Given as goal

abbrev pub invariant-loop-w : goal.invariant-loop-w
invariant-loop-w l = l.total ≡ count_by (bit_in 0 l.bytes) (range_with_len 0 (min (64 * l.w) l.len - 0))
