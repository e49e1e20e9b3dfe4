use Rattle.std.proofs.Common.{◌*◌, min}
use Rattle.edge_bits.specs.Bits.{NonePasses}
use Rattle.edge_imap.specs.Inodes.{is_clear_pair}
use Rattle.edge_imap.proofs.pairs.first_clear_pair.Given as goal

abbrev pub invariant-loop-w : goal.invariant-loop-w
invariant-loop-w l = NonePasses (is_clear_pair l.bits) 0 (min (64 * l.w) l.end)
