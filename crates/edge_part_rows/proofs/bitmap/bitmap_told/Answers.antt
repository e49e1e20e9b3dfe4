use Rattle.std.proofs.Common.{◌+◌, arith}
use Rattle.edge_imap.proofs.ZeroLaws.{zero_bits}
use Rattle.edge_part_rows.proofs.bitmap.bitmap_told.Goals as goal

pub load-requires-clause-bits : goal.load-requires-clause-bits
load-requires-clause-bits c = record { len = omega (arith, c.in_ok-g.ensures); unused = λ i from to. zero_bits 480 i }
