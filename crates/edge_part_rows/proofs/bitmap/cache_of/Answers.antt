use Rattle.std.proofs.Common.{◌+◌, arith}
use Rattle.edge_imap.proofs.ZeroLaws.{zero_bits}
use Rattle.edge_part_rows.proofs.bitmap.cache_of.Goals as goal

pub encode_imap-requires-clause-unused : goal.encode_imap-requires-clause-unused
encode_imap-requires-clause-unused c = λ i from to. zero_bits 496 i
