use Rattle.std.proofs.Common.{arith}
use Rattle.edge_imap.proofs.ZeroLaws.{zero_bits}
use Rattle.edge_part_rows.proofs.search.disk_of.Goals as goal

pub encode_imap-requires-clause-unused : goal.encode_imap-requires-clause-unused
encode_imap-requires-clause-unused c = λ i from to. absurd (omega (arith, from, to, c.bits_of_node.ensures, c.if-bits_of_node-eq-PER_NODE.true))

pub encode_imap-requires-else-bits_of_node-eq-PER_NODE-clause-unused : goal.encode_imap-requires-else-bits_of_node-eq-PER_NODE-clause-unused
encode_imap-requires-else-bits_of_node-eq-PER_NODE-clause-unused c = λ i from to. zero_bits 496 i
