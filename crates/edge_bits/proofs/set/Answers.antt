use Rattle.std.proofs.Common.{◌∙◌, arith}
use Rattle.edge_bits.proofs.BitLaws.{bit_set, bit_here}
use Rattle.edge_bits.proofs.set.Goals as goal

pub returns-clause-here : goal.returns-clause-here
returns-clause-here c = bit_here c.args.bytes.now c.args.i c.with_bit.result (omega arith) ∙ c.with_bit.ensures.here

pub returns-clause-others : goal.returns-clause-others
returns-clause-others c = λ k far. bit_set c.args.bytes.now c.args.i k c.with_bit.result (omega arith) c.with_bit.ensures.others far
