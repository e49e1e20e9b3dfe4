use Rattle.edge_base.proofs.LayoutLaws.{node_of_bit}
use Rattle.edge_base.proofs.laws.each_block_has_a_bit.Goals as goal

pub returns : goal.returns
returns c = node_of_bit
