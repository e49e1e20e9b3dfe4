use Rattle.edge_stands.proofs.DirtyLaws.{then_tied}
use Rattle.edge_stands.proofs.laws.dirty_positions_are_those_of_new_blocks.Goals as goal

pub returns : goal.returns
returns c = then_tied
