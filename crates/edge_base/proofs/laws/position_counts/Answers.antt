use Rattle.edge_base.proofs.PositionLaws.{count_of-append}
use Rattle.edge_base.proofs.laws.position_counts.Goals as goal

pub returns : goal.returns
returns c = count_of-append
