use Rattle.edge_base.proofs.PositionLaws.{same_position_Decides}
use Rattle.edge_base.proofs.laws.same_position_is_equality.Goals as goal

pub returns : goal.returns
returns c = same_position_Decides
