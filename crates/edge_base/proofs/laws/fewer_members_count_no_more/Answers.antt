use Rattle.edge_base.proofs.PositionLaws.{count_of-le_from_has}
use Rattle.edge_base.proofs.laws.fewer_members_count_no_more.Goals as goal

pub returns : goal.returns
returns c = count_of-le_from_has
