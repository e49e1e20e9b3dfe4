use Rattle.edge_base.proofs.PositionLaws.{count_of-from_has}
use Rattle.edge_base.proofs.laws.same_members_count_the_same.Goals as goal

pub returns : goal.returns
returns c = count_of-from_has
