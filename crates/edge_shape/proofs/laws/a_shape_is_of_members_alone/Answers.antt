use Rattle.edge_shape.proofs.MemberLaws.{shape_same}
use Rattle.edge_shape.proofs.laws.a_shape_is_of_members_alone.Goals as goal

pub returns : goal.returns
returns c = shape_same
