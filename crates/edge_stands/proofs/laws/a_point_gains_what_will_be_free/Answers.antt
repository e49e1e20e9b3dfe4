use Rattle.edge_stands.proofs.SpaceLaws.{gains_is}
use Rattle.edge_stands.proofs.laws.a_point_gains_what_will_be_free.Goals as goal

pub returns : goal.returns
returns c = gains_is
