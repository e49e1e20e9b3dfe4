use Rattle.edge_stands.proofs.SpaceLaws.{space_is}
use Rattle.edge_stands.proofs.laws.space_is_what_is_free.Goals as goal

pub returns : goal.returns
returns c = space_is
