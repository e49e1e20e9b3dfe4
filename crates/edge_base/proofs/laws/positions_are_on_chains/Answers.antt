use Rattle.edge_base.proofs.ChainLaws.{has-positions_of}
use Rattle.edge_base.proofs.laws.positions_are_on_chains.Goals as goal

pub returns : goal.returns
returns c = has-positions_of
