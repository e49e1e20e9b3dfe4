use Rattle.edge_model.proofs.CleanLaws.{step_same}
use Rattle.edge_model.proofs.laws.clean_data_is_committed.Goals as goal

pub returns : goal.returns
returns c = step_same
