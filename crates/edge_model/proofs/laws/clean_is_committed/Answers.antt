use Rattle.edge_model.proofs.CompleteLaws.{step_clean}
use Rattle.edge_model.proofs.laws.clean_is_committed.Goals as goal

pub returns : goal.returns
returns c = step_clean
