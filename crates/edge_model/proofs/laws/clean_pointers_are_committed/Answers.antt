use Rattle.edge_model.proofs.CleanLaws.{step_above}
use Rattle.edge_model.proofs.laws.clean_pointers_are_committed.Goals as goal

pub returns : goal.returns
returns c = step_above
