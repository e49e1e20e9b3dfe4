use Rattle.edge_model.proofs.DirtyLaws.{step_upwards}
use Rattle.edge_model.proofs.laws.dirty_has_ancestors.Goals as goal

pub returns : goal.returns
returns c = step_upwards
