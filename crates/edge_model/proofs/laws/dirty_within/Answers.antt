use Rattle.edge_model.proofs.DirtyLaws.{step_within}
use Rattle.edge_model.proofs.laws.dirty_within.Goals as goal

pub returns : goal.returns
returns c = step_within
