use Rattle.edge_steps.proofs.TreeLaws.{step_trees, step_points}
use Rattle.edge_steps.proofs.laws.steps_keep_trees.Goals as goal

pub returns-clause-step : goal.returns-clause-step
returns-clause-step c = step_trees

pub returns-clause-points : goal.returns-clause-points
returns-clause-points c = step_points
