use Rattle.edge_steps.proofs.TreeLaws.{run_state, run_points, closed_points}
use Rattle.edge_steps.proofs.laws.runs_keep_trees.Goals as goal

pub returns-clause-state : goal.returns-clause-state
returns-clause-state c = run_state

pub returns-clause-points : goal.returns-clause-points
returns-clause-points c = run_points

pub returns-clause-closed : goal.returns-clause-closed
returns-clause-closed c = closed_points
