use Rattle.edge_model.proofs.ReadLaws.{step_tells, run_tells}
use Rattle.edge_model.proofs.laws.step_tells.Goals as goal

pub returns-clause-step : goal.returns-clause-step
returns-clause-step c = step_tells

pub returns-clause-run : goal.returns-clause-run
returns-clause-run c = run_tells
