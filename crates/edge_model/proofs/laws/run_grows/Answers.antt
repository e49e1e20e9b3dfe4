use Rattle.edge_model.proofs.RunLaws.{run_grows, run_answers}
use Rattle.edge_model.proofs.laws.run_grows.Goals as goal

pub returns-clause-line : goal.returns-clause-line
returns-clause-line c = run_grows

pub returns-clause-answers : goal.returns-clause-answers
returns-clause-answers c = run_answers
