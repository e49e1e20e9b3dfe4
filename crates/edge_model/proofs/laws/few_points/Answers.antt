use Rattle.edge_model.proofs.StepLaws.{few_points}
use Rattle.edge_model.proofs.laws.few_points.Goals as goal

pub returns-clause-few : goal.returns-clause-few
returns-clause-few c = λ g s command. (few_points g s command).0

pub returns-clause-last : goal.returns-clause-last
returns-clause-last c = λ g s command. (few_points g s command).1
