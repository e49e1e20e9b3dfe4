use Rattle.edge_steps.proofs.PointLaws.{same_plan}
use Rattle.edge_steps.proofs.laws.a_point_changes_no_plan.Goals as goal

pub returns : goal.returns
returns c = same_plan
