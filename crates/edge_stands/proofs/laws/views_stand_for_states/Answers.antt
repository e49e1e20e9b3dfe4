use Rattle.edge_stands.proofs.SessionLaws.{as_mounted, after_plan, after_point, alike_states}
use Rattle.edge_stands.proofs.laws.views_stand_for_states.Goals as goal

pub returns-clause-mounted : goal.returns-clause-mounted
returns-clause-mounted c = as_mounted

pub returns-clause-changed : goal.returns-clause-changed
returns-clause-changed c = after_plan

pub returns-clause-point : goal.returns-clause-point
returns-clause-point c = after_point

pub returns-clause-alike : goal.returns-clause-alike
returns-clause-alike c = alike_states
