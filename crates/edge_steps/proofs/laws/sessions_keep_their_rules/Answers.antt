use Rattle.edge_steps.proofs.SessionLaws.{first_session, step_session, point_session, closing_session, run_session}
use Rattle.edge_steps.proofs.laws.sessions_keep_their_rules.Goals as goal

pub returns-clause-first : goal.returns-clause-first
returns-clause-first c = first_session

pub returns-clause-step : goal.returns-clause-step
returns-clause-step c = step_session

pub returns-clause-point : goal.returns-clause-point
returns-clause-point c = point_session

pub returns-clause-closing : goal.returns-clause-closing
returns-clause-closing c = closing_session

pub returns-clause-run : goal.returns-clause-run
returns-clause-run c = run_session
