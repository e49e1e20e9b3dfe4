use Rattle.edge_model.proofs.RunLaws.{run_begins, run_last, closed_last}
use Rattle.edge_model.proofs.laws.last_is_committed.Goals as goal

pub returns-clause-first : goal.returns-clause-first
returns-clause-first c = run_begins

pub returns-clause-run : goal.returns-clause-run
returns-clause-run c = run_last

pub returns-clause-closed : goal.returns-clause-closed
returns-clause-closed c = closed_last
