use Rattle.edge_steps.proofs.SetLaws.{set_apart, set_again, set_as_it_was, placed_is, cleared_is}
use Rattle.edge_steps.proofs.laws.nodes_are_set_number_by_number.Goals as goal

pub returns-clause-apart : goal.returns-clause-apart
returns-clause-apart c = set_apart

pub returns-clause-again : goal.returns-clause-again
returns-clause-again c = set_again

pub returns-clause-as_it_was : goal.returns-clause-as_it_was
returns-clause-as_it_was c = set_as_it_was

pub returns-clause-placed : goal.returns-clause-placed
returns-clause-placed c = placed_is

pub returns-clause-cleared : goal.returns-clause-cleared
returns-clause-cleared c = cleared_is
