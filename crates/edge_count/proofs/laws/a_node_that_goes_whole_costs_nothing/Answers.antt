use Rattle.edge_count.proofs.JoinLaws.{all_removed, whole_alone, whole_besides}
use Rattle.edge_count.proofs.laws.a_node_that_goes_whole_costs_nothing.Goals as goal

pub returns-clause-all : goal.returns-clause-all
returns-clause-all c = all_removed

pub returns-clause-alone : goal.returns-clause-alone
returns-clause-alone c = whole_alone

pub returns-clause-besides : goal.returns-clause-besides
returns-clause-besides c g committed v n indices writes removes shape away_writes away_removes = whole_besides g committed v n indices shape writes removes away_writes away_removes
