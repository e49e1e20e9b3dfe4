use Rattle.edge_stands.proofs.BecomeLaws.{one_node, one_node_dirtied}
use Rattle.edge_stands.proofs.laws.changes_at_one_node.Goals as goal

pub returns-clause-stands : goal.returns-clause-stands
returns-clause-stands c = one_node

pub returns-clause-dirtied : goal.returns-clause-dirtied
returns-clause-dirtied c = one_node_dirtied
