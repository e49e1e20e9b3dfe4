use Rattle.edge_base.proofs.SpellingLaws.{pointer_in-decides}
use Rattle.edge_base.proofs.laws.reads_the_spelled_pointer_node.Goals as goal

pub returns : goal.returns
returns c = pointer_in-decides
