use Rattle.edge_base.specs.tree.Slots.{pieces}
use Rattle.edge_file.specs.Shortened.{block_of_rest}
use Rattle.edge_file.proofs.TrimChangeLaws.{trimmed_changed, trimmed_dirtied, trimmed_contents}
use Rattle.edge_file.proofs.laws.a_shortening_changes_its_node.Goals as goal

pub returns-clause-changed : goal.returns-clause-changed
returns-clause-changed c g past v w n size indices shape short =
    trimmed_changed g past v w n (pieces g.block_size size) (block_of_rest g v n size) indices shape short.trimmed

pub returns-clause-dirtied : goal.returns-clause-dirtied
returns-clause-dirtied c g past v w n size indices shape short =
    trimmed_dirtied g past v w n (pieces g.block_size size) (block_of_rest g v n size) indices shape short.trimmed

pub returns-clause-contents : goal.returns-clause-contents
returns-clause-contents c g past v w n size indices shape short i there none =
    trimmed_contents g past v w n (pieces g.block_size size) (block_of_rest g v n size) indices shape short.trimmed i there none
