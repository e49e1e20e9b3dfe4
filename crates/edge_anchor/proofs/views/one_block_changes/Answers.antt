use Rattle.edge_anchor.proofs.ViewLaws.{block_changes}
use Rattle.edge_anchor.proofs.views.one_block_changes.Goals as goal

pub returns : goal.returns
returns c = λ g used now old new b limits is stay. block_changes g used now old new limits b is stay
