use Rattle.edge_anchor.proofs.ViewLaws.{inode_changes}
use Rattle.edge_anchor.proofs.views.one_inode_changes.Goals as goal

pub returns : goal.returns
returns c = λ g used now old new n limits is stay. inode_changes g used now old new limits n is stay
