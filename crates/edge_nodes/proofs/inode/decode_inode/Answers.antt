use Rattle.std.proofs.Common.{sym, ◌∙◌}
use Rattle.edge_nodes.proofs.HeaderLaws.{each_ok}
use Rattle.edge_nodes.proofs.InodeLaws.{spelled_inode, inode_in-spelled}
use Rattle.edge_nodes.proofs.inode.decode_inode.Goals as goal

pub returns-clause-spelled : goal.returns-clause-spelled
returns-clause-spelled c = each_ok _ _ (λ head e. spelled_inode _ _ head c.requires (sym c.read_inode.ensures ∙ e))

pub returns-clause-only : goal.returns-clause-only
returns-clause-only c = λ sequence head entries s. c.read_inode.ensures ∙ inode_in-spelled _ _ sequence head entries s
