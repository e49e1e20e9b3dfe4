use Rattle.std.proofs.Common.{sym, ◌∙◌}
use Rattle.edge_nodes.proofs.HeaderLaws.{each_ok}
use Rattle.edge_nodes.proofs.ImapLaws.{spelled_imap, imap_in-spelled}
use Rattle.edge_nodes.proofs.imap.decode_imap.Goals as goal

pub returns-clause-spelled : goal.returns-clause-spelled
returns-clause-spelled c = each_ok _ _ (λ sequence e. spelled_imap _ _ _ sequence c.requires.in_range c.requires.whole (sym c.read_imap.ensures ∙ e))

pub returns-clause-only : goal.returns-clause-only
returns-clause-only c = λ sequence bits s. c.read_imap.ensures ∙ imap_in-spelled _ _ _ sequence bits s
