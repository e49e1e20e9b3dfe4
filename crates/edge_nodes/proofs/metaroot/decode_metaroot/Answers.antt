use Rattle.std.proofs.Common.{sym, ◌∙◌}
use Rattle.edge_nodes.proofs.HeaderLaws.{each_ok}
use Rattle.edge_nodes.proofs.MetarootLaws.{spelled_metaroot, metaroot_in-spelled}
use Rattle.edge_nodes.proofs.metaroot.decode_metaroot.Goals as goal

pub returns-clause-spelled : goal.returns-clause-spelled
returns-clause-spelled c = each_ok _ _ (λ r e. spelled_metaroot _ _ r c.requires (sym c.read_metaroot.ensures ∙ e))

pub returns-clause-only : goal.returns-clause-only
returns-clause-only c = λ r bits s. c.read_metaroot.ensures ∙ metaroot_in-spelled _ _ r bits s
