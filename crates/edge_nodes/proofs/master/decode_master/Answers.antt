use Rattle.std.proofs.Common.{sym, ◌∙◌}
use Rattle.edge_nodes.proofs.HeaderLaws.{each_ok}
use Rattle.edge_nodes.proofs.MasterLaws.{spelled_master, master_in-spelled}
use Rattle.edge_nodes.proofs.master.decode_master.Goals as goal

pub returns-clause-spelled : goal.returns-clause-spelled
returns-clause-spelled c = each_ok _ _ (λ m e. spelled_master _ m (sym c.read_master.ensures ∙ e))

pub returns-clause-only : goal.returns-clause-only
returns-clause-only c = λ m s. c.read_master.ensures ∙ master_in-spelled _ m s
