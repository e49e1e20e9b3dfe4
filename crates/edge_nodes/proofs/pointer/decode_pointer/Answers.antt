use Rattle.std.proofs.Common.{sym, ◌∙◌}
use Rattle.edge_nodes.proofs.HeaderLaws.{each_ok}
use Rattle.edge_nodes.proofs.PointerLaws.{spelled_pointer, owner_told-spelled}
use Rattle.edge_nodes.proofs.pointer.decode_pointer.Goals as goal

pub returns-clause-spelled : goal.returns-clause-spelled
returns-clause-spelled c = each_ok _ _ (λ owner e. spelled_pointer _ _ _ owner c.requires (sym c.read_pointer.ensures ∙ e))

pub returns-clause-only : goal.returns-clause-only
returns-clause-only c = λ sequence owner entries s. c.read_pointer.ensures ∙ owner_told-spelled _ _ _ sequence owner entries s
