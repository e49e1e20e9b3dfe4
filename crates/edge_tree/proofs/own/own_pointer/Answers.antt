use Rattle.edge_tree.proofs.BlankLaws.{same_pointer}
use Rattle.edge_tree.proofs.OwnLaws.{if_ok_map}
use Rattle.edge_tree.proofs.own.own_pointer.Goals as goal

pub returns-clause-renewed : goal.returns-clause-renewed
returns-clause-renewed g c = if_ok_map c.renew_pointer.result (λ b filled told. same_pointer _ _ _ _ _ _ _ _ _ (filled told)) c.renew_pointer.ensures.renewed
