use Rattle.edge_tree.proofs.BlankLaws.{same_entry}
use Rattle.edge_tree.proofs.OwnLaws.{if_ok_map}
use Rattle.edge_tree.proofs.own.own_entry.Goals as goal

pub returns-clause-renewed : goal.returns-clause-renewed
returns-clause-renewed g c = if_ok_map c.renew_entry.result (λ b filled told. same_entry _ _ _ _ _ _ _ (filled told)) c.renew_entry.ensures.renewed
