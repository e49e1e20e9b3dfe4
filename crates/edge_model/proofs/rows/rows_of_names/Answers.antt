use Rattle.edge_model.proofs.NamesRows.{name_rows_pass, new_parent_holds}
use Rattle.edge_model.proofs.rows.rows_of_names.Goals as goal

pub returns-clause-rows : goal.returns-clause-rows
returns-clause-rows c = name_rows_pass

pub returns-clause-new_parent : goal.returns-clause-new_parent
returns-clause-new_parent c = new_parent_holds
