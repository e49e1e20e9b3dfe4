use Rattle.edge_model.proofs.FilesRows.{file_rows_pass}
use Rattle.edge_model.proofs.rows.rows_of_files.Goals as goal

pub returns : goal.returns
returns c = file_rows_pass
