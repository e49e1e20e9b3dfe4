use Rattle.edge_model.proofs.SpaceRows.{space_rows_pass}
use Rattle.edge_model.proofs.rows.rows_of_space.Goals as goal

pub returns : goal.returns
returns c = space_rows_pass
