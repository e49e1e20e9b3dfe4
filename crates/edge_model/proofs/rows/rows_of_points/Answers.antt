use Rattle.edge_model.proofs.PointsRows.{point_rows_pass}
use Rattle.edge_model.proofs.rows.rows_of_points.Goals as goal

pub returns : goal.returns
returns c = point_rows_pass
