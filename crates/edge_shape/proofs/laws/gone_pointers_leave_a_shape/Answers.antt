use Rattle.edge_shape.proofs.LeaveLaws.{shape_left}
use Rattle.edge_shape.proofs.laws.gone_pointers_leave_a_shape.Goals as goal

pub returns : goal.returns
returns c g v w n indices taken shape un leaves view inode spots = shape_left g v w n indices shape taken un leaves view inode spots
