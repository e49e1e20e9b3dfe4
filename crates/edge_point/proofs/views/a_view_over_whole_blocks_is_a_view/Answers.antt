use Rattle.edge_point.specs.ViewLaws.{over_is_view}
use Rattle.edge_point.proofs.views.a_view_over_whole_blocks_is_a_view.Goals as goal

pub returns : goal.returns
returns c = over_is_view
