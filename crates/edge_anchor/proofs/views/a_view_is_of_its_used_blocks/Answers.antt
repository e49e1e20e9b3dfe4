use Rattle.edge_anchor.proofs.ViewLaws.{view_stays, used_same}
use Rattle.edge_anchor.proofs.views.a_view_is_of_its_used_blocks.Goals as goal

pub returns-clause-same : goal.returns-clause-same
returns-clause-same c = view_stays

pub returns-clause-used : goal.returns-clause-used
returns-clause-used c = used_same
