use Rattle.edge_phase.proofs.TieLaws.{tied_follows}
use Rattle.edge_phase.proofs.laws.a_tied_bitmap_may_follow.Goals as goal

pub returns : goal.returns
returns c = tied_follows
