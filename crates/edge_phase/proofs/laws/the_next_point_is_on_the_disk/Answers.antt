use Rattle.edge_anchor.proofs.CutLaws.{on_next}
use Rattle.edge_phase.proofs.laws.the_next_point_is_on_the_disk.Goals as goal

pub returns : goal.returns
returns c = on_next
