use Rattle.edge_count.proofs.NeedLaws.{fresh_cut}
use Rattle.edge_count.proofs.laws.a_cut_needs_its_fresh_positions.Goals as goal

pub returns : goal.returns
returns c = fresh_cut
