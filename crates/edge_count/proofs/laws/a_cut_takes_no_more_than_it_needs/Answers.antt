use Rattle.edge_count.proofs.RoomLaws.{free_now-need}
use Rattle.edge_count.proofs.laws.a_cut_takes_no_more_than_it_needs.Goals as goal

pub returns : goal.returns
returns c g committed v w n i indices shape is = free_now-need g committed v w n indices shape i is
