use Rattle.edge_imap.proofs.BitLaws.{spare_apart}
use Rattle.edge_imap.proofs.laws.the_spare_place_is_not_live.Goals as goal

pub returns : goal.returns
returns c = spare_apart
