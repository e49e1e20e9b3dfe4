use Rattle.edge_imap.proofs.ListLaws.{live_same}
use Rattle.edge_imap.proofs.laws.the_live_nodes_tell_the_list.Goals as goal

pub returns : goal.returns
returns c = live_same
