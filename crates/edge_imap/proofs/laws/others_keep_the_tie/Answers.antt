use Rattle.edge_imap.proofs.BitLaws.{long_blocks}
use Rattle.edge_imap.proofs.TieLaws.{tie_stays}
use Rattle.edge_imap.proofs.laws.others_keep_the_tie.Goals as goal

pub returns : goal.returns
returns c = λ m old new limits same tied. tie_stays m old new (long_blocks m.geometry.block_size limits.block_size) same tied
