use Rattle.edge_imap.proofs.PairLaws.{HasBits-pairs}
use Rattle.edge_imap.proofs.pairs.clear_pairs.Goals as goal

pub returns : goal.returns
returns c = HasBits-pairs c.args.bits.now c.args.w c.word_at-clear.result c.word_at-clear.type_inv c.word_at-clear.ensures
