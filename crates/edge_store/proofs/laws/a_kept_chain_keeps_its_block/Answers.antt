use Rattle.edge_store.proofs.FrameLaws.{block_at-kept}
use Rattle.edge_store.proofs.laws.a_kept_chain_keeps_its_block.Goals as goal

pub returns : goal.returns
returns c = block_at-kept
