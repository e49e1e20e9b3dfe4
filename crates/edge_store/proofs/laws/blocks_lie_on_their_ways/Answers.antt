use Rattle.edge_store.proofs.WayLaws.{data_block-follow, above_data-nodes_on}
use Rattle.edge_store.proofs.laws.blocks_lie_on_their_ways.Goals as goal

pub returns-clause-block : goal.returns-clause-block
returns-clause-block c = data_block-follow

pub returns-clause-nodes : goal.returns-clause-nodes
returns-clause-nodes c = above_data-nodes_on
