use Rattle.edge_store.proofs.CountLaws.{free_now-positions, free_after-positions}
use Rattle.edge_store.proofs.laws.free_blocks_and_positions.Goals as goal

pub returns-clause-now : goal.returns-clause-now
returns-clause-now c = free_now-positions

pub returns-clause-after : goal.returns-clause-after
returns-clause-after c = free_after-positions
