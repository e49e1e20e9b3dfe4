use Rattle.edge_store.proofs.NodeEffects.{made_changed, dropped_changed, blockless_dirty}
use Rattle.edge_store.proofs.laws.inodes_come_and_go_without_blocks.Goals as goal

pub returns-clause-made : goal.returns-clause-made
returns-clause-made c = λ g v w n head made. made_changed g v w n head made

pub returns-clause-dropped : goal.returns-clause-dropped
returns-clause-dropped c = λ g v w n were dropped. dropped_changed g v w n were dropped

pub returns-clause-dirtied : goal.returns-clause-dirtied
returns-clause-dirtied c = λ g c v w n. blockless_dirty g c v w n
