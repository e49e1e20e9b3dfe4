use Rattle.edge_store.proofs.RoomLaws.{made_less, inode_dropped_more, free_inodes-same}
use Rattle.edge_store.proofs.laws.changes_of_free_inodes.Goals as goal

pub returns-clause-made : goal.returns-clause-made
returns-clause-made c g v w head n made = made_less g v w head n made.0 made.1

pub returns-clause-dropped : goal.returns-clause-dropped
returns-clause-dropped c = inode_dropped_more

pub returns-clause-same : goal.returns-clause-same
returns-clause-same c = free_inodes-same
