use Rattle.edge_store.proofs.RoomLaws.{no_free_inode, some_free_inode}
use Rattle.edge_store.proofs.laws.free_inodes_are_somewhere.Goals as goal

pub returns-clause-none : goal.returns-clause-none
returns-clause-none c = no_free_inode

pub returns-clause-some : goal.returns-clause-some
returns-clause-some c = some_free_inode
