use Rattle.edge_shape.proofs.EntryCutLaws.{sound_at, sound_inode}
use Rattle.edge_shape.proofs.laws.trees_of_a_shaped_node_are_sound.Goals as goal

pub returns-clause-tree : goal.returns-clause-tree
returns-clause-tree c g v n indices form m shape there = sound_at g v n indices shape form m there

pub returns-clause-inode : goal.returns-clause-inode
returns-clause-inode c g v n from indices shape = sound_inode g v n indices shape from
