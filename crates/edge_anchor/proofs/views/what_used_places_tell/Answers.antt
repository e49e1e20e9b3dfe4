use Rattle.edge_anchor.proofs.PlacedLaws.{inode_placed, inode_absent, block_placed, block_absent}
use Rattle.edge_anchor.proofs.views.what_used_places_tell.Goals as goal

pub returns-clause-inode : goal.returns-clause-inode
returns-clause-inode c = inode_placed

pub returns-clause-no_inode : goal.returns-clause-no_inode
returns-clause-no_inode c = inode_absent

pub returns-clause-block : goal.returns-clause-block
returns-clause-block c = block_placed

pub returns-clause-no_block : goal.returns-clause-no_block
returns-clause-no_block c = block_absent
