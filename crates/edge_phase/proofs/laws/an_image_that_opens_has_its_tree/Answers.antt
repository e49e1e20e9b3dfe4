use Rattle.edge_phase.proofs.OpenedLaws.{opens_to_tree, room_of_tree}
use Rattle.edge_phase.proofs.laws.an_image_that_opens_has_its_tree.Goals as goal

pub returns-clause-tree : goal.returns-clause-tree
returns-clause-tree c = opens_to_tree

pub returns-clause-room : goal.returns-clause-room
returns-clause-room c = room_of_tree
