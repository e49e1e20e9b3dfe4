use Rattle.edge_slots.proofs.DirectoryLaws.{block_slot}
use Rattle.edge_slots.proofs.laws.a_block_has_its_slots.Goals as goal

pub returns : goal.returns
returns c g slots parent i j rules low = block_slot g slots i j rules low
