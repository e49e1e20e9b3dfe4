use Rattle.edge_moves.proofs.LinkedLaws.{linked_at}
use Rattle.edge_moves.proofs.SlotLaws.{entries_fit}
use Rattle.edge_moves.proofs.laws.blocks_of_a_sound_node_are_linked.Goals as goal

pub returns : goal.returns
returns c g v n geometry sound form k low there = linked_at g v n (entries_fit g geometry) sound form k low there
