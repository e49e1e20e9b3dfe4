use Rattle.edge_moves.proofs.RelinkLaws.{blocks_are}
use Rattle.edge_moves.proofs.SlotLaws.{entries_fit}
use Rattle.edge_moves.proofs.laws.blocks_are_where_pointers_lead.Goals as goal

pub returns : goal.returns
returns c g w n to geometry links form m low = blocks_are g w n to (entries_fit g geometry) links form m low
