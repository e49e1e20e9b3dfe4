use Rattle.edge_moves.proofs.SlotLaws.{some_pointers_fit}
use Rattle.edge_shape.proofs.RangeLaws.{gone-indirect_places, gone-double_places}
use Rattle.edge_shape.proofs.LeftLaws.{left-entry_places}
use Rattle.edge_shape.proofs.laws.gone_places_are_ranges.Goals as goal

pub returns-clause-indirect : goal.returns-clause-indirect
returns-clause-indirect c g j from upto x geometry most = gone-indirect_places g (some_pointers_fit g geometry) j from upto x most

pub returns-clause-double : goal.returns-clause-double
returns-clause-double c g d from upto x geometry most = gone-double_places g (some_pointers_fit g geometry) d from upto x most

pub returns-clause-entries : goal.returns-clause-entries
returns-clause-entries c g v n from indices shape = left-entry_places g v n indices shape from
