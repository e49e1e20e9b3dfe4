use Rattle.edge_slots.proofs.BlockLaws.{one_name, one_number, filled_or_empty}
use Rattle.edge_slots.proofs.laws.a_slot_says_one_thing.Goals as goal

pub returns-clause-name : goal.returns-clause-name
returns-clause-name c = one_name

pub returns-clause-empty : goal.returns-clause-empty
returns-clause-empty c = filled_or_empty

pub returns-clause-number : goal.returns-clause-number
returns-clause-number c = one_number
