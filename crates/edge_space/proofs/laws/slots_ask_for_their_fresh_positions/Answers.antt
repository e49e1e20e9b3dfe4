use Rattle.edge_space.proofs.SlotLaws.{counted_slots}
use Rattle.edge_space.proofs.laws.slots_ask_for_their_fresh_positions.Goals as goal

pub returns : goal.returns
returns c g past v put clear indices left geometry limits view within shaped = counted_slots g past v put clear indices left geometry limits view within.0 within.1 shaped
