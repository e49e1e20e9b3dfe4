use Rattle.edge_store.proofs.RoomLaws.{room_somewhere}
use Rattle.edge_store.proofs.laws.room_is_somewhere.Goals as goal

pub returns : goal.returns
returns c = room_somewhere
