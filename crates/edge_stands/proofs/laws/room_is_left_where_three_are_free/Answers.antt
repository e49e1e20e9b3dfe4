use Rattle.edge_stands.proofs.SessionLaws.{leaves_room}
use Rattle.edge_stands.proofs.laws.room_is_left_where_three_are_free.Goals as goal

pub returns : goal.returns
returns c = leaves_room
