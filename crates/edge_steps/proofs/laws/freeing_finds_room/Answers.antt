use Rattle.edge_steps.proofs.SpaceLaws.{freeing_has_room}
use Rattle.edge_steps.proofs.laws.freeing_finds_room.Goals as goal

pub returns : goal.returns
returns c = freeing_has_room
