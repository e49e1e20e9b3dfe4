use Rattle.edge_steps.proofs.RoomLaws.{step_room, points_room}
use Rattle.edge_steps.proofs.laws.steps_leave_room.Goals as goal

pub returns-clause-step : goal.returns-clause-step
returns-clause-step c = step_room

pub returns-clause-points : goal.returns-clause-points
returns-clause-points c = points_room
