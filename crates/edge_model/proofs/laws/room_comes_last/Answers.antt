use Rattle.edge_model.proofs.StepLaws.{refusal_is_answer, room_is_exact}
use Rattle.edge_model.proofs.laws.room_comes_last.Goals as goal

pub returns-clause-others : goal.returns-clause-others
returns-clause-others c = refusal_is_answer

pub returns-clause-room : goal.returns-clause-room
returns-clause-room c = room_is_exact
