use Rattle.edge_moves.proofs.WritableLaws.{sound_of_places, apart_of_once}
use Rattle.edge_moves.proofs.laws.a_shaped_node_is_sound.Goals as goal

pub returns-clause-sound : goal.returns-clause-sound
returns-clause-sound c g v n indices places = sound_of_places g v n indices places

pub returns-clause-apart : goal.returns-clause-apart
returns-clause-apart c g v n indices places once = apart_of_once g v n indices places once
