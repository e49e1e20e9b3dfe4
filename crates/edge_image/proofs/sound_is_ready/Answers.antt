use Rattle.edge_image.proofs.ReadyLaws.{opens_ready}
use Rattle.edge_image.proofs.sound_is_ready.Goals as goal

pub returns : goal.returns
returns c = λ image t node opens is_root. opens_ready image t node opens is_root
