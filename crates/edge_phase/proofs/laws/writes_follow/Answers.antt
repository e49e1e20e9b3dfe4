use Rattle.edge_anchor.specs.Medium.{medium_of}
use Rattle.edge_phase.proofs.SparedLaws.{write_follows}
use Rattle.edge_phase.proofs.laws.writes_follow.Goals as goal

pub returns : goal.returns
returns g c = λ old new. write_follows (medium_of g.D.Disk old) (medium_of g.D.Disk new)
