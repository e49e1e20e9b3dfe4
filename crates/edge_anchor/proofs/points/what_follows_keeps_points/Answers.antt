use Rattle.edge_anchor.specs.Medium.{medium_of}
use Rattle.edge_anchor.proofs.KeepLaws.{committed_none, committed_one, turning_none, turning_root}
use Rattle.edge_anchor.proofs.points.what_follows_keeps_points.Goals as goal

pub returns-clause-committed : goal.returns-clause-committed
returns-clause-committed g c = λ old new. committed_none (medium_of g.D.Disk old) (medium_of g.D.Disk new)

pub returns-clause-given : goal.returns-clause-given
returns-clause-given g c = λ old new. committed_one (medium_of g.D.Disk old) (medium_of g.D.Disk new)

pub returns-clause-turning : goal.returns-clause-turning
returns-clause-turning g c = λ old new. turning_none (medium_of g.D.Disk old) (medium_of g.D.Disk new)

pub returns-clause-turned : goal.returns-clause-turned
returns-clause-turned g c = λ old new. turning_root (medium_of g.D.Disk old) (medium_of g.D.Disk new)
