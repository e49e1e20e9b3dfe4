use Rattle.edge_cache.specs.Given.{waiting}
use Rattle.edge_anchor.specs.Medium.{medium_of}
use Rattle.edge_anchor.proofs.KeepLaws.{gives_follow, change_follows, flush_follows}
use Rattle.edge_anchor.proofs.points.calls_follow.Goals as goal

pub returns-clause-gives : goal.returns-clause-gives
returns-clause-gives g c = λ old new gives. gives_follow (medium_of g.D.Disk old) (medium_of g.D.Disk new) gives

pub returns-clause-changes : goal.returns-clause-changes
returns-clause-changes g c = λ old new b bytes changes waits. change_follows (medium_of g.D.Disk old) (medium_of g.D.Disk new) b bytes changes.gives waits

pub returns-clause-flush : goal.returns-clause-flush
returns-clause-flush g c = λ old new held shown adds_none stays. flush_follows (medium_of g.D.Disk old) (medium_of g.D.Disk new)
    (λ i. waiting (held i)) shown adds_none stays
