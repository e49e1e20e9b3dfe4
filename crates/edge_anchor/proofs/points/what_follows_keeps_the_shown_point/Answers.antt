use Rattle.edge_anchor.specs.Anchor.{spare_of}
use Rattle.edge_anchor.specs.Medium.{medium_of, none_given, one_given, shown_alone}
use Rattle.edge_anchor.proofs.KeepLaws.{committed_none, committed_one, turning_none, turning_root, shown_follows}
use Rattle.edge_anchor.proofs.points.what_follows_keeps_the_shown_point.Goals as goal

pub returns-clause-committed : goal.returns-clause-committed
returns-clause-committed g c = λ old new a follows.
    let m = medium_of g.D.Disk old in
    let n = medium_of g.D.Disk new in
    committed_none (shown_alone m) (shown_alone n) a (shown_follows none_given m n follows)

pub returns-clause-given : goal.returns-clause-given
returns-clause-given g c = λ old new a b bytes follows.
    let m = medium_of g.D.Disk old in
    let n = medium_of g.D.Disk new in
    committed_one (shown_alone m) (shown_alone n) a b bytes (shown_follows (one_given b bytes) m n follows)

pub returns-clause-turning : goal.returns-clause-turning
returns-clause-turning g c = λ old new a b follows.
    let m = medium_of g.D.Disk old in
    let n = medium_of g.D.Disk new in
    turning_none (shown_alone m) (shown_alone n) a b (shown_follows none_given m n follows)

pub returns-clause-turned : goal.returns-clause-turned
returns-clause-turned g c = λ old new a b bytes on root follows.
    let m = medium_of g.D.Disk old in
    let n = medium_of g.D.Disk new in
    turning_root (shown_alone m) (shown_alone n) a b bytes on root (shown_follows (one_given (spare_of a) bytes) m n follows)
