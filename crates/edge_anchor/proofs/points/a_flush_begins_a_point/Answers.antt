use Rattle.edge_anchor.specs.Medium.{medium_of, shown_alone}
use Rattle.edge_anchor.proofs.PointLaws.{begins}
use Rattle.edge_anchor.proofs.points.a_flush_begins_a_point.Goals as goal

pub returns-clause-turning : goal.returns-clause-turning
returns-clause-turning g c = λ k a b on next hangs clean sure is. begins (medium_of g.D.Disk k) a b on clean sure next hangs is

pub returns-clause-shown : goal.returns-clause-shown
returns-clause-shown g c = λ k a b on next hangs clean is. begins (shown_alone (medium_of g.D.Disk k)) a b on clean (λ i below. tt) next hangs is
