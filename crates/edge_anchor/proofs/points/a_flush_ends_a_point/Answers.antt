use Rattle.edge_anchor.specs.Medium.{medium_of, shown_alone}
use Rattle.edge_anchor.proofs.PointLaws.{ends}
use Rattle.edge_anchor.proofs.points.a_flush_ends_a_point.Goals as goal

pub returns-clause-committed : goal.returns-clause-committed
returns-clause-committed g c = λ k a b on root clean sure is. ends (medium_of g.D.Disk k) a b on clean (g.met.D.Disk.sure_is_shown k.disk) sure root is

pub returns-clause-shown : goal.returns-clause-shown
returns-clause-shown g c = λ k a b on root clean is. ends (shown_alone (medium_of g.D.Disk k)) a b on clean (λ i bytes sure e. e) (λ i below. tt) root is
