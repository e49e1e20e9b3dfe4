use Rattle.edge_anchor.specs.Medium.{medium_of, shown_alone}
use Rattle.edge_anchor.proofs.MountLaws.{mounted_on, mounted_committed}
use Rattle.edge_anchor.proofs.points.a_mounted_volume_is_committed.Goals as goal

pub returns-clause-on : goal.returns-clause-on
returns-clause-on g c = λ k. mounted_on (medium_of g.D.Disk k)

pub returns-clause-committed : goal.returns-clause-committed
returns-clause-committed g c = λ k master live is clean sure. mounted_committed (medium_of g.D.Disk k) master live is
    (g.met.D.Disk.sure_is_shown k.disk) sure clean

pub returns-clause-shown : goal.returns-clause-shown
returns-clause-shown g c = λ k master live is clean. mounted_committed (shown_alone (medium_of g.D.Disk k)) master live is (λ i bytes sure e. e)
    (λ i below. tt) clean
