use Rattle.edge_anchor.specs.Medium.{medium_of}
use Rattle.edge_anchor.proofs.CutLaws.{committed_alone}
use Rattle.edge_anchor.proofs.cuts.cuts_between_points_leave_the_last.Goals as goal

pub returns : goal.returns
returns g c = λ k a on is image permitted plain. committed_alone (medium_of g.D.Disk k) (g.met.D.Disk.sure_is_shown k.disk) image permitted plain a on is
