use Rattle.edge_anchor.specs.Medium.{medium_of}
use Rattle.edge_anchor.proofs.CutLaws.{turning_either}
use Rattle.edge_anchor.proofs.cuts.cuts_inside_a_point_leave_one_of_two.Goals as goal

pub returns : goal.returns
returns g c = λ k a b on is image permitted plain. turning_either (medium_of g.D.Disk k) (g.met.D.Disk.sure_is_shown k.disk) image permitted plain a b on is
