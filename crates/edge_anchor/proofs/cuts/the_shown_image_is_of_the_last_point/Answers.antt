use Rattle.edge_anchor.specs.Medium.{medium_of}
use Rattle.edge_anchor.proofs.CutLaws.{shown_opens}
use Rattle.edge_anchor.proofs.cuts.the_shown_image_is_of_the_last_point.Goals as goal

pub returns : goal.returns
returns g c = λ k a on is. shown_opens (medium_of g.D.Disk k) a on is
