use Rattle.edge_image.proofs.ReasonLaws.{without_a_reason, mountable}
use Rattle.edge_image.proofs.mounts_without_a_reason.Goals as goal

pub returns : goal.returns
returns c = λ image. (without_a_reason image, mountable image)
