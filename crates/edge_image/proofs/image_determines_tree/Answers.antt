use Rattle.edge_image.proofs.TreeLaws.{one_opened}
use Rattle.edge_image.proofs.image_determines_tree.Goals as goal

pub returns : goal.returns
returns c = λ image t u one two. one_opened image t u one two
