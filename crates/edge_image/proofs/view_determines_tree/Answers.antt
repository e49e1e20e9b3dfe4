use Rattle.edge_image.proofs.GeometryLaws.{limits}
use Rattle.edge_image.proofs.TreeLaws.{one_tree}
use Rattle.edge_image.proofs.view_determines_tree.Goals as goal

pub returns : goal.returns
returns c = λ g v t u is is_t is_u for_t for_u. one_tree g v t u (limits g is) is_t is_u for_t for_u
