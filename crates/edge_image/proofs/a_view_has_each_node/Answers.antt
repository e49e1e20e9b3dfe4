use Rattle.edge_image.proofs.NodeLaws.{has_node}
use Rattle.edge_image.proofs.a_view_has_each_node.Goals as goal

pub returns : goal.returns
returns c = λ g v t n node is stands there. has_node g v t n node is stands there
