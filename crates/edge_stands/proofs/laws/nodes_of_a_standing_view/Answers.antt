use Rattle.edge_stands.proofs.BecomeLaws.{tree_number}
use Rattle.edge_stands.proofs.StandingLaws.{each_places, each_once, each_shape, each_shaped, each_sized, each_node, each_apart, each_no_node}
use Rattle.edge_stands.proofs.laws.nodes_of_a_standing_view.Goals as goal

pub returns-clause-number : goal.returns-clause-number
returns-clause-number c = λ g v t links n view s there. tree_number g v t links view s n there

pub returns-clause-places : goal.returns-clause-places
returns-clause-places c = λ g v t links n s. each_places g v t links s n

pub returns-clause-once : goal.returns-clause-once
returns-clause-once c = λ g v t links n view s. each_once g v t links view s n

pub returns-clause-shape : goal.returns-clause-shape
returns-clause-shape c = λ g v t links n node is view s there. each_shape g v t links view s n node there is

pub returns-clause-shaped : goal.returns-clause-shaped
returns-clause-shaped c = λ g v t links n node view s there. each_shaped g v t links view s n node there

pub returns-clause-sized : goal.returns-clause-sized
returns-clause-sized c = λ g v t links n node is view s there rules. each_sized g v t links view s n node there is rules

pub returns-clause-node : goal.returns-clause-node
returns-clause-node c = λ g v t links n node view s there rules. each_node g v t links view s n node there rules

pub returns-clause-apart : goal.returns-clause-apart
returns-clause-apart c = λ g v t links n m is view s other. each_apart g v t links view s is n m other

pub returns-clause-no_node : goal.returns-clause-no_node
returns-clause-no_node c = λ g v t links n m i is view s some. each_no_node g v t links view s is n m i some
