use Rattle.edge_store.proofs.LinkLaws.{linked_is_spot, link_is_good}
use Rattle.edge_store.proofs.laws.links_of_a_shaped_node_hold.Goals as goal

pub returns-clause-spot : goal.returns-clause-spot
returns-clause-spot c g v n indices form b places linked some = linked_is_spot g v n indices places form b linked some

pub returns-clause-link : goal.returns-clause-link
returns-clause-link c g v n indices form b view places linked = link_is_good g v n indices places view form b linked
