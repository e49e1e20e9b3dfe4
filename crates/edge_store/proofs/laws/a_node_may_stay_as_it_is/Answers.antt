use Rattle.edge_store.proofs.NodeEffects.{stays_as_it_is, stays_changed, stays_dirty}
use Rattle.edge_store.proofs.laws.a_node_may_stay_as_it_is.Goals as goal

pub returns-clause-changed : goal.returns-clause-changed
returns-clause-changed c = λ g v n indices places once. stays_changed g v v n indices (stays_as_it_is g v n indices places once)

pub returns-clause-dirtied : goal.returns-clause-dirtied
returns-clause-dirtied c = λ g c v n indices places once. stays_dirty g v v n indices (stays_as_it_is g v n indices places once) c
