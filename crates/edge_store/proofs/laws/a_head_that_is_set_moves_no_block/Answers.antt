use Rattle.edge_store.proofs.NodeEffects.{head_stays, head_contents, stays_changed, stays_dirty}
use Rattle.edge_store.proofs.laws.a_head_that_is_set_moves_no_block.Goals as goal

pub returns-clause-changed : goal.returns-clause-changed
returns-clause-changed c = λ g v w n head indices places once set. stays_changed g v w n indices (head_stays g v w n head indices places once set)

pub returns-clause-dirtied : goal.returns-clause-dirtied
returns-clause-dirtied c = λ g c v w n head indices places once set. stays_dirty g v w n indices (head_stays g v w n head indices places once set) c

pub returns-clause-contents : goal.returns-clause-contents
returns-clause-contents c = λ g v w n head indices places once set. head_contents g v w n head indices places once set
