use Rattle.edge_store.proofs.NodeEffects.{bytes_stay, bytes_here, bytes_elsewhere, stays_changed, stays_dirty}
use Rattle.edge_store.proofs.laws.bytes_that_are_set_move_no_block.Goals as goal

pub returns-clause-changed : goal.returns-clause-changed
returns-clause-changed c = λ g v w n i at new indices places once there set. stays_changed g v w n indices (bytes_stay g v w n i at new indices places once there set)

pub returns-clause-dirtied : goal.returns-clause-dirtied
returns-clause-dirtied c = λ g c v w n i at new indices places once there set. stays_dirty g v w n indices (bytes_stay g v w n i at new indices places once there set) c

pub returns-clause-set : goal.returns-clause-set
returns-clause-set c = λ g v w n i at new indices places once there set. bytes_here g v w n i at new indices places once there set

pub returns-clause-others : goal.returns-clause-others
returns-clause-others c = λ g v w n i at new indices places once there set k other apart. bytes_elsewhere g v w n i at new indices places once there set k other apart
