use Rattle.edge_store.proofs.RoomLaws.{taken_now, copied_old, copied_new, dropped_old, dropped_new, free_now-same}
use Rattle.edge_store.proofs.laws.changes_of_free_blocks_now.Goals as goal

pub returns-clause-taken : goal.returns-clause-taken
returns-clause-taken c = taken_now

pub returns-clause-copied_old : goal.returns-clause-copied_old
returns-clause-copied_old c = copied_old

pub returns-clause-copied_new : goal.returns-clause-copied_new
returns-clause-copied_new c = copied_new

pub returns-clause-dropped_old : goal.returns-clause-dropped_old
returns-clause-dropped_old c = dropped_old

pub returns-clause-dropped_new : goal.returns-clause-dropped_new
returns-clause-dropped_new c = dropped_new

pub returns-clause-same : goal.returns-clause-same
returns-clause-same c = free_now-same
