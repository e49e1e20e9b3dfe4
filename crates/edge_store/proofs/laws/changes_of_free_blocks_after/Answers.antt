use Rattle.edge_store.proofs.RoomLaws.{taken_after, copied_after, dropped_after, free_now-point}
use Rattle.edge_store.proofs.laws.changes_of_free_blocks_after.Goals as goal

pub returns-clause-taken : goal.returns-clause-taken
returns-clause-taken c = taken_after

pub returns-clause-copied : goal.returns-clause-copied
returns-clause-copied c = copied_after

pub returns-clause-dropped : goal.returns-clause-dropped
returns-clause-dropped c = dropped_after

pub returns-clause-point : goal.returns-clause-point
returns-clause-point c = free_now-point
