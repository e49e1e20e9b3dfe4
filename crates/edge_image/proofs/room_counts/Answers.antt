use Rattle.edge_image.proofs.RoomLaws.{view_allocable, occupied, as_many, free_and_placed}
use Rattle.edge_image.proofs.room_counts.Goals as goal

pub returns-clause-allocable : goal.returns-clause-allocable
returns-clause-allocable c = λ g image live. view_allocable g image live

pub returns-clause-occupied : goal.returns-clause-occupied
returns-clause-occupied c = λ g v t allocable stands. occupied g v t allocable stands

pub returns-clause-used : goal.returns-clause-used
returns-clause-used c = λ g v t allocable stands. as_many g v t allocable stands

pub returns-clause-free : goal.returns-clause-free
returns-clause-free c = λ image t opens. free_and_placed image t opens
