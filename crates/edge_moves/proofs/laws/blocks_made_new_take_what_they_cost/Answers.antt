use Rattle.edge_moves.proofs.SpentLaws.{entry_free, pointer_free}
use Rattle.edge_moves.proofs.laws.blocks_made_new_take_what_they_cost.Goals as goal

pub returns-clause-entry : goal.returns-clause-entry
returns-clause-entry x g c v w n e b renewed = entry_free g c v w n e b renewed

pub returns-clause-pointer : goal.returns-clause-pointer
returns-clause-pointer x g c v w form n top i b view new renewed = pointer_free g c v w form n top i b view new renewed
