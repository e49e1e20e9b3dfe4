use Rattle.edge_imap.proofs.ListLaws.{use_same}
use Rattle.edge_imap.proofs.laws.others_keep_the_lists.Goals as goal

pub returns-clause-committed : goal.returns-clause-committed
returns-clause-committed c = λ m old new limits same b low. use_same m.geometry m.committed old new limits same b low

pub returns-clause-working : goal.returns-clause-working
returns-clause-working c = λ m old new limits same b low. use_same m.geometry m.working old new limits same b low
