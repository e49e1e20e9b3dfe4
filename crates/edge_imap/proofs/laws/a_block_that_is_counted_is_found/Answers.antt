use Rattle.edge_imap.proofs.ListLaws.{free_bit, free_is_found}
use Rattle.edge_imap.proofs.laws.a_block_that_is_counted_is_found.Goals as goal

pub returns-clause-free : goal.returns-clause-free
returns-clause-free c = free_bit

pub returns-clause-found : goal.returns-clause-found
returns-clause-found c = free_is_found
