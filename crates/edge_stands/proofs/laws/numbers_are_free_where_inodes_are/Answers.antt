use Rattle.edge_stands.proofs.SessionLaws.{least_free, none_free}
use Rattle.edge_stands.proofs.laws.numbers_are_free_where_inodes_are.Goals as goal

pub returns-clause-least : goal.returns-clause-least
returns-clause-least c = least_free

pub returns-clause-none : goal.returns-clause-none
returns-clause-none c = none_free
