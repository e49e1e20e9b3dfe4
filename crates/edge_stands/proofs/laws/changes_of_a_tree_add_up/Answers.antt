use Rattle.edge_stands.proofs.DirtyLaws.{tree_twice, tree_stays, tree_same}
use Rattle.edge_stands.proofs.laws.changes_of_a_tree_add_up.Goals as goal

pub returns-clause-twice : goal.returns-clause-twice
returns-clause-twice c = λ g d u v w r s t ws rs xs ys one two. tree_twice g d u v w r s t ws rs xs ys one two

pub returns-clause-none : goal.returns-clause-none
returns-clause-none c = tree_stays

pub returns-clause-same : goal.returns-clause-same
returns-clause-same c = tree_same
