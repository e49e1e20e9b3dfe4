use Rattle.edge_store.proofs.ChangedLaws.{changed_twice, dirtied_twice}
use Rattle.edge_store.proofs.laws.changes_at_a_node_add_up.Goals as goal

pub returns-clause-changed : goal.returns-clause-changed
returns-clause-changed c = λ g u v w n a b d one two. changed_twice g u v w n a b d one two

pub returns-clause-dirtied : goal.returns-clause-dirtied
returns-clause-dirtied c = λ g c u v w n a b d ws rs xs ys one two. dirtied_twice g c u v w n a b d ws rs xs ys one two
