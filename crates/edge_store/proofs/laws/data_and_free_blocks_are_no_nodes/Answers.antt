use Rattle.edge_store.proofs.ShapeLaws.{IsNoNodeOf-data, IsNoNodeOf-unused}
use Rattle.edge_store.proofs.laws.data_and_free_blocks_are_no_nodes.Goals as goal

pub returns-clause-data : goal.returns-clause-data
returns-clause-data c = λ g v n i indices places once h there. IsNoNodeOf-data g v n indices places once i h there

pub returns-clause-free : goal.returns-clause-free
returns-clause-free c = λ g v n b indices places some unused. IsNoNodeOf-unused g v n indices places b some unused
