use Rattle.edge_stands.proofs.HeadLaws.{head_becomes, head_set, head_tree}
use Rattle.edge_stands.proofs.laws.set_heads.Goals as goal

pub returns-clause-becomes : goal.returns-clause-becomes
returns-clause-becomes c = head_becomes

pub returns-clause-stands : goal.returns-clause-stands
returns-clause-stands c = head_set

pub returns-clause-dirtied : goal.returns-clause-dirtied
returns-clause-dirtied c = λ g d v w t links n old new now view s there same set. head_tree g v w t links n old new now view s there same set d
