use Rattle.edge_stands.proofs.HeadLaws.{dropped_becomes, inode_dropped, dropped_tree}
use Rattle.edge_stands.proofs.laws.dropped_inodes.Goals as goal

pub returns-clause-becomes : goal.returns-clause-becomes
returns-clause-becomes c = λ g v w t links n node now view s there empty dropped. dropped_becomes g v w t links n node view s there empty dropped now

pub returns-clause-stands : goal.returns-clause-stands
returns-clause-stands c = inode_dropped

pub returns-clause-dirtied : goal.returns-clause-dirtied
returns-clause-dirtied c = λ g d v w t links n node view s there empty dropped. dropped_tree g v w t links n node view s there empty dropped d
