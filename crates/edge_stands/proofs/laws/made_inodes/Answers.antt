use Rattle.edge_stands.proofs.HeadLaws.{made_becomes, inode_made, made_tree}
use Rattle.edge_stands.proofs.laws.made_inodes.Goals as goal

pub returns-clause-becomes : goal.returns-clause-becomes
returns-clause-becomes c = made_becomes

pub returns-clause-stands : goal.returns-clause-stands
returns-clause-stands c = inode_made

pub returns-clause-dirtied : goal.returns-clause-dirtied
returns-clause-dirtied c = λ g d v w t links n node now view s empty made. made_tree g v w t links n node now view s empty made d
