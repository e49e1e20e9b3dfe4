use Rattle.edge_moves.proofs.ChangeLaws.{writable_changed, writable_dirty, writable_contents, writable_zeros}
use Rattle.edge_moves.proofs.laws.a_block_made_writable_changes_its_node.Goals as goal

pub returns-clause-changed : goal.returns-clause-changed
returns-clause-changed c = λ g c v w n i indices view low places made. writable_changed g c v w n i indices view low places made

pub returns-clause-dirtied : goal.returns-clause-dirtied
returns-clause-dirtied c = λ g c v w n i indices view low places made. writable_dirty g c v w n i indices view low places made

pub returns-clause-contents : goal.returns-clause-contents
returns-clause-contents c = λ g c v w n i indices view low places made. writable_contents g c v w n i indices view low places made

pub returns-clause-zeros : goal.returns-clause-zeros
returns-clause-zeros c = λ g c v w n i indices view low places made none. writable_zeros g c v w n i indices view low places made none
