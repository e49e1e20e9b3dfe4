use Rattle.edge_shape.proofs.ChangeLaws.{cut_changed, cut_dirtied, cut_contents}
use Rattle.edge_shape.proofs.laws.a_cut_changes_its_node.Goals as goal

pub returns-clause-changed : goal.returns-clause-changed
returns-clause-changed x = λ g c v w n i indices shape cut. cut_changed g c v w n i indices shape cut

pub returns-clause-dirtied : goal.returns-clause-dirtied
returns-clause-dirtied x = λ g c v w n i indices shape cut. cut_dirtied g c v w n i indices shape cut

pub returns-clause-contents : goal.returns-clause-contents
returns-clause-contents x = λ g c v w n i indices shape cut. cut_contents g c v w n i indices shape cut
