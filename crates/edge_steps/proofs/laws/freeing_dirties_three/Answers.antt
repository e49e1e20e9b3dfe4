use Rattle.edge_steps.proofs.SpaceLaws.{freeing_dirty}
use Rattle.edge_steps.proofs.laws.freeing_dirties_three.Goals as goal

pub returns : goal.returns
returns c = freeing_dirty
