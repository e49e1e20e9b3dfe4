use Rattle.edge_steps.proofs.ListPlans.{change_listed}
use Rattle.edge_steps.proofs.laws.changes_list_their_blocks.Goals as goal

pub returns : goal.returns
returns c = change_listed
