use Rattle.edge_model.proofs.StepLaws.{refused_keeps}
use Rattle.edge_model.proofs.laws.refused_keeps.Goals as goal

pub returns : goal.returns
returns c = refused_keeps
