use Rattle.edge_model.proofs.ReadLaws.{step_reads}
use Rattle.edge_model.proofs.laws.step_reads.Goals as goal

pub returns : goal.returns
returns c = step_reads
