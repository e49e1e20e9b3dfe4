use Rattle.edge_count.proofs.JoinLaws.{write_and_cut_apart, write_and_cut}
use Rattle.edge_count.proofs.laws.a_write_and_a_cut_count_together.Goals as goal

pub returns-clause-apart : goal.returns-clause-apart
returns-clause-apart c = write_and_cut_apart

pub returns-clause-same : goal.returns-clause-same
returns-clause-same c = write_and_cut
