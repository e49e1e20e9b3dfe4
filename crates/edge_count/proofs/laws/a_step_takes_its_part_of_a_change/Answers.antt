use Rattle.edge_count.proofs.WriteStepLaws.{write_step}
use Rattle.edge_count.proofs.CutStepLaws.{cut_step}
use Rattle.edge_count.proofs.laws.a_step_takes_its_part_of_a_change.Goals as goal

pub returns-clause-write : goal.returns-clause-write
returns-clause-write c g committed v w n i indices writes removes shape view low made of_writes of_removes stays = write_step g committed v w n i indices shape view low made writes removes of_writes of_removes stays

pub returns-clause-cut : goal.returns-clause-cut
returns-clause-cut c g committed v w n i indices writes removes shape cut of_writes among of_removes elsewhere = cut_step g committed v w n i indices shape cut writes removes of_writes among of_removes elsewhere
