use Rattle.edge_count.proofs.CutStepLaws.{cut_part}
use Rattle.edge_count.proofs.JoinLaws.{chain_part, write_rest, cut_rest}
use Rattle.edge_count.proofs.laws.a_change_that_fits_has_room_for_its_steps.Goals as goal

pub returns-clause-write : goal.returns-clause-write
returns-clause-write c g committed v n i writes removes low stays = chain_part g committed v n i low writes removes stays

pub returns-clause-after_write : goal.returns-clause-after_write
returns-clause-after_write c = write_rest

pub returns-clause-cut : goal.returns-clause-cut
returns-clause-cut c g committed v n i indices writes removes shape elsewhere = cut_part g committed v n i indices shape writes removes elsewhere

pub returns-clause-after_cut : goal.returns-clause-after_cut
returns-clause-after_cut c = cut_rest
