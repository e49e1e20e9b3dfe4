use Rattle.edge_shape.proofs.BlockLaws.{steps_cut, index_cut}
use Rattle.edge_shape.proofs.laws.a_cut_leaves_the_indices_before.Goals as goal

pub returns-clause-steps : goal.returns-clause-steps
returns-clause-steps c g committed v w n i cut indices shape through takes same steps view = steps_cut g committed v w n i indices shape view cut through (takes, same) steps

pub returns-clause-at_an_index : goal.returns-clause-at_an_index
returns-clause-at_an_index c g committed v w n i indices shape steps view = index_cut g committed v w n i indices shape view steps
