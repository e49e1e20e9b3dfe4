use Rattle.edge_count.proofs.KeptLaws.{writable_keeps, writable_apart, cut_keeps, cut_apart}
use Rattle.edge_count.proofs.laws.a_step_keeps_other_nodes.Goals as goal

pub returns-clause-write : goal.returns-clause-write
returns-clause-write c g committed v w n m i indices others other view apart away made = (writable_keeps g committed v w n m i indices others other view apart away made).0

pub returns-clause-write_shape : goal.returns-clause-write_shape
returns-clause-write_shape c g committed v w n m i indices others other view apart away made = (writable_keeps g committed v w n m i indices others other view apart away made).1

pub returns-clause-cut : goal.returns-clause-cut
returns-clause-cut c g committed v w n m i indices others other apart away cut = (cut_keeps g committed v w n m i indices others other cut.shape.view apart away cut).0

pub returns-clause-cut_shape : goal.returns-clause-cut_shape
returns-clause-cut_shape c g committed v w n m i indices others other apart away cut = (cut_keeps g committed v w n m i indices others other cut.shape.view apart away cut).1

pub returns-clause-write_apart : goal.returns-clause-write_apart
returns-clause-write_apart c g committed v w n m i indices others shape other view apart away made = writable_apart g committed v w n m i indices others shape other view apart away made

pub returns-clause-cut_apart : goal.returns-clause-cut_apart
returns-clause-cut_apart c g committed v w n m i indices others shape other apart away cut = cut_apart g committed v w n m i indices others shape other cut.shape.view apart away cut
