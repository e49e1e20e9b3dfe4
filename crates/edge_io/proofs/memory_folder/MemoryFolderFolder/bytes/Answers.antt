use Rattle.std.proofs.Common.{arith}
use Rattle.std.proofs.lemmas.Grind.{common_steps}
use Rattle.edge_io.proofs.StreamLemmas.{gives_first}
use Rattle.edge_io.proofs.memory_folder.MemoryFolderFolder.bytes.Goals as goal

pub returns-clause-given : goal.returns-clause-given
returns-clause-given c = gives_first _ _ _ _ _ (grind (arith, common_steps)) (grind (arith, common_steps))
