use Rattle.std.proofs.Common.{refl}
use Rattle.edge_file.specs.Bytes.{bytes_at}
use Rattle.edge_file.proofs.read.read_at.Goals as goal

pub returns-then-at-head-clause-bytes : goal.returns-then-at-head-clause-bytes
unfolding bytes_at
returns-then-at-head-clause-bytes g c told = refl
