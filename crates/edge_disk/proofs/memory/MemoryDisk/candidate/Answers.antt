use Rattle.std.proofs.Common.{rules}
use Rattle.edge_disk.proofs.PickLemmas.{past}
use Rattle.edge_disk.proofs.memory.MemoryDisk.candidate.Goals as goal

pub returns-in-None : goal.returns-in-None
returns-in-None c = past _ c.args.b _ c.args.pick c.if-pick-eq0.false (search rules)
