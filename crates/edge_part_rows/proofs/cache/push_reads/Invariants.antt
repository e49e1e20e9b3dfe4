use Rattle.std.proofs.Common.{◌≡◌}
use Rattle.edge_part_rows.proofs.cache.push_reads.Given as goal

abbrev pub invariant-loop-i : goal.invariant-loop-i
invariant-loop-i g l = g.D.Disk.origin l.cache.disk ≡ g.D.Disk.origin l.fn.cache.disk
