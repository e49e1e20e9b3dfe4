use Rattle.std.proofs.Common.{◌≡◌}
use Rattle.edge_part_rows.proofs.cache.push_change.Given as goal

abbrev pub invariant-loop-b : goal.invariant-loop-b
invariant-loop-b g l = g.D.Disk.origin l.cache.disk ≡ g.D.Disk.origin l.fn.cache.disk
