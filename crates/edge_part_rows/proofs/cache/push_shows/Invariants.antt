use Rattle.std.proofs.Common.{◌≡◌}
use Rattle.edge_part_rows.proofs.cache.push_shows.Given as goal

abbrev pub invariant-loop-call : goal.invariant-loop-call
invariant-loop-call g l = g.D.Disk.origin l.disk ≡ g.D.Disk.origin l.fn.disk
