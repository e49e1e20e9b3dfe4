use Rattle.std.proofs.Common.{◌≡◌}
use Rattle.edge_part_rows.proofs.cache.push_calls.Given as goal

abbrev pub invariant-loop-call : goal.invariant-loop-call
invariant-loop-call g l = g.D.Disk.origin l.cache.disk ≡ g.D.Disk.origin l.fn.cache.disk
