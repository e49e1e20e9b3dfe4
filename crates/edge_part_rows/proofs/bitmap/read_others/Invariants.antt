use Rattle.std.proofs.Common.{◌≡◌}
use Rattle.edge_part_rows.proofs.bitmap.read_others.Given as goal

abbrev pub invariant-loop-block : goal.invariant-loop-block
invariant-loop-block g l = g.D.Disk.origin l.cache.disk ≡ g.D.Disk.origin l.fn.cache.disk
