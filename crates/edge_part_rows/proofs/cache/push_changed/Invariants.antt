use Rattle.std.proofs.Common.{◌≡◌, length}
use Rattle.edge_part_rows.proofs.cache.push_changed.Given as goal

abbrev pub invariant-loop-b : goal.invariant-loop-b
invariant-loop-b g l = (g.D.Disk.origin l.disk ≡ g.D.Disk.origin l.fn.disk) × (length l.block ≡ length l.fn.block)
