use Rattle.std.proofs.Common.{◌≡◌}
use Rattle.edge_part_rows.proofs.bitmap.push_calls.Given as goal

abbrev pub invariant-loop-call : goal.invariant-loop-call
invariant-loop-call gg l = (l.imap.geometry ≡ l.fn.imap.geometry) × (gg.D.Disk.origin l.cache.disk ≡ gg.D.Disk.origin l.fn.cache.disk)
