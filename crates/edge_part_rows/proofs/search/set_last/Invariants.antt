use Rattle.std.proofs.Common.{◌≡◌}
use Rattle.edge_part_rows.proofs.search.set_last.Given as goal

abbrev pub invariant-loop-bit : goal.invariant-loop-bit
invariant-loop-bit g l = record {
  geometry : l.imap.geometry ≡ l.fn.imap.geometry;
  origin : g.D.Disk.origin l.cache.disk ≡ g.D.Disk.origin l.fn.cache.disk;
}
