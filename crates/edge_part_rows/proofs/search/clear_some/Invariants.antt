use Rattle.std.proofs.Common.{◌≡◌}
use Rattle.edge_part_rows.proofs.search.clear_some.Given as goal

abbrev pub invariant-loop : goal.invariant-loop
invariant-loop g l = record {
  geometry : l.imap.geometry ≡ l.fn.imap.geometry;
  origin : g.D.Disk.origin l.cache.disk ≡ g.D.Disk.origin l.fn.cache.disk;
}
