use Rattle.std.proofs.Common.{◌≡◌, ◌<◌}
use Rattle.edge_imap.specs.Bitmaps.{bits_of}
use Rattle.edge_part_rows.proofs.search.take_blocks.Given as goal

abbrev pub invariant-loop-taken : goal.invariant-loop-taken
invariant-loop-taken g l = record {
  geometry : l.imap.geometry ≡ l.fn.imap.geometry;
  origin : g.D.Disk.origin l.cache.disk ≡ g.D.Disk.origin l.fn.cache.disk;
  last : l.last < bits_of l.fn.imap.geometry;
}
