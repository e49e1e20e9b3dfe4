use Rattle.edge_imap.specs.Bitmaps.{IsFit}
use Rattle.edge_part_rows.specs.Front.{origin_of}
use Rattle.edge_part_rows.proofs.search.disk_of.Given as goal

abbrev pub invariant-loop-node : goal.invariant-loop-node
invariant-loop-node l = IsFit l.g (origin_of l.disk)
