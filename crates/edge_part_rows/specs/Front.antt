-- What a disk of which the first blocks alone are kept tells: its size, and nothing of what it holds.
use Rattle.std.specs.Prelude.{false, []}
use Rattle.edge_disk.specs.Disk.{Origin}
use Rattle.edge_part_rows.specs.declared.front.FrontDisk.{FrontDisk}

abbrev pub origin_of : FrontDisk → Origin
origin_of d = record { blocks = d.blocks; block_size = 512; shows = false; keeps = false; others = [] }
