-- What a disk over a file tells: its size and its faults, and nothing of what the file holds.
use Rattle.std.specs.Prelude.{ℕ, Bool, false, []}
use Rattle.edge_disk.specs.Disk.{Origin}
use Rattle.edge_host.specs.declared.disk.HostDisk.{HostDisk}

abbrev pub origin_of : HostDisk → Origin
origin_of d = record { blocks = d.blocks; block_size = d.block_size; shows = false; keeps = false; others = [] }

-- the calls that failed so far
abbrev pub faults_of : HostDisk → ℕ
faults_of d = d.faults

-- whether a flush has failed
abbrev pub sync_failed_of : HostDisk → Bool
sync_failed_of d = d.sync_failed
