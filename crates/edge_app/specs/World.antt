-- What the program meets, as one value: a source, a sink, a clock and a disk. Each is what its trait tells of it.
use Rattle.std.specs.Prelude.{IsTrue}
use Rattle.edge_disk.specs.Disk.{DiskState}
use Rattle.edge_disk.specs.State.{disk_of}
use Rattle.edge_io.specs.States.{SourceState, SinkState, ClockState, source_of, sink_of, clock_of}
use Rattle.edge_disk.specs.declared.disk.Disk.{Ghosts as DiskGhosts}
use Rattle.edge_io.specs.declared.clock.Clock.{Ghosts as ClockGhosts}
use Rattle.edge_io.specs.declared.sink.Sink.{Ghosts as SinkGhosts}
use Rattle.edge_io.specs.declared.source.Source.{Ghosts as SourceGhosts}

pub record World : Type 1 where
  pub source : SourceState
  pub sink : SinkState
  pub clock : ClockState
  pub disk : DiskState

abbrev pub world : {S K C D : Type 0} → SourceGhosts S → SinkGhosts K → ClockGhosts C → DiskGhosts D → S → K → C → D → World
world s k c d source sink clock disk = record { source = source_of s source; sink = sink_of k sink; clock = clock_of c clock; disk = disk_of d disk }

-- the same where a command is given no clock, or no source
abbrev pub world_with_clock : {S K D : Type 0} → SourceGhosts S → SinkGhosts K → DiskGhosts D → ClockState → S → K → D → World
world_with_clock s k d clock source sink disk = record { source = source_of s source; sink = sink_of k sink; clock = clock; disk = disk_of d disk }

abbrev pub world_with_source : {K C D : Type 0} → SinkGhosts K → ClockGhosts C → DiskGhosts D → SourceState → K → C → D → World
world_with_source k c d source sink clock disk = record { source = source; sink = sink_of k sink; clock = clock_of c clock; disk = disk_of d disk }

-- The disk, the source and the sink tell their bytes.
pub record TellsBytes (w : World) : Type 0 where
  pub disk : IsTrue w.disk.origin.shows
  pub source : IsTrue w.source.tells
  pub sink : IsTrue w.sink.tells
