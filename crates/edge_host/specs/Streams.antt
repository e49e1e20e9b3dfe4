-- What a source over a reader and a sink over a writer tell: their faults, and what std tells of the bytes.
use Rattle.std.specs.Prelude.{ℕ, List, Option}
use Rattle.edge_host.specs.declared.streams.HostSource.{HostSource}
use Rattle.edge_host.specs.declared.streams.HostSink.{HostSink}

-- the reads that failed so far
abbrev pub source_faults : {R : Type 0} → HostSource R → ℕ
source_faults s = s.faults

-- the writes that failed so far
abbrev pub sink_faults : {W : Type 0} → HostSink W → ℕ
sink_faults s = s.faults

-- the bytes that the reader has left, where `remaining` tells them
abbrev pub left_of : {R : Type 0} → (R → Option (List ℕ)) → HostSource R → Option (List ℕ)
left_of remaining s = remaining s.input

-- the bytes that the writer holds, where `contents` tells them
abbrev pub taken_of : {W : Type 0} → (W → Option (List ℕ)) → HostSink W → Option (List ℕ)
taken_of contents s = contents s.output
