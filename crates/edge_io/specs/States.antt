-- A source, a sink, a folder and a clock, each as one value: the members of its trait.
use Rattle.std.specs.Prelude.{ℕ, Bool, List}
use Rattle.edge_io.specs.Entries.{FolderEntry}
use Rattle.edge_io.specs.declared.clock.Clock.{Ghosts as ClockGhosts}
use Rattle.edge_io.specs.declared.folder.Folder.{Ghosts as FolderGhosts}
use Rattle.edge_io.specs.declared.sink.Sink.{Ghosts as SinkGhosts}
use Rattle.edge_io.specs.declared.source.Source.{Ghosts as SourceGhosts}

pub record SourceState : Type 0 where
  -- whether its bytes are told
  pub tells : Bool
  pub left : List ℕ
  pub faults : ℕ

pub record SinkState : Type 0 where
  -- whether its bytes are told
  pub tells : Bool
  pub taken : List ℕ
  pub faults : ℕ

pub record FolderState : Type 0 where
  -- whether its items are told
  pub tells : Bool
  pub items : List FolderEntry
  pub left : List ℕ
  pub faults : ℕ

pub record ClockState : Type 0 where
  -- whether its moments are told
  pub tells : Bool
  pub moments : List ℕ

-- ---- what an object means

abbrev pub source_of : {S : Type 0} → SourceGhosts S → S → SourceState
source_of g s = record { tells = g.tells s; left = g.left s; faults = g.faults s }

abbrev pub sink_of : {K : Type 0} → SinkGhosts K → K → SinkState
sink_of g k = record { tells = g.tells k; taken = g.taken k; faults = g.faults k }

abbrev pub folder_of : {F : Type 0} → FolderGhosts F → F → FolderState
folder_of g f = record { tells = g.tells f; items = g.items f; left = g.left f; faults = g.faults f }

abbrev pub clock_of : {C : Type 0} → ClockGhosts C → C → ClockState
clock_of g c = record { tells = g.tells c; moments = g.moments c }
