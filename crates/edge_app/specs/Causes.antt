-- Which status comes when. `docs/COMMANDS.md` has the statuses.
use Rattle.std.specs.Prelude.{◌≡◌, ◌≢◌, ◌⊎◌, ◌↔◌, ℕ, ◌==◌, ◌||◌, Bool, IsTrue, List, Some, None}
use Rattle.edge_base.specs.outside.Faults.{Rose}
use Rattle.edge_base.specs.declared.geometry.Request.{Request}
use Rattle.edge_disk.specs.Disk.{DiskState}
use Rattle.edge_disk.specs.State.{shown_by}
use Rattle.edge_image.specs.Image.{reason_of}
use Rattle.edge_image.specs.Opens.{OpensTo}
use Rattle.edge_model.specs.Tree.{Tree}
use Rattle.edge_words.specs.Words.{Word}
use Rattle.edge_words.specs.Orders.{Wanted, Spells}
use Rattle.edge_app.specs.Orders.{AsksRun, AsksFormat, AsksNothing, IsUnfit}
use Rattle.edge_app.specs.Report.{MeetsDamage}
use Rattle.edge_app.specs.World.{World}
use Rattle.edge_app.specs.declared.report.Report.{Report}
use Rattle.edge_app.specs.declared.report.TheConstants.{DONE, WORDS, SOURCE, SINK, DEVICE, DAMAGED, MEMORY, NOT_A_VOLUME, GEOMETRY, LIMIT}

-- ---- the statuses of each command

abbrev pub is_status : ℕ → Bool
is_status n =
    (n == DONE) || (n == WORDS) || (n == SOURCE) || (n == SINK) || (n == DEVICE) || (n == DAMAGED) || (n == MEMORY) || (n == NOT_A_VOLUME)
    || (n == GEOMETRY) || (n == LIMIT)

abbrev pub is_run_status : ℕ → Bool
is_run_status n =
    (n == DONE) || (n == SOURCE) || (n == SINK) || (n == DEVICE) || (n == DAMAGED) || (n == MEMORY) || (n == NOT_A_VOLUME) || (n == LIMIT)

-- the statuses of a run alone
abbrev pub is_run_only : ℕ → Bool
is_run_only n = (n == SOURCE) || (n == DAMAGED) || (n == MEMORY) || (n == NOT_A_VOLUME) || (n == LIMIT)

-- the statuses of a run that has a session
abbrev pub is_session : ℕ → Bool
is_session n = (n == DONE) || (n == SOURCE) || (n == SINK) || (n == DAMAGED) || (n == LIMIT)

-- the statuses of a run that has none, whatever the disk does
abbrev pub has_no_session : ℕ → Bool
has_no_session n = (n == WORDS) || (n == MEMORY) || (n == NOT_A_VOLUME) || (n == GEOMETRY)

abbrev pub is_format_status : ℕ → Bool
is_format_status n = (n == DONE) || (n == SINK) || (n == DEVICE) || (n == GEOMETRY)

-- the statuses that come before any call of the disk
abbrev pub IsBeforeDisk : ℕ → Type 0
IsBeforeDisk n = (n ≡ WORDS) ⊎ (n ≡ MEMORY) ⊎ (n ≡ GEOMETRY)

-- ---- by the words

-- the words ask for a volume that no geometry allows, or that has more blocks than the disk
pub record AsksUnfit (words : List Word) (blocks : ℕ) : Type 0 where
  pub request : Request
  pub asked : AsksFormat words request
  pub unfit : IsUnfit request blocks

pub record HasStatus (words : List Word) (blocks status : ℕ) : Type 0 where
  pub known : IsTrue (is_status status)
  pub words_spell_none : (status ≡ WORDS) ↔ AsksNothing words
  pub volume_is_unfit : (status ≡ GEOMETRY) ↔ AsksUnfit words blocks
  pub run_alone : IsTrue (is_run_only status) → AsksRun words
  -- the words ask for something, or for nothing
  pub decided : AsksNothing words ⊎ ((wanted : Wanted) × Spells words wanted)

-- ---- by faults

-- A count rose by one where this status tells of it, and stood still at every other.
pub record CountsFor (failure status before after : ℕ) : Type 0 where
  pub rose : status ≡ failure → Rose before after
  pub still : status ≢ failure → after ≡ before

-- A status tells of a fault of this call where there was one, and the first fault ended the run: since any call of the source, the
-- sink or the disk may fail, none came after it.
pub record HasCauses (before after : World) (report : Report) : Type 0 where
  pub source : CountsFor SOURCE report.status before.source.faults after.source.faults
  pub sink : CountsFor SINK report.status before.sink.faults after.sink.faults
  pub device : CountsFor DEVICE report.status before.disk.faults after.disk.faults
  -- a reason is told at NOT_A_VOLUME alone, and damage at DAMAGED alone
  pub reason : report.status ≢ NOT_A_VOLUME → report.reason ≡ 0
  pub damage : report.status ≢ DAMAGED → report.damage ≡ None
  -- the disk is that which was given
  pub origin : after.disk.origin ≡ before.disk.origin

-- no count rose
pub record MeetsNoFault (before after : World) : Type 0 where
  pub source : Rose before.source.faults after.source.faults → ⊥
  pub sink : Rose before.sink.faults after.sink.faults → ⊥
  pub disk : Rose before.disk.faults after.disk.faults → ⊥

-- ---- by the image

-- An image is refused with its first reason, and served only without one. The damage that is told is there. Neither comes where the
-- image opens to a tree.
pub record JudgesImage (before after : DiskState) (report : Report) : Type 0 where
  pub refused : report.status ≡ NOT_A_VOLUME → reason_of (shown_by before) ≡ Some report.reason
  pub served : IsTrue (is_session report.status) → reason_of (shown_by before) ≡ None
  pub damaged : report.status ≡ DAMAGED → MeetsDamage (shown_by before) after report.damage
  pub opens : (t : Tree) → OpensTo (shown_by before) t → (report.status ≢ DAMAGED) × (report.status ≢ NOT_A_VOLUME)
