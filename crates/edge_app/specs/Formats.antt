-- What `format IMAGE` promises: the disk becomes a fresh volume at the clock's next moment.
use Rattle.std.specs.Prelude.{◌≡◌, ◌≢◌, ◌⊎◌, ◌↔◌, ℕ, IsTrue, List, ◌++◌, codes, decimal}
use Rattle.edge_base.specs.outside.Faults.{Rose}
use Rattle.edge_base.specs.declared.geometry.Request.{Request}
use Rattle.edge_base.specs.layout.Places.{allocable_of}
use Rattle.edge_disk.specs.State.{shown_by, EachCut, EachPermitted, IsSettled, Keeps}
use Rattle.edge_io.specs.Moments.{GivesMoment}
use Rattle.edge_io.specs.Streams.{TookPart}
use Rattle.edge_image.specs.Formatted.{OpensFresh}
use Rattle.edge_format.specs.Nodes.{IsBeside}
use Rattle.edge_format.specs.Cut.{IsOldOrFresh}
use Rattle.edge_app.specs.Causes.{is_format_status}
use Rattle.edge_app.specs.Orders.{IsUnfit}
use Rattle.edge_app.specs.Report.{unserved_by}
use Rattle.edge_app.specs.World.{World}
use Rattle.edge_app.specs.declared.report.Report.{Report}
use Rattle.edge_app.specs.declared.report.TheConstants.{DONE, SINK, DEVICE, GEOMETRY}

-- formatted ALLOCABLE
abbrev pub formatted_line : Request → List ℕ
formatted_line g = codes "formatted " ++ decimal (allocable_of g) ++ codes "\n"

-- the disk was written whole
abbrev pub IsWritten : ℕ → Type 0
IsWritten status = (status ≡ DONE) ⊎ (status ≡ SINK)

-- The disk was made a volume, or a call failed.
pub record MakesVolume (g : Request) (before after : World) (report : Report) : Type 0 where
  -- the clock's next moment is the time of formatting
  pub time : ℕ
  pub moment : IsTrue before.clock.tells → GivesMoment time before.clock.moments after.clock.moments
  -- written whole, the disk shows a fresh image, and a cut leaves no other
  pub shown : IsTrue before.disk.origin.shows → IsWritten report.status → OpensFresh g time (shown_by after.disk)
  pub permitted : IsSettled before.disk → IsWritten report.status → EachPermitted after.disk (OpensFresh g time)
  pub sure : IsSettled before.disk → IsWritten report.status → (b : ℕ) → after.disk.is_sure b
  -- where a call failed, a cut may also leave the old image, or none with a master
  pub cut : IsSettled before.disk → report.status ≡ DEVICE → EachCut after.disk (IsOldOrFresh (shown_by before.disk) g time)

pub record Formats (g : Request) (before after : World) (report : Report) : Type 0 where
  pub status : IsTrue (is_format_status report.status)
  pub none : report ≡ unserved_by report.status 0
  pub unfit : (report.status ≡ GEOMETRY) ↔ IsUnfit g before.disk.origin.blocks
  pub source : after.source.left ≡ before.source.left
  -- at DONE its line is printed, at SINK a part of it, and else nothing
  pub line : IsTrue before.sink.tells → report.status ≡ DONE → after.sink.taken ≡ before.sink.taken ++ formatted_line g
  pub part : IsTrue before.sink.tells → report.status ≡ SINK → TookPart (formatted_line g) before.sink.taken after.sink.taken
  pub silent : (report.status ≡ DEVICE) ⊎ (report.status ≡ GEOMETRY) → after.sink.taken ≡ before.sink.taken
  -- a geometry that is refused takes no moment
  pub no_moment : report.status ≡ GEOMETRY → after.clock.moments ≡ before.clock.moments
  pub volume : report.status ≢ GEOMETRY → MakesVolume g before after report
  pub beside : Keeps (IsBeside g) before.disk after.disk
  -- without a fault of the sink or the disk, a geometry that fits is formatted
  pub complete : (IsUnfit g before.disk.origin.blocks → ⊥) → (Rose before.sink.faults after.sink.faults → ⊥)
      → (Rose before.disk.faults after.disk.faults → ⊥) → report.status ≡ DONE
