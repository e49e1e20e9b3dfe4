-- What `run IMAGE` promises: the lines of the source are answered as a plain tree of files does, and the tree of each point is kept.
use Rattle.std.specs.Prelude.{◌≡◌, ◌⊎◌, ◌<◌, ◌≤◌, IsTrue, []}
use Rattle.edge_disk.specs.State.{shown_by, IsUntouched}
use Rattle.edge_image.specs.Opens.{OpensTo}
use Rattle.edge_model.specs.Tree.{Tree}
use Rattle.edge_session.specs.Line.{moments_of, moments_after}
use Rattle.edge_app.specs.Causes.{is_run_status, has_no_session, JudgesImage, MeetsNoFault}
use Rattle.edge_app.specs.Headline.{IsUnserved, Answers, KeepsTrees, lines_of_report}
use Rattle.edge_app.specs.Report.{Served}
use Rattle.edge_app.specs.Script.{FitsSession}
use Rattle.edge_app.specs.World.{World, TellsBytes}
use Rattle.edge_app.specs.declared.report.Report.{Report}
use Rattle.edge_app.specs.declared.report.TheConstants.{DONE, SINK, MEMORY, LIMIT}
use Rattle.edge_app.specs.declared.run_command.TheConstants.{MOST_LINES, MOST_BYTES}

-- ---- the limits

pub record KeepsLimits (report : Report) : Type 0 where
  pub bytes : report.taken ≤ MOST_BYTES
  pub lines : report.commands ≤ MOST_LINES
  -- the line whose reply the sink did not take is one more
  pub one_more : report.status ≡ SINK → report.commands < MOST_LINES
  pub reached : report.status ≡ LIMIT → (report.commands ≡ MOST_LINES) ⊎ (report.taken ≡ MOST_BYTES)

-- ---- all of it

pub record Runs (before after : World) (report : Report) : Type 0 where
  pub status : IsTrue (is_run_status report.status)
  pub limits : KeepsLimits report
  -- without a session no line is taken up, nothing is written, and the disk is as it was
  pub unserved : IsTrue (has_no_session report.status) → IsUnserved before after report × IsUntouched before.disk after.disk
  pub end : report.status ≡ DONE → IsTrue before.source.tells → after.source.left ≡ []
  -- which lines are answered; a session that was not begun has taken none up
  pub lines : IsTrue before.source.tells → Served report before.source.left after.source.left ⊎ IsUnserved before after report
  -- the clock is asked once for each line taken that spells a command
  pub clock : IsTrue before.source.tells → IsTrue before.clock.tells
      → after.clock.moments ≡ moments_after (moments_of (lines_of_report before.source.left report)) before.clock.moments
  pub image : IsTrue before.disk.origin.shows → JudgesImage before.disk after.disk report
  -- over an image that opens to a tree
  pub answers : TellsBytes before → (t : Tree) (opens : OpensTo (shown_by before.disk) t) → Answers opens.master.geometry t before after report
  -- without a fault and within the limits the script is answered whole, where there is memory
  pub complete : TellsBytes before → (t : Tree) → OpensTo (shown_by before.disk) t → FitsSession before.source.left → MeetsNoFault before after
      → (report.status ≡ DONE) ⊎ (report.status ≡ MEMORY)
  -- over a sound image
  pub headline : KeepsTrees before after report
