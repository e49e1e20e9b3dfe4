-- The headline. For every script of file commands on a sound image, the replies are those of a plain tree of files under the written
-- limits; and whenever the program ends, or power is cut before or within any device call, every image that the disk may then hold opens
-- to the tree of the last completed point, or of the one under way.
use Rattle.std.specs.Prelude.{◌≡◌, ◌≢◌, ◌⊎◌, ◌≤◌, ◌^◌, ℕ, ◌+◌, ◌==◌, ◌&&◌, ◌||◌, Bool, IsTrue, List, ◌++◌, length, slice_get, Some}
use Rattle.edge_base.specs.declared.geometry.Request.{Request}
use Rattle.edge_disk.specs.Disk.{DiskState}
use Rattle.edge_disk.specs.Image.{Image}
use Rattle.edge_disk.specs.State.{shown_by, EachCut}
use Rattle.edge_image.specs.Opens.{OpensTo, IsSound}
use Rattle.edge_io.specs.Streams.{TookPart}
use Rattle.edge_model.specs.Run.{Run}
use Rattle.edge_model.specs.Tree.{Tree}
use Rattle.edge_session.specs.Script.{lines_of, lines_taken}
use Rattle.edge_session.specs.Session.{GaveNoLine, closed_where, next_text, run_before, run_over, text_of}
use Rattle.edge_app.specs.Causes.{has_no_session}
use Rattle.edge_app.specs.Report.{Unserved}
use Rattle.edge_app.specs.World.{World, TellsBytes}
use Rattle.edge_app.specs.declared.report.Report.{Report}
use Rattle.edge_app.specs.declared.report.TheConstants.{DONE, SOURCE, SINK, DEVICE, LIMIT}
use Rattle.edge_app.specs.declared.run_command.TheConstants.{MOST_LINES, MOST_BYTES}

-- no line was taken up, and nothing was written
abbrev pub IsUnserved : World → World → Report → Type 0
IsUnserved before after report = Unserved report before.source.left after.source.left before.sink.taken after.sink.taken

-- ---- images at points

-- The image opens to tree k of these.
pub record OpensToNth (trees : List Tree) (k : ℕ) (image : Image) : Type 0 where
  pub tree : Tree
  pub is_there : slice_get trees k ≡ Some tree
  pub opens : OpensTo image tree

-- The image opens to the tree of the last completed point, or where the device failed to that of the one under way.
abbrev pub OpensAtPoint : List Tree → Report → Image → Type 0
OpensAtPoint trees report image = OpensToNth trees report.points image ⊎ ((report.status ≡ DEVICE) × OpensToNth trees (report.points + 1) image)

-- ---- the run over the lines that were taken

-- The lines taken. A rest behind the last line feed is one where the script is used up, and the source has not failed.
abbrev pub lines_of_report : List ℕ → Report → List (List ℕ)
lines_of_report script report = lines_taken script report.taken (report.status == SOURCE)

abbrev pub is_used_up : List ℕ → Report → Bool
is_used_up script report = (report.taken == length script) || (report.commands == MOST_LINES) || (report.taken == MOST_BYTES)

abbrev pub may_close : ℕ → Bool
may_close status = (status == DONE) || (status == DEVICE) || (status == LIMIT)

-- The closing step counts where every line taken was answered, and the script is used up or a limit is reached.
abbrev pub is_closed : List ℕ → Report → Bool
is_closed script report = may_close report.status && (report.commands == length (lines_of_report script report)) && is_used_up script report

-- the model's run, from a tree, over the lines that were taken
abbrev pub run_reported : Request → Tree → List ℕ → Report → Run
run_reported g t script report = closed_where (is_closed script report) (run_over g t (lines_of_report script report))

-- the opening tree, and the tree at each point of that run
abbrev pub trees_at_points : Request → Tree → World → Report → List Tree
trees_at_points g t before report = (run_reported g t before.source.left report).trees

-- the same of the lines that were answered
abbrev pub trees_answered : Request → Tree → World → Report → List Tree
trees_answered g t before report = (run_before g t before.source.left report.commands).trees

-- ---- the four parts

-- The lines taken are those answered, or one more.
abbrev pub TookLines : List (List ℕ) → Report → Type 0
TookLines lines report = (length lines ≡ report.commands) ⊎ (length lines ≡ report.commands + 1)

-- The sink took the text of the answers to the lines answered, and where it failed a part of the next one's.
pub record TookReplies (g : Request) (t : Tree) (before after : World) (report : Report) : Type 0 where
  pub answered : report.status ≢ SINK
      → after.sink.taken ≡ before.sink.taken ++ text_of (run_before g t before.source.left report.commands)
  pub part : report.status ≡ SINK → TookPart (next_text g t before.source.left report.commands)
      (before.sink.taken ++ text_of (run_before g t before.source.left report.commands)) after.sink.taken

pub record Replies (g : Request) (t : Tree) (before after : World) (report : Report) : Type 0 where
  pub lines : TookLines (lines_of_report before.source.left report) report
  pub text : TookReplies g t before after report
  -- a source that failed has given no further whole line
  pub begun : report.status ≡ SOURCE → GaveNoLine before.source.left after.source.left report.taken
  -- without a session nothing was taken, answered or printed
  pub silent : IsTrue (has_no_session report.status) → IsUnserved before after report × (report.points ≡ 0)

-- The points of the lines answered are completed, and all points are but where the device failed.
pub record Points (answered trees : List Tree) (report : Report) : Type 0 where
  pub answered_first : length answered ≤ report.points + 1
  pub all : report.status ≢ DEVICE → report.points + 1 ≡ length trees

-- the whole script is taken, and every line answered
pub record IsAnsweredWhole (script : List ℕ) (report : Report) : Type 0 where
  pub taken : report.taken ≡ length script
  pub answered : report.commands ≡ length (lines_of script)

-- The whole script is answered, and the last tree is stored.
pub record Whole (trees : List Tree) (before after : World) (report : Report) : Type 0 where
  pub script : IsAnsweredWhole before.source.left report
  pub last : report.points + 1 ≡ length trees
  pub stored : OpensToNth trees report.points (shown_by after.disk)

pub record Headline (g : Request) (t : Tree) (before after : World) (report : Report) : Type 0 where
  -- The replies are those of a plain tree of files.
  pub replies : Replies g t before after report
  -- Each image that a cut may leave opens to the tree of the last completed point, or of the one under way.
  pub images : EachCut after.disk (OpensAtPoint (trees_at_points g t before report) report)
  -- The points of the lines answered are completed.
  pub points : Points (trees_answered g t before report) (trees_at_points g t before report) report
  -- At DONE the whole script is answered, and its last tree stored.
  pub whole : report.status ≡ DONE → Whole (trees_at_points g t before report) before after report

-- What needs no candidates and no room for sequence numbers: the replies, the points, and that the script is answered whole.
pub record Answers (g : Request) (t : Tree) (before after : World) (report : Report) : Type 0 where
  pub replies : Replies g t before after report
  pub points : Points (trees_answered g t before report) (trees_at_points g t before report) report
  pub whole : report.status ≡ DONE → IsAnsweredWhole before.source.left report

-- ---- the premises

-- The disk tells its candidates, and is sound. A sequence number of 2 ^ 62 leaves room for every point of a session.
pub record IsSoundStart (disk : DiskState) (t : Tree) : Type 0 where
  pub keeps : IsTrue disk.origin.keeps
  pub sound : IsSound disk t
  pub sequence : sound.opens.live.root.sequence ≤ 2 ^ 62

-- over every sound image whose bytes are told
abbrev pub KeepsTrees : World → World → Report → Type 0
KeepsTrees before after report =
    TellsBytes before → (t : Tree) (start : IsSoundStart before.disk t) → Headline start.sound.opens.master.geometry t before after report
