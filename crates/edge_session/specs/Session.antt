-- What a session did with a script: which lines it took up and answered, and what the sink has taken.
use Rattle.std.specs.Prelude.{◌≡◌, ◌⊎◌, ◌<◌, ◌≤◌, ℕ, ◌+◌, ◌==◌, Bool, true, false, is_some, if◌then◌else◌, List, ◌++◌, length, take, drop, map}
use Rattle.std.specs.List.{flat_map}
use Rattle.edge_base.specs.declared.geometry.Request.{Request}
use Rattle.edge_io.specs.Streams.{TookPart}
use Rattle.edge_model.specs.Run.{Run, run_of, closed}
use Rattle.edge_model.specs.Tree.{Tree}
use Rattle.edge_script.specs.Reading.{command_in}
use Rattle.edge_session.specs.declared.ended.How.{How}
use Rattle.edge_session.specs.declared.ended.How.TheVariants.{End, Source, Sink, Limit, Fault}
use Rattle.edge_session.specs.declared.ended.Limit.{Limit as Most}
use Rattle.edge_session.specs.Feeds.{HasNoLineFeed}
use Rattle.edge_session.specs.Line.{told_text, text_for}
use Rattle.edge_session.specs.Script.{lines_of, lines_taken, line_at, HoldsLines}

-- ---- how it ended

abbrev pub is_fault : How → Bool
is_fault (Fault fault) = true
is_fault other = false

abbrev pub is_source : How → Bool
is_source Source = true
is_source other = false

-- the script was read to its end, or a limit was reached
abbrev pub is_done : How → Bool
is_done End = true
is_done Limit = true
is_done other = false

-- ---- lines

-- the lines taken are those answered
pub record TookAnswered (script : List ℕ) (commands taken : ℕ) (failed : Bool) : Type 0 where
  pub inside : commands ≤ length (lines_of script)
  pub lines : lines_taken script taken failed ≡ take commands (lines_of script)

-- one more line was taken, and not answered
pub record TookOneMore (script : List ℕ) (commands taken : ℕ) : Type 0 where
  pub inside : commands < length (lines_of script)
  pub lines : lines_taken script taken false ≡ take (commands + 1) (lines_of script)
  pub bytes : HoldsLines script (commands + 1) taken

-- each line was answered
pub record ReadsToEnd (script : List ℕ) (commands taken : ℕ) : Type 0 where
  pub lines : commands ≡ length (lines_of script)
  pub bytes : taken ≡ length script

-- as many lines were answered or bytes used as may be, and more is left
pub record MeetsLimit (most : Most) (script : List ℕ) (commands taken : ℕ) : Type 0 where
  pub answered : TookAnswered script commands taken false
  pub reached : (commands ≡ most.lines) ⊎ (taken ≡ most.bytes)
  pub more : taken < length script

-- the source failed, and the lines that it gave were answered
pub record FailsBehind (script : List ℕ) (commands taken : ℕ) : Type 0 where
  pub answered : TookAnswered script commands taken true
  pub bytes : HoldsLines script commands taken

-- the line that was taken and not answered spells a command
pub record LeavesCommand (most : Most) (script : List ℕ) (commands taken : ℕ) : Type 0 where
  pub one_more : TookOneMore script commands taken
  pub spells : is_some (command_in (line_at script commands)) ≡ true
  pub room : commands < most.lines

-- how many lines are answered, and how many bytes are in the lines taken, before a closing step
abbrev pub TurnsEnd : How → Most → List ℕ → ℕ → ℕ → Type 0
TurnsEnd End most script commands taken = ReadsToEnd script commands taken
TurnsEnd Limit most script commands taken = MeetsLimit most script commands taken
TurnsEnd Source most script commands taken = FailsBehind script commands taken
TurnsEnd Sink most script commands taken = TookOneMore script commands taken
TurnsEnd (Fault fault) most script commands taken = LeavesCommand most script commands taken

-- The same at the end of a session. A fault is one of a command, or of the closing step behind the last line.
abbrev pub AnsweredLines : How → Most → List ℕ → ℕ → ℕ → Type 0
AnsweredLines (Fault fault) most script commands taken =
    LeavesCommand most script commands taken ⊎ ReadsToEnd script commands taken ⊎ MeetsLimit most script commands taken
AnsweredLines End most script commands taken = ReadsToEnd script commands taken
AnsweredLines Limit most script commands taken = MeetsLimit most script commands taken
AnsweredLines Source most script commands taken = FailsBehind script commands taken
AnsweredLines Sink most script commands taken = TookOneMore script commands taken

-- What a source that failed had given past the lines taken is no whole line.
pub record GaveNoLine (script left : List ℕ) (taken : ℕ) : Type 0 where
  pub begun : List ℕ
  pub split : drop taken script ≡ begun ++ left
  pub no_feed : HasNoLineFeed begun

-- ---- the run

-- the run over lines from a tree
unfoldable pub run_over : Request → Tree → List (List ℕ) → Run
run_over g t lines = run_of g t (map command_in lines)

-- its text
unfoldable pub text_of : Run → List ℕ
text_of r = flat_map told_text r.answers

-- that over the first k lines of a script
abbrev pub run_before : Request → Tree → List ℕ → ℕ → Run
run_before g t script k = run_over g t (take k (lines_of script))

-- the text of the answer to line k
abbrev pub next_text : Request → Tree → List ℕ → ℕ → List ℕ
next_text g t script k = text_for g (run_before g t script k).state (command_in (line_at script k))

-- the lines that were taken
abbrev pub lines_by : How → List ℕ → ℕ → List (List ℕ)
lines_by how script taken = lines_taken script taken (is_source how)

-- Whether the closing step counts: neither source nor sink failed, and each line that was taken was answered.
abbrev pub has_closing : How → List ℕ → ℕ → ℕ → Bool
has_closing End script commands taken = true
has_closing Limit script commands taken = true
has_closing Source script commands taken = false
has_closing Sink script commands taken = false
has_closing (Fault fault) script commands taken = length (lines_taken script taken false) == commands

abbrev pub closed_where : Bool → Run → Run
closed_where closing r = if closing then closed r else r

-- the run over the lines taken, with the closing step where it counts
abbrev pub run_taken : Request → Tree → How → List ℕ → ℕ → ℕ → Run
run_taken g t how script commands taken = closed_where (has_closing how script commands taken) (run_over g t (lines_by how script taken))

-- What a sink that held these bytes has taken: the text of the lines answered, and where it failed a part of the next answer's.
abbrev pub TookText : How → Request → Tree → List ℕ → ℕ → List ℕ → List ℕ → Type 0
TookText Sink g t script commands before after = TookPart (next_text g t script commands) (before ++ text_of (run_before g t script commands)) after
TookText End g t script commands before after = after ≡ before ++ text_of (run_before g t script commands)
TookText Limit g t script commands before after = after ≡ before ++ text_of (run_before g t script commands)
TookText Source g t script commands before after = after ≡ before ++ text_of (run_before g t script commands)
TookText (Fault fault) g t script commands before after = after ≡ before ++ text_of (run_before g t script commands)
