-- One turn of a session, which ends it or answers one line.
use Rattle.std.specs.Prelude.{◌≡◌, ◌⊎◌, ◌<◌, ◌≤◌, ℕ, ◌+◌, Bool, true, false, List, [], ◌++◌, length, take, drop, Option, Some, None}
use Rattle.edge_base.specs.declared.damage.Damage.{Damage}
use Rattle.edge_io.specs.Streams.{TookPart}
use Rattle.edge_session.specs.declared.ended.How.{How}
use Rattle.edge_session.specs.declared.ended.How.TheVariants.{End, Source, Sink, Limit, Fault}
use Rattle.edge_session.specs.Feeds.{HasNoLineFeed, TakesLine}
use Rattle.edge_session.specs.Object.{SourceCount, SinkCount, ObjectCount}
use Rattle.edge_session.specs.Script.{lines_of, joined_lines}
use Rattle.edge_session.specs.Session.{is_fault}

-- ---- what a turn tells

-- it took a line up
abbrev pub takes_line : Option How → Bool
takes_line None = true
takes_line (Some Sink) = true
takes_line (Some (Fault fault)) = true
takes_line (Some End) = false
takes_line (Some Source) = false
takes_line (Some Limit) = false

-- its line was answered
abbrev pub is_answered : Option How → Bool
is_answered None = true
is_answered (Some Sink) = true
is_answered (Some (Fault fault)) = false
is_answered (Some End) = false
is_answered (Some Source) = false
is_answered (Some Limit) = false

-- the object failed
abbrev pub has_fault : Option How → Bool
has_fault None = false
has_fault (Some how) = is_fault how

-- ---- counts of faults

abbrev pub TurnSource : Option How → ℕ → ℕ → Type 0
TurnSource None before after = after ≡ before
TurnSource (Some how) before after = SourceCount how before after

abbrev pub TurnSink : Option How → ℕ → ℕ → Type 0
TurnSink None before after = after ≡ before
TurnSink (Some how) before after = SinkCount how before after

abbrev pub TurnObject : Option How → ℕ → ℕ → Option Damage → Option Damage → Type 0
TurnObject None before after damage damage_after = (after ≡ before) × (damage_after ≡ damage)
TurnObject (Some how) before after damage damage_after = ObjectCount how before after damage damage_after

-- ---- lines

-- nothing was left
pub record FindsEnd (stream left : List ℕ) (used used_after : ℕ) : Type 0 where
  pub none : stream ≡ []
  pub none_left : left ≡ []
  pub used_is : used_after ≡ used

-- the source failed before its end was seen, and gave no whole line
pub record FailsBegun (ended : Bool) (stream left : List ℕ) : Type 0 where
  pub begun : List ℕ
  pub split : stream ≡ begun ++ left
  pub no_feed : HasNoLineFeed begun
  pub not_ended : ended ≡ true → ⊥

-- a line may have begun, and more is left than may be taken up
pub record LeavesMore (stream stream_after : List ℕ) (used used_after : ℕ) : Type 0 where
  pub begun : List ℕ
  pub split : stream ≡ begun ++ stream_after
  pub no_feed : HasNoLineFeed begun
  pub used_is : used_after ≡ used + length begun
  pub more : 0 < length stream_after

-- what a turn took up, by what it told
abbrev pub Turns : Option How → List ℕ → List ℕ → List ℕ → List ℕ → Bool → Bool → ℕ → ℕ → Type 0
Turns None stream stream_after left kept ended ended_after used used_after = TakesLine stream stream_after kept ended_after used used_after
Turns (Some Sink) stream stream_after left kept ended ended_after used used_after = TakesLine stream stream_after kept ended_after used used_after
Turns (Some (Fault fault)) stream stream_after left kept ended ended_after used used_after = TakesLine stream stream_after kept ended_after used used_after
Turns (Some End) stream stream_after left kept ended ended_after used used_after = FindsEnd stream left used used_after
Turns (Some Source) stream stream_after left kept ended ended_after used used_after = FailsBegun ended stream left
Turns (Some Limit) stream stream_after left kept ended ended_after used used_after = LeavesMore stream stream_after used used_after

-- what the sink took of the text of an answer
abbrev pub Writes : Option How → List ℕ → List ℕ → List ℕ → Type 0
Writes None text before after = after ≡ before ++ text
Writes (Some Sink) text before after = TookPart text before after
Writes (Some End) text before after = after ≡ before
Writes (Some Source) text before after = after ≡ before
Writes (Some Limit) text before after = after ≡ before
Writes (Some (Fault fault)) text before after = after ≡ before

-- ---- the turns so far

-- The first lines of a script are answered, and this is left of it. The bytes used are those lines, but where the last had no line feed.
pub record Progress (script stream : List ℕ) (ended : Bool) (used commands : ℕ) : Type 0 where
  pub inside : commands ≤ length (lines_of script)
  pub rest : drop commands (lines_of script) ≡ lines_of stream
  pub split : stream ≡ drop used script
  pub count : used + length stream ≡ length script
  pub bytes : (take used script ≡ joined_lines (take commands (lines_of script))) ⊎ ((ended ≡ true) × (stream ≡ []))
