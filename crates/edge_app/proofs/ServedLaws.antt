-- What `run` promises where it has a session, from what the session promises.
use Rattle.std.proofs.Common.{◌≡◌, ◌≢◌, ◌⊎◌, inl, ℕ, ◌+◌, ◌≤◌, ◌++◌, false, List, length, refl, sym, ap, ◌∙◌, subst, arith}
use Rattle.std.specs.Prelude.{Option}
use Rattle.std.proofs.lemmas.Bool.{false≢true}
use Rattle.edge_base.specs.declared.damage.Damage.{Damage}
use Rattle.edge_base.specs.declared.geometry.Request.{Request}
use Rattle.edge_io.specs.Streams.{TookPart}
use Rattle.edge_model.specs.Run.{Run}
use Rattle.edge_model.specs.Tree.{Tree}
use Rattle.edge_model.specs.declared.ask.AskFault.TheVariants.{Device, Damaged}
use Rattle.edge_session.specs.declared.ended.How.{How}
use Rattle.edge_session.specs.declared.ended.How.TheVariants.{End, Source, Sink, Limit, Fault}
use Rattle.edge_session.specs.Object.{SourceCount, SinkCount, ObjectCount}
use Rattle.edge_session.specs.Session.{AnsweredLines, GaveNoLine, ReadsToEnd, TookText, is_fault, next_text, run_before, run_taken, text_of}
use Rattle.edge_app.specs.Causes.{MeetsNoFault}
use Rattle.edge_app.specs.Headline.{Answers, Points, Replies, IsAnsweredWhole, trees_answered, trees_at_points}
use Rattle.edge_app.specs.Report.{served_by, status_of}
use Rattle.edge_app.specs.Script.{FitsSession, limits}
use Rattle.edge_app.specs.World.{World}
use Rattle.edge_app.specs.declared.report.Report.{Report}
use Rattle.edge_app.specs.declared.report.TheConstants.{DONE, SINK, MEMORY}
use Rattle.edge_app.proofs.LineLaws.{not_limited, same_run, took_lines}
use Rattle.edge_app.proofs.StatusLaws.{is_end, is_of_source, no_fault, some_session}

-- ---- replies

text_answered : (how : How) (g : Request) (t : Tree) (script : List ℕ) (commands : ℕ) (before after : List ℕ) → TookText how g t script commands before after
    → status_of how ≢ SINK → after ≡ before ++ text_of (run_before g t script commands)
text_answered Sink g t script commands before after took other = absurd (other refl)
text_answered End g t script commands before after took other = took
text_answered Limit g t script commands before after took other = took
text_answered Source g t script commands before after took other = took
text_answered (Fault Device) g t script commands before after took other = took
text_answered (Fault (Damaged d)) g t script commands before after took other = took

text_part : (how : How) (g : Request) (t : Tree) (script : List ℕ) (commands : ℕ) (before after : List ℕ) → TookText how g t script commands before after
    → status_of how ≡ SINK → TookPart (next_text g t script commands) (before ++ text_of (run_before g t script commands)) after
text_part Sink g t script commands before after took is = took
text_part End g t script commands before after took is = absurd (omega arith)
text_part Limit g t script commands before after took is = absurd (omega arith)
text_part Source g t script commands before after took is = absurd (omega arith)
text_part (Fault Device) g t script commands before after took is = absurd (omega arith)
text_part (Fault (Damaged d)) g t script commands before after took is = absurd (omega arith)

pub whole_script : (how : How) (script : List ℕ) (commands taken points : ℕ) → AnsweredLines how limits script commands taken → status_of how ≡ DONE
    → IsAnsweredWhole script (served_by how commands taken points)
whole_script how script commands taken points lines done =
    let read : ReadsToEnd script commands taken = subst (λ (h : How). AnsweredLines h limits script commands taken) (is_end how done) lines in
    record { taken = read.bytes; answered = read.lines }

module _ (before after : World) (how : How) (commands taken points : ℕ) (g : Request) (t : Tree) (undamaged : (d : Damage) → how ≡ Fault (Damaged d) → ⊥)
    (lines : AnsweredLines how limits before.source.left commands taken) (no_more : how ≡ Source → GaveNoLine before.source.left after.source.left taken)
    (text : TookText how g t before.source.left commands before.sink.taken after.sink.taken)
    (least : length (run_before g t before.source.left commands).trees ≤ points + 1)
    (whole : is_fault how ≡ false → points + 1 ≡ length (run_taken g t how before.source.left commands taken).trees) where
  abbrev report : Report
  report = served_by how commands taken points

  pub replies_served : Replies g t before after report
  replies_served = record {
    lines = took_lines before.source.left commands taken points how lines;
    text = record {
      answered = text_answered how g t before.source.left commands before.sink.taken after.sink.taken text;
      part = text_part how g t before.source.left commands before.sink.taken after.sink.taken text;
    };
    begun = λ is. no_more (is_of_source how is);
    silent = λ none. absurd (false≢true (sym (some_session how) ∙ none));
  }

  pub same_trees : trees_at_points g t before report ≡ (run_taken g t how before.source.left commands taken).trees
  same_trees = ap (λ (r : Run). r.trees) (same_run before.source.left commands taken points g t how undamaged lines)

  pub points_served : Points (trees_answered g t before report) (trees_at_points g t before report) report
  points_served = record {
    answered_first = least;
    all = λ other. whole (no_fault how undamaged other) ∙ ap length (sym same_trees);
  }

  pub answers_served : Answers g t before after report
  answers_served = record {
    replies = replies_served;
    points = points_served;
    whole = whole_script how before.source.left commands taken points lines;
  }

-- ---- completeness

pub complete_served : (how : How) (before after : World) (commands taken : ℕ) (c d : Option Damage)
    → ((d : Damage) → how ≡ Fault (Damaged d) → ⊥) → AnsweredLines how limits before.source.left commands taken
    → SourceCount how before.source.faults after.source.faults → SinkCount how before.sink.faults after.sink.faults
    → ObjectCount how before.disk.faults after.disk.faults c d → FitsSession before.source.left → MeetsNoFault before after
    → (status_of how ≡ DONE) ⊎ (status_of how ≡ MEMORY)
complete_served End before after commands taken c d undamaged lines source sink object within none = inl refl
complete_served Source before after commands taken c d undamaged lines source sink object within none = absurd (none.source source)
complete_served Sink before after commands taken c d undamaged lines source sink object within none = absurd (none.sink sink)
complete_served Limit before after commands taken c d undamaged lines source sink object within none = absurd (not_limited before.source.left commands taken within lines)
complete_served (Fault Device) before after commands taken c d undamaged lines source sink object within none = absurd (none.disk object.0)
complete_served (Fault (Damaged damage)) before after commands taken c d undamaged lines source sink object within none = absurd (undamaged damage refl)
