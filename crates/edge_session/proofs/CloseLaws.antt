-- What a session has done with its closing step.
use Rattle.std.proofs.Common.{◌≡◌, ℕ, ◌+◌, ◌<◌, ◌≤◌, ◌⊎◌, ◌==◌, not, Bool, true, false, List, ◌∷◌, length, take, refl, sym, ap, ◌∙◌, subst, arith, Option, inl, inr}
use Rattle.std.proofs.lemmas.Bool.{eqb-true, eq-eqb}
use Rattle.std.proofs.lemmas.List.{length-take-le}
use Rattle.edge_base.specs.declared.damage.Damage.{Damage}
use Rattle.edge_base.specs.outside.Faults.{Because}
use Rattle.edge_base.specs.declared.geometry.Request.{Request}
use Rattle.edge_model.specs.declared.ask.Ask.{Ghosts as AskGhosts}
use Rattle.edge_model.specs.declared.ask.AskFault.{AskFault}
use Rattle.edge_model.specs.declared.ask.AskFault.TheVariants.{Damaged}
use Rattle.edge_model.specs.Asking.{damage_of}
use Rattle.edge_model.specs.Run.{Run, closed, closing_trees}
use Rattle.edge_model.specs.State.{State}
use Rattle.edge_model.specs.Tree.{Tree}
use Rattle.edge_session.specs.declared.ended.How.{How}
use Rattle.edge_session.specs.declared.ended.How.TheVariants.{End, Source, Sink, Limit, Fault}
use Rattle.edge_session.specs.declared.ended.Limit.{Limit as Most}
use Rattle.edge_session.specs.Line.{moments_of, moments_after}
use Rattle.edge_session.specs.Object.{SourceCount, SinkCount, ObjectCount, HasReached, HasRun, IsClosed, Stands, Comes, Leaves, points_of_turns, most_points}
use Rattle.edge_session.specs.Script.{lines_of, lines_taken}
use Rattle.edge_session.specs.Session.{is_fault, is_done, is_source, lines_by, TurnsEnd, AnsweredLines, TookText, has_closing, closed_where, run_taken, run_over, run_before}
use Rattle.edge_session.proofs.RunLaws as run
use Rattle.edge_session.proofs.TurnLaws.{lines_are}

-- The closing step keeps how a session ended, or it fails behind the last line.
pub data Closes : How → How → Type 0 where
  kept : (how : How) → Closes how how
  failed_at_end : (f : AskFault) → Closes End (Fault f)
  failed_at_limit : (f : AskFault) → Closes Limit (Fault f)

pub closes : (how final : How) → (is_done how ≡ false → final ≡ how) → (is_done how ≡ true → is_fault final ≡ false → final ≡ how) → Closes how final
closes Source final as_it_was as_it_is = subst (Closes Source) (sym (as_it_was refl)) (kept Source)
closes Sink final as_it_was as_it_is = subst (Closes Sink) (sym (as_it_was refl)) (kept Sink)
closes (Fault fault) final as_it_was as_it_is = subst (Closes (Fault fault)) (sym (as_it_was refl)) (kept (Fault fault))
closes End (Fault f) as_it_was as_it_is = failed_at_end f
closes Limit (Fault f) as_it_was as_it_is = failed_at_limit f
closes End End as_it_was as_it_is = kept End
closes End Source as_it_was as_it_is = absurd (let no = as_it_is refl refl in cc)
closes End Sink as_it_was as_it_is = absurd (let no = as_it_is refl refl in cc)
closes End Limit as_it_was as_it_is = absurd (let no = as_it_is refl refl in cc)
closes Limit End as_it_was as_it_is = absurd (let no = as_it_is refl refl in cc)
closes Limit Source as_it_was as_it_is = absurd (let no = as_it_is refl refl in cc)
closes Limit Sink as_it_was as_it_is = absurd (let no = as_it_is refl refl in cc)
closes Limit Limit as_it_was as_it_is = kept Limit

-- ---- what it leaves as it was

pub was : {how final : How} → Closes how final → (other : How) → is_fault other ≡ false → final ≡ other → how ≡ other
was (kept how) other fine e = e
was (failed_at_end f) other fine e = absurd (let no : true ≡ false = ap is_fault e ∙ fine in cc)
was (failed_at_limit f) other fine e = absurd (let no : true ≡ false = ap is_fault e ∙ fine in cc)

pub source_counts : {how final : How} → Closes how final → (before after : ℕ) → SourceCount how before after → SourceCount final before after
source_counts (kept how) before after h = h
source_counts (failed_at_end f) before after h = h
source_counts (failed_at_limit f) before after h = h

pub sink_counts : {how final : How} → Closes how final → (before after : ℕ) → SinkCount how before after → SinkCount final before after
sink_counts (kept how) before after h = h
sink_counts (failed_at_end f) before after h = h
sink_counts (failed_at_limit f) before after h = h

pub text_closes : {how final : How} → Closes how final → (g : Request) (t : Tree) (script : List ℕ) (commands : ℕ) (before after : List ℕ) → TookText how g t script commands before after
    → TookText final g t script commands before after
text_closes (kept how) g t script commands before after h = h
text_closes (failed_at_end f) g t script commands before after h = h
text_closes (failed_at_limit f) g t script commands before after h = h

pub moments_close : {how final : How} → Closes how final → (script : List ℕ) (taken : ℕ) (before after : List ℕ) → after ≡ moments_after (moments_of (lines_by how script taken)) before
    → after ≡ moments_after (moments_of (lines_by final script taken)) before
moments_close (kept how) script taken before after h = h
moments_close (failed_at_end f) script taken before after h = h
moments_close (failed_at_limit f) script taken before after h = h

pub lines_close : {how final : How} → Closes how final → (most : Most) (script : List ℕ) (commands taken : ℕ) → TurnsEnd how most script commands taken → AnsweredLines final most script commands taken
lines_close (kept End) most script commands taken h = h
lines_close (kept Source) most script commands taken h = h
lines_close (kept Sink) most script commands taken h = h
lines_close (kept Limit) most script commands taken h = h
lines_close (kept (Fault f)) most script commands taken h = inl h
lines_close (failed_at_end f) most script commands taken h = inr (inl h)
lines_close (failed_at_limit f) most script commands taken h = inr (inr h)

pub room_of : {how final : How} → Closes how final → (commands lines : ℕ) → (is_done how ≡ true) ⊎ (how ≡ Source) ⊎ (commands < lines) → final ≡ Sink → commands < lines
room_of (failed_at_end f) commands lines room e = absurd (let no : true ≡ false = ap is_fault e in cc)
room_of (failed_at_limit f) commands lines room e = absurd (let no : true ≡ false = ap is_fault e in cc)
room_of (kept how) commands lines room e = elim room [
  | inl done ↦ absurd (let no : false ≡ true = sym (ap is_done e) ∙ done in cc)
  | inr other ↦ elim other [
    | inl source ↦ absurd (let no : true ≡ false = sym (ap is_source source) ∙ ap is_source e in cc)
    | inr below ↦ below
  ]
]

-- ---- the object

pub lives : {how final : How} → Closes how final → (now after : Bool) → now ≡ not (is_fault how) → (is_done how ≡ true → after ≡ not (is_fault final)) → (is_done how ≡ false → after ≡ now) → after ≡ not (is_fault final)
lives (kept End) now after h done other = done refl
lives (kept Limit) now after h done other = done refl
lives (kept Source) now after h done other = other refl ∙ h
lives (kept Sink) now after h done other = other refl ∙ h
lives (kept (Fault f)) now after h done other = other refl ∙ h
lives (failed_at_end f) now after h done other = done refl
lives (failed_at_limit f) now after h done other = done refl

because : (f0 f1 f2 : ℕ) (d0 d1 d2 : Option Damage) (told : Option Damage) → f1 ≡ f0 → d1 ≡ d0 → Because f1 f2 d1 d2 told → Because f0 f2 d0 d2 told
because f0 f1 f2 d0 d1 d2 told faults damage h = subst (λ (n : ℕ). Because n f2 d0 d2 told) faults (subst (λ d. Because f1 f2 d d2 told) damage h)

pub object_counts : {how final : How} → Closes how final → (f0 f1 f2 : ℕ) (d0 d1 d2 : Option Damage) → ObjectCount how f0 f1 d0 d1 → (is_done how ≡ true → ObjectCount final f1 f2 d1 d2)
    → (is_done how ≡ false → f2 ≡ f1) → (is_done how ≡ false → d2 ≡ d1) → ObjectCount final f0 f2 d0 d2
object_counts (kept End) f0 f1 f2 d0 d1 d2 h done faults damage = let c = done refl in (c.0 ∙ h.0, c.1 ∙ h.1)
object_counts (kept Limit) f0 f1 f2 d0 d1 d2 h done faults damage = let c = done refl in (c.0 ∙ h.0, c.1 ∙ h.1)
object_counts (kept Source) f0 f1 f2 d0 d1 d2 h done faults damage = (faults refl ∙ h.0, damage refl ∙ h.1)
object_counts (kept Sink) f0 f1 f2 d0 d1 d2 h done faults damage = (faults refl ∙ h.0, damage refl ∙ h.1)
object_counts (kept (Fault f)) f0 f1 f2 d0 d1 d2 h done faults damage =
    subst (λ (n : ℕ). Because f0 n d0 d2 (damage_of f)) (sym (faults refl)) (subst (λ d. Because f0 f1 d0 d (damage_of f)) (sym (damage refl)) h)
object_counts (failed_at_end f) f0 f1 f2 d0 d1 d2 h done faults damage = because f0 f1 f2 d0 d1 d2 (damage_of f) h.0 h.1 (done refl)
object_counts (failed_at_limit f) f0 f1 f2 d0 d1 d2 h done faults damage = because f0 f1 f2 d0 d1 d2 (damage_of f) h.0 h.1 (done refl)

pub few_closes : {how final : How} → Closes how final → (old now after k : ℕ) → now ≤ old + points_of_turns how k → after ≤ now + 1 → (is_done how ≡ false → after ≡ now) → after ≤ old + most_points final k
few_closes (kept End) old now after k few one none = omega arith
few_closes (kept Limit) old now after k few one none = omega arith
few_closes (kept Source) old now after k few one none = let same = none refl in omega arith
few_closes (kept Sink) old now after k few one none = let same = none refl in omega arith
few_closes (kept (Fault f)) old now after k few one none = let same = none refl in omega arith
few_closes (failed_at_end f) old now after k few one none = omega arith
few_closes (failed_at_limit f) old now after k few one none = omega arith

module _ {A : Type 0} (a : AskGhosts A) (before now after : A) where
  pub undamages : {how final : How} → Closes how final → ((s : State) → a.stands_for before s → (d : Damage) → how ≡ Fault (Damaged d) → ⊥)
      → (is_fault how ≡ false → (s : State) → a.stands_for before s → Stands a now) → (is_done how ≡ true → (s : State) → a.stands_for now s → (d : Damage) → final ≡ Fault (Damaged d) → ⊥)
      → (s : State) → a.stands_for before s → (d : Damage) → final ≡ Fault (Damaged d) → ⊥
  undamages (kept how) turns standing done s h d e = turns s h d e
  undamages (failed_at_end f) turns standing done s h d e = let n = standing refl s h in done refl n.0 n.1 d e
  undamages (failed_at_limit f) turns standing done s h d e = let n = standing refl s h in done refl n.0 n.1 d e

  -- the damage that is told is there at the end
  pub still_there : {how final : How} → Closes how final → ((d : Damage) → how ≡ Fault (Damaged d) → a.is_damage now d)
      → (is_done how ≡ true → (d : Damage) → final ≡ Fault (Damaged d) → a.is_damage after d) → (is_done how ≡ false → after ≡ now)
      → (d : Damage) → final ≡ Fault (Damaged d) → a.is_damage after d
  still_there (kept how) turns done alone d e = subst (λ (x : A). a.is_damage x d) (sym (alone (ap is_done e))) (turns d e)
  still_there (failed_at_end f) turns done alone d e = done refl d e
  still_there (failed_at_limit f) turns done alone d e = done refl d e

  module _ (g : Request) (t : Tree) (script : List ℕ) (commands taken : ℕ) (most : Most) where
    -- the run over the lines taken
    abbrev over : How → Run
    over how = run_over g t (lines_by how script taken)

    -- the closing step does not count, and is not taken
    unclosed : (how : How) → has_closing how script commands taken ≡ false → Comes a g t how script commands taken before now → after ≡ now → Leaves a g t how script commands taken before after
    unclosed how uncounted c same = record {
      trees = subst (λ (x : A). HasReached a before x (run_taken g t how script commands taken).trees) (sym same) (subst (λ b. HasReached a before now (closed_where b (over how)).trees) (sym uncounted) c.trees);
      least = subst (λ (x : A). a.reached before + length (run_before g t script commands).trees ≤ a.reached x + 1) (sym same) c.least;
      whole = λ fine. subst (λ (x : A). HasRun a (run_taken g t how script commands taken) before x) (sym same) (subst (λ b. HasRun a (closed_where b (over how)) before now) (sym uncounted) (c.whole fine));
    }

    module _ (later : a.reached now ≤ a.reached after) where
      still_least : (how : How) → Comes a g t how script commands taken before now → a.reached before + length (run_before g t script commands).trees ≤ a.reached after + 1
      still_least how c = let l = c.least in omega arith

      closed_trees : (how : How) → Comes a g t how script commands taken before now → is_fault how ≡ false
          → ((s : State) → a.stands_for now s → HasReached a now after (s.committed ∷ closing_trees s)) → HasReached a before after (closed (over how)).trees
      closed_trees how c fine reached =
          let w = c.whole fine in
          run.closed_reached a t (over how) (run.is_run g t (lines_by how script taken)) before now after w later (reached (over how).state w.stands)

      closed_whole : (how : How) → Comes a g t how script commands taken before now → is_fault how ≡ false → ((s : State) → a.stands_for now s → IsClosed a s now after) → HasRun a (closed (over how)) before after
      closed_whole how c fine is_closed =
          let w = c.whole fine in
          run.closed_run a t (over how) (run.is_run g t (lines_by how script taken)) before now after w (is_closed (over how).state w.stands)

      -- where it fails, it counts
      counts : lines_taken script taken false ≡ take commands (lines_of script) → commands ≤ length (lines_of script) → (length (lines_taken script taken false) == commands) ≡ true
      counts lines inside = eq-eqb (length (lines_taken script taken false)) commands (ap length lines ∙ length-take-le commands (lines_of script) inside)

      failed_step : (f : AskFault) → lines_taken script taken false ≡ take commands (lines_of script) → commands ≤ length (lines_of script)
          → a.reached before + length (run_before g t script commands).trees ≤ a.reached after + 1 → HasReached a before after (closed (run_over g t (lines_taken script taken false))).trees
          → Leaves a g t (Fault f) script commands taken before after
      failed_step f lines inside least reached = record {
        trees = subst (λ b. HasReached a before after (closed_where b (run_over g t (lines_taken script taken false))).trees) (sym (counts lines inside)) reached;
        least = least;
        whole = λ fine. absurd (let e : true ≡ false = fine in cc);
      }

      pub leaves : {how final : How} → Closes how final → TurnsEnd how most script commands taken → Comes a g t how script commands taken before now → (is_done how ≡ false → after ≡ now)
          → (is_done how ≡ true → (s : State) → a.stands_for now s → is_fault final ≡ false → IsClosed a s now after)
          → (is_done how ≡ true → (s : State) → a.stands_for now s → HasReached a now after (s.committed ∷ closing_trees s)) → Leaves a g t final script commands taken before after
      leaves (kept Source) e c same is_closed reached = unclosed Source refl c (same refl)
      leaves (kept Sink) e c same is_closed reached = unclosed Sink refl c (same refl)
      leaves (kept (Fault f)) e c same is_closed reached = unclosed (Fault f) (left_one (length (lines_taken script taken false) == commands) refl) c (same refl)
        where
          left_one : (b : Bool) → (length (lines_taken script taken false) == commands) ≡ b → b ≡ false
          left_one false h = refl
          left_one true h = absurd (let up = e.one_more.inside in
              omega (arith, eqb-true (length (lines_taken script taken false)) commands h, ap length e.one_more.lines, length-take-le (commands + 1) (lines_of script) (omega arith)))
      leaves (kept End) e c same is_closed reached =
          record { trees = closed_trees End c refl (reached refl); least = still_least End c; whole = λ _. closed_whole End c refl (λ s h. is_closed refl s h refl) }
      leaves (kept Limit) e c same is_closed reached =
          record { trees = closed_trees Limit c refl (reached refl); least = still_least Limit c; whole = λ _. closed_whole Limit c refl (λ s h. is_closed refl s h refl) }
      leaves (failed_at_end f) e c same is_closed reached =
          failed_step f (lines_are End most script commands taken e) (let same_count = e.lines in omega arith) (still_least End c) (closed_trees End c refl (reached refl))
      leaves (failed_at_limit f) e c same is_closed reached =
          failed_step f (lines_are Limit most script commands taken e) e.answered.inside (still_least Limit c) (closed_trees Limit c refl (reached refl))
