-- What a session has done by its last turn.
use Rattle.std.proofs.Common.{◌≡◌, ℕ, ◌+◌, ◌-◌, ◌*◌, ◌<◌, ◌≤◌, ◌++◌, ◌⊎◌, Bool, true, false, List, [], ◌∷◌, length, take, refl, sym, ap, ◌∙◌, subst, arith, append-nil, append_assoc, Some, inl, inr}
use Rattle.std.specs.Prelude.{nat_lt}
use Rattle.std.proofs.lemmas.Bool.Decides.{nat_tests}
use Rattle.std.proofs.lemmas.List.{take_all}
use Rattle.edge_base.specs.declared.geometry.Request.{Request}
use Rattle.edge_io.specs.Streams.{TookPart}
use Rattle.edge_model.specs.declared.ask.Ask.{Ghosts as AskGhosts}
use Rattle.edge_model.specs.Asking.{tree_at}
use Rattle.edge_model.specs.Run.{Run, run_of, next_line}
use Rattle.edge_model.specs.State.{State, first_state}
use Rattle.edge_model.specs.Tree.{Tree}
use Rattle.edge_script.specs.Reading.{command_in}
use Rattle.edge_session.specs.declared.ended.How.{How}
use Rattle.edge_session.specs.declared.ended.How.TheVariants.{End, Source, Sink, Limit, Fault}
use Rattle.edge_session.specs.declared.ended.Limit.{Limit as Most}
use Rattle.edge_session.specs.Feeds.{TakesLine}
use Rattle.edge_session.specs.Line.{points_of, text_for, moments_for, moments_of, moments_after}
use Rattle.edge_session.specs.Object.{HasReached, IsLed, HasRun, Comes, Stands, points_of_turns}
use Rattle.edge_session.specs.Script.{lines_of, HoldsLines}
use Rattle.edge_session.specs.Session.{is_fault, is_done, lines_by, TurnsEnd, GaveNoLine, TookText, run_over, run_before, next_text, text_of}
use Rattle.edge_session.specs.Turn.{takes_line, is_answered, Turns, Writes, Progress}
use Rattle.edge_session.proofs.LineLaws.{command_in-kept, moments_more, moments_of-more}
use Rattle.edge_session.proofs.ProgressLaws.{next_by, is_next, taken_all, gave_no_line, holds_answered}
use Rattle.edge_session.proofs.RunLaws as run

-- what an object has followed: it has come where the run leads, and the last point is that of its last tree
pub record Follows {A : Type 0} (a : AskGhosts A) (r : Run) (before now : A) : Type 0 where
  pub run : HasRun a r before now
  pub trees : HasReached a before now r.trees

-- ---- the begin

pub follows_none : {A : Type 0} (a : AskGhosts A) (g : Request) (t : Tree) (x : A) → a.stands_for x (first_state t) → a.committed x t → (a.torn x ≡ false) → Follows a (run_over g t []) x x
unfolding run_over run_of
follows_none a g t x stands committed whole = record {
  run = record { stands = stands; points = omega arith };
  trees = record {
    there = omega arith;
    committed = subst (a.committed x) (ap (tree_at (t ∷ [])) (let none : 0 ≡ a.reached x - a.reached x = omega arith in none)) committed;
    next = λ torn. absurd (let no : false ≡ true = sym whole ∙ torn in cc);
  };
}

pub no_text : (g : Request) (t : Tree) (taken : List ℕ) → taken ≡ taken ++ text_of (run_over g t [])
unfolding run_over run_of text_of
no_text g t taken = sym (append-nil taken)

-- ---- a line more

module _ (script stream : List ℕ) (ended : Bool) (used commands : ℕ) (p : Progress script stream ended used commands)
    (stream_after kept : List ℕ) (ended_after : Bool) (used_after : ℕ) (taken : TakesLine stream stream_after kept ended_after used used_after) where
  lines_next : take (commands + 1) (lines_of script) ≡ take commands (lines_of script) ++ taken.line ∷ []
  lines_next = (next_by script stream ended used commands p taken.line stream_after ended_after used_after taken.takes).taken

  command_kept : command_in kept ≡ command_in taken.line
  command_kept = ap command_in taken.kept_is ∙ command_in-kept taken.line

  pub moments_next : (old now after : List ℕ) → now ≡ moments_after (moments_of (take commands (lines_of script))) old → after ≡ moments_after (moments_for (command_in kept)) now
      → after ≡ moments_after (moments_of (take (commands + 1) (lines_of script))) old
  moments_next old now after so_far more =
      let k = moments_of (take commands (lines_of script)) in
      let j = moments_for (command_in kept) in
      more ∙ ap (moments_after j) so_far ∙ moments_more k j old
      ∙ ap (λ (n : ℕ). moments_after n old) (ap (λ c. k + moments_for c) command_kept ∙ sym (moments_of-more (take commands (lines_of script)) taken.line) ∙ ap moments_of (sym lines_next))

  module _ (g : Request) (t : Tree) where
    run_next : run_before g t script (commands + 1) ≡ next_line g (run_before g t script commands) (command_in kept)
    run_next = ap (run_over g t) lines_next ∙ run.run_more g t (take commands (lines_of script)) taken.line ∙ ap (next_line g (run_before g t script commands)) (sym command_kept)

    pub text_next : (old now after : List ℕ) → now ≡ old ++ text_of (run_before g t script commands) → after ≡ now ++ text_for g (run_before g t script commands).state (command_in kept)
        → after ≡ old ++ text_of (run_before g t script (commands + 1))
    text_next old now after so_far more =
        let text = text_for g (run_before g t script commands).state (command_in kept) in
        more ∙ ap (λ l. l ++ text) so_far ∙ append_assoc old (text_of (run_before g t script commands)) text
        ∙ ap (λ l. old ++ l) (sym (run.next_text g (run_before g t script commands) (command_in kept)) ∙ ap text_of (sym run_next))

    -- the text of the next answer
    pub next_is : text_for g (run_before g t script commands).state (command_in kept) ≡ next_text g t script commands
    next_is = ap (text_for g (run_before g t script commands).state) (command_kept ∙ ap command_in (sym (is_next script stream ended used commands p taken.line stream_after ended_after used_after taken.takes)))

    module _ {A : Type 0} (a : AskGhosts A) (before now after : A) (follows : Follows a (run_before g t script commands) before now) (later : a.reached now ≤ a.reached after) where
      pub reached_next : HasReached a now after ((run_before g t script commands).state.committed ∷ points_of g (run_before g t script commands).state (command_in kept))
          → HasReached a before after (run_before g t script (commands + 1)).trees
      reached_next at =
          subst (λ (r : Run). HasReached a before after r.trees) (sym run_next)
          (run.line_reached a t (run_before g t script commands) (run.is_run g t (take commands (lines_of script))) before now after follows.run g (command_in kept) later at)

      pub run_follows : IsLed a g (run_before g t script commands).state (command_in kept) now after → HasRun a (run_before g t script (commands + 1)) before after
      run_follows led =
          subst (λ (r : Run). HasRun a r before after) (sym run_next)
          (run.line_run a t (run_before g t script commands) (run.is_run g t (take commands (lines_of script))) before now after follows.run g (command_in kept) led)

      pub follows_next : IsLed a g (run_before g t script commands).state (command_in kept) now after
          → HasReached a now after ((run_before g t script commands).state.committed ∷ points_of g (run_before g t script commands).state (command_in kept))
          → Follows a (run_before g t script (commands + 1)) before after
      follows_next led at = record { run = run_follows led; trees = reached_next at }

-- ---- the last turn

-- how many lines were taken up
abbrev lines_up : How → ℕ → ℕ
lines_up Sink commands = commands + 1
lines_up (Fault fault) commands = commands + 1
lines_up End commands = commands
lines_up Source commands = commands
lines_up Limit commands = commands

pub lines_are : (how : How) (most : Most) (script : List ℕ) (commands taken : ℕ) → TurnsEnd how most script commands taken → lines_by how script taken ≡ take (lines_up how commands) (lines_of script)
lines_are End most script commands taken e = taken_all script taken e.bytes ∙ sym (take_all commands (lines_of script) (let same = e.lines in omega arith))
lines_are Source most script commands taken e = e.answered.lines
lines_are Limit most script commands taken e = e.answered.lines
lines_are Sink most script commands taken e = e.lines
lines_are (Fault fault) most script commands taken e = e.one_more.lines

pub has_room : (how : How) (commands lines : ℕ) → (takes_line (Some how) ≡ true → commands < lines) → (is_done how ≡ true) ⊎ (how ≡ Source) ⊎ (commands < lines)
has_room End commands lines room = inl refl
has_room Limit commands lines room = inl refl
has_room Source commands lines room = inr (inl refl)
has_room Sink commands lines room = inr (inr (room refl))
has_room (Fault fault) commands lines room = inr (inr (room refl))

pub few_turns : (how : How) (old now after k : ℕ) → now ≤ old + 2 * k → after ≤ now + 2 → (takes_line (Some how) ≡ false → after ≡ now) → after ≤ old + points_of_turns how k
few_turns End old now after k so_far two none = let same = none refl in omega arith
few_turns Limit old now after k so_far two none = let same = none refl in omega arith
few_turns Source old now after k so_far two none = let same = none refl in omega arith
few_turns Sink old now after k so_far two none = omega arith
few_turns (Fault fault) old now after k so_far two none = omega arith

module _ (script stream : List ℕ) (ended : Bool) (used commands : ℕ) (p : Progress script stream ended used commands)
    (stream_after left kept : List ℕ) (ended_after : Bool) (used_after taken : ℕ) where
  pub gives_no_line : (how : How) → (how ≡ Source → taken ≡ used) → Turns (Some how) stream stream_after left kept ended ended_after used used_after
      → how ≡ Source → GaveNoLine script left taken
  gives_no_line Source same t is = subst (GaveNoLine script left) (sym (same refl)) (gave_no_line script stream ended used commands p left t)
  gives_no_line End same t is = absurd cc
  gives_no_line Limit same t is = absurd cc
  gives_no_line Sink same t is = absurd cc
  gives_no_line (Fault fault) same t is = absurd cc

  module _ (most : Most) where
    pub moments_end : (how : How) → TurnsEnd how most script commands taken → Turns (Some how) stream stream_after left kept ended ended_after used used_after
        → (old now after : List ℕ) → now ≡ moments_after (moments_of (take commands (lines_of script))) old → (takes_line (Some how) ≡ false → after ≡ now)
        → (takes_line (Some how) ≡ true → after ≡ moments_after (moments_for (command_in kept)) now) → after ≡ moments_after (moments_of (lines_by how script taken)) old
    moments_end how e t old now after so_far none one = by_how how e t none one ∙ ap (λ lines. moments_after (moments_of lines) old) (sym (lines_are how most script commands taken e))
      where
        by_how : (how : How) → TurnsEnd how most script commands taken → Turns (Some how) stream stream_after left kept ended ended_after used used_after → (takes_line (Some how) ≡ false → after ≡ now)
            → (takes_line (Some how) ≡ true → after ≡ moments_after (moments_for (command_in kept)) now) → after ≡ moments_after (moments_of (take (lines_up how commands) (lines_of script))) old
        by_how End e t none one = none refl ∙ so_far
        by_how Source e t none one = none refl ∙ so_far
        by_how Limit e t none one = none refl ∙ so_far
        by_how Sink e t none one = moments_next script stream ended used commands p stream_after kept ended_after used_after t old now after so_far (one refl)
        by_how (Fault fault) e t none one = moments_next script stream ended used commands p stream_after kept ended_after used_after t old now after so_far (one refl)

    module _ (g : Request) (t : Tree) where
      pub text_end : (how : How) → Turns (Some how) stream stream_after left kept ended ended_after used used_after → (old now after : List ℕ)
          → now ≡ old ++ text_of (run_before g t script commands) → Writes (Some how) (text_for g (run_before g t script commands).state (command_in kept)) now after
          → TookText how g t script commands old after
      text_end End u old now after so_far writes = writes ∙ so_far
      text_end Source u old now after so_far writes = writes ∙ so_far
      text_end Limit u old now after so_far writes = writes ∙ so_far
      text_end (Fault fault) u old now after so_far writes = writes ∙ so_far
      text_end Sink u old now after so_far writes =
          subst (λ text. TookPart text (old ++ text_of (run_before g t script commands)) after) (next_is script stream ended used commands p stream_after kept ended_after used_after u g t)
          (subst (λ l. TookPart (text_for g (run_before g t script commands).state (command_in kept)) l after) so_far writes)

      module _ {A : Type 0} (a : AskGhosts A) (before now after : A) (follows : Follows a (run_before g t script commands) before now) (later : a.reached now ≤ a.reached after) where
        least : a.reached before + length (run_before g t script commands).trees ≤ a.reached after + 1
        least = let points = follows.run.points in omega arith

        as_before : (how : How) → lines_by how script taken ≡ take commands (lines_of script) → after ≡ now → Comes a g t how script commands taken before after
        as_before how lines same = record {
          trees = subst (λ (x : A). HasReached a before x (run_over g t (lines_by how script taken)).trees) (sym same)
              (subst (λ ls. HasReached a before now (run_over g t ls).trees) (sym lines) follows.trees);
          least = least;
          whole = λ _. subst (λ (x : A). HasRun a (run_over g t (lines_by how script taken)) before x) (sym same)
              (subst (λ ls. HasRun a (run_over g t ls) before now) (sym lines) follows.run);
        }

        pub comes : (how : How) → TurnsEnd how most script commands taken → Turns (Some how) stream stream_after left kept ended ended_after used used_after
            → (takes_line (Some how) ≡ false → after ≡ now)
            → (is_answered (Some how) ≡ true → IsLed a g (run_before g t script commands).state (command_in kept) now after)
            → (takes_line (Some how) ≡ true → HasReached a now after ((run_before g t script commands).state.committed ∷ points_of g (run_before g t script commands).state (command_in kept)))
            → Comes a g t how script commands taken before after
        comes End e u same led at = as_before End (lines_are End most script commands taken e) (same refl)
        comes Source e u same led at = as_before Source (lines_are Source most script commands taken e) (same refl)
        comes Limit e u same led at = as_before Limit (lines_are Limit most script commands taken e) (same refl)
        comes Sink e u same led at =
            let lines = lines_are Sink most script commands taken e in
            record {
              trees = subst (λ ls. HasReached a before after (run_over g t ls).trees) (sym lines)
                  (reached_next script stream ended used commands p stream_after kept ended_after used_after u g t a before now after follows later (at refl));
              least = least;
              whole = λ _. subst (λ ls. HasRun a (run_over g t ls) before after) (sym lines)
                  (run_follows script stream ended used commands p stream_after kept ended_after used_after u g t a before now after follows later (led refl));
            }
        comes (Fault fault) e u same led at = record {
          trees = subst (λ ls. HasReached a before after (run_over g t ls).trees) (sym (lines_are (Fault fault) most script commands taken e))
              (reached_next script stream ended used commands p stream_after kept ended_after used_after u g t a before now after follows later (at refl));
          least = least;
          whole = λ fine. absurd (let f : true ≡ false = fine in cc);
        }

-- a limit was reached
not_below : (n m : ℕ) → nat_lt n m ≡ false → m ≤ n
not_below n m e = grind (arith, nat_tests)

pub not_source : (how : How) → how ≡ Limit → how ≡ Source → ⊥
not_source how is e = let no : Limit ≡ Source = sym is ∙ e in cc

pub at_limit : (how : How) (commands lines used bytes taken : ℕ) → commands ≤ lines → ((how ≡ Source → ⊥) → taken ≡ used)
    → (Some how ≡ Some Limit → (nat_lt commands lines ≡ false) ⊎ (used ≡ bytes)) → how ≡ Limit → (commands ≡ lines) ⊎ (taken ≡ bytes)
at_limit how commands lines used bytes taken few same reached is = elim (reached (ap Some is)) [
  | inl none ↦ inl (let past = not_below commands lines none in omega arith)
  | inr all ↦ inr (same (not_source how is) ∙ all)
]

pub limit_bytes : (script stream : List ℕ) (ended : Bool) (used commands : ℕ) → Progress script stream ended used commands → (used_after taken bytes : ℕ) → taken ≡ used_after → {has_room : Bool}
    → (has_room ≡ false → used_after ≡ used) → (has_room ≡ false) ⊎ (used_after ≡ bytes) → HoldsLines script commands taken ⊎ (taken ≡ bytes)
limit_bytes script stream ended used commands p used_after taken bytes same no_room reached = elim reached [
  | inl none ↦ inl (subst (HoldsLines script commands) (sym (same ∙ no_room none)) (holds_answered script stream ended used commands p))
  | inr all ↦ inr (same ∙ all)
]

-- it still stands for a state
pub stands_still : {A : Type 0} (a : AskGhosts A) (now after : A) (how : How) → (takes_line (Some how) ≡ false → after ≡ now) → Stands a now
    → ((s : State) → a.stands_for now s → is_answered (Some how) ≡ true → Stands a after) → is_fault how ≡ false → Stands a after
stands_still a now after End same s led fine = subst (Stands a) (sym (same refl)) s
stands_still a now after Source same s led fine = subst (Stands a) (sym (same refl)) s
stands_still a now after Limit same s led fine = subst (Stands a) (sym (same refl)) s
stands_still a now after Sink same s led fine = led s.0 s.1 refl
stands_still a now after (Fault fault) same s led fine = absurd (let f : true ≡ false = fine in cc)
