-- A run goes on by one line, and the object that answers it with it.
use Rattle.std.proofs.Common.{◌≡◌, ℕ, suc, ◌+◌, ◌-◌, ◌≤◌, ◌++◌, Bool, List, [], ◌∷◌, length, refl, sym, ap, ◌∙◌, subst, arith, append-nil, Some, None, Option}
use Rattle.std.specs.Prelude.{map}
use Rattle.std.specs.List.{flat_map}
use Rattle.std.proofs.lemmas.List.{length-append}
use Rattle.std.proofs.lemmas.List.Concat.{flat_map-append}
use Rattle.edge_base.specs.declared.geometry.Request.{Request}
use Rattle.edge_model.specs.declared.ask.Ask.{Ghosts as AskGhosts}
use Rattle.edge_model.specs.Asked.{Asked}
use Rattle.edge_model.specs.Asking.{IsAt, tree_at}
use Rattle.edge_model.specs.Laws.{last_or}
use Rattle.edge_model.specs.Run.{Run, run_of, next_line, closed, closing_trees}
use Rattle.edge_model.specs.Tree.{Tree}
use Rattle.edge_model.proofs.RunLaws.{run_grows, run_begins, run_last}
use Rattle.edge_script.specs.Reading.{command_in}
use Rattle.edge_session.specs.Line.{state_after, points_of, answer_to, told_text, text_for}
use Rattle.edge_session.specs.Object.{HasReached, IsLed, IsClosed, HasRun}
use Rattle.edge_session.specs.Session.{run_over, text_of}

map_append : {X Y : Type 0} (f : X → Y) (xs ys : List X) → map f (xs ++ ys) ≡ map f xs ++ map f ys
map_append f [] ys = refl
map_append f (x ∷ xs) ys = ap (λ l. f x ∷ l) (map_append f xs ys)

-- ---- one line more

pub run_more : (g : Request) (t : Tree) (lines : List (List ℕ)) (line : List ℕ) → run_over g t (lines ++ line ∷ []) ≡ next_line g (run_over g t lines) (command_in line)
unfolding run_over
run_more g t lines line = ap (run_of g t) (map_append command_in lines (line ∷ [])) ∙ run_grows g t (map command_in lines) (command_in line)

next_state : (g : Request) (r : Run) (c : Option Asked) → (next_line g r c).state ≡ state_after g r.state c
next_state g r None = refl
next_state g r (Some c) = refl

pub next_trees : (g : Request) (r : Run) (c : Option Asked) → (next_line g r c).trees ≡ r.trees ++ points_of g r.state c
next_trees g r None = sym (append-nil r.trees)
next_trees g r (Some c) = refl

next_answers : (g : Request) (r : Run) (c : Option Asked) → (next_line g r c).answers ≡ r.answers ++ answer_to g r.state c ∷ []
next_answers g r None = refl
next_answers g r (Some c) = refl

pub next_text : (g : Request) (r : Run) (c : Option Asked) → text_of (next_line g r c) ≡ text_of r ++ text_for g r.state c
unfolding text_of text_for
next_text g r c =
    ap (flat_map told_text) (next_answers g r c) ∙ flat_map-append told_text r.answers (answer_to g r.state c ∷ [])
    ∙ ap (λ text. flat_map told_text r.answers ++ text) (append-nil (told_text (answer_to g r.state c)))

-- ---- the trees of a run

-- its first is the opening one, and its last the committed one
pub record IsRun (t : Tree) (r : Run) : Type 0 where
  pub rest : List Tree
  pub begins : r.trees ≡ t ∷ rest
  pub last : last_or t rest ≡ r.state.committed

pub is_run : (g : Request) (t : Tree) (lines : List (List ℕ)) → IsRun t (run_over g t lines)
unfolding run_over
is_run g t lines =
    let begins = run_begins g t (map command_in lines) in
    record { rest = begins.0; begins = begins.1; last = ap (last_or t) (sym begins.1) ∙ run_last g t (map command_in lines) }

-- the trees behind the last of some
at_last : (x : Tree) (rest more : List Tree) (j k : ℕ) → k ≡ length rest + j → tree_at ((x ∷ rest) ++ more) k ≡ tree_at (last_or x rest ∷ more) j
at_last x [] more j k is = ap (tree_at (x ∷ more)) (let same : k ≡ j = omega arith in same)
at_last x (y ∷ rest) more j k is =
    ap (tree_at (x ∷ y ∷ (rest ++ more))) (let next : k ≡ suc (length rest + j) = omega arith in next) ∙ at_last y rest more j (length rest + j) refl

module _ (committed under_way : Tree → Type 0) (torn : Bool) where
  at_later : (t : Tree) (rest more : List Tree) (c : Tree) → last_or t rest ≡ c → (j k : ℕ) → k ≡ length rest + j → IsAt committed under_way torn (c ∷ more) j
      → IsAt committed under_way torn ((t ∷ rest) ++ more) k
  at_later t rest more c last j k is at = record {
    there = let h = at.there in omega (arith, length-append rest more);
    committed = subst committed (sym (at_last t rest more j k is ∙ ap (λ x. tree_at (x ∷ more) j) last)) at.committed;
    next = λ e.
        let n = at.next e in
        let inside = n.0 in
        let on : k + 1 ≡ length rest + (j + 1) = omega arith in
        (omega (arith, length-append rest more), subst under_way (sym (at_last t rest more (j + 1) (k + 1) on ∙ ap (λ x. tree_at (x ∷ more) (j + 1)) last)) n.1);
  }

module _ {A : Type 0} (a : AskGhosts A) (t : Tree) (r : Run) (is : IsRun t r) (before now after : A) (run : HasRun a r before now) where
  -- what was reached since the run is reached behind its last tree
  pub reached_more : (more : List Tree) → a.reached now ≤ a.reached after → HasReached a now after (r.state.committed ∷ more) → HasReached a before after (r.trees ++ more)
  reached_more more later at =
      subst (λ trees. HasReached a before after (trees ++ more)) (sym is.begins)
      (at_later (a.committed after) (a.under_way after) (a.torn after) t is.rest more r.state.committed is.last (a.reached after - a.reached now) (a.reached after - a.reached before)
      (let p = run.points in omega (arith, ap length is.begins)) at)

  pub line_reached : (g : Request) (c : Option Asked) → a.reached now ≤ a.reached after → HasReached a now after (r.state.committed ∷ points_of g r.state c)
      → HasReached a before after (next_line g r c).trees
  line_reached g c later at = subst (HasReached a before after) (sym (next_trees g r c)) (reached_more (points_of g r.state c) later at)

  pub line_run : (g : Request) (c : Option Asked) → IsLed a g r.state c now after → HasRun a (next_line g r c) before after
  line_run g c led = record {
    stands = subst (a.stands_for after) (sym (next_state g r c)) led.stands;
    points = let p = run.points in let q = led.points in omega (arith, ap length (next_trees g r c), length-append r.trees (points_of g r.state c));
  }

  pub closed_run : IsClosed a r.state now after → HasRun a (closed r) before after
  closed_run led = record {
    stands = led.stands;
    points = let p = run.points in let q = led.points in omega (arith, length-append r.trees (closing_trees r.state));
  }

  pub closed_reached : a.reached now ≤ a.reached after → HasReached a now after (r.state.committed ∷ closing_trees r.state) → HasReached a before after (closed r).trees
  closed_reached later at = reached_more (closing_trees r.state) later at
