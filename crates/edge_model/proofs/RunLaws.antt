-- Laws of runs.
use Rattle.std.proofs.Common.{ℕ, zero, suc, ◌<◌, slice_index_or, ◌≡◌, ◌+◌, Bool, true, false, cond, List, [], ◌∷◌, ◌++◌, length, fold, Option, Some, None, refl, ap, ◌∙◌, arith}
use Rattle.std.proofs.lemmas.List.{length-append}
use Rattle.std.proofs.lemmas.List.Sums.{fold-append}
use Rattle.edge_base.specs.declared.geometry.Request.{Request}
use Rattle.edge_model.specs.Asked.{Asked}
use Rattle.edge_model.specs.Tree.{Tree}
use Rattle.edge_model.specs.State.{State, first_state, closes_with_point, point_taken}
use Rattle.edge_model.specs.Step.{step}
use Rattle.edge_model.specs.Run.{Run, opening, next_line, run_of, closed}
use Rattle.edge_model.specs.Laws.{last_or}
use Rattle.edge_model.proofs.StepLaws.{few_points, last-append}

-- a run of one line more
pub run_grows : (g : Request) (t : Tree) (lines : List (Option Asked)) (line : Option Asked) → run_of g t (lines ++ line ∷ []) ≡ next_line g (run_of g t lines) line
unfolding run_of
run_grows g t lines line = fold-append (next_line g) (opening t) lines (line ∷ [])

-- what each line keeps, a run keeps
pub run_keeps : (P : Run → Type 0) (g : Request) → ((r : Run) (line : Option Asked) → P r → P (next_line g r line)) → (r : Run) (lines : List (Option Asked)) → P r → P (fold (next_line g) r lines)
run_keeps P g each r [] h = h
run_keeps P g each r (line ∷ lines) h = run_keeps P g each (next_line g r line) lines (each r line h)

-- what each step keeps, the state of a run keeps
pub run_state_keeps : (P : State → Type 0) (g : Request) → ((s : State) (c : Asked) → P s → P (step g s c).state) → (t : Tree) (lines : List (Option Asked)) → P (first_state t) → P (run_of g t lines).state
unfolding run_of
run_state_keeps P g each t lines h = run_keeps (λ r. P r.state) g by_line (opening t) lines h
  where
    by_line : (r : Run) (line : Option Asked) → P r.state → P (next_line g r line).state
    by_line r None k = k
    by_line r (Some c) k = each r.state c k

-- ---- answers

one_answer : (g : Request) (r : Run) (line : Option Asked) → length (next_line g r line).answers ≡ length r.answers + 1
one_answer g r None = length-append r.answers (None ∷ [])
one_answer g r (Some c) = length-append r.answers (Some (step g r.state c).answer ∷ [])

fold_answers : (g : Request) (r : Run) (lines : List (Option Asked)) → length (fold (next_line g) r lines).answers ≡ length r.answers + length lines
fold_answers g r [] = omega arith
fold_answers g r (line ∷ lines) = omega (arith, fold_answers g (next_line g r line) lines, one_answer g r line)

-- each line has its answer
pub run_answers : (g : Request) (t : Tree) (lines : List (Option Asked)) → length (run_of g t lines).answers ≡ length lines
unfolding run_of
run_answers g t lines = fold_answers g (opening t) lines ∙ omega arith

-- ---- trees

line_last : (g : Request) (t : Tree) (r : Run) (line : Option Asked) → last_or t r.trees ≡ r.state.committed → last_or t (next_line g r line).trees ≡ (next_line g r line).state.committed
line_last g t r None h = h
line_last g t r (Some c) h = last-append t r.trees (step g r.state c).points ∙ ap (λ last. last_or last (step g r.state c).points) h ∙ (few_points g r.state c).1

-- the last tree of a run is the committed one
pub run_last : (g : Request) (t : Tree) (lines : List (Option Asked)) → last_or t (run_of g t lines).trees ≡ (run_of g t lines).state.committed
unfolding run_of
run_last g t lines = run_keeps (λ r. last_or t r.trees ≡ r.state.committed) g (line_last g t) (opening t) lines refl

closed_by_last : (t : Tree) (point : Bool) (r : Run) → last_or t r.trees ≡ r.state.committed
    → last_or t (r.trees ++ cond point (r.state.tree ∷ []) []) ≡ (cond point (point_taken r.state) r.state).committed
closed_by_last t true r h = last-append t r.trees (r.state.tree ∷ [])
closed_by_last t false r h = last-append t r.trees [] ∙ h

-- also after the closing step
pub closed_last : (g : Request) (t : Tree) (lines : List (Option Asked)) → last_or t (closed (run_of g t lines)).trees ≡ (closed (run_of g t lines)).state.committed
closed_last g t lines = closed_by_last t (closes_with_point (run_of g t lines).state) (run_of g t lines) (run_last g t lines)

line_begins : (g : Request) (t : Tree) (r : Run) (line : Option Asked) → (rest : List Tree) × (r.trees ≡ t ∷ rest) → (rest : List Tree) × ((next_line g r line).trees ≡ t ∷ rest)
line_begins g t r None h = h
line_begins g t r (Some c) h = (h.0 ++ (step g r.state c).points, ap (λ trees. trees ++ (step g r.state c).points) h.1)

-- the first tree of a run is the opening one
pub run_begins : (g : Request) (t : Tree) (lines : List (Option Asked)) → (rest : List Tree) × ((run_of g t lines).trees ≡ t ∷ rest)
unfolding run_of
run_begins g t lines = run_keeps (λ r. (rest : List Tree) × (r.trees ≡ t ∷ rest)) g (line_begins g t) (opening t) lines ([], refl)

same_within : (trees : List Tree) (i : ℕ) (one two : Tree) → i < length trees → slice_index_or trees i one ≡ slice_index_or trees i two
same_within [] i one two h = absurd (omega arith)
same_within (t ∷ trees) zero one two h = refl
same_within (t ∷ trees) (suc i) one two h = same_within trees i one two (omega arith)

-- the last tree by its index
pub last_at : (t : Tree) (trees : List Tree) → last_or t trees ≡ slice_index_or (t ∷ trees) (length trees) t
last_at t [] = refl
last_at t (next ∷ trees) = last_at next trees ∙ same_within (next ∷ trees) (length trees) next t (omega arith)
