-- Runs: lines, one after another, and the trees at the points that they take.
use Rattle.std.specs.Prelude.{if◌then◌else◌, List, [], ◌∷◌, ◌++◌, Option, Some, None, Result, fold}
use Rattle.edge_base.specs.declared.geometry.Request.{Request}
use Rattle.edge_base.specs.declared.refusal.Refusal.{Refusal}
use Rattle.edge_model.specs.Asked.{Asked, Reply}
use Rattle.edge_model.specs.Tree.{Tree}
use Rattle.edge_model.specs.State.{State, Outcome, first_state, point_taken, closes_with_point}
use Rattle.edge_model.specs.Step.{step}

-- What a line is answered: a line that spells no command has None.
abbrev pub Answered : Type 0
Answered = Option (Result Reply Refusal)

-- What lines have led to: the state, their answers, and the trees at points in order, the opening tree first.
pub record Run : Type 0 where
  pub state : State
  pub answers : List Answered
  pub trees : List Tree

abbrev pub opening : Tree → Run
opening t = record { state = first_state t; answers = []; trees = t ∷ [] }

abbrev pub after_outcome : Run → Outcome → Run
after_outcome r o = record { state = o.state; answers = r.answers ++ Some o.answer ∷ []; trees = r.trees ++ o.points }

-- a line that spells this command, or none
abbrev pub next_line : Request → Run → Option Asked → Run
next_line g r None = record r { answers = r.answers ++ None ∷ [] }
next_line g r (Some command) = after_outcome r (step g r.state command)

-- the run over lines from a tree
unfoldable pub run_of : Request → Tree → List (Option Asked) → Run
run_of g t lines = fold (next_line g) (opening t) lines

-- the closing step: a point where the mask asks for one at the end
abbrev pub closing_state : State → State
closing_state s = if closes_with_point s then point_taken s else s

-- the trees of its points
abbrev pub closing_trees : State → List Tree
closing_trees s = if closes_with_point s then s.tree ∷ [] else []

abbrev pub closed : Run → Run
closed r = record { state = closing_state r.state; answers = r.answers; trees = r.trees ++ closing_trees r.state }
