-- What one line leads to, and what it is answered.
use Rattle.std.specs.Prelude.{ℕ, ◌+◌, ◌-◌, min, List, [], ◌∷◌, length, drop, Option, Some, None}
use Rattle.edge_base.specs.declared.geometry.Request.{Request}
use Rattle.edge_model.specs.Asked.{Asked}
use Rattle.edge_model.specs.Run.{Answered}
use Rattle.edge_model.specs.State.{State}
use Rattle.edge_model.specs.Step.{step}
use Rattle.edge_model.specs.Tree.{Tree}
use Rattle.edge_script.specs.Reading.{command_in}
use Rattle.edge_script.specs.Replies.{answer_text, bad_text}

-- ---- a line that spells this command, or none

-- the state that it leads to
abbrev pub state_after : Request → State → Option Asked → State
state_after g s None = s
state_after g s (Some command) = (step g s command).state

-- the trees at its points
abbrev pub points_of : Request → State → Option Asked → List Tree
points_of g s None = []
points_of g s (Some command) = (step g s command).points

abbrev pub answer_to : Request → State → Option Asked → Answered
answer_to g s None = None
answer_to g s (Some command) = Some (step g s command).answer

-- the text of an answer: a line that spells no command is bad
abbrev pub told_text : Answered → List ℕ
told_text None = bad_text
told_text (Some answer) = answer_text answer

-- the text that it is answered with
unfoldable pub text_for : Request → State → Option Asked → List ℕ
text_for g s command = told_text (answer_to g s command)

-- ---- moments

-- how often the clock is asked for it
abbrev pub moments_for : Option Asked → ℕ
moments_for None = 0
moments_for (Some command) = 1

-- and for several lines: once for each that spells a command
abbrev pub moments_of : List (List ℕ) → ℕ
moments_of [] = 0
moments_of (line ∷ lines) = moments_for (command_in line) + moments_of lines

-- the moments left of a clock that was asked k times: the last one stays
unfoldable pub moments_after : ℕ → List ℕ → List ℕ
moments_after k moments = drop (min k (length moments - 1)) moments
