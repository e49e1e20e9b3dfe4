-- Each tree at a point of a run leaves room, where the opening tree does.
use Rattle.std.proofs.Common.{ℕ, Bool, true, false, cond, List, [], ◌∷◌, ◌++◌, Option, Some, None, map}
use Rattle.std.specs.List.{All, fold}
use Rattle.std.proofs.lemmas.Bool.{false≢true}
use Rattle.std.proofs.lemmas.List.Elements.{All-nil, All-cons, All-append}
use Rattle.edge_base.specs.declared.geometry.Request.{Request}
use Rattle.edge_model.specs.Asked.{Asked}
use Rattle.edge_model.specs.Laws.{IsDirtySound}
use Rattle.edge_model.specs.Run.{Run, next_line, opening, run_of}
use Rattle.edge_model.specs.State.{State, closes_with_point}
use Rattle.edge_model.specs.Step.{step}
use Rattle.edge_model.specs.Tree.{Tree}
use Rattle.edge_model.proofs.CompleteLaws.{step_sound}
use Rattle.edge_steps.specs.Room.{HasRoom, LeavesRoom}
use Rattle.edge_steps.proofs.RoomLaws.{points_room, step_room}
use Rattle.edge_script.specs.Reading.{command_in}
use Rattle.edge_session.specs.Session.{closed_where, run_over}

record RunRoom (g : Request) (r : Run) : Type 0 where
  sound : IsDirtySound g r.state
  state : HasRoom g r.state
  trees : All (LeavesRoom g) r.trees

line_room : (g : Request) (r : Run) (line : Option Asked) → RunRoom g r → RunRoom g (next_line g r line)
line_room g r None h = record { sound = h.sound; state = h.state; trees = h.trees }
line_room g r (Some c) h = record {
  sound = step_sound g r.state c h.sound;
  state = step_room g r.state c h.sound h.state;
  trees = All-append (LeavesRoom g) r.trees (step g r.state c).points h.trees (points_room g r.state c h.sound h.state);
}

lines_room : (g : Request) (r : Run) (lines : List (Option Asked)) → RunRoom g r → RunRoom g (fold (next_line g) r lines)
lines_room g r [] h = h
lines_room g r (line ∷ lines) h = lines_room g (next_line g r line) lines (line_room g r line h)

first_room : (g : Request) (t : Tree) → LeavesRoom g t → RunRoom g (opening t)
first_room g t room = record {
  sound = record { within = λ p h. absurd (false≢true h); upwards = λ p q h up. absurd (false≢true h); clean = λ p there clean. there };
  state = record { tree = room; committed = room };
  trees = All-cons (LeavesRoom g) t [] room (All-nil (LeavesRoom g));
}

over_room : (g : Request) (t : Tree) (lines : List (List ℕ)) → LeavesRoom g t → RunRoom g (run_over g t lines)
unfolding run_over run_of
over_room g t lines room = lines_room g (opening t) (map command_in lines) (first_room g t room)

closing : (g : Request) (point : Bool) (s : State) (trees : List Tree) → HasRoom g s → All (LeavesRoom g) trees → All (LeavesRoom g) (trees ++ cond point (s.tree ∷ []) [])
closing g true s trees has all = All-append (LeavesRoom g) trees (s.tree ∷ []) all (All-cons (LeavesRoom g) s.tree [] has.tree (All-nil (LeavesRoom g)))
closing g false s trees has all = All-append (LeavesRoom g) trees [] all (All-nil (LeavesRoom g))

pub trees_room : (g : Request) (t : Tree) (lines : List (List ℕ)) (closing_counts : Bool) → LeavesRoom g t → All (LeavesRoom g) (closed_where closing_counts (run_over g t lines)).trees
trees_room g t lines true room =
    let r = over_room g t lines room in
    closing g (closes_with_point (run_over g t lines).state) (run_over g t lines).state (run_over g t lines).trees r.state r.trees
trees_room g t lines false room = (over_room g t lines room).trees
