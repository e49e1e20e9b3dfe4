-- All rules of a session's state, from the mounting on.
use Rattle.std.proofs.Common.{◌∙◌, refl, Bool, true, false, cond, List, [], ◌∷◌, Option, Some, None}
use Rattle.std.specs.List.{All, fold}
use Rattle.std.proofs.lemmas.Bool.{false≢true}
use Rattle.std.proofs.lemmas.List.Elements.{All-head, All-tail}
use Rattle.edge_base.specs.declared.geometry.Request.{Request}
use Rattle.edge_base.specs.layout.Places.{IsGeometry}
use Rattle.edge_model.specs.Asked.{Asked}
use Rattle.edge_model.specs.Rules.{IsTree}
use Rattle.edge_model.specs.Run.{Run, run_of, opening, next_line, closing_state}
use Rattle.edge_model.specs.State.{State, first_state, point_taken, closes_with_point}
use Rattle.edge_model.specs.Step.{step}
use Rattle.edge_model.specs.Tree.{Tree}
use Rattle.edge_model.proofs.CompleteLaws.{step_sound, point_sound}
use Rattle.edge_model.specs.Bytes.{IsOfBytes, IsLineOfBytes}
use Rattle.edge_steps.specs.Room.{LeavesRoom}
use Rattle.edge_steps.specs.Session.{IsSession}
use Rattle.edge_steps.proofs.TreeLaws.{step_trees, point_trees, first_trees}
use Rattle.edge_steps.proofs.PlaceLaws.{step_places}
use Rattle.edge_steps.proofs.RoomLaws.{step_room, point_room}

pub first_session : (g : Request) (t : Tree) → IsTree g t → LeavesRoom g t → IsSession g (first_state t)
first_session g t tree room = record {
  trees = first_trees g t tree;
  dirty = record { within = λ p h. absurd (false≢true h); upwards = λ p q h up. absurd (false≢true h); clean = λ p there clean. there };
  room = record { tree = room; committed = room };
  places = refl;
}

pub step_session : (g : Request) (s : State) (c : Asked) → IsGeometry g → IsOfBytes c → IsSession g s → IsSession g (step g s c).state
step_session g s c is bytes session = record {
  trees = step_trees g s c is bytes session.trees;
  dirty = step_sound g s c session.dirty;
  room = step_room g s c session.dirty session.room;
  places = step_places g s c ∙ session.places;
}

pub point_session : (g : Request) (s : State) → IsSession g s → IsSession g (point_taken s)
point_session g s session = record { trees = point_trees g s session.trees; dirty = point_sound g s; room = point_room g s session.room; places = session.places }

closes : (g : Request) (point : Bool) (s : State) → IsSession g s → IsSession g (cond point (point_taken s) s)
closes g true s session = point_session g s session
closes g false s session = session

pub closing_session : (g : Request) (s : State) → IsSession g s → IsSession g (closing_state s)
closing_session g s session = closes g (closes_with_point s) s session

line_session : (g : Request) (r : Run) (line : Option Asked) → IsGeometry g → IsLineOfBytes line → IsSession g r.state → IsSession g (next_line g r line).state
line_session g r None is bytes session = session
line_session g r (Some c) is bytes session = step_session g r.state c is bytes session

lines_session : (g : Request) (r : Run) (lines : List (Option Asked)) → IsGeometry g → All IsLineOfBytes lines → IsSession g r.state → IsSession g (fold (next_line g) r lines).state
lines_session g r [] is bytes session = session
lines_session g r (line ∷ lines) is bytes session = lines_session g (next_line g r line) lines is (All-tail IsLineOfBytes line lines bytes) (line_session g r line is (All-head IsLineOfBytes line lines bytes) session)

pub run_session : (g : Request) (t : Tree) (lines : List (Option Asked)) → IsGeometry g → All IsLineOfBytes lines → IsTree g t → LeavesRoom g t → IsSession g (run_of g t lines).state
unfolding run_of
run_session g t lines is bytes tree room = lines_session g (opening t) lines is bytes (first_session g t tree room)
