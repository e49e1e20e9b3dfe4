-- The state of a session, and how a command ends: its room, its points and its answer.
use Rattle.std.specs.Prelude.{ℕ, ◌+◌, ◌&&◌, Bool, true, false, nat_lt, nat_le, List, [], ◌∷◌, ◌++◌, Option, Some, None, Result, Ok, Err}
use Rattle.edge_base.specs.declared.geometry.Request.{Request}
use Rattle.edge_base.specs.declared.refusal.Refusal.{Refusal}
use Rattle.edge_base.specs.declared.refusal.Refusal.TheVariants.{NoSpace}
use Rattle.edge_base.specs.layout.Places.{allocable_of}
use Rattle.edge_base.specs.tree.Positions.{Position, has, count_of, dirty_after}
use Rattle.edge_base.specs.commands.Descriptors.{Descriptors, none_open}
use Rattle.edge_base.specs.commands.Events.{Event, has_event, umount, full, default_mask}
use Rattle.edge_model.specs.Tree.{Tree, tree_positions}
use Rattle.edge_model.specs.Asked.{Reply}

pub record State : Type 0 where
  pub tree : Tree
  -- the tree of the last point
  pub committed : Tree
  -- the positions of the tree that were written since
  pub dirty : List Position
  pub descriptors : Descriptors
  pub mask : ℕ

-- the state as a volume is mounted
abbrev pub first_state : Tree → State
first_state t = record { tree = t; committed = t; dirty = []; descriptors = none_open; mask = default_mask }

-- ---- points

-- a point makes the tree the committed one
abbrev pub point_taken : State → State
point_taken s = record s { committed = s.tree; dirty = [] }

-- the point at the end of a session, where the mask asks for it
abbrev pub closes_with_point : State → Bool
closes_with_point s = has_event s.mask umount

-- ---- room

-- A change of the tree: the new tree, the data positions that are written or added and those that are removed, and the blocks that it must leave free.
pub record Edit : Type 0 where
  pub tree : Tree
  pub writes : List Position
  pub removes : List Position
  pub reserve : ℕ

abbrev pub dirty_of : Request → State → Edit → List Position
dirty_of g s e = dirty_after g (has (tree_positions g e.tree)) s.dirty e.writes e.removes

-- the blocks in use: those of the committed tree, and one for each dirty position
abbrev pub in_use : Request → Tree → List Position → ℕ
in_use g committed dirty = count_of (tree_positions g committed) + count_of dirty

-- The committed tree, and the positions that are dirty before or after the change, leave the reserve free.
abbrev pub fits : Request → State → Edit → Bool
fits g s e = nat_le (in_use g s.committed (dirty_of g s e ++ s.dirty) + e.reserve) (allocable_of g)

-- the mask asks for a point on a full volume, and it would free blocks
abbrev pub gains_by_point : Request → State → Bool
gains_by_point g s = has_event s.mask full && nat_lt (count_of (tree_positions g s.tree)) (in_use g s.committed s.dirty)

-- ---- how a command ends

-- What a command does that nothing refuses but room: no edit where the tree stays.
pub record Plan : Type 0 where
  pub edit : Option Edit
  pub descriptors : Descriptors
  pub mask : ℕ
  -- whether a point follows
  pub point : Bool
  pub reply : Reply

-- the state after a command, its answer, and the trees of the points that were taken
pub record Outcome : Type 0 where
  pub state : State
  pub answer : Result Reply Refusal
  pub points : List Tree

abbrev pub edited : Request → State → Option Edit → State
edited g s None = s
edited g s (Some e) = record s { tree = e.tree; dirty = dirty_of g s e }

-- the state that a plan leads to
abbrev pub planned : Request → State → Plan → State
planned g s p = record (edited g s p.edit) { descriptors = p.descriptors; mask = p.mask }

-- the end of a command, with a point before its answer or without
abbrev pub ended : Bool → State → Reply → List Tree → Outcome
ended true s reply points = record { state = point_taken s; answer = Ok reply; points = points ++ s.tree ∷ [] }
ended false s reply points = record { state = s; answer = Ok reply; points = points }

abbrev pub carried_out : Request → State → Plan → List Tree → Outcome
carried_out g s p points = ended p.point (planned g s p) p.reply points

abbrev pub refused : State → Refusal → List Tree → Outcome
refused s e points = record { state = s; answer = Err e; points = points }

-- ---- the judgement of room, which comes last: on a full volume once more after a point

-- the state in which a change is carried out or refused, the points taken for it, and whether it fits
pub record Judged : Type 0 where
  pub state : State
  pub points : List Tree
  pub fits : Bool

abbrev pub judged_full : Bool → Request → State → Edit → Judged
judged_full true g s e = record { state = point_taken s; points = s.tree ∷ []; fits = fits g (point_taken s) e }
judged_full false g s e = record { state = s; points = []; fits = false }

abbrev pub judged_by : Bool → Request → State → Edit → Judged
judged_by true g s e = record { state = s; points = []; fits = true }
judged_by false g s e = judged_full (gains_by_point g s) g s e

unfoldable pub judged : Request → State → Option Edit → Judged
judged g s None = record { state = s; points = []; fits = true }
judged g s (Some e) = judged_by (fits g s e) g s e

abbrev pub finished : Bool → Request → Plan → Judged → Outcome
finished true g p j = carried_out g j.state p j.points
finished false g p j = refused j.state NoSpace j.points

unfoldable pub outcome_of : Request → State → Result Plan Refusal → Outcome
outcome_of g s (Err e) = refused s e []
outcome_of g s (Ok p) = let j = judged g s p.edit in finished j.fits g p j

-- ---- plans

-- nothing changes
abbrev pub keeps : State → Reply → Plan
keeps s reply = record { edit = None; descriptors = s.descriptors; mask = s.mask; point = false; reply = reply }

-- the tree changes, and a point follows where the mask has the event
abbrev pub changes : State → Edit → Event → Reply → Plan
changes s e event reply = record { edit = Some e; descriptors = s.descriptors; mask = s.mask; point = has_event s.mask event; reply = reply }
