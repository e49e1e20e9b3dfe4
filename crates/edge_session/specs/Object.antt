-- What a session did to the object that answers its commands.
use Rattle.std.specs.Prelude.{◌≡◌, ◌≤◌, ℕ, ◌+◌, ◌-◌, ◌*◌, false, List, length, Option}
use Rattle.edge_base.specs.declared.damage.Damage.{Damage}
use Rattle.edge_base.specs.declared.geometry.Request.{Request}
use Rattle.edge_base.specs.outside.Faults.{Rose, Because}
use Rattle.edge_model.specs.declared.ask.Ask.{Ghosts as AskGhosts}
use Rattle.edge_model.specs.Asked.{Asked}
use Rattle.edge_model.specs.Asking.{IsAt, damage_of}
use Rattle.edge_model.specs.Run.{Run, closing_state, closing_trees}
use Rattle.edge_model.specs.State.{State}
use Rattle.edge_model.specs.Tree.{Tree}
use Rattle.edge_session.specs.declared.ended.How.{How}
use Rattle.edge_session.specs.declared.ended.How.TheVariants.{End, Source, Sink, Limit, Fault}
use Rattle.edge_session.specs.Line.{state_after, points_of}
use Rattle.edge_session.specs.Session.{is_fault, run_over, run_before, run_taken, lines_by}

-- ---- counts of faults

-- how the count of the source's faults went on
abbrev pub SourceCount : How → ℕ → ℕ → Type 0
SourceCount Source before after = Rose before after
SourceCount other before after = after ≡ before

-- that of the sink's
abbrev pub SinkCount : How → ℕ → ℕ → Type 0
SinkCount Sink before after = Rose before after
SinkCount other before after = after ≡ before

-- and that of the object's, with the damage that it keeps
abbrev pub ObjectCount : How → ℕ → ℕ → Option Damage → Option Damage → Type 0
ObjectCount (Fault fault) before after damage damage_after = Because before after damage damage_after (damage_of fault)
ObjectCount other before after damage damage_after = (after ≡ before) × (damage_after ≡ damage)

-- ---- points

-- the most points of the lines that were taken up, two for each
abbrev pub points_of_turns : How → ℕ → ℕ
points_of_turns (Fault fault) commands = 2 * commands + 2
points_of_turns Sink commands = 2 * commands + 2
points_of_turns other commands = 2 * commands

-- the most points of a session: one more at its end
abbrev pub most_points : How → ℕ → ℕ
most_points Source commands = 2 * commands
most_points (Fault fault) commands = 2 * commands + 2
most_points Sink commands = 2 * commands + 2
most_points End commands = 2 * commands + 1
most_points Limit commands = 2 * commands + 1

module _ {A : Type 0} (a : AskGhosts A) where
  -- The points that an object has completed since are those of the first of these trees: the next of them is the last point's, and where a
  -- fault cut a point short, the one behind it is that point's.
  abbrev pub HasReached : A → A → List Tree → Type 0
  HasReached before after trees = IsAt (a.committed after) (a.under_way after) (a.torn after) trees (a.reached after - a.reached before)

  -- it has come where a line leads
  pub record IsLed (g : Request) (s : State) (command : Option Asked) (before after : A) : Type 0 where
    pub stands : a.stands_for after (state_after g s command)
    pub points : a.reached after ≡ a.reached before + length (points_of g s command)

  -- it has come where the closing step leads
  pub record IsClosed (s : State) (before after : A) : Type 0 where
    pub stands : a.stands_for after (closing_state s)
    pub points : a.reached after ≡ a.reached before + length (closing_trees s)

  -- it has come where a run leads
  pub record HasRun (r : Run) (before after : A) : Type 0 where
    pub stands : a.stands_for after r.state
    pub points : a.reached after + 1 ≡ a.reached before + length r.trees

  -- it stands for some state
  abbrev pub Stands : A → Type 0
  Stands x = (s : State) × a.stands_for x s

  -- The same before a closing step: over the lines taken.
  pub record Comes (g : Request) (t : Tree) (how : How) (script : List ℕ) (commands taken : ℕ) (before after : A) : Type 0 where
    pub trees : HasReached before after (run_over g t (lines_by how script taken)).trees
    pub least : a.reached before + length (run_before g t script commands).trees ≤ a.reached after + 1
    pub whole : is_fault how ≡ false → HasRun (run_over g t (lines_by how script taken)) before after

  -- What a session leaves of an object that stood for a tree: the points completed are of the trees of the run over the lines taken, with
  -- the closing step where it counts, and at least those of the lines answered; without a fault they are all.
  pub record Leaves (g : Request) (t : Tree) (how : How) (script : List ℕ) (commands taken : ℕ) (before after : A) : Type 0 where
    pub trees : HasReached before after (run_taken g t how script commands taken).trees
    pub least : a.reached before + length (run_before g t script commands).trees ≤ a.reached after + 1
    pub whole : is_fault how ≡ false → HasRun (run_taken g t how script commands taken) before after
