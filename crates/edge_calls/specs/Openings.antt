-- Opening a file: what its path leads to, and what is planned for that.
use Rattle.std.specs.Prelude.{◌≡◌, ◌≤◌, ℕ, not, true, false, is_some, if◌then◌else◌, List, [], length, None, Result, Ok, Err}
use Rattle.edge_base.specs.commands.Descriptors.{Descriptors, first_empty, is_full}
use Rattle.edge_base.specs.commands.Events as event
use Rattle.edge_base.specs.commands.Refusals.{◌>>=◌, refuse_if}
use Rattle.edge_base.specs.declared.geometry.Request.{Request}
use Rattle.edge_base.specs.declared.refusal.Refusal.{Refusal}
use Rattle.edge_base.specs.declared.refusal.Refusal.TheVariants as refusal
use Rattle.edge_base.specs.tree.Nodes.{file}
use Rattle.edge_store.specs.State.{StoreState, IsNumber, HasInode}
use Rattle.edge_model.specs.declared.command.OpenFlags.{OpenFlags}
use Rattle.edge_model.specs.Asked.{number}
use Rattle.edge_model.specs.Named.{NewName, new_name}
use Rattle.edge_model.specs.Open.{entered, file_descriptor, open_plan, open_spot, plan_open}
use Rattle.edge_model.specs.Rules.{IsTree}
use Rattle.edge_model.specs.State.{State, Plan, changes}
use Rattle.edge_model.specs.Tree.{Tree, is_directory, slots_at}
use Rattle.edge_model.specs.Walk.{within, at_spot, find_name}
use Rattle.edge_volume.specs.Nodes.{OnTree}
use Rattle.edge_volume.specs.Volume.{StoreStands}
use Rattle.edge_walk.specs.Reached.{IsHolder}
use Rattle.edge_calls.specs.declared.open.Opening.{Opening}
use Rattle.edge_calls.specs.declared.open.Opening.TheVariants.{There, New}
use Rattle.edge_calls.specs.declared.vacant.Vacancy.{Vacancy}

-- ---- what is refused

-- why the root is not opened as a file
abbrev pub root_refusal : OpenFlags → Refusal
root_refusal flags = if flags.exclusive then refusal.Exists else refusal.IsDir

-- a node that is there may be opened as a file, or the first refusal
abbrev pub may_open : Tree → Descriptors → OpenFlags → ℕ → Result (Unit {0}) Refusal
may_open t table flags n = do
  _ ← refuse_if flags.exclusive refusal.Exists
  _ ← refuse_if (is_directory t n) refusal.IsDir
  refuse_if (is_full table) refusal.TooManyOpen

-- a file that is absent may be made, but for its name, or the first refusal
abbrev pub may_make : Descriptors → OpenFlags → Result (Unit {0}) Refusal
may_make table flags = do
  _ ← refuse_if (not flags.create) refusal.NoEntry
  refuse_if (is_full table) refusal.TooManyOpen

-- ---- what is planned

-- for a new file
abbrev pub made_plan : State → OpenFlags → NewName → Plan
made_plan s flags new =
    record (changes s new.edit event.create (number (first_empty s.descriptors))) { descriptors = entered s.descriptors (file_descriptor flags new.number) }

-- for what is opened, or why nothing is
abbrev pub planned_for : Request → State → OpenFlags → Result Opening Refusal → Result Plan Refusal
planned_for g s flags (Ok (There n)) = Ok (open_plan flags.truncate g s flags n)
planned_for g s flags (Ok (New at)) = do
  new ← new_name g s.tree (within at.d at.name.now) (file [] [])
  Ok (made_plan s flags new)
planned_for g s flags (Err e) = Err e

-- In each state that the store stands for, with these descriptors, this is planned for a path.
abbrev pub OpensAs : StoreState → Descriptors → List ℕ → OpenFlags → Result Opening Refusal → Type 0
OpensAs st table path flags r = (z : State) → StoreStands st z → IsTree st.origin.request z.tree → z.descriptors ≡ table
    → plan_open st.origin.request z path flags ≡ planned_for st.origin.request z flags r

-- so for a name in directory d
abbrev pub OpensIn : StoreState → Descriptors → ℕ → List ℕ → OpenFlags → Result Opening Refusal → Type 0
OpensIn st table d name flags r = (z : State) → StoreStands st z → IsTree st.origin.request z.tree → z.descriptors ≡ table
    → open_spot st.origin.request z flags (within d name) (at_spot z.tree (within d name)) ≡ planned_for st.origin.request z flags r

-- ---- what is known of what is opened

abbrev pub IsShort : Request → List ℕ → Type 0
IsShort g name = length name ≤ g.name_max

-- Number n is one of a file that is there.
pub record IsThere (st : StoreState) (n : ℕ) : Type 0 where
  pub number : IsNumber st n
  pub there : HasInode st n
  pub file : OnTree st (λ t. (is_some (t n) ≡ true) × (is_directory t n ≡ false))

-- A name is free, with the first empty slot of its directory, and a file is to be made under it.
pub record IsNew (st : StoreState) (flags : OpenFlags) (at : Vacancy) : Type 0 where
  pub holder : IsHolder st at.d
  pub free : OnTree st (λ t. find_name t at.d at.name.now ≡ None)
  pub first : OnTree st (λ t. at.slot ≡ first_empty (slots_at t at.d))
  pub short : IsShort st.origin.request at.name.now
  pub asked : flags.create ≡ true

abbrev pub IsOpening : StoreState → OpenFlags → Opening → Type 0
IsOpening st flags (There n) = IsThere st n
IsOpening st flags (New at) = IsNew st flags at
