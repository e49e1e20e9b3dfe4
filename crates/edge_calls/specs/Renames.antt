-- Moving a name: what is moved and where to, or why it is refused, but for room. ds are the descriptors.
use Rattle.std.specs.Prelude.{◌≡◌, ◌≤◌, ◌==◌, ◌&&◌, ◌||◌, not, ℕ, Bool, true, false, if◌then◌else◌, List, [], length, IfSome, Option, Some, None, Result, Ok, Err}
use Rattle.edge_base.specs.commands.Descriptors.{Descriptors, is_open}
use Rattle.edge_base.specs.commands.Paths.{names_in, two_paths}
use Rattle.edge_base.specs.commands.Refusals.{◌>>=◌, refuse_if, or_refuse}
use Rattle.edge_base.specs.declared.geometry.Request.{Request}
use Rattle.edge_base.specs.declared.node.NodeType.{NodeType}
use Rattle.edge_base.specs.declared.node.NodeType.TheVariants.{File, Directory}
use Rattle.edge_base.specs.declared.refusal.Refusal.{Refusal}
use Rattle.edge_base.specs.declared.refusal.Refusal.TheVariants as refusal
use Rattle.edge_store.specs.State.{StoreState}
use Rattle.edge_space.specs.Answers.{AreThere}
use Rattle.edge_space.specs.Changes.{IsWithin}
use Rattle.edge_space.specs.declared.change.Change.TheVariants.{Slots}
use Rattle.edge_model.specs.Named.{new_slot}
use Rattle.edge_model.specs.Names.{has_one_link, is_empty, renamed}
use Rattle.edge_model.specs.State.{Edit}
use Rattle.edge_model.specs.Tree.{Tree, is_directory, slots_at}
use Rattle.edge_model.specs.Walk.{Spot, top, within, Found, at_spot, find_name, is_top, walk}
use Rattle.edge_volume.specs.Nodes.{IsNodeOf}
use Rattle.edge_walk.specs.Ways.{goes_through}
use Rattle.edge_names.specs.Moved.{number_of}
use Rattle.edge_names.specs.declared.moves.Move.{Move}
use Rattle.edge_names.specs.declared.moves.NamedNode.{NamedNode}
use Rattle.edge_calls.specs.Makes.{is_behind}
use Rattle.edge_calls.specs.declared.rename.Named.{Named}
use Rattle.edge_calls.specs.declared.rename.Renaming.{Renaming}
use Rattle.edge_calls.specs.declared.rename.Wanted.{Wanted}

-- ---- the two names

-- The refusals of both paths. The root has no name that could be moved.
abbrev pub paths_of : Request → List ℕ → List ℕ → Result (Unit {0}) Refusal
paths_of g path to = do
  _ ← two_paths g.name_max path to
  refuse_if (is_top path || is_top to) refusal.Busy

-- a slot of a directory that has a name, and the number that it names
pub record Held : Type 0 where
  pub dir : ℕ
  pub slot : ℕ
  pub number : ℕ

abbrev pub held_at : Spot → Found → Result Held Refusal
held_at top found = Err refusal.Busy
held_at (within d name) found = Ok (record { dir = d; slot = found.slot; number = found.number })

-- what has the name that is to be moved
abbrev pub held_of : Tree → List (List ℕ) → Result Held Refusal
held_of t names = do
  spot ← walk t names
  found ← or_refuse (at_spot t spot) refusal.NoEntry
  held_at spot found

-- a name in a directory, which may have none such
pub record NameIn : Type 0 where
  pub dir : ℕ
  pub name : List ℕ

abbrev pub name_at : Spot → Result NameIn Refusal
name_at top = Err refusal.Busy
name_at (within d name) = Ok (record { dir = d; name = name })

-- the name that node n is to have, which may not be below n where that is a directory
abbrev pub name_for : Tree → List (List ℕ) → ℕ → Result NameIn Refusal
name_for t names n = do
  spot ← walk t names
  _ ← refuse_if (is_directory t n && goes_through t names n) refusal.Invalid
  name_at spot

-- ---- what is there already

abbrev pub is_of_directory : NodeType → Bool
is_of_directory File = false
is_of_directory Directory = true

-- a node of this kind may take a name from one of that kind
abbrev pub takes : NodeType → NodeType → Result (Unit {0}) Refusal
takes kind over = do
  _ ← refuse_if (is_of_directory kind && not (is_of_directory over)) refusal.NotDir
  refuse_if (not (is_of_directory kind) && is_of_directory over) refusal.IsDir

-- node n may take the name from node r
abbrev pub replaced_by : Request → Tree → Descriptors → ℕ → ℕ → Result ℕ Refusal
replaced_by g t ds n r = do
  _ ← refuse_if (is_directory t n && not (is_directory t r)) refusal.NotDir
  _ ← refuse_if (not (is_directory t n) && is_directory t r) refusal.IsDir
  _ ← refuse_if (is_directory t r && not (is_empty (slots_at t r))) refusal.NotEmpty
  _ ← refuse_if (has_one_link g t r && is_open ds r) refusal.Busy
  Ok r

-- what is moved to which name, into which slot, and which node is replaced
pub record Rename : Type 0 where
  pub held : Held
  pub name : NameIn
  pub slot : ℕ
  pub replaced : Option ℕ

-- the first empty slot of a directory, where that may have its block
abbrev pub slot_for : Request → ℕ → Result ℕ Refusal
slot_for g slot = do
  _ ← refuse_if (is_behind g slot) refusal.TooBig
  Ok slot

-- of what is found there; nothing is moved between two names of one node
abbrev pub rename_onto : Request → Tree → Descriptors → Held → NameIn → Option Found → Result (Option Rename) Refusal
rename_onto g t ds held name (Some there) = if there.number == held.number then Ok None else (do
  r ← replaced_by g t ds held.number there.number
  Ok (Some (record { held = held; name = name; slot = there.slot; replaced = Some r })))
rename_onto g t ds held name None = do
  slot ← new_slot g t name.dir
  Ok (Some (record { held = held; name = name; slot = slot; replaced = None }))

abbrev pub rename_in : Request → Tree → Descriptors → Held → NameIn → Result (Option Rename) Refusal
rename_in g t ds held name = rename_onto g t ds held name (find_name t name.dir name.name)

abbrev pub rename_of : Request → Tree → Descriptors → List ℕ → List ℕ → Result (Option Rename) Refusal
rename_of g t ds path to = do
  _ ← paths_of g path to
  held ← held_of t (names_in path)
  name ← name_for t (names_in to) held.number
  rename_in g t ds held name

-- the change of a tree that it is
abbrev pub renamed_by : Request → Tree → Rename → Edit
renamed_by g t r =
    renamed g t (within r.held.dir []) (record { slot = r.held.slot; number = r.held.number }) (within r.name.dir r.name.name) r.slot r.replaced

-- ---- what the code found, as that

abbrev pub held_in : Named → Held
held_in named = record { dir = named.at.dir; slot = named.at.slot; number = named.node.number }

abbrev pub held_as : Result Named Refusal → Result Held Refusal
held_as (Ok named) = Ok (held_in named)
held_as (Err e) = Err e

abbrev pub name_in : Wanted → NameIn
name_in wanted = record { dir = wanted.dir; name = wanted.name.now }

abbrev pub name_as : Result Wanted Refusal → Result NameIn Refusal
name_as (Ok wanted) = Ok (name_in wanted)
name_as (Err e) = Err e

abbrev pub number_as : Result NamedNode Refusal → Result ℕ Refusal
number_as (Ok node) = Ok node.number
number_as (Err e) = Err e

abbrev pub rename_with : Move → List ℕ → Rename
rename_with m name = record {
  held = record { dir = m.from.dir; slot = m.from.slot; number = m.node.number };
  name = record { dir = m.to.dir; name = name };
  slot = m.to.slot;
  replaced = number_of m.replaced;
}

abbrev pub rename_by : Option Renaming → Option Rename
rename_by None = None
rename_by (Some r) = Some (rename_with r.change r.name.now)

abbrev pub rename_as : Result (Option Renaming) Refusal → Result (Option Rename) Refusal
rename_as (Ok r) = Ok (rename_by r)
rename_as (Err e) = Err e

-- ---- what is known of it over every store

-- A name is moved from a slot of a directory of the store to one that a node may have; the nodes have inodes with these heads, and the new
-- name is not too long.
pub record IsReady (st : StoreState) (r : Renaming) : Type 0 where
  pub there : AreThere st (Slots (Some r.change.to) (Some r.change.from))
  pub within : IsWithin st.origin.request (Slots (Some r.change.to) (Some r.change.from))
  pub node : IsNodeOf st r.change.node.number r.change.node.head
  pub replaced : IfSome r.change.replaced (λ node. IsNodeOf st node.number node.head)
  pub short : length r.name.now ≤ st.origin.request.name_max
