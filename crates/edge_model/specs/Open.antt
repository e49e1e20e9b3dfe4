-- Opening, closing and moving descriptors.
use Rattle.std.specs.Prelude.{ℕ, ◌+◌, ◌&&◌, ◌||◌, not, Bool, true, false, nat_lt, List, [], ◌∷◌, slice_set, drop, Option, Some, None, Result, Ok}
use Rattle.edge_base.specs.declared.geometry.Request.{Request}
use Rattle.edge_base.specs.declared.refusal.Refusal.{Refusal}
use Rattle.edge_base.specs.declared.refusal.Refusal.TheVariants as refusal
use Rattle.edge_base.specs.commands.Refusals.{◌>>=◌, refuse_if, or_refuse}
use Rattle.edge_base.specs.layout.Places.{max_size_of}
use Rattle.edge_base.specs.commands.Descriptors.{Descriptor, Descriptors, descriptor_at, first_empty, is_full}
use Rattle.edge_base.specs.commands.Events as event
use Rattle.edge_base.specs.tree.Nodes.{file}
use Rattle.edge_base.specs.tree.Slots.{Entry, Slots}
use Rattle.edge_model.specs.declared.command.OpenFlags.{OpenFlags}
use Rattle.edge_model.specs.Tree.{Tree, is_directory, slots_at, with_node, data_positions}
use Rattle.edge_model.specs.Walk.{Spot, Found, at_spot, spot_of, found_number}
use Rattle.edge_model.specs.State.{State, Edit, Plan, keeps, changes}
use Rattle.edge_model.specs.Asked.{done, number, end, entry}
use Rattle.edge_model.specs.Named.{new_name}

-- ---- descriptors

abbrev pub open_at : State → ℕ → Result Descriptor Refusal
open_at s h = or_refuse (descriptor_at s.descriptors h) refusal.BadDescriptor

-- the descriptor of a file
abbrev pub file_at : State → ℕ → Result Descriptor Refusal
file_at s h = do
  d ← open_at s h
  _ ← refuse_if d.directory refusal.IsDir
  Ok d

-- the descriptor of a file that is open for writing
abbrev pub writable_at : State → ℕ → Result Descriptor Refusal
writable_at s h = do
  d ← file_at s h
  _ ← refuse_if (not d.write) refusal.BadDescriptor
  Ok d

-- the descriptor of a directory
abbrev pub directory_at : State → ℕ → Result Descriptor Refusal
directory_at s h = do
  d ← open_at s h
  _ ← refuse_if (not d.directory) refusal.NotDir
  Ok d

-- with descriptor h at another position
abbrev pub moved : Descriptors → ℕ → Descriptor → ℕ → Descriptors
moved table h d at = slice_set table h (Some (record d { at = at }))

-- with a further descriptor in the first empty place
abbrev pub entered : Descriptors → Descriptor → Descriptors
entered table d = slice_set table (first_empty table) (Some d)

-- ---- open

abbrev pub file_descriptor : OpenFlags → ℕ → Descriptor
file_descriptor flags n = record { number = n; directory = false; read = flags.read; write = flags.write; append = flags.append; at = 0 }

-- neither read nor write, exclusive without create, or create, truncate or append without write
abbrev pub are_bad_flags : OpenFlags → Bool
are_bad_flags f = not (f.read || f.write) || (f.exclusive && not f.create) || ((f.create || f.truncate || f.append) && not f.write)

-- the file is made empty
abbrev pub emptied : Request → Tree → ℕ → Edit
emptied g t n = record { tree = with_node t n (Some (file [] [])); writes = []; removes = data_positions g t n; reserve = 0 }

abbrev pub open_plan : Bool → Request → State → OpenFlags → ℕ → Plan
open_plan true g s flags n = record (changes s (emptied g s.tree n) event.truncate (number (first_empty s.descriptors)))
    { descriptors = entered s.descriptors (file_descriptor flags n) }
open_plan false g s flags n = record (keeps s (number (first_empty s.descriptors))) { descriptors = entered s.descriptors (file_descriptor flags n) }

-- a path that is there
abbrev pub open_there : Request → State → OpenFlags → ℕ → Result Plan Refusal
open_there g s flags n = do
  _ ← refuse_if flags.exclusive refusal.Exists
  _ ← refuse_if (is_directory s.tree n) refusal.IsDir
  _ ← refuse_if (is_full s.descriptors) refusal.TooManyOpen
  Ok (open_plan flags.truncate g s flags n)

-- a path that has no entry
abbrev pub open_absent : Request → State → OpenFlags → Spot → Result Plan Refusal
open_absent g s flags spot = do
  _ ← refuse_if (not flags.create) refusal.NoEntry
  _ ← refuse_if (is_full s.descriptors) refusal.TooManyOpen
  new ← new_name g s.tree spot (file [] [])
  Ok (record (changes s new.edit event.create (number (first_empty s.descriptors))) { descriptors = entered s.descriptors (file_descriptor flags new.number) })

abbrev pub open_spot : Request → State → OpenFlags → Spot → Option Found → Result Plan Refusal
open_spot g s flags spot (Some found) = open_there g s flags found.number
open_spot g s flags spot None = open_absent g s flags spot

unfoldable pub plan_open : Request → State → List ℕ → OpenFlags → Result Plan Refusal
plan_open g s path flags = do
  _ ← refuse_if (are_bad_flags flags) refusal.Invalid
  spot ← spot_of g s.tree path
  open_spot g s flags spot (at_spot s.tree spot)

-- ---- close, seek, fsync

unfoldable pub plan_close : State → ℕ → Result Plan Refusal
plan_close s h = do
  _ ← open_at s h
  Ok (record (keeps s done) { descriptors = slice_set s.descriptors h None; point = event.has_event s.mask event.close })

unfoldable pub plan_seek : Request → State → ℕ → ℕ → Result Plan Refusal
plan_seek g s h to = do
  d ← file_at s h
  _ ← refuse_if (nat_lt (max_size_of g) to) refusal.Invalid
  Ok (record (keeps s done) { descriptors = moved s.descriptors h d to })

unfoldable pub plan_fsync : State → ℕ → Result Plan Refusal
plan_fsync s h = do
  _ ← open_at s h
  Ok (record (keeps s done) { point = event.has_event s.mask event.fsync })

-- ---- directories

abbrev pub directory_descriptor : ℕ → Descriptor
directory_descriptor n = record { number = n; directory = true; read = false; write = false; append = false; at = 0 }

unfoldable pub plan_open_dir : Request → State → List ℕ → Result Plan Refusal
plan_open_dir g s path = do
  spot ← spot_of g s.tree path
  n ← found_number (at_spot s.tree spot)
  _ ← refuse_if (not (is_directory s.tree n)) refusal.NotDir
  _ ← refuse_if (is_full s.descriptors) refusal.TooManyOpen
  Ok (record (keeps s (number (first_empty s.descriptors))) { descriptors = entered s.descriptors (directory_descriptor n) })

-- a slot and what it holds
pub record Filled : Type 0 where
  pub slot : ℕ
  pub entry : Entry

-- the first filled slot, where the list begins with slot i
abbrev pub first_filled : ℕ → Slots → Option Filled
first_filled i [] = None
first_filled i (None ∷ slots) = first_filled (i + 1) slots
first_filled i (Some e ∷ slots) = Some (record { slot = i; entry = e })

abbrev pub read_dir_plan : State → ℕ → Descriptor → Option Filled → Plan
read_dir_plan s h d None = keeps s end
read_dir_plan s h d (Some filled) = record (keeps s (entry filled.entry.number filled.entry.name)) { descriptors = moved s.descriptors h d (filled.slot + 1) }

unfoldable pub plan_read_dir : State → ℕ → Result Plan Refusal
plan_read_dir s h = do
  d ← directory_at s h
  Ok (read_dir_plan s h d (first_filled d.at (drop d.at (slots_at s.tree d.number))))

unfoldable pub plan_rewind : State → ℕ → Result Plan Refusal
plan_rewind s h = do
  d ← directory_at s h
  Ok (record (keeps s done) { descriptors = moved s.descriptors h d 0 })
