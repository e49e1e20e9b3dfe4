-- Making, linking, moving and dropping names.
use Rattle.std.specs.Prelude.{ℕ, ◌==◌, ◌&&◌, ◌||◌, not, Bool, true, false, nat_le, is_some, if◌then◌else◌, List, [], ◌∷◌, ◌++◌, Option, Some, None, Result, Ok, Err}
use Rattle.std.specs.List.{list_any}
use Rattle.edge_base.specs.declared.geometry.Request.{Request}
use Rattle.edge_base.specs.declared.refusal.Refusal.{Refusal}
use Rattle.edge_base.specs.declared.refusal.Refusal.TheVariants as refusal
use Rattle.edge_base.specs.commands.Refusals.{◌>>=◌, refuse_if, or_refuse}
use Rattle.edge_base.specs.tree.Positions.{Position}
use Rattle.edge_base.specs.tree.Slots.{Slots}
use Rattle.edge_base.specs.commands.Descriptors.{is_open}
use Rattle.edge_base.specs.commands.Events as event
use Rattle.edge_base.specs.commands.Paths.{names_of, names_in, two_paths}
use Rattle.edge_base.specs.tree.Nodes.{Node, file, directory}
use Rattle.edge_model.specs.Tree.{Tree, node_at, is_directory, slots_at, links_of, with_node, data_positions}
use Rattle.edge_model.specs.Walk.{Spot, top, within, Found, walk, at_spot, spot_of, is_top, gone_through}
use Rattle.edge_model.specs.State.{State, Edit, Plan, keeps, changes}
use Rattle.edge_model.specs.Asked.{done}
use Rattle.edge_model.specs.Named.{slot_position, clear_writes, clear_removes, placed, cleared, new_slot, new_name}

abbrev pub is_empty : Slots → Bool
is_empty [] = true
is_empty (slot ∷ slots) = false

-- ---- mkdir

abbrev pub make_dir_at : Request → State → Spot → Result Plan Refusal
make_dir_at g s top = Err refusal.Exists
make_dir_at g s (within d name) = do
  new ← new_name g s.tree (within d name) (directory [] d)
  Ok (changes s new.edit event.mkdir done)

unfoldable pub plan_make_dir : Request → State → List ℕ → Result Plan Refusal
plan_make_dir g s path = do
  spot ← spot_of g s.tree path
  _ ← refuse_if (is_some (at_spot s.tree spot)) refusal.Exists
  make_dir_at g s spot

-- ---- link

-- a further name for node n
abbrev pub link_at : Request → State → ℕ → Spot → Result Plan Refusal
link_at g s n top = Err refusal.Exists
link_at g s n (within d name) = do
  slot ← new_slot g s.tree d
  Ok (changes s (record {
    tree = placed s.tree d slot (record { name = name; number = n });
    writes = slot_position g d slot ∷ [];
    removes = [];
    reserve = 3;
  }) event.link done)

unfoldable pub plan_link : Request → State → List ℕ → List ℕ → Result Plan Refusal
plan_link g s path to = do
  _ ← two_paths g.name_max path to
  from ← walk s.tree (names_in path)
  found ← or_refuse (at_spot s.tree from) refusal.NoEntry
  _ ← refuse_if (is_directory s.tree found.number) refusal.IsDir
  spot ← walk s.tree (names_in to)
  _ ← refuse_if (is_some (at_spot s.tree spot)) refusal.Exists
  _ ← refuse_if (nat_le 65535 (links_of g s.tree found.number)) refusal.TooManyLinks
  link_at g s found.number spot

-- ---- unlink and rmdir

-- the name in a slot cleared, and node n dropped where this was its last
abbrev pub unnamed : Request → Tree → ℕ → Found → Bool → Edit
unnamed g t d found true = record {
  tree = with_node (cleared t d found.slot) found.number None;
  writes = clear_writes g d (slots_at t d) found.slot;
  removes = clear_removes g d (slots_at t d) found.slot ++ data_positions g t found.number;
  reserve = 0;
}
unnamed g t d found false = record {
  tree = cleared t d found.slot;
  writes = clear_writes g d (slots_at t d) found.slot;
  removes = clear_removes g d (slots_at t d) found.slot;
  reserve = 0;
}

-- whether node n would be dropped with one of its names: a directory always, a file with its last
abbrev pub has_one_link : Request → Tree → ℕ → Bool
has_one_link g t n = links_of g t n == 1

-- whether node n has an open descriptor and would be dropped with one of its names
abbrev pub is_busy : Request → State → ℕ → Bool
is_busy g s n = has_one_link g s.tree n && is_open s.descriptors n

abbrev pub unlink_at : Request → State → Spot → Found → Plan
unlink_at g s top found = keeps s done
unlink_at g s (within d name) found = changes s (unnamed g s.tree d found (has_one_link g s.tree found.number)) event.unlink done

unfoldable pub plan_unlink : Request → State → List ℕ → Result Plan Refusal
plan_unlink g s path = do
  spot ← spot_of g s.tree path
  found ← or_refuse (at_spot s.tree spot) refusal.NoEntry
  _ ← refuse_if (is_directory s.tree found.number) refusal.IsDir
  _ ← refuse_if (is_busy g s found.number) refusal.Busy
  Ok (unlink_at g s spot found)

unfoldable pub plan_remove_dir : Request → State → List ℕ → Result Plan Refusal
plan_remove_dir g s path = do
  names ← names_of g.name_max path
  _ ← refuse_if (is_top path) refusal.Busy
  spot ← walk s.tree names
  found ← or_refuse (at_spot s.tree spot) refusal.NoEntry
  _ ← refuse_if (not (is_directory s.tree found.number)) refusal.NotDir
  _ ← refuse_if (not (is_empty (slots_at s.tree found.number))) refusal.NotEmpty
  _ ← refuse_if (is_open s.descriptors found.number) refusal.Busy
  Ok (unlink_at g s spot found)

-- ---- rename

-- the directory that holds a spot's name
abbrev pub holder : Spot → ℕ
holder top = 0
holder (within d name) = d

abbrev pub name_at : Spot → List ℕ
name_at top = []
name_at (within d name) = name

-- a directory that was moved has another parent
abbrev pub with_parent : Tree → ℕ → ℕ → Tree
with_parent t n parent = by_node (node_at t n)
  where
    by_node : Node → Tree
    by_node (file content present) = t
    by_node (directory slots old) = with_node t n (Some (directory slots parent))

-- The name of node n is placed in a slot, and then its old one is cleared; the node that is replaced loses a link.
abbrev pub renamed : Request → Tree → Spot → Found → Spot → ℕ → Option ℕ → Edit
renamed g t from found to slot replaced =
    let held = placed t (holder to) slot (record { name = name_at to; number = found.number }) in
    let left = cleared held (holder from) found.slot in
    record {
      tree = with_parent (without replaced left) found.number (holder to);
      writes = slot_position g (holder to) slot ∷ clear_writes g (holder from) (slots_at held (holder from)) found.slot;
      removes = clear_removes g (holder from) (slots_at held (holder from)) found.slot ++ dropped replaced;
      reserve = 3;
    }
  where
    without : Option ℕ → Tree → Tree
    without None tree = tree
    without (Some n) tree = if has_one_link g t n then with_node tree n None else tree

    dropped : Option ℕ → List Position
    dropped None = []
    dropped (Some n) = if has_one_link g t n then data_positions g t n else []

abbrev pub rename_plan : Request → State → Spot → Found → Spot → ℕ → Option ℕ → Plan
rename_plan g s from found to slot replaced = changes s (renamed g s.tree from found to slot replaced) event.rename done

-- the refusals of a name that is there, as the new name of another node
abbrev pub rename_over : Request → State → Spot → Found → Spot → Found → Result Plan Refusal
rename_over g s from found to there = do
  _ ← refuse_if (is_directory s.tree found.number && not (is_directory s.tree there.number)) refusal.NotDir
  _ ← refuse_if (not (is_directory s.tree found.number) && is_directory s.tree there.number) refusal.IsDir
  _ ← refuse_if (is_directory s.tree there.number && not (is_empty (slots_at s.tree there.number))) refusal.NotEmpty
  _ ← refuse_if (is_busy g s there.number) refusal.Busy
  Ok (rename_plan g s from found to there.slot (Some there.number))

-- two names of one node: nothing changes
abbrev pub rename_same : Request → State → Plan
rename_same g s = record (keeps s done) { point = event.has_event s.mask event.rename }

abbrev pub rename_to : Request → State → Spot → Found → Spot → Option Found → Result Plan Refusal
rename_to g s from found to (Some there) = if there.number == found.number then Ok (rename_same g s) else rename_over g s from found to there
rename_to g s from found to None = do
  slot ← new_slot g s.tree (holder to)
  Ok (rename_plan g s from found to slot None)

-- whether the way to a path goes through a directory
abbrev pub is_below : Tree → List ℕ → ℕ → Bool
is_below t path n = list_any (λ d. d == n) (gone_through t 2 (names_in path))

unfoldable pub plan_rename : Request → State → List ℕ → List ℕ → Result Plan Refusal
plan_rename g s path to = do
  _ ← two_paths g.name_max path to
  _ ← refuse_if (is_top path || is_top to) refusal.Busy
  from ← walk s.tree (names_in path)
  found ← or_refuse (at_spot s.tree from) refusal.NoEntry
  spot ← walk s.tree (names_in to)
  _ ← refuse_if (is_directory s.tree found.number && is_below s.tree to found.number) refusal.Invalid
  rename_to g s from found spot (at_spot s.tree spot)
