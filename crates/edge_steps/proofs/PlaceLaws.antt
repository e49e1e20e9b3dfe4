-- Each command keeps the places of the table of descriptors.
use Rattle.std.proofs.Common.{◌≡◌, ◌∙◌, ℕ, ◌+◌, ◌==◌, ◌&&◌, ◌||◌, not, nat_lt, nat_le, Bool, true, false, List, [], ◌∷◌, length, drop, take, is_some, replicate, slice_set, Option, Some, None, refl}
use Rattle.std.proofs.lemmas.List.{length-set}
use Rattle.edge_base.specs.commands.Descriptors.{Descriptor, first_empty, is_full, is_open}
use Rattle.edge_base.specs.commands.Events.{greatest_mask}
use Rattle.edge_base.specs.commands.Paths.{names_of, names_in, two_paths}
use Rattle.edge_base.specs.commands.Refusals.{refuse_if, or_refuse}
use Rattle.edge_base.specs.declared.geometry.Request.{Request}
use Rattle.edge_base.specs.declared.refusal.Refusal.TheVariants as refusal
use Rattle.edge_base.specs.layout.Places.{max_size_of}
use Rattle.edge_base.specs.tree.Nodes.{file, directory}
use Rattle.edge_model.specs.declared.command.OpenFlags.{OpenFlags}
use Rattle.edge_model.specs.Asked.{Asked, open_file, close, read, write, fill, seek, truncate, fsync, link, unlink, rename, make_dir, remove_dir, open_dir, read_dir, rewind, stat, fstat, space, mask, set_mask, transact}
use Rattle.edge_model.specs.Files.{content_of, read_plan, plan_read, write_place, plan_write, plan_truncate}
use Rattle.edge_model.specs.Named.{new_name, new_slot}
use Rattle.edge_model.specs.Names.{is_empty, is_busy, is_below, holder, make_dir_at, link_at, unlink_at, rename_over, rename_to, plan_make_dir, plan_link, plan_unlink, plan_remove_dir, plan_rename}
use Rattle.edge_model.specs.Open.{open_at, file_at, writable_at, directory_at, are_bad_flags, open_plan, open_there, open_absent, open_spot, plan_open, plan_close, plan_seek, plan_fsync, plan_open_dir, Filled, first_filled, read_dir_plan, plan_read_dir, plan_rewind}
use Rattle.edge_model.specs.State.{State, Plan}
use Rattle.edge_model.specs.Step.{plan, step, plan_stat, plan_fstat, plan_set_mask}
use Rattle.edge_model.specs.Tree.{is_directory, node_at, slots_at, links_of}
use Rattle.edge_model.specs.Walk.{Spot, top, within, Found, walk, at_spot, spot_of, found_number, is_top}
use Rattle.edge_model.proofs.Outcomes.{each_state}
use Rattle.edge_model.proofs.Plans.{Gives, gives_ok, gives_none, gives_each, gives_either}

-- a plan leaves as many places as the state has
abbrev IsPlaced : State → Plan → Type 0
IsPlaced s p = length p.descriptors ≡ length s.descriptors

set_places : (s : State) (h : ℕ) (slot : Option Descriptor) → length (slice_set s.descriptors h slot) ≡ length s.descriptors
set_places s h slot = length-set s.descriptors h slot

-- ---- descriptors

open_plan_places : (g : Request) (s : State) (cuts : Bool) (flags : OpenFlags) (n : ℕ) → IsPlaced s (open_plan cuts g s flags n)
open_plan_places g s true flags n = set_places s (first_empty s.descriptors) _
open_plan_places g s false flags n = set_places s (first_empty s.descriptors) _

open_there_places : (g : Request) (s : State) (flags : OpenFlags) (n : ℕ) → Gives (IsPlaced s) (open_there g s flags n)
open_there_places g s flags n =
    gives_each _ (refuse_if flags.exclusive refusal.Exists) _ (λ _.
    gives_each _ (refuse_if (is_directory s.tree n) refusal.IsDir) _ (λ _.
    gives_each _ (refuse_if (is_full s.descriptors) refusal.TooManyOpen) _ (λ _.
    gives_ok _ _ (open_plan_places g s flags.truncate flags n))))

open_absent_places : (g : Request) (s : State) (flags : OpenFlags) (spot : Spot) → Gives (IsPlaced s) (open_absent g s flags spot)
open_absent_places g s flags spot =
    gives_each _ (refuse_if (not flags.create) refusal.NoEntry) _ (λ _.
    gives_each _ (refuse_if (is_full s.descriptors) refusal.TooManyOpen) _ (λ _.
    gives_each _ (new_name g s.tree spot (file [] [])) _ (λ new.
    gives_ok _ _ (set_places s (first_empty s.descriptors) _))))

open_spot_places : (g : Request) (s : State) (flags : OpenFlags) (spot : Spot) (there : Option Found) → Gives (IsPlaced s) (open_spot g s flags spot there)
open_spot_places g s flags spot (Some found) = open_there_places g s flags found.number
open_spot_places g s flags spot None = open_absent_places g s flags spot

open_places : (g : Request) (s : State) (path : List ℕ) (flags : OpenFlags) → Gives (IsPlaced s) (plan_open g s path flags)
unfolding plan_open
open_places g s path flags =
    gives_each _ (refuse_if (are_bad_flags flags) refusal.Invalid) _ (λ _.
    gives_each _ (spot_of g s.tree path) _ (λ spot.
    open_spot_places g s flags spot (at_spot s.tree spot)))

close_places : (s : State) (h : ℕ) → Gives (IsPlaced s) (plan_close s h)
unfolding plan_close
close_places s h = gives_each _ (open_at s h) _ (λ _. gives_ok _ _ (set_places s h None))

seek_places : (g : Request) (s : State) (h to : ℕ) → Gives (IsPlaced s) (plan_seek g s h to)
unfolding plan_seek
seek_places g s h to =
    gives_each _ (file_at s h) _ (λ d.
    gives_each _ (refuse_if (nat_lt (max_size_of g) to) refusal.Invalid) _ (λ _.
    gives_ok _ _ (set_places s h _)))

fsync_places : (s : State) (h : ℕ) → Gives (IsPlaced s) (plan_fsync s h)
unfolding plan_fsync
fsync_places s h = gives_each _ (open_at s h) _ (λ _. gives_ok _ _ refl)

open_dir_places : (g : Request) (s : State) (path : List ℕ) → Gives (IsPlaced s) (plan_open_dir g s path)
unfolding plan_open_dir
open_dir_places g s path =
    gives_each _ (spot_of g s.tree path) _ (λ spot.
    gives_each _ (found_number (at_spot s.tree spot)) _ (λ n.
    gives_each _ (refuse_if (not (is_directory s.tree n)) refusal.NotDir) _ (λ _.
    gives_each _ (refuse_if (is_full s.descriptors) refusal.TooManyOpen) _ (λ _.
    gives_ok _ _ (set_places s (first_empty s.descriptors) _)))))

read_dir_places : (s : State) (h : ℕ) → Gives (IsPlaced s) (plan_read_dir s h)
unfolding plan_read_dir
read_dir_places s h = gives_each _ (directory_at s h) _ (λ d. gives_ok _ _ (by_filled d (first_filled d.at (drop d.at (slots_at s.tree d.number)))))
  where
    by_filled : (d : Descriptor) (filled : Option Filled) → IsPlaced s (read_dir_plan s h d filled)
    by_filled d None = refl
    by_filled d (Some filled) = set_places s h _

rewind_places : (s : State) (h : ℕ) → Gives (IsPlaced s) (plan_rewind s h)
unfolding plan_rewind
rewind_places s h = gives_each _ (directory_at s h) _ (λ d. gives_ok _ _ (set_places s h _))

-- ---- files

read_places : (s : State) (h count : ℕ) → Gives (IsPlaced s) (plan_read s h count)
unfolding plan_read
read_places s h count =
    gives_each _ (file_at s h) _ (λ d.
    gives_each _ (refuse_if (not d.read) refusal.BadDescriptor) _ (λ _.
    gives_ok _ _ (by_rest d (drop d.at (content_of (node_at s.tree d.number))) _)))
  where
    by_rest : (d : Descriptor) (rest piece : List ℕ) → IsPlaced s (read_plan s h d rest piece)
    by_rest d [] piece = refl
    by_rest d (byte ∷ rest) piece = set_places s h _

write_places : (g : Request) (s : State) (h : ℕ) (new : List ℕ) → Gives (IsPlaced s) (plan_write g s h new)
unfolding plan_write
write_places g s h new =
    gives_each _ (writable_at s h) _ (λ d.
    gives_each _ (refuse_if (nat_lt (max_size_of g) (write_place s d + length new)) refusal.TooBig) _ (λ _.
    gives_ok _ _ (set_places s h _)))

truncate_places : (g : Request) (s : State) (h size : ℕ) → Gives (IsPlaced s) (plan_truncate g s h size)
unfolding plan_truncate
truncate_places g s h size =
    gives_each _ (writable_at s h) _ (λ d.
    gives_each _ (refuse_if (nat_lt (max_size_of g) size) refusal.TooBig) _ (λ _.
    gives_ok _ _ refl))

-- ---- names

make_dir_at_places : (g : Request) (s : State) (spot : Spot) → Gives (IsPlaced s) (make_dir_at g s spot)
make_dir_at_places g s top = gives_none _ refusal.Exists
make_dir_at_places g s (within d name) = gives_each _ (new_name g s.tree (within d name) (directory [] d)) _ (λ new. gives_ok _ _ refl)

make_dir_places : (g : Request) (s : State) (path : List ℕ) → Gives (IsPlaced s) (plan_make_dir g s path)
unfolding plan_make_dir
make_dir_places g s path =
    gives_each _ (spot_of g s.tree path) _ (λ spot.
    gives_each _ (refuse_if (is_some (at_spot s.tree spot)) refusal.Exists) _ (λ _.
    make_dir_at_places g s spot))

link_at_places : (g : Request) (s : State) (n : ℕ) (spot : Spot) → Gives (IsPlaced s) (link_at g s n spot)
link_at_places g s n top = gives_none _ refusal.Exists
link_at_places g s n (within d name) = gives_each _ (new_slot g s.tree d) _ (λ slot. gives_ok _ _ refl)

link_places : (g : Request) (s : State) (path to : List ℕ) → Gives (IsPlaced s) (plan_link g s path to)
unfolding plan_link
link_places g s path to =
    gives_each _ (two_paths g.name_max path to) _ (λ _.
    gives_each _ (walk s.tree (names_in path)) _ (λ from.
    gives_each _ (or_refuse (at_spot s.tree from) refusal.NoEntry) _ (λ found.
    gives_each _ (refuse_if (is_directory s.tree found.number) refusal.IsDir) _ (λ _.
    gives_each _ (walk s.tree (names_in to)) _ (λ spot.
    gives_each _ (refuse_if (is_some (at_spot s.tree spot)) refusal.Exists) _ (λ _.
    gives_each _ (refuse_if (nat_le 65535 (links_of g s.tree found.number)) refusal.TooManyLinks) _ (λ _.
    link_at_places g s found.number spot)))))))

unlink_at_places : (g : Request) (s : State) (spot : Spot) (found : Found) → IsPlaced s (unlink_at g s spot found)
unlink_at_places g s top found = refl
unlink_at_places g s (within d name) found = refl

unlink_places : (g : Request) (s : State) (path : List ℕ) → Gives (IsPlaced s) (plan_unlink g s path)
unfolding plan_unlink
unlink_places g s path =
    gives_each _ (spot_of g s.tree path) _ (λ spot.
    gives_each _ (or_refuse (at_spot s.tree spot) refusal.NoEntry) _ (λ found.
    gives_each _ (refuse_if (is_directory s.tree found.number) refusal.IsDir) _ (λ _.
    gives_each _ (refuse_if (is_busy g s found.number) refusal.Busy) _ (λ _.
    gives_ok _ _ (unlink_at_places g s spot found)))))

remove_dir_places : (g : Request) (s : State) (path : List ℕ) → Gives (IsPlaced s) (plan_remove_dir g s path)
unfolding plan_remove_dir
remove_dir_places g s path =
    gives_each _ (names_of g.name_max path) _ (λ names.
    gives_each _ (refuse_if (is_top path) refusal.Busy) _ (λ _.
    gives_each _ (walk s.tree names) _ (λ spot.
    gives_each _ (or_refuse (at_spot s.tree spot) refusal.NoEntry) _ (λ found.
    gives_each _ (refuse_if (not (is_directory s.tree found.number)) refusal.NotDir) _ (λ _.
    gives_each _ (refuse_if (not (is_empty (slots_at s.tree found.number))) refusal.NotEmpty) _ (λ _.
    gives_each _ (refuse_if (is_open s.descriptors found.number) refusal.Busy) _ (λ _.
    gives_ok _ _ (unlink_at_places g s spot found))))))))

rename_over_places : (g : Request) (s : State) (from : Spot) (found : Found) (to : Spot) (there : Found) → Gives (IsPlaced s) (rename_over g s from found to there)
rename_over_places g s from found to there =
    gives_each _ (refuse_if (is_directory s.tree found.number && not (is_directory s.tree there.number)) refusal.NotDir) _ (λ _.
    gives_each _ (refuse_if (not (is_directory s.tree found.number) && is_directory s.tree there.number) refusal.IsDir) _ (λ _.
    gives_each _ (refuse_if (is_directory s.tree there.number && not (is_empty (slots_at s.tree there.number))) refusal.NotEmpty) _ (λ _.
    gives_each _ (refuse_if (is_busy g s there.number) refusal.Busy) _ (λ _.
    gives_ok _ _ refl))))

rename_to_places : (g : Request) (s : State) (from : Spot) (found : Found) (to : Spot) (there : Option Found) → Gives (IsPlaced s) (rename_to g s from found to there)
rename_to_places g s from found to (Some there) = gives_either _ (there.number == found.number) _ _ (gives_ok _ _ refl) (rename_over_places g s from found to there)
rename_to_places g s from found to None = gives_each _ (new_slot g s.tree (holder to)) _ (λ slot. gives_ok _ _ refl)

rename_places : (g : Request) (s : State) (path to : List ℕ) → Gives (IsPlaced s) (plan_rename g s path to)
unfolding plan_rename
rename_places g s path to =
    gives_each _ (two_paths g.name_max path to) _ (λ _.
    gives_each _ (refuse_if (is_top path || is_top to) refusal.Busy) _ (λ _.
    gives_each _ (walk s.tree (names_in path)) _ (λ from.
    gives_each _ (or_refuse (at_spot s.tree from) refusal.NoEntry) _ (λ found.
    gives_each _ (walk s.tree (names_in to)) _ (λ spot.
    gives_each _ (refuse_if (is_directory s.tree found.number && is_below s.tree to found.number) refusal.Invalid) _ (λ _.
    rename_to_places g s from found spot (at_spot s.tree spot)))))))

-- ---- all commands

stat_places : (g : Request) (s : State) (path : List ℕ) → Gives (IsPlaced s) (plan_stat g s path)
unfolding plan_stat
stat_places g s path =
    gives_each _ (spot_of g s.tree path) _ (λ spot.
    gives_each _ (found_number (at_spot s.tree spot)) _ (λ n.
    gives_ok _ _ refl))

fstat_places : (g : Request) (s : State) (h : ℕ) → Gives (IsPlaced s) (plan_fstat g s h)
unfolding plan_fstat
fstat_places g s h = gives_each _ (open_at s h) _ (λ d. gives_ok _ _ refl)

set_mask_places : (s : State) (events : ℕ) → Gives (IsPlaced s) (plan_set_mask s events)
unfolding plan_set_mask
set_mask_places s events = gives_each _ (refuse_if (nat_lt greatest_mask events) refusal.Invalid) _ (λ _. gives_ok _ _ refl)

plan_places : (g : Request) (s : State) (c : Asked) → Gives (IsPlaced s) (plan g s c)
plan_places g s (open_file path flags) = open_places g s path flags
plan_places g s (close h) = close_places s h
plan_places g s (read h count) = read_places s h count
plan_places g s (write h new) = write_places g s h new
plan_places g s (fill h count byte) = write_places g s h (replicate count byte)
plan_places g s (seek h to) = seek_places g s h to
plan_places g s (truncate h size) = truncate_places g s h size
plan_places g s (fsync h) = fsync_places s h
plan_places g s (link path to) = link_places g s path to
plan_places g s (unlink path) = unlink_places g s path
plan_places g s (rename path to) = rename_places g s path to
plan_places g s (make_dir path) = make_dir_places g s path
plan_places g s (remove_dir path) = remove_dir_places g s path
plan_places g s (open_dir path) = open_dir_places g s path
plan_places g s (read_dir h) = read_dir_places s h
plan_places g s (rewind h) = rewind_places s h
plan_places g s (stat path) = stat_places g s path
plan_places g s (fstat h) = fstat_places g s h
plan_places g s space = gives_ok _ _ refl
plan_places g s mask = gives_ok _ _ refl
plan_places g s (set_mask events) = set_mask_places s events
plan_places g s transact = gives_ok _ _ refl

pub step_places : (g : Request) (s : State) (c : Asked) → length (step g s c).state.descriptors ≡ length s.descriptors
unfolding step
step_places g s c = each_state g s (plan g s c) (λ z. length z.descriptors ≡ length s.descriptors) (λ z k. k) (λ p was z same k. (plan_places g s c).holds p was) refl
