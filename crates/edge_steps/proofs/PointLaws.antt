-- What a command does is the same after a point.
use Rattle.std.proofs.Common.{◌≡◌, ◌≢◌, ℕ, ◌&&◌, ◌||◌, not, Bool, true, false, List, [], ◌∷◌, take, drop, nat_le, is_some, Option, Some, None, Ok, refl}
use Rattle.edge_base.specs.declared.geometry.Request.{Request}
use Rattle.edge_base.specs.declared.refusal.Refusal.TheVariants as refusal
use Rattle.edge_base.specs.commands.Descriptors.{Descriptor, is_full, is_open}
use Rattle.edge_base.specs.commands.Paths.{names_of, names_in, two_paths}
use Rattle.edge_base.specs.commands.Refusals.{◌>>=◌, refuse_if, or_refuse}
use Rattle.edge_model.specs.declared.command.OpenFlags.{OpenFlags}
use Rattle.edge_model.specs.Asked.{Asked, open_file, close, read, write, fill, seek, truncate, fsync, link, unlink, rename, make_dir, remove_dir, open_dir, read_dir, rewind, stat, fstat, space, mask, set_mask, transact}
use Rattle.edge_model.specs.Files.{content_of, read_plan, plan_read, plan_write, plan_truncate}
use Rattle.edge_model.specs.Names.{is_empty, is_busy, is_below, make_dir_at, link_at, unlink_at, rename_to, plan_make_dir, plan_link, plan_unlink, plan_remove_dir, plan_rename}
use Rattle.edge_model.specs.Open.{Filled, file_at, directory_at, are_bad_flags, open_plan, open_there, open_spot, first_filled, read_dir_plan, plan_open, plan_close, plan_seek, plan_fsync, plan_open_dir, plan_read_dir, plan_rewind}
use Rattle.edge_model.specs.State.{State, point_taken}
use Rattle.edge_model.specs.Step.{plan, plan_stat, plan_fstat, plan_set_mask}
use Rattle.edge_model.specs.Tree.{node_at, is_directory, links_of, slots_at}
use Rattle.edge_model.specs.Walk.{Spot, top, within, Found, at_spot, spot_of, walk, is_top}

module _ (g : Request) (s : State) where
  -- ---- the parts that go by cases

  open_plan_same : (truncates : Bool) (flags : OpenFlags) (n : ℕ) → open_plan truncates g (point_taken s) flags n ≡ open_plan truncates g s flags n
  open_plan_same true flags n = refl
  open_plan_same false flags n = refl

  open_there_same : (flags : OpenFlags) (n : ℕ) → open_there g (point_taken s) flags n ≡ open_there g s flags n
  open_there_same flags n = λ i.
      refuse_if flags.exclusive refusal.Exists >>= λ _. refuse_if (is_directory s.tree n) refusal.IsDir >>= λ _. refuse_if (is_full s.descriptors) refusal.TooManyOpen >>= λ _.
      Ok (open_plan_same flags.truncate flags n i)

  open_spot_same : (flags : OpenFlags) (spot : Spot) (found : Option Found) → open_spot g (point_taken s) flags spot found ≡ open_spot g s flags spot found
  open_spot_same flags spot None = refl
  open_spot_same flags spot (Some found) = open_there_same flags found.number

  read_plan_same : (h : ℕ) (d : Descriptor) (left piece : List ℕ) → read_plan (point_taken s) h d left piece ≡ read_plan s h d left piece
  read_plan_same h d [] piece = refl
  read_plan_same h d (byte ∷ rest) piece = refl

  read_dir_same : (h : ℕ) (d : Descriptor) (filled : Option Filled) → read_dir_plan (point_taken s) h d filled ≡ read_dir_plan s h d filled
  read_dir_same h d None = refl
  read_dir_same h d (Some filled) = refl

  make_dir_same : (spot : Spot) → make_dir_at g (point_taken s) spot ≡ make_dir_at g s spot
  make_dir_same top = refl
  make_dir_same (within d name) = refl

  link_same : (n : ℕ) (spot : Spot) → link_at g (point_taken s) n spot ≡ link_at g s n spot
  link_same n top = refl
  link_same n (within d name) = refl

  unlink_same : (spot : Spot) (found : Found) → unlink_at g (point_taken s) spot found ≡ unlink_at g s spot found
  unlink_same top found = refl
  unlink_same (within d name) found = refl

  rename_to_same : (from : Spot) (found : Found) (to : Spot) (there : Option Found) → rename_to g (point_taken s) from found to there ≡ rename_to g s from found to there
  rename_to_same from found to None = refl
  rename_to_same from found to (Some there) = refl

  -- ---- the commands

  open_same : (path : List ℕ) (flags : OpenFlags) → plan_open g (point_taken s) path flags ≡ plan_open g s path flags
  unfolding plan_open
  open_same path flags = λ i. refuse_if (are_bad_flags flags) refusal.Invalid >>= λ _. spot_of g s.tree path >>= λ spot. open_spot_same flags spot (at_spot s.tree spot) i

  read_same : (h count : ℕ) → plan_read (point_taken s) h count ≡ plan_read s h count
  unfolding plan_read
  read_same h count = λ i. file_at s h >>= λ d. refuse_if (not d.read) refusal.BadDescriptor >>= λ _.
      Ok (read_plan_same h d (drop d.at (content_of (node_at s.tree d.number))) (take count (drop d.at (content_of (node_at s.tree d.number)))) i)

  read_dir_plan_same : (h : ℕ) → plan_read_dir (point_taken s) h ≡ plan_read_dir s h
  unfolding plan_read_dir
  read_dir_plan_same h = λ i. directory_at s h >>= λ d. Ok (read_dir_same h d (first_filled d.at (drop d.at (slots_at s.tree d.number))) i)

  make_same : (path : List ℕ) → plan_make_dir g (point_taken s) path ≡ plan_make_dir g s path
  unfolding plan_make_dir
  make_same path = λ i. spot_of g s.tree path >>= λ spot. refuse_if (is_some (at_spot s.tree spot)) refusal.Exists >>= λ _. make_dir_same spot i

  link_plan_same : (path to : List ℕ) → plan_link g (point_taken s) path to ≡ plan_link g s path to
  unfolding plan_link
  link_plan_same path to = λ i.
      two_paths g.name_max path to >>= λ _. walk s.tree (names_in path) >>= λ from. or_refuse (at_spot s.tree from) refusal.NoEntry >>= λ found.
      refuse_if (is_directory s.tree found.number) refusal.IsDir >>= λ _. walk s.tree (names_in to) >>= λ spot. refuse_if (is_some (at_spot s.tree spot)) refusal.Exists >>= λ _.
      refuse_if (nat_le 65535 (links_of g s.tree found.number)) refusal.TooManyLinks >>= λ _. link_same found.number spot i

  unlink_plan_same : (path : List ℕ) → plan_unlink g (point_taken s) path ≡ plan_unlink g s path
  unfolding plan_unlink
  unlink_plan_same path = λ i. spot_of g s.tree path >>= λ spot. or_refuse (at_spot s.tree spot) refusal.NoEntry >>= λ found. refuse_if (is_directory s.tree found.number) refusal.IsDir >>= λ _.
      refuse_if (is_busy g s found.number) refusal.Busy >>= λ _. Ok (unlink_same spot found i)

  remove_same : (path : List ℕ) → plan_remove_dir g (point_taken s) path ≡ plan_remove_dir g s path
  unfolding plan_remove_dir
  remove_same path = λ i.
      names_of g.name_max path >>= λ names. refuse_if (is_top path) refusal.Busy >>= λ _. walk s.tree names >>= λ spot. or_refuse (at_spot s.tree spot) refusal.NoEntry >>= λ found.
      refuse_if (not (is_directory s.tree found.number)) refusal.NotDir >>= λ _. refuse_if (not (is_empty (slots_at s.tree found.number))) refusal.NotEmpty >>= λ _.
      refuse_if (is_open s.descriptors found.number) refusal.Busy >>= λ _. Ok (unlink_same spot found i)

  rename_same_plan : (path to : List ℕ) → plan_rename g (point_taken s) path to ≡ plan_rename g s path to
  unfolding plan_rename
  rename_same_plan path to = λ i.
      two_paths g.name_max path to >>= λ _. refuse_if (is_top path || is_top to) refusal.Busy >>= λ _. walk s.tree (names_in path) >>= λ from. or_refuse (at_spot s.tree from) refusal.NoEntry >>= λ found.
      walk s.tree (names_in to) >>= λ spot. refuse_if (is_directory s.tree found.number && is_below s.tree to found.number) refusal.Invalid >>= λ _.
      rename_to_same from found spot (at_spot s.tree spot) i

-- all but `space` look at the tree, the descriptors and the mask alone
pub same_plan : (g : Request) (s : State) (command : Asked) → command ≢ space → plan g (point_taken s) command ≡ plan g s command
unfolding plan_write plan_truncate plan_close plan_seek plan_fsync plan_open_dir plan_rewind plan_stat plan_fstat plan_set_mask
same_plan g s (open_file path flags) other = open_same g s path flags
same_plan g s (close h) other = refl
same_plan g s (read h count) other = read_same g s h count
same_plan g s (write h new) other = refl
same_plan g s (fill h count byte) other = refl
same_plan g s (seek h to) other = refl
same_plan g s (truncate h size) other = refl
same_plan g s (fsync h) other = refl
same_plan g s (link path to) other = link_plan_same g s path to
same_plan g s (unlink path) other = unlink_plan_same g s path
same_plan g s (rename path to) other = rename_same_plan g s path to
same_plan g s (make_dir path) other = make_same g s path
same_plan g s (remove_dir path) other = remove_same g s path
same_plan g s (open_dir path) other = refl
same_plan g s (read_dir h) other = read_dir_plan_same g s h
same_plan g s (rewind h) other = refl
same_plan g s (stat path) other = refl
same_plan g s (fstat h) other = refl
same_plan g s space other = absurd (other refl)
same_plan g s mask other = refl
same_plan g s (set_mask events) other = refl
same_plan g s transact other = refl
