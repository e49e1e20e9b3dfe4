-- Where walks along paths go, in the words of the tree.
use Rattle.std.specs.Prelude.{◌≡◌, ◌≤◌, ℕ, not, List, length, All, Option, Some, None, Result, Ok, Err}
use Rattle.edge_base.specs.commands.Descriptors.{first_empty}
use Rattle.edge_base.specs.commands.Refusals.{◌>>=◌, refuse_if}
use Rattle.edge_base.specs.declared.geometry.Request.{Request}
use Rattle.edge_base.specs.declared.refusal.Refusal.{Refusal}
use Rattle.edge_base.specs.declared.refusal.Refusal.TheVariants.{NotDir}
use Rattle.edge_store.specs.State.{StoreState}
use Rattle.edge_dir.specs.Bounds.{IsFoundWithin}
use Rattle.edge_dir.specs.declared.look.Found as look
use Rattle.edge_dir.specs.declared.look.Place.{Place}
use Rattle.edge_dir.specs.declared.look.Place.TheVariants.{Taken, Free}
use Rattle.edge_model.specs.Tree.{Tree, is_directory, slots_at}
use Rattle.edge_model.specs.Walk.{top, within, found_number, find_name, at_spot, spot_of}
use Rattle.edge_model.specs.Walk as tree
use Rattle.edge_walk.specs.Reached.{IsReached, IsHolder}
use Rattle.edge_walk.specs.declared.spot.Spot.{Spot}
use Rattle.edge_walk.specs.declared.spot.Spot.TheVariants.{Top, Within}

-- ---- spots

abbrev pub spot_in : Spot → tree.Spot
spot_in Top = top
spot_in (Within d name) = within d name.now

abbrev pub spotted : Result Spot Refusal → Result tree.Spot Refusal
spotted (Ok spot) = Ok (spot_in spot)
spotted (Err refusal) = Err refusal

-- the number of a spot with a name is one of a directory
abbrev pub HasHolder : StoreState → Spot → Type 0
HasHolder st Top = Unit {0}
HasHolder st (Within d name) = IsHolder st d

-- no name is longer than the geometry's
abbrev pub AreShort : Request → List (List ℕ) → Type 0
AreShort g names = All (λ name. length name ≤ g.name_max) names

-- so is the name of a spot that has one
abbrev pub HasShortName : Request → Spot → Type 0
HasShortName g Top = Unit {0}
HasShortName g (Within d name) = length name.now ≤ g.name_max

abbrev pub found_in : Option look.Found → Option tree.Found
found_in None = None
found_in (Some found) = Some (record { slot = found.slot; number = found.number })

-- what is found under a name is in a slot that a directory may have
abbrev pub IsFoundAt : Request → Spot → Option look.Found → Type 0
IsFoundAt g Top found = Unit {0}
IsFoundAt g (Within d name) found = IsFoundWithin g found

-- ---- places in a directory

-- the slot that has a name in directory d, and the number that it names, or else the first empty slot
abbrev pub IsPlaceFor : Tree → ℕ → List ℕ → Place → Type 0
IsPlaceFor t d name (Taken found) = find_name t d name ≡ found_in (Some found)
IsPlaceFor t d name (Free slot) = (find_name t d name ≡ None) × (slot ≡ first_empty (slots_at t d))

-- the number of a place that is taken is reached
abbrev pub IsPlaceReached : StoreState → Place → Type 0
IsPlaceReached st (Taken found) = IsReached st found.number
IsPlaceReached st (Free slot) = Unit {0}

-- ---- steps of a walk

-- number d is a directory's, or the walk is refused
abbrev pub enters : Tree → ℕ → Result (Unit {0}) Refusal
enters t d = refuse_if (not (is_directory t d)) NotDir

-- the number that a directory has under a name
abbrev pub number_below : Tree → ℕ → List ℕ → Result ℕ Refusal
number_below t d name = do
  _ ← enters t d
  found_number (find_name t d name)

-- the number that a path leads to
abbrev pub number_at : Request → Tree → List ℕ → Result ℕ Refusal
number_at g t path = do
  spot ← spot_of g t path
  found_number (at_spot t spot)
