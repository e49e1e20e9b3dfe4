-- Walks along paths.
use Rattle.std.specs.Prelude.{ℕ, ◌+◌, not, Bool, true, false, if◌then◌else◌, List, [], ◌∷◌, Option, Some, None, Result, Ok, Err}
use Rattle.std.specs.Str.{bytes_eq}
use Rattle.edge_base.specs.declared.geometry.Request.{Request}
use Rattle.edge_base.specs.declared.refusal.Refusal.{Refusal}
use Rattle.edge_base.specs.declared.refusal.Refusal.TheVariants.{NotDir, NoEntry}
use Rattle.edge_base.specs.commands.Refusals.{◌>>=◌, refuse_if}
use Rattle.edge_base.specs.tree.Slots.{Slots}
use Rattle.edge_base.specs.commands.Paths.{names_of, names_in}
use Rattle.edge_model.specs.Tree.{Tree, is_directory, slots_at}

-- a slot and the number that it names
pub record Found : Type 0 where
  pub slot : ℕ
  pub number : ℕ

-- the slot, counted from i, that has a name
abbrev pub find_from : ℕ → List ℕ → Slots → Option Found
find_from i name [] = None
find_from i name (None ∷ slots) = find_from (i + 1) name slots
find_from i name (Some e ∷ slots) = if bytes_eq e.name name then Some (record { slot = i; number = e.number }) else find_from (i + 1) name slots

abbrev pub find_name : Tree → ℕ → List ℕ → Option Found
find_name t d name = find_from 0 name (slots_at t d)

-- Where a path leads: to the root, or to a name in a directory, which may have no such name.
pub data Spot : Type 0 where
  top : Spot
  within : ℕ → List ℕ → Spot

abbrev pub found_number : Option Found → Result ℕ Refusal
found_number None = Err NoEntry
found_number (Some found) = Ok found.number

-- From node x along a name and the names that follow it, to the directory that should hold the last one.
abbrev pub walk_from : Tree → ℕ → List ℕ → List (List ℕ) → Result Spot Refusal
walk_from t x name [] = do
  _ ← refuse_if (not (is_directory t x)) NotDir
  Ok (within x name)
walk_from t x name (next ∷ more) = do
  _ ← refuse_if (not (is_directory t x)) NotDir
  y ← found_number (find_name t x name)
  walk_from t y next more

abbrev pub walk : Tree → List (List ℕ) → Result Spot Refusal
walk t [] = Ok top
walk t (name ∷ names) = walk_from t 2 name names

-- what is there
abbrev pub at_spot : Tree → Spot → Option Found
at_spot t top = Some (record { slot = 0; number = 2 })
at_spot t (within d name) = find_name t d name

-- the refusals of a path and then of its walk
abbrev pub spot_of : Request → Tree → List ℕ → Result Spot Refusal
spot_of g t path = do
  names ← names_of g.name_max path
  walk t names

-- The directories that a walk goes through, the one that should hold the last name among them.
abbrev pub gone_through : Tree → ℕ → List (List ℕ) → List ℕ
gone_through t x [] = []
gone_through t x (name ∷ []) = x ∷ []
gone_through t x (name ∷ next ∷ more) = x ∷ on_found (find_name t x name) (λ y. gone_through t y (next ∷ more))
  where
    on_found : Option Found → (ℕ → List ℕ) → List ℕ
    on_found None below = []
    on_found (Some found) below = below found.number

-- whether a path is `/` alone
abbrev pub is_top : List ℕ → Bool
is_top path = no_names (names_in path)
  where
    no_names : List (List ℕ) → Bool
    no_names [] = true
    no_names (name ∷ names) = false
