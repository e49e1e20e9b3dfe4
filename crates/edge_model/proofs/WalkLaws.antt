-- Where walks along paths end.
use Rattle.std.proofs.Common.{◌≡◌, ℕ, not, true, false, List, [], ◌∷◌, Ok, refl, sym, ◌∙◌}
use Rattle.std.proofs.lemmas.Bool.{false≢true}
use Rattle.edge_base.specs.declared.geometry.Request.{Request}
use Rattle.edge_base.specs.declared.refusal.Refusal.TheVariants.{NotDir}
use Rattle.edge_base.specs.commands.Refusals.{refuse_if}
use Rattle.edge_base.specs.commands.Paths.{names_of, names_in}
use Rattle.edge_model.specs.Tree.{Tree, is_directory}
use Rattle.edge_model.specs.Walk.{Spot, top, within, found_number, find_name, walk, walk_from, spot_of, is_top}
use Rattle.edge_model.specs.Names.{holder}
use Rattle.edge_model.proofs.Plans.{Gives, gives_ok, gives_after, gives_each}
use Rattle.edge_model.proofs.Changes.{passes, not_false}

-- a walk that has a name ends in a directory
abbrev pub IsIn : Tree → Spot → Type 0
IsIn t top = ⊥
IsIn t (within d name) = is_directory t d ≡ true

walk_from_ends : (t : Tree) (x : ℕ) (name : List ℕ) (names : List (List ℕ)) → Gives (IsIn t) (walk_from t x name names)
walk_from_ends t x name [] = gives_after _ (refuse_if (not (is_directory t x)) NotDir) _ (λ u kind. gives_ok _ _ (not_false (is_directory t x) (passes _ _ u kind)))
walk_from_ends t x name (next ∷ more) =
    gives_each _ (refuse_if (not (is_directory t x)) NotDir) _ (λ _.
    gives_each _ (found_number (find_name t x name)) _ (λ y.
    walk_from_ends t y next more))

-- a walk ends at the root, or in a directory
abbrev pub IsTopOrIn : Tree → Spot → Type 0
IsTopOrIn t top = Unit {0}
IsTopOrIn t (within d name) = is_directory t d ≡ true

weaker : (t : Tree) (spot : Spot) → IsIn t spot → IsTopOrIn t spot
weaker t top h = tt
weaker t (within d name) h = h

walk_ends : (t : Tree) (names : List (List ℕ)) → Gives (IsTopOrIn t) (walk t names)
walk_ends t [] = gives_ok _ top tt
walk_ends t (name ∷ names) = record { holds = λ spot was. weaker t spot ((walk_from_ends t 2 name names).holds spot was) }

pub in_directory : (g : Request) (t : Tree) (path : List ℕ) (d : ℕ) (name : List ℕ) → spot_of g t path ≡ Ok (within d name) → is_directory t d ≡ true
in_directory g t path d name was = (gives_each (IsTopOrIn t) (names_of g.name_max path) _ (λ names. walk_ends t names)).holds (within d name) was

pub walk_in_directory : (t : Tree) (names : List (List ℕ)) (d : ℕ) (name : List ℕ) → walk t names ≡ Ok (within d name) → is_directory t d ≡ true
walk_in_directory t names d name was = (walk_ends t names).holds (within d name) was

holder_in : (t : Tree) (spot : Spot) → IsIn t spot → is_directory t (holder spot) ≡ true
holder_in t top h = absurd h
holder_in t (within d name) h = h

some_name : (path : List ℕ) (names : List (List ℕ)) → names_in path ≡ names → is_top path ≡ false → names ≡ [] → ⊥
some_name path names is named none = false≢true (sym named ∙ (let empty : names_in path ≡ [] = is ∙ none in rw empty refl))

by_names : (t : Tree) (names : List (List ℕ)) → (names ≡ [] → ⊥) → Gives (IsIn t) (walk t names)
by_names t [] some = absurd (some refl)
by_names t (name ∷ names) some = walk_from_ends t 2 name names

-- the walk along a path that is not `/` alone
pub holder_is_directory : (t : Tree) (path : List ℕ) (spot : Spot) → is_top path ≡ false → walk t (names_in path) ≡ Ok spot → is_directory t (holder spot) ≡ true
holder_is_directory t path spot named was = holder_in t spot ((by_names t (names_in path) (some_name path (names_in path) refl named)).holds spot was)
