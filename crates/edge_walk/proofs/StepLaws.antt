-- The steps of a walk, in the words of the tree.
use Rattle.std.proofs.Common.{◌≡◌, ◌∙◌, ℕ, not, Bool, true, false, List, [], ◌∷◌, refl, sym, ap, Option, Some}
use Rattle.std.specs.Prelude.{Result, Ok, Err}
use Rattle.edge_base.specs.commands.Refusals.{◌>>=◌, refuse_if}
use Rattle.edge_base.specs.declared.geometry.Request.{Request}
use Rattle.edge_base.specs.declared.node.Head.{Head}
use Rattle.edge_base.specs.declared.node.NodeType.TheVariants.{File, Directory}
use Rattle.edge_base.specs.declared.refusal.Refusal.{Refusal}
use Rattle.edge_base.specs.declared.refusal.Refusal.TheVariants.{NotDir}
use Rattle.edge_model.specs.Tree.{Tree, is_directory}
use Rattle.edge_model.specs.Walk.{Spot, Found, within, found_number, find_name, at_spot, spot_of, walk_from}
use Rattle.edge_steps.proofs.NodeLaws.{is_a_directory, is_a_file}
use Rattle.edge_volume.specs.Nodes.{head_at}
use Rattle.edge_walk.specs.Spots.{enters, number_below, number_at}
use Rattle.edge_walk.proofs.TreeLaws.{directory_of, file_of}

-- a number is entered by the kind of its head
module _ (g : Request) (t : Tree) (d : ℕ) (head : Head) (is : Some head ≡ head_at g t d) where
  pub enters_directory : head.kind ≡ Directory → Ok tt ≡ enters t d
  enters_directory kind =
      let r = directory_of g t d head is kind in
      ap (λ (b : Bool). refuse_if (not b) NotDir) (sym (is_a_directory t d r.0 r.1 r.2))

  pub enters_file : head.kind ≡ File → Err NotDir ≡ enters t d
  enters_file kind =
      let r = file_of g t d head is kind in
      ap (λ (b : Bool). refuse_if (not b) NotDir) (sym (is_a_file t d r.0 r.1 r.2))

module _ (t : Tree) (d : ℕ) (name : List ℕ) where
  -- ---- one step

  pub below_refused : (e : Refusal) → Err e ≡ enters t d → Err e ≡ number_below t d name
  below_refused e is = ap (λ (r : Result (Unit {0}) Refusal). r >>= λ _. found_number (find_name t d name)) is

  pub below_entered : Ok tt ≡ enters t d → found_number (find_name t d name) ≡ number_below t d name
  below_entered is = ap (λ (r : Result (Unit {0}) Refusal). r >>= λ _. found_number (find_name t d name)) is

  -- ---- a walk and its next step

  walk_more : (next : List ℕ) (more : List (List ℕ)) → walk_from t d name (next ∷ more) ≡ (number_below t d name >>= λ y. walk_from t y next more)
  walk_more next more = by (is_directory t d) (find_name t d name)
    where
      by : (b : Bool) (o : Option Found)
          → (refuse_if (not b) NotDir >>= λ _. found_number o >>= λ y. walk_from t y next more)
          ≡ ((refuse_if (not b) NotDir >>= λ _. found_number o) >>= λ y. walk_from t y next more)
      by true o = refl
      by false o = refl

  pub walk_goes_on : (y : ℕ) (next : List ℕ) (more : List (List ℕ)) → Ok y ≡ number_below t d name → walk_from t d name (next ∷ more) ≡ walk_from t y next more
  walk_goes_on y next more is = walk_more next more ∙ ap (λ (r : Result ℕ Refusal). r >>= λ y. walk_from t y next more) (sym is)

  pub walk_stops : (e : Refusal) (next : List ℕ) (more : List (List ℕ)) → Err e ≡ number_below t d name → walk_from t d name (next ∷ more) ≡ Err e
  walk_stops e next more is = walk_more next more ∙ ap (λ (r : Result ℕ Refusal). r >>= λ y. walk_from t y next more) (sym is)

  pub walk_ends : Ok tt ≡ enters t d → walk_from t d name [] ≡ Ok (within d name)
  walk_ends is = ap (λ (r : Result (Unit {0}) Refusal). r >>= λ _. Ok (within d name)) (sym is)

  pub walk_ends_at_file : (e : Refusal) → Err e ≡ enters t d → walk_from t d name [] ≡ Err e
  walk_ends_at_file e is = ap (λ (r : Result (Unit {0}) Refusal). r >>= λ _. Ok (within d name)) (sym is)

-- ---- a path

-- what follows the number that a path leads to
pub after_number : {B : Type 0} (g : Request) (t : Tree) (path : List ℕ) (then : ℕ → Result B Refusal)
    → (spot_of g t path >>= λ spot. found_number (at_spot t spot) >>= then) ≡ (number_at g t path >>= then)
after_number {B} g t path then = by (spot_of g t path)
  where
    by : (r : Result Spot Refusal) → (r >>= λ spot. found_number (at_spot t spot) >>= then) ≡ ((r >>= λ spot. found_number (at_spot t spot)) >>= then)
    by (Ok spot) = refl
    by (Err e) = refl

module _ (g : Request) (t : Tree) (path : List ℕ) where
  pub number_refused : (e : Refusal) → Err e ≡ spot_of g t path → Err e ≡ number_at g t path
  number_refused e is = ap (λ (r : Result Spot Refusal). r >>= λ spot. found_number (at_spot t spot)) is

  pub number_of_spot : (spot : Spot) (found : Option Found) → Ok spot ≡ spot_of g t path → found ≡ at_spot t spot → found_number found ≡ number_at g t path
  number_of_spot spot found is there =
      ap found_number there ∙ ap (λ (r : Result Spot Refusal). r >>= λ spot. found_number (at_spot t spot)) is
