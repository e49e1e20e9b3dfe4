-- Whether a walk goes through a number. a is the store as the walk began and b the store at its present step, at which it has come to number d
-- and a name, with these names left, and has told of the numbers before d.
use Rattle.std.proofs.Common.{◌≡◌, ◌∙◌, ℕ, ◌==◌, ◌||◌, not, Bool, true, false, List, [], ◌∷◌, refl, sym, ap, Option, Some, None}
use Rattle.std.specs.List.{list_any}
use Rattle.std.specs.Prelude.{Ok, Err}
use Rattle.edge_base.specs.commands.Refusals.{◌>>=◌, refuse_if}
use Rattle.edge_base.specs.declared.refusal.Refusal.TheVariants.{NotDir}
use Rattle.edge_store.specs.State.{StoreState}
use Rattle.edge_store.specs.declared.store.Store.{Ghosts as StoreGhosts}
use Rattle.edge_model.specs.Tree.{Tree, is_directory}
use Rattle.edge_model.specs.Walk.{Found, find_name, found_number, gone_through, walk}
use Rattle.edge_volume.specs.declared.stop.Stop.{Stop}
use Rattle.edge_volume.specs.declared.stop.Stop.TheVariants.{Refused, Fault}
use Rattle.edge_volume.specs.Nodes.{OnTree}
use Rattle.edge_volume.specs.Parts.{Looks}
use Rattle.edge_volume.specs.Stopped.{IfAnswered}
use Rattle.edge_walk.specs.Spots.{number_below, spotted}
use Rattle.edge_walk.specs.Ways.{goes_through, led_to}
use Rattle.edge_walk.specs.declared.spot.Spot.{Spot}
use Rattle.edge_walk.specs.declared.walk.Way.{Way}
use Rattle.edge_walk.proofs.StillLaws.{on_tree_before}

-- whether n is among the directories that a walk goes through from x on
abbrev pub goes_from : Tree → ℕ → List (List ℕ) → ℕ → Bool
goes_from t x names n = list_any (λ d. d == n) (gone_through t x names)

or_none : (a : Bool) → (a || false) ≡ a
or_none true = refl
or_none false = refl

or_three : (a b c : Bool) → (a || (b || c)) ≡ ((a || b) || c)
or_three true b c = refl
or_three false b c = refl

-- an or, by its first part
pub or_then : (a b r : Bool) → a ≡ true → r ≡ true → r ≡ (a || b)
or_then a b r is same = same ∙ ap (λ (x : Bool). x || b) (sym is)

pub or_else : (a b r : Bool) → a ≡ false → r ≡ b → r ≡ (a || b)
or_else a b r is same = same ∙ ap (λ (x : Bool). x || b) (sym is)

-- the number under a name is that of what is found there
found_below : (t : Tree) (d : ℕ) (name : List ℕ) (y : ℕ) → Ok y ≡ number_below t d name → (found : Found) × (find_name t d name ≡ Some found) × (found.number ≡ y)
found_below t d name y is = by (is_directory t d) (find_name t d name) refl is
  where
    by : (b : Bool) (o : Option Found) → find_name t d name ≡ o → Ok y ≡ (refuse_if (not b) NotDir >>= λ _. found_number o)
        → (found : Found) × (find_name t d name ≡ Some found) × (found.number ≡ y)
    by true None e h = absurd (cc)
    by true (Some found) e h = (found, e, cc)
    by false o e h = absurd (cc)

-- the first directory, and those from the next on
goes_past : (t : Tree) (d : ℕ) (name : List ℕ) (n y : ℕ) (next : List ℕ) (more : List (List ℕ)) → Ok y ≡ number_below t d name
    → goes_from t d (name ∷ next ∷ more) n ≡ ((d == n) || goes_from t y (next ∷ more) n)
goes_past t d name n y next more is =
    let f = found_below t d name y is in
    rw f.1 (ap (λ (x : ℕ). (d == n) || goes_from t x (next ∷ more) n) f.2)

-- a refusal of a spot is one of a way
pub stops_way : (a : StoreState) (names : List (List ℕ)) (stop : Stop) → IfAnswered {T = Spot} (Err stop) (λ r. OnTree a (λ t. spotted r ≡ walk t names))
    → IfAnswered {T = Way} (Err stop) (λ r. OnTree a (λ t. led_to r ≡ walk t names))
stops_way a names (Refused e) is = is
stops_way a names (Fault fault) is = is

module _ {A : Type 0} (S : StoreGhosts A) (a b : A) (looks : Looks S None a b) (d n : ℕ) (name : List ℕ) (names left : List (List ℕ)) (through : Bool)
    (goes : OnTree (S.state a) (λ t. goes_through t names n ≡ (through || goes_from t d (name ∷ left) n))) where
  pub goes_on : (y : ℕ) (next : List ℕ) (more : List (List ℕ)) (so_far : Bool) → so_far ≡ (through || (d == n)) → left ≡ next ∷ more → OnTree (S.state b) (λ t. Ok y ≡ number_below t d name)
      → OnTree (S.state a) (λ t. goes_through t names n ≡ (so_far || goes_from t y (next ∷ more) n))
  goes_on y next more so_far is_so is number z stands tree =
      goes z stands tree ∙ ap (λ (l : List (List ℕ)). through || goes_from z.tree d (name ∷ l) n) is
      ∙ ap (λ (b : Bool). through || b)
      (goes_past z.tree d name n y next more (on_tree_before S a b looks (λ t. Ok y ≡ number_below t d name) number z stands tree))
      ∙ or_three through (d == n) (goes_from z.tree y (next ∷ more) n)
      ∙ ap (λ (b : Bool). b || goes_from z.tree y (next ∷ more) n) (sym is_so)

  pub goes_in : (all : Bool) → all ≡ (through || (d == n)) → left ≡ [] → OnTree (S.state a) (λ t. all ≡ goes_through t names n)
  goes_in all is_all is z stands tree =
      is_all ∙ sym (goes z stands tree ∙ ap (λ (l : List (List ℕ)). through || goes_from z.tree d (name ∷ l) n) is ∙ ap (λ (b : Bool). through || b) (or_none (d == n)))
