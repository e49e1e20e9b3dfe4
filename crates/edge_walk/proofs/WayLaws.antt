-- How a walk goes on from a store to the same store after some reading. a is the store as the walk began and b the store at its present step,
-- at which it has come to number d and a name, with these names left.
use Rattle.std.proofs.Common.{◌≡◌, ◌∙◌, ℕ, List, [], ◌∷◌, sym, ap, None}
use Rattle.std.specs.Prelude.{Ok, Err}
use Rattle.edge_store.specs.declared.store.Store.{Ghosts as StoreGhosts}
use Rattle.edge_model.specs.Walk.{within, walk, walk_from}
use Rattle.edge_volume.specs.declared.stop.Stop.{Stop}
use Rattle.edge_volume.specs.declared.stop.Stop.TheVariants.{Refused, Fault}
use Rattle.edge_volume.specs.Nodes.{OnTree}
use Rattle.edge_volume.specs.Parts.{Looks}
use Rattle.edge_volume.specs.Stopped.{IfAnswered}
use Rattle.edge_walk.specs.Spots.{enters, number_below, spotted}
use Rattle.edge_walk.specs.declared.spot.Spot.{Spot}
use Rattle.edge_walk.proofs.StepLaws.{walk_goes_on, walk_stops, walk_ends, walk_ends_at_file}
use Rattle.edge_walk.proofs.StillLaws.{on_tree_before}

module _ {A : Type 0} (S : StoreGhosts A) (a b : A) (looks : Looks S None a b) (d : ℕ) (name : List ℕ) (names left : List (List ℕ))
    (walks : OnTree (S.state a) (λ t. walk t names ≡ walk_from t d name left)) where
  pub steps_on : (y : ℕ) (next : List ℕ) (more : List (List ℕ)) → left ≡ next ∷ more → OnTree (S.state b) (λ t. Ok y ≡ number_below t d name)
      → OnTree (S.state a) (λ t. walk t names ≡ walk_from t y next more)
  steps_on y next more is number z stands tree =
      walks z stands tree ∙ ap (walk_from z.tree d name) is
      ∙ walk_goes_on z.tree d name y next more (on_tree_before S a b looks (λ t. Ok y ≡ number_below t d name) number z stands tree)

  pub stops_below : (stop : Stop) (next : List ℕ) (more : List (List ℕ)) → left ≡ next ∷ more
      → IfAnswered {T = ℕ} (Err stop) (λ r. OnTree (S.state b) (λ t. r ≡ number_below t d name))
      → IfAnswered {T = Spot} (Err stop) (λ r. OnTree (S.state a) (λ t. spotted r ≡ walk t names))
  stops_below (Refused e) next more is number = λ z stands tree.
      sym (walks z stands tree ∙ ap (walk_from z.tree d name) is
      ∙ walk_stops z.tree d name e next more (on_tree_before S a b looks (λ t. Err e ≡ number_below t d name) number z stands tree))
  stops_below (Fault fault) next more is number = tt

  pub ends_in : left ≡ [] → OnTree (S.state b) (λ t. Ok tt ≡ enters t d) → OnTree (S.state a) (λ t. Ok (within d name) ≡ walk t names)
  ends_in is kind z stands tree =
      sym (walks z stands tree ∙ ap (walk_from z.tree d name) is
      ∙ walk_ends z.tree d name (on_tree_before S a b looks (λ t. Ok tt ≡ enters t d) kind z stands tree))

  pub stops_at_end : (stop : Stop) → left ≡ [] → IfAnswered {T = Unit {0}} (Err stop) (λ r. OnTree (S.state b) (λ t. r ≡ enters t d))
      → IfAnswered {T = Spot} (Err stop) (λ r. OnTree (S.state a) (λ t. spotted r ≡ walk t names))
  stops_at_end (Refused e) is kind = λ z stands tree.
      sym (walks z stands tree ∙ ap (walk_from z.tree d name) is
      ∙ walk_ends_at_file z.tree d name e (on_tree_before S a b looks (λ t. Err e ≡ enters t d) kind z stands tree))
  stops_at_end (Fault fault) is kind = tt
