-- The way of a walk, in the words of the tree.
use Rattle.std.specs.Prelude.{ℕ, ◌==◌, Bool, List, Result, Ok, Err}
use Rattle.std.specs.List.{list_any}
use Rattle.edge_base.specs.declared.refusal.Refusal.{Refusal}
use Rattle.edge_model.specs.Tree.{Tree}
use Rattle.edge_model.specs.Walk.{gone_through}
use Rattle.edge_model.specs.Walk as tree
use Rattle.edge_walk.specs.Spots.{spot_in}
use Rattle.edge_walk.specs.declared.walk.Way.{Way}

-- whether node n is one of the directories that a walk goes through, the one that should hold the last name among them
abbrev pub goes_through : Tree → List (List ℕ) → ℕ → Bool
goes_through t names n = list_any (λ d. d == n) (gone_through t 2 names)

-- where a way leads
abbrev pub led_to : Result Way Refusal → Result tree.Spot Refusal
led_to (Ok way) = Ok (spot_in way.spot)
led_to (Err refusal) = Err refusal
