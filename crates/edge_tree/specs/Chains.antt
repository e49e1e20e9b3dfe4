-- How many positions of a chain are not new.
use Rattle.std.specs.Prelude.{◌≡◌, ℕ, ◌+◌, List, slice_index}
use Rattle.edge_base.specs.declared.way.Way.{Way}
use Rattle.edge_base.specs.declared.way.Way.TheVariants as way
use Rattle.edge_base.specs.declared.form.Form.TheVariants.{Double}
use Rattle.edge_store.specs.Placed.{follow, pointer_at}
use Rattle.edge_store.specs.State.{StoreState, Told}
use Rattle.edge_store.specs.View.{View, entries_of_inode}
use Rattle.edge_moves.specs.Renewal.{cost}
use Rattle.edge_moves.specs.Writable.{fresh_on_chain}

abbrev pub IsFreshOnChain : StoreState → ℕ → ℕ → ℕ → Type 0
IsFreshOnChain s n i fresh = Told s → fresh ≡ fresh_on_chain s.origin.request s.committed s.working n i

-- ---- by way

-- what making the blocks on a way new takes
abbrev pub cost_of_way : View → View → List ℕ → Way → ℕ
cost_of_way c v entries (way.Direct entry) = cost c v (slice_index entries entry)
cost_of_way c v entries (way.Single entry place) = cost c v (slice_index entries entry) + cost c v (follow v entries (way.Single entry place))
cost_of_way c v entries (way.Double entry outer place) =
    cost c v (slice_index entries entry) + cost c v (pointer_at v Double (slice_index entries entry) outer)
    + cost c v (follow v entries (way.Double entry outer place))

abbrev pub IsCostOf : StoreState → ℕ → ℕ → Type 0
IsCostOf s b fresh = Told s → fresh ≡ cost s.committed s.working b

abbrev pub IsOnWay : StoreState → ℕ → Way → ℕ → Type 0
IsOnWay s n way b = Told s → b ≡ follow s.working (entries_of_inode (s.working.inodes n)) way

abbrev pub IsCostOfWay : StoreState → ℕ → Way → ℕ → Type 0
IsCostOfWay s n way fresh = Told s → fresh ≡ cost_of_way s.committed s.working (entries_of_inode (s.working.inodes n)) way
