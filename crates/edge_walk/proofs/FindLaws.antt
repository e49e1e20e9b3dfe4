-- What a name looked up in a directory tells of the walk. a is the store as the walk came to number d, and b the store as the name is
-- looked up.
use Rattle.std.proofs.Common.{◌≡◌, ◌∙◌, ℕ, List, sym, ap, Option, Some, None}
use Rattle.std.specs.Prelude.{IfSome, Result, Ok}
use Rattle.edge_store.specs.declared.fault.StoreFault.{StoreFault}
use Rattle.edge_store.specs.declared.store.Store.{Ghosts as StoreGhosts}
use Rattle.edge_dir.specs.Bounds.{IsFoundWithin, IsPlaceWithin}
use Rattle.edge_dir.specs.Directory.{IsFoundIn, IsPlaceIn, NeverOnDirectory, OnSlots}
use Rattle.edge_dir.specs.Looked.{SeesName, SeesPlace}
use Rattle.edge_dir.specs.declared.look.Found as look
use Rattle.edge_dir.specs.declared.look.Place.{Place}
use Rattle.edge_dir.specs.declared.look.Place.TheVariants.{Taken, Free}
use Rattle.edge_model.specs.Walk.{found_number, find_name}
use Rattle.edge_volume.specs.Nodes.{OnTree}
use Rattle.edge_volume.specs.Parts.{Looks, IsOfNoDamage}
use Rattle.edge_volume.specs.Stopped.{fault_in}
use Rattle.edge_walk.specs.Reached.{IsReached, IsHolder}
use Rattle.edge_walk.specs.Spots.{IsPlaceReached, enters, found_in, number_below}
use Rattle.edge_walk.proofs.StepLaws.{below_entered}
use Rattle.edge_walk.proofs.StillLaws.{on_tree_before, reached_after}
use Rattle.edge_walk.proofs.TreeLaws.{found_in_tree, reached_by_name, undamaged_in_tree}

-- the number of what is found may be asked for its head afterwards
pub found_reached : {A : Type 0} (S : StoreGhosts A) (b c : A) (d : ℕ) (name : List ℕ) (found : look.Found) → Looks S None b c → IsHolder (S.state b) d
    → IsFoundWithin (S.state b).origin.request (Some found) → SeesName (S.state b) d name (Some found)
    → OnSlots (S.state b) d (λ slots. IsFoundIn slots name (Some found)) → IsReached (S.state c) found.number
found_reached S b c d name found looks holder bounds sees on =
    reached_after S b c looks found.number
    (reached_by_name (S.state b) d name found holder.directory bounds sees (found_in_tree (S.state b) d name (Some found) holder.directory on))

pub each_reached : {A : Type 0} (S : StoreGhosts A) (b c : A) (d : ℕ) (name : List ℕ) (found : Option look.Found) → Looks S None b c → IsHolder (S.state b) d
    → IsFoundWithin (S.state b).origin.request found → SeesName (S.state b) d name found → OnSlots (S.state b) d (λ slots. IsFoundIn slots name found)
    → IfSome found (λ f. IsReached (S.state c) f.number)
each_reached S b c d name None looks holder bounds sees on = tt
each_reached S b c d name (Some found) looks holder bounds sees on = found_reached S b c d name found looks holder bounds sees on

pub place_reached : {A : Type 0} (S : StoreGhosts A) (b c : A) (d : ℕ) (name : List ℕ) (place : Place) → Looks S None b c → IsHolder (S.state b) d
    → IsPlaceWithin (S.state b).origin.request place → SeesPlace (S.state b) d name place → OnSlots (S.state b) d (λ slots. IsPlaceIn slots name place)
    → IsPlaceReached (S.state c) place
place_reached S b c d name (Taken found) looks holder bounds sees on = found_reached S b c d name found looks holder bounds sees on
place_reached S b c d name (Free slot) looks holder bounds sees on = tt

module _ {A : Type 0} (S : StoreGhosts A) (a b : A) (looks : Looks S None a b) (d : ℕ) (holder : IsHolder (S.state b) d) where
  pub finds_undamaged : {T : Type 0} (r : Result T StoreFault) → NeverOnDirectory (S.state b) d r → OnTree (S.state a) (λ t. IsOfNoDamage (fault_in r))
  finds_undamaged r never = on_tree_before S a b looks (λ t. IsOfNoDamage (fault_in r)) (undamaged_in_tree (S.state b) d holder.directory r never)

  pub finds_number : (name : List ℕ) (found : Option look.Found) → OnTree (S.state a) (λ t. Ok tt ≡ enters t d)
      → OnSlots (S.state b) d (λ slots. IsFoundIn slots name found) → OnTree (S.state a) (λ t. found_number (found_in found) ≡ number_below t d name)
  finds_number name found kind on z stands tree =
      let there = found_in_tree (S.state b) d name found holder.directory on in
      ap found_number (sym (on_tree_before S a b looks (λ t. find_name t d name ≡ found_in found) there z stands tree))
      ∙ below_entered z.tree d name (kind z stands tree)
