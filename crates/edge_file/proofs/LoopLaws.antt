-- What a loop over a store keeps.
use Rattle.std.proofs.Common.{◌≡◌, ℕ, ◌≤◌, true, List, length, take, refl, sym, ap, ◌∙◌}
use Rattle.std.specs.Prelude.{Result, Ok}
use Rattle.edge_base.specs.outside.Below.{Origin}
use Rattle.edge_store.specs.declared.fault.StoreFault.{StoreFault}
use Rattle.edge_store.specs.Calls.{Called, KeepsPoint, KeepsWorking, KeepsPlacesBut}
use Rattle.edge_store.specs.Placed.{HasPlaces, IsOnce}
use Rattle.edge_store.specs.State.{StoreState, Told, HasInode}
use Rattle.edge_tree.specs.Own.{KeepsHeads}
use Rattle.edge_file.specs.Bytes.{bytes_at}
use Rattle.edge_file.specs.Rewritten.{IsWritten}

-- The calls so far answered Ok: there was no fault, and the last point stays.
pub record GoesOn (old now : StoreState) : Type 0 where
  pub origin : now.origin ≡ old.origin
  pub live : now.live ≡ true
  pub faults : now.faults ≡ old.faults
  pub damage : now.damage ≡ old.damage
  pub guarded : old.guarded → now.guarded
  pub point : KeepsPoint old now

pub goes_first : (s : StoreState) → s.live ≡ true → GoesOn s s
goes_first s live = record {
  origin = refl;
  live = live;
  faults = refl;
  damage = refl;
  guarded = λ p. p;
  point = record { committed = refl; points = refl; under_way = refl };
}

module _ (old now new : StoreState) (goes : GoesOn old now) where
  pub goes_called : {T : Type 0} (result : Result T StoreFault) → Called now new result → Called old new result
  goes_called result called = record {
    origin = called.origin ∙ goes.origin;
    live = called.live;
    cause = rw (goes.faults, goes.damage) at called.cause;
    guarded = λ p. called.guarded (goes.guarded p);
  }

  pub goes_point : KeepsPoint now new → KeepsPoint old new
  goes_point kept = record {
    committed = kept.committed ∙ goes.point.committed;
    points = kept.points ∙ goes.point.points;
    under_way = kept.under_way ∙ goes.point.under_way;
  }

  pub goes_more : {T : Type 0} (x : T) → Called now new (Ok x) → KeepsPoint now new → GoesOn old new
  goes_more x called kept = record {
    origin = called.origin ∙ goes.origin;
    live = called.live;
    faults = called.cause.passed.0 ∙ goes.faults;
    damage = called.cause.passed.1 ∙ goes.damage;
    guarded = λ p. called.guarded (goes.guarded p);
    point = goes_point kept;
  }

pub told_on : (old now : StoreState) → GoesOn old now → Told old → Told now
told_on old now goes told = ap (λ (o : Origin). o.tells) goes.origin ∙ told

pub told_back : (old now : StoreState) → GoesOn old now → Told now → Told old
told_back old now goes told = ap (λ (o : Origin). o.tells) (sym goes.origin) ∙ told

-- Reading has put the first bytes into a list.
pub record ReadSoFar (old now : StoreState) (n at : ℕ) (out : List ℕ) (done : ℕ) : Type 0 where
  pub goes_on : GoesOn old now
  pub working : KeepsWorking old now
  pub low : done ≤ length out
  pub bytes : Told old → take done out ≡ bytes_at old.origin.request old.working n at done

-- The first of some bytes are written.
pub record WrittenSoFar (old now : StoreState) (n at : ℕ) (new : List ℕ) : Type 0 where
  pub goes_on : GoesOn old now
  pub places : KeepsPlacesBut old now n
  pub there : HasInode now n
  pub heads : KeepsHeads old now n
  pub written : Told old → (indices : List ℕ) → HasPlaces old.origin.request old.working n indices → IsOnce old.origin.request old.working n indices
      → IsWritten old.origin.request old.committed old.working now.working n at new indices
