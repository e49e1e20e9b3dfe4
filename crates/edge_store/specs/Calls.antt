-- What every call of a store does, whatever it is for, and which faults it may answer.
use Rattle.std.specs.Prelude.{◌≡◌, ◌≢◌, ℕ, ◌+◌, is_ok, Option, Some, None, Result, Err, OnOk, OnErr}
use Rattle.edge_base.specs.declared.damage.Damage.{Damage}
use Rattle.edge_base.specs.declared.damage.DamageKind.TheVariants.{Tangled}
use Rattle.edge_base.specs.outside.Faults.{TellsCause}
use Rattle.edge_store.specs.declared.fault.StoreFault.{StoreFault}
use Rattle.edge_store.specs.declared.fault.StoreFault.TheVariants.{Device, Damaged}
use Rattle.edge_store.specs.State.{StoreState, HasDamage}

-- the damage that a fault tells
abbrev pub damage_of : StoreFault → Option Damage
damage_of Device = None
damage_of (Damaged damage) = Some damage

-- Each call that can fail: what the store was made with stays, a fault ends the store and has its cause, and what was promised of a
-- cut stays promised.
pub record Called {T : Type 0} (old new : StoreState) (result : Result T StoreFault) : Type 0 where
  pub origin : new.origin ≡ old.origin
  pub live : new.live ≡ is_ok result
  pub cause : TellsCause damage_of result old.faults new.faults old.damage new.damage
  pub guarded : old.guarded → new.guarded

-- The last point stays, and none is under way that was not. Each call but `transact` does so.
pub record KeepsPoint (old new : StoreState) : Type 0 where
  pub committed : new.committed ≡ old.committed
  pub points : new.points ≡ old.points
  pub under_way : new.under_way ≡ old.under_way

-- The working view stays, and so do the places of its inodes.
pub record KeepsWorking (old new : StoreState) : Type 0 where
  pub working : new.working ≡ old.working
  pub places : new.places ≡ old.places

-- Each inode keeps its place.
abbrev pub KeepsPlaces : StoreState → StoreState → Type 0
KeepsPlaces old new = new.places ≡ old.places

-- Each inode but that of number n keeps its place.
abbrev pub KeepsPlacesBut : StoreState → StoreState → ℕ → Type 0
KeepsPlacesBut old new n = (k : ℕ) → k ≢ n → new.places k ≡ old.places k

-- the same of a number that was found, or of none
abbrev pub KeepsPlacesButFound : StoreState → StoreState → Option ℕ → Type 0
KeepsPlacesButFound old new (Some n) = KeepsPlacesBut old new n
KeepsPlacesButFound old new None = KeepsPlaces old new

-- a call that only reads
abbrev pub Reads : {T : Type 0} → StoreState → StoreState → Result T StoreFault → Type 0
Reads old new result = OnOk result (KeepsWorking old new)

-- A point that was taken makes the working view the committed one. One that a fault cut short leaves the committed view, and the working
-- one as it began is under way.
pub record TakesPoint {T : Type 0} (old new : StoreState) (result : Result T StoreFault) : Type 0 where
  pub committed : OnOk result (new.committed ≡ old.working)
  pub points : OnOk result (new.points ≡ old.points + 1)
  pub working : OnOk result (KeepsWorking old new)
  pub none_under_way : OnOk result (new.under_way ≡ old.under_way)
  pub failed_committed : OnErr result (new.committed ≡ old.committed)
  pub failed_points : OnErr result (new.points ≡ old.points)
  pub failed_under_way : OnErr result (new.under_way ≡ Some old.working)

-- ---- damage

-- What a call names has this damage, or none: Ok comes where it has none, and a fault that tells damage tells this one. Then the working
-- view stays.
pub record Meets {T : Type 0} (met : Option Damage) (old new : StoreState) (result : Result T StoreFault) : Type 0 where
  pub none : OnOk result (met ≡ None)
  pub that : (damage : Damage) → result ≡ Err (Damaged damage) → met ≡ Some damage
  pub keeps : (damage : Damage) → result ≡ Err (Damaged damage) → KeepsWorking old new

-- no damage is told
abbrev pub NeverDamaged : {T : Type 0} → Result T StoreFault → Type 0
NeverDamaged result = (damage : Damage) → result ≡ Err (Damaged damage) → ⊥

-- A call of a layer above tells no damage but what is there, in the store as the call leaves it.
abbrev pub TellsDamage : {T : Type 0} → StoreState → Result T StoreFault → Type 0
TellsDamage new result = (damage : Damage) → result ≡ Err (Damaged damage) → HasDamage new damage

-- A call that changes nothing tells no tangled node.
abbrev pub TellsNoTangle : {T : Type 0} → Result T StoreFault → Type 0
TellsNoTangle result = (damage : Damage) → result ≡ Err (Damaged damage) → damage.kind ≢ Tangled
