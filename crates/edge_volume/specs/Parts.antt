-- What a part of a command does to a store, with the fault that ended it, if there was one. old and new are the store as the part begins
-- and after it.
use Rattle.std.specs.Prelude.{◌≡◌, ◌≤◌, ℕ, ◌+◌, ◌-◌, ◌∷◌, is_none, is_some, List, length, Option, Some, None}
use Rattle.edge_base.specs.outside.Below.{SameBelow}
use Rattle.edge_base.specs.outside.Faults.{Because}
use Rattle.edge_base.specs.declared.damage.Damage.{Damage}
use Rattle.edge_base.specs.declared.geometry.Request.{Request}
use Rattle.edge_store.specs.declared.fault.StoreFault.{StoreFault}
use Rattle.edge_store.specs.declared.fault.StoreFault.TheVariants.{Damaged}
use Rattle.edge_store.specs.declared.store.Store.{Ghosts as StoreGhosts}
use Rattle.edge_store.specs.Calls.{KeepsPoint, KeepsWorking, damage_of}
use Rattle.edge_store.specs.State.{StoreState, Told, HasDamage}
use Rattle.edge_store.specs.View.{View}
use Rattle.edge_model.specs.Asking.{IsAt}
use Rattle.edge_model.specs.State.{State}
use Rattle.edge_model.specs.Tree.{Tree}
use Rattle.edge_image.specs.Opens.{StandsFor}
use Rattle.edge_volume.specs.Volume.{StoreStands}

-- ---- what holds of every store

-- the count of faults and the damage where no fault ended the part, and where one did
abbrev pub CauseOf : Option StoreFault → StoreState → StoreState → Type 0
CauseOf None old new = (new.faults ≡ old.faults) × (new.damage ≡ old.damage)
CauseOf (Some fault) old new = Because old.faults new.faults old.damage new.damage (damage_of fault)

-- What the store was made with stays, a fault ends it and has its cause, damage that is told is there, and what was promised of a cut stays
-- promised.
pub record EndsBy (fault : Option StoreFault) (old new : StoreState) : Type 0 where
  pub origin : new.origin ≡ old.origin
  pub live : new.live ≡ is_none fault
  pub later : old.faults ≤ new.faults
  pub cause : CauseOf fault old new
  pub there : (damage : Damage) → fault ≡ Some (Damaged damage) → Told old → HasDamage new damage
  pub guarded : old.guarded → new.guarded

-- Points were taken, at most so many.
pub record TakesUpTo (most : ℕ) (old new : StoreState) : Type 0 where
  pub never_falls : old.points ≤ new.points
  pub at_most : new.points ≤ old.points + most

-- Where no change waits to be written to the disk below, no candidate of it changes, and without a fault none waits afterwards.
pub record KeepsBelow {A : Type 0} (S : StoreGhosts A) (fault : Option StoreFault) (old new : A) : Type 0 where
  pub candidates : S.is_clean old → SameBelow (S.may_hold old) (S.may_hold new) (S.is_sure old) (S.is_sure new)
  pub clean : S.is_clean old → fault ≡ None → S.is_clean new

-- The part only reads: no point is taken, and without a fault the views stay.
pub record Looks {A : Type 0} (S : StoreGhosts A) (fault : Option StoreFault) (old new : A) : Type 0 where
  pub ends : EndsBy fault (S.state old) (S.state new)
  pub point : KeepsPoint (S.state old) (S.state new)
  pub reads : fault ≡ None → KeepsWorking (S.state old) (S.state new)
  pub below : KeepsBelow S fault old new

-- ---- what holds where the store stands for the state of a session

abbrev pub IsOfNoDamage : Option StoreFault → Type 0
IsOfNoDamage fault = (damage : Damage) → fault ≡ Some (Damaged damage) → ⊥

-- there is a view, and it stands for the tree
abbrev pub StandsSome : Request → Option View → Tree → Type 0
StandsSome g (Some v) t = StandsFor g v t
StandsSome g None t = ⊥

-- Of trees in order the last point was of the j-th; where a fault cut a point short, that was of the next.
abbrev pub IsAmong : StoreState → List Tree → ℕ → Type 0
IsAmong st trees j = IsAt (StandsFor st.origin.request st.committed) (StandsSome st.origin.request st.under_way) (is_some st.under_way) trees j

-- A part leads from state s to state r, and takes points of these trees on its way. Where a fault ended it, some of them were taken.
pub record Comes (fault : Option StoreFault) (old new : StoreState) (s r : State) (points : List Tree) : Type 0 where
  pub undamaged : IsOfNoDamage fault
  pub to_state : fault ≡ None → StoreStands new r
  pub by_points : fault ≡ None → new.points ≡ old.points + length points
  pub never_falls : old.points ≤ new.points
  pub trees : IsAmong new (s.committed ∷ points) (new.points - old.points)
