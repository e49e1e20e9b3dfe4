-- What a store is at a moment, and what its calls ask of it.
use Rattle.std.specs.Prelude.{◌≡◌, ◌<◌, ℕ, Bool, true, is_some, Option, None}
use Rattle.edge_base.specs.declared.damage.Damage.{Damage}
use Rattle.edge_base.specs.outside.Below.{Origin}
use Rattle.edge_store.specs.View.{View, is_allocable, is_link, is_number, is_new, free_now}
use Rattle.edge_store.specs.Damages.{IsDamage}

-- A store at a moment. The candidates of the disk below it are members of the trait.
pub record StoreState : Type 1 where
  pub origin : Origin
  -- no call has answered a fault
  pub live : Bool
  -- the view of the last point, and what has become of it since
  pub committed : View
  pub working : View
  -- of a point that a fault cut short, the working view as it began
  pub under_way : Option View
  -- the place of each inode of the working view
  pub places : ℕ → ℕ
  -- how many points were taken, how many faults the disk below has had, and the damage that was told
  pub points : ℕ
  pub faults : ℕ
  pub damage : Option Damage
  -- A promise on what a cut of the power leaves below: the committed view, or the one under way. No call takes it back. A store
  -- that stands over a disk says what it is, and gives it as it is made, where it can.
  pub guarded : Type 0

-- what the disk below holds is told, so that the views are those of what it holds
abbrev pub Told : StoreState → Type 0
Told s = s.origin.tells ≡ true

-- A store as it is made: it may be asked, no point was taken, and nothing has changed since the view that it was made with.
pub record IsMade (s : StoreState) : Type 0 where
  pub live : s.live ≡ true
  pub points : s.points ≡ 0
  pub unchanged : s.working ≡ s.committed
  pub undamaged : s.damage ≡ None

-- ---- what calls ask

abbrev pub IsLive : StoreState → Type 0
IsLive s = s.live ≡ true

-- a node may have the number
abbrev pub IsNumber : StoreState → ℕ → Type 0
IsNumber s n = is_number s.origin.request n ≡ true

abbrev pub IsAllocable : StoreState → ℕ → Type 0
IsAllocable s b = is_allocable s.origin.request b ≡ true

-- a pointer is absent or leads to an allocable block
abbrev pub IsLink : StoreState → ℕ → Type 0
IsLink s b = is_link s.origin.request b ≡ true

-- the working view has this inode, where it is told
abbrev pub HasInode : StoreState → ℕ → Type 0
HasInode s n = Told s → is_some (s.working.inodes n) ≡ true

-- the working view uses the block and the last point does not, where they are told
abbrev pub IsNew : StoreState → ℕ → Type 0
IsNew s b = Told s → is_new s.committed s.working b ≡ true

-- a block is free, where the views are told
abbrev pub HasRoom : StoreState → Type 0
HasRoom s = Told s → 0 < free_now s.origin.request s.committed s.working

-- the damage is there in the working view
abbrev pub HasDamage : StoreState → Damage → Type 0
HasDamage s damage = IsDamage s.origin.request s.places s.committed s.working damage
