-- Counts of faults, and the causes of a fault. An object of the outside counts the faults of its calls, and the count never falls.
use Rattle.std.specs.Prelude.{◌≡◌, ◌≤◌, ℕ, ◌+◌, ◌-◌, ◌^◌, min, Option, Some, None, Result, Err, OnOk, OnErr}
use Rattle.edge_base.specs.declared.damage.Damage.{Damage}

-- the count rose by one, or stands at the end of its type
abbrev pub Rose : ℕ → ℕ → Type 0
Rose before now = now ≡ min (before + 1) (2 ^ 64 - 1)

-- A call that answered Ok left the count as it was, and one that answered a fault raised it by one: a fault ends the call.
pub record HasCause {T E : Type 0} (before now : ℕ) (result : Result T E) : Type 0 where
  pub later : before ≤ now
  pub failed : OnErr result (Rose before now)
  pub passed : OnOk result (now ≡ before)

-- ---- what stands over a disk, and keeps the damage that it tells

-- the cause of a fault that tells no damage: the count rose; of one that does: the damage is kept
abbrev pub Because : ℕ → ℕ → Option Damage → Option Damage → Option Damage → Type 0
Because faults_old faults_new damage_old damage_new None = Rose faults_old faults_new × (damage_new ≡ damage_old)
Because faults_old faults_new damage_old damage_new (Some d) = (faults_new ≡ faults_old) × (damage_new ≡ Some d)

-- A call that answered Ok left the count and the damage as they were, and one that answered a fault has its cause. `damage_of` is the
-- damage that a fault tells.
pub record TellsCause {T E : Type 0} (damage_of : E → Option Damage) (result : Result T E) (faults_old faults_new : ℕ)
    (damage_old damage_new : Option Damage) : Type 0 where
  pub later : faults_old ≤ faults_new
  pub passed : OnOk result ((faults_new ≡ faults_old) × (damage_new ≡ damage_old))
  pub failed : (fault : E) → result ≡ Err fault → Because faults_old faults_new damage_old damage_new (damage_of fault)
