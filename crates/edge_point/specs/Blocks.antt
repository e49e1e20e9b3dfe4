-- Looking at a block that is to have a form and an owner, and reading it.
use Rattle.std.specs.Prelude.{◌≡◌, ◌==◌, ℕ, if◌then◌else◌, Option, Some, None, Result, Ok, Err}
use Rattle.edge_base.specs.declared.damage.Damage.{Damage}
use Rattle.edge_base.specs.declared.damage.DamageKind.TheVariants as kinds
use Rattle.edge_store.specs.declared.fault.StoreFault.{StoreFault}
use Rattle.edge_store.specs.declared.fault.StoreFault.TheVariants.{Device, Damaged}
use Rattle.edge_point.specs.Ended.{damage_after, ended}
use Rattle.edge_point.specs.declared.parts.Parts.{Parts}

-- the damage that is met, as an answer
abbrev pub met_told : Option Damage → Result (Unit {0}) StoreFault
met_told None = Ok tt
met_told (Some damage) = Err (Damaged damage)

-- the damage of a pointer node that has another owner
abbrev pub owner_met : ℕ → ℕ → ℕ → Option Damage
owner_met b found owner = if found == owner then None else Some (record { block = b; kind = kinds.WrongOwner })

-- Ok comes where no damage is met, and a fault that tells damage tells the one that is met.
abbrev pub TellsMet : {T : Type 0} → Option Damage → Result T StoreFault → Type 0
TellsMet met (Ok v) = met ≡ None
TellsMet met (Err Device) = Unit {0}
TellsMet met (Err (Damaged damage)) = met ≡ Some damage

-- the parts of a store after this answer: a fault has ended it
abbrev pub ended_by : {T D : Type 0} → Parts D → Result T StoreFault → Parts D
ended_by p (Ok v) = p
ended_by p (Err fault) = ended p (damage_after p.damage fault)
