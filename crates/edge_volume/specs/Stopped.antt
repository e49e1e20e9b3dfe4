-- What a call answered, and the fault that ended it, if there was one.
use Rattle.std.specs.Prelude.{Option, Some, None, Result, Ok, Err}
use Rattle.edge_base.specs.declared.refusal.Refusal.{Refusal}
use Rattle.edge_store.specs.declared.fault.StoreFault.{StoreFault}
use Rattle.edge_volume.specs.declared.stop.Stop.{Stop}
use Rattle.edge_volume.specs.declared.stop.Stop.TheVariants.{Refused, Fault}

-- the fault of a call of a store
abbrev pub fault_in : {T : Type 0} → Result T StoreFault → Option StoreFault
fault_in (Ok x) = None
fault_in (Err fault) = Some fault

-- the fault that stopped a part of a command
abbrev pub fault_of : {T : Type 0} → Result T Stop → Option StoreFault
fault_of (Ok x) = None
fault_of (Err (Refused refusal)) = None
fault_of (Err (Fault fault)) = Some fault

-- where no fault stopped it, this holds of what it answered or of its refusal
abbrev pub IfAnswered : {T : Type 0} → Result T Stop → (Result T Refusal → Type 0) → Type 0
IfAnswered (Ok x) Holds = Holds (Ok x)
IfAnswered (Err (Refused refusal)) Holds = Holds (Err refusal)
IfAnswered (Err (Fault fault)) Holds = Unit {0}
