-- What a volume is as one value.
use Rattle.std.specs.Prelude.{ℕ, Result, Ok, Err}
use Rattle.edge_base.specs.commands.Descriptors.{Descriptor, none_open}
use Rattle.edge_base.specs.commands.Events.{default_mask}
use Rattle.edge_base.specs.declared.node.Head.{Head}
use Rattle.edge_base.specs.declared.refusal.Refusal.{Refusal}
use Rattle.edge_handles.specs.declared.Slot.{Slot}
use Rattle.edge_handles.specs.Table.{descriptor_of}
use Rattle.edge_mask.specs.Mask.{mask_of}
use Rattle.edge_store.specs.declared.fault.StoreFault.{StoreFault}
use Rattle.edge_store.specs.declared.fault.StoreFault.TheVariants as store
use Rattle.edge_store.specs.declared.store.Store.{Ghosts as StoreGhosts}
use Rattle.edge_model.specs.declared.ask.AskFault.{AskFault}
use Rattle.edge_model.specs.declared.ask.AskFault.TheVariants as ask
use Rattle.edge_model.specs.declared.command.Status.{Status}
use Rattle.edge_store.specs.State.{StoreState}
use Rattle.edge_volume.specs.Volume.{VolumeState}
use Rattle.edge_calls.specs.declared.volume.Volume.{Volume}

abbrev pub volume_of : {A : Type 0} → StoreGhosts A → Volume A → VolumeState
volume_of S v = record { store = S.state v.store; mask = mask_of v.mask; descriptors = v.handles }

-- a volume as it is made over a store
abbrev pub made_over : StoreState → VolumeState
made_over st = record { store = st; mask = default_mask; descriptors = none_open }

-- a slot as a descriptor, or why there is none
abbrev pub described : Result Slot Refusal → Result Descriptor Refusal
described (Ok slot) = Ok (descriptor_of slot)
described (Err refusal) = Err refusal

-- the status that a head tells of a node
abbrev pub status_in : ℕ → Head → Status
status_in number head = record { number = number; kind = head.kind; size = head.size; links = head.links }

-- a fault of the store, as one of the session
abbrev pub as_ask : StoreFault → AskFault
as_ask store.Device = ask.Device
as_ask (store.Damaged damage) = ask.Damaged damage
