-- A store that has ended with a fault.
use Rattle.std.specs.Prelude.{Bool, true, false, Option, Some}
use Rattle.edge_base.specs.declared.damage.Damage.{Damage}
use Rattle.edge_imap.specs.declared.fault.BlockState.{BlockState}
use Rattle.edge_imap.specs.declared.fault.BlockState.TheVariants.{Free, Used, New, AlmostFree}
use Rattle.edge_imap.specs.declared.fault.ImapFault.{ImapFault}
use Rattle.edge_imap.specs.declared.fault.ImapFault.TheVariants as imap
use Rattle.edge_store.specs.declared.fault.StoreFault.{StoreFault}
use Rattle.edge_store.specs.declared.fault.StoreFault.TheVariants.{Device, Damaged}
use Rattle.edge_point.specs.declared.parts.Parts.{Parts}

-- the fault of a bitmap, as one of a store
abbrev pub of_imap : ImapFault → StoreFault
of_imap imap.Device = Device
of_imap (imap.Damaged d) = Damaged d

-- whether a block of this state is used in the working list alone
abbrev pub is_new_by : BlockState → Bool
is_new_by Free = false
is_new_by Used = false
is_new_by New = true
is_new_by AlmostFree = false

-- whether it is used in the working list
abbrev pub is_used_by : BlockState → Bool
is_used_by Free = false
is_used_by Used = true
is_used_by New = true
is_used_by AlmostFree = false

-- whether it is used in the list of the last point
abbrev pub is_committed_by : BlockState → Bool
is_committed_by Free = false
is_committed_by Used = true
is_committed_by New = false
is_committed_by AlmostFree = true

-- the damage that is kept after a fault
abbrev pub damage_after : Option Damage → StoreFault → Option Damage
damage_after kept Device = kept
damage_after kept (Damaged d) = Some d

-- the parts of a store that a fault ended, with this damage
abbrev pub ended : {D : Type 0} → Parts D → Option Damage → Parts D
ended p damage = record {
  cache = p.cache;
  imap = p.imap;
  master = p.master;
  place = p.place;
  root = p.root;
  points = p.points;
  numbers = p.numbers;
  next = p.next;
  live = false;
  torn = p.torn;
  damage = damage;
  block = p.block;
}
