-- The faults of a load, as those of a mount.
use Rattle.edge_imap.specs.declared.fault.LoadFault.{LoadFault}
use Rattle.edge_imap.specs.declared.fault.LoadFault.TheVariants as load
use Rattle.edge_mount.specs.declared.fault.MountFault.{MountFault}
use Rattle.edge_mount.specs.declared.fault.MountFault.TheVariants.{Device, NotVolume, Memory}

-- a live node that spells none is reason 6
abbrev pub of_load : LoadFault → MountFault
of_load load.Device = Device
of_load (load.Node i) = NotVolume 6
of_load load.Memory = Memory
