use Rattle.std.proofs.Common.{◌≡◌, ◌≤◌, length}
use Rattle.edge_disk.specs.State.{disk_of}
use Rattle.edge_format.proofs.ImapLaws.{WroteImaps}
use Rattle.edge_format.proofs.imaps.write_imaps.Given as goal

abbrev pub invariant-loop-node : goal.invariant-loop-node
invariant-loop-node g l = WroteImaps l.g l.node (disk_of g.D.Disk l.initial.disk) (disk_of g.D.Disk l.disk) × (length l.buffer ≡ length l.initial.buffer)
