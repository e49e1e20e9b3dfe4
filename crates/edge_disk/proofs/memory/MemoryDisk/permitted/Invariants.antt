use Rattle.std.proofs.Common.{◌≡◌, ◌<◌, ◌+◌, ◌*◌, ℕ, length, slice_range}
use Rattle.edge_disk.specs.Memory.{picked_of}
use Rattle.edge_disk.proofs.memory.MemoryDisk.permitted.Given as goal

abbrev pub invariant-loop-b : goal.invariant-loop-b
invariant-loop-b l = record {
  whole : length l.bytes.items ≡ l.b * l.self.block_size;
  picked : (j : ℕ) → j < l.b → slice_range l.bytes.items (j * l.self.block_size) (j * l.self.block_size + l.self.block_size) ≡ picked_of l.self l.pick j;
}
