use Rattle.std.proofs.Common.{◌≡◌, ◌<◌, ◌+◌, ◌*◌, ℕ, length, slice_range}
use Rattle.edge_disk.specs.Slots.{block_in, AllBlocksHave}
use Rattle.edge_disk.proofs.make.split.Given as goal

abbrev pub invariant-loop-k : goal.invariant-loop-k
invariant-loop-k l = record {
  count : length l.blocks.items ≡ l.k;
  whole : AllBlocksHave l.size l.blocks.items;
  blocks : (j : ℕ) → j < l.k → block_in l.blocks.items j ≡ slice_range l.image (j * l.size) (j * l.size + l.size);
}
