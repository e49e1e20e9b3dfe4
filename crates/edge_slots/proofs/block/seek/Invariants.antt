use Rattle.edge_slots.specs.Block.{Lacks}
use Rattle.edge_slots.proofs.BlockLaws.{IsFreeAmong}
use Rattle.edge_slots.proofs.block.seek.Given as goal

abbrev pub invariant-loop-slot : goal.invariant-loop-slot
invariant-loop-slot l = record {
  lacks : Lacks l.fn.g l.fn.block l.slot l.fn.name;
  free : IsFreeAmong l.fn.g l.fn.block l.slot l.free;
}
