use Rattle.std.proofs.Common.{ℕ, ◌≤◌, ◌<◌}
use Rattle.edge_store.specs.Damages.{slot_in}
use Rattle.edge_slots.specs.Slot.{IsEmpty}
use Rattle.edge_slots.proofs.block.last_filled.Given as goal

abbrev pub invariant-loop-slot : goal.invariant-loop-slot
invariant-loop-slot l = (j : ℕ) → l.slot ≤ j → j < l.fn.below → IsEmpty l.fn.g (slot_in l.fn.g l.fn.block j)
