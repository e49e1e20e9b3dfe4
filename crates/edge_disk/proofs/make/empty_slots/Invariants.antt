use Rattle.std.proofs.Common.{◌≡◌, length}
use Rattle.edge_disk.specs.Slots.{AllSlotsHave}
use Rattle.edge_disk.proofs.make.empty_slots.Given as goal

abbrev pub invariant-loop : goal.invariant-loop
invariant-loop l = record { count : length l.slots.items ≡ l.counter; whole : AllSlotsHave l.size l.slots.items }
