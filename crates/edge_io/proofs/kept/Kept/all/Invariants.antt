use Rattle.std.proofs.Common.{◌≡◌, map, take}
use Rattle.edge_io.specs.Kept.{entry_of, kept_entry}
use Rattle.edge_io.proofs.kept.Kept.all.Given as goal

abbrev pub invariant-loop-item : goal.invariant-loop-item
invariant-loop-item l = map kept_entry l.kept.items ≡ map entry_of (take l.item-index l.items)
