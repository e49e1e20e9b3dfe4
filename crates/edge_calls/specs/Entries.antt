-- What is read of a directory, as the tree has it.
use Rattle.std.specs.Prelude.{ℕ, List, take, Option, Some, None}
use Rattle.edge_slots.specs.Slot.{entry_of}
use Rattle.edge_model.specs.Open as tree
use Rattle.edge_calls.specs.declared.directory.Filled.{Filled}

-- a filled slot, the bytes of whose name were put first into a list
abbrev pub filled_in : List ℕ → Option Filled → Option tree.Filled
filled_in list None = None
filled_in list (Some filled) = Some (record { slot = filled.slot; entry = entry_of (take filled.len list) filled.number })
