-- What reading a pointer node answers.
use Rattle.std.specs.Prelude.{ℕ, Result, Ok, Err}
use Rattle.edge_base.specs.declared.node.NodeFault.{NodeFault}
use Rattle.edge_base.specs.layout.Spelling.{PointerNode}

-- the owner of the node that was read
abbrev pub owner_told : Result PointerNode NodeFault → Result ℕ NodeFault
owner_told (Ok node) = Ok node.owner
owner_told (Err fault) = Err fault
