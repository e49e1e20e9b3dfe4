-- The table of open descriptors, as the code keeps it.
use Rattle.std.specs.Prelude.{map, List, Option}
use Rattle.std.specs.Option.{option_map}
use Rattle.edge_base.specs.commands.Descriptors.{Descriptor, Descriptors}
use Rattle.edge_handles.specs.declared.Slot.{Slot}

-- what a slot says
abbrev pub descriptor_of : Slot → Descriptor
descriptor_of s = record { number = s.number; directory = s.directory; read = s.read; write = s.write; append = s.append; at = s.at }

abbrev pub descriptors_of : List (Option Slot) → Descriptors
descriptors_of slots = map (option_map descriptor_of) slots
