-- The slots of a tree that name a number.
use Rattle.std.specs.Prelude.{ℕ, if◌then◌else◌, slice_index_or, Option, None}
use Rattle.edge_base.specs.tree.Slots.{Entry}
use Rattle.edge_model.specs.Tree.{Tree, slots_at, names_it}

-- what slot i of directory d holds
abbrev pub slot_of : Tree → ℕ → ℕ → Option Entry
slot_of t d i = slice_index_or (slots_at t d) i None

-- 1 where the slot names the number, else 0
abbrev pub names_once : ℕ → Option Entry → ℕ
names_once n slot = if names_it n slot then 1 else 0
