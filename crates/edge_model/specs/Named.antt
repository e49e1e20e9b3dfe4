-- Placing and clearing names in directories.
use Rattle.std.specs.Prelude.{ℕ, ◌+◌, ◌-◌, ◌/◌, nat_lt, nat_le, if◌then◌else◌, List, [], ◌∷◌, ◌++◌, take, drop, map, slice_set, Some, None, Result, Ok, Err}
use Rattle.std.specs.List.{range_with_len}
use Rattle.edge_base.specs.declared.geometry.Request.{Request}
use Rattle.edge_base.specs.declared.refusal.Refusal.{Refusal}
use Rattle.edge_base.specs.declared.refusal.Refusal.TheVariants as refusal
use Rattle.edge_base.specs.commands.Refusals.{◌>>=◌, refuse_if, or_refuse}
use Rattle.edge_base.specs.layout.Places.{max_blocks_of}
use Rattle.edge_base.specs.tree.Positions.{Position, data_at}
use Rattle.edge_base.specs.tree.Slots.{Entry, Slots, slots_in_block, slot_blocks, trimmed}
use Rattle.edge_base.specs.commands.Descriptors.{first_empty}
use Rattle.edge_base.specs.tree.Nodes.{Node}
use Rattle.edge_model.specs.Tree.{Tree, slots_at, with_node, with_slots, free_number}
use Rattle.edge_model.specs.Walk.{Spot, top, within}
use Rattle.edge_model.specs.State.{Edit}

-- ---- one slot

-- the data position of a slot's block
abbrev pub slot_position : Request → ℕ → ℕ → Position
slot_position g d slot = data_at d (slot / slots_in_block g)

-- slot i filled, which may be a new one at the end
abbrev pub with_slot : Slots → ℕ → Entry → Slots
with_slot slots i e = take i slots ++ Some e ∷ drop (i + 1) slots

-- slot i emptied, and empty slots at the end cut off
abbrev pub without_slot : Slots → ℕ → Slots
without_slot slots i = trimmed (slice_set slots i None)

-- clearing a slot writes its block, where that is left
abbrev pub clear_writes : Request → ℕ → Slots → ℕ → List Position
clear_writes g d slots i = if nat_lt (i / slots_in_block g) (slot_blocks g (without_slot slots i)) then slot_position g d i ∷ [] else []

-- and removes the blocks that are cut off
abbrev pub clear_removes : Request → ℕ → Slots → ℕ → List Position
clear_removes g d slots i = map (data_at d) (range_with_len (slot_blocks g (without_slot slots i)) (slot_blocks g slots - slot_blocks g (without_slot slots i)))

-- ---- a name in a tree

-- a name put into a slot
abbrev pub placed : Tree → ℕ → ℕ → Entry → Tree
placed t d slot e = with_slots t d (with_slot (slots_at t d) slot e)

-- a slot's name cleared
abbrev pub cleared : Tree → ℕ → ℕ → Tree
cleared t d slot = with_slots t d (without_slot (slots_at t d) slot)

-- the slot that a new name takes, where the directory's blocks allow one
abbrev pub new_slot : Request → Tree → ℕ → Result ℕ Refusal
new_slot g t d = do
  _ ← refuse_if (nat_le (max_blocks_of g) (first_empty (slots_at t d) / slots_in_block g)) refusal.TooBig
  Ok (first_empty (slots_at t d))

-- a node that is made, and the change that makes it
pub record NewName : Type 0 where
  pub number : ℕ
  pub edit : Edit

-- A new node with the least free number, under a name that is not there.
abbrev pub new_name : Request → Tree → Spot → Node → Result NewName Refusal
new_name g t top node = Err refusal.Exists
new_name g t (within d name) node = do
  n ← or_refuse (free_number g t) refusal.NoInodes
  slot ← new_slot g t d
  Ok (record {
    number = n;
    edit = record {
      tree = with_node (placed t d slot (record { name = name; number = n })) n (Some node);
      writes = slot_position g d slot ∷ [];
      removes = [];
      reserve = 3;
    };
  })
