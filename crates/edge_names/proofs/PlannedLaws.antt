-- What the plan of a new node, or of a further name, says of the tree.
use Rattle.std.proofs.Common.{◌≡◌, ◌∙◌, ℕ, ◌+◌, ◌-◌, ◌/◌, ◌<◌, ◌≤◌, true, List, [], length, refl, sym, ap, subst, arith, Option, Some, None}
use Rattle.std.specs.Prelude.{Ok}
use Rattle.std.specs.List.{range_with_len}
use Rattle.std.proofs.Math.Nat.{div-eq_of_lt}
use Rattle.edge_base.specs.commands.Descriptors.{first_empty}
use Rattle.edge_base.specs.commands.Refusals.{or_refuse}
use Rattle.edge_base.specs.declared.geometry.Request.{Request}
use Rattle.edge_base.specs.declared.node.NodeType.{NodeType}
use Rattle.edge_base.specs.declared.node.NodeType.TheVariants.{File, Directory}
use Rattle.edge_base.specs.declared.refusal.Refusal.TheVariants as refusal
use Rattle.edge_base.specs.tree.Nodes.{Node, directory, indices_of}
use Rattle.edge_base.specs.tree.Slots.{Entry, Slots, pieces, slots_in_block}
use Rattle.edge_model.specs.Named.{NewName, new_name, new_slot}
use Rattle.edge_model.specs.State.{State}
use Rattle.edge_model.specs.Tree.{Tree, free_number, is_directory, slots_at, slots_of_node}
use Rattle.edge_model.specs.Walk.{within}
use Rattle.edge_model.proofs.Changes.{made, is_some_of}
use Rattle.edge_model.proofs.CompleteLaws.{slot_is, slot_within}
use Rattle.edge_model.proofs.Plans.{Gives, gives_ok, gives_after}
use Rattle.edge_steps.specs.Naming.{slot_of}
use Rattle.edge_steps.proofs.NodeLaws.{directory_is, slots_are}
use Rattle.edge_steps.proofs.PlanLaws.{empty_slot}
use Rattle.edge_names.specs.Made.{IsPlanned, new_node}

new_edit : (g : Request) (t : Tree) (d : ℕ) (name : List ℕ) (node : Node)
    → Gives (λ new. (slot : ℕ) × (new_slot g t d ≡ Ok slot) × (free_number g t ≡ Some new.number) × (new.edit ≡ made g t d name new.number slot node)) (new_name g t (within d name) node)
new_edit g t d name node =
    gives_after _ (or_refuse (free_number g t) refusal.NoInodes) _ (λ n is_free.
    gives_after _ (new_slot g t d) _ (λ slot room.
    gives_ok _ _ (slot, room, is_some_of (free_number g t) refusal.NoInodes n is_free, refl)))

-- ---- a slot

-- the first empty slot of a directory
pub record IsFirst (g : Request) (t : Tree) (d slot : ℕ) : Type 0 where
  pub slots : Slots
  pub parent : ℕ
  pub there : t d ≡ Some (directory slots parent)
  pub inside : slot ≤ length slots
  pub empty : slot_of t d slot ≡ None

pub first_slot : (g : Request) (t : Tree) (d slot : ℕ) → is_directory t d ≡ true → new_slot g t d ≡ Ok slot → IsFirst g t d slot
first_slot g t d slot kind room =
    let is = directory_is t d kind in
    record {
      slots = is.0;
      parent = is.1;
      there = is.2;
      inside = subst (λ (s : Slots). slot ≤ length s) (slots_are t d is.0 is.1 is.2) (slot_within g t d slot room);
      empty = empty_slot g t d slot room;
    }

-- ---- a new node

-- the plan of a new node: its slot is free, its number the least, and its edit this one
pub record IsMadeAt (g : Request) (t : Tree) (node : Node) (d slot : ℕ) (name : List ℕ) (new : NewName) : Type 0 where
  pub room : new_slot g t d ≡ Ok slot
  pub free : free_number g t ≡ Some new.number
  pub edit : new.edit ≡ made g t d name new.number slot node

pub planned_at : (g : Request) (z : State) (kind : NodeType) (d slot : ℕ) (name : List ℕ) (new : NewName) → IsPlanned g z kind d slot name new → IsMadeAt g z.tree (new_node kind d) d slot name new
planned_at g z kind d slot name new planned =
    let p = (new_edit g z.tree d name (new_node kind d)).holds new planned.is in
    let same : p.0 ≡ slot = ((slot_is g z.tree d).holds p.0 p.1).0 ∙ sym planned.first in
    record {
      room = p.1 ∙ ap Ok same;
      free = p.2;
      edit = p.3 ∙ ap (λ (k : ℕ). made g z.tree d name new.number k (new_node kind d)) same;
    }

none_needed : (width : ℕ) → 0 < width → pieces width 0 ≡ 0
none_needed width some = div-eq_of_lt (omega arith)

pub bare_node : (g : Request) (kind : NodeType) (d : ℕ) → 0 < slots_in_block g → indices_of g (new_node kind d) ≡ []
bare_node g File d some = refl
bare_node g Directory d some = ap (range_with_len 0) (none_needed (slots_in_block g) some)

pub slotless_node : (kind : NodeType) (d : ℕ) → slots_of_node (new_node kind d) ≡ []
slotless_node File d = refl
slotless_node Directory d = refl
