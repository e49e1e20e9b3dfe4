-- Steps of a view on the way from one tree to another: one after the other, and those of a directory's slots.
use Rattle.std.proofs.Common.{◌≡◌, ℕ, ◌/◌, true, is_some, List, [], ◌∷◌, ◌++◌, map, sym, ap, subst, Option, Some}
use Rattle.edge_base.specs.declared.geometry.Request.{Request}
use Rattle.edge_base.specs.tree.Nodes.{Node, directory}
use Rattle.edge_base.specs.tree.Positions.{Position, data_at}
use Rattle.edge_base.specs.tree.Slots.{Entry, Slots, slots_in_block}
use Rattle.edge_store.specs.View.{View, IsView}
use Rattle.edge_model.specs.Named.{placed, cleared, clear_writes, clear_removes, slot_position, with_slot, without_slot}
use Rattle.edge_model.specs.Tree.{Tree, slots_at, with_node}
use Rattle.edge_dir.specs.Written.{SlotsChanged}
use Rattle.edge_steps.proofs.NodeLaws.{slots_are}
use Rattle.edge_steps.proofs.SetLaws.{placed_is, cleared_is}
use Rattle.edge_stands.specs.Stands.{NodeStands, StandsWith}
use Rattle.edge_stands.proofs.DirtyLaws.{tree_twice}
use Rattle.edge_names.specs.Stepped.{IsStepped}
use Rattle.edge_names.proofs.SlotsLaws.{slots_stand, slots_dirtied}
use Rattle.edge_names.proofs.UnnamedLaws.{blocks_written, blocks_removed, written_at}

pub step_on : (g : Request) (c u v w : View) (r s t : Tree) (l m : ℕ → ℕ) (ws rs xs ys : List Position) → IsStepped g c u v r s l ws rs → IsStepped g c v w s t m xs ys
    → IsStepped g c u w r t m (ws ++ xs) (rs ++ ys)
step_on g c u v w r s t l m ws rs xs ys one two = record { stands = two.stands; dirtied = tree_twice g c u v w r s t ws rs xs ys one.dirtied two.dirtied }

-- other links that are the same at the numbers of the tree
pub links_alike : (g : Request) (v : View) (t : Tree) (links now : ℕ → ℕ) → StandsWith g v t links → ((n : ℕ) → is_some (t n) ≡ true → links n ≡ now n) → StandsWith g v t now
links_alike g v t links now s same = record {
  numbers = s.numbers;
  nodes = λ n node is. subst (NodeStands g v n node) (same n (ap (λ (o : Option Node). is_some o) is)) (s.nodes n node is);
  once = s.once;
  each = s.each;
}

module _ (g : Request) (c v w : View) (t : Tree) (links : ℕ → ℕ) (d slot : ℕ) (slots : Slots) (parent : ℕ) (view : IsView g v) (s : StandsWith g v t links) (there : t d ≡ Some (directory slots parent)) where
  slots_step : (after : Slots) (writes removes : List ℕ) → SlotsChanged g c v w d slots after parent writes removes
      → IsStepped g c v w t (with_node t d (Some (directory after parent))) links (map (data_at d) writes) (map (data_at d) removes)
  slots_step after writes removes changed = record {
    stands = slots_stand g c v w t links d slots after parent writes removes view s there changed;
    dirtied = slots_dirtied g c v w t links d slots after parent writes removes view s there changed;
  }

  -- a name placed
  pub placed_step : (e : Entry) → SlotsChanged g c v w d slots (with_slot slots slot e) parent (slot / slots_in_block g ∷ []) [] → IsStepped g c v w t (placed t d slot e) links (slot_position g d slot ∷ []) []
  placed_step e changed = subst (λ (x : Tree). IsStepped g c v w t x links (slot_position g d slot ∷ []) []) (sym (placed_is t d slot e slots parent there))
      (slots_step (with_slot slots slot e) (slot / slots_in_block g ∷ []) [] changed)

  -- and a name cleared
  pub cleared_step : SlotsChanged g c v w d slots (without_slot slots slot) parent (blocks_written g slots slot) (blocks_removed g slots slot)
      → IsStepped g c v w t (cleared t d slot) links (clear_writes g d (slots_at t d) slot) (clear_removes g d (slots_at t d) slot)
  cleared_step changed = subst (λ (x : Slots). IsStepped g c v w t (cleared t d slot) links (clear_writes g d x slot) (clear_removes g d x slot)) (sym (slots_are t d slots parent there))
      (subst (λ (ws : List Position). IsStepped g c v w t (cleared t d slot) links ws (clear_removes g d slots slot)) (written_at g d slot slots)
      (subst (λ (x : Tree). IsStepped g c v w t x links (map (data_at d) (blocks_written g slots slot)) (map (data_at d) (blocks_removed g slots slot))) (sym (cleared_is t d slot slots parent there))
      (slots_step (without_slot slots slot) (blocks_written g slots slot) (blocks_removed g slots slot) changed)))
