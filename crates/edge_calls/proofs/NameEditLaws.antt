-- The change by which a name goes, and its node with the last one: where it may be made, and which change of slots it is.
use Rattle.std.proofs.Common.{◌≡◌, ◌≢◌, ◌∙◌, ℕ, ◌+◌, ◌-◌, ◌/◌, ◌<◌, ◌≤◌, ◌==◌, ◌&&◌, ◌||◌, Bool, true, false, List, [], ◌∷◌, filter, is_some, refl, sym, ap, subst, arith, Option, Some, None}
use Rattle.std.specs.Prelude.{nat_le, nat_lt}
use Rattle.std.specs.Cmp.{both_ways}
use Rattle.std.specs.List.{range_with_len}
use Rattle.std.proofs.lemmas.Bool.{and_parts, and_from, leb-true, le-leb}
use Rattle.edge_base.specs.declared.geometry.Request.{Request}
use Rattle.edge_base.specs.tree.Nodes.{Node, directory}
use Rattle.edge_base.specs.tree.Positions.{Position, same_position, data_at, has}
use Rattle.edge_base.specs.tree.Slots.{Slots, slot_blocks, slots_in_block}
use Rattle.edge_store.specs.View.{View, IsView}
use Rattle.edge_shape.proofs.ListLaws.{any-filter, range_found, range_some}
use Rattle.edge_count.specs.Cuts.{removed}
use Rattle.edge_count.proofs.WriteLaws.{any_map}
use Rattle.edge_file.proofs.RangeLaws.{any_alike, lists}
use Rattle.edge_space.specs.declared.change.Change.TheVariants as change
use Rattle.edge_space.specs.declared.change.SlotAt.{SlotAt}
use Rattle.edge_space.specs.Slots.{IsCleared}
use Rattle.edge_model.specs.Named.{cleared, clear_removes, clear_writes, without_slot}
use Rattle.edge_model.specs.Names.{unnamed}
use Rattle.edge_model.specs.Rules.{IsTree}
use Rattle.edge_model.specs.State.{State, Edit}
use Rattle.edge_model.specs.Tree.{Tree, slots_at, with_node}
use Rattle.edge_image.specs.Opens.{StandsFor}
use Rattle.edge_steps.proofs.CountLaws.{slot_names}
use Rattle.edge_steps.proofs.NodeLaws.{node_set, slot_in_directory}
use Rattle.edge_steps.proofs.SlotLaws.{none_some, slot_in}
use Rattle.edge_stands.specs.Stands.{indices_at}
use Rattle.edge_names.specs.Unnamed.{MayUnname}
use Rattle.edge_names.proofs.NamedAtLaws.{inside_at, node_at_d, parent_at, rules_at, set_at, there_at}
use Rattle.edge_room.specs.Room.{NamesEdit, blocks_in, goes_with}
use Rattle.edge_room.proofs.NamedLaws.{KeepsNodes, both_stay, data_stay, if_stay, one_goes, removes_kept, set_stays, set_there}
use Rattle.edge_calls.specs.declared.unname.Named.{Named}
use Rattle.edge_calls.specs.Unnaming.{IsLeafName, found_in, is_last, unnaming_edit}

-- ---- where it may be made

-- whether the name is the last one, by the head of its node
pub edit_is : (g : Request) (t : Tree) (named : Named) → IsLeafName g t named → unnaming_edit g t named ≡ unnamed g t named.d (found_in named) (is_last named)
edit_is g t named leaf = ap (λ (k : ℕ). unnamed g t named.d (found_in named) (k == 1)) leaf.links

-- a node without slots does not name itself
pub may_unname : (g : Request) (z : State) (named : Named) → IsTree g z.tree → (leaf : IsLeafName g z.tree named) → IsTree g (unnaming_edit g z.tree named).tree
    → MayUnname g z named.number named.d named.slot (is_last named)
may_unname g z named tree leaf then = record {
  tree = tree;
  directory = slot_in_directory z.tree named.d named.slot leaf.entry leaf.there;
  other = λ same. none_some leaf.entry (sym (ap (λ (s : Slots). slot_in s named.slot) (ap (slots_at z.tree) same ∙ leaf.slotless)) ∙ leaf.there);
  there = (tree.named named.d named.number (slot_names z.tree named.d named.slot named.number leaf.entry leaf.there leaf.number)).0;
  entry = leaf.entry;
  named = leaf.there;
  number = leaf.number;
  tree_then = subst (λ (e : Edit). IsTree g e.tree) (edit_is g z.tree named leaf) then;
}

-- ---- which change of slots it is

-- the blocks behind the first of so many
rest_alike : (left count i : ℕ) → lists (range_with_len left (count - left)) i ≡ lists (filter (λ x. nat_le left x) (range_with_len 0 count)) i
rest_alike left count i = both_ways _ _
    (λ h.
    let r = range_found (λ k. k == i) left (count - left) h in
    let from : left ≤ r.0 = r.1 in
    let upto : r.0 < left + (count - left) = r.2 in
    any-filter (λ x. nat_le left x) (λ k. k == i) (range_with_len 0 count)
    ∙ range_some (λ x. nat_le left x && (x == i)) 0 count r.0 (omega arith) (omega arith) (and_from _ _ (le-leb left r.0 from) r.3))
    (λ h.
    let r = range_found (λ x. nat_le left x && (x == i)) 0 count (sym (any-filter (λ x. nat_le left x) (λ k. k == i) (range_with_len 0 count)) ∙ h) in
    let parts = and_parts (nat_le left r.0) (r.0 == i) r.3 in
    let from = leb-true left r.0 parts.0 in
    let upto : r.0 < 0 + count = r.2 in
    range_some (λ k. k == i) left (count - left) r.0 from (omega arith) parts.1)

module _ (g : Request) (v : View) (z : State) (named : Named) (view : IsView g v) (stands : StandsFor g v z.tree) (may : MayUnname g z named.number named.d named.slot (is_last named)) where
  abbrev at : SlotAt
  at = record { dir = named.d; slot = named.slot }

  abbrev slots : Slots
  slots = slots_at z.tree named.d

  abbrev after : Slots
  after = without_slot slots named.slot

  abbrev pub blocks_left : ℕ
  blocks_left = slot_blocks g after

  abbrev holder : ℕ
  holder = parent_at g v z named.number named.d named.slot (is_last named) view stands may

  holder_there : z.tree named.d ≡ Some (directory slots holder)
  holder_there = there_at g v z named.number named.d named.slot (is_last named) view stands may

  pub is_cleared : IsCleared g v None at blocks_left
  is_cleared = record {
    slots = slots;
    parent = holder;
    node = node_at_d g v z named.number named.d named.slot (is_last named) view stands may;
    in_range = inside_at g v z named.number named.d named.slot (is_last named) view stands may;
    held = slots;
    is_held = refl;
    apart = tt;
    after = after;
    after_trimmed = (rules_at g v z named.number named.d named.slot (is_last named) view stands may).last_filled;
    is_cleared = set_at g v z named.number named.d named.slot (is_last named) view stands may;
    left_are = refl;
  }

  abbrev cut_off : List Position
  cut_off = removed named.d blocks_left (blocks_in g z.tree named.d)

  same_removes : (p : Position) → has (clear_removes g named.d slots named.slot) p ≡ has cut_off p
  same_removes p =
      any_map (same_position p) (data_at named.d) (range_with_len blocks_left (slot_blocks g slots - blocks_left))
      ∙ any_alike (λ x. same_position p (data_at named.d x)) (range_with_len blocks_left (slot_blocks g slots - blocks_left))
      (filter (λ x. nat_le blocks_left x) (range_with_len 0 (slot_blocks g slots))) (rest_alike blocks_left (slot_blocks g slots))
      ∙ sym (any_map (same_position p) (data_at named.d) (filter (λ x. nat_le blocks_left x) (range_with_len 0 (slot_blocks g slots))))
      ∙ ap (λ (o : Option Node). has (removed named.d blocks_left (indices_at g o)) p) (sym holder_there)

  left_keeps : KeepsNodes z.tree (cleared z.tree named.d named.slot)
  left_keeps = set_stays z.tree z.tree named.d _ (λ n there. there)

  holder_stays : is_some (cleared z.tree named.d named.slot named.d) ≡ true
  holder_stays = set_there z.tree named.d _

  abbrev block_stays : Bool
  block_stays = nat_lt (named.slot / slots_in_block g) blocks_left

  stays_in : (u : Tree) → is_some (u named.d) ≡ true → (p : Position) → (has (clear_writes g named.d slots named.slot) p || has cut_off p) ≡ true → is_some (u p.number) ≡ true
  stays_in u there = both_stay u (clear_writes g named.d slots named.slot) cut_off
      (if_stay u block_stays (data_at named.d (named.slot / slots_in_block g) ∷ []) (data_stay u named.d (named.slot / slots_in_block g ∷ []) there))
      (data_stay u named.d (filter (λ x. nat_le blocks_left x) (blocks_in g z.tree named.d)) there)

  pub unnaming_named : NamesEdit g v z.tree (change.Slots None (Some at)) 0 (unnamed g z.tree named.d (found_in named) (is_last named))
  unnaming_named = by (is_last named)
    where
      gone : Tree
      gone = with_node (cleared z.tree named.d named.slot) named.number None

      gone_is : (x : ℕ) → x ≢ named.number → is_some (gone x) ≡ is_some (cleared z.tree named.d named.slot x)
      gone_is x other = ap (λ (o : Option Node). is_some o) ((node_set (cleared z.tree named.d named.slot) named.number None).others x other)

      by : (last : Bool) → NamesEdit g v z.tree (change.Slots None (Some at)) 0 (unnamed g z.tree named.d (found_in named) last)
      by false = record {
        left = blocks_left;
        are_left = is_cleared;
        writes = λ p. refl;
        removes = λ p. same_removes p ∙ removes_kept g z.tree (cleared z.tree named.d named.slot) left_keeps cut_off p;
        stay = stays_in (cleared z.tree named.d named.slot) holder_stays;
        leaves = refl;
      }
      by true = record {
        left = blocks_left;
        are_left = is_cleared;
        writes = λ p. refl;
        removes = λ p.
            one_goes g z.tree gone named.number (ap (λ (o : Option Node). is_some o) (node_set (cleared z.tree named.d named.slot) named.number None).here)
            (λ x other there. gone_is x other ∙ left_keeps x there) (clear_removes g named.d slots named.slot) p
            ∙ (λ i. same_removes p i || goes_with g z.tree gone p);
        stay = stays_in gone (gone_is named.d may.other ∙ holder_stays);
        leaves = refl;
      }
