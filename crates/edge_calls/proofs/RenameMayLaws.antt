-- A name that a rename moves may be moved.
use Rattle.std.proofs.Common.{◌≡◌, ◌≢◌, ◌∙◌, ℕ, ◌≤◌, Bool, true, false, List, [], ◌∷◌, length, is_some, unwrap_or, refl, sym, ap, subst, Option, Some, None}
use Rattle.std.specs.Prelude.{Ok}
use Rattle.std.proofs.lemmas.Bool.{false≢true}
use Rattle.edge_base.specs.commands.Paths.{names_in}
use Rattle.edge_base.specs.declared.geometry.Request.{Request}
use Rattle.edge_base.specs.tree.Nodes.{Node, file, directory}
use Rattle.edge_base.specs.tree.Slots.{Entry, Slots}
use Rattle.edge_model.specs.Names.{is_empty}
use Rattle.edge_model.specs.Rules.{IsTree}
use Rattle.edge_model.specs.State.{State}
use Rattle.edge_model.specs.Tree.{Tree, is_directory, is_directory_node, slots_at, slots_of_node}
use Rattle.edge_model.specs.Walk.{Found}
use Rattle.edge_model.proofs.SlotLaws.{first_empty_within, found_within}
use Rattle.edge_model.proofs.WalkLaws.{walk_in_directory}
use Rattle.edge_steps.specs.Naming.{slot_of}
use Rattle.edge_steps.proofs.CountLaws.{slot_at, slot_names}
use Rattle.edge_steps.proofs.NameLaws.{is_leaf}
use Rattle.edge_steps.proofs.PlanLaws.{empty_slot}
use Rattle.edge_steps.proofs.SlotLaws.{is_eq, none_some, some_same}
use Rattle.edge_steps.proofs.WalkLaws.{is_found, new_slot_is}
use Rattle.edge_names.specs.Moved.{IsPlaced, MayMove, moved, number_of}
use Rattle.edge_names.specs.declared.moves.Move.{Move}
use Rattle.edge_names.specs.declared.moves.NamedNode.{NamedNode}
use Rattle.edge_calls.specs.Renames.{Rename, rename_with}
use Rattle.edge_calls.proofs.RenamePlanLaws.{IsPlacedAt, IsRenaming}
use Rattle.edge_calls.proofs.RenameTreeLaws.{names_another, not_holder}

-- a node that is no directory with entries has no slots
slotless_at : (node : Node) → (is_directory_node node ≡ true → is_empty (slots_of_node node) ≡ true) → slots_of_node node ≡ []
slotless_at (file content present) empty = refl
slotless_at (directory [] parent) empty = refl
slotless_at (directory (slot ∷ slots) parent) empty = absurd (false≢true (empty refl))

module _ (g : Request) (t : Tree) (path to : List ℕ) (r : Rename) (tree : IsTree g t) (is : IsRenaming g t path to r) where
  pub from_kind : is_directory t r.held.dir ≡ true
  from_kind = walk_in_directory t (names_in path) r.held.dir is.old_name is.from

  pub to_kind : is_directory t r.name.dir ≡ true
  to_kind = walk_in_directory t (names_in to) r.name.dir r.name.name is.goes

  pub old_entry : (e : Entry) × (slot_of t r.held.dir r.held.slot ≡ Some e) × (e.number ≡ r.held.number)
  old_entry = let f = is_found is.old_name (slots_at t r.held.dir) (record { slot = r.held.slot; number = r.held.number }) is.at in (f.entry, f.there, f.number_is)

  node_there : is_some (t r.held.number) ≡ true
  node_there = (tree.named r.held.dir r.held.number (slot_names t r.held.dir r.held.slot r.held.number old_entry.0 old_entry.1 old_entry.2)).0

  node_not_from : r.held.dir ≢ r.held.number
  node_not_from same = names_another g t tree r.held.dir r.held.slot old_entry.0 old_entry.1 (same ∙ sym old_entry.2)

  node_not_to : r.name.dir ≢ r.held.number
  node_not_to = not_holder t (names_in to) r.held.number r.name.dir r.name.name is.goes is.outside

  -- ---- a node that is replaced

  module _ (n : ℕ) (place : IsPlacedAt g t r (Some n)) where
    pub new_entry : (e : Entry) × (slot_of t r.name.dir r.slot ≡ Some e) × (e.number ≡ n) × (e.name ≡ r.name.name)
    new_entry =
        let f = is_found r.name.name (slots_at t r.name.dir) (record { slot = r.slot; number = n }) place.0 in
        (f.entry, f.there, f.number_is, is_eq f.entry.name r.name.name f.named)

    leaf : (j : ℕ) → slot_at t n j ≡ None
    leaf = is_leaf g t n (tree.named r.name.dir n (slot_names t r.name.dir r.slot n new_entry.0 new_entry.1 new_entry.2)).0 place.2

    no_slot_in : (d slot : ℕ) (e : Entry) → slot_of t d slot ≡ Some e → d ≢ n
    no_slot_in d slot e there same = none_some e (sym (leaf slot) ∙ ap (λ (x : ℕ). slot_at t x slot) (sym same) ∙ there)

    pub replaced_apart : (r.name.dir ≢ n) × (r.held.dir ≢ n)
    replaced_apart = (no_slot_in r.name.dir r.slot new_entry.0 new_entry.1, no_slot_in r.held.dir r.held.slot old_entry.0 old_entry.1)

    pub slotless : slots_at t n ≡ []
    slotless = slotless_at (unwrap_or (t n) (file [] [])) place.2

  -- ---- the slot of the new name

  pub places_apart : (o : Option ℕ) → IsPlacedAt g t r o → r.name.dir ≡ r.held.dir → r.slot ≢ r.held.slot
  places_apart None place same at =
      none_some old_entry.0 (sym (empty_slot g t r.name.dir r.slot place.1) ∙ ap (λ (d : ℕ). slot_at t d r.slot) same ∙ ap (slot_at t r.held.dir) at ∙ old_entry.1)
  places_apart (Some n) place same at =
      let e = new_entry n place in
      let one : e.0 ≡ old_entry.0 = some_same e.0 old_entry.0 (sym e.1 ∙ ap (λ (d : ℕ). slot_at t d r.slot) same ∙ ap (slot_at t r.held.dir) at ∙ old_entry.1) in
      place.1 (sym e.2 ∙ ap (λ (x : Entry). x.number) one ∙ old_entry.2)

  pub place_inside : (o : Option ℕ) → IsPlacedAt g t r o → r.slot ≤ length (slots_at t r.name.dir)
  place_inside None place = subst (λ (k : ℕ). k ≤ length (slots_at t r.name.dir)) (sym (new_slot_is g t r.name.dir r.slot place.1).0) (first_empty_within (slots_at t r.name.dir))
  place_inside (Some n) place = found_within r.name.name (slots_at t r.name.dir) (record { slot = r.slot; number = n }) place.0

-- ---- the move

module _ (g : Request) (z : State) (path to : List ℕ) (m : Move) (name : List ℕ) (tree : IsTree g z.tree) (is : IsRenaming g z.tree path to (rename_with m name)) where
  abbrev r : Rename
  r = rename_with m name

  placed_as : (o : Option NamedNode) → IsPlacedAt g z.tree r (number_of o) → IsPlaced g z.tree m name o
  placed_as None place = record { absent = place.0; room = place.1 }
  placed_as (Some node) place =
      let e = new_entry g z.tree path to r tree is node.number place in
      let apart = replaced_apart g z.tree path to r tree is node.number place in
      record {
        named = e.1 ∙ (λ i. Some (let x : Entry = record { name = e.3 i; number = e.2 i } in x));
        other = place.1;
        not_from = apart.1;
        not_to = apart.0;
        slotless = slotless g z.tree path to r tree is node.number place;
      }

  pub may_move : IsTree g (moved g z.tree m name).tree → MayMove g z m name
  may_move then =
      let old = old_entry g z.tree path to r tree is in
      record {
        tree = tree;
        from = from_kind g z.tree path to r tree is;
        entry = old.0;
        named = old.1;
        number = old.2;
        to = to_kind g z.tree path to r tree is;
        placed = placed_as m.replaced is.place;
        apart = places_apart g z.tree path to r tree is (number_of m.replaced) is.place;
        there = node_there g z.tree path to r tree is;
        not_from = node_not_from g z.tree path to r tree is;
        not_to = node_not_to g z.tree path to r tree is;
        tree_then = then;
      }
