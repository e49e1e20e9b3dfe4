-- A name moved from slot sf of directory df to slot st of directory dt, as a change of slots: how many blocks are left of the directory that
-- loses it, and what is removed.
use Rattle.std.proofs.Common.{◌≡◌, ◌≢◌, ◌∙◌, ℕ, ◌+◌, ◌-◌, ◌/◌, ◌==◌, ◌<◌, ◌≤◌, ◌&&◌, ◌||◌, Bool, true, false, cond, max, List, [], ◌∷◌, ◌++◌, filter, length, map, is_some, slice_set, inl, inr, refl, sym, ap, subst, arith, Option, Some, None}
use Rattle.std.specs.Prelude.{nat_le, nat_lt}
use Rattle.std.specs.List.{list_any, range_with_len}
use Rattle.std.specs.Cmp.{both_ways}
use Rattle.std.proofs.lemmas.Bool.{and_from, and_parts, cases_eq, cond-true, eq-eqb, eqb-true, le-leb, leb-true, lt-ltb, ltb-true}
use Rattle.std.proofs.lemmas.Bool.Decides.{nat_tests}
use Rattle.edge_base.specs.declared.geometry.Request.{Request}
use Rattle.edge_base.specs.layout.Places.{IsWithinLimits}
use Rattle.edge_base.specs.tree.Nodes.{Node, directory}
use Rattle.edge_base.specs.tree.Positions.{Position, data_at, has, same_position}
use Rattle.edge_base.specs.tree.Slots.{Entry, Slots, slot_blocks, slots_in_block, trimmed}
use Rattle.edge_base.proofs.CountLaws.{is_member-range}
use Rattle.edge_base.proofs.PositionLaws.{has-append}
use Rattle.edge_store.specs.Changed.{has_index}
use Rattle.edge_store.specs.View.{View}
use Rattle.edge_count.specs.Cuts.{removed}
use Rattle.edge_count.proofs.WriteLaws.{any_map}
use Rattle.edge_shape.proofs.ListLaws.{any-filter, any_of, found}
use Rattle.edge_file.proofs.RangeLaws.{any_alike, append_none}
use Rattle.edge_dir.specs.Written.{IsSetTo}
use Rattle.edge_dir.proofs.EndLaws.{some_slots}
use Rattle.edge_dir.proofs.SetLaws.{blocks_filled, length_filled}
use Rattle.edge_dir.proofs.WriteLaws.{range_has}
use Rattle.edge_space.specs.declared.change.Change.{Change}
use Rattle.edge_space.specs.declared.change.Change.TheVariants as c
use Rattle.edge_space.specs.declared.change.SlotAt.{SlotAt}
use Rattle.edge_space.specs.Slots.{IsCleared}
use Rattle.edge_space.proofs.LeftLaws.{left_is}
use Rattle.edge_model.specs.Named.{cleared, clear_removes, clear_writes, placed, slot_position, with_slot, without_slot}
use Rattle.edge_model.specs.Names.{has_one_link, renamed, with_parent}
use Rattle.edge_model.specs.Rules.{IsTree}
use Rattle.edge_model.specs.State.{Edit}
use Rattle.edge_model.specs.Tree.{Tree, data_positions, is_directory, slots_at, with_node}
use Rattle.edge_model.specs.Walk.{within}
use Rattle.edge_stands.specs.Stands.{indices_at}
use Rattle.edge_image.specs.Opens.{StandsFor}
use Rattle.edge_image.proofs.NodeLaws.{has_node}
use Rattle.edge_steps.specs.Naming.{slot_of}
use Rattle.edge_steps.proofs.CountLaws.{slot_at}
use Rattle.edge_steps.proofs.NodeLaws.{cleared_set, directory_is, directory_there, node_set, placed_set, placed_slot, same_kinds, slots_are, slots_others}
use Rattle.edge_steps.proofs.RenameLaws.{parent_set}
use Rattle.edge_steps.proofs.SlotLaws.{cleared_elsewhere, cleared_here, placed_trimmed, slot_in, slot_inside, to_slotwise, trimmed_twice}
use Rattle.edge_room.specs.Room.{NamesEdit, blocks_in, goes_with}
use Rattle.edge_room.proofs.NamedLaws.{KeepsNodes, append_stay, both_stay, data_stay, if_stay, one_goes, removes_kept}

-- ---- which data blocks are removed

-- those behind the blocks that are left, whether they are counted with an entry that was put or without it
module _ (held count left : ℕ) (same : left < held → held ≤ max count left) (more : count ≤ held) where
  removed_same : (i : ℕ) → list_any (λ k. k == i) (range_with_len left (held - left)) ≡ list_any (λ k. k == i) (filter (λ x. nat_le left x) (range_with_len 0 count))
  removed_same i =
      (λ t. list_any (λ k. swap k i t) (range_with_len left (held - left))) ∙ is_member-range left (held - left) i
      ∙ decide
      ∙ sym (any-filter (λ x. nat_le left x) (λ k. k == i) (range_with_len 0 count) ∙ kept)
    where
      swap : (k j : ℕ) → (k == j) ≡ (j == k)
      swap k j = grind (arith, nat_tests)

      decide : (nat_le left i && nat_lt i (left + (held - left))) ≡ (nat_le left i && nat_lt i count)
      decide = both_ways _ _
          (λ h.
          let p = and_parts (nat_le left i) (nat_lt i (left + (held - left))) h in
          let low = leb-true left i p.0 in
          let high = ltb-true i (left + (held - left)) p.1 in
          let most = same (omega (arith, low, high)) in
          and_from _ _ p.0 (lt-ltb i count (omega (arith, low, high, most))))
          (λ h.
          let p = and_parts (nat_le left i) (nat_lt i count) h in
          let low = leb-true left i p.0 in
          let high = ltb-true i count p.1 in
          let all = more in
          and_from _ _ p.0 (lt-ltb i (left + (held - left)) (omega (arith, low, high, all))))

      kept : list_any (λ x. nat_le left x && (x == i)) (range_with_len 0 count) ≡ (nat_le left i && nat_lt i count)
      kept = both_ways _ _
          (λ h.
          let f = found (λ x. nat_le left x && (x == i)) (range_with_len 0 count) h in
          let p = and_parts (nat_le left f.0) (f.0 == i) f.2 in
          let is = eqb-true f.0 i p.1 in
          and_from _ _ (ap (nat_le left) (sym is) ∙ p.0) (sym (range_has count i) ∙ ap (has_index (range_with_len 0 count)) (sym is) ∙ f.1))
          (λ h.
          let p = and_parts (nat_le left i) (nat_lt i count) h in
          any_of (λ x. nat_le left x && (x == i)) (range_with_len 0 count) i (range_has count i ∙ p.1) (and_from _ _ p.0 (eq-eqb i i refl)))

-- ---- the directory that loses the name

module _ (g : Request) (v : View) (t : Tree) (df sf dt st n : ℕ) (name : List ℕ) (limits : IsWithinLimits g) (tree : IsTree g t) (stands : StandsFor g v t) (from : is_directory t df ≡ true)
    (old : Entry) (was : slot_of t df sf ≡ Some old) (to : is_directory t dt ≡ true) (inside : st ≤ length (slots_at t dt)) (apart : dt ≡ df → st ≢ sf) where
  abbrev entry : Entry
  entry = record { name = name; number = n }

  abbrev held : Tree
  held = placed t dt st entry

  abbrev put : SlotAt
  put = record { dir = dt; slot = st }

  abbrev clear : SlotAt
  clear = record { dir = df; slot = sf }

  abbrev pub left : ℕ
  left = slot_blocks g (without_slot (slots_at held df) sf)

  abbrev node : (slots : Slots) × (parent : ℕ) × (t df ≡ Some (directory slots parent))
  node = directory_is t df from

  slots_same : slots_at t df ≡ node.0
  slots_same = slots_are t df node.0 node.1 node.2

  here : dt ≡ df → IsSetTo node.0 (slots_at held df) st (Some entry)
  here same =
      let set = placed_slot t dt st entry to inside in (
        ap (λ (d : ℕ). slot_at held d st) (sym same) ∙ set.here,
        λ j other. set.others df j (λ is at. other at) ∙ ap (λ (s : Slots). slot_in s j) slots_same,
      )

  elsewhere : dt ≢ df → slots_at held df ≡ node.0
  elsewhere other = slots_others t held dt _ df (placed_set t dt st entry to).set (λ same. other (sym same)) ∙ slots_same

  pub are_left : IsCleared g v (Some put) clear left
  are_left = record {
    slots = node.0;
    parent = node.1;
    node = has_node g v t df (directory node.0 node.1) tree stands node.2;
    in_range = slot_inside node.0 sf old (ap (λ (s : Slots). slot_in s sf) (sym slots_same) ∙ was);
    held = slots_at held df;
    is_held = (λ same. (entry, here same), elsewhere);
    apart = apart;
    after = without_slot (slots_at held df) sf;
    after_trimmed = trimmed_twice (slice_set (slots_at held df) sf None);
    is_cleared = (cleared_here (slots_at held df) sf, λ j other. cleared_elsewhere (slots_at held df) sf j other);
    left_are = refl;
  }

  rules_trimmed : trimmed node.0 ≡ node.0
  rules_trimmed = (to_slotwise g node.0 (tree.nodes df (directory node.0 node.1) node.2)).last_filled

  held_trimmed : dt ≡ df → trimmed (slots_at held df) ≡ slots_at held df
  held_trimmed same =
      let set = placed_set t dt st entry to in
      let slots : slots_at held df ≡ with_slot (slots_at t dt) st entry = ap (slots_at held) (sym same) ∙ slots_are held dt _ _ set.set.here in
      let trim : trimmed (slots_at t dt) ≡ slots_at t dt = subst (λ (s : Slots). trimmed s ≡ s) (sym (ap (slots_at t) same ∙ slots_same)) rules_trimmed in
      subst (λ (s : Slots). trimmed s ≡ s) (sym slots) (placed_trimmed (slots_at t dt) st entry inside trim)

  -- how many blocks it has with the entry that is put
  held_blocks : (slot_blocks g node.0 ≤ slot_blocks g (slots_at held df)) × (left < slot_blocks g (slots_at held df) → slot_blocks g (slots_at held df) ≤ max (slot_blocks g node.0) left)
  held_blocks = elim (cases_eq dt df) [
    | inl same ↦
        let set = here same in
        let long = length_filled node.0 (slots_at held df) st entry rules_trimmed (held_trimmed same) set in
        let blocks = blocks_filled (slots_in_block g) st (length node.0) (length (slots_at held df)) (some_slots g limits) long in
        let alone = left_is g v (Some put) clear left limits are_left in
        let least = alone.is_left ∙ cond-true (dt == df) _ _ (eq-eqb dt df same) in
        (omega (arith, blocks), λ less. omega (arith, blocks, least))
    | inr other ↦
        let e = ap (slot_blocks g) (elsewhere other) in
        (omega (arith, e), λ less. omega (arith, e))
  ]

  -- the blocks that are removed are those of the change
  pub removes_same : (p : Position) → has (clear_removes g df (slots_at held df) sf) p ≡ has (removed df left (blocks_in g t df)) p
  removes_same p =
      any_map (same_position p) (data_at df) (range_with_len left (slot_blocks g (slots_at held df) - left))
      ∙ any_alike (λ x. same_position p (data_at df x)) (range_with_len left (slot_blocks g (slots_at held df) - left)) (filter (λ x. nat_le left x) (range_with_len 0 (slot_blocks g node.0)))
      (removed_same (slot_blocks g (slots_at held df)) (slot_blocks g node.0) left held_blocks.1 held_blocks.0)
      ∙ sym (any_map (same_position p) (data_at df) (filter (λ x. nat_le left x) (range_with_len 0 (slot_blocks g node.0))))
      ∙ ap (λ (xs : List ℕ). has (removed df left xs) p) (sym indices)
    where
      indices : blocks_in g t df ≡ range_with_len 0 (slot_blocks g node.0)
      indices = ap (indices_at g) node.2

  -- ---- the nodes that stay

  abbrev moved : Tree
  moved = cleared held df sf

  moved_there : (x : ℕ) → is_some (moved x) ≡ is_some (t x)
  moved_there x =
      let one = same_kinds t held dt _ (placed_set t dt st entry to) in
      let two = same_kinds held moved df _ (cleared_set held df sf (one.kinds df ∙ from)) in
      two.there x ∙ one.there x

  abbrev writes : List Position
  writes = slot_position g dt st ∷ clear_writes g df (slots_at held df) sf

  abbrev removes : List Position
  removes = clear_removes g df (slots_at held df) sf

  -- to tree u, with these data blocks gone besides
  abbrev edit : Tree → List Position → Edit
  edit u gone = record { tree = u; writes = writes; removes = removes ++ gone; reserve = 3 }

  abbrev change : Change
  change = c.Slots (Some put) (Some clear)

  edit_named : (u : Tree) (gone : List Position) → is_some (u dt) ≡ true → is_some (u df) ≡ true
      → ((p : Position) → has (removes ++ gone) p ≡ (has removes p || goes_with g t u p)) → NamesEdit g v t change 3 (edit u gone)
  edit_named u gone to_stays from_stays all = record {
    left = left;
    are_left = are_left;
    writes = λ p. refl;
    removes = λ p. all p ∙ ap (λ b. b || goes_with g t u p) (removes_same p);
    stay = both_stay u writes (removed df left (blocks_in g t df))
        (append_stay u (slot_position g dt st ∷ []) (clear_writes g df (slots_at held df) sf) (data_stay u dt (st / slots_in_block g ∷ []) to_stays)
        (if_stay u (nat_lt (sf / slots_in_block g) left) (slot_position g df sf ∷ []) (data_stay u df (sf / slots_in_block g ∷ []) from_stays)))
        (data_stay u df (filter (λ x. nat_le left x) (blocks_in g t df)) from_stays);
    leaves = refl;
  }

  -- no node is dropped
  all_stay : NamesEdit g v t change 3 (edit (with_parent moved n dt) [])
  all_stay =
      let u = with_parent moved n dt in
      let kept : KeepsNodes t u = λ x h. (parent_set moved n dt).there x ∙ moved_there x ∙ h in
      edit_named u [] (kept dt (directory_there t dt to)) (kept df (directory_there t df from))
      (λ p. ap (λ ps. has ps p) (append_none removes) ∙ removes_kept g t u kept removes p)

  -- node r is
  one_goes_by : (r : ℕ) → dt ≢ r → df ≢ r → NamesEdit g v t change 3 (edit (with_parent (with_node moved r None) n dt) (data_positions g t r))
  one_goes_by r not_to not_from =
      let w = with_node moved r None in
      let u = with_parent w n dt in
      let own = node_set moved r None in
      let gone : is_some (u r) ≡ false = (parent_set w n dt).there r ∙ ap (λ (o : Option Node). is_some o) own.here in
      let kept : (x : ℕ) → x ≢ r → is_some (t x) ≡ true → is_some (u x) ≡ true =
      λ x other h. (parent_set w n dt).there x ∙ ap (λ (o : Option Node). is_some o) (own.others x other) ∙ moved_there x ∙ h in
      edit_named u (data_positions g t r) (kept dt not_to (directory_there t dt to)) (kept df not_from (directory_there t df from)) (one_goes g t u r gone kept removes)

  by_links : (r : ℕ) (last : Bool) → dt ≢ r → df ≢ r
      → NamesEdit g v t change 3 (edit (with_parent (cond last (with_node moved r None) moved) n dt) (cond last (data_positions g t r) []))
  by_links r true not_to not_from = one_goes_by r not_to not_from
  by_links r false not_to not_from = all_stay

  pub named : (replaced : Option ℕ) → ((r : ℕ) → replaced ≡ Some r → (dt ≢ r) × (df ≢ r))
      → NamesEdit g v t change 3 (renamed g t (within df []) (record { slot = sf; number = n }) (within dt name) st replaced)
  named None apart = all_stay
  named (Some r) apart = let a = apart r refl in by_links r (has_one_link g t r) a.0 a.1
