-- A node that is made shorter, as a change at the node.
use Rattle.std.proofs.Common.{◌≡◌, ◌≢◌, ℕ, ◌<◌, ◌≤◌, ◌==◌, ◌&&◌, ◌||◌, not, Bool, true, false, is_some, List, [], ◌∷◌, ◌++◌, map, filter, ◌⊎◌, inl, inr, Option, Some, None, refl, sym, ap, ◌∙◌, subst, arith}
use Rattle.std.specs.Prelude.{nat_le, nat_lt}
use Rattle.std.specs.List.{list_any}
use Rattle.std.proofs.lemmas.Bool.{false≢true, both_ways, cases_Bool, or_cases, or_right, and_parts, and_from, leb-true, ltb-true, eqb-true, eq-eqb, false_from_ne_true}
use Rattle.std.proofs.lemmas.Grind.{flat_map-append}
use Rattle.edge_base.specs.declared.form.Form.TheVariants.{Plain}
use Rattle.edge_base.specs.declared.geometry.Request.{Request}
use Rattle.edge_base.specs.tree.Chains.{is_on_chain}
use Rattle.edge_base.specs.tree.Positions.{Position, data_at, same_position, has, ancestors, above_data, all_ancestors, chain, positions_of}
use Rattle.edge_base.proofs.ChainLaws.{has-positions_of, has-positions_of-number}
use Rattle.edge_base.proofs.PositionLaws.{has-append, same_position_Decides}
use Rattle.edge_store.specs.Changed.{has_index, IsBlockOf, IsNoBlockOf, NodeChanged, NodeDirtied}
use Rattle.edge_store.specs.Fresh.{is_dirty}
use Rattle.edge_store.specs.Placed.{block_at, data_block}
use Rattle.edge_store.specs.View.{View, Block, content, content_at, is_used}
use Rattle.edge_store.proofs.ChangedLaws.{same_truth, block_or_none, chain_of, data_there, touches, touches_removed, any_some, some_any}
use Rattle.edge_store.proofs.NodeEffects.{index_of}
use Rattle.edge_store.proofs.ViewLaws.{entries_of_whole}
use Rattle.edge_moves.specs.Sound.{numbered}
use Rattle.edge_moves.specs.Writable.{Came}
use Rattle.edge_moves.proofs.RangeLaws.{there_in_range}
use Rattle.edge_moves.proofs.SlotLaws.{entries_fit, some_pointers_fit}
use Rattle.edge_shape.specs.Cut.{is_split}
use Rattle.edge_shape.specs.Shape.{HasShape, before}
use Rattle.edge_shape.proofs.ListLaws.{any-filter}
use Rattle.edge_count.proofs.CutStepLaws.{before_is}
use Rattle.edge_file.specs.Shortened.{is_renewed, IsTrimmed}
use Rattle.edge_file.proofs.ChangeLaws.{all_kept, chains}
use Rattle.edge_file.proofs.TrimLaws.{was_there}

-- the indices from i on
abbrev pub from_on : ℕ → List ℕ → List ℕ
from_on i indices = filter (λ x. nat_le i x) indices

none_is : (o : Option Block) → is_some o ≡ false → o ≡ None
none_is None h = refl
none_is (Some x) h = absurd (false≢true (sym h))

-- ---- positions by number and form

module _ (g : Request) (n : ℕ) where
  at_n : (p : Position) → p.number ≡ n → numbered n p.form p.index ≡ p
  at_n p e = λ t. record { number = sym e t; form = p.form; index = p.index }

  or_false : (b : Bool) → (b || false) ≡ b
  or_false true = refl
  or_false false = refl

  -- a position of the node is on a chain where its form and its index say so
  chain_is : (x : ℕ) (p : Position) → p.number ≡ n → has (chain g n x) p ≡ is_on_chain g p.form p.index x
  chain_is x p number =
      sym (or_false (has (chain g n x) p)) ∙ sym (has-append (chain g n x) [] p) ∙ has-positions_of g n (x ∷ []) p
      ∙ ap (λ t. t && (is_on_chain g p.form p.index x || false)) (eq-eqb p.number n number) ∙ or_false (is_on_chain g p.form p.index x)

  -- what is written and what is removed touch the chains of the first, and what is above the others
  touches_both : (writes removes : List ℕ) (p : Position) → touches g n writes removes p ≡ (has (positions_of g n writes) p || touches g n [] removes p)
  touches_both writes removes p =
      has-append (map (data_at n) writes) (all_ancestors g (map (data_at n) removes ++ filter (λ q. not false) (map (data_at n) writes))) p
      ∙ ap (λ t. has (map (data_at n) writes) p || t) (ap (λ qs. has (all_ancestors g (map (data_at n) removes ++ qs)) p) (all_kept (map (data_at n) writes))
      ∙ ap (λ qs. has qs p) (flat_map-append (ancestors g) (map (data_at n) removes) (map (data_at n) writes))
      ∙ has-append (all_ancestors g (map (data_at n) removes)) (all_ancestors g (map (data_at n) writes)) p)
      ∙ order (has (map (data_at n) writes) p) (has (all_ancestors g (map (data_at n) removes)) p) (has (all_ancestors g (map (data_at n) writes)) p)
      ∙ (λ i. chains g n writes p i || has (all_ancestors g (no_more (map (data_at n) removes) i)) p)
    where
      order : (a b d : Bool) → (a || (b || d)) ≡ ((a || d) || b)
      order true b d = refl
      order false true true = refl
      order false true false = refl
      order false false d = sym (or_false d)

      no_more : (ps : List Position) → ps ≡ ps ++ []
      no_more [] = refl
      no_more (q ∷ qs) = ap (λ l. q ∷ l) (no_more qs)

module _ (g : Request) (c v w : View) (n i : ℕ) (touched indices : List ℕ) (shape : HasShape g v n indices) (trimmed : IsTrimmed g c v w n i touched indices) where
  abbrev rest : List ℕ
  rest = before i indices

  was_index : (k : ℕ) → has_index rest k ≡ true → (has_index indices k ≡ true) × (nat_lt k i ≡ true)
  was_index k h = and_parts (has_index indices k) (nat_lt k i) (sym (before_is i k indices) ∙ h)

  was : (p : Position) → has (positions_of g n rest) p ≡ true → has (positions_of g n indices) p ≡ true
  was p h = was_there g n i indices p h

  by_number : (xs : List ℕ) (p : Position) → has (positions_of g n xs) p ≡ true → numbered n p.form p.index ≡ p
  by_number xs p h = at_n g n p (has-positions_of-number g n xs p h)

  -- a position of the node that has a block is one of its positions
  placed_there : (p : Position) → p.number ≡ n → block_at g v p ≢ 0 → has (positions_of g n indices) p ≡ true
  placed_there p number some =
      let is = at_n g n p number in
      let low = there_in_range g v n (entries_fit g shape.geometry) (some_pointers_fit g shape.geometry) (entries_of_whole g v n shape.view shape.inode) p.form p.index (subst (λ (q : Position). block_at g v q ≢ 0) (sym is) some) in
      (shape.places.places p number low).0 some

  came_to : (p : Position) → has (positions_of g n rest) p ≡ true → (block_at g w p ≡ block_at g v p) ⊎ Came c v w (block_at g v p) (block_at g w p)
  came_to p h =
      let is = by_number rest p h in
      subst (λ (q : Position). (block_at g w q ≡ block_at g v q) ⊎ Came c v w (block_at g v q) (block_at g w q)) is (trimmed.came p.form p.index (ap (has (positions_of g n rest)) is ∙ h))

  gone : (p : Position) → has (positions_of g n indices) p ≡ true → has (positions_of g n rest) p ≡ false → w.blocks (block_at g v p) ≡ None
  gone p h out =
      let is = by_number indices p h in
      subst (λ (q : Position). w.blocks (block_at g v q) ≡ None) is (trimmed.dropped p.form p.index (ap (has (positions_of g n indices)) is ∙ h) (ap (has (positions_of g n rest)) is ∙ out))

  own_now : (b : ℕ) → is_used w b ≡ true → IsBlockOf g v n indices b → IsBlockOf g w n rest b
  own_now b used own = elim (cases_Bool (has (positions_of g n rest) own.position)) [
    | inl there ↦ by there (came_to own.position there)
    | inr out ↦ absurd (false≢true (sym (ap is_some (gone own.position own.is_there out)) ∙ ap (is_used w) own.block ∙ used))
  ]
    where
      by : has (positions_of g n rest) own.position ≡ true → ((block_at g w own.position ≡ block_at g v own.position) ⊎ Came c v w (block_at g v own.position) (block_at g w own.position))
          → IsBlockOf g w n rest b
      by there (inl same) = record { position = own.position; is_there = there; block = same ∙ own.block }
      by there (inr came) = absurd (false≢true (sym (ap is_some came.gone) ∙ ap (is_used w) own.block ∙ used))

  pub trimmed_changed : NodeChanged g v w n indices rest
  trimmed_changed = record {
    were = shape.places;
    places = trimmed.shape.places;
    once = trimmed.shape.once;
    inodes = trimmed.inodes;
    blocks = λ b used none. trimmed.others b used (λ form m some e. none (numbered n form m) (placed_there (numbered n form m) refl some) e);
    taken = λ p h. taken_by p h (came_to p h);
    left = λ b used. elim (cases_Bool (is_used v b)) [
      | inl there ↦ left_by b used there (block_or_none g v n indices b)
      | inr unused ↦
          let r = trimmed.used b used (none_is (v.blocks b) unused) in
          inl (record { position = numbered n r.0 r.1; is_there = r.2; block = r.3 })
    ];
  }
    where
      taken_by : (p : Position) → has (positions_of g n rest) p ≡ true → ((block_at g w p ≡ block_at g v p) ⊎ Came c v w (block_at g v p) (block_at g w p))
          → (is_used v (block_at g w p) ≡ false) ⊎ IsBlockOf g v n indices (block_at g w p)
      taken_by p h (inl same) = inr (record { position = p; is_there = was p h; block = sym same })
      taken_by p h (inr came) = inl (ap is_some came.fresh)

      left_by : (b : ℕ) → is_used w b ≡ true → is_used v b ≡ true → (IsBlockOf g v n indices b ⊎ IsNoBlockOf g v n indices b)
          → IsBlockOf g w n rest b ⊎ ((is_used v b ≡ true) × IsNoBlockOf g v n indices b)
      left_by b used there (inl own) = inl (own_now b used own)
      left_by b used there (inr none) = inr (there, none)

  -- ---- what is dirty

  is_part : (k : ℕ) → nat_le i k ≡ true → has_index indices k ≡ true → has_index (from_on i indices) k ≡ true
  is_part k from there =
      any-filter (λ x. nat_le i x) (λ x. x == k) indices
      ∙ some_any (λ x. nat_le i x && (x == k)) indices k there (and_from (nat_le i k) (k == k) from (eq-eqb k k refl))

  part_of : (k : ℕ) → has_index (from_on i indices) k ≡ true → (nat_le i k ≡ true) × (has_index indices k ≡ true)
  part_of k h =
      let r = any_some (λ x. nat_le i x && (x == k)) indices (sym (any-filter (λ x. nat_le i x) (λ x. x == k) indices) ∙ h) in
      let both = and_parts (nat_le i r.0) (r.0 == k) r.2 in
      let same = eqb-true r.0 k both.1 in
      (ap (nat_le i) (sym same) ∙ both.0, ap (has_index indices) (sym same) ∙ r.1)

  -- a position that is left is split where it is above an index that goes
  split_is : (p : Position) → has (positions_of g n rest) p ≡ true → is_split g i indices p.form p.index ≡ touches g n [] (from_on i indices) p
  split_is p h = same_truth (is_split g i indices p.form p.index) (touches g n [] (from_on i indices) p)
      (λ split.
      let both = and_parts (list_any (λ x. nat_le i x && is_on_chain g p.form p.index x) indices) (list_any (λ x. nat_lt x i && is_on_chain g p.form p.index x) indices) split in
      let r = any_some (λ x. nat_le i x && is_on_chain g p.form p.index x) indices both.0 in
      let parts = and_parts (nat_le i r.0) (is_on_chain g p.form p.index r.0) r.2 in
      touches_removed g n (from_on i indices) p ∙ some_any (λ x. has (above_data g n x) p) (from_on i indices) r.0 (is_part r.0 parts.0 r.1) (over r.0 parts.0 (chain_is g n r.0 p number ∙ parts.1)))
      (λ on.
      let r = any_some (λ x. has (above_data g n x) p) (from_on i indices) (sym (touches_removed g n (from_on i indices) p) ∙ on) in
      let parts = part_of r.0 r.1 in
      and_from (list_any (λ x. nat_le i x && is_on_chain g p.form p.index x) indices) (list_any (λ x. nat_lt x i && is_on_chain g p.form p.index x) indices)
      (some_any (λ x. nat_le i x && is_on_chain g p.form p.index x) indices r.0 parts.1 (and_from (nat_le i r.0) (is_on_chain g p.form p.index r.0) parts.0
      (sym (chain_is g n r.0 p number) ∙ or_right (same_position p (data_at n r.0)) (has (above_data g n r.0) p) r.2)))
      left_under)
    where
      number : p.number ≡ n
      number = has-positions_of-number g n rest p h

      left_under : list_any (λ x. nat_lt x i && is_on_chain g p.form p.index x) indices ≡ true
      left_under =
          let r = chain_of g n rest p h in
          let parts = was_index r.0 r.1 in
          some_any (λ x. nat_lt x i && is_on_chain g p.form p.index x) indices r.0 parts.0 (and_from (nat_lt r.0 i) (is_on_chain g p.form p.index r.0) parts.1 (sym (chain_is g n r.0 p number) ∙ r.2))

      apart : (x : ℕ) → i ≤ x → x < i → ⊥
      apart x low high = omega arith

      -- it is no data block that goes, and so it is above it
      over : (x : ℕ) → nat_le i x ≡ true → has (chain g n x) p ≡ true → has (above_data g n x) p ≡ true
      over x from on = elim (or_cases (same_position p (data_at n x)) (has (above_data g n x) p) on) [
        | inl here ↦
            let is : p ≡ data_at n x = (same_position_Decides p (data_at n x)).0 here in
            let left = was_index x (index_of g n rest x (ap (has (positions_of g n rest)) (sym is) ∙ h)) in
            absurd (apart x (leb-true i x from) (ltb-true x i left.1))
        | inr above ↦ above
      ]

  renewed_is : (p : Position) → has (positions_of g n rest) p ≡ true → is_renewed g n i touched indices p.form p.index ≡ touches g n touched (from_on i indices) p
  renewed_is p h =
      (λ t. has (positions_of g n touched) (by_number rest p h t) || split_is p h t) ∙ sym (touches_both g n touched (from_on i indices) p)

  pub trimmed_dirtied : NodeDirtied g c v w n indices rest touched (from_on i indices)
  trimmed_dirtied = record {
    dirty = λ p h.
        let is = by_number rest p h in
        subst (λ (q : Position). is_dirty g c w q ≡ (is_dirty g c v q || is_renewed g n i touched indices p.form p.index)) is (trimmed.dirty p.form p.index (ap (has (positions_of g n rest)) is ∙ h))
        ∙ ap (λ t. is_dirty g c v p || t) (renewed_is p h)
        ∙ sym (ap (λ t. (t && is_dirty g c v p) || touches g n touched (from_on i indices) p) (was p h));
    added = λ k there absent. absurd (false≢true (sym absent ∙ (was_index k there).0));
  }

  -- ---- what the others hold

  not_split : (k : ℕ) → has_index rest k ≡ true → is_split g i indices Plain k ≡ false
  not_split k there = false_from_ne_true (is_split g i indices Plain k) (λ split.
      let both = and_parts (list_any (λ x. nat_le i x && (x == k)) indices) (list_any (λ x. nat_lt x i && (x == k)) indices) split in
      let r = any_some (λ x. nat_le i x && (x == k)) indices both.0 in
      let parts = and_parts (nat_le i r.0) (r.0 == k) r.2 in
      apart k (leb-true i k (ap (nat_le i) (sym (eqb-true r.0 k parts.1)) ∙ parts.0)) (ltb-true k i (was_index k there).1))
    where
      apart : (x : ℕ) → i ≤ x → x < i → ⊥
      apart x low high = omega arith

  pub trimmed_contents : (k : ℕ) → has_index rest k ≡ true → has_index touched k ≡ false → content_at w Plain (data_block g w n k) ≡ content_at v Plain (data_block g v n k)
  trimmed_contents k there none =
      let at = data_there g n rest k there in
      let out : has (positions_of g n touched) (numbered n Plain k) ≡ false = not_touched in
      ap (content_at w Plain) (trimmed.moved Plain k at (or_none (has (positions_of g n touched) (numbered n Plain k)) (is_split g i indices Plain k) out (not_split k there)))
      ∙ ap (content Plain) (trimmed.holds k there out)
    where
      or_none : (a b : Bool) → a ≡ false → b ≡ false → (a || b) ≡ false
      or_none true b one two = one
      or_none false b one two = two

      not_touched : has (positions_of g n touched) (data_at n k) ≡ false
      not_touched = false_from_ne_true (has (positions_of g n touched) (data_at n k)) (λ on. both_ways (has_index touched k) none (index_of g n touched k on))
