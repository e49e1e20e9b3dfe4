-- Where the block before a cut is written, the cut makes no further position dirty.
use Rattle.std.proofs.Common.{◌≡◌, ◌≢◌, ℕ, ◌-◌, ◌<◌, ◌≤◌, ◌==◌, ◌&&◌, ◌||◌, not, Bool, true, false, ltb, leb, List, [], ◌∷◌, ◌++◌, refl, sym, ap, ◌∙◌, subst, arith, inl, inr}
use Rattle.std.specs.Prelude.{nat_le}
use Rattle.std.specs.List.{list_any, filter, range_with_len}
use Rattle.std.proofs.lemmas.Bool.{cases_lt, eqb-true, eq-eqb, and_parts, and_from, or_cases, or_left, or_right, lt-ltb, le-leb, leb-true, ltb-true}
use Rattle.std.proofs.lemmas.Bool.Decides.{nat_tests}
use Rattle.std.proofs.lemmas.List.Folds.{list_any-append}
use Rattle.edge_base.specs.declared.form.Form.{Form}
use Rattle.edge_base.specs.declared.form.Form.TheVariants.{Plain, Indirect, Double}
use Rattle.edge_base.specs.declared.geometry.Request.{Request}
use Rattle.edge_base.specs.layout.Places.{pointers_of, max_blocks_of}
use Rattle.edge_base.specs.tree.Chains.{is_on_chain}
use Rattle.edge_base.specs.tree.Positions.{Position, same_position, data_at, above_data, chain, has, count_of, ancestors, all_ancestors, touched}
use Rattle.edge_base.proofs.ChainLaws.{has-positions_of}
use Rattle.edge_base.proofs.PositionLaws.{has-append, has-filter, has-flat_map, count_of-from_has, same_position_equiv, same_position_Decides}
use Rattle.edge_store.specs.View.{View}
use Rattle.edge_store.specs.Placed.{data_block}
use Rattle.edge_store.specs.Fresh.{is_dirty, has_after, is_there_after, fresh_positions, fresh_count}
use Rattle.edge_moves.specs.Relinks.{number_under}
use Rattle.edge_moves.specs.Sound.{numbered}
use Rattle.edge_shape.specs.Shape.{HasShape}
use Rattle.edge_shape.proofs.ListLaws.{found, any_of, any-filter, range_found, range_some}
use Rattle.edge_moves.proofs.SlotLaws.{some_pointers_fit}
use Rattle.edge_shape.proofs.LeaveLaws.{index_listed}
use Rattle.edge_shape.proofs.RangeLaws.{on_indirect-range, on_double-range}
use Rattle.edge_count.specs.Cuts.{removed}
use Rattle.edge_count.proofs.WriteLaws.{any_map, append_none, one_chain, fresh_chain}
use Rattle.edge_count.proofs.TouchLaws.{above_number, above_plain}

module _ (g : Request) (c v : View) (n i : ℕ) (indices : List ℕ) (shape : HasShape g v n indices) (some_i : 0 < i) (low_i : i ≤ max_blocks_of g) where
  abbrev last : ℕ
  last = i - 1

  abbrev writes : List Position
  writes = data_at n last ∷ []

  abbrev gone : List Position
  gone = removed n i indices

  -- a pointer node above two indices is above those between
  between : (form : Form) (m x y z : ℕ) → form ≢ Plain → is_on_chain g form m x ≡ true → is_on_chain g form m y ≡ true → y ≤ z → z ≤ x → is_on_chain g form m z ≡ true
  between form m x y z node hx hy low high = by form node hx hy
    where
      positive : 0 < pointers_of g
      positive = some_pointers_fit g shape.geometry

      inside : (lo upto : ℕ) → (leb lo x && ltb x upto) ≡ true → (leb lo y && ltb y upto) ≡ true → (leb lo z && ltb z upto) ≡ true
      inside lo upto a b =
          let p = and_parts (leb lo x) (ltb x upto) a in
          let q = and_parts (leb lo y) (ltb y upto) b in
          let up : x < upto = ltb-true x upto p.1 in
          let down : lo ≤ y = leb-true lo y q.0 in
          and_from _ _ (le-leb lo z (omega arith)) (lt-ltb z upto (omega arith))

      by : (f : Form) → f ≢ Plain → is_on_chain g f m x ≡ true → is_on_chain g f m y ≡ true → is_on_chain g f m z ≡ true
      by Plain is_node a b = absurd (is_node refl)
      by Indirect is_node a b = on_indirect-range g positive m z ∙ inside (number_under g Indirect m 0) (number_under g Indirect m (pointers_of g)) (sym (on_indirect-range g positive m x) ∙ a) (sym (on_indirect-range g positive m y) ∙ b)
      by Double is_node a b = on_double-range g positive m z
          ∙ inside (number_under g Indirect (number_under g Double m 0) 0) (number_under g Indirect (number_under g Double m (pointers_of g)) 0) (sym (on_double-range g positive m x) ∙ a) (sym (on_double-range g positive m y) ∙ b)

  -- ---- what is touched

  abbrev above_gone : Position → Bool
  above_gone p = list_any (λ q. has (ancestors g q) p) gone

  touched_both : (p : Position) → has (touched g (λ q. false) writes gone) p ≡ (has (chain g n last) p || above_gone p)
  touched_both p =
      has-append writes (all_ancestors g (gone ++ writes)) p
      ∙ (λ t. (same_position p (data_at n last) || false) || (has-flat_map (ancestors g) (gone ++ writes) p ∙ list_any-append (λ q. has (ancestors g q) p) gone writes) t)
      ∙ order (same_position p (data_at n last)) (above_gone p) (has (above_data g n last) p)
    where
      order : (s t u : Bool) → ((s || false) || (t || (u || false))) ≡ ((s || u) || t)
      order s t u = grind (arith, nat_tests)

  touched_one : (p : Position) → has (touched g (λ q. false) writes []) p ≡ has (chain g n last) p
  touched_one p = λ t. same_position p (data_at n last) || has (append_none (above_data g n last) t) p

  -- ---- what is there

  there_chain : (removed : List Position) (p : Position) → has (chain g n last) p ≡ true → is_there_after g c v writes removed p ≡ true
  there_chain removed p h =
      let parts = and_parts (p.number == n) (is_on_chain g p.form p.index last) (sym (one_chain g n last p) ∙ h) in
      let is : p.number ≡ n = eqb-true p.number n parts.0 in
      has-positions_of g p.number (filter (has_after g c v writes removed p.number) (range_with_len 0 (max_blocks_of g))) p
      ∙ (λ t. eq-eqb p.number p.number refl t && any-filter (has_after g c v writes removed p.number) (is_on_chain g p.form p.index) (range_with_len 0 (max_blocks_of g)) t)
      ∙ range_some (λ x. has_after g c v writes removed p.number x && is_on_chain g p.form p.index x) 0 (max_blocks_of g) last (omega arith) (omega arith)
      (and_from _ _ (or_left (has writes (data_at p.number last)) _ (or_left (same_position (data_at p.number last) (data_at n last)) false (subst (λ (m : ℕ). same_position (data_at p.number last) (data_at m last) ≡ true) is (same_position_equiv.refl (data_at p.number last))))) parts.1)

  not_plain : (p : Position) (x : ℕ) → p.number ≡ n → has (above_data g n x) p ≡ true → p.form ≢ Plain
  not_plain p x number h plain = absurd (let e : false ≡ true = sym (above_plain g n p.index x) ∙ subst (λ (f : Form). has (above_data g n x) (numbered n f p.index) ≡ true) plain (subst (λ (m : ℕ). has (above_data g n x) (numbered m p.form p.index) ≡ true) number h) in cc)

  there_gone : (p : Position) → above_gone p ≡ true → is_there_after g c v writes gone p ≡ true → has (chain g n last) p ≡ true
  there_gone p above there =
      let f = found (λ x. nat_le i x && has (above_data g n x) p) indices (sym (any_map (λ q. has (ancestors g q) p) (data_at n) (filter (λ x. nat_le i x) indices) ∙ any-filter (λ x. nat_le i x) (λ x. has (above_data g n x) p) indices) ∙ above) in
      let parts = and_parts (nat_le i f.0) (has (above_data g n f.0) p) f.2 in
      let number : p.number ≡ n = above_number g n f.0 p parts.1 in
      let on_x = and_parts (p.number == n) (is_on_chain g p.form p.index f.0) (sym (one_chain g n f.0 p) ∙ or_right (same_position p (data_at n f.0)) _ parts.1) in
      let high : i ≤ f.0 = leb-true i f.0 parts.0 in
      let any = and_parts (p.number == p.number) _ (sym (has-positions_of g p.number (filter (has_after g c v writes gone p.number) (range_with_len 0 (max_blocks_of g))) p) ∙ there) in
      let r = range_found (λ y. has_after g c v writes gone p.number y && is_on_chain g p.form p.index y) 0 (max_blocks_of g) (sym (any-filter (has_after g c v writes gone p.number) (is_on_chain g p.form p.index) (range_with_len 0 (max_blocks_of g))) ∙ any.1) in
      let stays = and_parts (has_after g c v writes gone p.number r.0) (is_on_chain g p.form p.index r.0) r.3 in
      let before : r.0 ≤ last = before_i r.0 (subst (λ (m : ℕ). has_after g c v writes gone m r.0 ≡ true) number stays.0) in
      one_chain g n last p ∙ and_from _ _ on_x.0 (between p.form p.index f.0 r.0 last (not_plain p f.0 number parts.1) on_x.1 stays.1 before (omega arith))
    where
      removed : (x : ℕ) → list_any (λ k. k == x) indices ≡ true → i ≤ x → has gone (data_at n x) ≡ true
      removed x m high = any_map (same_position (data_at n x)) (data_at n) (filter (λ x. nat_le i x) indices) ∙ any-filter (λ y. nat_le i y) (λ y. same_position (data_at n x) (data_at n y)) indices
          ∙ any_of (λ y. nat_le i y && same_position (data_at n x) (data_at n y)) indices x m (and_from _ _ (le-leb i x high) (same_position_equiv.refl (data_at n x)))

      before_i : (y : ℕ) → has_after g c v writes gone n y ≡ true → y ≤ last
      before_i y h = elim (or_cases (has writes (data_at n y)) (not (data_block g v n y == 0) && not (has gone (data_at n y))) h) [
        | inl written ↦ elim (or_cases (same_position (data_at n y) (data_at n last)) false written) [
          | inl same ↦ let is : y ≡ last = ap (λ (r : Position). r.index) ((same_position_Decides (data_at n y) (data_at n last)).0 same) in omega arith
          | inr other ↦ absurd (let e : false ≡ true = other in cc)
        ]
        | inr kept ↦
            let parts = and_parts (not (data_block g v n y == 0)) (not (has gone (data_at n y))) kept in
            elim (cases_lt y i) [
              | inl low ↦ omega arith
              | inr high ↦ absurd (clash (has gone (data_at n y)) parts.1 (removed y (index_listed g v n indices shape y (not_zero (data_block g v n y) parts.0)) high))
            ]
      ]
        where
          not_zero : (b : ℕ) → not (b == 0) ≡ true → b ≢ 0
          not_zero b h e = grind (arith, nat_tests)

          clash : (t : Bool) → not t ≡ true → t ≡ true → ⊥
          clash true h e = let f : false ≡ true = h in cc
          clash false h e = let f : false ≡ true = e in cc

  -- the fresh positions of a cut that writes the block before it are those of that block alone
  pub fresh_size : fresh_count g c v writes gone ≡ fresh_count g c v writes []
  unfolding fresh_count
  fresh_size = count_of-from_has (fresh_positions g c v writes gone) (fresh_positions g c v writes []) (λ p.
      has-filter (λ q. is_there_after g c v writes gone q && not (is_dirty g c v q)) (touched g (λ q. false) writes gone) p
      ∙ ap (λ t. t && (is_there_after g c v writes gone p && not (is_dirty g c v p))) (touched_both p)
      ∙ by (has (chain g n last) p) (above_gone p) (is_there_after g c v writes gone p) (is_there_after g c v writes [] p) (not (is_dirty g c v p)) (there_chain gone p) (there_chain [] p) (there_gone p)
      ∙ sym (ap (λ t. t && (is_there_after g c v writes [] p && not (is_dirty g c v p))) (touched_one p))
      ∙ sym (has-filter (λ q. is_there_after g c v writes [] q && not (is_dirty g c v q)) (touched g (λ q. false) writes []) p))
    where
      by : (on above there one new : Bool) → (on ≡ true → there ≡ true) → (on ≡ true → one ≡ true) → (above ≡ true → there ≡ true → on ≡ true) → ((on || above) && (there && new)) ≡ (on && (one && new))
      by true above there one new a b d = (λ t. a refl t && new) ∙ sym (λ t. b refl t && new)
      by false true true one new a b d = absurd (let e : false ≡ true = d refl refl in cc)
      by false true false one new a b d = refl
      by false false there one new a b d = refl

  -- they are those of its chain
  pub fresh_size-chain : fresh_count g c v writes gone ≡ count_of (filter (λ p. not (is_dirty g c v p)) (chain g n last))
  fresh_size-chain = fresh_size ∙ fresh_chain g c v n last (omega arith)
