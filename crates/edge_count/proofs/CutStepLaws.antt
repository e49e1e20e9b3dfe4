-- A cut takes the positions that it splits from the count of a change.
use Rattle.std.proofs.Common.{◌≡◌, ◌≢◌, ◌⊎◌, ℕ, ◌+◌, ◌<◌, ◌≤◌, ◌==◌, ◌&&◌, ◌||◌, not, Bool, true, false, List, [], ◌++◌, refl, sym, ap, ◌∙◌, subst, arith, inl, inr}
use Rattle.std.specs.Prelude.{nat_le, nat_lt}
use Rattle.std.specs.List.{list_any, filter}
use Rattle.std.specs.Cmp.{both_ways}
use Rattle.std.proofs.lemmas.Bool.{cases_eq, eqb-true, eq-eqb, and_parts, and_from, or_left, or_right}
use Rattle.std.proofs.lemmas.Bool.Decides.{nat_tests}
use Rattle.std.proofs.lemmas.List.Folds.{list_any-append}
use Rattle.edge_base.specs.declared.form.Form.{Form}
use Rattle.edge_base.specs.declared.form.Form.TheVariants.{Plain}
use Rattle.edge_base.specs.declared.geometry.Request.{Request}
use Rattle.edge_base.specs.layout.Places.{max_blocks_of}
use Rattle.edge_base.specs.tree.Chains.{is_on_chain}
use Rattle.edge_base.specs.tree.Positions.{Position, same_position, data_at, has, count_of, positions_of, ancestors, touched}
use Rattle.edge_base.proofs.PositionLaws.{has-append, has-filter, count_of-le_from_has, same_position_Decides}
use Rattle.edge_store.specs.View.{View}
use Rattle.edge_store.specs.Placed.{data_block}
use Rattle.edge_store.specs.Fresh.{is_dirty, has_after, is_there_after, fresh_positions, fresh_count}
use Rattle.edge_moves.specs.Sound.{numbered}
use Rattle.edge_shape.specs.Shape.{HasShape, before}
use Rattle.edge_shape.specs.Cut.{is_split, IsCut}
use Rattle.edge_shape.specs.Where.{cut_need}
use Rattle.edge_shape.proofs.ListLaws.{found, any_of, any-filter, is_false}
use Rattle.edge_shape.proofs.LeaveLaws.{position_of}
use Rattle.edge_count.specs.Cuts.{removed}
use Rattle.edge_count.specs.Frames.{KeepsBlocks, AreKept, AreOfOrKept, AreElsewhere, AreAmong}
use Rattle.edge_count.proofs.FreshLaws.{range_same, above, touches, touches_is, under, there_is, there_by, there_from, there_low, touches_by, step_count}
use Rattle.edge_count.proofs.TouchLaws.{touched_number, after_is}
use Rattle.edge_count.proofs.NeedLaws.{fresh_cut, touched_split}
use Rattle.edge_count.proofs.WriteLaws.{any_map}
use Rattle.edge_count.proofs.KeptLaws.{kept_dirty, absent_is}

-- ---- what is left

-- an index is left where it was there before i
pub before_is : (i x : ℕ) (indices : List ℕ) → list_any (λ k. k == x) (before i indices) ≡ (list_any (λ k. k == x) indices && nat_lt x i)
before_is i x indices = any-filter (λ k. nat_lt k i) (λ k. k == x) indices ∙ both_ways _ _
    (λ h.
    let f = found (λ k. nat_lt k i && (k == x)) indices h in
    let parts = and_parts (nat_lt f.0 i) (f.0 == x) f.2 in
    let is = eqb-true f.0 x parts.1 in
    and_from _ _ (subst (λ (m : ℕ). list_any (λ k. k == m) indices ≡ true) is f.1) (subst (λ (m : ℕ). nat_lt m i ≡ true) is parts.0))
    (λ h.
    let parts = and_parts (list_any (λ k. k == x) indices) (nat_lt x i) h in
    any_of (λ k. nat_lt k i && (k == x)) indices x parts.0 (and_from _ _ parts.1 (eq-eqb x x refl)))

-- a position that is removed is of the node that is cut
pub removed_number : (n i : ℕ) (indices : List ℕ) (m x : ℕ) → m ≢ n → has (removed n i indices) (data_at m x) ≡ false
removed_number n i indices m x away = is_false _ (λ h.
    let f =
    found (λ y. same_position (data_at m x) (data_at n y)) (filter (λ y. nat_le i y) indices)
    (sym (any_map (same_position (data_at m x)) (data_at n) (filter (λ y. nat_le i y) indices)) ∙ h) in
    away (ap (λ (r : Position). r.number) ((same_position_Decides (data_at m x) (data_at n f.0)).0 f.2)))

-- where what is written besides is there anyway, it changes nothing
there_anyway : (s t : Bool) → (s ≡ true → t ≡ true) → (s || t) ≡ t
there_anyway true t h = sym (h refl)
there_anyway false t h = refl

kept_besides : (p r s : Bool) → s ≡ false → (p && not (r || s)) ≡ (p && not r)
kept_besides p r s off = λ t. p && not (left t)
  where
    left : (r || s) ≡ r
    left = ap (λ u. r || u) off ∙ none r
      where
        none : (u : Bool) → (u || false) ≡ u
        none true = refl
        none false = refl

-- ---- a cut, with what is written and removed besides

module _ (g : Request) (c v : View) (n i : ℕ) (indices : List ℕ) (shape : HasShape g v n indices) (writes removes : List Position)
    (elsewhere : AreElsewhere n removes) where
  abbrev gone : List Position
  gone = removed n i indices

  abbrev all : List Position
  all = gone ++ removes

  abbrev left : ℕ → Bool
  left x = list_any (λ k. k == x) (before i indices)

  -- the positions above what is removed
  abbrev pub part : Position → Bool
  part p = touches g c v [] gone p

  not_removed : (x : ℕ) → has removes (data_at n x) ≡ false
  not_removed x = is_false _ (λ h. elsewhere (data_at n x) h refl)

  alone : (x : ℕ) → has_after g c v [] gone n x ≡ left x
  alone x = after_is g c v n i indices shape x ∙ sym (before_is i x indices)

  -- the cut alone has a part of what is fresh
  with_others : (x : ℕ) → has_after g c v [] gone n x ≡ true → has_after g c v writes all n x ≡ true
  with_others x h =
      or_right (has writes (data_at n x)) _
      ((λ t. not (data_block g v n x == 0) && not (has-append gone removes (data_at n x) t)) ∙ kept_besides (not (data_block g v n x == 0)) (has gone (data_at n x)) (has removes (data_at n x)) (not_removed x) ∙ h)

  pub part_number : (p : Position) → part p ≡ true → p.number ≡ n
  part_number p h = touched_number g c v n i indices shape p h

  pub part_touches : (p : Position) → touches g c v writes all p ≡ (part p || touches g c v writes removes p)
  part_touches p =
      touches_is g c v writes all p
      ∙ (λ t. has writes p || (list_any-append (λ q. has (ancestors g q) p) gone removes t || above g c v writes all writes p))
      ∙ order (has writes p) (above g c v writes removes gone p) (above g c v writes removes removes p) (above g c v writes removes writes p)
      ∙ (λ t. sym (touches_is g c v [] gone p) t || sym (touches_is g c v writes removes p) t)
    where
      order : (s a r y : Bool) → (s || ((a || r) || y)) ≡ ((false || (a || false)) || (s || (r || y)))
      order s a r y = grind (arith, nat_tests)

  part_stays : (p : Position) → part p ≡ true → is_there_after g c v [] gone p ≡ true → is_there_after g c v writes all p ≡ true
  part_stays p h there =
      let r = there_by g c v [] gone p there in
      let number = part_number p h in
      there_from g c v writes all p r.0 r.1
      (subst (λ (m : ℕ). has_after g c v writes all m r.0 ≡ true) (sym number) (with_others r.0 (subst (λ (m : ℕ). has_after g c v [] gone m r.0 ≡ true) number r.2))) r.3

  -- What a cut needs is a part of what the whole change needs.
  pub cut_part : cut_need g c v n i ≤ fresh_count g c v writes all
  unfolding fresh_count
  cut_part =
      subst (λ (m : ℕ). m ≤ count_of (fresh_positions g c v writes all)) (fresh_cut g c v n i indices shape)
      (count_of-le_from_has (fresh_positions g c v [] gone) (fresh_positions g c v writes all) (λ p h.
      let parts =
      and_parts (part p) (is_there_after g c v [] gone p && not (is_dirty g c v p))
      (sym (has-filter (λ q. is_there_after g c v [] gone q && not (is_dirty g c v q)) (touched g (λ q. false) [] gone) p) ∙ h) in
      let two = and_parts (is_there_after g c v [] gone p) (not (is_dirty g c v p)) parts.1 in
      has-filter (λ q. is_there_after g c v writes all q && not (is_dirty g c v q)) (touched g (λ q. false) writes all) p
      ∙ and_from _ _ (part_touches p ∙ or_left (part p) (touches g c v writes removes p) parts.0) (and_from _ _ (part_stays p parts.0 two.0) two.1)))

-- ---- the step

module _ (g : Request) (c v w : View) (n i : ℕ) (indices : List ℕ) (shape : HasShape g v n indices) (cut : IsCut g c v w n i indices)
    (writes removes : List Position)
    (of_writes : AreOfOrKept g v w n writes) (among : AreAmong n (before i indices) writes) (of_removes : AreKept g v w removes)
    (elsewhere : AreElsewhere n removes) where
  abbrev goes : List Position
  goes = removed n i indices

  abbrev both : List Position
  both = goes ++ removes

  abbrev rest : List ℕ
  rest = before i indices

  abbrev over : Position → Bool
  over p = part g c v n i indices shape writes removes elsewhere p

  written : (x : ℕ) → has writes (data_at n x) ≡ true → list_any (λ k. k == x) rest ≡ true
  written x h = among (data_at n x) h refl

  none_removed : (x : ℕ) → has removes (data_at n x) ≡ false
  none_removed x = not_removed g c v n i indices shape writes removes elsewhere x

  -- before the step and after it the same data blocks are there at the end
  at_first : (x : ℕ) → has_after g c v writes both n x ≡ list_any (λ k. k == x) rest
  at_first x =
      (λ t. has writes (data_at n x) || (not (data_block g v n x == 0) && not (has-append goes removes (data_at n x) t)))
      ∙ ap (λ t. has writes (data_at n x) || t) (kept_besides (not (data_block g v n x == 0)) (has goes (data_at n x)) (has removes (data_at n x)) (none_removed x)
      ∙ alone g c v n i indices shape writes removes elsewhere x)
      ∙ there_anyway (has writes (data_at n x)) (list_any (λ k. k == x) rest) (written x)

  at_last : (x : ℕ) → has_after g c w writes removes n x ≡ list_any (λ k. k == x) rest
  at_last x =
      ap (λ t. has writes (data_at n x) || t) ((λ t. not (absent_is g w n rest cut.shape x t) && not (none_removed x t)) ∙ twice (list_any (λ k. k == x) rest))
      ∙ there_anyway (has writes (data_at n x)) (list_any (λ k. k == x) rest) (written x)
    where
      twice : (t : Bool) → (not (not t) && true) ≡ t
      twice true = refl
      twice false = refl

  same_here : (m x : ℕ) → m ≡ n → has_after g c v writes both m x ≡ has_after g c w writes removes m x
  same_here m x here =
      ap (λ (k : ℕ). has_after g c v writes both k x) here ∙ at_first x ∙ sym (ap (λ (k : ℕ). has_after g c w writes removes k x) here ∙ at_last x)

  same_after : (m x : ℕ) → (m ≡ n) ⊎ KeepsBlocks g v w m → x < max_blocks_of g → has_after g c v writes both m x ≡ has_after g c w writes removes m x
  same_after m x (inl here) low = same_here m x here
  same_after m x (inr kept) low = elim (cases_eq m n) [
    | inl here ↦ same_here m x here
    | inr away ↦
        (λ t. has writes (data_at m x) || (not (data_block g v m x == 0) && not (has-append goes removes (data_at m x) t)))
        ∙ (λ t.
        has writes (data_at m x) || (not (sym (kept.places Plain x low) t == 0) && not (removed_number n i indices m x away t || has removes (data_at m x))))
  ]

  -- ---- a position that is touched besides

  of_node : (p : Position) → touches g c w writes removes p ≡ true → (p.number ≡ n) ⊎ KeepsBlocks g v w p.number
  of_node p named = touches_by g c w writes removes (λ (m : ℕ). (m ≡ n) ⊎ KeepsBlocks g v w m) of_writes (λ q h. inr (of_removes q h)) p named

  same_there : (p : Position) → touches g c w writes removes p ≡ true → is_there_after g c v writes both p ≡ is_there_after g c w writes removes p
  same_there p named =
      there_is g c v writes both p
      ∙ range_same (under g c v writes both p) (under g c w writes removes p) 0 (max_blocks_of g)
      (λ x below.
      ap (λ t. t && is_on_chain g p.form p.index x) (same_after p.number x (of_node p named) (let high : x < 0 + max_blocks_of g = below in let e : x < max_blocks_of g = omega arith in e)))
      ∙ sym (there_is g c w writes removes p)

  -- a position of the node that is there at the end is one that is left
  left_at : (form : Form) (m : ℕ) → is_there_after g c v writes both (numbered n form m) ≡ true → has (positions_of g n rest) (numbered n form m) ≡ true
  left_at form m there =
      let r = there_by g c v writes both (numbered n form m) there in
      position_of g w n rest cut.shape form m r.0 (sym (at_first r.0) ∙ r.2) r.3

  -- and there after the cut alone
  alone_there : (form : Form) (m : ℕ) → is_there_after g c v writes both (numbered n form m) ≡ true → is_there_after g c v [] goes (numbered n form m) ≡ true
  alone_there form m there =
      let r = there_by g c v writes both (numbered n form m) there in
      there_from g c v [] goes (numbered n form m) r.0 r.1 (alone g c v n i indices shape writes removes elsewhere r.0 ∙ sym (at_first r.0) ∙ r.2) r.3

  -- of those that are left the ones above what is removed are split
  at_node : (form : Form) (m : ℕ) → is_there_after g c v writes both (numbered n form m) ≡ true
      → not (is_dirty g c w (numbered n form m)) ≡ (not (is_dirty g c v (numbered n form m)) && not (over (numbered n form m)))
  at_node form m there =
      ap not (cut.dirty form m (left_at form m there)) ∙ negated (is_dirty g c v (numbered n form m)) (is_split g i indices form m) (over (numbered n form m))
      (sym (touched_split g c v n i indices shape form m) ∙ (λ t. over (numbered n form m) && alone_there form m there t) ∙ only (over (numbered n form m)))
    where
      only : (t : Bool) → (t && true) ≡ t
      only true = refl
      only false = refl

      negated : (d s a : Bool) → s ≡ a → not (d || s) ≡ (not d && not a)
      negated true s a e = refl
      negated false s a e = ap not e

  still_fresh : (p : Position) → touches g c w writes removes p ≡ true → is_there_after g c v writes both p ≡ true
      → not (is_dirty g c w p) ≡ (not (is_dirty g c v p) && not (over p))
  still_fresh p named there = elim (cases_eq p.number n) [
    | inl here ↦ subst (λ (k : ℕ). is_there_after g c v writes both (numbered k p.form p.index) ≡ true
        → not (is_dirty g c w (numbered k p.form p.index)) ≡ (not (is_dirty g c v (numbered k p.form p.index)) && not (over (numbered k p.form p.index)))) (sym here) (at_node p.form p.index) there
    | inr away ↦ elim (of_node p named) [
      | inl here ↦ absurd (away here)
      | inr kept ↦
          ap not (kept_dirty g c v w p kept (there_low g c v writes both p there))
          ∙ all_left (not (is_dirty g c v p)) (over p) (is_false (over p) (λ h. away (part_number g c v n i indices shape writes removes elsewhere p h)))
    ]
  ]
    where
      all_left : (f a : Bool) → a ≡ false → f ≡ (f && not a)
      all_left false a e = refl
      all_left true a e = sym (ap not e)

  part_touches_w : (p : Position) → touches g c v writes both p ≡ (over p || touches g c w writes removes p)
  part_touches_w p = part_touches g c v n i indices shape writes removes elsewhere p

  made_is : (p : Position) → has (fresh_positions g c v [] goes) p ≡ (over p && (is_there_after g c v writes both p && not (is_dirty g c v p)))
  made_is p = has-filter (λ q. is_there_after g c v [] goes q && not (is_dirty g c v q)) (touched g (λ q. false) [] goes) p
      ∙ same_part (over p) (is_there_after g c v [] goes p) (is_there_after g c v writes both p) (not (is_dirty g c v p)) (λ h. both_ways _ _
      (λ there. part_stays g c v n i indices shape writes removes elsewhere p h there)
      (λ there.
      let here = part_number g c v n i indices shape writes removes elsewhere p h in
      subst (λ (k : ℕ). is_there_after g c v writes both (numbered k p.form p.index) ≡ true → is_there_after g c v [] goes (numbered k p.form p.index) ≡ true) (sym here) (alone_there p.form p.index) there))
    where
      same_part : (a s t f : Bool) → (a ≡ true → s ≡ t) → (a && (s && f)) ≡ (a && (t && f))
      same_part false s t f e = refl
      same_part true s t f e = λ j. e refl j && f

  -- The count of the change is what the cut needs, and that of the rest afterwards.
  pub cut_step : fresh_count g c v writes both ≡ cut_need g c v n i + fresh_count g c w writes removes
  unfolding fresh_count
  cut_step =
      step_count g c v w writes both writes removes (fresh_positions g c v [] goes) over made_is part_touches_w same_there still_fresh
      ∙ ap (λ (m : ℕ). m + fresh_count g c w writes removes) (fresh_cut g c v n i indices shape)
