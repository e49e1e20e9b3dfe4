-- One rewriting of a node behind another.
use Rattle.std.proofs.Common.{◌≡◌, ◌≢◌, ◌⊎◌, ℕ, ◌+◌, ◌<◌, ◌≤◌, ◌&&◌, ◌||◌, not, Bool, true, false, inl, inr, List, ◌++◌, Option, Some, None, filter, refl, sym, ap, ◌∙◌, subst, arith, append_assoc}
use Rattle.std.specs.Prelude.{is_some, ◌↔◌}
use Rattle.std.proofs.lemmas.Bool.{cases_Bool, both_ways, and_parts, and_left, or_cases, or_parts, or_left, or_right, or_from, not-true, cases_eq, false_from_ne_true}
use Rattle.std.proofs.lemmas.Bool.Decides.{nat_tests}
use Rattle.edge_base.specs.declared.geometry.Request.{Request}
use Rattle.edge_base.specs.layout.Places.{entries_of, pointers_of}
use Rattle.edge_base.specs.tree.Positions.{Position, has, positions_of, positions_of_form}
use Rattle.edge_base.proofs.ChainLaws.{has-positions_of-number}
use Rattle.edge_base.proofs.PositionLaws.{has-append, has-filter, count_of-from_has, count_of-append_apart}
use Rattle.edge_store.specs.Fresh.{is_dirty}
use Rattle.edge_store.specs.Placed.{block_at, HasPlaces, IsOnce}
use Rattle.edge_store.specs.View.{View, Block, IsView, is_used, is_new, is_whole, free_now}
use Rattle.edge_store.proofs.ViewLaws.{used_of, unused_zero, entries_of_whole}
use Rattle.edge_moves.specs.Sound.{numbered}
use Rattle.edge_moves.specs.Writable.{Came}
use Rattle.edge_moves.proofs.RangeLaws.{there_in_range}
use Rattle.edge_file.specs.Rewritten.{IsRewritten, fresh_on}
use Rattle.edge_file.proofs.RangeLaws.{positions_both, positions_alike, lists}

none_of : (o : Option Block) → is_some o ≡ false → o ≡ None
none_of None e = refl
none_of (Some block) e = absurd (let f : true ≡ false = e in cc)

-- ---- a node with its places

module _ (g : Request) (u : View) (n : ℕ) (fits : g.direct + g.indirect ≤ entries_of g) (some : 0 < pointers_of g) (view : IsView g u) (is : is_whole (u.inodes n) ≡ true)
    (indices : List ℕ) (places : HasPlaces g u n indices) where
  numbered_as : (p : Position) → p.number ≡ n → numbered n p.form p.index ≡ p
  numbered_as p e = λ t. record { number = sym e t; form = p.form; index = p.index }

  pub place_used : (p : Position) → has (positions_of g n indices) p ≡ true → is_used u (block_at g u p) ≡ true
  place_used p h = used_of p.form (u.blocks (block_at g u p)) n (places.spots p h)

  pub place_there : (p : Position) → has (positions_of g n indices) p ≡ true → block_at g u p ≢ 0
  place_there p h none = both_ways (is_used u (block_at g u p)) (ap (is_used u) none ∙ ap is_some (unused_zero g u view)) (place_used p h)

  pub place_in_range : (p : Position) → has (positions_of g n indices) p ≡ true → p.index < positions_of_form g p.form
  place_in_range p h =
      let e = numbered_as p (has-positions_of-number g n indices p h) in
      there_in_range g u n fits some (entries_of_whole g u n view is) p.form p.index (subst (λ (q : Position). block_at g u q ≢ 0) (sym e) (place_there p h))

  pub place_absent : (p : Position) → p.number ≡ n → p.index < positions_of_form g p.form → has (positions_of g n indices) p ≡ false → block_at g u p ≡ 0
  place_absent p number low out = elim (cases_eq (block_at g u p) 0) [
    | inl none ↦ none
    | inr there ↦ absurd (both_ways (has (positions_of g n indices) p) out ((places.places p number low).0 there))
  ]

-- ---- the same data blocks in another list

module _ (g : Request) (c v w : View) (n : ℕ) (xs ys indices : List ℕ) (same : (i : ℕ) → lists xs i ≡ lists ys i) where
  alike : (p : Position) → has (positions_of g n xs) p ≡ has (positions_of g n ys) p
  alike = positions_alike g n xs ys same

  all_alike : (p : Position) → has (positions_of g n (xs ++ indices)) p ≡ has (positions_of g n (ys ++ indices)) p
  all_alike p = positions_both g n xs indices p ∙ ap (λ t. t || has (positions_of g n indices) p) (alike p) ∙ sym (positions_both g n ys indices p)

  pub fresh_on-alike : fresh_on g c v n xs ≡ fresh_on g c v n ys
  unfolding fresh_on
  fresh_on-alike = count_of-from_has (filter (λ p. not (is_dirty g c v p)) (positions_of g n xs)) (filter (λ p. not (is_dirty g c v p)) (positions_of g n ys))
      (λ p. has-filter (λ p. not (is_dirty g c v p)) (positions_of g n xs) p ∙ ap (λ t. t && not (is_dirty g c v p)) (alike p) ∙ sym (has-filter (λ p. not (is_dirty g c v p)) (positions_of g n ys) p))

  pub rewritten-alike : IsRewritten g c v w n xs indices → IsRewritten g c v w n ys indices
  rewritten-alike r = record {
    places = record {
      places = λ p number low. subst (λ (t : Bool). (block_at g w p ≢ 0) ↔ (t ≡ true)) (all_alike p) (r.places.places p number low);
      spots = λ p h. r.places.spots p (all_alike p ∙ h);
    };
    once = λ p q hp hq e. r.once p q (all_alike p ∙ hp) (all_alike q ∙ hq) e;
    dirty = λ p h. r.dirty p (alike p ∙ h);
    came = λ p h. r.came p (alike p ∙ h);
    stays = λ p h out. r.stays p h (alike p ∙ out);
    holds = λ p h out. r.holds p h (alike p ∙ out);
    inodes = r.inodes;
    others = λ b used apart. r.others b used (λ p h. apart p (sym (alike p) ∙ h));
    used = λ b none used. let x = r.used b none used in (x.0, sym (alike x.0) ∙ x.1, x.2);
    free = ap (λ (k : ℕ). free_now g c w + k) (sym fresh_on-alike) ∙ r.free;
  }

-- ---- one behind another

module _ (g : Request) (c v m : View) (n : ℕ) (one two indices : List ℕ) (fits : g.direct + g.indirect ≤ entries_of g) (some : 0 < pointers_of g)
    (view_v : IsView g v) (view_m : IsView g m) (is_v : is_whole (v.inodes n) ≡ true) (is_m : is_whole (m.inodes n) ≡ true)
    (places : HasPlaces g v n indices) (first : IsRewritten g c v m n one indices) (low_two : (p : Position) → has (positions_of g n two) p ≡ true → p.index < positions_of_form g p.form) where
  abbrev in_one : Position → Bool
  in_one p = has (positions_of g n one) p

  abbrev in_two : Position → Bool
  in_two p = has (positions_of g n two) p

  abbrev before : Position → Bool
  before p = has (positions_of g n indices) p

  between : (p : Position) → has (positions_of g n (one ++ indices)) p ≡ (in_one p || before p)
  between p = positions_both g n one indices p

  both : (p : Position) → has (positions_of g n (two ++ one)) p ≡ (in_two p || in_one p)
  both p = positions_both g n two one p

  one_between : (p : Position) → in_one p ≡ true → has (positions_of g n (one ++ indices)) p ≡ true
  one_between p h = between p ∙ or_left (in_one p) (before p) h

  before_between : (p : Position) → before p ≡ true → has (positions_of g n (one ++ indices)) p ≡ true
  before_between p h = between p ∙ or_right (in_one p) (before p) h

  number_two : (p : Position) → in_two p ≡ true → p.number ≡ n
  number_two p h = has-positions_of-number g n two p h

  -- what is dirty is not of the last point, and is there
  dirty_apart : (u : View) (p : Position) → is_dirty g c u p ≡ true → is_used c (block_at g u p) ≡ false
  dirty_apart u p h = not-true (is_used c (block_at g u p)) (and_parts (is_used u (block_at g u p)) (not (is_used c (block_at g u p))) h).1

  dirty_used : (u : View) (p : Position) → is_dirty g c u p ≡ true → is_used u (block_at g u p) ≡ true
  dirty_used u p h = (and_parts (is_used u (block_at g u p)) (not (is_used c (block_at g u p))) h).0

  dirty_there : (u : View) (p : Position) → IsView g u → is_dirty g c u p ≡ true → block_at g u p ≢ 0
  dirty_there u p view h none = both_ways (is_used u (block_at g u p)) (ap (is_used u) none ∙ ap is_some (unused_zero g u view)) (dirty_used u p h)

  -- a position of the second that the first did not touch was where it was
  same_between : (p : Position) → in_two p ≡ true → in_one p ≡ false → block_at g m p ≡ block_at g v p
  same_between p two out = elim (cases_Bool (before p)) [
    | inl there ↦ first.stays p there out
    | inr none ↦
        place_absent g m n fits some view_m is_m (one ++ indices) first.places p (number_two p two) (low_two p two) (between p ∙ or_from (in_one p) (before p) out none)
        ∙ sym (place_absent g v n fits some view_v is_v indices places p (number_two p two) (low_two p two) none)
  ]

  same_used : (p : Position) → in_two p ≡ true → in_one p ≡ false → is_used m (block_at g v p) ≡ is_used v (block_at g v p)
  same_used p two out = elim (cases_Bool (before p)) [
    | inl there ↦ ap is_some (first.holds p there out)
    | inr none ↦
        let zero = place_absent g v n fits some view_v is_v indices places p (number_two p two) (low_two p two) none in
        ap (is_used m) zero ∙ ap is_some (unused_zero g m view_m ∙ sym (unused_zero g v view_v)) ∙ ap (is_used v) (sym zero)
  ]

  same_dirty : (p : Position) → in_two p ≡ true → in_one p ≡ false → is_dirty g c m p ≡ is_dirty g c v p
  same_dirty p two out = ap (is_new c m) (same_between p two out) ∙ ap (λ t. t && not (is_used c (block_at g v p))) (same_used p two out)

  -- ---- room

  abbrev spent_one : List Position
  spent_one = filter (λ p. not (is_dirty g c v p)) (positions_of g n one)

  abbrev spent_two : List Position
  spent_two = filter (λ p. not (is_dirty g c m p)) (positions_of g n two)

  spent_apart : (p : Position) → has spent_two p ≡ true → has spent_one p ≡ false
  spent_apart p h =
      let clean = and_parts (in_two p) (not (is_dirty g c m p)) (sym (has-filter (λ p. not (is_dirty g c m p)) (positions_of g n two) p) ∙ h) in
      has-filter (λ p. not (is_dirty g c v p)) (positions_of g n one) p
      ∙ and_left (in_one p) (not (is_dirty g c v p)) (false_from_ne_true (in_one p) (λ here. both_ways (is_dirty g c m p) (not-true (is_dirty g c m p) clean.1) (first.dirty p here)))

  spent_same : (p : Position) → has (filter (λ p. not (is_dirty g c v p)) (positions_of g n (two ++ one))) p ≡ has (spent_two ++ spent_one) p
  spent_same p =
      has-filter (λ p. not (is_dirty g c v p)) (positions_of g n (two ++ one)) p
      ∙ ap (λ t. t && not (is_dirty g c v p)) (both p)
      ∙ by (in_one p) (in_two p) (is_dirty g c v p) (is_dirty g c m p) (first.dirty p) (same_dirty p)
      ∙ sym (has-append spent_two spent_one p ∙ (λ t. has-filter (λ p. not (is_dirty g c m p)) (positions_of g n two) p t || has-filter (λ p. not (is_dirty g c v p)) (positions_of g n one) p t))
    where
      by : (a b x y : Bool) → (a ≡ true → y ≡ true) → (b ≡ true → a ≡ false → y ≡ x) → ((b || a) && not x) ≡ ((b && not y) || (a && not x))
      by true true x y h k = let e : y ≡ true = h refl in grind (arith, nat_tests)
      by true false x y h k = refl
      by false true x y h k = let e : y ≡ x = k refl refl in grind (arith, nat_tests)
      by false false x y h k = refl

  pub fresh_on-both : fresh_on g c v n (two ++ one) ≡ fresh_on g c m n two + fresh_on g c v n one
  unfolding fresh_on
  fresh_on-both = count_of-from_has (filter (λ p. not (is_dirty g c v p)) (positions_of g n (two ++ one))) (spent_two ++ spent_one) spent_same ∙ count_of-append_apart spent_two spent_one spent_apart

  -- the second
  module _ (w : View) (view_w : IsView g w) (second : IsRewritten g c m w n two (one ++ indices)) where
    -- what the first made new, the second left where it was
    still : (p : Position) → in_one p ≡ true → block_at g w p ≡ block_at g m p
    still p h = elim (cases_Bool (in_two p)) [
      | inl again ↦ by (second.came p again)
      | inr out ↦ second.stays p (one_between p h) out
    ]
      where
        by : ((block_at g w p ≡ block_at g m p) ⊎ Came c m w (block_at g m p) (block_at g w p)) → block_at g w p ≡ block_at g m p
        by (inl same) = same
        by (inr came) = absurd (both_ways (is_used c (block_at g m p)) (dirty_apart m p (first.dirty p h)) (came.was (dirty_there m p view_m (first.dirty p h))))

    dirty_now : (p : Position) → has (positions_of g n (two ++ one)) p ≡ true → is_dirty g c w p ≡ true
    dirty_now p h = elim (cases_Bool (in_two p)) [
      | inl again ↦ second.dirty p again
      | inr out ↦ elim (or_cases (in_two p) (in_one p) (sym (both p) ∙ h)) [
        | inl again ↦ second.dirty p again
        | inr here ↦
            ap (is_new c w) (second.stays p (one_between p here) out)
            ∙ ap (λ o. is_some o && not (is_used c (block_at g m p))) (second.holds p (one_between p here) out) ∙ first.dirty p here
      ]
    ]

    -- a block of the last point that the first left is not taken again
    gone_still : (x : ℕ) → m.blocks x ≡ None → (x ≢ 0 → is_used c x ≡ true) → w.blocks x ≡ None
    gone_still x gone was = elim (cases_Bool (is_used w x)) [
      | inr none ↦ none_of (w.blocks x) none
      | inl used ↦
          let r = second.used x (ap is_some gone) used in
          let there : x ≢ 0 = λ (e : x ≡ 0). both_ways (is_used w x) (ap (is_used w) e ∙ ap is_some (unused_zero g w view_w)) used in
          absurd (both_ways (is_used c x) (ap (is_used c) (sym r.2) ∙ dirty_apart w r.0 (second.dirty r.0 r.1)) (was there))
    ]

    -- a block that the second took was not used before the first
    fresh_before : (p : Position) → in_two p ≡ true → m.blocks (block_at g w p) ≡ None → v.blocks (block_at g w p) ≡ None
    fresh_before p two none = elim (cases_Bool (is_used v (block_at g w p))) [
      | inr unused ↦ none_of (v.blocks (block_at g w p)) unused
      | inl used ↦ sym (first.others (block_at g w p) used (λ q on e. apart q on e (first.came q on))) ∙ none
    ]
      where
        apart : (q : Position) → in_one q ≡ true → block_at g v q ≡ block_at g w p → ((block_at g m q ≡ block_at g v q) ⊎ Came c v m (block_at g v q) (block_at g m q)) → ⊥
        apart q on e (inl same) = both_ways (is_used m (block_at g w p)) (ap is_some none) (ap (is_used m) (sym e ∙ sym same) ∙ dirty_used m q (first.dirty q on))
        apart q on e (inr came) =
            let there : block_at g v q ≢ 0 = λ (z : block_at g v q ≡ 0). dirty_there w p view_w (second.dirty p two) (sym e ∙ z) in
            both_ways (is_used c (block_at g w p)) (dirty_apart w p (second.dirty p two)) (ap (is_used c) (sym e) ∙ came.was there)

    came_now : (p : Position) → has (positions_of g n (two ++ one)) p ≡ true → (block_at g w p ≡ block_at g v p) ⊎ Came c v w (block_at g v p) (block_at g w p)
    came_now p h = elim (cases_Bool (in_one p)) [
      | inl here ↦ from_one here (first.came p here)
      | inr out ↦ elim (or_cases (in_two p) (in_one p) (sym (both p) ∙ h)) [
        | inl again ↦ from_two again out (second.came p again)
        | inr here ↦ from_one here (first.came p here)
      ]
    ]
      where
        from_one : in_one p ≡ true → ((block_at g m p ≡ block_at g v p) ⊎ Came c v m (block_at g v p) (block_at g m p)) → (block_at g w p ≡ block_at g v p) ⊎ Came c v w (block_at g v p) (block_at g w p)
        from_one here (inl same) = inl (still p here ∙ same)
        from_one here (inr came) = inr (record {
          fresh = ap v.blocks (still p here) ∙ came.fresh;
          gone = gone_still (block_at g v p) came.gone came.was;
          was = came.was;
        })

        from_two : in_two p ≡ true → in_one p ≡ false → ((block_at g w p ≡ block_at g m p) ⊎ Came c m w (block_at g m p) (block_at g w p)) → (block_at g w p ≡ block_at g v p) ⊎ Came c v w (block_at g v p) (block_at g w p)
        from_two again out (inl same) = inl (same ∙ same_between p again out)
        from_two again out (inr came) = inr (record {
          fresh = fresh_before p again came.fresh;
          gone = ap w.blocks (sym (same_between p again out)) ∙ came.gone;
          was = λ there. ap (is_used c) (sym (same_between p again out)) ∙ came.was (λ z. there (sym (same_between p again out) ∙ z));
        })

    others_now : (b : ℕ) → is_used v b ≡ true → ((p : Position) → has (positions_of g n (two ++ one)) p ≡ true → block_at g v p ≢ b) → w.blocks b ≡ v.blocks b
    others_now b used apart =
        let kept = first.others b used (λ p on. apart p (both p ∙ or_right (in_two p) (in_one p) on)) in
        second.others b (ap is_some kept ∙ used) (λ p on e. elsewhere p on e) ∙ kept
      where
        moved : (p : Position) → in_two p ≡ true → in_one p ≡ true → block_at g m p ≡ b → ((block_at g m p ≡ block_at g v p) ⊎ Came c v m (block_at g v p) (block_at g m p)) → ⊥
        moved p on here e (inl same) = apart p (both p ∙ or_left (in_two p) (in_one p) on) (sym same ∙ e)
        moved p on here e (inr came) = both_ways (is_used v b) (ap (is_used v) (sym e) ∙ ap is_some came.fresh) used

        elsewhere : (p : Position) → in_two p ≡ true → block_at g m p ≡ b → ⊥
        elsewhere p on e = elim (cases_Bool (in_one p)) [
          | inl here ↦ moved p on here e (first.came p here)
          | inr out ↦ apart p (both p ∙ or_left (in_two p) (in_one p) on) (sym (same_between p on out) ∙ e)
        ]

    used_now : (b : ℕ) → is_used v b ≡ false → is_used w b ≡ true → (p : Position) × (has (positions_of g n (two ++ one)) p ≡ true) × (block_at g w p ≡ b)
    used_now b none used = elim (cases_Bool (is_used m b)) [
      | inl there ↦ let r = first.used b none there in (r.0, both r.0 ∙ or_right (in_two r.0) (in_one r.0) r.1, still r.0 r.1 ∙ r.2)
      | inr free ↦ let r = second.used b free used in (r.0, both r.0 ∙ or_left (in_two r.0) (in_one r.0) r.1, r.2)
    ]

    pub rewritten-both : IsRewritten g c v w n (two ++ one) indices
    rewritten-both = record {
      places = subst (λ (l : List ℕ). HasPlaces g w n l) (sym (append_assoc two one indices)) second.places;
      once = subst (λ (l : List ℕ). IsOnce g w n l) (sym (append_assoc two one indices)) second.once;
      dirty = dirty_now;
      came = came_now;
      stays = λ p there out. let o = or_parts (in_two p) (in_one p) (sym (both p) ∙ out) in second.stays p (before_between p there) o.0 ∙ first.stays p there o.1;
      holds = λ p there out.
          let o = or_parts (in_two p) (in_one p) (sym (both p) ∙ out) in
          let kept = second.holds p (before_between p there) o.0 in
          let moved = first.stays p there o.1 in
          ap w.blocks (sym moved) ∙ kept ∙ ap m.blocks moved ∙ first.holds p there o.1;
      inodes = λ x apart. second.inodes x apart ∙ first.inodes x apart;
      others = others_now;
      used = used_now;
      free =
          let a = first.free in
          let b = second.free in
          let e = fresh_on-both in
          omega (arith, a, b, e);
    }
