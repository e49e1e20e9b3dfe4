-- A data block that was made writable, and bytes that are written in it.
use Rattle.std.proofs.Common.{◌≡◌, ◌≢◌, ◌⊎◌, ℕ, ◌+◌, ◌-◌, ◌*◌, ◌/◌, ◌%◌, ◌<◌, ◌≤◌, ◌==◌, ◌&&◌, ◌||◌, not, Bool, true, false, cond, eqb, append_assoc, inl, inr, List, [], ◌∷◌, ◌++◌, Option, Some, None, length, take, drop, filter, refl, sym, ap, ◌∙◌, subst, arith}
use Rattle.std.specs.Prelude.{is_some, ◌↔◌, count_by, slice_index, nat_le, nat_lt}
use Rattle.std.proofs.lemmas.Bool.{cases_Bool, cases_eq, cases_lt, cases_order, both_ways, and_parts, and_left, and_right, or_from, or_left, or_right, false_from_ne_true, leb-true, ltb-true, eqb-true, eq-eqb, ne_eqb, cond-true, cond-false}
use Rattle.std.specs.List.{list_any}
use Rattle.std.proofs.lemmas.Bool.Decides.{nat_tests}
use Rattle.std.proofs.lemmas.List.{get_or-append_right, get_or-drop, get_or-replicate, get_or-take, length-take}
use Rattle.std.proofs.lemmas.List.Sums.{sum_by-cons}
use Rattle.std.proofs.lemmas.Nat.{div-add-mod'}
use Rattle.std.proofs.Math.ListN.{get_or-append}
use Rattle.std.proofs.Math.Nat.{div-lt_iff_lt-mul, mod-lt}
use Rattle.edge_base.specs.declared.form.Form.TheVariants.{Plain, Indirect, Double}
use Rattle.edge_base.specs.declared.geometry.Request.{Request}
use Rattle.edge_base.specs.layout.Places.{entries_of, pointers_of, max_blocks_of, max_size_of}
use Rattle.edge_base.specs.tree.Chains.{is_on_chain}
use Rattle.edge_base.specs.tree.Positions.{Position, same_position, has, count_of, chain, above_data, above_indirect, data_at, indirect_at, double_at, positions_of, positions_of_form}
use Rattle.edge_base.proofs.ChainLaws.{has-positions_of, has-positions_of-number}
use Rattle.edge_base.proofs.SetLaws.{distinct_count-new}
use Rattle.edge_base.proofs.PositionLaws.{has-append, has-filter, same_position_equiv}
use Rattle.edge_store.specs.Effects.{BytesSet, put_in}
use Rattle.edge_store.specs.Frames.{KeepsPointers}
use Rattle.edge_store.specs.Fresh.{is_dirty}
use Rattle.edge_store.specs.Placed.{block_at, data_block, HasPlaces}
use Rattle.edge_store.specs.View.{View, Block, IsView, content, content_at, bytes_in, empty_content, is_owned_by, is_spot, is_used, is_new, is_whole, free_now}
use Rattle.edge_store.proofs.FrameLaws.{KeepsPointers-with_block, block_at-pointers}
use Rattle.edge_store.proofs.RoomLaws.{free_now-same}
use Rattle.edge_store.proofs.ShapeLaws.{IsNoNodeOf-data}
use Rattle.edge_store.proofs.ViewLaws.{used_of, unused_zero, with_block_apart}
use Rattle.edge_moves.specs.Renewal.{held_by}
use Rattle.edge_moves.specs.Writable.{IsMadeWritable, Came, fresh_on_chain}
use Rattle.edge_moves.proofs.StepLaws.{misses}
use Rattle.edge_file.specs.Bytes.{byte_of, with_bytes, blocks_under}
use Rattle.edge_file.specs.Rewritten.{IsRewritten, IsWritten, fresh_on}
use Rattle.edge_file.proofs.ByteLaws.{byte_in}
use Rattle.edge_file.proofs.JoinLaws.{place_used, place_there, place_in_range, place_absent, rewritten-alike}
use Rattle.edge_file.proofs.RangeLaws.{block_alone, positions_both, rows_apart, append_none}

-- ---- one chain

-- a position that a list lacks counts by itself
count_more : (test : Position → Bool) (p : Position) (ps : List Position) → has ps p ≡ false → count_of (filter test (p ∷ ps)) ≡ cond (test p) 1 0 + count_of (filter test ps)
count_more test p ps out = by (test p)
  where
    lacks : has (filter test ps) p ≡ false
    lacks = has-filter test ps p ∙ and_left (has ps p) (test p) out

    by : (t : Bool) → count_of (cond t (p ∷ filter test ps) (filter test ps)) ≡ cond t 1 0 + count_of (filter test ps)
    by true = distinct_count-new same_position p (filter test ps) lacks ∙ omega arith
    by false = omega arith

abbrev row_of : Request → ℕ → ℕ
row_of g i = (i - g.direct) / pointers_of g

abbrev top_of : Request → ℕ → ℕ → Position
top_of g n i = double_at n ((row_of g i - g.indirect) / pointers_of g)

-- the positions of a chain are different ones
pub count_of-chain : (g : Request) (n i : ℕ) (test : Position → Bool) → count_of (filter test (chain g n i)) ≡ count_by test (chain g n i)
count_of-chain g n i test =
    count_more test (data_at n i) (above_data g n i) (no_data (nat_lt i g.direct))
    ∙ ap (λ (k : ℕ). cond (test (data_at n i)) 1 0 + k) (by_data (nat_lt i g.direct))
    ∙ sym (sum_by-cons (λ p. cond (test p) 1 0) (data_at n i) (above_data g n i))
  where
    no_double : (t : Bool) → has (cond t [] (top_of g n i ∷ [])) (indirect_at n (row_of g i)) ≡ false
    no_double true = refl
    no_double false = or_from (same_position (indirect_at n (row_of g i)) (top_of g n i)) false (misses (indirect_at n (row_of g i)) (top_of g n i) (λ e. let f : Indirect ≡ Double = ap (λ (p : Position). p.form) e in cc)) refl

    data_double : (t : Bool) → has (cond t [] (top_of g n i ∷ [])) (data_at n i) ≡ false
    data_double true = refl
    data_double false = or_from (same_position (data_at n i) (top_of g n i)) false (misses (data_at n i) (top_of g n i) (λ e. let f : Plain ≡ Double = ap (λ (p : Position). p.form) e in cc)) refl

    no_data : (t : Bool) → has (cond t [] (indirect_at n (row_of g i) ∷ above_indirect g n (row_of g i))) (data_at n i) ≡ false
    no_data true = refl
    no_data false = or_from (same_position (data_at n i) (indirect_at n (row_of g i))) (has (above_indirect g n (row_of g i)) (data_at n i))
        (misses (data_at n i) (indirect_at n (row_of g i)) (λ e. let f : Plain ≡ Indirect = ap (λ (p : Position). p.form) e in cc)) (data_double (nat_lt (row_of g i) g.indirect))

    by_double : (t : Bool) → count_of (filter test (cond t [] (top_of g n i ∷ []))) ≡ count_by test (cond t [] (top_of g n i ∷ []))
    by_double true = refl
    by_double false = count_more test (top_of g n i) [] refl ∙ sym (sum_by-cons (λ p. cond (test p) 1 0) (top_of g n i) [])

    by_data : (t : Bool) → count_of (filter test (cond t [] (indirect_at n (row_of g i) ∷ above_indirect g n (row_of g i)))) ≡ count_by test (cond t [] (indirect_at n (row_of g i) ∷ above_indirect g n (row_of g i)))
    by_data true = refl
    by_data false = count_more test (indirect_at n (row_of g i)) (above_indirect g n (row_of g i)) (no_double (nat_lt (row_of g i) g.indirect)) ∙ ap (λ (k : ℕ). cond (test (indirect_at n (row_of g i))) 1 0 + k) (by_double (nat_lt (row_of g i) g.indirect))
        ∙ sym (sum_by-cons (λ p. cond (test p) 1 0) (indirect_at n (row_of g i)) (above_indirect g n (row_of g i)))

pub alone : (g : Request) (n i : ℕ) (p : Position) → has (positions_of g n (i ∷ [])) p ≡ has (chain g n i) p
alone g n i p = has-append (chain g n i) [] p ∙ no_more (has (chain g n i) p)
  where
    no_more : (t : Bool) → (t || false) ≡ t
    no_more true = refl
    no_more false = refl

pub fresh_on-chain : (g : Request) (c v : View) (n i : ℕ) → fresh_on g c v n (i ∷ []) ≡ fresh_on_chain g c v n i
unfolding fresh_on
fresh_on-chain g c v n i =
    ap (λ l. count_of (filter (λ p. not (is_dirty g c v p)) l)) (append_none (chain g n i))
    ∙ count_of-chain g n i (λ p. not (is_dirty g c v p))

positions_first : (g : Request) (n i : ℕ) (rest : List ℕ) → has (positions_of g n (i ∷ rest)) (data_at n i) ≡ true
positions_first g n i rest =
    has-append (chain g n i) (positions_of g n rest) (data_at n i)
    ∙ or_left (has (chain g n i) (data_at n i)) (has (positions_of g n rest) (data_at n i))
    (or_left (same_position (data_at n i) (data_at n i)) (has (above_data g n i) (data_at n i)) (same_position_equiv.refl (data_at n i)))

-- a data block is at a position exactly where its index is listed
pub positions_first_of : (g : Request) (n : ℕ) (indices : List ℕ) (i : ℕ) → has (positions_of g n indices) (data_at n i) ≡ list_any (λ k. k == i) indices
positions_first_of g n indices i = has-positions_of g n indices (data_at n i) ∙ ap (λ t. t && list_any (λ k. k == i) indices) (eq-eqb n n refl)

positions_alone : (g : Request) (n i j : ℕ) → j ≢ i → has (positions_of g n (i ∷ [])) (data_at n j) ≡ false
positions_alone g n i j far =
    has-positions_of g n (i ∷ []) (data_at n j)
    ∙ and_right (n == n) (list_any (is_on_chain g Plain j) (i ∷ [])) (or_from (i == j) false (ne_eqb i j (λ e. far (sym e))) refl)

-- what making a data block writable is
pub made_alone : (g : Request) (c v w : View) (n i : ℕ) (indices : List ℕ) → IsMadeWritable g c v w n i indices → IsRewritten g c v w n (i ∷ []) indices
made_alone g c v w n i indices made = record {
  places = made.places;
  once = made.once;
  dirty = λ p h. made.dirty p (sym (alone g n i p) ∙ h);
  came = λ p h. made.came p (sym (alone g n i p) ∙ h);
  stays = λ p h out. made.stays p h (sym (alone g n i p) ∙ out);
  holds = λ p h out. made.holds p h (sym (alone g n i p) ∙ out);
  inodes = made.inodes;
  others = λ b used apart. made.others b used (λ p h. apart p (alone g n i p ∙ h));
  used = λ b none used. let r = made.used b none used in (r.0, alone g n i r.0 ∙ r.1, r.2);
  free = ap (λ (k : ℕ). free_now g c w + k) (fresh_on-chain g c v n i) ∙ made.free;
}

-- ---- bytes of a list

pub put_get : (old new : List ℕ) (start r : ℕ) → start + length new ≤ length old → r < length old
    → slice_index (put_in old start new) r ≡ cond (nat_le start r && nat_lt r (start + length new)) (slice_index new (r - start)) (slice_index old r)
put_get old new start r fits low = ap (λ l. slice_index l r) (append_assoc (take start old) new (drop (start + length new) old)) ∙ (elim (cases_lt r start) [
  | inl before ↦
      let front : r < length (take start old) = omega (arith, length-take start old) in
      get_or-append (take start old) (new ++ drop (start + length new) old) 0 r front ∙ get_or-take start old r 0 before
      ∙ sym (cond-false (nat_le start r && nat_lt r (start + length new)) _ _ (grind (arith, nat_tests)))
  | inr from ↦
      let at : length (take start old) ≡ start = omega (arith, length-take start old) in
      let rest = get_or-append_right (take start old) (new ++ drop (start + length new) old) start r 0 at from in
      elim (cases_lt r (start + length new)) [
        | inl within ↦
            rest ∙ get_or-append new (drop (start + length new) old) 0 (r - start) (omega arith)
            ∙ sym (cond-true (nat_le start r && nat_lt r (start + length new)) _ _ (grind (arith, nat_tests)))
        | inr behind ↦
            rest ∙ get_or-append_right new (drop (start + length new) old) (length new) (r - start) 0 refl (omega arith)
            ∙ get_or-drop (start + length new) old (r - start - length new) 0
            ∙ ap (slice_index old) (let e : start + length new + (r - start - length new) ≡ r = omega arith in e)
            ∙ sym (cond-false (nat_le start r && nat_lt r (start + length new)) _ _ (grind (arith, nat_tests)))
      ]
])

held_byte : (g : Request) (v : View) (n x r : ℕ) → IsView g v → r < g.block_size → slice_index (bytes_in (held_by g v Plain n x)) r ≡ slice_index (bytes_in (content_at v Plain x)) r
held_byte g v n x r view low = by (eqb x 0) refl
  where
    by : (t : Bool) → eqb x 0 ≡ t → slice_index (bytes_in (cond t (empty_content g Plain n) (content_at v Plain x))) r ≡ slice_index (bytes_in (content_at v Plain x)) r
    by true e = get_or-replicate g.block_size r 0 0 low ∙ ap (λ o. slice_index (bytes_in (content Plain o)) r) (sym (unused_zero g v view) ∙ ap v.blocks (sym (eqb-true x 0 e)))
    by false e = refl

pub full_bytes : (g : Request) (v : View) (b : ℕ) → IsView g v → is_used v b ≡ true → length (bytes_in (content_at v Plain b)) ≡ g.block_size
full_bytes g v b view used = by (v.blocks b) refl used
  where
    by : (o : Option Block) → v.blocks b ≡ o → is_some o ≡ true → length (bytes_in (content Plain o)) ≡ g.block_size
    by None e h = absurd (let f : false ≡ true = h in cc)
    by (Some block) e h = view.full_blocks b block e

shifted : (x start r len : ℕ) (f : ℕ → ℕ) (old : ℕ) → cond (nat_le start r && nat_lt r (start + len)) (f (r - start)) old ≡ cond (nat_le (x + start) (x + r) && nat_lt (x + r) (x + start + len)) (f (x + r - (x + start))) old
shifted x start r len f old =
    let test : (nat_le start r && nat_lt r (start + len)) ≡ (nat_le (x + start) (x + r) && nat_lt (x + r) (x + start + len)) = grind (arith, nat_tests) in
    let place : r - start ≡ x + r - (x + start) = omega arith in
    λ t. cond (test t) (f (place t)) old

outside : (at : ℕ) (new : List ℕ) (k : ℕ) (old : ℕ → ℕ) → (at ≤ k → k < at + length new → ⊥) → old k ≡ with_bytes old at new k
outside at new k old out = sym (cond-false (nat_le at k && nat_lt k (at + length new)) (slice_index new (k - at)) (old k)
    (false_from_ne_true (nat_le at k && nat_lt k (at + length new)) (λ h. let p = and_parts (nat_le at k) (nat_lt k (at + length new)) h in out (leb-true at k p.0) (ltb-true k (at + length new) p.1))))

apart_range : (i start len j r size : ℕ) → j ≢ i → r < size → start + len ≤ size → i * size + start ≤ j * size + r → j * size + r < i * size + start + len → ⊥
apart_range i start len j r size far low fits from upto = elim (cases_order j i) [
  | inl is ↦ far is
  | inr other ↦ by other
]
  where
    by : ((j < i) ⊎ (i < j)) → ⊥
    by (inl below) = let step = rows_apart i j size below in omega arith
    by (inr above) = let step = rows_apart j i size above in omega arith

-- ---- bytes written in a data block

module _ (g : Request) (c v m w : View) (n i start : ℕ) (new indices : List ℕ) (fits : g.direct + g.indirect ≤ entries_of g) (some : 0 < pointers_of g)
    (view_v : IsView g v) (view_m : IsView g m) (view_w : IsView g w) (is_v : is_whole (v.inodes n) ≡ true) (is_m : is_whole (m.inodes n) ≡ true) (low_i : i < max_blocks_of g)
    (places : HasPlaces g v n indices) (made : IsMadeWritable g c v m n i indices) (set : BytesSet m w (data_block g m n i) start new)
    (any : 0 < length new) (in_block : start + length new ≤ g.block_size) where
  abbrev all : List ℕ
  all = i ∷ indices

  abbrev b : ℕ
  b = data_block g m n i

  first : IsRewritten g c v m n (i ∷ []) indices
  first = made_alone g c v m n i indices made

  here : has (positions_of g n all) (data_at n i) ≡ true
  here = positions_first g n i indices

  b_used : is_used m b ≡ true
  b_used = place_used g m n fits some view_m is_m all made.places (data_at n i) here

  b_there : b ≢ 0
  b_there = place_there g m n fits some view_m is_m all made.places (data_at n i) here

  kept : KeepsPointers g m w n
  kept = subst (λ (u : View). KeepsPointers g m u n) (sym set.working) (KeepsPointers-with_block g m n b (w.blocks b) (IsNoNodeOf-data g m n all made.places made.once i low_i b_there))

  same_place : (p : Position) → p.number ≡ n → p.index < positions_of_form g p.form → block_at g w p ≡ block_at g m p
  same_place p number low = block_at-pointers g m w n kept p number low

  other : (x : ℕ) → x ≢ b → w.blocks x ≡ m.blocks x
  other x apart = ap (λ (u : View). u.blocks x) set.working ∙ with_block_apart m b (w.blocks b) x apart

  b_still : is_used w b ≡ true
  b_still = used_of Plain (w.blocks b) n (ap (is_owned_by n) set.content)

  same_used : (x : ℕ) → is_used w x ≡ is_used m x
  same_used x = elim (cases_eq x b) [
    | inl is ↦ ap (is_used w) is ∙ b_still ∙ sym b_used ∙ ap (is_used m) (sym is)
    | inr apart ↦ ap is_some (other x apart)
  ]

  in_all : (p : Position) → has (positions_of g n (i ∷ [])) p ≡ true → has (positions_of g n all) p ≡ true
  in_all p h = positions_both g n (i ∷ []) indices p ∙ or_left (has (positions_of g n (i ∷ [])) p) (has (positions_of g n indices) p) h

  old_all : (p : Position) → has (positions_of g n indices) p ≡ true → has (positions_of g n all) p ≡ true
  old_all p h = positions_both g n (i ∷ []) indices p ∙ or_right (has (positions_of g n (i ∷ [])) p) (has (positions_of g n indices) p) h

  place : (p : Position) → has (positions_of g n all) p ≡ true → block_at g w p ≡ block_at g m p
  place p h = same_place p (has-positions_of-number g n all p h) (place_in_range g m n fits some view_m is_m all made.places p h)

  -- the block is at no other position
  only_here : (p : Position) → has (positions_of g n all) p ≡ true → block_at g m p ≡ b → p ≡ data_at n i
  only_here p h e = made.once p (data_at n i) h here e

  spot_now : (p : Position) → has (positions_of g n all) p ≡ true → is_spot w p.form n (block_at g w p) ≡ true
  spot_now p h = subst (λ (x : ℕ). is_spot w p.form n x ≡ true) (sym (place p h)) (elim (cases_eq (block_at g m p) b) [
    | inl is ↦ subst (λ (q : Position). is_spot w q.form n (block_at g m q) ≡ true) (sym (only_here p h is)) (ap (is_owned_by n) set.content)
    | inr apart ↦ ap (λ o. is_owned_by n (content p.form o)) (other (block_at g m p) apart) ∙ made.places.spots p h
  ])

  gone_now : (x : ℕ) → m.blocks x ≡ None → w.blocks x ≡ None
  gone_now x gone = other x (λ is. both_ways (is_used m b) (ap (is_used m) (sym is) ∙ ap is_some gone) b_used) ∙ gone

  came_now : (p : Position) → has (positions_of g n (i ∷ [])) p ≡ true → ((block_at g m p ≡ block_at g v p) ⊎ Came c v m (block_at g v p) (block_at g m p)) → (block_at g w p ≡ block_at g v p) ⊎ Came c v w (block_at g v p) (block_at g w p)
  came_now p h (inl same) = inl (place p (in_all p h) ∙ same)
  came_now p h (inr came) = inr (record {
    fresh = ap v.blocks (place p (in_all p h)) ∙ came.fresh;
    gone = gone_now (block_at g v p) came.gone;
    was = came.was;
  })

  -- the data block was not one of another position
  on_chain : has (positions_of g n (i ∷ [])) (data_at n i) ≡ true
  on_chain = positions_first g n i []

  holds_now : (p : Position) → has (positions_of g n indices) p ≡ true → has (positions_of g n (i ∷ [])) p ≡ false → w.blocks (block_at g v p) ≡ v.blocks (block_at g v p)
  holds_now p h out =
      let moved = first.stays p h out in
      let far : block_at g v p ≢ b = λ e. both_ways (has (positions_of g n (i ∷ [])) p) out (ap (has (positions_of g n (i ∷ []))) (only_here p (old_all p h) (moved ∙ e)) ∙ on_chain) in
      other (block_at g v p) far ∙ first.holds p h out

  others_now : (x : ℕ) → is_used v x ≡ true → ((p : Position) → has (positions_of g n (i ∷ [])) p ≡ true → block_at g v p ≢ x) → w.blocks x ≡ v.blocks x
  others_now x used apart = other x (λ is. not_here is (first.came (data_at n i) on_chain)) ∙ first.others x used apart
    where
      not_here : x ≡ b → ((b ≡ block_at g v (data_at n i)) ⊎ Came c v m (block_at g v (data_at n i)) b) → ⊥
      not_here is (inl same) = apart (data_at n i) on_chain (sym (is ∙ same))
      not_here is (inr came) = both_ways (is_used v x) (ap (is_used v) is ∙ ap is_some came.fresh) used

  rewritten_now : IsRewritten g c v w n (i ∷ []) indices
  rewritten_now = record {
    places = record {
      places = λ p number low. subst (λ (x : ℕ). (x ≢ 0) ↔ (has (positions_of g n all) p ≡ true)) (sym (same_place p number low)) (made.places.places p number low);
      spots = spot_now;
    };
    once = λ p q hp hq e. made.once p q hp hq (sym (place p hp) ∙ e ∙ place q hq);
    dirty = λ p h. ap (is_new c w) (place p (in_all p h)) ∙ ap (λ t. t && not (is_used c (block_at g m p))) (same_used (block_at g m p)) ∙ first.dirty p h;
    came = λ p h. came_now p h (first.came p h);
    stays = λ p h out. place p (old_all p h) ∙ first.stays p h out;
    holds = holds_now;
    inodes = λ x apart. ap (λ (u : View). u.inodes x) set.working ∙ made.inodes x apart;
    others = others_now;
    used = λ x none used. let r = first.used x none (sym (same_used x) ∙ used) in (r.0, r.1, place r.0 (in_all r.0 r.1) ∙ r.2);
    free = ap (λ (k : ℕ). k + fresh_on g c v n (i ∷ [])) (free_now-same g c m w same_used) ∙ first.free;
  }

  -- ---- the bytes

  byte_here : (r : ℕ) → r < g.block_size → byte_of g w n (i * g.block_size + r) ≡ with_bytes (byte_of g v n) (i * g.block_size + start) new (i * g.block_size + r)
  byte_here r low =
      let held = bytes_in (held_by g v Plain n (data_block g v n i)) in
      let old : content_at m Plain b ≡ held_by g v Plain n (data_block g v n i) = made.content in
      let block_m : data_block g w n i ≡ b = place (data_at n i) here in
      let full : length (bytes_in (content_at m Plain b)) ≡ g.block_size = full_bytes g m b view_m b_used in
      let now : byte_of g w n (i * g.block_size + r) ≡ slice_index (put_in (bytes_in (content_at m Plain b)) start new) r =
      byte_in g w n i r low ∙ ap (λ (x : ℕ). slice_index (bytes_in (content_at w Plain x)) r) block_m ∙ ap (λ x. slice_index (bytes_in x) r) set.content in
      let was : slice_index (bytes_in (content_at m Plain b)) r ≡ byte_of g v n (i * g.block_size + r) =
      ap (λ x. slice_index (bytes_in x) r) old ∙ held_byte g v n (data_block g v n i) r view_v low ∙ sym (byte_in g v n i r low) in
      now ∙ put_get (bytes_in (content_at m Plain b)) new start r (omega arith) (omega arith)
      ∙ ap (cond (nat_le start r && nat_lt r (start + length new)) (slice_index new (r - start))) was
      ∙ shifted (i * g.block_size) start r (length new) (slice_index new) (byte_of g v n (i * g.block_size + r))

  byte_apart : (j r : ℕ) → j ≢ i → j < max_blocks_of g → r < g.block_size → byte_of g w n (j * g.block_size + r) ≡ byte_of g v n (j * g.block_size + r)
  byte_apart j r far low_j low =
      byte_in g w n j r low
      ∙ ap (λ (x : ℕ). slice_index (bytes_in (content_at w Plain x)) r) (same_place (data_at n j) refl low_j)
      ∙ ap (λ o. slice_index (bytes_in (content Plain o)) r) same_block
      ∙ sym (byte_in g v n j r low)
    where
      off_chain : has (positions_of g n (i ∷ [])) (data_at n j) ≡ false
      off_chain = positions_alone g n i j far

      same_block : w.blocks (data_block g m n j) ≡ v.blocks (data_block g v n j)
      same_block = elim (cases_Bool (has (positions_of g n indices) (data_at n j))) [
        | inl there ↦
            let moved = first.stays (data_at n j) there off_chain in
            ap w.blocks moved ∙ holds_now (data_at n j) there off_chain
        | inr none ↦
            let zero_v : data_block g v n j ≡ 0 = place_absent g v n fits some view_v is_v indices places (data_at n j) refl low_j none in
            let zero_m : data_block g m n j ≡ 0 = place_absent g m n fits some view_m is_m all made.places (data_at n j) refl low_j (positions_both g n (i ∷ []) indices (data_at n j) ∙ or_from (has (positions_of g n (i ∷ [])) (data_at n j)) (has (positions_of g n indices) (data_at n j)) off_chain none) in
            ap w.blocks zero_m ∙ unused_zero g w view_w ∙ sym (unused_zero g v view_v) ∙ ap v.blocks (sym zero_v)
      ]

  pub written_block : 0 < g.block_size → IsWritten g c v w n (i * g.block_size + start) new indices
  written_block size = record {
    rewritten = rewritten-alike g c v w n (i ∷ []) (blocks_under g (i * g.block_size + start) (length new)) indices (block_alone g i start (length new) low_i any in_block) rewritten_now;
    bytes = λ k low. subst (λ (x : ℕ). byte_of g w n x ≡ with_bytes (byte_of g v n) (i * g.block_size + start) new x) (div-add-mod' k g.block_size) (by k low);
  }
    where
      by : (k : ℕ) → k < max_size_of g → byte_of g w n (k / g.block_size * g.block_size + k % g.block_size) ≡ with_bytes (byte_of g v n) (i * g.block_size + start) new (k / g.block_size * g.block_size + k % g.block_size)
      by k low =
          let low_r : k % g.block_size < g.block_size = mod-lt k size in
          let low_j : k / g.block_size < max_blocks_of g = (div-lt_iff_lt-mul size).1 low in
          elim (cases_eq (k / g.block_size) i) [
            | inl is ↦ subst (λ (j : ℕ). byte_of g w n (j * g.block_size + k % g.block_size) ≡ with_bytes (byte_of g v n) (i * g.block_size + start) new (j * g.block_size + k % g.block_size)) (sym is) (byte_here (k % g.block_size) low_r)
            | inr far ↦
                byte_apart (k / g.block_size) (k % g.block_size) far low_j low_r
                ∙ outside (i * g.block_size + start) new (k / g.block_size * g.block_size + k % g.block_size) (byte_of g v n) (apart_range i start (length new) (k / g.block_size) (k % g.block_size) g.block_size far low_r in_block)
          ]
