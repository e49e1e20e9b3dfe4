-- How many blocks are free after the next point, where a node is cut.
use Rattle.std.proofs.Common.{◌≡◌, ◌≢◌, ◌⊎◌, ℕ, zero, suc, ◌+◌, ◌<◌, ◌≤◌, ◌==◌, ◌||◌, not, Bool, true, false, cond, leb, ltb, List, [], ◌∷◌, refl, sym, ap, ◌∙◌, subst, arith, inl, inr, None}
use Rattle.std.specs.Prelude.{is_some}
use Rattle.std.specs.List.{list_any, count_by, range_with_len}
use Rattle.std.specs.Cmp.{both_ways}
use Rattle.std.proofs.lemmas.List.Sums.{sum_by-cons}
use Rattle.std.proofs.lemmas.Bool.{cases_Bool, eqb-true, eq-eqb, or_cases, or_left, or_right, and_parts, leb-true, ltb-true}
use Rattle.edge_base.specs.declared.form.Form.{Form}
use Rattle.edge_base.specs.declared.geometry.Request.{Request}
use Rattle.edge_base.specs.layout.Places.{first_allocable_of, allocable_of}
use Rattle.edge_base.specs.tree.Positions.{Position, same_position, has, count_of, positions_of}
use Rattle.edge_base.specs.tree.Counting.{LeadTo}
use Rattle.edge_base.proofs.ChainLaws.{has-positions_of-number}
use Rattle.edge_base.proofs.CountLaws.{count_by-LeadTo}
use Rattle.edge_base.proofs.PositionLaws.{same_position_equiv, same_position_Decides}
use Rattle.edge_store.specs.View.{View, is_used, is_allocable, free_after}
use Rattle.edge_store.specs.Placed.{block_at}
use Rattle.edge_moves.specs.Sound.{numbered}
use Rattle.edge_moves.specs.Writable.{Came}
use Rattle.edge_shape.specs.Shape.{HasShape}
use Rattle.edge_shape.proofs.ListLaws.{is_false, true_false}
use Rattle.edge_shape.proofs.ShapeLaws.{listed}
use Rattle.edge_shape.proofs.LeaveLaws.{position_there}
use Rattle.edge_shape.proofs.RenewLaws.{used_not_none, by_use, node_used}

-- ---- members of lists of positions

-- a position of a list that passes a test
pub position_found : (test : Position → Bool) (ps : List Position) → list_any test ps ≡ true → (p : Position) × (has ps p ≡ true) × (test p ≡ true)
position_found test [] h = absurd (let e : false ≡ true = h in cc)
position_found test (p ∷ ps) h = elim (or_cases (test p) (list_any test ps) h) [
  | inl here ↦ (p, or_left (same_position p p) (has ps p) (same_position_equiv.refl p), here)
  | inr rest ↦ let r = position_found test ps rest in (r.0, or_right (same_position r.0 p) (has ps r.0) r.1, r.2)
]

-- ---- counts of tests that do not meet

abbrev flag : Bool → ℕ
flag t = cond t 1 0

count_apart : (one two all : ℕ → Bool) (a n : ℕ) → ((x : ℕ) → one x ≡ true → two x ≡ false) → ((x : ℕ) → all x ≡ (one x || two x))
    → count_by all (range_with_len a n) ≡ count_by one (range_with_len a n) + count_by two (range_with_len a n)
count_apart one two all a zero apart same = refl
count_apart one two all a (suc n) apart same =
    let x = sum_by-cons (λ b. flag (one b)) a (range_with_len (a + 1) n) in
    let y = sum_by-cons (λ b. flag (two b)) a (range_with_len (a + 1) n) in
    let z = sum_by-cons (λ b. flag (all b)) a (range_with_len (a + 1) n) in
    let rest = count_apart one two all (a + 1) n apart same in
    let here : flag (all a) ≡ flag (one a) + flag (two a) = ap flag (same a) ∙ by (one a) (two a) (apart a) in
    omega (arith, x, y, z, rest, here)
  where
    by : (s t : Bool) → (s ≡ true → t ≡ false) → flag (s || t) ≡ flag s + flag t
    by true true h = absurd (let e : true ≡ false = h refl in cc)
    by true false h = refl
    by false true h = refl
    by false false h = refl

-- ---- the blocks of a node

module _ (g : Request) (v : View) (n : ℕ) (indices : List ℕ) (shape : HasShape g v n indices) where
  abbrev ps : List Position
  ps = positions_of g n indices

  -- whether a block is one of the node's
  abbrev pub is_of_node : ℕ → Bool
  is_of_node b = list_any (λ p. block_at g v p == b) ps

  number_of : (p : Position) → has ps p ≡ true → p.number ≡ n
  number_of p h = has-positions_of-number g n indices p h

  -- a position of the list, as one of node n
  pub found_at : (b : ℕ) → is_of_node b ≡ true → (form : Form) × (m : ℕ) × (has ps (numbered n form m) ≡ true) × (block_at g v (numbered n form m) ≡ b)
  found_at b h =
      let f = position_found (λ p. block_at g v p == b) ps h in
      by f.0.number f.0.form f.0.index (number_of f.0 f.1) f.1 (eqb-true (block_at g v f.0) b f.2)
    where
      by : (k : ℕ) (form : Form) (m : ℕ) → k ≡ n → has ps (numbered k form m) ≡ true → block_at g v (numbered k form m) ≡ b → (f : Form) × (l : ℕ) × (has ps (numbered n f l) ≡ true) × (block_at g v (numbered n f l) ≡ b)
      by k form m is h e = (form, m, subst (λ (x : ℕ). has ps (numbered x form m) ≡ true) is h, subst (λ (x : ℕ). block_at g v (numbered x form m) ≡ b) is e)

  member_at : (qs : List Position) (p : Position) (b : ℕ) → has qs p ≡ true → block_at g v p ≡ b → list_any (λ q. block_at g v q == b) qs ≡ true
  member_at [] p b h e = h
  member_at (q ∷ qs) p b h e = elim (or_cases (same_position p q) (has qs p) h) [
    | inl here ↦ or_left (block_at g v q == b) _ (eq-eqb (block_at g v q) b (ap (block_at g v) (sym ((same_position_Decides p q).0 here)) ∙ e))
    | inr rest ↦ or_right (block_at g v q == b) _ (member_at qs p b rest e)
  ]

  pub is_at : (form : Form) (m b : ℕ) → has ps (numbered n form m) ≡ true → block_at g v (numbered n form m) ≡ b → is_of_node b ≡ true
  is_at form m b h e = member_at ps (numbered n form m) b h e

  pub of_node_used : (b : ℕ) → is_of_node b ≡ true → is_used v b ≡ true
  of_node_used b h =
      let f = found_at b h in
      ap (is_used v) (sym f.3) ∙ node_used g v n indices shape f.0 f.1 (position_there g v n indices shape f.0 f.1 f.2)

  lead : LeadTo (block_at g v) ps is_of_node (first_allocable_of g) (allocable_of g)
  lead = record {
    inside = λ p h.
        let test = member_at ps p (block_at g v p) h refl in
        let fits = shape.view.allocable (block_at g v p) (of_node_used (block_at g v p) test) in
        let low : first_allocable_of g ≤ block_at g v p = low_of (block_at g v p) fits in
        let high : block_at g v p < first_allocable_of g + allocable_of g = high_of (block_at g v p) fits in
        (low, high, test);
    once = λ p q hp hq same. shape.once p q hp hq same;
    each = λ b low high test. let f = found_at b test in (numbered n f.0 f.1, f.2, f.3);
  }
    where
      low_of : (b : ℕ) → is_allocable g b ≡ true → first_allocable_of g ≤ b
      low_of b h = leb-true (first_allocable_of g) b (and_parts (leb (first_allocable_of g) b) (ltb b (first_allocable_of g + allocable_of g)) h).0

      high_of : (b : ℕ) → is_allocable g b ≡ true → b < first_allocable_of g + allocable_of g
      high_of b h = ltb-true b (first_allocable_of g + allocable_of g) (and_parts (leb (first_allocable_of g) b) (ltb b (first_allocable_of g + allocable_of g)) h).1

  -- the blocks that no other node has are the free ones and the node's
  pub not_others : count_by (λ b. not (is_used v b) || is_of_node b) (range_with_len (first_allocable_of g) (allocable_of g)) ≡ free_after g v + count_of ps
  unfolding free_after
  not_others =
      count_apart (λ b. not (is_used v b)) is_of_node (λ b. not (is_used v b) || is_of_node b) (first_allocable_of g) (allocable_of g) (λ b free. is_false (is_of_node b) (λ h. clash (is_used v b) (of_node_used b h) free)) (λ b. refl)
      ∙ ap (λ (m : ℕ). count_by (λ b. not (is_used v b)) (range_with_len (first_allocable_of g) (allocable_of g)) + m) (count_by-LeadTo lead)
    where
      clash : (t : Bool) → t ≡ true → not t ≡ true → ⊥
      clash true h e = let f : false ≡ true = e in cc
      clash false h e = let f : false ≡ true = h in cc

-- ---- a cut

module _ (g : Request) (c v w : View) (n : ℕ) (indices rest : List ℕ) (shape : HasShape g v n indices) (shape_w : HasShape g w n rest)
    (came : (form : Form) (m : ℕ) → has (positions_of g n rest) (numbered n form m) ≡ true
    → (block_at g w (numbered n form m) ≡ block_at g v (numbered n form m)) ⊎ Came c v w (block_at g v (numbered n form m)) (block_at g w (numbered n form m)))
    (dropped : (form : Form) (m : ℕ) → has (positions_of g n indices) (numbered n form m) ≡ true → has (positions_of g n rest) (numbered n form m) ≡ false → w.blocks (block_at g v (numbered n form m)) ≡ None)
    (others : (b : ℕ) → is_used v b ≡ true → ((form : Form) (m : ℕ) → block_at g v (numbered n form m) ≢ 0 → block_at g v (numbered n form m) ≢ b) → w.blocks b ≡ v.blocks b)
    (newly : (b : ℕ) → is_used w b ≡ true → v.blocks b ≡ None → (form : Form) × (m : ℕ) × (has (positions_of g n rest) (numbered n form m) ≡ true) × (block_at g w (numbered n form m) ≡ b)) where
  abbrev mine : ℕ → Bool
  mine = is_of_node g v n indices shape

  abbrev mine_after : ℕ → Bool
  mine_after = is_of_node g w n rest shape_w

  none_free : (u : View) (b : ℕ) → u.blocks b ≡ None → not (is_used u b) ≡ true
  none_free u b none = ap (λ o. not (is_some o)) none

  forth : (b : ℕ) → (not (is_used v b) || mine b) ≡ true → (not (is_used w b) || mine_after b) ≡ true
  forth b h = elim (by_use (w.blocks b)) [
    | inl free ↦ or_left (not (is_used w b)) (mine_after b) (none_free w b free)
    | inr used ↦ or_right (not (is_used w b)) (mine_after b) (elim (by_use (v.blocks b)) [
      | inl none ↦ let r = newly b used none in is_at g w n rest shape_w r.0 r.1 b r.2 r.3
      | inr was ↦
          let f = found_at g v n indices shape b (second (is_used v b) (mine b) was h) in
          elim (cases_Bool (has (positions_of g n rest) (numbered n f.0 f.1))) [
            | inr lost ↦ absurd (used_not_none (w.blocks b) used (ap w.blocks (sym f.3) ∙ dropped f.0 f.1 f.2 lost))
            | inl kept ↦ elim (came f.0 f.1 kept) [
              | inl same ↦ is_at g w n rest shape_w f.0 f.1 b kept (same ∙ f.3)
              | inr away ↦ absurd (used_not_none (w.blocks b) used (ap w.blocks (sym f.3) ∙ away.gone))
            ]
          ]
    ])
  ]
    where
      second : (s t : Bool) → s ≡ true → (not s || t) ≡ true → t ≡ true
      second true t h e = e
      second false t h e = absurd (let f : false ≡ true = h in cc)

  back : (b : ℕ) → (not (is_used w b) || mine_after b) ≡ true → (not (is_used v b) || mine b) ≡ true
  back b h = elim (by_use (v.blocks b)) [
    | inl free ↦ or_left (not (is_used v b)) (mine b) (none_free v b free)
    | inr used ↦ or_right (not (is_used v b)) (mine b) (elim (cases_Bool (mine b)) [
      | inl here ↦ here
      | inr other ↦
          let far : (form : Form) (m : ℕ) → block_at g v (numbered n form m) ≢ 0 → block_at g v (numbered n form m) ≢ b = λ form m there at_b. true_false (sym (is_at g v n indices shape form m b (listed g v n indices shape form m there) at_b) ∙ other) in
          let same = others b used far in
          let f = found_at g w n rest shape_w b (second (is_used w b) (mine_after b) (ap is_some same ∙ used) h) in
          elim (came f.0 f.1 f.2) [
            | inl still ↦ absurd (far f.0 f.1 (λ none. position_there g w n rest shape_w f.0 f.1 f.2 (still ∙ none)) (sym still ∙ f.3))
            | inr away ↦ absurd (used_not_none (v.blocks b) used (ap v.blocks (sym f.3) ∙ away.fresh))
          ]
    ])
  ]
    where
      second : (s t : Bool) → s ≡ true → (not s || t) ≡ true → t ≡ true
      second true t h e = e
      second false t h e = absurd (let f : false ≡ true = h in cc)

  -- As many blocks more are free after the next point as positions are gone.
  pub free_after-cut : free_after g v + count_of (positions_of g n indices) ≡ free_after g w + count_of (positions_of g n rest)
  free_after-cut =
      sym (not_others g v n indices shape)
      ∙ (λ i. count_by (λ b. both_ways (not (is_used v b) || mine b) (not (is_used w b) || mine_after b) (forth b) (back b) i) (range_with_len (first_allocable_of g) (allocable_of g)))
      ∙ not_others g w n rest shape_w
