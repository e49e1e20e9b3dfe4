-- How many blocks are free now, where a node is cut.
use Rattle.std.proofs.Common.{◌≡◌, ◌≢◌, ℕ, zero, suc, ◌+◌, ◌-◌, ◌<◌, ◌≤◌, ◌==◌, ◌&&◌, ◌||◌, not, Bool, true, false, cond, List, refl, sym, ap, ◌∙◌, arith, inl, inr, None}
use Rattle.std.specs.Prelude.{is_some, nat_lt}
use Rattle.std.specs.List.{list_any, count_by, range_with_len}
use Rattle.std.proofs.lemmas.List.Sums.{sum_by-cons}
use Rattle.std.proofs.lemmas.Bool.{cases_eq, cases_Bool, eqb-true, eq-eqb, and_parts, and_from, or_cases, or_left, or_right}
use Rattle.std.proofs.lemmas.Bool.Decides.{nat_tests}
use Rattle.edge_base.specs.declared.form.Form.{Form}
use Rattle.edge_base.specs.declared.form.Form.TheVariants.{Indirect, Double}
use Rattle.edge_base.specs.declared.geometry.Request.{Request}
use Rattle.edge_base.specs.layout.Places.{first_allocable_of, allocable_of}
use Rattle.edge_base.specs.tree.Chains.{is_on_chain}
use Rattle.edge_base.specs.tree.Positions.{same_form, has, positions_of}
use Rattle.edge_base.proofs.ChainLaws.{has-positions_of}
use Rattle.edge_store.specs.View.{View, is_used, is_free, free_now}
use Rattle.edge_store.specs.Placed.{block_at}
use Rattle.edge_store.specs.Fresh.{is_dirty}
use Rattle.edge_moves.specs.Relinks.{number_under}
use Rattle.edge_moves.specs.Sound.{numbered}
use Rattle.edge_moves.specs.Renewal.{cost}
use Rattle.edge_shape.specs.declared.cut.Cut.{Cut}
use Rattle.edge_shape.specs.declared.cut.Cut.TheVariants.{Whole, Node, Top, Both}
use Rattle.edge_shape.specs.Shape.{HasShape, before}
use Rattle.edge_shape.specs.Cut.{is_split, IsCut}
use Rattle.edge_shape.specs.Where.{is_through, need_of, cut_at, cut_need, GoesThrough}
use Rattle.edge_shape.proofs.SpotLaws.{same_form-true}
use Rattle.edge_shape.proofs.ListLaws.{found, any-filter}
use Rattle.edge_shape.proofs.LeaveLaws.{position_of, position_there}
use Rattle.edge_shape.proofs.OwnLaws.{single_entry, double_entry}
use Rattle.edge_shape.proofs.WhereLaws.{finds}
use Rattle.edge_shape.proofs.SplitLaws.{split_by_cut}
use Rattle.edge_count.proofs.NeedLaws.{inner_block}
use Rattle.edge_shape.proofs.RenewLaws.{used_not_none, by_use, node_used}

abbrev flag : Bool → ℕ
flag t = cond t 1 0

-- what passes one test passes one of two others
count_cover : (f h t : ℕ → Bool) (a n : ℕ) → ((x : ℕ) → f x ≡ true → (h x || t x) ≡ true) → count_by f (range_with_len a n) ≤ count_by h (range_with_len a n) + count_by t (range_with_len a n)
count_cover f h t a zero cover = omega arith
count_cover f h t a (suc n) cover =
    let x = sum_by-cons (λ b. flag (f b)) a (range_with_len (a + 1) n) in
    let y = sum_by-cons (λ b. flag (h b)) a (range_with_len (a + 1) n) in
    let z = sum_by-cons (λ b. flag (t b)) a (range_with_len (a + 1) n) in
    let rest = count_cover f h t (a + 1) n cover in
    let here : flag (f a) ≤ flag (h a) + flag (t a) = by (f a) (h a) (t a) (cover a) in
    omega (arith, x, y, z, rest, here)
  where
    by : (p q r : Bool) → (p ≡ true → (q || r) ≡ true) → flag p ≤ flag q + flag r
    by false q r h = omega arith
    by true true r h = omega arith
    by true false true h = omega arith
    by true false false h = absurd (let e : false ≡ true = h refl in cc)

count_zero : (x a n : ℕ) → x < a → count_by (λ b. x == b) (range_with_len a n) ≡ 0
count_zero x a zero low = refl
count_zero x a (suc n) low =
    let step = sum_by-cons (λ b. flag (x == b)) a (range_with_len (a + 1) n) in
    let rest = count_zero x (a + 1) n (omega arith) in
    let here : flag (x == a) ≡ 0 = ap flag (off x a low) in
    omega (arith, step, rest, here)
  where
    off : (x a : ℕ) → x < a → (x == a) ≡ false
    off x a low = grind (arith, nat_tests)

count_one : (x a n : ℕ) → count_by (λ b. x == b) (range_with_len a n) ≤ 1
count_one x a zero = omega arith
count_one x a (suc n) =
    let step = sum_by-cons (λ b. flag (x == b)) a (range_with_len (a + 1) n) in
    elim (cases_eq x a) [
      | inl is ↦
          let rest = count_zero x (a + 1) n (omega arith) in
          let here : flag (x == a) ≡ 1 = ap flag (eq-eqb x a is) in
          omega (arith, step, rest, here)
      | inr away ↦
          let rest = count_one x (a + 1) n in
          let here : flag (x == a) ≡ 0 = ap flag (off x a away) in
          omega (arith, step, rest, here)
    ]
  where
    off : (x a : ℕ) → x ≢ a → (x == a) ≡ false
    off x a h = grind (arith, nat_tests)

count_none : (a n : ℕ) → count_by (λ b. false) (range_with_len a n) ≤ 0
count_none a zero = omega arith
count_none a (suc n) =
    let step = sum_by-cons (λ b. flag false) a (range_with_len (a + 1) n) in
    let rest = count_none (a + 1) n in
    omega (arith, step, rest)

-- one block, if it is to be counted
count_if : (t : Bool) (x a n : ℕ) → count_by (λ b. not t && (x == b)) (range_with_len a n) ≤ cond t 0 1
count_if false x a n = count_one x a n
count_if true x a n = count_none a n

-- ---- a cut takes no more free blocks than it needs

module _ (g : Request) (c v w : View) (n : ℕ) (indices : List ℕ) (shape : HasShape g v n indices) where
  -- the block of a position that was not dirty
  abbrev took : Form → ℕ → ℕ → Bool
  took form m b = not (is_dirty g c v (numbered n form m)) && (block_at g w (numbered n form m) == b)

  abbrev taken : Cut → ℕ → Bool
  taken (Whole entry) b = false
  taken (Node entry place) b = took Indirect (entry - g.direct) b
  taken (Top entry place) b = took Double (entry - g.direct - g.indirect) b
  taken (Both entry outer place) b = took Double (entry - g.direct - g.indirect) b || took Indirect (number_under g Double (entry - g.direct - g.indirect) outer) b

  -- what the positions cost that the cut goes through
  abbrev cost_at : Form → ℕ → ℕ
  cost_at form m = cond (is_dirty g c v (numbered n form m)) 0 1

  abbrev need_at : Cut → ℕ
  need_at (Whole entry) = 0
  need_at (Node entry place) = cost_at Indirect (entry - g.direct)
  need_at (Top entry place) = cost_at Double (entry - g.direct - g.indirect)
  need_at (Both entry outer place) = cost_at Double (entry - g.direct - g.indirect) + cost_at Indirect (number_under g Double (entry - g.direct - g.indirect) outer)

  one_took : (form : Form) (m a k : ℕ) → count_by (took form m) (range_with_len a k) ≤ cost_at form m
  one_took form m a k = count_if (is_dirty g c v (numbered n form m)) (block_at g w (numbered n form m)) a k

  taken_most : (cut : Cut) (a k : ℕ) → count_by (taken cut) (range_with_len a k) ≤ need_at cut
  taken_most (Whole entry) a k = count_none a k
  taken_most (Node entry place) a k = one_took Indirect (entry - g.direct) a k
  taken_most (Top entry place) a k = one_took Double (entry - g.direct - g.indirect) a k
  taken_most (Both entry outer place) a k =
      let one = one_took Double (entry - g.direct - g.indirect) a k in
      let two = one_took Indirect (number_under g Double (entry - g.direct - g.indirect) outer) a k in
      let both = count_cover (taken (Both entry outer place)) (took Double (entry - g.direct - g.indirect)) (took Indirect (number_under g Double (entry - g.direct - g.indirect) outer)) a k (λ x h. h) in
      omega (arith, one, two, both)

  took_at : (form other : Form) (m l b : ℕ) → (same_form form other && (m == l)) ≡ true → took form m b ≡ true → took other l b ≡ true
  took_at form other m l b h t =
      let p = and_parts (same_form form other) (m == l) h in
      let form_is = same_form-true form other p.0 in
      let index_is = eqb-true m l p.1 in
      (λ i. took (sym form_is i) (sym index_is i) b) ∙ t

  taken_by : (cut : Cut) (form : Form) (m b : ℕ) → is_through g cut form m ≡ true → took form m b ≡ true → taken cut b ≡ true
  taken_by (Whole entry) form m b on t = absurd (let e : false ≡ true = on in cc)
  taken_by (Node entry place) form m b on t = took_at form Indirect m (entry - g.direct) b on t
  taken_by (Top entry place) form m b on t = took_at form Double m (entry - g.direct - g.indirect) b on t
  taken_by (Both entry outer place) form m b on t =
      elim (or_cases (same_form form Double && (m == entry - g.direct - g.indirect)) (same_form form Indirect && (m == number_under g Double (entry - g.direct - g.indirect) outer)) on) [
        | inl h ↦ or_left (took Double (entry - g.direct - g.indirect) b) _ (took_at form Double m (entry - g.direct - g.indirect) b h t)
        | inr h ↦ or_right (took Double (entry - g.direct - g.indirect) b) _ (took_at form Indirect m (number_under g Double (entry - g.direct - g.indirect) outer) b h t)
      ]

  module _ (i : ℕ) (is : IsCut g c v w n i indices) where
    abbrev cut : Cut
    cut = cut_at g v n i

    -- a position that is left was one before
    was_there : (form : Form) (m : ℕ) → has (positions_of g n (before i indices)) (numbered n form m) ≡ true → block_at g v (numbered n form m) ≢ 0
    was_there form m h =
        let any = and_parts (n == n) (list_any (is_on_chain g form m) (before i indices)) (sym (has-positions_of g n (before i indices) (numbered n form m)) ∙ h) in
        let f = found (λ x. nat_lt x i && is_on_chain g form m x) indices (sym (any-filter (λ x. nat_lt x i) (is_on_chain g form m) indices) ∙ any.1) in
        position_there g v n indices shape form m (position_of g v n indices shape form m f.0 f.1 (and_parts (nat_lt f.0 i) (is_on_chain g form m f.0) f.2).1)

    split : (form : Form) (m : ℕ) → is_split g i indices form m ≡ is_through g cut form m
    split form m = let f = finds g v n indices shape i in split_by_cut g v n i indices shape cut f.goes_through f.takes f.same form m

    not_dirty : (form : Form) (m : ℕ) → is_used c (block_at g v (numbered n form m)) ≡ true → is_dirty g c v (numbered n form m) ≡ false
    not_dirty form m old = by (is_used v (block_at g v (numbered n form m))) (is_used c (block_at g v (numbered n form m))) old
      where
        by : (s t : Bool) → t ≡ true → (s && not t) ≡ false
        by true true h = refl
        by true false h = sym h
        by false t h = refl

    cover : (b : ℕ) → is_free c v b ≡ true → (is_free c w b || taken cut b) ≡ true
    cover b free =
        let parts = and_parts (not (is_used c b)) (not (is_used v b)) free in
        elim (by_use (w.blocks b)) [
          | inl none ↦ or_left (is_free c w b) (taken cut b) (and_from _ _ parts.0 (ap (λ o. not (is_some o)) none))
          | inr used ↦
              let none_v : v.blocks b ≡ None = elim (by_use (v.blocks b)) [ inl none ↦ none | inr was ↦ absurd (clash (is_used v b) was parts.1) ] in
              let r = is.used b used none_v in
              let there = was_there r.0 r.1 r.2 in
              or_right (is_free c w b) (taken cut b) (elim (is.came r.0 r.1 r.2) [
                | inl same ↦ absurd (used_not_none (v.blocks b) (ap (is_used v) (sym r.3 ∙ same) ∙ node_used g v n indices shape r.0 r.1 there) none_v)
                | inr away ↦ elim (cases_Bool (is_through g cut r.0 r.1)) [
                  | inl on ↦ taken_by cut r.0 r.1 b on (and_from _ _ (ap not (not_dirty r.0 r.1 (away.was there))) (eq-eqb (block_at g w (numbered n r.0 r.1)) b r.3))
                  | inr off ↦
                      let same = is.moved r.0 r.1 r.2 (split r.0 r.1 ∙ off) in
                      absurd (used_not_none (v.blocks b) (ap (is_used v) (sym r.3 ∙ same) ∙ node_used g v n indices shape r.0 r.1 there) none_v)
                ]
              ])
        ]
      where
        clash : (t : Bool) → t ≡ true → not t ≡ true → ⊥
        clash true h e = let f : false ≡ true = e in cc
        clash false h e = let f : false ≡ true = h in cc

    -- The free blocks do not fall by more than the cut needs.
    free_now-cut : free_now g c v ≤ free_now g c w + need_at cut
    unfolding free_now
    free_now-cut =
        let all = count_cover (is_free c v) (is_free c w) (taken cut) (first_allocable_of g) (allocable_of g) cover in
        let most = taken_most cut (first_allocable_of g) (allocable_of g) in
        omega (arith, all, most)

  need_is : (i : ℕ) (cut : Cut) → GoesThrough g indices cut → need_at cut ≡ need_of c v n cut
  need_is i (Whole entry) t = refl
  need_is i (Node entry place) t = ap (cost c v) (single_entry g v n entry t.0 t.1).1
  need_is i (Top entry place) t = ap (cost c v) (double_entry g v n entry t.0).1
  need_is i (Both entry outer place) t = λ x. cost c v ((double_entry g v n entry t.0).1 x) + cost c v (inner_block g c v n i indices shape entry outer place t x)

  pub free_now-need : (i : ℕ) → IsCut g c v w n i indices → free_now g c v ≤ free_now g c w + cut_need g c v n i
  free_now-need i is =
      let most = free_now-cut i is in
      let same = need_is i (cut_at g v n i) (finds g v n indices shape i).goes_through in
      omega (arith, most, same)
