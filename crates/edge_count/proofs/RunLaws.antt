-- The positions of a node that pass a test are counted form by form, over ranges of numbers.
use Rattle.std.proofs.Common.{◌≡◌, ℕ, ◌+◌, ◌-◌, ◌*◌, ◌/◌, ◌<◌, ◌≤◌, ◌==◌, ◌&&◌, not, Bool, true, false, eqb, ltb, leb, List, refl, sym, ap, ◌∙◌, arith, inl, inr}
use Rattle.std.specs.List.{filter, count_by, range_with_len, list_any}
use Rattle.std.proofs.lemmas.Bool.{eqb-true, eq-eqb, and_parts, and_from, le-leb, lt-ltb, leb-true, ltb-true, ltb-false, le-ltb, cond-true, cond-false, cases_lt}
use Rattle.std.proofs.lemmas.Bool.Decides.{nat_tests}
use Rattle.edge_base.specs.declared.form.Form.{Form}
use Rattle.edge_base.specs.declared.form.Form.TheVariants.{Plain, Indirect, Double}
use Rattle.edge_base.specs.declared.geometry.Request.{Request}
use Rattle.edge_base.specs.layout.Places.{pointers_of}
use Rattle.edge_base.specs.tree.Chains.{is_on_chain}
use Rattle.edge_base.specs.tree.Counting.{LeadTo}
use Rattle.edge_base.specs.tree.Positions.{Position, same_form, has, count_of, positions_of}
use Rattle.edge_base.proofs.ChainLaws.{has-positions_of}
use Rattle.edge_base.proofs.CountLaws.{count_by-LeadTo, is_member-range}
use Rattle.edge_base.proofs.PositionLaws.{has-filter, count_of-from_has, count_of-filter_both}
use Rattle.edge_moves.specs.Sound.{numbered}
use Rattle.std.specs.Prelude.{max}
use Rattle.edge_count.specs.Runs.{IsRanges, first_row, row_count, run_first, run_count}
use Rattle.edge_shape.proofs.ListLaws.{range_found, range_some}
use Rattle.std.specs.Cmp.{both_ways}
use Rattle.std.proofs.Math.Nat.{le-div_iff_mul-le, div-mul-le_self}
use Rattle.std.proofs.lemmas.Nat.{div-mul-add}
use Rattle.edge_shape.proofs.SpotLaws.{same_form-same, same_form-true}

module _ (ps : List Position) (n : ℕ) (from upto : Form → ℕ) (test : Position → Bool) (ranges : IsRanges ps n from upto) where
  abbrev of_form : Form → List Position
  of_form form = filter (λ p. test p && same_form p.form form) ps

  passing : (form : Form) (p : Position) → has (of_form form) p ≡ true → (p ≡ numbered n form p.index) × (has ps p ≡ true) × (test p ≡ true)
  passing form p h =
      let parts = and_parts (has ps p) (test p && same_form p.form form) (sym (has-filter (λ q. test q && same_form q.form form) ps p) ∙ h) in
      let rest = and_parts (test p) (same_form p.form form) parts.1 in
      (make p (ranges.number p parts.0) (same_form-true p.form form rest.1), parts.0, rest.0)
    where
      make : (p : Position) → p.number ≡ n → p.form ≡ form → p ≡ numbered n form p.index
      make p one two = λ i. record { number = one i; form = two i; index = p.index }

  lead : (form : Form) → LeadTo (λ p. p.index) (of_form form) (λ k. test (numbered n form k)) (from form) (upto form)
  lead form = record {
    inside = λ p h.
        let r = passing form p h in
        let range = and_parts (leb (from form) p.index) (ltb p.index (from form + upto form)) (sym (ranges.range form p.index) ∙ ap (has ps) (sym r.0) ∙ r.1) in
        (leb-true (from form) p.index range.0, ltb-true p.index (from form + upto form) range.1, ap test (sym r.0) ∙ r.2);
    once = λ p q hp hq same. (passing form p hp).0 ∙ ap (numbered n form) same ∙ sym (passing form q hq).0;
    each = λ k low high passes. (
      numbered n form k,
      has-filter (λ q. test q && same_form q.form form) ps (numbered n form k)
          ∙ and_from _ _ (ranges.range form k ∙ and_from _ _ (le-leb (from form) k low) (lt-ltb k (from form + upto form) high)) (and_from _ _ passes (same_form-same form)),
      refl,
    );
  }

  one_form : (form : Form) → count_of (of_form form) ≡ count_by (λ k. test (numbered n form k)) (range_with_len (from form) (upto form))
  one_form form = sym (count_by-LeadTo (lead form))

  -- the law
  pub count_of-forms : count_of (filter test ps)
      ≡ count_by (λ k. test (numbered n Plain k)) (range_with_len (from Plain) (upto Plain))
      + count_by (λ k. test (numbered n Indirect k)) (range_with_len (from Indirect) (upto Indirect))
      + count_by (λ k. test (numbered n Double k)) (range_with_len (from Double) (upto Double))
  count_of-forms =
      let passed = filter test ps in
      let plain : Position → Bool = λ p. same_form p.form Plain in
      let indirect : Position → Bool = λ p. same_form p.form Indirect in
      let rest = filter (λ p. not (plain p)) passed in
      let first = count_of-filter_both plain passed in
      let second = count_of-filter_both indirect rest in
      let a = count_of-from_has (filter plain passed) (of_form Plain) (λ p. has-filter plain passed p ∙ (λ i. has-filter test ps p i && plain p) ∙ join (has ps p) (test p) (plain p) ∙ sym (has-filter (λ q. test q && plain q) ps p)) in
      let b = count_of-from_has (filter indirect rest) (of_form Indirect) (λ p. has-filter indirect rest p ∙ (λ i. has-filter (λ q. not (plain q)) passed p i && indirect p) ∙ (λ i. (has-filter test ps p i && not (plain p)) && indirect p)
      ∙ middle p.form (has ps p) (test p) ∙ sym (has-filter (λ q. test q && indirect q) ps p)) in
      let c = count_of-from_has (filter (λ p. not (indirect p)) rest) (of_form Double) (λ p. has-filter (λ q. not (indirect q)) rest p ∙ (λ i. has-filter (λ q. not (plain q)) passed p i && not (indirect p)) ∙ (λ i. (has-filter test ps p i && not (plain p)) && not (indirect p))
      ∙ last p.form (has ps p) (test p) ∙ sym (has-filter (λ q. test q && same_form q.form Double) ps p)) in
      let x = one_form Plain in
      let y = one_form Indirect in
      let z = one_form Double in
      omega arith
    where
      join : (h t f : Bool) → ((h && t) && f) ≡ (h && (t && f))
      join h t f = grind (arith, nat_tests)

      middle : (form : Form) (h t : Bool) → (((h && t) && not (same_form form Plain)) && same_form form Indirect) ≡ (h && (t && same_form form Indirect))
      middle Plain h t = grind (arith, nat_tests)
      middle Indirect h t = grind (arith, nat_tests)
      middle Double h t = grind (arith, nat_tests)

      last : (form : Form) (h t : Bool) → (((h && t) && not (same_form form Plain)) && not (same_form form Indirect)) ≡ (h && (t && same_form form Double))
      last Plain h t = grind (arith, nat_tests)
      last Indirect h t = grind (arith, nat_tests)
      last Double h t = grind (arith, nat_tests)

-- ---- the positions of a run

range_in : (a n j : ℕ) → a ≤ j → j < a + n → (leb a j && ltb j (a + n)) ≡ true
range_in a n j low high = and_from _ _ (le-leb a j low) (lt-ltb j (a + n) high)

range_of : (a n j : ℕ) → (leb a j && ltb j (a + n)) ≡ true → (a ≤ j) × (j < a + n)
range_of a n j h = let p = and_parts (leb a j) (ltb j (a + n)) h in (leb-true a j p.0, ltb-true j (a + n) p.1)

pub div_mono : (k m n : ℕ) → 0 < k → m ≤ n → m / k ≤ n / k
div_mono k m n some low = (le-div_iff_mul-le some).1 (let e = div-mul-le_self m k in omega arith)

-- a row of some number
row_bounds : (a k lo len i : ℕ) → 0 < k → a ≤ i → lo ≤ i → i < lo + len → ((lo - a) / k ≤ (i - a) / k) × ((i - a) / k ≤ (lo + len - 1 - a) / k)
row_bounds a k lo len i some past low high = (div_mono k (lo - a) (i - a) some (omega arith), div_mono k (i - a) (lo + len - 1 - a) some (omega arith))

count_none : (a k lo len : ℕ) → lo + len ≤ max lo a → row_count a k lo len ≡ 0
count_none a k lo len h = cond-true (leb (lo + len) (max lo a)) _ _ (le-leb (lo + len) (max lo a) h)

count_some : (a k lo len : ℕ) → max lo a < lo + len → row_count a k lo len ≡ (lo + len - 1 - a) / k + 1 - first_row a k lo
count_some a k lo len h = cond-false (leb (lo + len) (max lo a)) _ _ (lt-leb (lo + len) (max lo a) h)
  where
    lt-leb : (x y : ℕ) → y < x → leb x y ≡ false
    lt-leb x y h = grind (arith, nat_tests)

row_range : (a k lo len j : ℕ) → 0 < k → list_any (λ i. not (ltb i a) && eqb ((i - a) / k) j) (range_with_len lo len) ≡ (leb (first_row a k lo) j && ltb j (first_row a k lo + row_count a k lo len))
row_range a k lo len j some = both_ways _ _ to back
  where
    not_true : (t : Bool) → not t ≡ true → t ≡ false
    not_true true h = sym h
    not_true false h = refl

    to : list_any (λ i. not (ltb i a) && eqb ((i - a) / k) j) (range_with_len lo len) ≡ true → (leb (first_row a k lo) j && ltb j (first_row a k lo + row_count a k lo len)) ≡ true
    to h =
        let f = range_found (λ i. not (ltb i a) && eqb ((i - a) / k) j) lo len h in
        let parts = and_parts (not (ltb f.0 a)) (eqb ((f.0 - a) / k) j) f.3 in
        let past : a ≤ f.0 = ltb-false f.0 a (not_true (ltb f.0 a) parts.0) in
        let is : (f.0 - a) / k ≡ j = eqb-true _ j parts.1 in
        let low : lo ≤ f.0 = f.1 in
        let high : f.0 < lo + len = f.2 in
        let bounds = row_bounds a k lo len f.0 some past low high in
        let one : (lo - a) / k ≤ (f.0 - a) / k = bounds.0 in
        let two : (f.0 - a) / k ≤ (lo + len - 1 - a) / k = bounds.1 in
        let many = count_some a k lo len (omega arith) in
        range_in (first_row a k lo) (row_count a k lo len) j (omega arith) (omega arith)

    back : (leb (first_row a k lo) j && ltb j (first_row a k lo + row_count a k lo len)) ≡ true → list_any (λ i. not (ltb i a) && eqb ((i - a) / k) j) (range_with_len lo len) ≡ true
    back h = elim (cases_lt (max lo a) (lo + len)) [
      | inr none ↦ let zero_rows = count_none a k lo len none in let r = range_of (first_row a k lo) (row_count a k lo len) j h in let low : first_row a k lo ≤ j = r.0 in let high : j < first_row a k lo + row_count a k lo len = r.1 in absurd (omega arith)
      | inl past ↦
          let many = count_some a k lo len past in
          let r = range_of (first_row a k lo) (row_count a k lo len) j h in
          let low : (lo - a) / k ≤ j = r.0 in
          let high : j < first_row a k lo + row_count a k lo len = r.1 in
          let last : j ≤ (lo + len - 1 - a) / k = omega arith in
          let begin : j * k ≤ lo + len - 1 - a = (le-div_iff_mul-le some).0 last in
          elim (cases_lt lo (a + j * k)) [
            | inr before ↦
                -- the run begins in the row
                let row : (lo - a) / k ≡ j = let up : j ≤ (lo - a) / k = (le-div_iff_mul-le some).1 (let e : j * k ≤ lo - a = omega arith in e) in omega arith in
                range_some (λ i. not (ltb i a) && eqb ((i - a) / k) j) lo len lo (omega arith) (omega arith) (λ i. not (le-ltb lo a (let e : a ≤ lo = omega (arith, zero_le (j * k)) in e) i) && eq-eqb ((lo - a) / k) j row i)
            | inl after ↦
                let row : (a + j * k - a) / k ≡ j = ap (λ (m : ℕ). m / k) (let e : a + j * k - a ≡ j * k + 0 = omega arith in e) ∙ div-mul-add j k 0 some in
                range_some (λ i. not (ltb i a) && eqb ((i - a) / k) j) lo len (a + j * k) (let e : lo < a + j * k = after in omega arith) (omega arith) (λ i. not (le-ltb (a + j * k) a (let e : a ≤ a + j * k = omega (arith, zero_le (j * k)) in e) i) && eq-eqb ((a + j * k - a) / k) j row i)
          ]
    ]
      where
        zero_le : (m : ℕ) → 0 ≤ m
        zero_le m = omega arith

-- the rows of a run are the rows that the tables are of
table_range : (a b k lo len d : ℕ) → 0 < k
    → list_any (λ i. not (ltb i a) && (not (ltb ((i - a) / k) b) && eqb (((i - a) / k - b) / k) d)) (range_with_len lo len)
    ≡ list_any (λ r. not (ltb r b) && eqb ((r - b) / k) d) (range_with_len (first_row a k lo) (row_count a k lo len))
table_range a b k lo len d some = both_ways _ _
    (λ h.
    let f = range_found (λ i. not (ltb i a) && (not (ltb ((i - a) / k) b) && eqb (((i - a) / k - b) / k) d)) lo len h in
    let parts = and_parts (not (ltb f.0 a)) (not (ltb ((f.0 - a) / k) b) && eqb (((f.0 - a) / k - b) / k) d) f.3 in
    let here : list_any (λ i. not (ltb i a) && eqb ((i - a) / k) ((f.0 - a) / k)) (range_with_len lo len) ≡ true =
    range_some (λ i. not (ltb i a) && eqb ((i - a) / k) ((f.0 - a) / k)) lo len f.0 f.1 f.2 (and_from _ _ parts.0 (eq-eqb ((f.0 - a) / k) ((f.0 - a) / k) refl)) in
    let r = range_of (first_row a k lo) (row_count a k lo len) ((f.0 - a) / k) (sym (row_range a k lo len ((f.0 - a) / k) some) ∙ here) in
    range_some (λ r. not (ltb r b) && eqb ((r - b) / k) d) (first_row a k lo) (row_count a k lo len) ((f.0 - a) / k) r.0 r.1 parts.1)
    (λ h.
    let f = range_found (λ r. not (ltb r b) && eqb ((r - b) / k) d) (first_row a k lo) (row_count a k lo len) h in
    let back = range_found (λ i. not (ltb i a) && eqb ((i - a) / k) f.0) lo len (row_range a k lo len f.0 some ∙ range_in (first_row a k lo) (row_count a k lo len) f.0 f.1 f.2) in
    let parts = and_parts (not (ltb back.0 a)) (eqb ((back.0 - a) / k) f.0) back.3 in
    let is : (back.0 - a) / k ≡ f.0 = eqb-true _ f.0 parts.1 in
    range_some (λ i. not (ltb i a) && (not (ltb ((i - a) / k) b) && eqb (((i - a) / k - b) / k) d)) lo len back.0 back.1 back.2
    (and_from _ _ parts.0 (ap (λ (r : ℕ). not (ltb r b) && eqb ((r - b) / k) d) is ∙ f.3)))

-- the positions of a run are those of three ranges
pub run_ranges : (g : Request) (n lo len : ℕ) → 0 < pointers_of g → IsRanges (positions_of g n (range_with_len lo len)) n (run_first g lo len) (run_count g lo len)
run_ranges g n lo len some = record {
  number = λ p h. eqb-true p.number n (and_parts (p.number == n) _ (sym (has-positions_of g n (range_with_len lo len) p) ∙ h)).0;
  range = λ form k. has-positions_of g n (range_with_len lo len) (numbered n form k) ∙ (λ i. eq-eqb n n refl i && list_any (is_on_chain g form k) (range_with_len lo len)) ∙ by form k;
}
  where
    turn : (x c : ℕ) → (x == c) ≡ (c == x)
    turn x c = grind (arith, nat_tests)

    by : (form : Form) (k : ℕ) → list_any (is_on_chain g form k) (range_with_len lo len) ≡ (leb (run_first g lo len form) k && ltb k (run_first g lo len form + run_count g lo len form))
    by Plain k = (λ i. list_any (λ x. turn x k i) (range_with_len lo len)) ∙ is_member-range lo len k
    by Indirect k = row_range g.direct (pointers_of g) lo len k some
    by Double k = table_range g.direct g.indirect (pointers_of g) lo len k some ∙ row_range g.indirect (pointers_of g) (first_row g.direct (pointers_of g) lo) (row_count g.direct (pointers_of g) lo len) k some

-- How many positions of a run pass a test: data blocks, indirect nodes and double-indirect nodes, each once.
pub run_law : (g : Request) (n lo len : ℕ) (test : Position → Bool) → 0 < pointers_of g → count_of (filter test (positions_of g n (range_with_len lo len)))
    ≡ count_by (λ k. test (numbered n Plain k)) (range_with_len lo len)
    + count_by (λ k. test (numbered n Indirect k)) (range_with_len (run_first g lo len Indirect) (run_count g lo len Indirect))
    + count_by (λ k. test (numbered n Double k)) (range_with_len (run_first g lo len Double) (run_count g lo len Double))
run_law g n lo len test some = count_of-forms (positions_of g n (range_with_len lo len)) n (run_first g lo len) (run_count g lo len) test (run_ranges g n lo len some)
