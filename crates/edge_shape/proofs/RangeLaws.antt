-- The indices under a place of a pointer node, and under an entry, are a range.
use Rattle.std.proofs.Common.{◌≡◌, ℕ, ◌+◌, ◌-◌, ◌*◌, ◌/◌, ◌%◌, ◌<◌, ◌≤◌, ◌==◌, ◌&&◌, ◌||◌, not, Bool, true, false, cond, ltb, leb, refl, sym, ap, ◌∙◌, arith, inl, inr}
use Rattle.std.specs.Cmp.{both_ways}
use Rattle.std.proofs.Math.Nat.{le-div_iff_mul-le, div-lt_iff_lt-mul}
use Rattle.std.proofs.lemmas.Bool.{cases_lt, eqb-true, eq-eqb, and_parts, and_from, lt-ltb, le-ltb, ltb-true, ltb-false, le-leb, leb-true, cond-true, cond-false}
use Rattle.std.proofs.lemmas.Bool.Decides.{nat_tests}
use Rattle.std.proofs.lemmas.Nat.{div-mul-add, mod-mul-add, mod_below}
use Rattle.edge_base.specs.declared.geometry.Request.{Request}
use Rattle.edge_base.specs.declared.form.Form.TheVariants.{Indirect, Double}
use Rattle.edge_base.specs.tree.Chains.{is_on_chain}
use Rattle.edge_base.specs.layout.Places.{pointers_of}
use Rattle.edge_moves.specs.Relinks.{number_under}
use Rattle.edge_shape.specs.Gone.{gone_indirect, gone_data, indirect_places, double_places, entry_places}
use Rattle.edge_shape.specs.Where.{first_in_entry}

not_true : (t : Bool) → not t ≡ true → t ≡ false
not_true true h = sym h
not_true false h = refl

-- ---- digits behind the first a numbers, to the base k

module _ (a k : ℕ) (some : 0 < k) where
  div_mod : (r : ℕ) → r ≡ r / k * k + r % k
  div_mod r = omega arith

  -- a number with these digits
  digits_of : (j r x : ℕ) → r < k → x ≡ a + (j * k + r) → ((x - a) / k ≡ j) × ((x - a) % k ≡ r)
  digits_of j r x low is =
      let less : x - a ≡ j * k + r = omega arith in
      (ap (λ (m : ℕ). m / k) less ∙ div-mul-add j k r low, ap (λ (m : ℕ). m % k) less ∙ mod-mul-add j k r low)

  -- in one row, the places from one up to another
  pub places_range : (j from upto x : ℕ) → upto ≤ k
      → (not (ltb x a) && (((x - a) / k == j) && (leb from ((x - a) % k) && ltb ((x - a) % k) upto))) ≡ (leb (a + (j * k + from)) x && ltb x (a + (j * k + upto)))
  places_range j from upto x most = both_ways _ _
      (λ h.
      let one = and_parts (not (ltb x a)) (((x - a) / k == j) && (leb from ((x - a) % k) && ltb ((x - a) % k) upto)) h in
      let two = and_parts ((x - a) / k == j) (leb from ((x - a) % k) && ltb ((x - a) % k) upto) one.1 in
      let three = and_parts (leb from ((x - a) % k)) (ltb ((x - a) % k) upto) two.1 in
      let past : a ≤ x = ltb-false x a (not_true (ltb x a) one.0) in
      let row : (x - a) / k * k ≡ j * k = ap (λ (m : ℕ). m * k) (eqb-true ((x - a) / k) j two.0) in
      let whole = div_mod (x - a) in
      let low : from ≤ (x - a) % k = leb-true from ((x - a) % k) three.0 in
      let high : (x - a) % k < upto = ltb-true ((x - a) % k) upto three.1 in
      and_from _ _ (le-leb (a + (j * k + from)) x (omega arith)) (lt-ltb x (a + (j * k + upto)) (omega arith)))
      (λ h.
      let parts = and_parts (leb (a + (j * k + from)) x) (ltb x (a + (j * k + upto))) h in
      let low : a + (j * k + from) ≤ x = leb-true (a + (j * k + from)) x parts.0 in
      let high : x < a + (j * k + upto) = ltb-true x (a + (j * k + upto)) parts.1 in
      let r : ℕ = x - (a + j * k) in
      let below : r < k = omega arith in
      let is = digits_of j r x below (omega arith) in
      let place : (x - a) % k ≡ r = is.1 in
      and_from _ _ (ap not (le-ltb x a (omega (arith, at_least (j * k))))) (and_from _ _ (eq-eqb ((x - a) / k) j is.0)
      (and_from _ _ (le-leb from ((x - a) % k) (omega arith)) (lt-ltb ((x - a) % k) upto (omega arith)))))
    where
      at_least : (m : ℕ) → 0 ≤ m
      at_least m = omega arith

  pub row_from : (m x : ℕ) → a ≤ x → m ≤ (x - a) / k → a + m * k ≤ x
  row_from m x past h = let e : m * k ≤ x - a = (le-div_iff_mul-le some).0 h in omega arith

  pub from_row : (m x : ℕ) → a ≤ x → a + m * k ≤ x → m ≤ (x - a) / k
  from_row m x past h = (le-div_iff_mul-le some).1 (let e : m * k ≤ x - a = omega arith in e)

  pub row_below : (m x : ℕ) → a ≤ x → (x - a) / k < m → x < a + m * k
  row_below m x past h = let e : x - a < m * k = (div-lt_iff_lt-mul some).0 h in omega arith

  pub below_row : (m x : ℕ) → a ≤ x → x < a + m * k → (x - a) / k < m
  below_row m x past h = (div-lt_iff_lt-mul some).1 (let e : x - a < m * k = omega arith in e)

  -- the rows from one up to another
  pub rows_range : (m l x : ℕ) → (not (ltb x a) && (leb m ((x - a) / k) && ltb ((x - a) / k) l)) ≡ (leb (a + (m * k + 0)) x && ltb x (a + (l * k + 0)))
  rows_range m l x = both_ways _ _
      (λ h.
      let one = and_parts (not (ltb x a)) (leb m ((x - a) / k) && ltb ((x - a) / k) l) h in
      let two = and_parts (leb m ((x - a) / k)) (ltb ((x - a) / k) l) one.1 in
      let past : a ≤ x = ltb-false x a (not_true (ltb x a) one.0) in
      let low = row_from m x past (leb-true m ((x - a) / k) two.0) in
      let high = row_below l x past (ltb-true ((x - a) / k) l two.1) in
      and_from _ _ (le-leb (a + (m * k + 0)) x (omega arith)) (lt-ltb x (a + (l * k + 0)) (omega arith)))
      (λ h.
      let parts = and_parts (leb (a + (m * k + 0)) x) (ltb x (a + (l * k + 0))) h in
      let low : a + (m * k + 0) ≤ x = leb-true (a + (m * k + 0)) x parts.0 in
      let high : x < a + (l * k + 0) = ltb-true x (a + (l * k + 0)) parts.1 in
      let past : a ≤ x = omega (arith, at_least (m * k)) in
      and_from _ _ (ap not (le-ltb x a past)) (and_from _ _ (le-leb m ((x - a) / k) (from_row m x past (omega arith))) (lt-ltb ((x - a) / k) l (below_row l x past (omega arith)))))
    where
      at_least : (m : ℕ) → 0 ≤ m
      at_least m = omega arith

-- ---- what is under a position is a range

module _ (g : Request) (some : 0 < pointers_of g) where
  whole_row : (x a : ℕ) → (leb 0 ((x - a) % pointers_of g) && ltb ((x - a) % pointers_of g) (pointers_of g)) ≡ true
  whole_row x a = by ((x - a) % pointers_of g) (mod_below (x - a) (pointers_of g) some)
    where
      by : (r : ℕ) → r < pointers_of g → (leb 0 r && ltb r (pointers_of g)) ≡ true
      by r low = grind (arith, nat_tests)

  and_true : (t u : Bool) → u ≡ true → t ≡ (t && u)
  and_true true u h = sym h
  and_true false u h = refl

  pub on_indirect-range : (j x : ℕ) → is_on_chain g Indirect j x ≡ (leb (number_under g Indirect j 0) x && ltb x (number_under g Indirect j (pointers_of g)))
  on_indirect-range j x =
      (λ i. not (ltb x g.direct) && and_true ((x - g.direct) / pointers_of g == j) _ (whole_row x g.direct) i)
      ∙ places_range g.direct (pointers_of g) some j 0 (pointers_of g) x (omega arith)

  pub on_double-range : (d x : ℕ) → is_on_chain g Double d x ≡ (leb (number_under g Indirect (number_under g Double d 0) 0) x && ltb x (number_under g Indirect (number_under g Double d (pointers_of g)) 0))
  on_double-range d x =
      (λ i. not (ltb x g.direct) && (not (ltb ((x - g.direct) / pointers_of g) g.indirect) && and_true (((x - g.direct) / pointers_of g - g.indirect) / pointers_of g == d) _ (whole_row ((x - g.direct) / pointers_of g) g.indirect) i))
      ∙ (λ i. not (ltb x g.direct) && places_range g.indirect (pointers_of g) some d 0 (pointers_of g) ((x - g.direct) / pointers_of g) (omega arith) i)
      ∙ rows_range g.direct (pointers_of g) some (number_under g Double d 0) (number_under g Double d (pointers_of g)) x

-- ---- what is gone is a range

module _ (g : Request) (some : 0 < pointers_of g) where
  abbrev k : ℕ
  k = pointers_of g

  abbrev row : ℕ → ℕ
  row x = (x - g.direct) / k

  pub gone-indirect_places : (j from upto x : ℕ) → upto ≤ k → gone_data g (indirect_places j from upto) x ≡ (leb (number_under g Indirect j from) x && ltb x (number_under g Indirect j upto))
  gone-indirect_places j from upto x most = by (ltb x g.direct) (ltb (row x) g.indirect) ∙ places_range g.direct k some j from upto x most
    where
      by : (t u : Bool) → cond t false (cond u false (false || false) || ((row x == j) && (leb from ((x - g.direct) % k) && ltb ((x - g.direct) % k) upto))) ≡ (not t && ((row x == j) && (leb from ((x - g.direct) % k) && ltb ((x - g.direct) % k) upto)))
      by true u = refl
      by false true = refl
      by false false = refl

  pub gone_indirect-double_places : (d from upto m : ℕ) → upto ≤ k → gone_indirect g (double_places d from upto) m ≡ (leb (number_under g Double d from) m && ltb m (number_under g Double d upto))
  gone_indirect-double_places d from upto m most = by (ltb m g.indirect) ∙ places_range g.indirect k some d from upto m most
    where
      by : (u : Bool) → cond u false (false || (((m - g.indirect) / k == d) && (leb from ((m - g.indirect) % k) && ltb ((m - g.indirect) % k) upto)))
          ≡ (not u && (((m - g.indirect) / k == d) && (leb from ((m - g.indirect) % k) && ltb ((m - g.indirect) % k) upto)))
      by true = refl
      by false = refl

  pub gone-double_places : (d from upto x : ℕ) → upto ≤ k
      → gone_data g (double_places d from upto) x ≡ (leb (number_under g Indirect (number_under g Double d from) 0) x && ltb x (number_under g Indirect (number_under g Double d upto) 0))
  gone-double_places d from upto x most =
      by (ltb x g.direct) (ltb (row x) g.indirect) ∙ (λ i. not (ltb x g.direct) && places_range g.indirect k some d from upto (row x) most i) ∙ rows_range g.direct k some (number_under g Double d from) (number_under g Double d upto) x
    where
      by : (t u : Bool) → cond t false (cond u false (false || (((row x - g.indirect) / k == d) && (leb from ((row x - g.indirect) % k) && ltb ((row x - g.indirect) % k) upto))) || false)
          ≡ (not t && (not u && (((row x - g.indirect) / k == d) && (leb from ((row x - g.indirect) % k) && ltb ((row x - g.indirect) % k) upto))))
      by true u = refl
      by false true = refl
      by false false = or_false (((row x - g.indirect) / k == d) && (leb from ((row x - g.indirect) % k) && ltb ((row x - g.indirect) % k) upto))
        where
          or_false : (t : Bool) → (t || false) ≡ t
          or_false true = refl
          or_false false = refl

  -- the entry above an index
  abbrev pub root : ℕ → ℕ
  root x = cond (ltb x g.direct) x (cond (ltb (row x) g.indirect) (g.direct + row x) (g.direct + g.indirect + (row x - g.indirect) / k))

  pub root-direct : (x : ℕ) → x < g.direct → root x ≡ x
  root-direct x low = cond-true (ltb x g.direct) _ _ (lt-ltb x g.direct low)

  pub root-single : (x : ℕ) → g.direct ≤ x → row x < g.indirect → root x ≡ g.direct + row x
  root-single x past low = cond-false (ltb x g.direct) _ _ (le-ltb x g.direct past) ∙ cond-true (ltb (row x) g.indirect) _ _ (lt-ltb (row x) g.indirect low)

  pub root-double : (x : ℕ) → g.direct ≤ x → g.indirect ≤ row x → root x ≡ g.direct + g.indirect + (row x - g.indirect) / k
  root-double x past behind = cond-false (ltb x g.direct) _ _ (le-ltb x g.direct past) ∙ cond-false (ltb (row x) g.indirect) _ _ (le-ltb (row x) g.indirect behind)

  pub first-direct : (e : ℕ) → e < g.direct → first_in_entry g e ≡ e
  first-direct e low = cond-true (ltb e g.direct) _ _ (lt-ltb e g.direct low)

  pub first-single : (e : ℕ) → g.direct ≤ e → e < g.direct + g.indirect → first_in_entry g e ≡ number_under g Indirect (e - g.direct) 0
  first-single e past low = cond-false (ltb e g.direct) _ _ (le-ltb e g.direct past) ∙ cond-true (ltb e (g.direct + g.indirect)) _ _ (lt-ltb e (g.direct + g.indirect) low)

  pub first-double : (e : ℕ) → g.direct + g.indirect ≤ e → first_in_entry g e ≡ number_under g Indirect (number_under g Double (e - g.direct - g.indirect) 0) 0
  first-double e past = cond-false (ltb e g.direct) _ _ (le-ltb e g.direct (omega arith)) ∙ cond-false (ltb e (g.direct + g.indirect)) _ _ (le-ltb e (g.direct + g.indirect) past)

  zero_le : (m : ℕ) → 0 ≤ m
  zero_le m = omega arith

  -- an index is under an entry or behind it exactly where it is not before the entry's first
  module _ (e x : ℕ) where
    abbrev number : ℕ
    number = e - g.direct - g.indirect

    direct : x < g.direct → (e ≤ root x → first_in_entry g e ≤ x) × (first_in_entry g e ≤ x → e ≤ root x)
    direct low =
        let top : root x ≡ x = root-direct x low in
        elim (cases_lt e g.direct) [
          | inl e_low ↦ let first : first_in_entry g e ≡ e = first-direct e e_low in ((λ h. omega arith), (λ h. omega arith))
          | inr e_past ↦ elim (cases_lt e (g.direct + g.indirect)) [
            | inl e_single ↦ let first : first_in_entry g e ≡ g.direct + ((e - g.direct) * k + 0) = first-single e e_past e_single in ((λ h. omega arith), (λ h. omega (arith, zero_le ((e - g.direct) * k))))
            | inr e_double ↦ let first : first_in_entry g e ≡ g.direct + ((g.indirect + (number * k + 0)) * k + 0) = first-double e e_double in ((λ h. omega arith), (λ h. omega (arith, zero_le ((g.indirect + (number * k + 0)) * k))))
          ]
        ]

    single : g.direct ≤ x → row x < g.indirect → (e ≤ root x → first_in_entry g e ≤ x) × (first_in_entry g e ≤ x → e ≤ root x)
    single past low =
        let top : root x ≡ g.direct + row x = root-single x past low in
        elim (cases_lt e g.direct) [
          | inl e_low ↦ let first : first_in_entry g e ≡ e = first-direct e e_low in ((λ h. omega arith), (λ h. omega (arith, zero_le (row x))))
          | inr e_past ↦ elim (cases_lt e (g.direct + g.indirect)) [
            | inl e_single ↦
                let first : first_in_entry g e ≡ g.direct + ((e - g.direct) * k + 0) = first-single e e_past e_single in (
                  (λ h. let up : g.direct + (e - g.direct) * k ≤ x = row_from g.direct k some (e - g.direct) x past (let r : e - g.direct ≤ row x = omega arith in r) in omega arith),
                  (λ h. let down : e - g.direct ≤ row x = from_row g.direct k some (e - g.direct) x past (let r : g.direct + (e - g.direct) * k ≤ x = omega arith in r) in omega arith),
                )
            | inr e_double ↦
                let first : first_in_entry g e ≡ g.direct + ((g.indirect + (number * k + 0)) * k + 0) = first-double e e_double in (
                  (λ h. omega arith),
                  (λ h. let down : g.indirect + (number * k + 0) ≤ row x = from_row g.direct k some (g.indirect + (number * k + 0)) x past (let r : g.direct + (g.indirect + (number * k + 0)) * k ≤ x = omega arith in r) in omega (arith, zero_le (number * k))),
                )
          ]
        ]

    double : g.direct ≤ x → g.indirect ≤ row x → (e ≤ root x → first_in_entry g e ≤ x) × (first_in_entry g e ≤ x → e ≤ root x)
    double past behind =
        let top : root x ≡ g.direct + g.indirect + (row x - g.indirect) / k = root-double x past behind in
        elim (cases_lt e g.direct) [
          | inl e_low ↦ let first : first_in_entry g e ≡ e = first-direct e e_low in ((λ h. omega arith), (λ h. omega (arith, zero_le ((row x - g.indirect) / k))))
          | inr e_past ↦ elim (cases_lt e (g.direct + g.indirect)) [
            | inl e_single ↦
                let first : first_in_entry g e ≡ g.direct + ((e - g.direct) * k + 0) = first-single e e_past e_single in (
                  (λ h. let up : g.direct + (e - g.direct) * k ≤ x = row_from g.direct k some (e - g.direct) x past (let r : e - g.direct ≤ row x = omega arith in r) in omega arith),
                  (λ h. omega (arith, zero_le ((row x - g.indirect) / k))),
                )
            | inr e_double ↦
                let first : first_in_entry g e ≡ g.direct + ((g.indirect + (number * k + 0)) * k + 0) = first-double e e_double in (
                  (λ h.
                      let table : g.indirect + number * k ≤ row x = row_from g.indirect k some number (row x) behind (let r : number ≤ (row x - g.indirect) / k = omega arith in r) in
                      let up : g.direct + (g.indirect + (number * k + 0)) * k ≤ x = row_from g.direct k some (g.indirect + (number * k + 0)) x past (let r : g.indirect + (number * k + 0) ≤ row x = omega arith in r) in
                      omega arith),
                  (λ h.
                      let down : g.indirect + (number * k + 0) ≤ row x = from_row g.direct k some (g.indirect + (number * k + 0)) x past (let r : g.direct + (g.indirect + (number * k + 0)) * k ≤ x = omega arith in r) in
                      let table : number ≤ (row x - g.indirect) / k = from_row g.indirect k some number (row x) behind (let r : g.indirect + number * k ≤ row x = omega arith in r) in
                      omega arith),
                )
          ]
        ]

    pub under_or_behind : (e ≤ root x → first_in_entry g e ≤ x) × (first_in_entry g e ≤ x → e ≤ root x)
    under_or_behind = elim (cases_lt x g.direct) [
      | inl low ↦ direct low
      | inr past ↦ elim (cases_lt (row x) g.indirect) [
        | inl low ↦ single past low
        | inr behind ↦ double past behind
      ]
    ]

  pub gone-entry_places : (from upto x : ℕ) → gone_data g (entry_places from upto) x ≡ (leb from (root x) && ltb (root x) upto)
  gone-entry_places from upto x = by (ltb x g.direct) (ltb (row x) g.indirect)
    where
      or_false : (t : Bool) → (t || false) ≡ t
      or_false true = refl
      or_false false = refl

      by : (t u : Bool) → cond t (leb from x && ltb x upto) (cond u (leb from (g.direct + row x) && ltb (g.direct + row x) upto) ((leb from (g.direct + g.indirect + (row x - g.indirect) / k) && ltb (g.direct + g.indirect + (row x - g.indirect) / k) upto) || false) || false)
          ≡ (leb from (cond t x (cond u (g.direct + row x) (g.direct + g.indirect + (row x - g.indirect) / k))) && ltb (cond t x (cond u (g.direct + row x) (g.direct + g.indirect + (row x - g.indirect) / k))) upto)
      by true u = refl
      by false true = or_false (leb from (g.direct + row x) && ltb (g.direct + row x) upto)
      by false false = or_false ((leb from (g.direct + g.indirect + (row x - g.indirect) / k) && ltb (g.direct + g.indirect + (row x - g.indirect) / k) upto) || false) ∙ or_false (leb from (g.direct + g.indirect + (row x - g.indirect) / k) && ltb (g.direct + g.indirect + (row x - g.indirect) / k) upto)

  -- the indices that stay where entries go, of those under entries that there are
  pub kept-entry_places : (from upto x : ℕ) → root x < upto → not (gone_data g (entry_places from upto) x) ≡ ltb x (first_in_entry g from)
  kept-entry_places from upto x within = ap not (gone-entry_places from upto x) ∙ elim (cases_lt x (first_in_entry g from)) [
    | inl low ↦ off (root x) (λ h. let up = (under_or_behind from x).0 h in omega arith) ∙ sym (lt-ltb x (first_in_entry g from) low)
    | inr high ↦ on (root x) ((under_or_behind from x).1 high) within ∙ sym (le-ltb x (first_in_entry g from) high)
  ]
    where
      off : (r : ℕ) → (from ≤ r → ⊥) → not (leb from r && ltb r upto) ≡ true
      off r h = elim (cases_lt r from) [ inl low ↦ none r low | inr high ↦ absurd (h high) ]
        where
          none : (r : ℕ) → r < from → not (leb from r && ltb r upto) ≡ true
          none r low = grind (arith, nat_tests)

      on : (r : ℕ) → from ≤ r → r < upto → not (leb from r && ltb r upto) ≡ false
      on r low high = grind (arith, nat_tests)
