-- Members of lists of numbers.
use Rattle.std.proofs.Common.{◌≡◌, ◌≢◌, ℕ, zero, suc, ◌+◌, ◌-◌, ◌<◌, ◌≤◌, ◌==◌, ◌&&◌, ◌||◌, not, Bool, true, false, cond, List, [], ◌∷◌, length, refl, sym, ap, ◌∙◌, subst, arith, inl, inr}
use Rattle.std.specs.Prelude.{slice_index}
use Rattle.std.specs.List.{list_any, filter, range_with_len}
use Rattle.std.proofs.lemmas.Bool.{cases_eq, eqb-true, eq-eqb, or_cases, or_left, or_right, or_from}
use Rattle.std.proofs.lemmas.Bool.Decides.{nat_tests}
use Rattle.edge_shape.specs.Where.{some_in}

pub found : (test : ℕ → Bool) (xs : List ℕ) → list_any test xs ≡ true → (x : ℕ) × (list_any (λ k. k == x) xs ≡ true) × (test x ≡ true)
found test [] h = absurd (let e : false ≡ true = h in cc)
found test (x ∷ xs) h = elim (or_cases (test x) (list_any test xs) h) [
  | inl here ↦ (x, or_left (x == x) (list_any (λ k. k == x) xs) (eq-eqb x x refl), here)
  | inr rest ↦ let r = found test xs rest in (r.0, or_right (x == r.0) (list_any (λ k. k == r.0) xs) r.1, r.2)
]

pub any_of : (test : ℕ → Bool) (xs : List ℕ) (x : ℕ) → list_any (λ k. k == x) xs ≡ true → test x ≡ true → list_any test xs ≡ true
any_of test [] x m h = m
any_of test (y ∷ xs) x m h = elim (or_cases (y == x) (list_any (λ k. k == x) xs) m) [
  | inl is ↦ or_left (test y) (list_any test xs) (ap test (eqb-true y x is) ∙ h)
  | inr rest ↦ or_right (test y) (list_any test xs) (any_of test xs x rest h)
]

pub any-filter : (keep test : ℕ → Bool) (xs : List ℕ) → list_any test (filter keep xs) ≡ list_any (λ x. keep x && test x) xs
any-filter keep test [] = refl
any-filter keep test (x ∷ xs) = by (keep x) (any-filter keep test xs)
  where
    by : (t : Bool) → list_any test (filter keep xs) ≡ list_any (λ y. keep y && test y) xs → list_any test (cond t (x ∷ filter keep xs) (filter keep xs)) ≡ ((t && test x) || list_any (λ y. keep y && test y) xs)
    by true rest = λ i. test x || rest i
    by false rest = rest

-- the place of a member
pub any_index : (x : ℕ) (es : List ℕ) → list_any (λ c. x == c) es ≡ true → (k : ℕ) × (k < length es) × (slice_index es k ≡ x)
any_index x [] h = absurd (let e : false ≡ true = h in cc)
any_index x (e ∷ es) h = elim (or_cases (x == e) (list_any (λ c. x == c) es) h) [
  | inl here ↦ (0, omega arith, sym (eqb-true x e here))
  | inr rest ↦ let r = any_index x es rest in (suc r.0, (let low : r.0 < length es = r.1 in omega arith), r.2)
]

-- a member of the list that is there
pub list_there : (test : ℕ → Bool) (es : List ℕ) (k : ℕ) → k < length es → test (slice_index es k) ≡ true → list_any test es ≡ true
list_there test [] k low h = absurd (no k low)
  where
    no : (k : ℕ) → k < 0 → ⊥
    no k low = omega arith
list_there test (e ∷ es) zero low h = or_left (test e) (list_any test es) h
list_there test (e ∷ es) (suc k) low h = or_right (test e) (list_any test es) (list_there test es k (omega arith) h)

-- a member found by its place
pub list_found : (test : ℕ → Bool) (es : List ℕ) → list_any test es ≡ true → (s : ℕ) × (s < length es) × (test (slice_index es s) ≡ true)
list_found test es h =
    let f = found test es h in
    let r = any_index f.0 es (turn es f.0 f.1) in
    (r.0, r.1, ap test r.2 ∙ f.2)
  where
    turn : (es : List ℕ) (x : ℕ) → list_any (λ c. c == x) es ≡ true → list_any (λ c. x == c) es ≡ true
    turn es x h = (λ i. list_any (λ c. swap x c i) es) ∙ h
      where
        swap : (x c : ℕ) → (x == c) ≡ (c == x)
        swap x c = grind (arith, nat_tests)

-- ---- ranges

range_none : (test : ℕ → Bool) (a n : ℕ) → ((j : ℕ) → a ≤ j → j < a + n → test j ≡ false) → list_any test (range_with_len a n) ≡ false
range_none test a zero h = refl
range_none test a (suc n) h = or_from _ _ (h a (omega arith) (omega arith)) (range_none test (a + 1) n (λ j from below. h j (omega arith) (omega arith)))

pub range_some : (test : ℕ → Bool) (a n j : ℕ) → a ≤ j → j < a + n → test j ≡ true → list_any test (range_with_len a n) ≡ true
range_some test a zero j from below h = absurd (omega arith)
range_some test a (suc n) j from below h = elim (cases_eq j a) [
  | inl e ↦ or_left (test a) (list_any test (range_with_len (a + 1) n)) (subst (λ (m : ℕ). test m ≡ true) e h)
  | inr away ↦ or_right (test a) (list_any test (range_with_len (a + 1) n)) (range_some test (a + 1) n j (let apart : j ≢ a = away in omega arith) (omega arith) h)
]

pub range_found : (test : ℕ → Bool) (a n : ℕ) → list_any test (range_with_len a n) ≡ true → (j : ℕ) × (a ≤ j) × (j < a + n) × (test j ≡ true)
range_found test a zero h = absurd (let e : false ≡ true = h in cc)
range_found test a (suc n) h = elim (or_cases (test a) (list_any test (range_with_len (a + 1) n)) h) [
  | inl here ↦ (a, omega arith, omega arith, here)
  | inr rest ↦ let r = range_found test (a + 1) n rest in (r.0, (let low : a + 1 ≤ r.0 = r.1 in omega arith), (let high : r.0 < a + 1 + n = r.2 in omega arith), r.3)
]

pub some_in-none : (es : List ℕ) (from upto : ℕ) → ((j : ℕ) → from ≤ j → j < upto → slice_index es j ≡ 0) → some_in es from upto ≡ false
some_in-none es from upto h = range_none (λ j. not (slice_index es j == 0)) from (upto - from) (λ j low high. at (slice_index es j) (h j low (omega arith)))
  where
    at : (c : ℕ) → c ≡ 0 → not (c == 0) ≡ false
    at c h = grind (arith, nat_tests)

pub some_in-some : (es : List ℕ) (from upto j : ℕ) → from ≤ j → j < upto → slice_index es j ≢ 0 → some_in es from upto ≡ true
some_in-some es from upto j low high h = range_some (λ j. not (slice_index es j == 0)) from (upto - from) j low (omega arith) (at (slice_index es j) h)
  where
    at : (c : ℕ) → c ≢ 0 → not (c == 0) ≡ true
    at c h = grind (arith, nat_tests)

-- one that is there
pub some_in-found : (es : List ℕ) (from upto : ℕ) → some_in es from upto ≡ true → (j : ℕ) × (from ≤ j) × (j < upto) × (slice_index es j ≢ 0)
some_in-found es from upto h =
    let r = range_found (λ j. not (slice_index es j == 0)) from (upto - from) h in
    let high : r.0 < from + (upto - from) = r.2 in
    let low : from ≤ r.0 = r.1 in
    (r.0, low, omega arith, at (slice_index es r.0) r.3)
  where
    at : (c : ℕ) → not (c == 0) ≡ true → c ≢ 0
    at c h e = grind (arith, nat_tests)

-- where none is found, each is absent
pub some_in-absent : (es : List ℕ) (from upto j : ℕ) → some_in es from upto ≡ false → from ≤ j → j < upto → slice_index es j ≡ 0
some_in-absent es from upto j h low high = elim (cases_eq (slice_index es j) 0) [
  | inl e ↦ e
  | inr there ↦ absurd (let e : true ≡ false = sym (some_in-some es from upto j low high there) ∙ h in cc)
]

-- ---- lists that are filtered

pub filter-members : (one two : ℕ → Bool) (xs : List ℕ) → ((x : ℕ) → list_any (λ k. k == x) xs ≡ true → one x ≡ two x) → filter one xs ≡ filter two xs
filter-members one two [] same = refl
filter-members one two (x ∷ xs) same =
    let rest = filter-members one two xs (λ y m. same y (or_right (x == y) (list_any (λ k. k == y) xs) m)) in
    let here = same x (or_left (x == x) (list_any (λ k. k == x) xs) (eq-eqb x x refl)) in
    λ i. cond (here i) (x ∷ rest i) (rest i)

pub filter-filter : (one two : ℕ → Bool) (xs : List ℕ) → filter two (filter one xs) ≡ filter (λ x. one x && two x) xs
filter-filter one two [] = refl
filter-filter one two (x ∷ xs) = by (one x) (filter-filter one two xs)
  where
    by : (t : Bool) → filter two (filter one xs) ≡ filter (λ y. one y && two y) xs
        → filter two (cond t (x ∷ filter one xs) (filter one xs)) ≡ cond (t && two x) (x ∷ filter (λ y. one y && two y) xs) (filter (λ y. one y && two y) xs)
    by true rest = λ i. cond (two x) (x ∷ rest i) (rest i)
    by false rest = rest

-- ---- tests

pub is_false : (b : Bool) → (b ≡ true → ⊥) → b ≡ false
is_false true h = absurd (h refl)
is_false false h = refl

pub true_false : true ≡ false → ⊥
true_false e = cc

pub apart_false : (x y : ℕ) → x ≢ y → (x == y) ≡ false
apart_false x y h = grind (arith, nat_tests)

pub some_true : (c : ℕ) → c ≢ 0 → not (c == 0) ≡ true
some_true c h = grind (arith, nat_tests)

pub true_some : (c : ℕ) → not (c == 0) ≡ true → c ≢ 0
true_some c h e = grind (arith, nat_tests)
