-- A count over a range by what leads to its numbers.
use Rattle.std.proofs.Common.{length, ◌≡◌, ℕ, zero, suc, ◌+◌, inl, inr, ◌&&◌, ◌||◌, not, Bool, true, false, cond, eqb, leb, ltb, List, [], ◌∷◌, map, refl, sym, ap, ◌∙◌, arith, subst}
use Rattle.std.specs.List.{filter, IsDistinct, AllByRecursion, range_with_len, count_by}
use Rattle.std.specs.Set.{is_member}
use Rattle.std.specs.Cmp.{nat_eq_equiv, both_ways}
use Rattle.std.proofs.lemmas.Bool.{eqb-true, eq-eqb, le-leb, lt-ltb, leb-true, ltb-true, and_parts, and_from, or_cases, or_left, or_right}
use Rattle.std.proofs.lemmas.Bool.Decides.{nat_tests}
use Rattle.std.proofs.lemmas.List.FromFn.{length-range_with_len}
use Rattle.std.proofs.lemmas.List.Filters.{length-filter_both}
use Rattle.std.proofs.lemmas.List.Sums.{length-filter}
use Rattle.std.proofs.lemmas.Map.Made.{length-from_keys, is_member-filter}
use Rattle.edge_base.specs.tree.Positions.{Position, same_position, has, count_of}
use Rattle.edge_base.specs.tree.Counting.{LeadTo}
use Rattle.edge_base.proofs.SetLaws.{none_equal, distinct_count-map}
use Rattle.edge_base.proofs.PositionLaws.{same_position_Decides, same_position_equiv}

-- ---- a range

pub is_member-range : (a n b : ℕ) → is_member eqb (range_with_len a n) b ≡ (leb a b && ltb b (a + n))
is_member-range a zero b = outside a b
  where
    outside : (a b : ℕ) → false ≡ (leb a b && ltb b (a + 0))
    outside a b = grind (arith, nat_tests)
is_member-range a (suc n) b = ap (λ t. eqb b a || t) (is_member-range (a + 1) n b) ∙ one_more a n b
  where
    one_more : (a n b : ℕ) → (eqb b a || (leb (a + 1) b && ltb b (a + 1 + n))) ≡ (leb a b && ltb b (a + suc n))
    one_more a n b = grind (arith, nat_tests)

IsDistinct-range : (a n : ℕ) → IsDistinct eqb (range_with_len a n)
unfolding IsDistinct
IsDistinct-range a zero = tt
IsDistinct-range a (suc n) = (none_equal eqb a (range_with_len (a + 1) n) (is_member-range (a + 1) n a ∙ outside a n), IsDistinct-range (a + 1) n)
  where
    outside : (a n : ℕ) → (leb (a + 1) a && ltb a (a + 1 + n)) ≡ false
    outside a n = grind (arith, nat_tests)

AllByRecursion-filter : {K : Type 0} (P : K → Type 0) (test : K → Bool) (xs : List K) → AllByRecursion P xs → AllByRecursion P (filter test xs)
AllByRecursion-filter P test [] all = tt
AllByRecursion-filter P test (x ∷ xs) all = by (test x) (AllByRecursion-filter P test xs all.1)
  where
    by : (b : Bool) → AllByRecursion P (filter test xs) → AllByRecursion P (cond b (x ∷ filter test xs) (filter test xs))
    by true rest = (all.0, rest)
    by false rest = rest

IsDistinct-filter : {K : Type 0} (eq : K → K → Bool) (test : K → Bool) (xs : List K) → IsDistinct eq xs → IsDistinct eq (filter test xs)
unfolding IsDistinct
IsDistinct-filter eq test [] d = tt
IsDistinct-filter eq test (x ∷ xs) d = by (test x) (IsDistinct-filter eq test xs d.1)
  where
    by : (b : Bool) → IsDistinct eq (filter test xs) → IsDistinct eq (cond b (x ∷ filter test xs) (filter test xs))
    by true rest = (AllByRecursion-filter (λ y. eq x y ≡ false) test xs d.0, rest)
    by false rest = rest

-- two tests that no element passes both of, and what passes neither
length-filter_apart : {X : Type 0} (one two : X → Bool) → ((x : X) → one x ≡ true → two x ≡ false) → (xs : List X)
    → length (filter (λ x. not (one x) && not (two x)) xs) + length (filter one xs) + length (filter two xs) ≡ length xs
length-filter_apart one two apart [] = refl
length-filter_apart {X} one two apart (x ∷ xs) = by (one x) (two x) (apart x) (length-filter_apart one two apart xs)
  where
    neither : List X
    neither = filter (λ y. not (one y) && not (two y)) xs

    by : (a b : Bool) → (a ≡ true → b ≡ false) → length neither + length (filter one xs) + length (filter two xs) ≡ length xs
        → length (cond (not a && not b) (x ∷ neither) neither) + length (cond a (x ∷ filter one xs) (filter one xs)) + length (cond b (x ∷ filter two xs) (filter two xs)) ≡ suc (length xs)
    by true true h rest = absurd (let e = h refl in cc)
    by true false h rest = omega arith
    by false true h rest = omega arith
    by false false h rest = omega arith

-- ---- the numbers that positions lead to

-- a position for each number of the list that the positions are mapped to
mapped : (f : Position → ℕ) (ps : List Position) (b : ℕ) → is_member eqb (map f ps) b ≡ true → (p : Position) × (has ps p ≡ true) × (f p ≡ b)
mapped f [] b h = absurd (cc)
mapped f (p ∷ ps) b h = elim (or_cases (eqb b (f p)) _ h) [
  | inl here ↦ (p, or_left (same_position p p) (has ps p) (same_position_equiv.refl p), sym (eqb-true b (f p) here))
  | inr there ↦ let rest = mapped f ps b there in (rest.0, or_right (same_position rest.0 p) _ rest.1, rest.2)
]

is_mapped : (f : Position → ℕ) (ps : List Position) (p : Position) → has ps p ≡ true → is_member eqb (map f ps) (f p) ≡ true
is_mapped f [] p h = absurd (cc)
is_mapped f (q ∷ ps) p h = elim (or_cases (same_position p q) _ h) [
  | inl here ↦ or_left (eqb (f p) (f q)) _ (eq-eqb (f p) (f q) (ap f ((same_position_Decides p q).0 here)))
  | inr there ↦ or_right (eqb (f p) (f q)) _ (is_mapped f ps p there)
]

module _ {f : Position → ℕ} {ps : List Position} {test : ℕ → Bool} {a n : ℕ} (lead : LeadTo f ps test a n) where
  apart : (p q : Position) → has ps p ≡ true → has ps q ≡ true → eqb (f p) (f q) ≡ same_position p q
  apart p q hp hq = both_ways (eqb (f p) (f q)) (same_position p q)
      (λ e. (same_position_Decides p q).1 (lead.once p q hp hq (eqb-true _ _ e)))
      (λ e. eq-eqb _ _ (ap f ((same_position_Decides p q).0 e)))

  kept : (b : ℕ) → is_member eqb (filter test (range_with_len a n)) b ≡ ((leb a b && ltb b (a + n)) && test b)
  kept b = is_member-filter nat_eq_equiv test b (λ x e. ap test (eqb-true b x e)) (range_with_len a n) ∙ ap (λ t. t && test b) (is_member-range a n b)

  passes : (p : Position) → has ps p ≡ true → ((leb a (f p) && ltb (f p) (a + n)) && test (f p)) ≡ true
  passes p h = let i = lead.inside p h in and_from _ _ (and_from _ _ (le-leb a (f p) i.0) (lt-ltb (f p) (a + n) i.1)) i.2

  same_numbers : (b : ℕ) → is_member eqb (filter test (range_with_len a n)) b ≡ is_member eqb (map f ps) b
  same_numbers b = both_ways _ _
      (λ h.
      let t = and_parts _ (test b) (sym (kept b) ∙ h) in
      let r = and_parts (leb a b) _ t.0 in
      let m = lead.each b (leb-true a b r.0) (ltb-true b (a + n) r.1) t.1 in
      subst (λ (k : ℕ). is_member eqb (map f ps) k ≡ true) m.2 (is_mapped f ps m.0 m.1))
      (λ h.
      let m = mapped f ps b h in
      kept b ∙ subst (λ (k : ℕ). ((leb a k && ltb k (a + n)) && test k) ≡ true) m.2 (passes m.0 m.1))

  pub count_by-LeadTo : count_by test (range_with_len a n) ≡ count_of ps
  count_by-LeadTo =
      sym (length-filter test (range_with_len a n))
      ∙ length-from_keys nat_eq_equiv (filter test (range_with_len a n)) (map f ps) (IsDistinct-filter eqb test _ (IsDistinct-range a n)) same_numbers
      ∙ distinct_count-map same_position eqb f ps apart same_position_equiv.refl

  -- the numbers that do not pass, and the positions
  pub count_by-LeadTo-rest : count_by (λ b. not (test b)) (range_with_len a n) + count_of ps ≡ n
  count_by-LeadTo-rest =
      let both = length-filter_both test (λ b. not (test b)) (λ b. refl) (range_with_len a n) in
      let pass = length-filter test (range_with_len a n) in
      let rest = length-filter (λ b. not (test b)) (range_with_len a n) in
      let all = length-range_with_len a n in
      let here = count_by-LeadTo in
      omega arith

-- ---- positions of two kinds

pub count_by-LeadTo-neither : {f h : Position → ℕ} {ps qs : List Position} {one two : ℕ → Bool} {a n : ℕ} → LeadTo f ps one a n → LeadTo h qs two a n → ((b : ℕ) → one b ≡ true → two b ≡ false)
    → count_by (λ b. not (one b) && not (two b)) (range_with_len a n) + count_of ps + count_of qs ≡ n
count_by-LeadTo-neither {f} {h} {ps} {qs} {one} {two} {a} {n} first second apart =
    let all = length-filter_apart one two apart (range_with_len a n) in
    let long = length-range_with_len a n in
    let neither = length-filter (λ b. not (one b) && not (two b)) (range_with_len a n) in
    let ones = length-filter one (range_with_len a n) in
    let twos = length-filter two (range_with_len a n) in
    let firsts = count_by-LeadTo first in
    let seconds = count_by-LeadTo second in
    omega arith
