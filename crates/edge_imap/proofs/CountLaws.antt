-- Counts of the numbers of a range that pass a test.
use Rattle.std.proofs.Common.{◌≡◌, ◌≢◌, inl, inr, ℕ, zero, suc, ◌+◌, ◌-◌, ◌<◌, ◌≤◌, ◌&&◌, not, Bool, true, false, cond, min, List, ◌∷◌, refl, sym, ap, ◌∙◌, arith}
use Rattle.std.specs.List.{count_by, range_with_len}
use Rattle.std.proofs.lemmas.Bool.{cases_eq}
use Rattle.std.proofs.lemmas.List.FromFn.{length-range_with_len}
use Rattle.std.proofs.lemmas.List.Sums.{count_by-le-length, sum_by-cons}
use Rattle.edge_base.specs.declared.geometry.Request.{Request}
use Rattle.edge_base.specs.layout.Places.{first_allocable_of, allocable_of}
use Rattle.edge_alloc.specs.declared.Counts.{Counts}
use Rattle.edge_imap.specs.Bitmaps.{allocable_counts, counts_after, counts_settled}

abbrev pub one : Bool → ℕ
one t = cond t 1 0

pub count-cons : (p : ℕ → Bool) (x : ℕ) (xs : List ℕ) → count_by p (x ∷ xs) ≡ one (p x) + count_by p xs
count-cons p x xs = sum_by-cons (λ k. cond (p k) 1 0) x xs

pub count-few : (p : ℕ → Bool) (a n : ℕ) → count_by p (range_with_len a n) ≤ n
count-few p a n = omega (arith, count_by-le-length p (range_with_len a n), length-range_with_len a n)

pub count-append : (p : ℕ → Bool) (a n m : ℕ) → count_by p (range_with_len a (n + m)) ≡ count_by p (range_with_len a n) + count_by p (range_with_len (a + n) m)
count-append p a zero m =
    let all : zero + m ≡ m = omega arith in
    let at : a ≡ a + zero = omega arith in
    ap (λ (k : ℕ). count_by p (range_with_len a k)) all ∙ omega (arith, ap (λ (k : ℕ). count_by p (range_with_len k m)) at)
count-append p a (suc n) m =
    let all : suc n + m ≡ suc (n + m) = omega arith in
    let at : a + 1 + n ≡ a + suc n = omega arith in
    ap (λ (k : ℕ). count_by p (range_with_len a k)) all ∙ count-cons p a (range_with_len (a + 1) (n + m)) ∙ ap (λ (k : ℕ). one (p a) + k) (count-append p (a + 1) n m)
    ∙ omega (arith, count-cons p a (range_with_len (a + 1) n), ap (λ (k : ℕ). count_by p (range_with_len k m)) at)

-- tests that agree on the range, which may begin elsewhere
pub count-shift : (p q : ℕ → Bool) (s a b n : ℕ) → b ≡ s + a → ((k : ℕ) → a ≤ k → k < a + n → q (s + k) ≡ p k) → count_by q (range_with_len b n) ≡ count_by p (range_with_len a n)
count-shift p q s a b zero e same = refl
count-shift p q s a b (suc n) e same =
    let first : q b ≡ p a = ap q e ∙ same a (omega arith) (omega arith) in
    let rest = count-shift p q s (a + 1) (b + 1) n (omega (arith, e)) (λ k on lt. same k (omega arith) (omega arith)) in
    count-cons q b (range_with_len (b + 1) n) ∙ (λ i. one (first i) + rest i) ∙ sym (count-cons p a (range_with_len (a + 1) n))

pub count-alike : (p q : ℕ → Bool) (a n : ℕ) → ((k : ℕ) → a ≤ k → k < a + n → q k ≡ p k) → count_by q (range_with_len a n) ≡ count_by p (range_with_len a n)
count-alike p q a n same = count-shift p q 0 a a n (omega arith) (λ k on lt. ap q (omega arith) ∙ same k on lt)

-- tests that agree but at one number of the range
pub count-point : (p q : ℕ → Bool) (a n b : ℕ) → a ≤ b → b < a + n → ((k : ℕ) → a ≤ k → k ≢ b → q k ≡ p k) → count_by q (range_with_len a n) + one (p b) ≡ count_by p (range_with_len a n) + one (q b)
count-point p q a zero b on lt same = absurd (omega arith)
count-point p q a (suc n) b on lt same = elim (cases_eq a b) [
  | inl e ↦
      let rest = count-alike p q (a + 1) n (λ k from to. same k (omega arith) (λ f. omega (arith, e, f, from))) in
      let old : one (p a) ≡ one (p b) = ap (λ (k : ℕ). one (p k)) e in
      let new : one (q a) ≡ one (q b) = ap (λ (k : ℕ). one (q k)) e in
      omega (arith, count-cons q a (range_with_len (a + 1) n), count-cons p a (range_with_len (a + 1) n), rest, old, new)
  | inr far ↦
      let above : a + 1 ≤ b = omega (arith, far) in
      let rest = count-point p q (a + 1) n b above (omega arith) (λ k from off. same k (omega arith) off) in
      let first : one (q a) ≡ one (p a) = ap one (same a (omega arith) far) in
      omega (arith, count-cons q a (range_with_len (a + 1) n), count-cons p a (range_with_len (a + 1) n), rest, first)
]

split_one : (c w : Bool) → one (not w && not w) ≡ one (not c && not w) + one (c && not w)
split_one true true = refl
split_one true false = refl
split_one false true = refl
split_one false false = refl

-- what one list does not use is free in both, or used in the other alone
pub count-split : (c w : ℕ → Bool) (a n : ℕ) → count_by (λ b. not (w b) && not (w b)) (range_with_len a n)
    ≡ count_by (λ b. not (c b) && not (w b)) (range_with_len a n) + count_by (λ b. c b && not (w b)) (range_with_len a n)
count-split c w a zero = refl
count-split c w a (suc n) =
    omega (
      arith,
      count-cons (λ b. not (w b) && not (w b)) a (range_with_len (a + 1) n),
      count-cons (λ b. not (c b) && not (w b)) a (range_with_len (a + 1) n),
      count-cons (λ b. c b && not (w b)) a (range_with_len (a + 1) n),
      split_one (c a) (w a),
      count-split c w (a + 1) n,
    )

none_one : (w : Bool) → one (w && not w) ≡ 0
none_one true = refl
none_one false = refl

-- no number is used and not used
pub count-none : (w : ℕ → Bool) (a n : ℕ) → count_by (λ b. w b && not (w b)) (range_with_len a n) ≡ 0
count-none w a zero = refl
count-none w a (suc n) = omega (arith, count-cons (λ b. w b && not (w b)) a (range_with_len (a + 1) n), none_one (w a), count-none w (a + 1) n)

-- ---- the counts of two lists

pub counts_same : (g : Request) (c w d v : ℕ → Bool) → ((k : ℕ) → first_allocable_of g ≤ k → k < g.blocks → d k ≡ c k) → ((k : ℕ) → first_allocable_of g ≤ k → k < g.blocks → v k ≡ w k) → allocable_counts g d v ≡ allocable_counts g c w
counts_same g c w d v first second = λ i. record {
  free = count-alike (λ b. not (c b) && not (w b)) (λ b. not (d b) && not (v b)) (first_allocable_of g) (allocable_of g) (λ k on lt j. not (first k on (omega (arith, on, lt)) j) && not (second k on (omega (arith, on, lt)) j)) i;
  almost = count-alike (λ b. c b && not (w b)) (λ b. d b && not (v b)) (first_allocable_of g) (allocable_of g) (λ k on lt j. first k on (omega (arith, on, lt)) j && not (second k on (omega (arith, on, lt)) j)) i;
}

pub counts_settle : (g : Request) (c w : ℕ → Bool) (counts : Counts) → g.blocks ≤ 4194304 → counts ≡ allocable_counts g c w → counts_settled counts ≡ allocable_counts g w w
counts_settle g c w counts few is =
    let split = count-split c w (first_allocable_of g) (allocable_of g) in
    let most = count-few (λ b. not (w b) && not (w b)) (first_allocable_of g) (allocable_of g) in
    let free : min (counts.free + counts.almost) 4294967295 ≡ count_by (λ b. not (w b) && not (w b)) (range_with_len (first_allocable_of g) (allocable_of g))
    = omega (arith, ap (λ (x : Counts). x.free) is, ap (λ (x : Counts). x.almost) is, split, most, few) in
    λ i. record { free = free i; almost = sym (count-none w (first_allocable_of g) (allocable_of g)) i }

module _ (g : Request) (c w d v : ℕ → Bool) (b : ℕ) (few : g.blocks ≤ 4194304) (from : first_allocable_of g ≤ b) (to : b < g.blocks)
    (stays : (k : ℕ) → first_allocable_of g ≤ k → d k ≡ c k) (others : (k : ℕ) → first_allocable_of g ≤ k → k ≢ b → v k ≡ w k) where
  inside : b < first_allocable_of g + allocable_of g
  inside = omega arith

  free_point : count_by (λ k. not (d k) && not (v k)) (range_with_len (first_allocable_of g) (allocable_of g)) + one (not (c b) && not (w b))
      ≡ count_by (λ k. not (c k) && not (w k)) (range_with_len (first_allocable_of g) (allocable_of g)) + one (not (d b) && not (v b))
  free_point = count-point (λ k. not (c k) && not (w k)) (λ k. not (d k) && not (v k)) (first_allocable_of g) (allocable_of g) b from inside (λ k on far i. not (stays k on i) && not (others k on far i))

  almost_point : count_by (λ k. d k && not (v k)) (range_with_len (first_allocable_of g) (allocable_of g)) + one (c b && not (w b))
      ≡ count_by (λ k. c k && not (w k)) (range_with_len (first_allocable_of g) (allocable_of g)) + one (d b && not (v b))
  almost_point = count-point (λ k. c k && not (w k)) (λ k. d k && not (v k)) (first_allocable_of g) (allocable_of g) b from inside (λ k on far i. stays k on i && not (others k on far i))

  few_free : count_by (λ k. not (d k) && not (v k)) (range_with_len (first_allocable_of g) (allocable_of g)) ≤ 4194304
  few_free = omega (arith, count-few (λ k. not (d k) && not (v k)) (first_allocable_of g) (allocable_of g))

  few_almost : count_by (λ k. d k && not (v k)) (range_with_len (first_allocable_of g) (allocable_of g)) ≤ 4194304
  few_almost = omega (arith, count-few (λ k. d k && not (v k)) (first_allocable_of g) (allocable_of g))

  -- block b has changed in the working list
  pub counts_change : (counts : Counts) (committed used : Bool) → counts ≡ allocable_counts g c w → c b ≡ committed → w b ≡ not used → v b ≡ used → counts_after counts committed used ≡ allocable_counts g d v
  counts_change counts true true is at was now =
      let p : one (not (c b) && not (w b)) ≡ 0 = λ i. one (not (at i) && not (was i)) in
      let q : one (not (d b) && not (v b)) ≡ 0 = λ i. one (not ((stays b from ∙ at) i) && not (now i)) in
      let r : one (c b && not (w b)) ≡ 1 = λ i. one (at i && not (was i)) in
      let s : one (d b && not (v b)) ≡ 0 = λ i. one ((stays b from ∙ at) i && not (now i)) in
      let free : counts.free ≡ count_by (λ k. not (d k) && not (v k)) (range_with_len (first_allocable_of g) (allocable_of g)) = omega (arith, free_point, p, q, ap (λ (x : Counts). x.free) is) in
      let almost : counts.almost - 1 ≡ count_by (λ k. d k && not (v k)) (range_with_len (first_allocable_of g) (allocable_of g)) = omega (arith, almost_point, r, s, ap (λ (x : Counts). x.almost) is) in
      λ i. record { free = free i; almost = almost i }
  counts_change counts true false is at was now =
      let p : one (not (c b) && not (w b)) ≡ 0 = λ i. one (not (at i) && not (was i)) in
      let q : one (not (d b) && not (v b)) ≡ 0 = λ i. one (not ((stays b from ∙ at) i) && not (now i)) in
      let r : one (c b && not (w b)) ≡ 0 = λ i. one (at i && not (was i)) in
      let s : one (d b && not (v b)) ≡ 1 = λ i. one ((stays b from ∙ at) i && not (now i)) in
      let free : counts.free ≡ count_by (λ k. not (d k) && not (v k)) (range_with_len (first_allocable_of g) (allocable_of g)) = omega (arith, free_point, p, q, ap (λ (x : Counts). x.free) is) in
      let almost : min (counts.almost + 1) 4294967295 ≡ count_by (λ k. d k && not (v k)) (range_with_len (first_allocable_of g) (allocable_of g)) = omega (arith, almost_point, r, s, few_almost, ap (λ (x : Counts). x.almost) is) in
      λ i. record { free = free i; almost = almost i }
  counts_change counts false true is at was now =
      let p : one (not (c b) && not (w b)) ≡ 1 = λ i. one (not (at i) && not (was i)) in
      let q : one (not (d b) && not (v b)) ≡ 0 = λ i. one (not ((stays b from ∙ at) i) && not (now i)) in
      let r : one (c b && not (w b)) ≡ 0 = λ i. one (at i && not (was i)) in
      let s : one (d b && not (v b)) ≡ 0 = λ i. one ((stays b from ∙ at) i && not (now i)) in
      let free : counts.free - 1 ≡ count_by (λ k. not (d k) && not (v k)) (range_with_len (first_allocable_of g) (allocable_of g)) = omega (arith, free_point, p, q, ap (λ (x : Counts). x.free) is) in
      let almost : counts.almost ≡ count_by (λ k. d k && not (v k)) (range_with_len (first_allocable_of g) (allocable_of g)) = omega (arith, almost_point, r, s, ap (λ (x : Counts). x.almost) is) in
      λ i. record { free = free i; almost = almost i }
  counts_change counts false false is at was now =
      let p : one (not (c b) && not (w b)) ≡ 0 = λ i. one (not (at i) && not (was i)) in
      let q : one (not (d b) && not (v b)) ≡ 1 = λ i. one (not ((stays b from ∙ at) i) && not (now i)) in
      let r : one (c b && not (w b)) ≡ 0 = λ i. one (at i && not (was i)) in
      let s : one (d b && not (v b)) ≡ 0 = λ i. one ((stays b from ∙ at) i && not (now i)) in
      let free : min (counts.free + 1) 4294967295 ≡ count_by (λ k. not (d k) && not (v k)) (range_with_len (first_allocable_of g) (allocable_of g)) = omega (arith, free_point, p, q, few_free, ap (λ (x : Counts). x.free) is) in
      let almost : counts.almost ≡ count_by (λ k. d k && not (v k)) (range_with_len (first_allocable_of g) (allocable_of g)) = omega (arith, almost_point, r, s, ap (λ (x : Counts). x.almost) is) in
      λ i. record { free = free i; almost = almost i }
