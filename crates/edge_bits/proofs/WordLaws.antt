-- Words of a bitmap: what their bits say, and how their ones count.
use Rattle.std.proofs.Common.{◌≡◌, ◌⊎◌, inl, inr, ℕ, zero, suc, ◌+◌, ◌-◌, ◌*◌, ◌/◌, ◌%◌, ◌<◌, ◌≤◌, ◌^◌, ◌==◌, ◌&&◌, not, Bool, true, false, cond, List, [], ◌∷◌, length, take, drop, min, refl, sym, ap, ◌∙◌, arith, pow-suc, length-drop, take_all, w64}
use Rattle.std.specs.Prelude.{bit_and, slice_index, nat_le, nat_lt}
use Rattle.std.specs.Int.{bit_at, bit_not, trailing_zeros}
use Rattle.std.specs.Int.RustNames.{count_ones}
use Rattle.std.specs.List.{count_by, range_with_len}
use Rattle.std.proofs.lemmas.Bool.{cases_lt, and_right, and_parts, leb-true, ltb-true, lt-ltb, le-ltb}
use Rattle.std.proofs.lemmas.Bool.Decides.{nat_tests}
use Rattle.std.proofs.lemmas.List.{get_or-drop, get_or_past}
use Rattle.std.proofs.lemmas.List.FromFn.{length-range_with_len}
use Rattle.std.proofs.lemmas.List.Sums.{count_by-le-length, sum_by-cons}
use Rattle.std.proofs.lemmas.Nat.{ones_le_self}
use Rattle.std.proofs.lemmas.Nat.Bits.{bit_at_and, bit_at_not, bit_at-lt, bit_at-zero, bit_at-suc, bit_at_lowest, bit_at_ones, bit_at_ones_above, bit_at_cat_low, bit_at_cat_high, bit_at-trailing_zeros}
use lib.Count.{ones_step}
use Rattle.byteorder.specs.Endian.{little_from}
use Rattle.edge_base.specs.layout.Bytes.{bit_in}
use Rattle.edge_bits.specs.Bits.{HasBits, IsLeast, NonePasses, is_within}

-- ---- numbers of bytes

bit_of_rest : (at n : ℕ) (b : List ℕ) → ((k : ℕ) → slice_index b k < 256) → (i : ℕ) → 8 ≤ i → bit_at (little_from at (suc n) b) i ≡ bit_at (little_from (suc at) n b) (i - 8)
bit_of_rest at n b small i high =
    let turned : slice_index b at + 256 * little_from (suc at) n b ≡ little_from (suc at) n b * 2 ^ 8 + slice_index b at = omega arith in
    ap (λ (x : ℕ). bit_at x i) turned ∙ bit_at_cat_high (little_from (suc at) n b) 8 (slice_index b at) i (small at) high

-- bit i of the number in n bytes is bit i mod 8 of byte i / 8
pub bit_at-little : (at n : ℕ) (b : List ℕ) → ((k : ℕ) → slice_index b k < 256) → (i : ℕ) → i < 8 * n
    → bit_at (little_from at n b) i ≡ bit_at (slice_index b (at + i / 8)) (i % 8)
bit_at-little at zero b small i lt = absurd (omega arith)
bit_at-little at (suc n) b small i lt = elim (cases_lt i 8) [
  | inl low ↦
      let turned : slice_index b at + 256 * little_from (suc at) n b ≡ little_from (suc at) n b * 2 ^ 8 + slice_index b at = omega arith in
      let here : at ≡ at + i / 8 = omega arith in
      let bit : i ≡ i % 8 = omega arith in
      ap (λ (x : ℕ). bit_at x i) turned ∙ bit_at_cat_low (little_from (suc at) n b) 8 (slice_index b at) i low ∙ (λ j. bit_at (slice_index b (here j)) (bit j))
  | inr high ↦
      let there : suc at + (i - 8) / 8 ≡ at + i / 8 = omega arith in
      let bit : (i - 8) % 8 ≡ i % 8 = omega arith in
      bit_of_rest at n b small i high ∙ bit_at-little (suc at) n b small (i - 8) (omega arith) ∙ (λ j. bit_at (slice_index b (there j)) (bit j))
]

pub bit_at-little-above : (at n : ℕ) (b : List ℕ) → ((k : ℕ) → slice_index b k < 256) → (i : ℕ) → 8 * n ≤ i → bit_at (little_from at n b) i ≡ 0
bit_at-little-above at zero b small i le = bit_at-zero i
bit_at-little-above at (suc n) b small i le = bit_of_rest at n b small i (omega arith) ∙ bit_at-little-above (suc at) n b small (i - 8) (omega arith)

-- the first n bytes from byte 8 * w on, where these are eight or all that are left
pub HasBits-bytes : (bytes : List ℕ) (w n m : ℕ) → ((k : ℕ) → slice_index bytes k < 256) → m ≡ little_from 0 n (take (length bytes - 8 * w) (drop (8 * w) bytes))
    → (8 ≤ n) ⊎ (length bytes ≤ 8 * w + n) → HasBits (bit_in 0 bytes) w m
unfolding bit_in
HasBits-bytes bytes w n m small is enough = record {
  bits = λ i lt. ap (λ (x : ℕ). x == 1) (ap (λ (x : ℕ). bit_at x i) (is ∙ ap (little_from 0 n) whole) ∙ bit i lt);
}
  where
    whole : take (length bytes - 8 * w) (drop (8 * w) bytes) ≡ drop (8 * w) bytes
    whole = take_all (length bytes - 8 * w) (drop (8 * w) bytes) (omega (arith, length-drop (8 * w) bytes))

    small_rest : (k : ℕ) → slice_index (drop (8 * w) bytes) k < 256
    small_rest k = omega (arith, get_or-drop (8 * w) bytes k 0, small (8 * w + k))

    bit : (i : ℕ) → i < 64 → bit_at (little_from 0 n (drop (8 * w) bytes)) i ≡ bit_at (slice_index bytes (0 + (64 * w + i) / 8)) ((64 * w + i) % 8)
    bit i lt = elim (cases_lt i (8 * n)) [
      | inl inside ↦
          let byte : 8 * w + (0 + i / 8) ≡ 0 + (64 * w + i) / 8 = omega arith in
          let place : i % 8 ≡ (64 * w + i) % 8 = omega arith in
          bit_at-little 0 n (drop (8 * w) bytes) small_rest i inside ∙ ap (λ (x : ℕ). bit_at x (i % 8)) (get_or-drop (8 * w) bytes (0 + i / 8) 0) ∙ (λ j. bit_at (slice_index bytes (byte j)) (place j))
      | inr outside ↦
          let past : length bytes ≤ 0 + (64 * w + i) / 8 = omega arith in
          bit_at-little-above 0 n (drop (8 * w) bytes) small_rest i outside
          ∙ sym (ap (λ (x : ℕ). bit_at x ((64 * w + i) % 8)) (get_or_past bytes (0 + (64 * w + i) / 8) 0 past) ∙ bit_at-zero ((64 * w + i) % 8))
    ]

-- ---- words together

bit_test : (p q : Bool) (a b : ℕ) → a < 2 → b < 2 → (a == 1) ≡ p → (b == 1) ≡ q → (min a b == 1) ≡ (p && q)
bit_test p q a b la lb e f = grind (arith, nat_tests)

pub HasBits-and : {p q : ℕ → Bool} {w m n : ℕ} → HasBits p w m → HasBits q w n → HasBits (λ k. p k && q k) w (bit_and m n)
HasBits-and {p} {q} {w} {m} {n} one two = record {
  bits = λ i lt. ap (λ (x : ℕ). x == 1) (bit_at_and m n i) ∙ bit_test (p (64 * w + i)) (q (64 * w + i)) (bit_at m i) (bit_at n i) (bit_at-lt m i) (bit_at-lt n i) (one.bits i lt) (two.bits i lt);
}

not_test : (p : Bool) (a : ℕ) → a < 2 → (a == 1) ≡ p → (1 - a == 1) ≡ not p
not_test p a la e = grind (arith, nat_tests)

pub HasBits-not : {p : ℕ → Bool} {w m : ℕ} → m < 2 ^ 64 → HasBits p w m → HasBits (λ k. not (p k)) w (bit_not w64 m)
HasBits-not {p} {w} {m} small one = record {
  bits = λ i lt. ap (λ (x : ℕ). x == 1) (bit_at_not w64 m i small lt) ∙ not_test (p (64 * w + i)) (bit_at m i) (bit_at-lt m i) (one.bits i lt);
}

-- ---- the lowest bit

bit_true : (b : Bool) (n : ℕ) → (n == 1) ≡ b → n ≡ 1 → b ≡ true
bit_true b n e one = grind (arith, nat_tests)

bit_false : (b : Bool) (n : ℕ) → (n == 1) ≡ b → n ≡ 0 → b ≡ false
bit_false b n e none = grind (arith, nat_tests)

pub clear_word : {p : ℕ → Bool} {w m : ℕ} → HasBits p w m → m ≡ 0 → (k : ℕ) → 64 * w ≤ k → k < 64 * w + 64 → p k ≡ false
clear_word {p} {w} {m} has none k from below =
    let at : 64 * w + (k - 64 * w) ≡ k = omega arith in
    ap p (sym at) ∙ bit_false _ _ (has.bits (k - 64 * w) (omega arith)) (ap (λ (x : ℕ). bit_at x (k - 64 * w)) none ∙ bit_at-zero (k - 64 * w))

pub record IsLowest (p : ℕ → Bool) (w k : ℕ) : Type 0 where
  pub at_least : 64 * w ≤ k
  pub below : k < 64 * w + 64
  pub passes : p k ≡ true
  pub first : (j : ℕ) → 64 * w ≤ j → j < k → p j ≡ false

pub lowest_bit : {p : ℕ → Bool} {w m : ℕ} → HasBits p w m → 0 < m → m < 2 ^ 64 → IsLowest p w (64 * w + trailing_zeros w64 m)
lowest_bit {p} {w} {m} has some small =
    let lowest = bit_at-trailing_zeros w64 m some small in
    record {
      at_least = omega arith;
      below = omega (arith, lowest.0);
      passes = bit_true _ _ (has.bits (trailing_zeros w64 m) lowest.0) lowest.1;
      first = λ j from lt.
          let at : 64 * w + (j - 64 * w) ≡ j = omega arith in
          ap p (sym at) ∙ bit_false _ _ (has.bits (j - 64 * w) (omega (arith, lowest.0))) (lowest.2 (j - 64 * w) (omega arith));
    }

-- ---- masks

one_is : (a : ℕ) → a ≡ 1 → (a == 1) ≡ true
one_is a e = ap (λ (x : ℕ). x == 1) e

zero_is : (a : ℕ) → a ≡ 0 → (a == 1) ≡ false
zero_is a e = ap (λ (x : ℕ). x == 1) e

-- the word w of the numbers below n
pub HasBits-lowest : (n w m : ℕ) → m ≡ 2 ^ min (n - 64 * w) 64 - 1 → HasBits (λ k. nat_lt k n) w m
HasBits-lowest n w m is = record { bits = bit }
  where
    bit : (i : ℕ) → i < 64 → (bit_at m i == 1) ≡ nat_lt (64 * w + i) n
    bit i lt = ap (λ (x : ℕ). bit_at x i == 1) is ∙ elim (cases_lt i (n - 64 * w)) [
      | inl below ↦ one_is (bit_at (2 ^ min (n - 64 * w) 64 - 1) i) (bit_at_ones (min (n - 64 * w) 64) i (omega arith)) ∙ sym (lt-ltb (64 * w + i) n (omega arith))
      | inr above ↦ zero_is (bit_at (2 ^ min (n - 64 * w) 64 - 1) i) (bit_at_ones_above (min (n - 64 * w) 64) i (omega arith)) ∙ sym (le-ltb (64 * w + i) n (omega arith))
    ]

pub HasBits-same : {p q : ℕ → Bool} {w m : ℕ} → ((k : ℕ) → p k ≡ q k) → HasBits p w m → HasBits q w m
HasBits-same {p} {q} {w} {m} same has = record { bits = λ i lt. has.bits i lt ∙ same (64 * w + i) }

pub bounds_both : (from end k : ℕ) → (not (nat_lt k from) && nat_lt k end) ≡ is_within from end k
bounds_both from end k = grind (arith, nat_tests)

in_bounds : (from end n : ℕ) → from ≤ n → n < end → is_within from end n ≡ true
in_bounds from end n ge lt = grind (arith, nat_tests)

-- a word that lies within bounds is all ones
pub HasBits-inside : (from end w : ℕ) → from ≤ 64 * w → 64 * w + 64 ≤ end → HasBits (is_within from end) w (2 ^ 64 - 1)
HasBits-inside from end w ge le = record {
  bits = λ i lt. one_is (bit_at (2 ^ 64 - 1) i) (bit_at_ones 64 i lt) ∙ sym (in_bounds from end (64 * w + i) (omega arith) (omega arith));
}

outside : (from end n : ℕ) → (n < from) ⊎ (end ≤ n) → is_within from end n ≡ false
outside from end n off = grind (arith, nat_tests)

bounds_of : (from end n : ℕ) → is_within from end n ≡ true → (from ≤ n) × (n < end)
bounds_of from end n e = let parts = and_parts (nat_le from n) (nat_lt n end) e in (leb-true from n parts.0, ltb-true n end parts.1)

and_true : (b c : Bool) → c ≡ true → (b && c) ≡ b
and_true true c e = e
and_true false c e = refl

-- ---- the least number that passes

pub least_found : (test : ℕ → Bool) (from end w k : ℕ) → IsLowest (λ j. test j && is_within from end j) w k → NonePasses test from (min (64 * w) end) → IsLeast test from end k
least_found test from end w k low none =
    let parts = and_parts (test k) (is_within from end k) low.passes in
    let inside = bounds_of from end k parts.1 in
    record {
      at_least = inside.0;
      below = inside.1;
      passes = parts.0;
      first = λ j ge lt. elim (cases_lt j (64 * w)) [
        | inl before ↦ none j ge (omega (arith, inside.1))
        | inr on ↦ sym (and_true (test j) (is_within from end j) (in_bounds from end j ge (omega (arith, inside.1)))) ∙ low.first j on lt
      ];
    }

pub none_more : (test : ℕ → Bool) (from end w m : ℕ) → HasBits (λ j. test j && is_within from end j) w m → m ≡ 0 → NonePasses test from (min (64 * w) end)
    → NonePasses test from (min (64 * (w + 1)) end)
none_more test from end w m has clear none = λ j ge lt. elim (cases_lt j (64 * w)) [
  | inl before ↦ none j ge (omega arith)
  | inr on ↦ sym (and_true (test j) (is_within from end j) (in_bounds from end j ge (omega arith))) ∙ clear_word has clear j on (omega arith)
]

-- ---- counts

count-cons : (p : ℕ → Bool) (x : ℕ) (xs : List ℕ) → count_by p (x ∷ xs) ≡ cond (p x) 1 0 + count_by p xs
count-cons p x xs = sum_by-cons (λ k. cond (p k) 1 0) x xs

count-append : (p : ℕ → Bool) (a n m : ℕ) → count_by p (range_with_len a (n + m)) ≡ count_by p (range_with_len a n) + count_by p (range_with_len (a + n) m)
count-append p a zero m =
    let all : zero + m ≡ m = omega arith in
    let at : a ≡ a + zero = omega arith in
    ap (λ (k : ℕ). count_by p (range_with_len a k)) all ∙ omega (arith, ap (λ (k : ℕ). count_by p (range_with_len k m)) at)
count-append p a (suc n) m =
    let all : suc n + m ≡ suc (n + m) = omega arith in
    let at : a + 1 + n ≡ a + suc n = omega arith in
    ap (λ (k : ℕ). count_by p (range_with_len a k)) all ∙ count-cons p a (range_with_len (a + 1) (n + m)) ∙ ap (λ (k : ℕ). cond (p a) 1 0 + k) (count-append p (a + 1) n m)
    ∙ omega (arith, count-cons p a (range_with_len (a + 1) n), ap (λ (k : ℕ). count_by p (range_with_len k m)) at)

pub counts-few : (p : ℕ → Bool) (a n : ℕ) → count_by p (range_with_len a n) ≤ n
counts-few p a n = omega (arith, count_by-le-length p (range_with_len a n), length-range_with_len a n)

one_bit : (b : Bool) (x : ℕ) → x < 2 → (x == 1) ≡ b → cond b 1 0 ≡ x
one_bit b x lt e = grind (arith, nat_tests)

-- the ones of a number of n bits count the numbers from a on that its bits say pass
ones-count : (p : ℕ → Bool) (a n m : ℕ) → m < 2 ^ n → ((i : ℕ) → i < n → (bit_at m i == 1) ≡ p (a + i)) → count_by p (range_with_len a n) ≡ count_ones m
ones-count p a zero m lt has = omega (arith, ones_le_self m)
ones-count p a (suc n) m lt has =
    let first : p a ≡ p (a + 0) = ap p (omega arith) in
    let low : cond (p a) 1 0 ≡ m % 2 = one_bit (p a) (m % 2) (omega arith) (ap (λ (x : ℕ). x == 1) (sym (bit_at_lowest m)) ∙ has 0 (omega arith) ∙ sym first) in
    let high : (i : ℕ) → i < n → (bit_at (m / 2) i == 1) ≡ p (a + 1 + i) = λ i h.
    let at : a + suc i ≡ a + 1 + i = omega arith in
    ap (λ (x : ℕ). x == 1) (sym (bit_at-suc m i)) ∙ has (suc i) (omega arith) ∙ ap p at in
    count-cons p a (range_with_len (a + 1) n) ∙ (λ i. low i + ones-count p (a + 1) n (m / 2) (omega (arith, pow-suc 2 n)) high i) ∙ sym (ones_step m)

one_more : (p : ℕ → Bool) (a n j : ℕ) → a + n ≡ j → count_by p (range_with_len a (n + 1)) ≡ count_by p (range_with_len a n) + cond (p j) 1 0
one_more p a n j at = count-append p a n 1 ∙ omega (arith, count-cons p (a + n) [], ap {B = ℕ} (λ (k : ℕ). cond (p k) 1 0) at)

abbrev Passing : (ℕ → Bool) → ℕ → ℕ → ℕ → Type 0
Passing test from end n = count_by (λ k. test k && is_within from end k) (range_with_len 0 n) ≡ count_by test (range_with_len from (min n end - from))

one_passing : (test : ℕ → Bool) (from end n : ℕ) → Passing test from end n
    → count_by (λ k. test k && is_within from end k) (range_with_len 0 (suc n)) ≡ count_by test (range_with_len from (min n end - from)) + cond {A = ℕ} (test n && is_within from end n) 1 0
one_passing test from end n was =
    let next : suc n ≡ n + 1 = omega arith in
    ap (λ (k : ℕ). count_by (λ j. test j && is_within from end j) (range_with_len 0 k)) next ∙ one_more (λ k. test k && is_within from end k) 0 n n (omega arith)
    ∙ ap (λ (k : ℕ). k + cond {A = ℕ} (test n && is_within from end n) 1 0) was

passing_inside : (test : ℕ → Bool) (from end n : ℕ) → from ≤ n → n < end → Passing test from end n → Passing test from end (suc n)
passing_inside test from end n on below was =
    let one : from + (n - from) ≡ n = omega arith in
    let len : n - from + 1 ≡ min (suc n) end - from = omega arith in
    let had : min n end - from ≡ n - from = omega arith in
    let yes : cond {A = ℕ} (test n && is_within from end n) 1 0 ≡ cond {A = ℕ} (test n) 1 0 = ap {B = ℕ} (λ (b : Bool). cond b 1 0) (and_true (test n) (is_within from end n) (in_bounds from end n on below)) in
    let before : count_by test (range_with_len from (min n end - from)) ≡ count_by test (range_with_len from (n - from)) = ap (λ (k : ℕ). count_by test (range_with_len from k)) had in
    let after : count_by test (range_with_len from (n - from + 1)) ≡ count_by test (range_with_len from (min (suc n) end - from)) = ap (λ (k : ℕ). count_by test (range_with_len from k)) len in
    one_passing test from end n was ∙ omega (arith, one_more test from (n - from) n one)

passing_outside : (test : ℕ → Bool) (from end n : ℕ) → (n < from) ⊎ (end ≤ n) → Passing test from end n → Passing test from end (suc n)
passing_outside test from end n off was =
    let no : cond {A = ℕ} (test n && is_within from end n) 1 0 ≡ 0 = ap {B = ℕ} (λ (b : Bool). cond b 1 0) (and_right (test n) (is_within from end n) (outside from end n off)) in
    let same : min n end - from ≡ min (suc n) end - from = elim off [ inl before ↦ omega arith | inr past ↦ omega arith ] in
    one_passing test from end n was ∙ omega (arith, no, ap (λ (k : ℕ). count_by test (range_with_len from k)) same)

-- the numbers below n that pass a test and are within bounds
passing : (test : ℕ → Bool) (from end n : ℕ) → Passing test from end n
passing test from end zero = let none : zero ≡ min zero end - from = omega arith in ap (λ (k : ℕ). count_by test (range_with_len from k)) none
passing test from end (suc n) = elim (cases_lt n from) [
  | inl before ↦ passing_outside test from end n (inl before) (passing test from end n)
  | inr on ↦ elim (cases_lt n end) [
    | inl below ↦ passing_inside test from end n on below (passing test from end n)
    | inr past ↦ passing_outside test from end n (inr past) (passing test from end n)
  ]
]

-- The count up to word w, and the ones of the word.
pub count-word : (test : ℕ → Bool) (from end w m : ℕ) → m < 2 ^ 64 → HasBits (λ k. test k && is_within from end k) w m
    → count_by test (range_with_len from (min (64 * (w + 1)) end - from)) ≡ count_by test (range_with_len from (min (64 * w) end - from)) + count_ones m
count-word test from end w m lt has =
    let more : 64 * w + 64 ≡ 64 * (w + 1) = omega arith in
    let at : 64 * w ≡ 0 + 64 * w = omega arith in
    sym (passing test from end (64 * (w + 1))) ∙ ap (λ (k : ℕ). count_by (λ j. test j && is_within from end j) (range_with_len 0 k)) (sym more)
    ∙ count-append (λ j. test j && is_within from end j) 0 (64 * w) 64
    ∙ (λ i. passing test from end (64 * w) i + (ap (λ (k : ℕ). count_by (λ j. test j && is_within from end j) (range_with_len k 64)) (sym at) ∙ ones-count (λ j. test j && is_within from end j) (64 * w) 64 m lt has.bits) i)

-- and it is no more than the numbers counted
pub count-word-fits : (test : ℕ → Bool) (from end w m : ℕ) → m < 2 ^ 64 → HasBits (λ k. test k && is_within from end k) w m
    → count_by test (range_with_len from (min (64 * w) end - from)) + count_ones m ≤ end
count-word-fits test from end w m lt has = omega (arith, count-word test from end w m lt has, counts-few test from (min (64 * (w + 1)) end - from))
