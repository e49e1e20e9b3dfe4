-- Pairs of clear bits: in a word, in the nodes in their order, and as numbers of inodes.
use Rattle.std.proofs.Common.{◌≡◌, ◌≢◌, inl, inr, ℕ, zero, suc, ◌+◌, ◌-◌, ◌*◌, ◌/◌, ◌%◌, ◌<◌, ◌≤◌, ◌^◌, ◌==◌, ◌&&◌, not, Bool, true, false, min, List, drop, Option, Some, None, subst, refl, sym, ap, ◌∙◌, arith, w64}
use Rattle.std.specs.Prelude.{bit_and, IfSome, IfNone}
use Rattle.std.specs.Int.{bit_at, bit_not}
use Rattle.std.specs.List.{count_by, range_with_len}
use Rattle.std.proofs.lemmas.Bool.{cases_eq, cases_lt, eq-eqb, eqb-true, and_right, and_parts}
use Rattle.std.proofs.lemmas.Bool.Decides.{nat_tests}
use Rattle.std.proofs.lemmas.Nat.Bits.{bit_at_and, bit_at-lt, bit_at_lowest, bit_at-suc}
use Rattle.edge_base.specs.declared.geometry.Request.{Request}
use Rattle.edge_base.specs.layout.Bitmap.{bit_under, used_under, live_place}
use Rattle.edge_base.specs.layout.Bytes.{bit_in}
use Rattle.edge_base.specs.layout.Places.{is_inline_of, imap_nodes_of, table_start_of, allocable_of}
use Rattle.edge_base.specs.layout.Sizes.{node_bits}
use Rattle.edge_bits.specs.Bits.{HasBits, IsLeast, NonePasses}
use Rattle.edge_bits.proofs.WordLaws.{HasBits-not}
use Rattle.edge_imap.specs.Bitmaps.{bits_of, first_bit}
use Rattle.edge_imap.specs.Inodes.{is_pair, is_clear_pair, is_pair_under, is_free_number, HasTable}
use Rattle.edge_imap.specs.Search.{FindsLeast}
use Rattle.edge_imap.proofs.BitLaws.{IsLong, bit_in-drop, bit_in_node, bit_of_root, node_below, node_start}
use Rattle.edge_imap.proofs.SearchLaws.{least_alike}
use Rattle.edge_imap.proofs.CountLaws.{one, count-cons, count-append, count-shift}

-- ---- words

-- the even bits of the first 2 * k bits
abbrev evens : ℕ → ℕ
evens zero = 0
evens (suc k) = 1 + 4 * evens k

even_bits : (k i : ℕ) → i < 2 * k → bit_at (evens k) i ≡ 1 - i % 2
even_bits zero i lt = absurd (omega arith)
even_bits (suc k) zero lt = bit_at_lowest (1 + 4 * evens k) ∙ omega arith
even_bits (suc k) (suc zero) lt = bit_at-suc (1 + 4 * evens k) zero ∙ bit_at_lowest ((1 + 4 * evens k) / 2) ∙ omega arith
even_bits (suc k) (suc (suc i)) lt =
    let rest : (1 + 4 * evens k) / 2 / 2 ≡ evens k = omega arith in
    bit_at-suc (1 + 4 * evens k) (suc i) ∙ bit_at-suc ((1 + 4 * evens k) / 2) i ∙ ap (λ (n : ℕ). bit_at n i) rest ∙ even_bits k i (omega arith) ∙ omega arith

both_tests : (p q : Bool) (a b : ℕ) → a < 2 → b < 2 → (a == 1) ≡ p → (b == 1) ≡ q → (min a b == 1) ≡ (p && q)
both_tests p q a b la lb e f = grind (arith, nat_tests)

not_zero : (n : ℕ) → 0 < n → (n == 0) ≡ false
not_zero n some = grind (arith, nat_tests)

no_test : (p : Bool) (a : ℕ) → (min a 0 == 1) ≡ (p && false)
no_test p a = let none : min a 0 ≡ 0 = omega arith in ap (λ (x : ℕ). x == 1) none ∙ sym (and_right p false refl)

-- a word of clear bits, with each but the first also put one lower, and of these the even ones
pub HasBits-pairs : (bytes : List ℕ) (w m : ℕ) → m < 2 ^ 64 → HasBits (bit_in 0 bytes) w m → HasBits (is_clear_pair bytes) w (bit_and (bit_and (bit_not w64 m) (bit_not w64 m / 2 ^ 1)) 6148914691236517205)
HasBits-pairs bytes w m small has = record { bits = bit }
  where
    clear : HasBits (λ k. not (bit_in 0 bytes k)) w (bit_not w64 m)
    clear = HasBits-not small has

    even : (i : ℕ) → i < 64 → bit_at 6148914691236517205 i ≡ 1 - i % 2
    even i lt = even_bits 32 i (omega arith)

    lower : (i : ℕ) → bit_at (bit_not w64 m / 2 ^ 1) i ≡ bit_at (bit_not w64 m) (suc i)
    lower i = sym (bit_at-suc (bit_not w64 m) i)

    word : (i : ℕ) → bit_at (bit_and (bit_and (bit_not w64 m) (bit_not w64 m / 2 ^ 1)) 6148914691236517205) i ≡ min (min (bit_at (bit_not w64 m) i) (bit_at (bit_not w64 m) (suc i))) (bit_at 6148914691236517205 i)
    word i = bit_at_and (bit_and (bit_not w64 m) (bit_not w64 m / 2 ^ 1)) 6148914691236517205 i
        ∙ ap (λ (x : ℕ). min x (bit_at 6148914691236517205 i)) (bit_at_and (bit_not w64 m) (bit_not w64 m / 2 ^ 1) i ∙ ap (min (bit_at (bit_not w64 m) i)) (lower i))

    bit : (i : ℕ) → i < 64 → (bit_at (bit_and (bit_and (bit_not w64 m) (bit_not w64 m / 2 ^ 1)) 6148914691236517205) i == 1) ≡ is_clear_pair bytes (64 * w + i)
    bit i lt = elim (cases_eq (i % 2) 0) [
      | inl e ↦
          let next : i + 1 < 64 = omega (arith, e, lt) in
          let at : 64 * w + suc i ≡ 64 * w + i + 1 = omega arith in
          let one : bit_at 6148914691236517205 i ≡ 1 = even i lt ∙ omega (arith, e) in
          let is_even : ((64 * w + i) % 2 == 0) ≡ true = eq-eqb ((64 * w + i) % 2) 0 (omega (arith, e)) in
          let second = clear.bits (suc i) (omega (arith, next)) ∙ ap (λ (k : ℕ). not (bit_in 0 bytes k)) at in
          let both = both_tests (not (bit_in 0 bytes (64 * w + i))) (not (bit_in 0 bytes (64 * w + i + 1))) (bit_at (bit_not w64 m) i) (bit_at (bit_not w64 m) (suc i)) (bit_at-lt (bit_not w64 m) i) (bit_at-lt (bit_not w64 m) (suc i)) (clear.bits i lt) second in
          ap (λ (x : ℕ). x == 1) (word i)
          ∙ both_tests (not (bit_in 0 bytes (64 * w + i)) && not (bit_in 0 bytes (64 * w + i + 1))) ((64 * w + i) % 2 == 0) (min (bit_at (bit_not w64 m) i) (bit_at (bit_not w64 m) (suc i))) (bit_at 6148914691236517205 i)
          (omega (arith, bit_at-lt (bit_not w64 m) i)) (bit_at-lt 6148914691236517205 i) both (ap (λ (x : ℕ). x == 1) one ∙ sym is_even)
      | inr odd ↦
          let none : bit_at 6148914691236517205 i ≡ 0 = even i lt ∙ omega (arith, odd) in
          let is_odd : ((64 * w + i) % 2 == 0) ≡ false = not_zero ((64 * w + i) % 2) (omega (arith, odd)) in
          ap (λ (x : ℕ). x == 1) (word i ∙ ap (min (min (bit_at (bit_not w64 m) i) (bit_at (bit_not w64 m) (suc i)))) none)
          ∙ no_test (not (bit_in 0 bytes (64 * w + i)) && not (bit_in 0 bytes (64 * w + i + 1))) (min (bit_at (bit_not w64 m) i) (bit_at (bit_not w64 m) (suc i)))
          ∙ ap (λ (b : Bool). not (bit_in 0 bytes (64 * w + i)) && not (bit_in 0 bytes (64 * w + i + 1)) && b) (sym is_odd)
    ]

-- ---- parts

off_zero : (p : Bool) (n : ℕ) → n % 2 ≢ 0 → (p && (n % 2 == 0)) ≡ false
off_zero p n odd = and_right p (n % 2 == 0) (not_zero (n % 2) (omega (arith, odd)))

-- bits that agree by an even shift have the same pairs
pub pair_shift : (p q : ℕ → Bool) (s n k : ℕ) → s % 2 ≡ 0 → n % 2 ≡ 0 → k < n → ((i : ℕ) → i < n → q (s + i) ≡ p i) → is_pair p k ≡ is_pair q (s + k)
pair_shift p q s n k even whole lt same = elim (cases_eq (k % 2) 0) [
  | inl e ↦
      let next : k + 1 < n = omega (arith, e, whole, lt) in
      let at : s + (k + 1) ≡ s + k + 1 = omega arith in
      let rest : k % 2 ≡ (s + k) % 2 = omega (arith, even) in
      let one = sym (same k lt) in
      let two = sym (same (k + 1) next) ∙ ap q at in
      λ i. not (one i) && not (two i) && (rest i == 0)
  | inr odd ↦ off_zero (not (p k) && not (p (k + 1))) k odd ∙ sym (off_zero (not (q (s + k)) && not (q (s + k + 1))) (s + k) (λ h. odd (omega (arith, even, h))))
]

-- The table ends at `top`. A part of it are `stop` numbers from s on, which `p` tells as from 0 on.
module _ (p q : ℕ → Bool) (s n top stop : ℕ) (is : stop ≡ min n (top - s)) (same : (k : ℕ) → k < n → p k ≡ q (s + k)) where
  pub part_least : (i : ℕ) → NonePasses q 0 (min s top) → IsLeast p 0 stop i → IsLeast q 0 top (s + i)
  part_least i none l = record {
    at_least = omega arith;
    below = omega (arith, is, l.below);
    passes = sym (same i (omega (arith, is, l.below))) ∙ l.passes;
    first = λ k on lt. elim (cases_lt k s) [
      | inl before ↦ none k (omega arith) (omega (arith, is, before, l.below))
      | inr after ↦
          let at : k ≡ s + (k - s) = omega arith in
          let low : k - s < i = omega (arith, lt, after) in
          ap q at ∙ sym (same (k - s) (omega (arith, low, is, l.below))) ∙ l.first (k - s) (omega arith) low
    ];
  }

  pub part_none : NonePasses q 0 (min s top) → NonePasses p 0 stop → NonePasses q 0 (min (s + n) top)
  part_none none rest = λ k on lt. elim (cases_lt k s) [
    | inl before ↦ none k (omega arith) (omega (arith, before, lt))
    | inr after ↦
        let at : k ≡ s + (k - s) = omega arith in
        ap q at ∙ sym (same (k - s) (omega (arith, lt, after))) ∙ rest (k - s) (omega arith) (omega (arith, lt, after, is))
  ]

  pub part_count : count_by q (range_with_len 0 (min (s + n) top)) ≡ count_by q (range_with_len 0 (min s top)) + count_by p (range_with_len 0 stop)
  part_count =
      let len : min (s + n) top ≡ min s top + stop = omega (arith, is) in
      ap (λ (k : ℕ). count_by q (range_with_len 0 k)) len ∙ count-append q 0 (min s top) stop ∙ ap (λ (k : ℕ). count_by q (range_with_len 0 (min s top)) + k) rest
    where
      rest : count_by q (range_with_len (0 + min s top) stop) ≡ count_by p (range_with_len 0 stop)
      rest = elim (cases_lt s top) [
        | inl some ↦ count-shift p q s 0 (0 + min s top) stop (omega (arith, some)) (λ k on lt. sym (same k (omega (arith, lt, is))))
        | inr past ↦ let none : stop ≡ 0 = omega (arith, is, past) in (λ i. count_by q (range_with_len (0 + min s top) (none i))) ∙ sym (ap (λ (k : ℕ). count_by p (range_with_len 0 k)) none)
      ]

-- ---- numbers of inodes

and_true : (b c : Bool) → c ≡ true → (b && c) ≡ b
and_true true c e = e
and_true false c e = refl

-- the counts of pairs, and of numbers that have one
count_numbers : (f p : ℕ → Bool) → ((n : ℕ) → f (2 + n) ≡ p (2 * n)) → ((n : ℕ) → p (2 * n + 1) ≡ false) → (a m : ℕ) → count_by p (range_with_len (2 * a) (2 * m)) ≡ count_by f (range_with_len (2 + a) m)
count_numbers f p even odd a zero = refl
count_numbers f p even odd a (suc m) =
    let len : 2 * suc m ≡ suc (suc (2 * m)) = omega arith in
    let next : 2 * a + 1 + 1 ≡ 2 * (a + 1) = omega arith in
    let at : 2 + (a + 1) ≡ 2 + a + 1 = omega arith in
    ap (λ (n : ℕ). count_by p (range_with_len (2 * a) n)) len ∙ count-cons p (2 * a) (range_with_len (2 * a + 1) (suc (2 * m)))
    ∙ omega (
      arith,
      count-cons p (2 * a + 1) (range_with_len (2 * a + 1 + 1) (2 * m)),
      ap (λ (n : ℕ). count_by p (range_with_len n (2 * m))) next,
      count_numbers f p even odd (a + 1) m,
      ap (λ (n : ℕ). count_by f (range_with_len n m)) at,
      ap one (even a),
      ap one (odd a),
      count-cons f (2 + a) (range_with_len (2 + a + 1) m),
    )

even_start : (j n : ℕ) → n % 2 ≡ 0 → (j * n) % 2 ≡ 0
even_start zero n whole = omega arith
even_start (suc j) n whole = omega (arith, whole, even_start j n whole)

module _ (g : Request) (roots : List ℕ) (content : ℕ → List ℕ) where
  -- number n has the pair from bit 2 * (n - 2) on
  pair_of : (n : ℕ) → is_free_number g (used_under g roots content) n ≡ is_pair_under g roots content (2 * (n - 2))
  pair_of n =
      let one : table_start_of g + 2 * (n - 2) + 0 - table_start_of g ≡ 2 * (n - 2) = omega arith in
      let two : table_start_of g + 2 * (n - 2) + 1 - table_start_of g ≡ 2 * (n - 2) + 1 = omega arith in
      let even : ((2 * (n - 2)) % 2 == 0) ≡ true = eq-eqb ((2 * (n - 2)) % 2) 0 (omega arith) in
      (λ i. not (bit_under g roots content (one i)) && not (bit_under g roots content (two i)))
      ∙ sym (and_true (not (bit_under g roots content (2 * (n - 2))) && not (bit_under g roots content (2 * (n - 2) + 1))) ((2 * (n - 2)) % 2 == 0) even)

  pub number_least : (m i : ℕ) → IsLeast (is_pair_under g roots content) 0 (2 * m) i → IsLeast (is_free_number g (used_under g roots content)) 2 (2 + m) (2 + i / 2)
  number_least m i l =
      let parts = and_parts (not (bit_under g roots content i) && not (bit_under g roots content (i + 1))) (i % 2 == 0) l.passes in
      let even : i % 2 ≡ 0 = eqb-true (i % 2) 0 parts.1 in
      let at : 2 * (2 + i / 2 - 2) ≡ i = omega (arith, even) in
      record {
        at_least = omega arith;
        below = omega (arith, l.below);
        passes = pair_of (2 + i / 2) ∙ ap (is_pair_under g roots content) at ∙ l.passes;
        first = λ n on lt. pair_of n ∙ l.first (2 * (n - 2)) (omega arith) (omega (arith, on, lt));
      }

  pub number_none : (m : ℕ) → NonePasses (is_pair_under g roots content) 0 (2 * m) → NonePasses (is_free_number g (used_under g roots content)) 2 (2 + m)
  number_none m none = λ n on lt. pair_of n ∙ none (2 * (n - 2)) (omega arith) (omega (arith, on, lt))

  pub number_count : (m : ℕ) → count_by (is_pair_under g roots content) (range_with_len 0 (2 * m)) ≡ count_by (is_free_number g (used_under g roots content)) (range_with_len 2 m)
  number_count m = count_numbers (is_free_number g (used_under g roots content)) (is_pair_under g roots content) even odd 0 m
    where
      even : (n : ℕ) → is_free_number g (used_under g roots content) (2 + n) ≡ is_pair_under g roots content (2 * n)
      even n = let at : 2 * (2 + n - 2) ≡ 2 * n = omega arith in pair_of (2 + n) ∙ ap (is_pair_under g roots content) at

      odd : (n : ℕ) → is_pair_under g roots content (2 * n + 1) ≡ false
      odd n = off_zero (not (bit_under g roots content (2 * n + 1)) && not (bit_under g roots content (2 * n + 1 + 1))) (2 * n + 1) (λ h. omega (arith, h))

  -- a node that was read
  pub table_read : (j : ℕ) (b : List ℕ) → is_inline_of g ≡ false → b ≡ content (live_place g roots j) → HasTable g roots content j b
  table_read j b external is = λ k lt.
      pair_shift (bit_in 0 (drop 16 b)) (bit_under g roots content) (j * node_bits g.block_size) (node_bits g.block_size) k (even_start j (node_bits g.block_size) (omega arith)) (omega arith) lt
      (λ i low. bit_in_node g roots content j i external low ∙ ap (λ (l : List ℕ). bit_in 16 l i) (sym is) ∙ sym (bit_in-drop b i))

  -- the bits of a metaroot's bitmap
  pub table_of_root : is_inline_of g ≡ true → (k : ℕ) → is_clear_pair roots k ≡ is_pair_under g roots content k
  table_of_root inline k = let same = λ (i : ℕ). sym (bit_of_root g roots content i inline) in λ z. not (same k z) && not (same (k + 1) z) && (k % 2 == 0)

-- ---- what a search answers

pub finds_pair : (p q : ℕ → Bool) (stop top : ℕ) (r : Option ℕ) → stop ≡ top → ((k : ℕ) → q k ≡ p k) → IfSome r (IsLeast p 0 stop) → IfNone r (NonePasses p 0 stop) → FindsLeast q 0 top r
finds_pair p q stop top None at same found none = λ k on lt. same k ∙ none k on (omega (arith, at, lt))
finds_pair p q stop top (Some i) at same found none = subst (λ (n : ℕ). IsLeast q 0 n i) at (least_alike p q 0 stop i (λ k on lt. same k) found)

pub pair_below : (p : ℕ → Bool) (stop top : ℕ) (r : Option ℕ) → stop ≡ top → IfSome r (IsLeast p 0 stop) → IfSome r (λ i. i < top)
pair_below p stop top None at found = tt
pair_below p stop top (Some i) at found = omega (arith, at, found.below)

-- the nodes that have bits of the inode table are nodes
before_last : (p n first : ℕ) → suc p * n < first + n → p * n < first
before_last p n first lt = omega (arith, lt)

pub table_few : (g : Request) (q : ℕ) → IsLong g.block_size → is_inline_of g ≡ false → 3 ≤ allocable_of g → q * node_bits g.block_size < first_bit g + node_bits g.block_size → q ≤ imap_nodes_of g
table_few g zero long external room lt = omega arith
table_few g (suc p) long external room lt =
    let before = before_last p (node_bits g.block_size) (first_bit g) lt in
    let low : p * node_bits g.block_size < bits_of g = omega (arith, before, room) in
    let at = node_start p (node_bits g.block_size) (omega (arith, long.least)) in
    let below : p < imap_nodes_of g = subst (λ (q : ℕ). q < imap_nodes_of g) at (node_below g (p * node_bits g.block_size) long external low) in
    omega (arith, below)
