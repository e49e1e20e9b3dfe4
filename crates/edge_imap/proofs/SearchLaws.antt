-- Searches within bounds, put together.
use Rattle.std.proofs.Common.{◌≡◌, ℕ, ◌+◌, ◌-◌, ◌*◌, ◌<◌, ◌≤◌, max, min, Bool, true, false, List, drop, Option, Some, None, inl, inr, ⊎_elim, ap, ◌∙◌, subst, arith}
use Rattle.std.proofs.Math.Nat.{mul-le-mul_left}
use Rattle.std.specs.Prelude.{is_some, IfSome, IfNone, not, ◌&&◌}
use Rattle.std.proofs.lemmas.Bool.{cases_lt, le-leb, leb-true}
use Rattle.edge_base.specs.layout.Bytes.{bit_in}
use Rattle.edge_base.specs.declared.geometry.Request.{Request}
use Rattle.edge_base.specs.layout.Sizes.{node_bits}
use Rattle.edge_alloc.specs.Pairs.{is_free}
use Rattle.edge_bits.specs.Bits.{IsLeast, NonePasses}
use Rattle.edge_imap.specs.Bitmaps.{IsWindow, bits_of, first_bit}
use Rattle.edge_imap.proofs.BitLaws.{bit_in-drop}
use Rattle.edge_imap.specs.Search.{IsWithin, IsNext, Finds, FindsLeast, is_clear_in, reaches}

-- ---- tests that agree

pub least_alike : (p q : ℕ → Bool) (from end i : ℕ) → ((k : ℕ) → from ≤ k → k < end → q k ≡ p k) → IsLeast p from end i → IsLeast q from end i
least_alike p q from end i same l = record {
  at_least = l.at_least;
  below = l.below;
  passes = same i l.at_least l.below ∙ l.passes;
  first = λ k on lt. same k on (omega (arith, l.below)) ∙ l.first k on lt;
}

pub none_alike : (p q : ℕ → Bool) (from end : ℕ) → ((k : ℕ) → from ≤ k → k < end → q k ≡ p k) → NonePasses p from end → NonePasses q from end
none_alike p q from end same n = λ k on lt. same k on lt ∙ n k on lt

pub finds_alike : (p q : ℕ → Bool) (first end from : ℕ) (r : Option ℕ) → ((k : ℕ) → first ≤ k → k < end → q k ≡ p k) → Finds p first end from r → Finds q first end from r
finds_alike p q first end from None same n = none_alike p q first end same n
finds_alike p q first end from (Some i) same n =
    let high : (k : ℕ) → max first from ≤ k → k < end → q k ≡ p k = λ k on lt. same k (omega arith) lt in
    ⊎_elim (λ l. inl (least_alike p q (max first from) end i high l)) (λ l. inr (none_alike p q (max first from) end high l.0, least_alike p q first end i same l.1)) n

-- what a second search from the lowest number on finds, where there is none from a number on
pub finds_round : (p : ℕ → Bool) (first end from : ℕ) (r : Option ℕ) → NonePasses p (max first from) end → IfSome r (λ i. IsLeast p (max first first) end i) → IfNone r (NonePasses p (max first first) end) → Finds p first end from r
finds_round p first end from None n found none = λ k on lt. none k (omega arith) lt
finds_round p first end from (Some i) n found none = let same : max first first ≡ first = omega arith in inr (n, subst (λ (m : ℕ). IsLeast p m end i) same found)

pub finds_below : (p : ℕ → Bool) (first end from i : ℕ) → IsNext p first end from i → i < end
finds_below p first end from i n = ⊎_elim (λ l. l.below) (λ l. l.1.below) n

pub finds_bound : (p : ℕ → Bool) (first end from : ℕ) (r : Option ℕ) → Finds p first end from r → IfSome r (IsWithin first end)
finds_bound p first end from None f = tt
finds_bound p first end from (Some i) f = (⊎_elim (λ l. omega (arith, l.at_least)) (λ l. l.1.at_least) f, finds_below p first end from i f)

-- bits of two nodes that were read
pub clear_pair : (x y b d : List ℕ) → x ≡ drop 16 b → y ≡ drop 16 d → (k : ℕ) → is_free x y k ≡ is_clear_in b d k
clear_pair x y b d one two k =
    let a = ap (λ (l : List ℕ). bit_in 0 l k) one ∙ bit_in-drop b k in
    let c = ap (λ (l : List ℕ). bit_in 0 l k) two ∙ bit_in-drop d k in
    λ i. not (a i) && not (c i)

-- ---- numbers of a part, and of the whole

least_shift : (p q : ℕ → Bool) (start first end lo hi i : ℕ) → lo ≡ start + first → hi ≡ start + end → ((k : ℕ) → first ≤ k → k < end → q (start + k) ≡ p k) → IsLeast p first end i → IsLeast q lo hi (start + i)
least_shift p q start first end lo hi i low high same l = record {
  at_least = omega (arith, low, l.at_least);
  below = omega (arith, high, l.below);
  passes = same i l.at_least l.below ∙ l.passes;
  first = λ k on lt.
      let at : k ≡ start + (k - start) = omega (arith, low, on) in
      let from : first ≤ k - start = omega (arith, low, on) in
      let to : k - start < i = omega (arith, lt, at) in
      ap q at ∙ same (k - start) from (omega (arith, to, l.below)) ∙ l.first (k - start) from to;
}

none_shift : (p q : ℕ → Bool) (start first end lo hi : ℕ) → lo ≡ start + first → hi ≡ start + end → ((k : ℕ) → first ≤ k → k < end → q (start + k) ≡ p k) → NonePasses p first end → NonePasses q lo hi
none_shift p q start first end lo hi low high same n = λ k on lt.
    let at : k ≡ start + (k - start) = omega (arith, low, on) in
    let from : first ≤ k - start = omega (arith, low, on) in
    let to : k - start < end = omega (arith, high, lt, at) in
    ap q at ∙ same (k - start) from to ∙ n (k - start) from to

pub next_shift : (p q : ℕ → Bool) (start first end from lo hi i : ℕ) → lo ≡ start + first → hi ≡ start + end → ((k : ℕ) → first ≤ k → k < end → q (start + k) ≡ p k)
    → IsNext p first end (from - start) i → IsNext q lo hi from (start + i)
next_shift p q start first end from lo hi i low high same n =
    let at : max lo from ≡ start + max first (from - start) = omega (arith, low) in
    let on : (k : ℕ) → max first (from - start) ≤ k → k < end → q (start + k) ≡ p k = λ k h lt. same k (omega arith) lt in
    ⊎_elim (λ l. inl (least_shift p q start (max first (from - start)) end (max lo from) hi i at high on l))
    (λ l. inr (none_shift p q start (max first (from - start)) end (max lo from) hi at high on l.0, least_shift p q start first end lo hi i low high same l.1)) n

-- a search that begins at or before the lowest number
pub next_least : (p : ℕ → Bool) (first end from i : ℕ) → from ≤ first → IsNext p first end from i → IsLeast p first end i
next_least p first end from i low n = let same : max first from ≡ first = omega arith in ⊎_elim (λ l. subst (λ (m : ℕ). IsLeast p m end i) same l) (λ l. l.1) n

-- ---- parts in a row: the numbers from `low` on and below `top` lie in parts that begin and end at given numbers

pub parts_none : (p : ℕ → Bool) (low top x s e : ℕ) → NonePasses p (max low x) (min s top) → NonePasses p (max low s) (min e top) → NonePasses p (max low x) (min e top)
parts_none p low top x s e one two = λ k on lt. elim (cases_lt k s) [ inl below ↦ one k on (omega arith) | inr above ↦ two k (omega arith) lt ]

pub parts_least : (p : ℕ → Bool) (low top x s e t i : ℕ) → x ≤ s → e ≤ t → NonePasses p (max low x) (min s top) → IsLeast p (max low s) (min e top) i → IsLeast p (max low x) (min t top) i
parts_least p low top x s e t i le ge none l = record {
  at_least = omega (arith, l.at_least);
  below = omega (arith, l.below);
  passes = l.passes;
  first = λ k on lt. elim (cases_lt k s) [ inl below ↦ none k on (omega (arith, l.below)) | inr above ↦ l.first k (omega arith) lt ];
}

-- one node more was searched, of nodes that have so many numbers each
module _ (p : ℕ → Bool) (low top n x j : ℕ) (le : x ≤ j) (none : NonePasses p (max low (x * n)) (min (j * n) top)) where
  pub node_found : (t from : ℕ) (r : Option ℕ) → j + 1 ≤ t → from ≤ j * n → is_some r ≡ true → Finds p (max low (j * n)) (min (j * n + n) top) from r → FindsLeast p (max low (x * n)) (min (t * n) top) r
  node_found t from None last on h f = absurd (cc h)
  node_found t from (Some i) last on h f =
      parts_least p low top (x * n) (j * n) (j * n + n) (t * n) i (omega (arith, mul-le-mul_left n le)) (omega (arith, mul-le-mul_left n last)) none (next_least p (max low (j * n)) (min (j * n + n) top) from i (omega arith) f)

  pub node_passed : (from : ℕ) (r : Option ℕ) → is_some r ≡ false → Finds p (max low (j * n)) (min (j * n + n) top) from r → NonePasses p (max low (x * n)) (min ((j + 1) * n) top)
  node_passed from None h f =
      let next : j * n + n ≡ (j + 1) * n = omega arith in
      subst (λ (e : ℕ). NonePasses p (max low (x * n)) (min e top)) next (parts_none p low top (x * n) (j * n) (j * n + n) none f)
  node_passed from (Some i) h f = absurd (cc h)

-- ---- round all parts, from a number on that lies in the part from a to b

module _ (p : ℕ → Bool) (low top a b from : ℕ) (on : a ≤ from) (below : from < b) where
  pub here_found : (r : Option ℕ) → reaches r from ≡ true → Finds p (max low a) (min b top) from r → Finds p low top from r
  here_found None h f = absurd (cc h)
  here_found (Some i) h f =
      let le : from ≤ i = leb-true from i h in
      ⊎_elim (λ l. inl (record { at_least = omega (arith, l.at_least); below = omega (arith, l.below); passes = l.passes; first = λ k at lt. l.first k (omega arith) lt }))
      (λ l. absurd (cc (l.0 i (omega (arith, le, l.1.at_least)) l.1.below, l.1.passes))) f

  pub none_here : (r : Option ℕ) → reaches r from ≡ false → Finds p (max low a) (min b top) from r → NonePasses p (max (max low a) from) (min b top)
  none_here None h f = λ k at lt. f k (omega arith) lt
  none_here (Some i) h f = ⊎_elim (λ l. absurd (cc (h, le-leb from i (omega (arith, l.at_least))))) (λ l. l.0) f

  pub after_found : (t : ℕ) (r : Option ℕ) → is_some r ≡ true → NonePasses p (max (max low a) from) (min b top) → FindsLeast p (max low b) (min t top) r → Finds p low top from r
  after_found t None h none f = absurd (cc h)
  after_found t (Some i) h none l = inl (record {
    at_least = omega (arith, l.at_least);
    below = omega (arith, l.below);
    passes = l.passes;
    first = λ k at lt. elim (cases_lt k b) [ inl less ↦ none k (omega arith) (omega (arith, l.below)) | inr more ↦ l.first k (omega arith) lt ];
  })

  pub after_none : (t : ℕ) (r : Option ℕ) → is_some r ≡ false → top ≤ t → NonePasses p (max (max low a) from) (min b top) → FindsLeast p (max low b) (min t top) r → NonePasses p (max low from) top
  after_none t None h all none f = λ k at lt. elim (cases_lt k b) [ inl less ↦ none k (omega arith) (omega arith) | inr more ↦ f k (omega arith) (omega arith) ]
  after_none t (Some i) h all none l = absurd (cc h)

  pub before_found : (z : ℕ) (r : Option ℕ) → z ≡ 0 → is_some r ≡ true → NonePasses p (max low from) top → FindsLeast p (max low z) (min a top) r → Finds p low top from r
  before_found z None e h none f = absurd (cc h)
  before_found z (Some i) e h none l = inr (
    none,
    record {
      at_least = omega (arith, l.at_least);
      below = omega (arith, l.below);
      passes = l.passes;
      first = λ k at lt. l.first k (omega arith) lt;
    },
  )

  pub before_none : (z : ℕ) (r s : Option ℕ) → z ≡ 0 → is_some r ≡ false → reaches s from ≡ false → NonePasses p (max low from) top → FindsLeast p (max low z) (min a top) r → Finds p (max low a) (min b top) from s → Finds p low top from s
  before_none z (Some i) s e h off none f here = absurd (cc h)
  before_none z None None e h off none f here = λ k at lt.
      elim (cases_lt k a) [
        | inl less ↦ f k (omega arith) (omega arith)
        | inr more ↦ elim (cases_lt k b) [ inl in_part ↦ here k (omega arith) (omega arith) | inr past ↦ none k (omega arith) lt ]
      ]
  before_none z None (Some i) e h off none f here = ⊎_elim (λ l. absurd (cc (off, le-leb from i (omega (arith, l.at_least)))))
      (λ l. inr (
        none,
        record {
          at_least = omega (arith, l.1.at_least);
          below = omega (arith, l.1.below);
          passes = l.1.passes;
          first = λ k at lt. elim (cases_lt k a) [ inl less ↦ f k (omega arith) (omega (arith, l.1.below)) | inr more ↦ l.1.first k (omega arith) lt ];
        },
      )) here

-- ---- the bits of a node

pub window_empty : (g : Request) (j first len : ℕ) (test : ℕ → Bool) → IsWindow g j first len → len ≡ 0 → NonePasses test (max (first_bit g) (j * node_bits g.block_size)) (min (j * node_bits g.block_size + node_bits g.block_size) (bits_of g))
window_empty g j first len test w none = λ k on lt. absurd (omega (arith, w.begins, w.ends, none, on, lt))

module _ (g : Request) (j first len : ℕ) (test bits : ℕ → Bool) (w : IsWindow g j first len) (some : 0 < len) (same : (k : ℕ) → k < node_bits g.block_size → test (j * node_bits g.block_size + k) ≡ bits k) where
  low_at : max (first_bit g) (j * node_bits g.block_size) ≡ j * node_bits g.block_size + first
  low_at = omega (arith, w.begins, w.ends, some)

  stop_at : min (j * node_bits g.block_size + node_bits g.block_size) (bits_of g) ≡ j * node_bits g.block_size + (first + len)
  stop_at = omega (arith, w.begins, w.ends, some)

  same_at : (k : ℕ) → first ≤ k → k < first + len → test (j * node_bits g.block_size + k) ≡ bits k
  same_at k on lt = same k (omega (arith, w.ends, lt))

  pub window_next : (from i : ℕ) → IsNext bits first (first + len) (from - j * node_bits g.block_size) i
      → IsNext test (max (first_bit g) (j * node_bits g.block_size)) (min (j * node_bits g.block_size + node_bits g.block_size) (bits_of g)) from (j * node_bits g.block_size + i)
  window_next from i n = next_shift bits test (j * node_bits g.block_size) first (first + len) from _ _ i low_at stop_at same_at n

  pub window_none : NonePasses bits first (first + len) → NonePasses test (max (first_bit g) (j * node_bits g.block_size)) (min (j * node_bits g.block_size + node_bits g.block_size) (bits_of g))
  window_none n = none_shift bits test (j * node_bits g.block_size) first (first + len) _ _ low_at stop_at same_at n
