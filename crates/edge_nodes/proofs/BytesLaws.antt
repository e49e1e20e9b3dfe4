-- Tests over the bytes and bits of a block, index by index.
use Rattle.std.proofs.Common.{◌≡◌, ℕ, zero, suc, ◌+◌, ◌-◌, ◌*◌, ◌/◌, ◌%◌, ◌<◌, ◌≤◌, ◌==◌, ◌&&◌, inl, inr, Bool, true, false, not, List, length, drop, get_or, refl, sym, ap, ◌∙◌, arith, length-drop}
use Rattle.std.specs.Prelude.{slice_index}
use Rattle.std.specs.List.{list_all, range_with_len}
use Rattle.std.specs.Int.{bit_at}
use Rattle.std.proofs.lemmas.Bool.{eqb-true, eq-eqb, cases_lt}
use Rattle.std.proofs.lemmas.List.{get_or-drop, get_or_past}
use Rattle.std.proofs.lemmas.Slice.{between_to_end}
use Rattle.std.proofs.lemmas.Grind.{get_or_default_zero}
use Rattle.std.proofs.lemmas.List.Sums.{AllPass-from_list_all, list_all-from_AllPass}
use Rattle.std.proofs.lemmas.List.FromFn.{length-range_with_len, get_or-range_with_len}
use Rattle.edge_base.specs.layout.Bytes.{is_zero, bit_in, clear_from}

-- what a test of a range's numbers says of each
in_range : (p : ℕ → Bool) (a n : ℕ) → list_all p (range_with_len a n) ≡ true → (i : ℕ) → a ≤ i → i < a + n → p i ≡ true
in_range p a n e i from to =
    let there : i - a < length (range_with_len a n) = omega (arith, length-range_with_len a n) in
    let is : get_or (range_with_len a n) (i - a) 0 ≡ i = get_or-range_with_len a n (i - a) 0 (omega arith) ∙ omega arith in
    sym (ap p is) ∙ AllPass-from_list_all p (range_with_len a n) e (i - a) 0 there

both : (x y : Bool) → x ≡ true → y ≡ true → (x && y) ≡ true
both true y e f = f
both false y e f = absurd (cc)

over_range : (p : ℕ → Bool) (a n : ℕ) → ((i : ℕ) → a ≤ i → i < a + n → p i ≡ true) → list_all p (range_with_len a n) ≡ true
over_range p a zero each = refl
over_range p a (suc n) each = both (p a) _ (each a (omega arith) (omega arith)) (over_range p (a + 1) n (λ i low high. each i (omega arith) (omega arith)))

not_set : (b : Bool) → not b ≡ true → b ≡ false
not_set false e = refl
not_set true e = absurd (cc)

pub clear_behind : (count from : ℕ) (b : List ℕ) → clear_from count from b ≡ true → (i : ℕ) → count ≤ i → i < 8 * (length b - from) → bit_in from b i ≡ false
unfolding clear_from
clear_behind count from b e i low high =
    not_set _ (in_range (λ i. not (bit_in from b i)) count (8 * (length b - from) - count) e i low (omega arith))

pub clear_from-behind : (count from : ℕ) (b : List ℕ) → ((i : ℕ) → count ≤ i → i < 8 * (length b - from) → bit_in from b i ≡ false) → clear_from count from b ≡ true
unfolding clear_from
clear_from-behind count from b each =
    over_range (λ i. not (bit_in from b i)) count (8 * (length b - from) - count) (λ i low high. ap not (each i low (omega arith)))

-- the bytes from one place on
pub zero_behind : (from : ℕ) (b : List ℕ) → is_zero from (length b) b ≡ true → (k : ℕ) → from ≤ k → slice_index b k ≡ 0
unfolding is_zero
zero_behind from b e k low =
    let tail : list_all (λ x. x == 0) (drop from b) ≡ true = sym (ap (list_all (λ x. x == 0)) (between_to_end b from (length b) (omega arith))) ∙ e in
    elim (cases_lt k (length b)) [
      | inl inside ↦
          let there : k - from < length (drop from b) = omega (arith, length-drop from b) in
          let byte = AllPass-from_list_all (λ (x : ℕ). x == 0) (drop from b) tail (k - from) 0 there in
          let is : get_or (drop from b) (k - from) 0 ≡ get_or b k 0 = get_or-drop from b (k - from) 0 ∙ ap (λ (i : ℕ). get_or b i 0) (omega arith) in
          sym is ∙ eqb-true _ _ byte
      | inr past ↦ get_or_past b k 0 past
    ]

pub is_zero-behind : (from : ℕ) (b : List ℕ) → ((k : ℕ) → from ≤ k → slice_index b k ≡ 0) → is_zero from (length b) b ≡ true
unfolding is_zero
is_zero-behind from b each =
    ap (list_all (λ x. x == 0)) (between_to_end b from (length b) (omega arith))
    ∙ list_all-from_AllPass (λ (x : ℕ). x == 0) (drop from b) (λ k d inside.
    eq-eqb _ _ (get_or_default_zero (drop from b) k d inside ∙ get_or-drop from b k 0 ∙ each (from + k) (omega arith)))

-- what is left to test begins with bit i
pub clear_from-front : (from : ℕ) (b : List ℕ) (i total : ℕ) (set : Bool) → i < total → bit_in from b i ≡ set
    → (not set && list_all (λ j. not (bit_in from b j)) (range_with_len (i + 1) (total - (i + 1)))) ≡ list_all (λ j. not (bit_in from b j)) (range_with_len i (total - i))
clear_from-front from b i total set below e =
    ap (λ t. not t && list_all (λ j. not (bit_in from b j)) (range_with_len (i + 1) (total - (i + 1)))) (sym e)
    ∙ ap (λ (k : ℕ). list_all (λ j. not (bit_in from b j)) (range_with_len i k)) (let one_more : suc (total - (i + 1)) ≡ total - i = omega arith in one_more)

-- a bitmap behind a place, and by itself
pub bit_in-drop : (from : ℕ) (b : List ℕ) (i : ℕ) → bit_in from b i ≡ bit_in 0 (drop from b) i
unfolding bit_in
bit_in-drop from b i =
    ap (λ (x : ℕ). bit_at x (i % 8) == 1) (sym (get_or-drop from b (i / 8) 0) ∙ ap (λ (k : ℕ). get_or (drop from b) k 0) (omega arith))

-- the clear bits of a bitmap behind a place are clear in its bytes alone
pub unused_bits : (low from : ℕ) (b bits : List ℕ) → drop from b ≡ bits → ((i : ℕ) → low ≤ i → i < 8 * (length b - from) → bit_in from b i ≡ false)
    → (i : ℕ) → low ≤ i → i < 8 * length bits → bit_in 0 bits i ≡ false
unused_bits low from b bits e clear i above inside =
    let long : length bits ≡ length b - from = sym (ap length e) ∙ length-drop from b in
    ap (λ l. bit_in 0 l i) (sym e) ∙ sym (bit_in-drop from b i) ∙ clear i above (omega arith)
