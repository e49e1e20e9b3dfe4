-- The places on a way, as digits to the base of a pointer node's entries.
use Rattle.std.proofs.Common.{◌≡◌, ℕ, ◌+◌, ◌-◌, ◌*◌, ◌/◌, ◌%◌, ◌<◌, ◌≤◌, inl, inr, sym, ap, ◌∙◌, subst, arith}
use Rattle.std.proofs.Math.Arith.{mod-mul}
use Rattle.std.proofs.Math.Nat.{add-mul-div_right, add-mul-mod_self_right, div-div-eq-div-mul, div-lt_iff_lt-mul}
use Rattle.std.proofs.lemmas.Bool.{cases_lt}
use Rattle.std.proofs.lemmas.Nat.{div-mul-add, mod_below}

-- below b rows of k
pub row_below : (r b k : ℕ) → 0 < k → r < b * k → r / k < b
row_below r b k some below = (div-lt_iff_lt-mul some).1 below

-- Behind b rows of k, number r is the one with these places among the tables of k rows each.
pub record IsBehind (r b k : ℕ) : Type 0 where
  pub row_from : b ≤ r / k
  pub table : (r / k - b) / k ≡ (r - b * k) / (k * k)
  pub row : (r / k - b) % k ≡ (r - b * k) % (k * k) / k
  pub place : r % k ≡ (r - b * k) % k

pub behind : (r b k : ℕ) → 0 < k → b * k ≤ r → IsBehind r b k
behind r b k some past =
    let rest = r - b * k in
    let whole : r ≡ rest + b * k = omega arith in
    let row : r / k ≡ rest / k + b = ap (λ (m : ℕ). m / k) whole ∙ add-mul-div_right rest b some in
    let row_less : r / k - b ≡ rest / k = omega arith in
    record {
      row_from = omega arith;
      table = ap (λ (m : ℕ). m / k) row_less ∙ div-div-eq-div-mul rest k k;
      row = ap (λ (m : ℕ). m % k) row_less ∙ sym (ap (λ (m : ℕ). m / k) (mod-mul rest some some) ∙ div-mul-add (rest / k % k) k (rest % k) (mod_below rest k some));
      place = ap (λ (m : ℕ). m % k) whole ∙ add-mul-mod_self_right rest b k;
    }

-- ---- numbers of nodes

no_rows : (b c k j : ℕ) → j < b + c * k → b ≤ j → 0 < k
no_rows b c k j h from = elim (cases_lt 0 k) [
  | inl some ↦ some
  | inr none ↦
      let zero_k : k ≡ 0 = omega arith in
      let below : j < b + c * 0 = subst (λ (m : ℕ). j < b + c * m) zero_k h in
      absurd (omega arith)
]

-- behind b single nodes, c nodes of k rows each
pub table_below : (b c k j : ℕ) → j < b + c * k → b ≤ j → (j - b) / k < c
table_below b c k j h from = row_below (j - b) c k (no_rows b c k j h from) (omega arith)

-- an index of a file with any data block behind the direct ones
pub some_pointers : (a b c k i : ℕ) → i < a + b * k + c * (k * k) → a ≤ i → 0 < k
some_pointers a b c k i h from = elim (cases_lt 0 k) [
  | inl some ↦ some
  | inr none ↦
      let zero_k : k ≡ 0 = omega arith in
      let below : i < a + b * 0 + c * (0 * 0) = subst (λ (m : ℕ). i < a + b * m + c * (m * m)) zero_k h in
      absurd (omega arith)
]

pub indirect_below : (a b c k i : ℕ) → i < a + b * k + c * (k * k) → a ≤ i → (i - a) / k < b + c * k
indirect_below a b c k i h from =
    let rows : (b + c * k) * k ≡ b * k + c * (k * k) = grind arith in
    row_below (i - a) (b + c * k) k (some_pointers a b c k i h from) (omega arith)
