-- Where a run of data blocks lies in the rows of indirect nodes, told by numbers: the run goes from lo up to `end`, a numbers come before
-- the first row, and a row has k.
use Rattle.std.proofs.Common.{◌≡◌, ℕ, ◌+◌, ◌-◌, ◌*◌, ◌/◌, ◌<◌, ◌≤◌, false, inl, inr, ap, ◌∙◌, arith}
use Rattle.std.specs.Prelude.{max, min}
use Rattle.std.proofs.lemmas.Bool.{cond-true, cond-false, cases_lt, le-leb}
use Rattle.std.proofs.lemmas.Bool.Decides.{nat_tests}
use Rattle.std.proofs.lemmas.Nat.{div-mul-add}
use Rattle.std.proofs.Math.Dec.{leb}
use Rattle.std.proofs.Math.Nat.{mul-le-mul_right, div-mul-le_self, lt-div-mul-add, le-mul_of_pos_right, add-mul-div_right, div-le_self}
use Rattle.edge_store.proofs.DigitLaws.{row_below, indirect_below}
use Rattle.edge_count.specs.Runs.{first_row, row_count}
use Rattle.edge_count.proofs.RunLaws.{div_mono}

-- how far the rows before one go
abbrev pub reach : ℕ → ℕ → ℕ → ℕ → ℕ → ℕ
reach a k lo end row = max (max lo a) (min end (a + row * k))

count_none : (a k lo len : ℕ) → lo + len ≤ max lo a → row_count a k lo len ≡ 0
count_none a k lo len h = cond-true (leb (lo + len) (max lo a)) _ _ (le-leb (lo + len) (max lo a) h)

pub count_some : (a k lo len : ℕ) → max lo a < lo + len → row_count a k lo len ≡ (lo + len - 1 - a) / k + 1 - first_row a k lo
count_some a k lo len h = cond-false (leb (lo + len) (max lo a)) _ _ (lt-leb (lo + len) (max lo a) h)
  where
    lt-leb : (x y : ℕ) → y < x → leb x y ≡ false
    lt-leb x y h = grind (arith, nat_tests)

-- What a row of the run is: it is no later than the last, begins within the run, and ends within it.
pub record IsRowOf (a k lo len row : ℕ) : Type 0 where
  pub some : max lo a < lo + len
  pub last : row ≤ (lo + len - 1 - a) / k
  pub begins : a + row * k < lo + len
  pub ends : lo < a + row * k + k

pub row_of : (a k lo len row : ℕ) → 0 < k → first_row a k lo ≤ row → row < first_row a k lo + row_count a k lo len → IsRowOf a k lo len row
row_of a k lo len row some_k from below = elim (cases_lt (max lo a) (lo + len)) [
  | inr none ↦ let zero_rows = count_none a k lo len none in absurd (omega arith)
  | inl some ↦
      let many = count_some a k lo len some in
      let last : row ≤ (lo + len - 1 - a) / k = omega arith in
      let up : row * k ≤ (lo + len - 1 - a) / k * k = mul-le-mul_right k last in
      let down = div-mul-le_self (lo + len - 1 - a) k in
      let first : (lo - a) / k * k ≤ row * k = mul-le-mul_right k from in
      let past : lo - a < (lo - a) / k * k + k = lt-div-mul-add some_k in
      record { some = some; last = last; begins = omega arith; ends = omega arith }
]

-- nothing is reached before the first row
pub reach_first : (a k lo end : ℕ) → reach a k lo end (first_row a k lo) ≡ max lo a
reach_first a k lo end = let low = div-mul-le_self (lo - a) k in omega arith

-- and all of the run behind the last one
pub reach_last : (a k lo len : ℕ) → 0 < k → reach a k lo (lo + len) (first_row a k lo + row_count a k lo len) - max lo a ≡ lo + len - max lo a
reach_last a k lo len some_k = elim (cases_lt (max lo a) (lo + len)) [
  | inr none ↦
      let zero_rows = count_none a k lo len none in
      let low = div-mul-le_self (lo - a) k in
      omega arith
  | inl some ↦
      let many = count_some a k lo len some in
      let mono = div_mono k (lo - a) (lo + len - 1 - a) some_k (omega arith) in
      let past : lo + len - 1 - a < (lo + len - 1 - a) / k * k + k = lt-div-mul-add some_k in
      let row : first_row a k lo + row_count a k lo len ≡ (lo + len - 1 - a) / k + 1 = omega arith in
      let next : ((lo + len - 1 - a) / k + 1) * k ≡ (lo + len - 1 - a) / k * k + k = grind arith in
      let all : (first_row a k lo + row_count a k lo len) * k ≡ (lo + len - 1 - a) / k * k + k = ap (λ (m : ℕ). m * k) row ∙ next in
      omega arith
]

-- What a row adds: the places of a run in it follow what was reached.
pub record Adds (a k lo len row first many : ℕ) : Type 0 where
  pub from : max lo a + (reach a k lo (lo + len) row - max lo a) ≡ a + (row * k + first)
  pub upto : reach a k lo (lo + len) (row + 1) - max lo a ≡ reach a k lo (lo + len) row - max lo a + many

pub row_adds : (a k lo len row first many : ℕ) → IsRowOf a k lo len row → first ≡ lo - (a + row * k) → first + many ≡ min (lo + len - (a + row * k)) k → Adds a k lo len row first many
row_adds a k lo len row first many is begin end =
    let next : (row + 1) * k ≡ row * k + k = grind arith in
    let some : max lo a < lo + len = is.some in
    let begins : a + row * k < lo + len = is.begins in
    let ends : lo < a + row * k + k = is.ends in
    record { from = omega arith; upto = omega arith }

-- no row is past the nodes that there may be: b single ones, and c tables of k rows each
pub row_low : (a b c k lo len row : ℕ) → lo + len ≤ a + b * k + c * (k * k) → IsRowOf a k lo len row → row < b + c * k
row_low a b c k lo len row low is =
    let some : max lo a < lo + len = is.some in
    let last : row ≤ (lo + len - 1 - a) / k = is.last in
    let below = indirect_below a b c k (lo + len - 1) (omega arith) (omega arith) in
    omega arith

-- how many rows there are
pub rows_few : (a k lo len : ℕ) → 0 < k → row_count a k lo len ≤ len
rows_few a k lo len some_k = elim (cases_lt (max lo a) (lo + len)) [
  | inr none ↦ let zero_rows = count_none a k lo len none in omega arith
  | inl some ↦
      let many = count_some a k lo len some in
      let more : lo + len - 1 - a ≤ lo - a + (len - 1) = omega arith in
      let split = div_mono k (lo + len - 1 - a) (lo - a + (len - 1)) some_k more in
      let less = div_add_le (lo - a) (len - 1) k some_k in
      omega arith
]
  where
    div_add_le : (x y k : ℕ) → 0 < k → (x + y) / k ≤ x / k + y
    div_add_le x y k some =
        let wide : y ≤ y * k = le-mul_of_pos_right y some in
        let whole = add-mul-div_right x y some in
        let mono = div_mono k (x + y) (x + y * k) some (omega arith) in
        omega arith

pub rows_end : (a k lo len : ℕ) → 0 < k → first_row a k lo + row_count a k lo len ≤ lo + len
rows_end a k lo len some_k = elim (cases_lt (max lo a) (lo + len)) [
  | inr none ↦
      let zero_rows = count_none a k lo len none in
      let first : (lo - a) / k ≤ lo - a = div-le_self (lo - a) k in
      omega arith
  | inl some ↦
      let many = count_some a k lo len some in
      let mono = div_mono k (lo - a) (lo + len - 1 - a) some_k (omega arith) in
      let last : (lo + len - 1 - a) / k ≤ lo + len - 1 - a = div-le_self (lo + len - 1 - a) k in
      omega arith
]

-- rows of a run that ends within c of them
pub rows_within : (a k c lo len : ℕ) → 0 < k → lo + len ≤ a + c * k → first_row a k lo + row_count a k lo len ≤ c
rows_within a k c lo len some_k end = elim (cases_lt (max lo a) (lo + len)) [
  | inr none ↦
      let zero_rows = count_none a k lo len none in
      let mono = div_mono k (lo - a) (c * k + 0) some_k (omega arith) in
      let whole : (c * k + 0) / k ≡ c = div-mul-add c k 0 some_k in
      omega arith
  | inl some ↦
      let many = count_some a k lo len some in
      let mono = div_mono k (lo - a) (lo + len - 1 - a) some_k (omega arith) in
      let last : (lo + len - 1 - a) / k < c = row_below (lo + len - 1 - a) c k some_k (omega arith) in
      omega arith
]
