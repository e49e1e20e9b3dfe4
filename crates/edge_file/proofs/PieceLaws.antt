-- How many data blocks so many bytes take.
use Rattle.std.proofs.Common.{◌≡◌, ◌≢◌, ℕ, ◌+◌, ◌-◌, ◌*◌, ◌/◌, ◌%◌, ◌<◌, ◌≤◌, ap, ◌∙◌, arith}
use Rattle.std.proofs.lemmas.Nat.{div-add-mod', div-mul-add}
use Rattle.std.proofs.Math.Nat.{mod-lt}
use Rattle.edge_base.specs.tree.Slots.{pieces}
use Rattle.edge_file.proofs.RangeLaws.{rows_apart}

pub full_pieces : (b size : ℕ) → 0 < b → size % b ≡ 0 → pieces b size ≡ size / b
full_pieces b size some none = by (size / b) (size % b) (div-add-mod' size b) none
  where
    by : (q r : ℕ) → q * b + r ≡ size → r ≡ 0 → (size + (b - 1)) / b ≡ q
    by q r split zero = ap (λ (x : ℕ). x / b) (let e : size + (b - 1) ≡ q * b + (b - 1) = omega (arith, split, zero) in e) ∙ div-mul-add q b (b - 1) (omega arith)

pub part_pieces : (b size : ℕ) → 0 < b → size % b ≢ 0 → pieces b size ≡ size / b + 1
part_pieces b size some there = by (size / b) (size % b) (div-add-mod' size b) there (mod-lt size some)
  where
    by : (q r : ℕ) → q * b + r ≡ size → r ≢ 0 → r < b → (size + (b - 1)) / b ≡ q + 1
    by q r split is low =
        let row : (q + 1) * b ≡ q * b + b = grind arith in
        ap (λ (x : ℕ). x / b) (let e : size + (b - 1) ≡ (q + 1) * b + (r - 1) = omega (arith, split, row, low, is) in e) ∙ div-mul-add (q + 1) b (r - 1) (omega arith)

-- a block that is there is within the greatest size
pub rest_fits : (b size most : ℕ) → 0 < b → size / b < most → size + (b - size % b) ≤ most * b
rest_fits b size most some low = by (size / b) (size % b) (div-add-mod' size b) (mod-lt size some) low
  where
    by : (q r : ℕ) → q * b + r ≡ size → r < b → q < most → size + (b - r) ≤ most * b
    by q r split short less = let up : q * b + b ≤ most * b = rows_apart most q b less in omega (arith, split, short, up)
