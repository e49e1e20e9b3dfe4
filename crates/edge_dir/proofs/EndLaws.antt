-- How many blocks hold so many slots.
use Rattle.std.proofs.Common.{◌≡◌, ◌∙◌, ℕ, ◌+◌, ◌-◌, ◌*◌, ◌/◌, ◌%◌, ◌<◌, ◌≤◌, ◌==◌, false, zero, suc, refl, sym, ap, arith}
use Rattle.std.proofs.lemmas.Nat.{div-add-mod', div-mul-add}
use Rattle.std.proofs.Math.Nat.{div-mul-le_self, mod-lt, le-div_iff_mul-le, mul-le-mul_right}
use Rattle.std.specs.Prelude.{IsTrue}
use Rattle.edge_base.specs.layout.Places.{IsWithinLimits}
use Rattle.edge_base.specs.layout.Sizes.{is_block_size}
use Rattle.std.proofs.lemmas.Bool.Decides.{nat_tests}
use Rattle.edge_base.specs.declared.geometry.Request.{Request}
use Rattle.edge_base.specs.tree.Slots.{pieces, slots_in_block}
use Rattle.edge_dir.proofs.SlotLaws.{blocks_hold}

-- the pieces before the last hold fewer
pub more_than_before : (n count q : ℕ) → 0 < n → pieces n count ≡ q + 1 → q * n < count
more_than_before n count q some e =
    let full = div-add-mod' (count + (n - 1)) n in
    let low = mod-lt (count + (n - 1)) some in
    let row : (q + 1) * n ≡ q * n + n = grind arith in
    let split : (q + 1) * n + (count + (n - 1)) % n ≡ count + (n - 1) = ap (λ (x : ℕ). x * n + (count + (n - 1)) % n) (sym e) ∙ full in
    omega (arith, split, row, low)

not_none : (q : ℕ) → (suc q == 0) ≡ false
not_none q = grind (arith, nat_tests)

-- no slots take no block
pub no_blocks : (n count : ℕ) → 0 < n → (pieces n count == 0) ≡ (count == 0)
no_blocks n zero some = ap (λ (x : ℕ). x == 0) (ap (λ (x : ℕ). x / n) (let e : 0 + (n - 1) ≡ 0 * n + (n - 1) = omega arith in e) ∙ div-mul-add 0 n (n - 1) (omega arith))
no_blocks n (suc k) some = by (pieces n (suc k)) refl
  where
    by : (q : ℕ) → pieces n (suc k) ≡ q → (q == 0) ≡ (suc k == 0)
    by zero e = absurd (let held = blocks_hold n (suc k) some in let none = ap (λ (x : ℕ). x * n) e in omega (arith, held, none))
    by (suc q) e = not_none q ∙ sym (not_none k)

pub no_slots : (n count : ℕ) → 0 < n → pieces n count ≡ 0 → count ≡ 0
no_slots n count some e =
    let held = blocks_hold n count some in
    let none : pieces n count * n ≡ 0 * n = ap (λ (x : ℕ). x * n) e in
    omega (arith, held, none)

-- blocks have bytes, and slots
long_block : (n : ℕ) → IsTrue (is_block_size n) → 512 ≤ n
long_block n e = grind (arith, nat_tests)

most_block : (n : ℕ) → IsTrue (is_block_size n) → n ≤ 4096
most_block n e = grind (arith, nat_tests)

pub block_most : (g : Request) → IsWithinLimits g → g.block_size ≤ 4096
block_most g limits = most_block g.block_size limits.block_size

pub some_bytes : (g : Request) → IsWithinLimits g → 0 < g.block_size
some_bytes g limits = let long = long_block g.block_size limits.block_size in omega (arith, long)

pub some_slots : (g : Request) → IsWithinLimits g → 0 < slots_in_block g
some_slots g limits =
    let long = long_block g.block_size limits.block_size in
    let most = limits.name_max in
    let one : 1 ≤ slots_in_block g = (le-div_iff_mul-le (let wide : 0 < 4 + g.name_max = omega arith in wide)).1 (omega (arith, long, most)) in
    omega (arith, one)

-- the slots of a block lie in it, and one before the end of all
pub slots_fit : (g : Request) → slots_in_block g * (4 + g.name_max) ≤ g.block_size
slots_fit g = div-mul-le_self g.block_size (4 + g.name_max)

pub slot_before_end : (g : Request) (t : ℕ) → t < slots_in_block g → t * (4 + g.name_max) + (4 + g.name_max) ≤ slots_in_block g * (4 + g.name_max)
slot_before_end g t low =
    let row : (t + 1) * (4 + g.name_max) ≡ t * (4 + g.name_max) + (4 + g.name_max) = grind arith in
    let most = mul-le-mul_right {m = t + 1} {n = slots_in_block g} (4 + g.name_max) (omega arith) in
    omega (arith, row, most)

pub slot_within : (g : Request) (t : ℕ) → t < slots_in_block g → t * (4 + g.name_max) + (4 + g.name_max) ≤ g.block_size
slot_within g t low = let end = slot_before_end g t low in omega (arith, end, slots_fit g)
