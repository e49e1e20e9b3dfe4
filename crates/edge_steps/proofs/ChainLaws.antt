-- The pointer nodes above the data blocks of a node, between two of them.
use Rattle.std.proofs.Common.{◌≡◌, ℕ, ◌-◌, ◌*◌, ◌/◌, ◌<◌, ◌≤◌, Bool, true, false, cond, [], ◌∷◌, length, nat_lt, inl, inr, ⊎_elim, refl, sym, ap, ◌∙◌, subst, arith}
use Rattle.std.proofs.lemmas.Bool.{ltb-false, le-ltb}
use Rattle.std.proofs.Math.Nat.{div-zero, le-div_iff_mul-le, eq-zero-or-pos}
use Rattle.std.proofs.lemmas.Map.Made.{distinct_count-le}
use Rattle.edge_base.specs.declared.form.Form.TheVariants.{Indirect, Double}
use Rattle.edge_base.specs.declared.geometry.Request.{Request}
use Rattle.edge_base.specs.layout.Places.{pointers_of}
use Rattle.edge_base.specs.tree.Positions.{Position, same_position, indirect_at, double_at, above_indirect, above_data, chain, count_of}
use Rattle.edge_model.proofs.Members.{IsAmong}
use Rattle.edge_model.proofs.Ways.{none_is_data}

-- ---- quotients

pub div_mono : (n a b : ℕ) → a ≤ b → a / n ≤ b / n
div_mono n a b h = ⊎_elim
    (λ (none : n ≡ 0). let one : a / n ≡ 0 = ap (λ m. a / m) none ∙ div-zero a in omega arith)
    (λ (some : 0 < n). let low : a / n * n ≤ a = (le-div_iff_mul-le some).0 (omega arith) in (le-div_iff_mul-le some).1 (omega arith))
    (eq-zero-or-pos n)

between : (n a b c : ℕ) → a ≤ b → b ≤ c → a / n ≡ c / n → b / n ≡ a / n
between n a b c low high same = let one = div_mono n a b low in let two = div_mono n b c high in omega arith

-- ---- the nodes above a data block

-- the number of the indirect node
abbrev pub indirect_of : Request → ℕ → ℕ
indirect_of g i = (i - g.direct) / pointers_of g

-- which node above data block i of x a position is
pub data IsAbove (g : Request) (x i : ℕ) (q : Position) : Type 0 where
  single : g.direct ≤ i → q ≡ indirect_at x (indirect_of g i) → IsAbove g x i q
  double : g.direct ≤ i → g.indirect ≤ indirect_of g i → q ≡ double_at x ((indirect_of g i - g.indirect) / pointers_of g) → IsAbove g x i q

by_double : (g : Request) (x i : ℕ) (q : Position) (b : Bool) → g.direct ≤ i → nat_lt (indirect_of g i) g.indirect ≡ b → IsAmong (cond b [] (double_at x ((indirect_of g i - g.indirect) / pointers_of g) ∷ [])) q → IsAbove g x i q
by_double g x i q true low is h = absurd h
by_double g x i q false low is (inl e) = double low (ltb-false (indirect_of g i) g.indirect is) e
by_double g x i q false low is (inr h) = absurd h

by_single : (g : Request) (x i : ℕ) (q : Position) (b : Bool) → nat_lt i g.direct ≡ b → IsAmong (cond b [] (indirect_at x (indirect_of g i) ∷ above_indirect g x (indirect_of g i))) q → IsAbove g x i q
by_single g x i q true is h = absurd h
by_single g x i q false is (inl e) = single (ltb-false i g.direct is) e
by_single g x i q false is (inr h) = by_double g x i q (nat_lt (indirect_of g i) g.indirect) (ltb-false i g.direct is) refl h

pub is_above : (g : Request) (x i : ℕ) (q : Position) → IsAmong (above_data g x i) q → IsAbove g x i q
is_above g x i q h = by_single g x i q (nat_lt i g.direct) refl h

pub above : (g : Request) (x i : ℕ) (q : Position) → IsAbove g x i q → IsAmong (above_data g x i) q
above g x i q (single low e) = subst (λ b. IsAmong (cond b [] (indirect_at x (indirect_of g i) ∷ above_indirect g x (indirect_of g i))) q) (sym (le-ltb i g.direct low)) (inl e)
above g x i q (double low more e) = subst (λ b. IsAmong (cond b [] (indirect_at x (indirect_of g i) ∷ above_indirect g x (indirect_of g i))) q) (sym (le-ltb i g.direct low))
    (inr (subst (λ b. IsAmong (cond b [] (double_at x ((indirect_of g i - g.indirect) / pointers_of g) ∷ [])) q) (sym (le-ltb (indirect_of g i) g.indirect more)) (inl e)))

-- a node above two data blocks is above each between them
same_index : (p q : Position) → p ≡ q → p.index ≡ q.index
same_index p q e = ap (λ (r : Position). r.index) e

above_between : (g : Request) (x i m j : ℕ) (q : Position) → i ≤ m → m ≤ j → IsAbove g x i q → IsAbove g x j q → IsAbove g x m q
above_between g x i m j q low high (single a e) (single b f) =
    let same : indirect_of g i ≡ indirect_of g j = same_index (indirect_at x (indirect_of g i)) (indirect_at x (indirect_of g j)) (sym e ∙ f) in
    let mid = between (pointers_of g) (i - g.direct) (m - g.direct) (j - g.direct) (omega arith) (omega arith) same in
    single (omega arith) (e ∙ ap (indirect_at x) (sym mid))
above_between g x i m j q low high (single a e) (double b more f) = absurd {A = IsAbove g x m q} (let forms : Indirect ≡ Double = ap (λ (r : Position). r.form) (sym e ∙ f) in cc)
above_between g x i m j q low high (double a more e) (single b f) = absurd {A = IsAbove g x m q} (let forms : Double ≡ Indirect = ap (λ (r : Position). r.form) (sym e ∙ f) in cc)
above_between g x i m j q low high (double a more e) (double b most f) =
    let same : (indirect_of g i - g.indirect) / pointers_of g ≡ (indirect_of g j - g.indirect) / pointers_of g = same_index (double_at x ((indirect_of g i - g.indirect) / pointers_of g)) (double_at x ((indirect_of g j - g.indirect) / pointers_of g)) (sym e ∙ f) in
    let one = div_mono (pointers_of g) (i - g.direct) (m - g.direct) (omega arith) in
    let two = div_mono (pointers_of g) (m - g.direct) (j - g.direct) (omega arith) in
    let mid = between (pointers_of g) (indirect_of g i - g.indirect) (indirect_of g m - g.indirect) (indirect_of g j - g.indirect) (omega arith) (omega arith) same in
    double (omega arith) (omega arith) (e ∙ ap (double_at x) (sym mid))

-- a position of the chain of one data block, above another
pub chain_between : (g : Request) (x i m j : ℕ) (q : Position) → i ≤ m → m ≤ j → IsAmong (chain g x i) q → IsAmong (above_data g x j) q → IsAmong (above_data g x m) q
chain_between g x i m j q low high (inl e) up = absurd (none_is_data g x j x i (subst (IsAmong (above_data g x j)) e up))
chain_between g x i m j q low high (inr k) up = above g x m q (above_between g x i m j q low high (is_above g x i q k) (is_above g x j q up))

-- ---- numbers

above_number : (g : Request) (x i : ℕ) (q : Position) → IsAbove g x i q → q.number ≡ x
above_number g x i q (single low e) = ap (λ (r : Position). r.number) e
above_number g x i q (double low more e) = ap (λ (r : Position). r.number) e

pub chain_number : (g : Request) (x i : ℕ) (q : Position) → IsAmong (chain g x i) q → q.number ≡ x
chain_number g x i q (inl e) = ap (λ (r : Position). r.number) e
chain_number g x i q (inr h) = above_number g x i q (is_above g x i q h)

pub up_number : (g : Request) (x i : ℕ) (q : Position) → IsAmong (above_data g x i) q → q.number ≡ x
up_number g x i q h = above_number g x i q (is_above g x i q h)

-- ---- a chain has at most three positions

short_double : (g : Request) (x j : ℕ) → length (above_indirect g x j) ≤ 1
short_double g x j = elim (nat_lt j g.indirect) as (λ b. length (cond b [] (double_at x ((j - g.indirect) / pointers_of g) ∷ [])) ≤ 1) [
  | true ↦ omega arith
  | false ↦ omega arith
]

short_above : (g : Request) (x i : ℕ) → length (above_data g x i) ≤ 2
short_above g x i =
    let less = short_double g x (indirect_of g i) in
    elim (nat_lt i g.direct) as (λ b. length (cond b [] (indirect_at x (indirect_of g i) ∷ above_indirect g x (indirect_of g i))) ≤ 2) [
      | true ↦ omega arith
      | false ↦ omega arith
    ]

pub short_chain : (g : Request) (x i : ℕ) → count_of (chain g x i) ≤ 3
short_chain g x i = let less = short_above g x i in let few = distinct_count-le same_position (chain g x i) in omega arith
