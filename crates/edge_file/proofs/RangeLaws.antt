-- Which data blocks have bytes of a range, and lists with the same data blocks.
use Rattle.std.proofs.Common.{◌≡◌, ◌⊎◌, ℕ, ◌+◌, ◌-◌, ◌*◌, ◌/◌, ◌==◌, ◌<◌, ◌≤◌, ◌&&◌, ◌||◌, not, Bool, true, false, inl, inr, List, [], ◌∷◌, ◌++◌, refl, sym, ap, ◌∙◌, subst, arith}
use Rattle.std.specs.Prelude.{nat_le, nat_lt}
use Rattle.std.specs.List.{list_any, range_with_len}
use Rattle.std.proofs.lemmas.Bool.{cases_order, and_parts, and_from, ltb-true, ltb-false, not-true, eq-eqb, eqb-true, eqb-false}
use Rattle.std.proofs.lemmas.Bool.Decides.{nat_tests}
use Rattle.std.proofs.lemmas.Grind.{flat_map-append}
use Rattle.std.proofs.lemmas.List.Folds.{list_any-append}
use Rattle.std.proofs.Math.Nat.{mul-le-mul_right}
use Rattle.edge_base.specs.declared.geometry.Request.{Request}
use Rattle.edge_base.specs.declared.form.Form.{Form}
use Rattle.edge_base.specs.declared.form.Form.TheVariants.{Plain, Indirect, Double}
use Rattle.edge_base.specs.layout.Places.{entries_of, pointers_of, max_blocks_of}
use Rattle.edge_base.specs.tree.Chains.{is_on_chain}
use Rattle.edge_base.specs.tree.Positions.{Position, has, chain, positions_of, positions_of_form}
use Rattle.edge_base.proofs.ChainLaws.{has-positions_of}
use Rattle.edge_base.proofs.CountLaws.{is_member-range}
use Rattle.edge_base.proofs.PositionLaws.{has-append}
use Rattle.edge_store.proofs.DigitLaws.{table_below, indirect_below}
use Rattle.edge_shape.proofs.ListLaws.{found, any_of, any-filter}
use Rattle.edge_file.specs.Bytes.{is_under, blocks_under}

-- ---- lists of indices as sets

abbrev pub lists : List ℕ → ℕ → Bool
lists xs i = list_any (λ k. k == i) xs

same_test : (t u : Bool) → (t ≡ true → u ≡ true) → (u ≡ true → t ≡ true) → t ≡ u
same_test true u h k = sym (h refl)
same_test false true h k = k refl
same_test false false h k = refl

-- two lists with the same indices pass a test alike
pub any_alike : (test : ℕ → Bool) (xs ys : List ℕ) → ((i : ℕ) → lists xs i ≡ lists ys i) → list_any test xs ≡ list_any test ys
any_alike test xs ys same = same_test (list_any test xs) (list_any test ys)
    (λ h. let r = found test xs h in any_of test ys r.0 (sym (same r.0) ∙ r.1) r.2)
    (λ h. let r = found test ys h in any_of test xs r.0 (same r.0 ∙ r.1) r.2)

pub positions_alike : (g : Request) (n : ℕ) (xs ys : List ℕ) → ((i : ℕ) → lists xs i ≡ lists ys i) → (p : Position) → has (positions_of g n xs) p ≡ has (positions_of g n ys) p
positions_alike g n xs ys same p =
    has-positions_of g n xs p ∙ ap (λ t. (p.number == n) && t) (any_alike (is_on_chain g p.form p.index) xs ys same) ∙ sym (has-positions_of g n ys p)

pub positions_both : (g : Request) (n : ℕ) (xs ys : List ℕ) (p : Position) → has (positions_of g n (xs ++ ys)) p ≡ (has (positions_of g n xs) p || has (positions_of g n ys) p)
positions_both g n xs ys p = ap (λ l. has l p) (flat_map-append (chain g n) xs ys) ∙ has-append (positions_of g n xs) (positions_of g n ys) p

pub lists-append : (xs ys : List ℕ) (i : ℕ) → lists (xs ++ ys) i ≡ (lists xs i || lists ys i)
lists-append xs ys i = list_any-append (λ k. k == i) xs ys

pub append_none : {X : Type 0} (xs : List X) → xs ++ [] ≡ xs
append_none [] = refl
append_none (x ∷ xs) = λ i. x ∷ append_none xs i

-- rows of one size do not overlap
pub rows_apart : (i j size : ℕ) → j < i → j * size + size ≤ i * size
rows_apart i j size below =
    let next : (j + 1) * size ≤ i * size = mul-le-mul_right size (omega arith) in
    let split : (j + 1) * size ≡ j * size + size = grind arith in
    omega arith

pub lists_range : (m i : ℕ) → lists (range_with_len 0 m) i ≡ nat_lt i m
lists_range m i = (λ t. list_any (λ k. swap k i t) (range_with_len 0 m)) ∙ is_member-range 0 m i ∙ from_zero m i
  where
    swap : (k i : ℕ) → (k == i) ≡ (i == k)
    swap k i = grind (arith, nat_tests)

    from_zero : (m i : ℕ) → (nat_le 0 i && nat_lt i (0 + m)) ≡ nat_lt i m
    from_zero m i = grind (arith, nat_tests)

-- ---- the data blocks of a range

pub lists_under : (g : Request) (at len i : ℕ) → lists (blocks_under g at len) i ≡ (nat_lt i (max_blocks_of g) && is_under g at len i)
unfolding blocks_under
lists_under g at len i =
    any-filter (is_under g at len) (λ k. k == i) (range_with_len 0 (max_blocks_of g))
    ∙ any_here (is_under g at len) i (range_with_len 0 (max_blocks_of g))
    ∙ ap (λ t. t && is_under g at len i) (lists_range (max_blocks_of g) i)
  where
    any_here : (test : ℕ → Bool) (i : ℕ) (xs : List ℕ) → list_any (λ k. test k && (k == i)) xs ≡ (list_any (λ k. k == i) xs && test i)
    any_here test i xs = same_test (list_any (λ k. test k && (k == i)) xs) (list_any (λ k. k == i) xs && test i)
        (λ h.
        let r = found (λ k. test k && (k == i)) xs h in
        let p = and_parts (test r.0) (r.0 == i) r.2 in
        and_from (list_any (λ k. k == i) xs) (test i) (ap (lists xs) (sym (eqb-true r.0 i p.1)) ∙ r.1) (ap test (sym (eqb-true r.0 i p.1)) ∙ p.0))
        (λ h.
        let p = and_parts (list_any (λ k. k == i) xs) (test i) h in
        any_of (λ k. test k && (k == i)) xs i p.0 (and_from (test i) (i == i) p.1 (eq-eqb i i refl)))

-- one range behind another
pub under_both : (g : Request) (at len more i : ℕ) → 0 < g.block_size → (is_under g (at + len) more i || is_under g at len i) ≡ is_under g at (len + more) i
under_both g at len more i size = both (i * g.block_size) g.block_size at len more size
  where
    both : (x b at len more : ℕ) → 0 < b → ((nat_lt 0 more && nat_lt (at + len) (x + b) && nat_lt x (at + len + more)) || (nat_lt 0 len && nat_lt at (x + b) && nat_lt x (at + len)))
        ≡ (nat_lt 0 (len + more) && nat_lt at (x + b) && nat_lt x (at + (len + more)))
    both x b at len more size = grind (arith, nat_tests)

pub blocks_both : (g : Request) (at len more : ℕ) → 0 < g.block_size → (i : ℕ) → lists (blocks_under g (at + len) more ++ blocks_under g at len) i ≡ lists (blocks_under g at (len + more)) i
blocks_both g at len more size i =
    lists-append (blocks_under g (at + len) more) (blocks_under g at len) i
    ∙ (λ t. lists_under g (at + len) more i t || lists_under g at len i t)
    ∙ split (nat_lt i (max_blocks_of g)) (is_under g (at + len) more i) (is_under g at len i)
    ∙ ap (λ t. nat_lt i (max_blocks_of g) && t) (under_both g at len more i size)
    ∙ sym (lists_under g at (len + more) i)
  where
    split : (a b c : Bool) → ((a && b) || (a && c)) ≡ (a && (b || c))
    split a b c = grind (arith, nat_tests)

-- a range within one data block
pub block_alone : (g : Request) (i start len : ℕ) → i < max_blocks_of g → 0 < len → start + len ≤ g.block_size → (k : ℕ) → lists (i ∷ []) k ≡ lists (blocks_under g (i * g.block_size + start) len) k
block_alone g i start len low some fits k = one (i == k) refl ∙ sym (lists_under g (i * g.block_size + start) len k)
  where
    within : (x y size len m k : ℕ) → y ≡ x → k < m → 0 < len → start + len ≤ size → true ≡ (nat_lt k m && (nat_lt 0 len && nat_lt (x + start) (y + size) && nat_lt y (x + start + len)))
    within x y size len m k is low some fits = grind (arith, nat_tests)

    outside : (x y size len m k : ℕ) → (y + size ≤ x) ⊎ (x + size ≤ y) → start + len ≤ size → false ≡ (nat_lt k m && (nat_lt 0 len && nat_lt (x + start) (y + size) && nat_lt y (x + start + len)))
    outside x y size len m k (inl before) fits = grind (arith, nat_tests)
    outside x y size len m k (inr behind) fits = grind (arith, nat_tests)

    apart : ((k < i) ⊎ (i < k)) → (k * g.block_size + g.block_size ≤ i * g.block_size) ⊎ (i * g.block_size + g.block_size ≤ k * g.block_size)
    apart (inl below) = inl (rows_apart i k g.block_size below)
    apart (inr above) = inr (rows_apart k i g.block_size above)

    one : (t : Bool) → (i == k) ≡ t → (t || false) ≡ (nat_lt k (max_blocks_of g) && is_under g (i * g.block_size + start) len k)
    one true e =
        let is = eqb-true i k e in
        within (i * g.block_size) (k * g.block_size) g.block_size len (max_blocks_of g) k (ap (λ (m : ℕ). m * g.block_size) (sym is)) (subst (λ (m : ℕ). m < max_blocks_of g) is low) some fits
    one false e = elim (cases_order k i) [
      | inl is ↦ absurd (eqb-false i k e (sym is))
      | inr other ↦ outside (i * g.block_size) (k * g.block_size) g.block_size len (max_blocks_of g) k (apart other) fits
    ]

-- ---- positions within their forms

-- what is on the chain of a data block is a number of its form
pub chain_in_range : (g : Request) (form : Form) (k i : ℕ) → i < max_blocks_of g → is_on_chain g form k i ≡ true → k < positions_of_form g form
chain_in_range g Plain k i low on = subst (λ (m : ℕ). m < max_blocks_of g) (eqb-true i k on) low
chain_in_range g Indirect k i low on =
    let p = and_parts (not (nat_lt i g.direct)) ((i - g.direct) / pointers_of g == k) on in
    subst (λ (m : ℕ). m < positions_of_form g Indirect) (eqb-true ((i - g.direct) / pointers_of g) k p.1)
    (indirect_below g.direct g.indirect (entries_of g - g.direct - g.indirect) (pointers_of g) i low (ltb-false i g.direct (not-true (nat_lt i g.direct) p.0)))
chain_in_range g Double k i low on =
    let p = and_parts (not (nat_lt i g.direct)) (not (nat_lt ((i - g.direct) / pointers_of g) g.indirect) && (((i - g.direct) / pointers_of g - g.indirect) / pointers_of g == k)) on in
    let q = and_parts (not (nat_lt ((i - g.direct) / pointers_of g) g.indirect)) (((i - g.direct) / pointers_of g - g.indirect) / pointers_of g == k) p.1 in
    let row = indirect_below g.direct g.indirect (entries_of g - g.direct - g.indirect) (pointers_of g) i low (ltb-false i g.direct (not-true (nat_lt i g.direct) p.0)) in
    subst (λ (m : ℕ). m < positions_of_form g Double) (eqb-true (((i - g.direct) / pointers_of g - g.indirect) / pointers_of g) k q.1)
    (table_below g.indirect (entries_of g - g.direct - g.indirect) (pointers_of g) ((i - g.direct) / pointers_of g) row (ltb-false ((i - g.direct) / pointers_of g) g.indirect (not-true (nat_lt ((i - g.direct) / pointers_of g) g.indirect) q.0)))

pub under_in_range : (g : Request) (n at len : ℕ) (p : Position) → has (positions_of g n (blocks_under g at len)) p ≡ true → p.index < positions_of_form g p.form
under_in_range g n at len p h =
    let on = and_parts (p.number == n) (list_any (is_on_chain g p.form p.index) (blocks_under g at len)) (sym (has-positions_of g n (blocks_under g at len) p) ∙ h) in
    let r = found (is_on_chain g p.form p.index) (blocks_under g at len) on.1 in
    let low = and_parts (nat_lt r.0 (max_blocks_of g)) (is_under g at len r.0) (sym (lists_under g at len r.0) ∙ r.1) in
    chain_in_range g p.form p.index r.0 (ltb-true r.0 (max_blocks_of g) low.0) r.2
