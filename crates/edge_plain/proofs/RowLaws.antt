-- Rows of a list after a change in one of them.
use Rattle.std.proofs.Common.{◌≡◌, ◌≢◌, ℕ, ◌+◌, ◌*◌, ◌<◌, ◌≤◌, List, length, take, drop, set, get_or, replicate, sym, ap, ◌∙◌, arith, inl, inr}
use Rattle.std.proofs.lemmas.Bool.{cases_lt}
use Rattle.std.proofs.lemmas.List.{drop-set-lt, take-set-le, drop-set-add, drop-take, get_or-take, get_or-drop, get_or-set_same, get_or-set_other, get_or-replicate, same_lists}
use Rattle.std.proofs.Math.Seq.{take-set-lt}
use Rattle.std.proofs.Math.ListN.{length-replicate}
use Rattle.edge_plain.specs.Kept.{row}
pub use Rattle.edge_plain.specs.KeptLaws.{length-row, rows_apart, row_fits}

pub row-get : {X : Type 0} (size : ℕ) (xs : List X) (b i : ℕ) (d : X) → i < size → get_or (row size xs b) i d ≡ get_or xs (b * size + i) d
row-get size xs b i d low = get_or-take size (drop (b * size) xs) i d low ∙ get_or-drop (b * size) xs i d

pub row-set_here : {X : Type 0} (size : ℕ) (xs : List X) (b i : ℕ) (to : X) → i < size → row size (set xs (b * size + i) to) b ≡ set (row size xs b) i to
row-set_here size xs b i to low = ap (take size) (drop-set-add (b * size) xs i to) ∙ take-set-lt size (drop (b * size) xs) i to low

pub row-set_apart : {X : Type 0} (size : ℕ) (xs : List X) (b i : ℕ) (to : X) (c : ℕ) → i < size → c ≢ b → row size (set xs (b * size + i) to) c ≡ row size xs c
row-set_apart size xs b i to c low far = elim (cases_lt c b) [
  | inl h ↦
      let past : c * size + size ≤ b * size + i = let r = rows_apart b c size h in omega arith in
      sym (drop-take (c * size) size (set xs (b * size + i) to)) ∙ ap (drop (c * size)) (take-set-le (c * size + size) xs (b * size + i) to past) ∙ drop-take (c * size) size xs
  | inr h ↦
      let past : b * size + i < c * size = let r = rows_apart c b size (omega arith) in omega arith in
      ap (take size) (drop-set-lt (c * size) xs (b * size + i) to past)
]

-- ---- rows that are written one by one

-- Of row b the first i have this value.
abbrev pub FilledTo : {X : Type 0} → ℕ → List X → ℕ → X → ℕ → Type 0
FilledTo {X} size xs b value i = (j : ℕ) (d : X) → j < i → get_or (row size xs b) j d ≡ value

-- Of row b the first i are those of another row.
abbrev pub CopiedTo : {X : Type 0} → ℕ → List X → ℕ → List X → ℕ → Type 0
CopiedTo {X} size xs b other i = (j : ℕ) (d : X) → j < i → get_or (row size xs b) j d ≡ get_or other j d

-- All rows but b are as before.
abbrev pub SameBut : {X : Type 0} → ℕ → List X → List X → ℕ → Type 0
SameBut size old new b = (k : ℕ) → k ≢ b → row size new k ≡ row size old k

module _ {X : Type 0} (size : ℕ) (xs : List X) (b i : ℕ) (value : X) (low : i < size) (fits : b * size + size ≤ length xs) where
  written : (j : ℕ) (d : X) → j < i + 1 → (j < i → get_or (row size xs b) j d ≡ get_or (row size (set xs (b * size + i) value) b) j d) × (j ≡ i → get_or (row size (set xs (b * size + i) value) b) j d ≡ value)
  written j d h = (
    (λ (less : j < i). sym (ap (λ l. get_or l j d) (row-set_here size xs b i value low) ∙ get_or-set_other (row size xs b) i j value d (omega arith))),
    (λ (e : j ≡ i). ap (λ l. get_or l j d) (row-set_here size xs b i value low) ∙ ap (λ (k : ℕ). get_or (set (row size xs b) i value) k d) e ∙ get_or-set_same (row size xs b) i value d (let l = length-row size xs b fits in omega arith)),
  )

  pub filled_more : FilledTo size xs b value i → FilledTo size (set xs (b * size + i) value) b value (i + 1)
  filled_more so j d h = elim (cases_lt j i) [
    | inl less ↦ sym ((written j d h).0 less) ∙ so j d less
    | inr past ↦ (written j d h).1 (omega arith)
  ]

  pub copied_more : (other : List X) → ((d : X) → value ≡ get_or other i d) → CopiedTo size xs b other i → CopiedTo size (set xs (b * size + i) value) b other (i + 1)
  copied_more other is so j d h = elim (cases_lt j i) [
    | inl less ↦ sym ((written j d h).0 less) ∙ so j d less
    | inr past ↦ let e : j ≡ i = omega arith in (written j d h).1 e ∙ is d ∙ ap (λ (k : ℕ). get_or other k d) (sym e)
  ]

  pub same_but_more : (old : List X) → SameBut size old xs b → SameBut size old (set xs (b * size + i) value) b
  same_but_more old so k far = row-set_apart size xs b i value k low far ∙ so k far

pub filled_all : {X : Type 0} (size : ℕ) (xs : List X) (b : ℕ) (value : X) → b * size + size ≤ length xs → FilledTo size xs b value size → row size xs b ≡ replicate size value
filled_all size xs b value fits so = same_lists (row size xs b) (replicate size value) (length-row size xs b fits ∙ sym (length-replicate size value))
    (λ k d low. let l : k < size = (let r = length-row size xs b fits in omega arith) in so k d l ∙ sym (get_or-replicate size k value d l))

pub copied_all : {X : Type 0} (size : ℕ) (xs : List X) (b : ℕ) (other : List X) → b * size + size ≤ length xs → length other ≡ size → CopiedTo size xs b other size → row size xs b ≡ other
copied_all size xs b other fits long so = same_lists (row size xs b) other (length-row size xs b fits ∙ sym long)
    (λ k d low. so k d (let r = length-row size xs b fits in omega arith))
