-- A range of a row, read and written.
use Rattle.std.proofs.Common.{◌≡◌, ◌≢◌, ℕ, ◌+◌, ◌-◌, ◌*◌, ◌≤◌, List, ◌++◌, length, take, drop, length-take, length-drop, append_assoc, sym, ap, ◌∙◌, arith, inl, inr}
use Rattle.std.specs.Prelude.{slice_range}
use Rattle.std.proofs.lemmas.Bool.{cases_lt}
use Rattle.std.proofs.lemmas.List.{drop-take, take-take, drop-drop, drop-append-le}
use Rattle.std.proofs.lemmas.Slice.{take-put_mid_below, drop-put_mid}
use Rattle.std.proofs.Math.Seq.{take-append-add}
use borrow.Rule.Slice.PartMut.{put_mid, post_of}
use Rattle.edge_plain.specs.Kept.{row}
use Rattle.edge_store.specs.Effects.{put_in}
use Rattle.edge_plain.proofs.RowLaws.{rows_apart}

pub row-range : (size : ℕ) (xs : List ℕ) (b at len : ℕ) → at + len ≤ size → slice_range (row size xs b) at (at + len) ≡ take len (drop (b * size + at) xs)
row-range size xs b at len fits =
    let rest : ℕ = size - at in
    let whole : size ≡ at + rest = omega arith in
    let count : at + len - at ≡ len = omega arith in
    ap (λ (n : ℕ). take n (drop at (row size xs b))) count
    ∙ ap (λ (n : ℕ). take len (drop at (take n (drop (b * size) xs)))) whole
    ∙ ap (take len) (drop-take at rest (drop (b * size) xs))
    ∙ take-take len rest (drop at (drop (b * size) xs)) (omega arith)
    ∙ ap (take len) (drop-drop at (b * size) xs)

module _ (size : ℕ) (xs new : List ℕ) (b at k : ℕ) (in_row : at + k ≤ size) (fits : b * size + size ≤ length xs) (long : length new ≡ k) where
  abbrev from : ℕ
  from = b * size + at

  abbrev tail_of : List ℕ
  tail_of = drop (b * size) xs

  begins : drop (b * size) (put_mid from k xs new) ≡ take at tail_of ++ (new ++ post_of from k xs)
  begins =
      drop-append-le (b * size) (take from xs) (new ++ post_of from k xs) (omega (arith, length-take from xs))
      ∙ ap (λ l. l ++ (new ++ post_of from k xs)) (drop-take (b * size) at xs)

  pub row-put_here : row size (put_mid from k xs new) b ≡ put_in (row size xs b) at new
  row-put_here =
      let rest : ℕ = size - at in
      let left : ℕ = rest - k in
      let front : length (take at tail_of) ≡ at = omega (arith, length-take at tail_of, length-drop (b * size) xs) in
      let whole : size ≡ length (take at tail_of) + rest = omega arith in
      let middle : rest ≡ length new + left = omega arith in
      let size_split : size ≡ at + length new + left = omega arith in
      let cut : take size (take at tail_of ++ (new ++ post_of from k xs)) ≡ take at tail_of ++ take rest (new ++ post_of from k xs) =
      ap (λ (n : ℕ). take n (take at tail_of ++ (new ++ post_of from k xs))) whole ∙ take-append-add (take at tail_of) (new ++ post_of from k xs) rest in
      let inner : take rest (new ++ post_of from k xs) ≡ new ++ take left (post_of from k xs) =
      ap (λ (n : ℕ). take n (new ++ post_of from k xs)) middle ∙ take-append-add new (post_of from k xs) left in
      let here : post_of from k xs ≡ drop (at + length new) tail_of =
      drop-drop k from xs ∙ ap (λ (n : ℕ). drop n xs) (let e : from + k ≡ b * size + (at + length new) = omega arith in e) ∙ sym (drop-drop (at + length new) (b * size) xs) in
      let end : drop (at + length new) (take size tail_of) ≡ take left (drop (at + length new) tail_of) =
      ap (λ (n : ℕ). drop (at + length new) (take n tail_of)) size_split ∙ drop-take (at + length new) left tail_of in
      ap (take size) begins ∙ cut ∙ ap (λ l. take at tail_of ++ l) (inner ∙ ap (λ l. new ++ take left l) here ∙ ap (λ l. new ++ l) (sym end))
      ∙ ap (λ l. l ++ (new ++ drop (at + length new) (take size tail_of))) (sym (take-take at size tail_of (omega arith)))
      ∙ sym (append_assoc (take at (take size tail_of)) new (drop (at + length new) (take size tail_of)))

  pub row-put_apart : (c : ℕ) → c ≢ b → row size (put_mid from k xs new) c ≡ row size xs c
  row-put_apart c far = elim (cases_lt c b) [
    | inl h ↦
        let before : c * size + size ≤ b * size = rows_apart b c size h in
        sym (drop-take (c * size) size (put_mid from k xs new))
        ∙ ap (drop (c * size)) (take-put_mid_below from k xs new (c * size + size) (omega arith) (omega arith))
        ∙ drop-take (c * size) size xs
    | inr h ↦
        let behind : b * size + size ≤ c * size = rows_apart c b size (omega arith) in
        ap (take size) (drop-put_mid from k xs new (c * size) (omega arith) (omega arith) long)
  ]
