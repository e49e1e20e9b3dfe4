-- The bytes of a file that others are put into, or that gets another size, and its absent blocks.
use Rattle.std.proofs.Common.{◌≡◌, ℕ, zero, suc, ◌+◌, ◌-◌, ◌/◌, ◌<◌, ◌≤◌, ◌==◌, nat_le, nat_lt, Bool, true, false, cond, List, [], ◌∷◌, ◌++◌, length, take, drop, replicate, get_or, slice_index, ⊎_elim, refl, sym, ap, ◌∙◌, arith, append_assoc, length-append, length-take, length-take-le}
use Rattle.std.specs.List.{list_any}
use Rattle.std.specs.Prelude.{slice_index_or}
use Rattle.std.proofs.lemmas.Bool.{false≢true, cases_lt, cases_Bool, and_from, and_left, and_right, le-leb, lt-leb, lt-ltb, le-ltb, cond-true, cond-false}
use Rattle.std.proofs.lemmas.List.{length-replicate, get_or-take, get_or-drop, get_or_past, get_or_append_left, get_or-append-add}
use Rattle.edge_base.specs.declared.geometry.Request.{Request}
use Rattle.edge_base.specs.tree.Nodes.{file, indices_of}
use Rattle.edge_base.specs.tree.NodeRules.{IsFile}
use Rattle.edge_file.specs.Bytes.{with_bytes}
use Rattle.edge_model.specs.Files.{put_at, resized}
use Rattle.edge_model.proofs.SlotLaws.{is_in_marked}
use Rattle.edge_changes.proofs.MemberLaws.{among_index}

abbrev zeros : ℕ → List ℕ
zeros n = replicate n 0

zeros_get : (m q : ℕ) → get_or (zeros m) q 0 ≡ 0
zeros_get zero q = refl
zeros_get (suc m) zero = refl
zeros_get (suc m) (suc q) = zeros_get m q

-- zeros at the end read as what is past the end
zeros_past : (xs : List ℕ) (m q : ℕ) → get_or (xs ++ zeros m) q 0 ≡ get_or xs q 0
zeros_past [] m q = zeros_get m q
zeros_past (x ∷ xs) m zero = refl
zeros_past (x ∷ xs) m (suc q) = zeros_past xs m q

-- ---- bytes put at a place

module _ (content : List ℕ) (at : ℕ) (new : List ℕ) where
  abbrev front : List ℕ
  front = take at (content ++ zeros (at - length content))

  abbrev rest : List ℕ
  rest = drop (at + length new) content

  front_length : length front ≡ at
  front_length = length-take-le at (content ++ zeros (at - length content))
      (let whole = length-append content (zeros (at - length content)) in let more = length-replicate {A = ℕ} (at - length content) 0 in omega arith)

  before : (k : ℕ) → k < at → slice_index (put_at content at new) k ≡ slice_index content k
  before k low =
      ap (λ xs. get_or xs k 0) (append_assoc front new rest)
      ∙ get_or_append_left front (new ++ rest) 0 k (let len = front_length in omega arith)
      ∙ get_or-take at (content ++ zeros (at - length content)) k 0 low
      ∙ zeros_past content (at - length content) k

  -- a byte behind the first ones
  behind : (m : ℕ) → slice_index (put_at content at new) (at + m) ≡ get_or (new ++ rest) m 0
  behind m =
      ap (λ xs. get_or xs (at + m) 0) (append_assoc front new rest)
      ∙ ap (λ q. get_or (front ++ (new ++ rest)) q 0) (let len = front_length in let e : at + m ≡ length front + m = omega arith in e)
      ∙ get_or-append-add front (new ++ rest) m 0

  within : (k : ℕ) → at ≤ k → k < at + length new → slice_index (put_at content at new) k ≡ slice_index new (k - at)
  within k from low =
      ap (slice_index (put_at content at new)) (let e : k ≡ at + (k - at) = omega arith in e)
      ∙ behind (k - at) ∙ get_or_append_left new rest 0 (k - at) (omega arith)

  after : (k : ℕ) → at + length new ≤ k → slice_index (put_at content at new) k ≡ slice_index content k
  after k high =
      let m = k - (at + length new) in
      ap (slice_index (put_at content at new)) (let e : k ≡ at + (length new + m) = omega arith in e)
      ∙ behind (length new + m) ∙ get_or-append-add new rest m 0 ∙ get_or-drop (at + length new) content m 0
      ∙ ap (λ q. get_or content q 0) (let e : at + length new + m ≡ k = omega arith in e)

  pub put_bytes : (k : ℕ) → slice_index (put_at content at new) k ≡ with_bytes (slice_index content) at new k
  put_bytes k = ⊎_elim
      (λ (low : k < at). before k low ∙ sym (cond-false _ _ _ (and_left (nat_le at k) (nat_lt k (at + length new)) (lt-leb at k low))))
      (λ (from : at ≤ k). ⊎_elim
      (λ (low : k < at + length new).
      within k from low ∙ sym (cond-true _ _ _ (and_from (nat_le at k) (nat_lt k (at + length new)) (le-leb at k from) (lt-ltb k (at + length new) low))))
      (λ (high : at + length new ≤ k). after k high ∙ sym (cond-false _ _ _ (and_right (nat_le at k) (nat_lt k (at + length new)) (le-ltb k (at + length new) high))))
      (cases_lt k (at + length new)))
      (cases_lt k at)

-- ---- another size

module _ (content : List ℕ) (size : ℕ) where
  first_bytes : (k : ℕ) → k < size → slice_index (resized content size) k ≡ slice_index content k
  first_bytes k low = zeros_past (take size content) (size - length content) k ∙ get_or-take size content k 0 low

  no_bytes : (k : ℕ) → size ≤ k → slice_index (resized content size) k ≡ 0
  no_bytes k high = zeros_past (take size content) (size - length content) k ∙ get_or_past (take size content) k 0 (let len = length-take size content in omega arith)

  pub resized_bytes : (k : ℕ) → slice_index (resized content size) k ≡ cond (nat_lt k size) (slice_index content k) 0
  resized_bytes k = ⊎_elim
      (λ (low : k < size). first_bytes k low ∙ sym (cond-true _ _ _ (lt-ltb k size low)))
      (λ (high : size ≤ k). no_bytes k high ∙ sym (cond-false _ _ _ (le-ltb k size high)))
      (cases_lt k size)

  pub resized_length : length (resized content size) ≡ size
  resized_length =
      let one = length-append (take size content) (zeros (size - length content)) in
      let two = length-take size content in
      let three = length-replicate {A = ℕ} (size - length content) 0 in
      omega arith

  -- no less than it was
  pub longer_bytes : length content ≤ size → (k : ℕ) → slice_index (resized content size) k ≡ slice_index content k
  longer_bytes long k = ⊎_elim
      (λ (low : k < size). first_bytes k low)
      (λ (high : size ≤ k). no_bytes k high ∙ sym (get_or_past content k 0 (omega arith)))
      (cases_lt k size)

-- ---- absent blocks

-- a byte of a file whose block is absent is zero
pub absent_zeros : (g : Request) (content : List ℕ) (present : List Bool) → IsFile g content present
    → (k : ℕ) → list_any (λ i. i == k / g.block_size) (indices_of g (file content present)) ≡ false → slice_index content k ≡ 0
absent_zeros g content present rules k absent = rules.absent_zero k (⊎_elim
    (λ (set : slice_index_or present (k / g.block_size) false ≡ true).
    absurd (false≢true (sym absent ∙ among_index (indices_of g (file content present)) (k / g.block_size) (is_in_marked present (k / g.block_size) set))))
    (λ unset. unset)
    (cases_Bool (slice_index_or present (k / g.block_size) false)))
