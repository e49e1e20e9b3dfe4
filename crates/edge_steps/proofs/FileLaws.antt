-- A tree in which a file has other bytes is a tree; the files that writing and cutting leave keep the rules of a file.
use Rattle.std.proofs.Common.{◌≡◌, ℕ, zero, suc, ◌+◌, ◌-◌, ◌*◌, ◌/◌, ◌<◌, ◌≤◌, ◌||◌, Bool, true, false, max, List, [], ◌∷◌, ◌++◌, length, take, drop, map, replicate, get_or, slice_index, is_some, ⊎_elim, Option, Some, refl, sym, ap, ◌∙◌, arith, append_assoc, length-append, length-take, length-take-le, length-drop}
use Rattle.std.specs.List.{All, range_with_len}
use Rattle.std.proofs.lemmas.Bool.{false≢true, cases_eq, cases_lt, or_parts, and_cases, leb-false}
use Rattle.std.proofs.lemmas.List.{length-replicate, get_or-take, get_or-drop, get_or_past, get_or_append_left, get_or-append-add}
use Rattle.std.proofs.lemmas.List.Elements.{All-append, All-take, All-drop, All-replicate, All-nil}
use Rattle.std.proofs.lemmas.List.FromFn.{length-map-range_with_len}
use Rattle.std.proofs.Math.Nat.{le-div_iff_mul-le, div-lt_iff_lt-mul}
use Rattle.edge_base.specs.declared.geometry.Request.{Request}
use Rattle.edge_base.specs.layout.Places.{max_size_of}
use Rattle.edge_base.specs.tree.Slots.{Entry, pieces}
use Rattle.edge_base.specs.tree.Nodes.{Node, file, directory}
use Rattle.edge_base.specs.tree.NodeRules.{IsFile}
use Rattle.edge_model.specs.Tree.{Tree, is_directory, with_node}
use Rattle.edge_model.specs.Files.{is_marked, flags_for, put_at, first_touched, last_touched, is_touched, resized}
use Rattle.edge_model.specs.Rules.{IsTree}
use Rattle.edge_steps.proofs.SlotLaws.{slot_in}
use Rattle.edge_steps.proofs.CountLaws.{slot_at, SameSlots, same_names, named_slot, slot_names}
use Rattle.edge_steps.proofs.NodeLaws.{node_set, base_of, base_set, is_there, is_a_directory, file_is, slots_others}
use Rattle.edge_steps.proofs.MakeLaws.{slots_of, still_reached, names_stay}

-- ---- in the tree

pub filed_tree : (g : Request) (t : Tree) (n : ℕ) (content : List ℕ) (present : List Bool) → IsTree g t → is_some (t n) ≡ true → is_directory t n ≡ false → IsFile g content present → IsTree g (with_node t n (Some (file content present)))
filed_tree g t n content present tree there kind good =
    let u = with_node t n (Some (file content present)) in
    let own = node_set t n (Some (file content present)) in
    let was = file_is t n there kind in
    let top : n ≡ 2 → ⊥ = λ is. false≢true (sym kind ∙ ap (λ m. is_directory t m) is ∙ is_a_directory t 2 tree.root.0 0 tree.root.1) in
    let now = base_set g t u n (file content present) (base_of g t tree) own (tree.in_range n there) (λ is. absurd (top is)) good in
    let same : SameSlots t u = record {
      same = λ x j. ⊎_elim
          (λ (is : x ≡ n). ap (λ y. slot_at u y j) is ∙ ap (λ (o : Option Node). slot_in (slots_of o) j) own.here ∙ sym (ap (λ y. slot_at t y j) is ∙ ap (λ (o : Option Node). slot_in (slots_of o) j) was.2))
          (λ (other : x ≡ n → ⊥). ap (λ s. slot_in s j) (slots_others t u n (Some (file content present)) x own other))
          (cases_eq x n);
    } in
    let stays : (x : ℕ) → is_some (u x) ≡ is_some (t x) = λ x. ⊎_elim
    (λ (is : x ≡ n). ap (λ y. is_some (u y)) is ∙ is_there u n (file content present) own.here ∙ sym (ap (λ y. is_some (t y)) is ∙ there))
    (λ (other : x ≡ n → ⊥). ap (λ (o : Option Node). is_some o) (own.others x other))
    (cases_eq x n) in
    let more : (x j : ℕ) (f : Entry) → slot_at t x j ≡ Some f → slot_at u x j ≡ Some f = λ x j f h. same.same x j ∙ h in
    record {
      in_range = now.in_range;
      root = now.root;
      nodes = now.nodes;
      named = λ x m names. let old = tree.named x m (slot_names t x names.slot m names.entry (sym (same.same x names.slot) ∙ named_slot u x m names) names.number_is) in (stays m ∙ old.0, old.1);
      reached = λ m here. still_reached t u more m (tree.reached m (sym (stays m) ∙ here));
      links = λ m bytes flags is.
          let old = ⊎_elim
          (λ (is_n : m ≡ n). tree.links m was.0 was.1 (ap t is_n ∙ was.2))
          (λ (other : m ≡ n → ⊥). tree.links m bytes flags (sym (own.others m other) ∙ is))
          (cases_eq m n) in
          let count = same_names g t u m same in
          (omega arith, omega arith);
      one_name = λ m slots parent is low.
          let other : m ≡ n → ⊥ = λ is_n. absurd {A = ⊥} (let wrong : Some (file content present) ≡ Some (directory slots parent) = sym own.here ∙ ap u (sym is_n) ∙ is in cc) in
          let old = tree.one_name m slots parent (sym (own.others m other) ∙ is) low in
          (same_names g t u m same ∙ old.0, names_stay t u more parent m old.1);
    }

-- ---- bytes

abbrev zeros : ℕ → List ℕ
zeros n = replicate n 0

length_zeros : (n : ℕ) → length (zeros n) ≡ n
length_zeros n = length-replicate {A = ℕ} n 0

zeros_get : (m q : ℕ) → get_or (zeros m) q 0 ≡ 0
zeros_get zero q = refl
zeros_get (suc m) zero = refl
zeros_get (suc m) (suc q) = zeros_get m q

-- zeros at the end read as what is past the end
zeros_past : (xs : List ℕ) (m q : ℕ) → get_or (xs ++ zeros m) q 0 ≡ get_or xs q 0
zeros_past [] m q = zeros_get m q
zeros_past (x ∷ xs) m zero = refl
zeros_past (x ∷ xs) m (suc q) = zeros_past xs m q

front_length : (content : List ℕ) (at : ℕ) → length (take at (content ++ zeros (at - length content))) ≡ at
front_length content at = length-take-le at (content ++ zeros (at - length content)) (let whole = length-append content (zeros (at - length content)) in let rest = length_zeros (at - length content) in omega arith)

pub put_length : (content : List ℕ) (at : ℕ) (new : List ℕ) → length (put_at content at new) ≡ max (length content) (at + length new)
put_length content at new =
    let front = take at (content ++ zeros (at - length content)) in
    let one = front_length content at in
    let two = length-append (front ++ new) (drop (at + length new) content) in
    let three = length-append front new in
    let four = length-drop (at + length new) content in
    omega arith

put_low : (content : List ℕ) (at : ℕ) (new : List ℕ) (j : ℕ) → j < at → slice_index (put_at content at new) j ≡ slice_index content j
put_low content at new j low =
    let front = take at (content ++ zeros (at - length content)) in
    ap (λ xs. get_or xs j 0) (append_assoc front new (drop (at + length new) content))
    ∙ get_or_append_left front (new ++ drop (at + length new) content) 0 j (let len = front_length content at in omega arith)
    ∙ get_or-take at (content ++ zeros (at - length content)) j 0 low
    ∙ zeros_past content (at - length content) j

put_high : (content : List ℕ) (at : ℕ) (new : List ℕ) (j : ℕ) → at + length new ≤ j → slice_index (put_at content at new) j ≡ slice_index content j
put_high content at new j high =
    let front = take at (content ++ zeros (at - length content)) in
    let rest = drop (at + length new) content in
    let m = j - (at + length new) in
    let len = front_length content at in
    let one : j ≡ length front + (length new + m) = omega arith in
    let two : at + length new + m ≡ j = omega arith in
    ap (λ xs. get_or xs j 0) (append_assoc front new rest)
    ∙ ap (λ q. get_or (front ++ (new ++ rest)) q 0) one
    ∙ get_or-append-add front (new ++ rest) (length new + m) 0
    ∙ get_or-append-add new rest m 0
    ∙ get_or-drop (at + length new) content m 0
    ∙ ap (λ q. get_or content q 0) two

abbrev IsBytes : List ℕ → Type 0
IsBytes xs = All (λ byte. byte < 256) xs

zero_bytes : (n : ℕ) → IsBytes (zeros n)
zero_bytes n = All-replicate (λ byte. byte < 256) n 0 (omega arith)

put_bytes : (content : List ℕ) (at : ℕ) (new : List ℕ) → IsBytes content → IsBytes new → IsBytes (put_at content at new)
put_bytes content at new old more =
    let P = λ (byte : ℕ). byte < 256 in
    let front = take at (content ++ zeros (at - length content)) in
    All-append P (front ++ new) (drop (at + length new) content)
    (All-append P front new (All-take P at (content ++ zeros (at - length content)) (All-append P content (zeros (at - length content)) old (zero_bytes (at - length content)))) more)
    (All-drop P (at + length new) content old)

resized_length : (content : List ℕ) (size : ℕ) → length (resized content size) ≡ size
resized_length content size =
    let one = length-append (take size content) (zeros (size - length content)) in
    let two = length-take size content in
    let three = length_zeros (size - length content) in
    omega arith

resized_low : (content : List ℕ) (size j : ℕ) → j < size → slice_index (resized content size) j ≡ slice_index content j
resized_low content size j low = zeros_past (take size content) (size - length content) j ∙ get_or-take size content j 0 low

-- ---- flags

flag_of : (test : ℕ → Bool) (a n j : ℕ) → j < n → get_or (map test (range_with_len a n)) j false ≡ test (a + j)
flag_of test a zero j low = absurd (omega arith)
flag_of test a (suc n) zero low = ap test (omega arith)
flag_of test a (suc n) (suc j) low = flag_of test (a + 1) n j (omega arith) ∙ ap test (omega arith)

flag_at : (test : ℕ → Bool) (n j : ℕ) → j < n → get_or (map test (range_with_len 0 n)) j false ≡ test j
flag_at test n j low = flag_of test 0 n j low ∙ ap test (omega arith)

pub in_piece : (n count k : ℕ) → 0 < n → k < count → k / n < pieces n count
in_piece n count k some low = (div-lt_iff_lt-mul some).1 (let whole : count ≤ pieces n count * n = all_in n count some in omega arith)
  where
    all_in : (n count : ℕ) → 0 < n → count ≤ pieces n count * n
    all_in n count some =
        let q = pieces n count in
        let high : (count + (n - 1)) / n < q + 1 = omega arith in
        let below = (div-lt_iff_lt-mul some).0 high in
        omega arith

-- a file with flags by a test, where what is not flagged is zero
pub flagged_file : (g : Request) (content : List ℕ) (size : ℕ) (test : ℕ → Bool) → 0 < g.block_size → IsBytes content → length content ≡ size → size ≤ max_size_of g → ((k : ℕ) → k < size → test (k / g.block_size) ≡ false → slice_index content k ≡ 0) → IsFile g content (flags_for g size test)
flagged_file g content size test some bytes is fits zero_there = record {
  bytes = bytes;
  size = omega arith;
  flags = length-map-range_with_len test 0 (pieces g.block_size size) ∙ ap (pieces g.block_size) (sym is);
  absent_zero = λ k unset. ⊎_elim
      (λ (low : k < size). zero_there k low (sym (flag_at test (pieces g.block_size size) (k / g.block_size) (in_piece g.block_size size k some low)) ∙ unset))
      (λ (high : size ≤ k). get_or_past content k 0 (omega arith))
      (cases_lt k size);
}

div_le : (n a b : ℕ) → 0 < n → a ≤ b → a / n ≤ b / n
div_le n a b some h = let low : a / n * n ≤ a = (le-div_iff_mul-le some).0 (omega arith) in (le-div_iff_mul-le some).1 (omega arith)

pub written_file : (g : Request) (content : List ℕ) (present : List Bool) (at : ℕ) (new : List ℕ) → 0 < g.block_size → IsFile g content present → IsBytes new → at + length new ≤ max_size_of g
    → IsFile g (put_at content at new) (flags_for g (max (length content) (at + length new)) (λ i. is_marked present i || is_touched g at (length new) i))
written_file g content present at new some old bytes fits =
    flagged_file g (put_at content at new) (max (length content) (at + length new)) (λ i. is_marked present i || is_touched g at (length new) i) some
    (put_bytes content at new old.bytes bytes) (put_length content at new) (let size = old.size in omega arith)
    (λ k low unset.
    let both = or_parts (is_marked present (k / g.block_size)) (is_touched g at (length new) (k / g.block_size)) unset in
    let zero_was = old.absent_zero k both.0 in
    ⊎_elim
    (λ (before : k < at). put_low content at new k before ∙ zero_was)
    (λ (from : at ≤ k). ⊎_elim
    (λ (inside : k < at + length new). absurd (⊎_elim
    (λ less. let one = leb-false (first_touched g at) (k / g.block_size) less in let two = div_le g.block_size at k some from in absurd {A = ⊥} (omega arith))
    (λ less. let one = leb-false (k / g.block_size) (last_touched g at (length new)) less in let two = div_le g.block_size k (at + length new - 1) some (omega arith) in absurd {A = ⊥} (omega arith))
    (and_cases _ _ both.1)))
    (λ (after : at + length new ≤ k). put_high content at new k after ∙ zero_was)
    (cases_lt k (at + length new)))
    (cases_lt k at))

pub resized_file : (g : Request) (content : List ℕ) (present : List Bool) (size : ℕ) → 0 < g.block_size → IsFile g content present → size ≤ max_size_of g → IsFile g (resized content size) (flags_for g size (is_marked present))
resized_file g content present size some old fits =
    flagged_file g (resized content size) size (is_marked present) some
    (All-append (λ byte. byte < 256) (take size content) (zeros (size - length content)) (All-take (λ byte. byte < 256) size content old.bytes) (zero_bytes (size - length content)))
    (resized_length content size) fits
    (λ k low unset. resized_low content size k low ∙ old.absent_zero k unset)

pub empty_file : (g : Request) → 0 < g.block_size → IsFile g [] []
empty_file g some = record {
  bytes = All-nil (λ byte. byte < 256);
  size = omega arith;
  flags = sym (none_in g.block_size some);
  absent_zero = λ k unset. refl;
}
  where
    none_in : (n : ℕ) → 0 < n → pieces n 0 ≡ 0
    none_in n more = let few : (0 + (n - 1)) / n < 1 = (div-lt_iff_lt-mul more).1 (omega arith) in omega arith
