-- How many slots and blocks a directory has after a name is placed or cleared, and which blocks flags mark.
use Rattle.std.proofs.Common.{◌≡◌, ℕ, zero, suc, ◌+◌, ◌-◌, ◌*◌, ◌/◌, ◌<◌, ◌≤◌, Bool, true, false, cond, List, [], ◌∷◌, length, take, drop, map, slice_set, slice_index_or, ◌⊎◌, inl, inr, ⊎_elim, Option, Some, None, refl, sym, ap, ◌∙◌, subst, arith, length-append, length-take-le, length-drop, length-set}
use Rattle.std.specs.List.{range_with_len}
use Rattle.std.proofs.lemmas.Bool.{false≢true, cases_order}
use Rattle.std.proofs.Math.Nat.{div-zero, le-div_iff_mul-le, eq-zero-or-pos}
use Rattle.std.specs.Str.{bytes_eq}
use Rattle.edge_base.specs.declared.geometry.Request.{Request}
use Rattle.edge_base.specs.tree.Slots.{Entry, Slots, pieces, slots_in_block, slot_blocks, trimmed}
use Rattle.edge_base.specs.commands.Descriptors.{first_empty, first_empty_from}
use Rattle.edge_base.specs.tree.Nodes.{marked_from}
use Rattle.edge_model.specs.Named.{with_slot, without_slot}
use Rattle.edge_model.specs.Walk.{Found, find_from}
use Rattle.edge_model.proofs.Members.{IsAmong}

-- ---- pieces

some_pieces : (n count i : ℕ) → i < pieces n count → 0 < n
some_pieces n count i h = ⊎_elim
    (λ (e : n ≡ 0). absurd (let none : pieces n count ≡ 0 = ap (λ m. (count + (n - 1)) / m) e ∙ div-zero (count + (n - 1)) in omega arith))
    (λ h. h)
    (eq-zero-or-pos n)

-- piece i is there exactly where something is past the pieces before it
pub piece_starts : (n count i : ℕ) → i < pieces n count → i * n < count
piece_starts n count i h =
    let some = some_pieces n count i h in
    let full : (i + 1) * n ≤ count + (n - 1) = (le-div_iff_mul-le some).0 (omega arith) in
    omega arith

pub piece_there : (n count i : ℕ) → 0 < n → i * n < count → i < pieces n count
piece_there n count i some h =
    let there : i + 1 ≤ (count + (n - 1)) / n = (le-div_iff_mul-le some).1 (omega arith) in
    omega arith

pub more_pieces : (n a b i : ℕ) → a ≤ b → i < pieces n a → i < pieces n b
more_pieces n a b i le h = let start = piece_starts n a i h in piece_there n b i (some_pieces n a i h) (omega arith)

pub no_pieces : (n i : ℕ) → i < pieces n 0 → ⊥
no_pieces n i h = let start = piece_starts n 0 i h in omega arith

-- one more at the end adds at most the piece that it is in
pub piece_added : (n count i : ℕ) → i < pieces n (count + 1) → (i < pieces n count) ⊎ (i ≡ count / n)
piece_added n count i h =
    let some = some_pieces n (count + 1) i h in
    let start = piece_starts n (count + 1) i h in
    let within : i ≤ count / n = (le-div_iff_mul-le some).1 (omega arith) in
    ⊎_elim
    (λ (e : i ≡ count / n). inr e)
    (λ k. ⊎_elim
    (λ (low : i < count / n).
    let full : (i + 1) * n ≤ count = (le-div_iff_mul-le some).0 (omega arith) in
    inl (piece_there n count i some (omega arith)))
    (λ (high : count / n < i). absurd (omega arith))
    k)
    (cases_order i (count / n))

-- ---- placing a name

pub length-with_slot : (slots : Slots) (i : ℕ) (e : Entry) → i ≤ length slots → (length (with_slot slots i e) ≡ length slots) ⊎ ((length (with_slot slots i e) ≡ length slots + 1) × (i ≡ length slots))
length-with_slot slots i e h =
    let whole = length-append (take i slots) (Some e ∷ drop (i + 1) slots) in
    let front = length-take-le i slots h in
    let back = length-drop (i + 1) slots in
    ⊎_elim
    (λ (same : i ≡ length slots). inr ((omega arith), same))
    (λ k. ⊎_elim (λ (low : i < length slots). inl (omega arith)) (λ (high : length slots < i). absurd (omega arith)) k)
    (cases_order i (length slots))

-- the blocks are those that were there, and the slot's
pub placed_blocks : (g : Request) (slots : Slots) (slot : ℕ) (e : Entry) (i : ℕ) → slot ≤ length slots → i < slot_blocks g (with_slot slots slot e) → (i < slot_blocks g slots) ⊎ (i ≡ slot / slots_in_block g)
placed_blocks g slots slot e i within h = ⊎_elim
    (λ same. inl (subst (λ n. i < pieces (slots_in_block g) n) same h))
    (λ (more : (length (with_slot slots slot e) ≡ length slots + 1) × (slot ≡ length slots)).
    subst (λ n. (i < slot_blocks g slots) ⊎ (i ≡ n / slots_in_block g)) (sym more.1) (piece_added (slots_in_block g) (length slots) i (subst (λ n. i < pieces (slots_in_block g) n) more.0 h)))
    (length-with_slot slots slot e within)

-- ---- clearing a name

trimmed_more : (slots rest : Slots) → trimmed slots ≡ rest → length (trimmed (None ∷ slots)) ≤ length rest + 1
trimmed_more slots [] e = rw e (omega arith)
trimmed_more slots (slot ∷ rest) e = rw e (omega arith)

length-trimmed : (slots : Slots) → length (trimmed slots) ≤ length slots
length-trimmed [] = omega arith
length-trimmed (Some e ∷ slots) = let rest = length-trimmed slots in omega arith
length-trimmed (None ∷ slots) = let rest = length-trimmed slots in let more = trimmed_more slots (trimmed slots) refl in omega arith

-- no block is added
pub cleared_blocks : (g : Request) (slots : Slots) (slot i : ℕ) → i < slot_blocks g (without_slot slots slot) → i < slot_blocks g slots
cleared_blocks g slots slot i h =
    let trims = length-trimmed (slice_set slots slot None) in
    let same = length-set slots slot None in
    more_pieces (slots_in_block g) (length (without_slot slots slot)) (length slots) i (omega arith) h

-- ---- where slots are

empty_within : {A : Type 0} (i : ℕ) (places : List (Option A)) → first_empty_from i places ≤ i + length places
empty_within i [] = omega arith
empty_within i (None ∷ places) = omega arith
empty_within i (Some x ∷ places) = let rest = empty_within (i + 1) places in omega arith

pub first_empty_within : (slots : Slots) → first_empty slots ≤ length slots
first_empty_within slots = let h = empty_within 0 slots in omega arith

none_some : (x : Found) → None ≡ Some x → ⊥
none_some x h = cc

same_slot : (x y : Found) → Some x ≡ Some y → x.slot ≡ y.slot
same_slot x y e = cc

by_test : (b : Bool) (x found : Found) (rest : Option Found) (most : ℕ) → x.slot ≤ most → (rest ≡ Some found → found.slot ≤ most) → cond b (Some x) rest ≡ Some found → found.slot ≤ most
by_test true x found rest most here later h = let at = same_slot x found h in omega arith
by_test false x found rest most here later h = later h

found_from : (i : ℕ) (name : List ℕ) (slots : Slots) (found : Found) → find_from i name slots ≡ Some found → found.slot ≤ i + length slots
found_from i name [] found h = absurd (none_some found h)
found_from i name (None ∷ slots) found h = let rest = found_from (i + 1) name slots found h in omega arith
found_from i name (Some e ∷ slots) found h = by_test (bytes_eq e.name name) (record { slot = i; number = e.number }) found (find_from (i + 1) name slots) (i + suc (length slots)) (omega arith)
    (λ later. let rest = found_from (i + 1) name slots found later in omega arith) h

pub found_within : (name : List ℕ) (slots : Slots) (found : Found) → find_from 0 name slots ≡ Some found → found.slot ≤ length slots
found_within name slots found h = let k = found_from 0 name slots found h in omega arith

-- ---- flags

-- a marked index passes the test that made the flags
pub marked_passes : (test : ℕ → Bool) (a n i : ℕ) → IsAmong (marked_from a (map test (range_with_len a n))) i → test i ≡ true
marked_passes test a zero i h = elim h [ ]
marked_passes test a (suc n) i h =
    elim (test a) as (λ b. test a ≡ b → IsAmong (marked_from a (b ∷ map test (range_with_len (a + 1) n))) i → test i ≡ true) [
      | true ↦ λ passes k. ⊎_elim (λ same. ap test same ∙ passes) (λ later. marked_passes test (a + 1) n i later) k
      | false ↦ λ fails k. marked_passes test (a + 1) n i k
    ] refl h

-- an index whose flag is set is marked
marked_at : (flags : List Bool) (a i : ℕ) → slice_index_or flags i false ≡ true → IsAmong (marked_from a flags) (a + i)
marked_at [] a i h = absurd (false≢true h)
marked_at (true ∷ flags) a zero h = inl (omega arith)
marked_at (false ∷ flags) a zero h = absurd (false≢true h)
marked_at (true ∷ flags) a (suc i) h = inr (let same : a + 1 + i ≡ a + suc i = omega arith in subst (IsAmong (marked_from (a + 1) flags)) same (marked_at flags (a + 1) i h))
marked_at (false ∷ flags) a (suc i) h = let same : a + 1 + i ≡ a + suc i = omega arith in subst (IsAmong (marked_from (a + 1) flags)) same (marked_at flags (a + 1) i h)

pub is_in_marked : (flags : List Bool) (i : ℕ) → slice_index_or flags i false ≡ true → IsAmong (marked_from 0 flags) i
is_in_marked flags i h = let same : 0 + i ≡ i = omega arith in subst (IsAmong (marked_from 0 flags)) same (marked_at flags 0 i h)

marked_is : (flags : List Bool) (a i : ℕ) → IsAmong (marked_from a flags) i → (j : ℕ) × (i ≡ a + j) × (j < length flags) × (slice_index_or flags j false ≡ true)
marked_is [] a i h = elim h [ ]
marked_is (true ∷ flags) a i (inl e) = (0, omega arith, omega arith, refl)
marked_is (true ∷ flags) a i (inr h) = let r = marked_is flags (a + 1) i h in (suc r.0, omega arith, omega arith, r.3)
marked_is (false ∷ flags) a i h = let r = marked_is flags (a + 1) i h in (suc r.0, omega arith, omega arith, r.3)

-- a marked index has its flag set
pub is_marked_in : (flags : List Bool) (i : ℕ) → IsAmong (marked_from 0 flags) i → (i < length flags) × (slice_index_or flags i false ≡ true)
is_marked_in flags i h =
    let r = marked_is flags 0 i h in
    let same : r.0 ≡ i = omega arith in
    (omega arith, subst (λ j. slice_index_or flags j false ≡ true) same r.3)

-- an index that passes the test is marked
pub passes_marked : (test : ℕ → Bool) (a n i : ℕ) → a ≤ i → i < a + n → test i ≡ true → IsAmong (marked_from a (map test (range_with_len a n))) i
passes_marked test a zero i low high h = absurd (omega arith)
passes_marked test a (suc n) i low high h =
    let later = λ (k : (i < a) ⊎ (a < i)). passes_marked test (a + 1) n i (let above : a < i = omega arith in omega arith) (omega arith) h in
    elim (test a) as (λ b. test a ≡ b → IsAmong (marked_from a (b ∷ map test (range_with_len (a + 1) n))) i) [
      | true ↦ λ here. ⊎_elim (λ (same : i ≡ a). inl same) (λ k. inr (later k)) (cases_order i a)
      | false ↦ λ none. ⊎_elim (λ (same : i ≡ a). absurd (false≢true (sym none ∙ ap test (sym same) ∙ h))) later (cases_order i a)
    ] refl
