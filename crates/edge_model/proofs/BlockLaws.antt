-- What a change of slots or bytes leaves in the blocks that it does not touch.
use Rattle.std.proofs.Common.{◌≡◌, ℕ, zero, suc, ◌+◌, ◌-◌, ◌*◌, ◌/◌, ◌<◌, ◌≤◌, true, List, [], ◌∷◌, ◌++◌, length, take, drop, replicate, flat_map, slice_get, slice_set, ◌⊎◌, ⊎_elim, Some, None, All, refl, sym, ap, ◌∙◌, subst, arith, append_assoc, length-append, length-take-le, length-take, leb-true}
use Rattle.std.proofs.lemmas.Bool.{cases_order, and_parts}
use Rattle.std.proofs.lemmas.List.{length-replicate, replicate-append-replicate, drop-replicate}
use Rattle.std.proofs.lemmas.List.Concat.{flat_map-append}
use Rattle.std.proofs.lemmas.List.Elements.{All-head, All-tail}
use Rattle.std.proofs.Math.Nat.{div-mul-le_self, mul-le-mul_right, le-div_iff_mul-le}
use Rattle.byteorder.specs.Endian.{little_bytes}
use Rattle.edge_base.specs.declared.geometry.Request.{Request}
use Rattle.edge_base.specs.tree.Slots.{Entry, Slots, slots_in_block, slot_bytes, slots_of_block, trimmed, is_name}
use Rattle.edge_base.specs.tree.Nodes.{padded}
use Rattle.edge_base.specs.tree.NodeRules.{IsEntry, IsDirectory, entries_of_slots}
use Rattle.edge_model.specs.Named.{with_slot, without_slot}

-- ---- lists by their elements

pub get_drop : {A : Type 0} (n : ℕ) (xs : List A) (j : ℕ) → slice_get (drop n xs) j ≡ slice_get xs (n + j)
get_drop zero xs j = let same : j ≡ 0 + j = omega arith in ap (slice_get xs) same
get_drop (suc n) [] j = refl
get_drop (suc n) (x ∷ xs) j = get_drop n xs j ∙ (let same : suc (n + j) ≡ suc n + j = omega arith in ap (slice_get (x ∷ xs)) same)

get_take : {A : Type 0} (n : ℕ) (xs : List A) (j : ℕ) → j < n → slice_get (take n xs) j ≡ slice_get xs j
get_take zero xs j h = absurd (omega arith)
get_take (suc n) [] j h = refl
get_take (suc n) (x ∷ xs) zero h = refl
get_take (suc n) (x ∷ xs) (suc j) h = get_take n xs j (omega arith)

get_front : {A : Type 0} (xs ys : List A) (j : ℕ) → j < length xs → slice_get (xs ++ ys) j ≡ slice_get xs j
get_front [] ys j h = absurd (omega arith)
get_front (x ∷ xs) ys zero h = refl
get_front (x ∷ xs) ys (suc j) h = get_front xs ys j (omega arith)

get_back : {A : Type 0} (xs ys : List A) (j k : ℕ) → k ≡ length xs + j → slice_get (xs ++ ys) k ≡ slice_get ys j
get_back [] ys j k e = let same : k ≡ j = omega arith in ap (slice_get ys) same
get_back (x ∷ xs) ys j zero e = absurd (omega arith)
get_back (x ∷ xs) ys j (suc k) e = get_back xs ys j k (omega arith)

get_set_other : {A : Type 0} (xs : List A) (i : ℕ) (x : A) (j : ℕ) → (j ≡ i → ⊥) → slice_get (slice_set xs i x) j ≡ slice_get xs j
get_set_other [] i x j ne = refl
get_set_other (y ∷ ys) zero x zero ne = absurd (ne refl)
get_set_other (y ∷ ys) zero x (suc j) ne = refl
get_set_other (y ∷ ys) (suc i) x zero ne = refl
get_set_other (y ∷ ys) (suc i) x (suc j) ne = get_set_other ys i x j (λ e. ne (ap suc e))

none_is_some : {A : Type 0} (x : A) → None ≡ Some x → ⊥
none_is_some x e = cc

same_some : {A : Type 0} (x y : A) → Some x ≡ Some y → x ≡ y
same_some x y e = cc

take_same : {A : Type 0} (k : ℕ) (xs ys : List A) → ((j : ℕ) → j < k → slice_get xs j ≡ slice_get ys j) → take k xs ≡ take k ys
take_same zero xs ys h = refl
take_same (suc k) [] [] h = refl
take_same (suc k) [] (y ∷ ys) h = absurd (none_is_some y (h 0 (omega arith)))
take_same (suc k) (x ∷ xs) [] h = absurd (none_is_some x (sym (h 0 (omega arith))))
take_same (suc k) (x ∷ xs) (y ∷ ys) h = λ i. same_some x y (h 0 (omega arith)) i ∷ take_same k xs ys (λ j low. h (suc j) (omega arith)) i

-- lists that agree from a on, for k elements
window_same : {A : Type 0} (a k : ℕ) (xs ys : List A) → ((j : ℕ) → a ≤ j → j < a + k → slice_get xs j ≡ slice_get ys j) → take k (drop a xs) ≡ take k (drop a ys)
window_same a k xs ys h = take_same k (drop a xs) (drop a ys) (λ j low. get_drop a xs j ∙ h (a + j) (omega arith) (omega arith) ∙ sym (get_drop a ys j))

-- ---- placing and clearing a slot

with_slot_other : (slots : Slots) (slot : ℕ) (e : Entry) (j : ℕ) → slot ≤ length slots → (j ≡ slot → ⊥) → slice_get (with_slot slots slot e) j ≡ slice_get slots j
with_slot_other slots slot e j in_slots ne =
    let front = length-take-le slot slots in_slots in
    ⊎_elim
    (λ (same : j ≡ slot). absurd (ne same))
    (λ k. ⊎_elim
    (λ (low : j < slot). get_front (take slot slots) (Some e ∷ drop (slot + 1) slots) j (omega arith) ∙ get_take slot slots j low)
    (λ (high : slot < j).
    get_back (take slot slots) (Some e ∷ drop (slot + 1) slots) (suc (j - slot - 1)) j (omega arith)
    ∙ get_drop (slot + 1) slots (j - slot - 1)
    ∙ (let same : slot + 1 + (j - slot - 1) ≡ j = omega arith in ap (slice_get slots) same))
    k)
    (cases_order j slot)

pub at_most : (a b : ℕ) → (a ≤ b) ⊎ (b < a)
at_most a b = grind arith

pub quotient : (k slot i : ℕ) → i * k ≤ slot → slot < i * k + k → slot / k ≡ i
quotient k slot i low high =
    let some : 0 < k = omega arith in
    let under : i ≤ slot / k = (le-div_iff_mul-le some).1 low in
    let full : slot / k * k ≤ slot = div-mul-le_self slot k in
    ⊎_elim
    (λ (le : slot / k ≤ i). omega arith)
    (λ (gt : i < slot / k). absurd (let more : (i + 1) * k ≤ slot / k * k = mul-le-mul_right k (omega arith) in omega arith))
    (at_most (slot / k) i)

-- a slot of another block is not in block i
other_block : (k slot i j : ℕ) → (i ≡ slot / k → ⊥) → i * k ≤ j → j < i * k + k → j ≡ slot → ⊥
other_block k slot i j ne low high same = ne (sym (quotient k slot i (omega arith) (omega arith)))

-- placing a name leaves the slots of the other blocks
pub placed_others : (g : Request) (slots : Slots) (slot : ℕ) (e : Entry) (i : ℕ) → slot ≤ length slots → (i ≡ slot / slots_in_block g → ⊥) → slots_of_block g (with_slot slots slot e) i ≡ slots_of_block g slots i
placed_others g slots slot e i in_slots ne =
    let k = slots_in_block g in
    window_same (i * k) k (with_slot slots slot e) slots (λ j low high. with_slot_other slots slot e j in_slots (other_block k slot i j ne low high))

set_others : (g : Request) (slots : Slots) (slot i : ℕ) → (i ≡ slot / slots_in_block g → ⊥) → slots_of_block g (slice_set slots slot None) i ≡ slots_of_block g slots i
set_others g slots slot i ne =
    let k = slots_in_block g in
    window_same (i * k) k (slice_set slots slot None) slots (λ j low high. get_set_other slots slot None j (other_block k slot i j ne low high))

-- ---- empty slots at the end

abbrev nones : ℕ → Slots
nones m = replicate m None

trimmed_none : (slots rest : Slots) (m : ℕ) → trimmed slots ≡ rest → slots ≡ rest ++ replicate m None → (n : ℕ) × (None ∷ slots ≡ trimmed (None ∷ slots) ++ replicate n None)
trimmed_none slots [] m e is = (suc m, rw e (ap (λ (s : Slots). None ∷ s) is))
trimmed_none slots (slot ∷ rest) m e is = (m, rw e (ap (λ (s : Slots). None ∷ s) is))

trimmed_rest : (slots : Slots) → (m : ℕ) × (slots ≡ trimmed slots ++ replicate m None)
trimmed_rest [] = (0, refl)
trimmed_rest (Some e ∷ slots) = let r = trimmed_rest slots in (r.0, ap (λ (s : Slots). Some e ∷ s) r.1)
trimmed_rest (None ∷ slots) = let r = trimmed_rest slots in trimmed_none slots (trimmed slots) r.0 refl r.1

take_nones : (k m : ℕ) → (n : ℕ) × (take k (nones m) ≡ nones n)
take_nones zero m = (0, refl)
take_nones (suc k) zero = (0, refl)
take_nones (suc k) (suc m) = let r = take_nones k m in (suc r.0, ap (λ (s : Slots). None ∷ s) r.1)

take_rest : (k : ℕ) (slots : Slots) (m : ℕ) → (n : ℕ) × (take k (slots ++ replicate m None) ≡ take k slots ++ replicate n None)
take_rest zero slots m = (0, refl)
take_rest (suc k) [] m = take_nones (suc k) m
take_rest (suc k) (slot ∷ slots) m = let r = take_rest k slots m in (r.0, ap (λ (s : Slots). slot ∷ s) r.1)

drop_rest : (a : ℕ) (slots : Slots) (m : ℕ) → (n : ℕ) × (drop a (slots ++ replicate m None) ≡ drop a slots ++ replicate n None)
drop_rest zero slots m = (m, refl)
drop_rest (suc a) [] m = (m - suc a, drop-replicate (suc a) m None)
drop_rest (suc a) (slot ∷ slots) m = drop_rest a slots m

-- a block of slots, with those that were cut off
window_rest : (g : Request) (slots : Slots) (i : ℕ) → (n : ℕ) × (slots_of_block g slots i ≡ slots_of_block g (trimmed slots) i ++ replicate n None)
window_rest g slots i =
    let k = slots_in_block g in
    let whole = trimmed_rest slots in
    let dropped = drop_rest (i * k) (trimmed slots) whole.0 in
    let taken = take_rest k (drop (i * k) (trimmed slots)) dropped.0 in
    (taken.0, ap (λ (s : Slots). take k (drop (i * k) s)) whole.1 ∙ ap (λ (s : Slots). take k s) dropped.1 ∙ taken.1)

-- ---- bytes

abbrev pub zeros : ℕ → List ℕ
zeros n = replicate n 0

pub length_zeros : (n : ℕ) → length (zeros n) ≡ n
length_zeros n = length-replicate n 0

none_bytes : (g : Request) (m : ℕ) → flat_map (slot_bytes g) (replicate m None) ≡ replicate (m * (4 + g.name_max)) 0
none_bytes g zero = let same : 0 ≡ 0 * (4 + g.name_max) = omega arith in ap (λ n. replicate n 0) same
none_bytes g (suc m) = ap (λ bytes. replicate (4 + g.name_max) 0 ++ bytes) (none_bytes g m) ∙ replicate-append-replicate (4 + g.name_max) (m * (4 + g.name_max)) 0
    ∙ (let same : 4 + g.name_max + m * (4 + g.name_max) ≡ suc m * (4 + g.name_max) = omega arith in ap (λ n. replicate n 0) same)

padded_zeros : (g : Request) (bytes : List ℕ) (z : ℕ) → length (bytes ++ replicate z 0) ≤ g.block_size → padded g (bytes ++ replicate z 0) ≡ padded g bytes
padded_zeros g bytes z fits =
    let len = length-append bytes (replicate z 0) in
    let many = length_zeros z in
    append_assoc bytes (replicate z 0) (replicate (g.block_size - length (bytes ++ replicate z 0)) 0)
    ∙ ap (λ rest. bytes ++ rest) (replicate-append-replicate z (g.block_size - length (bytes ++ replicate z 0)) 0
    ∙ (let same : z + (g.block_size - length (bytes ++ replicate z 0)) ≡ g.block_size - length bytes = omega arith in ap (λ n. replicate n 0) same))

-- the slots of a block fill no more than the block
abbrev pub IsWithinBlock : Request → Slots → Type 0
IsWithinBlock g slots = length (flat_map (slot_bytes g) slots) ≤ g.block_size

-- empty slots that are cut off leave the bytes of a block
pub trimmed_bytes : (g : Request) (slots : Slots) (i : ℕ) → IsWithinBlock g (slots_of_block g slots i) → padded g (flat_map (slot_bytes g) (slots_of_block g (trimmed slots) i)) ≡ padded g (flat_map (slot_bytes g) (slots_of_block g slots i))
trimmed_bytes g slots i fits =
    let r = window_rest g slots i in
    let front = flat_map (slot_bytes g) (slots_of_block g (trimmed slots) i) in
    let bytes : flat_map (slot_bytes g) (slots_of_block g slots i) ≡ front ++ replicate (r.0 * (4 + g.name_max)) 0 =
    ap (flat_map (slot_bytes g)) r.1 ∙ flat_map-append (slot_bytes g) (slots_of_block g (trimmed slots) i) (replicate r.0 None) ∙ ap (λ rest. front ++ rest) (none_bytes g r.0) in
    sym (ap (padded g) bytes ∙ padded_zeros g front (r.0 * (4 + g.name_max)) (subst (λ b. length b ≤ g.block_size) bytes fits))

-- clearing a name leaves the bytes of the other blocks
pub cleared_others : (g : Request) (slots : Slots) (slot i : ℕ) → IsWithinBlock g (slots_of_block g slots i) → (i ≡ slot / slots_in_block g → ⊥)
    → padded g (flat_map (slot_bytes g) (slots_of_block g (without_slot slots slot) i)) ≡ padded g (flat_map (slot_bytes g) (slots_of_block g slots i))
cleared_others g slots slot i fits ne =
    let same = set_others g slots slot i ne in
    trimmed_bytes g (slice_set slots slot None) i (subst (IsWithinBlock g) (sym same) fits) ∙ ap (λ s. padded g (flat_map (slot_bytes g) s)) same

-- ---- the slots of a directory fit their blocks

abbrev AreShort : Request → Slots → Type 0
AreShort g [] = Unit {0}
AreShort g (None ∷ slots) = AreShort g slots
AreShort g (Some e ∷ slots) = (length e.name ≤ g.name_max) × AreShort g slots

short_take : (g : Request) (n : ℕ) (slots : Slots) → AreShort g slots → AreShort g (take n slots)
short_take g zero slots h = tt
short_take g (suc n) [] h = tt
short_take g (suc n) (None ∷ slots) h = short_take g n slots h
short_take g (suc n) (Some e ∷ slots) h = (h.0, short_take g n slots h.1)

short_drop : (g : Request) (n : ℕ) (slots : Slots) → AreShort g slots → AreShort g (drop n slots)
short_drop g zero slots h = h
short_drop g (suc n) [] h = tt
short_drop g (suc n) (None ∷ slots) h = short_drop g n slots h
short_drop g (suc n) (Some e ∷ slots) h = short_drop g n slots h.1

slot_width : (g : Request) (e : Entry) → length e.name ≤ g.name_max → length (slot_bytes g (Some e)) ≡ 4 + g.name_max
slot_width g e h =
    let tail = length-append e.name (replicate (g.name_max - length e.name) 0) in
    let many = length_zeros (g.name_max - length e.name) in
    let four : length (little_bytes 4 e.number) ≡ 4 = refl in
    let whole = length-append (little_bytes 4 e.number) (e.name ++ replicate (g.name_max - length e.name) 0) in
    omega arith

slots_width : (g : Request) (slots : Slots) → AreShort g slots → length (flat_map (slot_bytes g) slots) ≡ length slots * (4 + g.name_max)
slots_width g [] h = omega arith
slots_width g (None ∷ slots) h =
    let rest = slots_width g slots h in
    let own = length_zeros (4 + g.name_max) in
    let whole = length-append (replicate (4 + g.name_max) 0) (flat_map (slot_bytes g) slots) in
    omega arith
slots_width g (Some e ∷ slots) h =
    let rest = slots_width g slots h.1 in
    let own = slot_width g e h.0 in
    let whole = length-append (slot_bytes g (Some e)) (flat_map (slot_bytes g) slots) in
    omega arith

name_short : (g : Request) (name : List ℕ) → is_name g name ≡ true → length name ≤ g.name_max
name_short g name h = leb-true (length name) g.name_max (and_parts _ _ h).1

short_from : (g : Request) (slots : Slots) → All (IsEntry g) (entries_of_slots slots) → AreShort g slots
short_from g [] h = tt
short_from g (None ∷ slots) h = short_from g slots h
short_from g (Some e ∷ slots) h = (name_short g e.name (All-head (IsEntry g) e (entries_of_slots slots) h).name, short_from g slots (All-tail (IsEntry g) e (entries_of_slots slots) h))

-- the slots of each block of a directory fit it
pub directory_fits : (g : Request) (slots : Slots) (i : ℕ) → IsDirectory g slots → IsWithinBlock g (slots_of_block g slots i)
directory_fits g slots i rules =
    let k = slots_in_block g in
    let short = short_take g k (drop (i * k) slots) (short_drop g (i * k) slots (short_from g slots rules.entries)) in
    let width = slots_width g (take k (drop (i * k) slots)) short in
    let few : length (take k (drop (i * k) slots)) ≤ k = (let is = length-take k (drop (i * k) slots) in omega arith) in
    let most : length (take k (drop (i * k) slots)) * (4 + g.name_max) ≤ k * (4 + g.name_max) = mul-le-mul_right (4 + g.name_max) few in
    let whole : k * (4 + g.name_max) ≤ g.block_size = div-mul-le_self g.block_size (4 + g.name_max) in
    omega arith
