-- The slots of a directory as they stand in its blocks.
use Rattle.std.proofs.Common.{◌≡◌, ◌∙◌, ℕ, zero, suc, ◌+◌, ◌-◌, ◌*◌, ◌/◌, ◌<◌, ◌≤◌, inl, inr, true, List, [], ◌∷◌, ◌++◌, length, take, drop, get_or, flat_map, replicate, Option, Some, None, refl, sym, ap, arith, append_assoc, length-append, length-take, length-drop, leb-true}
use Rattle.std.specs.Prelude.{slice_range, All, IfSome, slice_index_or}
use Rattle.std.proofs.lemmas.Bool.{cases_lt, and_parts}
use Rattle.std.proofs.lemmas.List.{length-replicate, drop-replicate, take-replicate, take_at, drop_at, drop-drop, get_or-take, get_or-drop, get_or_past, get_or-append_right, get_or-replicate}
use Rattle.std.proofs.lemmas.List.Elements.{All-head, All-tail}
use Rattle.std.proofs.Math.ListN.{get_or-eq_default}
use Rattle.std.proofs.Math.Nat.{div-mul-le_self, mul-le-mul_right}
use Rattle.byteorder.specs.Endian.{little_bytes}
use Rattle.byteorder.specs.Numbers.{length-bytes_low_first}
use Rattle.edge_base.specs.declared.geometry.Request.{Request}
use Rattle.edge_base.specs.tree.NodeRules.{IsEntry, IsDirectory, entries_of_slots}
use Rattle.edge_base.specs.tree.Nodes.{padded, block_of, directory}
use Rattle.edge_base.specs.tree.Slots.{Entry, Slots, is_name, slot_bytes, slots_in_block, slots_of_block}
use Rattle.edge_store.specs.Damages.{slot_in}

-- ---- the bytes of a list of slots

-- no name is too long
abbrev AreShort : Request → Slots → Type 0
AreShort g [] = Unit {0}
AreShort g (None ∷ slots) = AreShort g slots
AreShort g (Some e ∷ slots) = (length e.name ≤ g.name_max) × AreShort g slots

short_take : (g : Request) (n : ℕ) (slots : Slots) → AreShort g slots → AreShort g (take n slots)
short_take g zero slots h = tt
short_take g (suc n) [] h = tt
short_take g (suc n) (None ∷ slots) h = short_take g n slots h
short_take g (suc n) (Some e ∷ slots) h = (h.0, short_take g n slots h.1)

short_drop : (g : Request) (n : ℕ) (slots : Slots) → AreShort g slots → AreShort g (drop n slots)
short_drop g zero slots h = h
short_drop g (suc n) [] h = tt
short_drop g (suc n) (None ∷ slots) h = short_drop g n slots h
short_drop g (suc n) (Some e ∷ slots) h = short_drop g n slots h.1

pub name_short : (g : Request) (name : List ℕ) → is_name g name ≡ true → length name ≤ g.name_max
name_short g name h = leb-true (length name) g.name_max (and_parts _ _ h).1

short_from : (g : Request) (slots : Slots) → All (IsEntry g) (entries_of_slots slots) → AreShort g slots
short_from g [] h = tt
short_from g (None ∷ slots) h = short_from g slots h
short_from g (Some e ∷ slots) h = (name_short g e.name (All-head (IsEntry g) e (entries_of_slots slots) h).name, short_from g slots (All-tail (IsEntry g) e (entries_of_slots slots) h))

length_zeros : (n : ℕ) → length {A = ℕ} (replicate n 0) ≡ n
length_zeros n = length-replicate n 0

-- the bytes of a slot are as many as a slot has
slot_width : (g : Request) (slot : Option Entry) (slots : Slots) → AreShort g (slot ∷ slots) → length (slot_bytes g slot) ≡ 4 + g.name_max
slot_width g None slots h = length-replicate (4 + g.name_max) 0
slot_width g (Some e) slots h =
    let tail = length-append e.name (replicate (g.name_max - length e.name) 0) in
    let many = length_zeros (g.name_max - length e.name) in
    let four = length-bytes_low_first 0 4 e.number in
    let whole = length-append (little_bytes 4 e.number) (e.name ++ replicate (g.name_max - length e.name) 0) in
    let short : length e.name ≤ g.name_max = h.0 in
    omega arith

short_rest : (g : Request) (slot : Option Entry) (slots : Slots) → AreShort g (slot ∷ slots) → AreShort g slots
short_rest g None slots h = h
short_rest g (Some e) slots h = h.1

slots_width : (g : Request) (slots : Slots) → AreShort g slots → length (flat_map (slot_bytes g) slots) ≡ length slots * (4 + g.name_max)
slots_width g [] h = omega arith
slots_width g (slot ∷ slots) h =
    let rest = slots_width g slots (short_rest g slot slots h) in
    let own = slot_width g slot slots h in
    let whole = length-append (slot_bytes g slot) (flat_map (slot_bytes g) slots) in
    omega arith

-- slot j of the list, among the bytes of all, whatever is behind them
slot_of_list : (g : Request) (slots : Slots) (j : ℕ) (rest : List ℕ) → AreShort g slots → j < length slots
    → take (4 + g.name_max) (drop (j * (4 + g.name_max)) (flat_map (slot_bytes g) slots ++ rest)) ≡ slot_bytes g (slice_index_or slots j None)
slot_of_list g [] j rest h low = absurd (omega arith)
slot_of_list g (slot ∷ slots) zero rest h low =
    let own = slot_width g slot slots h in
    ap (λ (n : ℕ). take (4 + g.name_max) (drop n ((slot_bytes g slot ++ flat_map (slot_bytes g) slots) ++ rest))) (let none : 0 * (4 + g.name_max) ≡ 0 = omega arith in none)
    ∙ ap (take (4 + g.name_max)) (append_assoc (slot_bytes g slot) (flat_map (slot_bytes g) slots) rest)
    ∙ take_at (slot_bytes g slot) (flat_map (slot_bytes g) slots ++ rest) (4 + g.name_max) own
slot_of_list g (slot ∷ slots) (suc j) rest h low =
    let w = 4 + g.name_max in
    let own = slot_width g slot slots h in
    let all = slot_bytes g slot ++ (flat_map (slot_bytes g) slots ++ rest) in
    let next : suc j * w ≡ w + j * w = omega arith in
    ap (λ (l : List ℕ). take w (drop (suc j * w) l)) (append_assoc (slot_bytes g slot) (flat_map (slot_bytes g) slots) rest)
    ∙ ap (λ (n : ℕ). take w (drop n all)) next
    ∙ ap (take w) (sym (drop-drop (j * w) w all) ∙ ap (drop (j * w)) (drop_at (slot_bytes g slot) (flat_map (slot_bytes g) slots ++ rest) w own))
    ∙ slot_of_list g slots j rest (short_rest g slot slots h) (omega arith)

-- ---- a block

drop_past : (n : ℕ) (xs ys : List ℕ) → length xs ≤ n → drop n (xs ++ ys) ≡ drop (n - length xs) ys
drop_past n xs ys le =
    let split : n ≡ length xs + (n - length xs) = omega arith in
    ap (λ (k : ℕ). drop k (xs ++ ys)) split ∙ sym (drop-drop (n - length xs) (length xs) (xs ++ ys)) ∙ ap (drop (n - length xs)) (drop_at xs ys (length xs) refl)

-- slot j of a block that has a list of slots, and zeros behind them
slot_of_padded : (g : Request) (slots : Slots) (j : ℕ) → AreShort g slots → j * (4 + g.name_max) + (4 + g.name_max) ≤ g.block_size
    → take (4 + g.name_max) (drop (j * (4 + g.name_max)) (padded g (flat_map (slot_bytes g) slots))) ≡ slot_bytes g (slice_index_or slots j None)
slot_of_padded g slots j short within = elim (cases_lt j (length slots)) [
  | inl low ↦ slot_of_list g slots j (replicate (g.block_size - length (flat_map (slot_bytes g) slots)) 0) short low
  | inr past ↦
      let w = 4 + g.name_max in
      let front = flat_map (slot_bytes g) slots in
      let wide = slots_width g slots short in
      let before : length front ≤ j * w = omega (arith, mul-le-mul_right w past) in
      let left : w ≤ g.block_size - length front - (j * w - length front) = omega arith in
      ap (take w) (drop_past (j * w) front (replicate (g.block_size - length front) 0) before ∙ drop-replicate (j * w - length front) (g.block_size - length front) 0)
      ∙ take-replicate w (g.block_size - length front - (j * w - length front)) 0 left
      ∙ ap (slot_bytes g) (sym (get_or_past slots j None past))
]

-- the slots of block i are those of the directory from its first one on
slot_of_window : (g : Request) (slots : Slots) (i j : ℕ) → j < slots_in_block g → slice_index_or (slots_of_block g slots i) j None ≡ slice_index_or slots (i * slots_in_block g + j) None
slot_of_window g slots i j low = get_or-take (slots_in_block g) (drop (i * slots_in_block g) slots) j None low ∙ get_or-drop (i * slots_in_block g) slots j None

pub block_slot : (g : Request) (slots : Slots) (i j : ℕ) → IsDirectory g slots → j < slots_in_block g
    → slot_in g (padded g (flat_map (slot_bytes g) (slots_of_block g slots i))) j ≡ slot_bytes g (slice_index_or slots (i * slots_in_block g + j) None)
block_slot g slots i j rules low =
    let w = 4 + g.name_max in
    let k = slots_in_block g in
    let short = short_take g k (drop (i * k) slots) (short_drop g (i * k) slots (short_from g slots rules.entries)) in
    let most : (j + 1) * w ≤ k * w = mul-le-mul_right w (omega arith) in
    let whole : k * w ≤ g.block_size = div-mul-le_self g.block_size w in
    let width : j * w + w - j * w ≡ w = omega arith in
    ap (λ (n : ℕ). take n (drop (j * w) (padded g (flat_map (slot_bytes g) (slots_of_block g slots i))))) width
    ∙ slot_of_padded g (slots_of_block g slots i) j short (omega arith)
    ∙ ap (slot_bytes g) (slot_of_window g slots i j low)

-- ---- the bytes of a block

pub slot_bytes_long : (g : Request) (slot : Option Entry) → IfSome slot (IsEntry g) → length (slot_bytes g slot) ≡ 4 + g.name_max
slot_bytes_long g None h = slot_width g None [] tt
slot_bytes_long g (Some e) h = slot_width g (Some e) [] (name_short g e.name h.name, tt)

module _ (g : Request) (slots : Slots) (i : ℕ) (rules : All (IsEntry g) (entries_of_slots slots)) where
  abbrev front : List ℕ
  front = flat_map (slot_bytes g) (slots_of_block g slots i)

  abbrev most : ℕ
  most = slots_in_block g * (4 + g.name_max)

  front_short : length front ≤ most
  front_short =
      let k = slots_in_block g in
      let wide = slots_width g (slots_of_block g slots i) (short_take g k (drop (i * k) slots) (short_drop g (i * k) slots (short_from g slots rules))) in
      let at_most = length-take k (drop (i * k) slots) in
      let fewer = mul-le-mul_right {m = length (slots_of_block g slots i)} {n = k} (4 + g.name_max) (omega (arith, at_most)) in
      omega (arith, wide, fewer)

  pub block_long : length (padded g front) ≡ g.block_size
  block_long =
      let whole : most ≤ g.block_size = div-mul-le_self g.block_size (4 + g.name_max) in
      let both = length-append front (replicate (g.block_size - length front) 0) in
      let zeros = length_zeros (g.block_size - length front) in
      omega (arith, front_short, whole, both, zeros)

  -- behind the slots a block has zeros
  pub block_rest : (x : ℕ) → most ≤ x → get_or (padded g front) x 0 ≡ 0
  block_rest x past =
      get_or-append_right front (replicate (g.block_size - length front) 0) (length front) x 0 refl (omega (arith, front_short, past))
      ∙ elim (cases_lt (x - length front) (g.block_size - length front)) [
        | inl low ↦ get_or-replicate (g.block_size - length front) (x - length front) 0 0 low
        | inr high ↦ get_or-eq_default (replicate (g.block_size - length front) 0) 0 (let zeros = length_zeros (g.block_size - length front) in omega (arith, zeros, high))
      ]
