-- The data blocks of a node determine its bytes or its slots.
use Rattle.std.proofs.Common.{◌≡◌, ℕ, zero, suc, ◌+◌, ◌-◌, ◌*◌, ◌/◌, ◌%◌, ◌<◌, ◌≤◌, ◌==◌, ◌||◌, inl, inr, Bool, true, false, List, [], ◌∷◌, ◌++◌, length, get_or, take, drop, replicate, Some, None, refl, sym, ap, ◌∙◌, subst, arith}
use Rattle.std.specs.List.{list_any}
use Rattle.std.proofs.Math.Nat.{le-div_iff_mul-le}
use Rattle.std.proofs.lemmas.Bool.{cases_lt, cases_Bool, eq-eqb, ne_eqb, or_from}
use Rattle.std.proofs.lemmas.List.{length-take, get_or-take, get_or-drop, get_or_past, get_or_append_left, get_or-append_right, ext_get_or}
use Rattle.edge_base.specs.declared.geometry.Request.{Request}
use Rattle.edge_base.specs.tree.Slots.{Slots, pieces, slots_in_block, slot_blocks, slots_of_block}
use Rattle.edge_base.specs.tree.Nodes.{file, directory, marked_from, block_of}
use Rattle.edge_base.specs.tree.NodeRules.{IsFile, IsDirectory, IsEntry}
use Rattle.edge_image.proofs.SlotLaws.{AreSlots, IsSlot, zeros_read, filled, same_slots, same_trimmed}

-- ---- pieces

-- pieces of n hold all
pub held_by : (n count : ℕ) → 0 < n → count ≤ n * pieces n count
held_by n count some = omega arith

-- and the last of them is begun
pub begun : (n count i : ℕ) → 0 < n → i < pieces n count → i * n < count
begun n count i some below = let all = (le-div_iff_mul-le {k = n} {x = suc i} {y = count + (n - 1)} some).0 below in omega arith

-- ---- the flags of a file

-- what is marked from a place on lies from there on
marked_behind : (from i : ℕ) (flags : List Bool) → i < from → list_any (λ k. k == i) (marked_from from flags) ≡ false
marked_behind from i [] below = refl
marked_behind from i (true ∷ flags) below = or_from (from == i) _ (ne_eqb from i (λ e. omega arith)) (marked_behind (from + 1) i flags (omega arith))
marked_behind from i (false ∷ flags) below = marked_behind (from + 1) i flags (omega arith)

-- an index is among those marked exactly where its flag is set
pub marked : (from i : ℕ) (flags : List Bool) → list_any (λ k. k == from + i) (marked_from from flags) ≡ get_or flags i false
marked from i [] = refl
marked from zero (true ∷ flags) = ap (λ b. b || list_any (λ k. k == from + 0) (marked_from (from + 1) flags)) (eq-eqb from (from + 0) (omega arith))
marked from zero (false ∷ flags) = marked_behind (from + 1) (from + 0) flags (omega arith)
marked from (suc i) (true ∷ flags) =
    ap (λ b. b || list_any (λ k. k == from + suc i) (marked_from (from + 1) flags)) (ne_eqb from (from + suc i) (λ e. omega arith))
    ∙ ap (λ (j : ℕ). list_any (λ k. k == j) (marked_from (from + 1) flags)) (let step : from + suc i ≡ from + 1 + i = omega arith in step) ∙ marked (from + 1) i flags
marked from (suc i) (false ∷ flags) = ap (λ (j : ℕ). list_any (λ k. k == j) (marked_from (from + 1) flags)) (let step : from + suc i ≡ from + 1 + i = omega arith in step) ∙ marked (from + 1) i flags

-- ---- the bytes of a file

-- zeros behind bytes read as none
padding_read : (xs : List ℕ) (n k : ℕ) → get_or (xs ++ replicate n 0) k 0 ≡ get_or xs k 0
padding_read xs n k = elim (cases_lt k (length xs)) [
  | inl inside ↦ get_or_append_left xs (replicate n 0) 0 k inside
  | inr past ↦ get_or-append_right xs (replicate n 0) (length xs) k 0 refl past ∙ zeros_read n (k - length xs) ∙ sym (get_or_past xs k 0 past)
]

-- byte k of a file, in its block
byte_in_block : (g : Request) (content : List ℕ) (present : List Bool) (k : ℕ) → 0 < g.block_size
    → get_or (block_of g (file content present) (k / g.block_size)) (k % g.block_size) 0 ≡ get_or content k 0
byte_in_block g content present k some =
    let i = k / g.block_size in
    let r = k % g.block_size in
    let rest = drop (i * g.block_size) content in
    padding_read (take g.block_size rest) (g.block_size - length (take g.block_size rest)) r
    ∙ get_or-take g.block_size rest r 0 (omega arith)
    ∙ get_or-drop (i * g.block_size) content r 0
    ∙ ap (λ (j : ℕ). get_or content j 0) (omega arith)

-- Files of one size, with the same flags, and the same blocks where these are set, have the same bytes.
pub same_content : (g : Request) (one two : List ℕ) (present : List Bool) → 0 < g.block_size → IsFile g one present → IsFile g two present → length one ≡ length two
    → ((i : ℕ) → get_or present i false ≡ true → block_of g (file one present) i ≡ block_of g (file two present) i) → one ≡ two
same_content g one two present some p q long same = ext_get_or 0 one two long (λ k inside.
    elim (cases_Bool (get_or present (k / g.block_size) false)) [
      | inl set ↦ sym (byte_in_block g one present k some) ∙ ap (λ b. get_or b (k % g.block_size) 0) (same (k / g.block_size) set) ∙ byte_in_block g two present k some
      | inr clear ↦ p.absent_zero k clear ∙ sym (q.absent_zero k clear)
    ])

-- ---- the slots of a directory

pub are_slots : (g : Request) (slots : Slots) → IsDirectory g slots → AreSlots g slots
are_slots g slots d = λ k e is. filled (IsEntry g) slots d.entries k e is

-- slot r of block i
slot_in_block : (g : Request) (slots : Slots) (i r : ℕ) → r < slots_in_block g → get_or (slots_of_block g slots i) r None ≡ get_or slots (i * slots_in_block g + r) None
slot_in_block g slots i r inside = get_or-take (slots_in_block g) (drop (i * slots_in_block g) slots) r None inside ∙ get_or-drop (i * slots_in_block g) slots r None

block_slots : (g : Request) (slots : Slots) (i : ℕ) → AreSlots g slots → AreSlots g (slots_of_block g slots i)
block_slots g slots i good k = elim (cases_lt k (slots_in_block g)) [
  | inl inside ↦ subst (IsSlot g) (sym (slot_in_block g slots i k inside)) (good (i * slots_in_block g + k))
  | inr past ↦ subst (IsSlot g) (sym (get_or_past (slots_of_block g slots i) k None (omega (arith, length-take (slots_in_block g) (drop (i * slots_in_block g) slots)))))
      (λ e is. absurd (let wrong : None ≡ Some e = is in cc))
]

-- Directories with as many blocks, and the same ones, have the same slots.
pub same_directory : (g : Request) (one two : Slots) (p q : ℕ) → g.inodes ≤ 65536 → 0 < slots_in_block g → IsDirectory g one → IsDirectory g two → slot_blocks g one ≡ slot_blocks g two
    → ((i : ℕ) → i < slot_blocks g one → block_of g (directory one p) i ≡ block_of g (directory two q) i) → one ≡ two
same_directory g one two p q few some is_one is_two blocks same =
    let width = slots_in_block g in
    let inside_one = held_by width (length one) some in
    let inside_two = held_by width (length two) some in
    let all : (k : ℕ) → get_or one k None ≡ get_or two k None = λ k. elim (cases_lt (k / width) (slot_blocks g one)) [
      | inl inside ↦
          let i = k / width in
          let r = k % width in
          let here : i * width + r ≡ k = omega arith in
          let within : r < width = omega arith in
          sym (slot_in_block g one i r within ∙ ap (λ (j : ℕ). get_or one j None) here)
          ∙ same_slots g (slots_of_block g one i) (slots_of_block g two i) _ _ few (block_slots g one i (are_slots g one is_one)) (block_slots g two i (are_slots g two is_two)) (same i inside) r
          ∙ (slot_in_block g two i r within ∙ ap (λ (j : ℕ). get_or two j None) here)
      | inr past ↦
          let behind = (le-div_iff_mul-le {k = width} {x = slot_blocks g one} {y = k} some).0 past in
          let many = ap (λ (j : ℕ). width * j) blocks in
          get_or_past one k None (omega arith) ∙ sym (get_or_past two k None (omega arith))
    ] in
    sym is_one.last_filled ∙ same_trimmed one two all ∙ is_two.last_filled
