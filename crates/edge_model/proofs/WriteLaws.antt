-- Each change of a tree lists the data blocks whose bytes it changes.
use Rattle.std.proofs.Common.{◌≡◌, ℕ, zero, suc, ◌+◌, ◌-◌, ◌*◌, ◌/◌, ◌%◌, ◌<◌, ◌≤◌, ◌==◌, ◌&&◌, ◌||◌, not, Bool, true, false, cond, List, [], ◌∷◌, ◌++◌, length, map, take, drop, flat_map, slice_index, get_or, ◌⊎◌, inl, inr, ⊎_elim, Option, Some, None, nat_eq, nat_lt, unwrap_or, Ok, refl, sym, ap, ◌∙◌, subst, arith, eqb-true, leb-false, ne_eqb, append_assoc, length-append, length-take, length-take-le}
use Rattle.std.specs.List.{range_with_len}
use Rattle.std.proofs.lemmas.Bool.{false≢true, cases_lt, cases_eq, cases_Bool, and_cases, lt-ltb, not_from_false}
use Rattle.std.proofs.lemmas.List.{ext_get_or, get_or-take, get_or-drop, get_or_past, get_or-replicate, get_or_append_left, get_or-append-add}
use Rattle.std.proofs.lemmas.List.FromFn.{length-map-range_with_len}
use Rattle.std.proofs.Math.Nat.{div-zero, le-div_iff_mul-le, div-lt_iff_lt-mul, eq-zero-or-pos}
use Rattle.edge_base.specs.declared.geometry.Request.{Request}
use Rattle.edge_base.specs.tree.Positions.{Position, data_at}
use Rattle.edge_base.specs.tree.Slots.{Entry, Slots, pieces, slots_in_block, slot_blocks, slots_of_block, slot_bytes}
use Rattle.edge_base.specs.tree.Nodes.{Node, file, directory, padded, block_of}
use Rattle.edge_base.specs.tree.NodeRules.{IsNode}
use Rattle.edge_model.specs.Tree.{Tree, node_at, slots_at, slots_of_node, with_node, with_slots}
use Rattle.edge_model.specs.Walk.{Spot, Found}
use Rattle.edge_model.specs.State.{State, Plan}
use Rattle.edge_model.specs.Asked.{Asked}
use Rattle.edge_model.specs.Step.{plan}
use Rattle.edge_model.specs.Named.{slot_position, with_slot, without_slot, placed, cleared, clear_writes}
use Rattle.edge_model.specs.Files.{content_of, present_of, is_marked, put_at, first_touched, last_touched, blocks_touched, is_touched, write_place, written, resized, cut_block, cut}
use Rattle.edge_model.specs.Names.{unnamed, has_one_link, holder, name_at, with_parent, renamed}
use Rattle.edge_model.specs.Laws.{HasNodes}
use Rattle.edge_model.proofs.Members.{IsAmong, among_map, from_range}
use Rattle.edge_model.proofs.Ways.{blocks_of}
use Rattle.edge_model.proofs.SlotLaws.{no_pieces, piece_starts, is_marked_in, placed_blocks, cleared_blocks, marked_passes}
use Rattle.edge_model.proofs.BlockLaws.{IsWithinBlock, placed_others, cleared_others, directory_fits, zeros, length_zeros, quotient, at_most}
use Rattle.edge_model.proofs.DirtyLaws.{IsWritten, IsWrittenPlan}
use Rattle.edge_model.proofs.EditLaws.{slots_have, flags_have, touched_listed}
use Rattle.edge_model.proofs.Changes.{Change, nothing, empties, makes_file, makes_dir, writes, cuts, links, drops, moves, moves_over, IsNewName, made, edit_of, by_change}
use Rattle.edge_model.proofs.CompleteLaws.{slot_within, spot_within}

-- ---- the bytes of a file's blocks

zeros_get : (m q : ℕ) → get_or (zeros m) q 0 ≡ 0
zeros_get m q = ⊎_elim
    (λ (low : q < m). get_or-replicate m q 0 0 low)
    (λ (high : m ≤ q). get_or_past (zeros m) q 0 (let len = length_zeros m in omega arith))
    (cases_lt q m)

-- zeros at the end read as what is past the end
zeros_past : (xs : List ℕ) (m q : ℕ) → get_or (xs ++ zeros m) q 0 ≡ get_or xs q 0
zeros_past [] m q = zeros_get m q
zeros_past (x ∷ xs) m zero = refl
zeros_past (x ∷ xs) m (suc q) = zeros_past xs m q

length-padded : (g : Request) (bytes : List ℕ) → length bytes ≤ g.block_size → length (padded g bytes) ≡ g.block_size
length-padded g bytes h =
    let whole = length-append bytes (zeros (g.block_size - length bytes)) in
    let rest = length_zeros (g.block_size - length bytes) in
    omega arith

short_window : (g : Request) (a : ℕ) (xs : List ℕ) → length (take g.block_size (drop a xs)) ≤ g.block_size
short_window g a xs = let is = length-take g.block_size (drop a xs) in omega arith

window_get : (g : Request) (a : ℕ) (xs : List ℕ) (q : ℕ) → q < g.block_size → get_or (padded g (take g.block_size (drop a xs))) q 0 ≡ get_or xs (a + q) 0
window_get g a xs q low =
    zeros_past (take g.block_size (drop a xs)) (g.block_size - length (take g.block_size (drop a xs))) q
    ∙ get_or-take g.block_size (drop a xs) q 0 low
    ∙ get_or-drop a xs q 0

-- the blocks are the same where the bytes are, past the ends too
block_same : (g : Request) (a : ℕ) (xs ys : List ℕ) → ((j : ℕ) → a ≤ j → j < a + g.block_size → slice_index xs j ≡ slice_index ys j) → padded g (take g.block_size (drop a xs)) ≡ padded g (take g.block_size (drop a ys))
block_same g a xs ys h =
    let one = length-padded g (take g.block_size (drop a xs)) (short_window g a xs) in
    let two = length-padded g (take g.block_size (drop a ys)) (short_window g a ys) in
    ext_get_or 0 (padded g (take g.block_size (drop a xs))) (padded g (take g.block_size (drop a ys))) (one ∙ sym two)
    (λ q low. let small : q < g.block_size = omega arith in window_get g a xs q small ∙ h (a + q) (omega arith) (omega arith) ∙ sym (window_get g a ys q small))

put_length : (content : List ℕ) (at : ℕ) → length (take at (content ++ zeros (at - length content))) ≡ at
put_length content at = length-take-le at (content ++ zeros (at - length content)) (let whole = length-append content (zeros (at - length content)) in let rest = length_zeros (at - length content) in omega arith)

put_low : (content : List ℕ) (at : ℕ) (new : List ℕ) (j : ℕ) → j < at → slice_index (put_at content at new) j ≡ slice_index content j
put_low content at new j low =
    let front = take at (content ++ zeros (at - length content)) in
    ap (λ xs. get_or xs j 0) (append_assoc front new (drop (at + length new) content))
    ∙ get_or_append_left front (new ++ drop (at + length new) content) 0 j (let len = put_length content at in omega arith)
    ∙ get_or-take at (content ++ zeros (at - length content)) j 0 low
    ∙ zeros_past content (at - length content) j

put_high : (content : List ℕ) (at : ℕ) (new : List ℕ) (j : ℕ) → at + length new ≤ j → slice_index (put_at content at new) j ≡ slice_index content j
put_high content at new j high =
    let front = take at (content ++ zeros (at - length content)) in
    let rest = drop (at + length new) content in
    let m = j - (at + length new) in
    let len = put_length content at in
    let one : j ≡ length front + (length new + m) = omega arith in
    let two : at + length new + m ≡ j = omega arith in
    ap (λ xs. get_or xs j 0) (append_assoc front new rest)
    ∙ ap (λ q. get_or (front ++ (new ++ rest)) q 0) one
    ∙ get_or-append-add front (new ++ rest) (length new + m) 0
    ∙ get_or-append-add new rest m 0
    ∙ get_or-drop (at + length new) content m 0
    ∙ ap (λ q. get_or content q 0) two

resized_low : (content : List ℕ) (size j : ℕ) → j < size → slice_index (resized content size) j ≡ slice_index content j
resized_low content size j low = zeros_past (take size content) (size - length content) j ∙ get_or-take size content j 0 low

resized_high : (content : List ℕ) (size j : ℕ) → size ≤ j → length content ≤ size → slice_index (resized content size) j ≡ slice_index content j
resized_high content size j high long =
    zeros_past (take size content) (size - length content) j
    ∙ get_or_past (take size content) j 0 (let len = length-take size content in omega arith)
    ∙ sym (get_or_past content j 0 (omega arith))

-- ---- trees

-- block i of what number n has
abbrev bytes_of : Request → Option Node → ℕ → List ℕ
bytes_of g node i = block_of g (unwrap_or node (file [] [])) i

-- a block that was there, with the same bytes
abbrev IsKept : Request → Option Node → Option Node → ℕ → Type 0
IsKept g old new i = IsAmong (blocks_of g old) i × (bytes_of g new i ≡ bytes_of g old i)

-- each data block of the tree u is one of t with the same bytes, or is listed
abbrev Keeps : Request → Tree → List Position → Tree → Type 0
Keeps g t listed u = (n i : ℕ) → IsAmong (blocks_of g (u n)) i → IsAmong listed (data_at n i) ⊎ IsKept g (t n) (u n) i

keeps_then : (g : Request) (t u v : Tree) (listed : List Position) → Keeps g t listed u → Keeps g u listed v → Keeps g t listed v
keeps_then g t u v listed one two n i h = ⊎_elim
    (λ w. inl w)
    (λ (k : IsKept g (u n) (v n) i). ⊎_elim (λ w. inl w) (λ (l : IsKept g (t n) (u n) i). inr (l.0, k.1 ∙ l.1)) (one n i k.0))
    (two n i h)

at_node : (g : Request) (t : Tree) (n : ℕ) (node : Option Node) (listed : List Position) → ((i : ℕ) → IsAmong (blocks_of g node) i → IsAmong listed (data_at n i) ⊎ IsKept g (t n) node i) → Keeps g t listed (with_node t n node)
at_node g t n node listed own x i h =
    elim (nat_eq n x) as (λ b. nat_eq n x ≡ b → IsAmong (blocks_of g (cond b node (t x))) i → IsAmong listed (data_at x i) ⊎ IsKept g (t x) (cond b node (t x)) i) [
      | true ↦ λ same k. subst (λ y. IsAmong listed (data_at y i) ⊎ IsKept g (t y) node i) (eqb-true n x same) (own i k)
      | false ↦ λ other k. inr (k, refl)
    ] refl h

without_node : (g : Request) (t : Tree) (n : ℕ) (listed : List Position) → Keeps g t listed (with_node t n None)
without_node g t n listed = at_node g t n None listed (λ i h. absurd h)

with_empty_file : (g : Request) (t : Tree) (n : ℕ) (listed : List Position) → Keeps g t listed (with_node t n (Some (file [] [])))
with_empty_file g t n listed = at_node g t n (Some (file [] [])) listed (λ i h. absurd h)

with_empty_directory : (g : Request) (t : Tree) (n parent : ℕ) (listed : List Position) → Keeps g t listed (with_node t n (Some (directory [] parent)))
with_empty_directory g t n parent listed = at_node g t n (Some (directory [] parent)) listed (λ i h. absurd (let in_range = from_range 0 (slot_blocks g []) i h in no_pieces (slots_in_block g) i (omega arith)))

-- ---- slots

-- the bytes of a block of slots
abbrev slots_bytes : Request → Slots → ℕ → List ℕ
slots_bytes g slots i = padded g (flat_map (slot_bytes g) (slots_of_block g slots i))

-- of a node that has slots they are the bytes
bytes_are : (g : Request) (node : Option Node) (i : ℕ) → i < slot_blocks g (slots_of_node (unwrap_or node (file [] []))) → slots_bytes g (slots_of_node (unwrap_or node (file [] []))) i ≡ bytes_of g node i
bytes_are g None i h = absurd (no_pieces (slots_in_block g) i h)
bytes_are g (Some (file content present)) i h = absurd (no_pieces (slots_in_block g) i h)
bytes_are g (Some (directory slots parent)) i h = refl

at_slots : (g : Request) (t : Tree) (d : ℕ) (slots : Slots) (listed : List Position)
    → ((i : ℕ) → i < slot_blocks g slots → IsAmong listed (data_at d i) ⊎ ((i < slot_blocks g (slots_at t d)) × (slots_bytes g slots i ≡ slots_bytes g (slots_at t d) i))) → Keeps g t listed (with_slots t d slots)
at_slots g t d slots listed own = at_node g t d (Some (directory slots _)) listed
    (λ i h. let in_range = from_range 0 (slot_blocks g slots) i h in
    ⊎_elim (λ w. inl w) (λ (k : (i < slot_blocks g (slots_at t d)) × (slots_bytes g slots i ≡ slots_bytes g (slots_at t d) i)). inr (slots_have g (t d) i k.0, k.1 ∙ bytes_are g (t d) i k.0)) (own i (omega arith)))

placed_keeps : (g : Request) (t : Tree) (d slot : ℕ) (e : Entry) (listed : List Position) → slot ≤ length (slots_at t d) → IsAmong listed (slot_position g d slot) → Keeps g t listed (placed t d slot e)
placed_keeps g t d slot e listed in_slots is_listed = at_slots g t d (with_slot (slots_at t d) slot e) listed
    (λ i h. ⊎_elim
    (λ (same : i ≡ slot / slots_in_block g). inl (subst (λ j. IsAmong listed (data_at d j)) (sym same) is_listed))
    (λ (other : i ≡ slot / slots_in_block g → ⊥). ⊎_elim
    (λ (old : i < slot_blocks g (slots_at t d)). inr (old, ap (λ s. padded g (flat_map (slot_bytes g) s)) (placed_others g (slots_at t d) slot e i in_slots other)))
    (λ same. absurd (other same))
    (placed_blocks g (slots_at t d) slot e i in_slots h))
    (cases_eq i (slot / slots_in_block g)))

-- the block of the slot is listed, where it is left
clear_listed : (g : Request) (d : ℕ) (slots : Slots) (slot i : ℕ) → i < slot_blocks g (without_slot slots slot) → i ≡ slot / slots_in_block g → IsAmong (clear_writes g d slots slot) (data_at d i)
clear_listed g d slots slot i left same =
    let low : nat_lt (slot / slots_in_block g) (slot_blocks g (without_slot slots slot)) ≡ true = lt-ltb (slot / slots_in_block g) (slot_blocks g (without_slot slots slot)) (subst (λ j. j < slot_blocks g (without_slot slots slot)) same left) in
    subst (λ b. IsAmong (cond b (slot_position g d slot ∷ []) []) (data_at d i)) (sym low) (inl (ap (data_at d) same))

cleared_keeps : (g : Request) (t : Tree) (d slot : ℕ) (listed : List Position) → ((i : ℕ) → IsAmong (clear_writes g d (slots_at t d) slot) (data_at d i) → IsAmong listed (data_at d i))
    → ((i : ℕ) → i < slot_blocks g (slots_at t d) → IsAmong listed (data_at d i) ⊎ IsWithinBlock g (slots_of_block g (slots_at t d) i)) → Keeps g t listed (cleared t d slot)
cleared_keeps g t d slot listed lists fits = at_slots g t d (without_slot (slots_at t d) slot) listed
    (λ i h. ⊎_elim
    (λ (same : i ≡ slot / slots_in_block g). inl (lists i (clear_listed g d (slots_at t d) slot i h same)))
    (λ (other : i ≡ slot / slots_in_block g → ⊥).
    let old = cleared_blocks g (slots_at t d) slot i h in
    ⊎_elim
    (λ w. inl w)
    (λ (fit : IsWithinBlock g (slots_of_block g (slots_at t d) i)). inr (old, cleared_others g (slots_at t d) slot i fit other))
    (fits i old))
    (cases_eq i (slot / slots_in_block g)))

-- ---- files

file_bytes : (g : Request) (node : Option Node) (i : ℕ) → is_marked (present_of (unwrap_or node (file [] []))) i ≡ true → padded g (take g.block_size (drop (i * g.block_size) (content_of (unwrap_or node (file [] []))))) ≡ bytes_of g node i
file_bytes g None i h = absurd (false≢true h)
file_bytes g (Some (file content present)) i h = refl
file_bytes g (Some (directory slots parent)) i h = absurd (false≢true h)

before_first : (b at i j : ℕ) → i < at / b → j < i * b + b → j < at
before_first b at i j h low = ⊎_elim
    (λ (none : b ≡ 0). absurd (let zero_pieces : at / b ≡ 0 = ap (λ n. at / n) none ∙ div-zero at in omega arith))
    (λ (some : 0 < b). let full : (i + 1) * b ≤ at = (le-div_iff_mul-le some).0 (omega arith) in omega arith)
    (eq-zero-or-pos b)

past_last : (b end i j : ℕ) → (end - 1) / b < i → i * b ≤ j → j < i * b + b → end ≤ j
past_last b end i j h low high =
    let some : 0 < b = omega arith in
    let past : end - 1 < i * b = (div-lt_iff_lt-mul some).0 h in
    omega arith

written_keeps : (g : Request) (t : Tree) (n at : ℕ) (new : List ℕ) → IsWritten g t (written g t n at new)
written_keeps g t n at new = at_node g t n (Some (file _ _)) (map (data_at n) (blocks_touched g at (length new)))
    (λ i h. ⊎_elim
    (λ touches. inl (touched_listed g n at (length new) i touches))
    (λ untouched.
    let content = content_of (node_at t n) in
    let marked = only_left (is_marked (present_of (node_at t n)) i) (is_touched g at (length new) i) untouched (marked_passes (λ j. is_marked (present_of (node_at t n)) j || is_touched g at (length new) j) 0 _ i h) in
    inr (
      flags_have g (t n) i marked,
      block_same g (i * g.block_size) (put_at content at new) content (λ j low high. ⊎_elim
          (λ early. put_low content at new j (before_first g.block_size at i j (leb-false (first_touched g at) i early) high))
          (λ late. put_high content at new j (past_last g.block_size (at + length new) i j (leb-false i (last_touched g at (length new)) late) low high))
          (and_cases _ _ untouched))
          ∙ file_bytes g (t n) i marked,
    ))
    (cases_Bool (is_touched g at (length new) i)))
  where
    only_left : (a b : Bool) → b ≡ false → (a || b) ≡ true → a ≡ true
    only_left true b none h = refl
    only_left false b none h = absurd (false≢true (sym none ∙ h))

all_three : (a b c : Bool) → a ≡ true → b ≡ true → c ≡ true → (a && b && c) ≡ true
all_three true true true p q r = refl
all_three true true false p q r = absurd (false≢true r)
all_three true false c p q r = absurd (false≢true q)
all_three false b c p q r = absurd (false≢true p)

-- the block in which the end lies is listed
cut_listed : (g : Request) (content : List ℕ) (present : List Bool) (size i : ℕ) → size < length content → i * g.block_size < size → size < i * g.block_size + g.block_size → is_marked present i ≡ true → IsAmong (cut_block g content present size) i
cut_listed g content present size i short low high marked =
    let b = g.block_size in
    let row : size / b ≡ i = quotient b size i (omega arith) high in
    let some : 0 < b = omega arith in
    let inside : size % b ≡ 0 → ⊥ = λ none. not_whole b size i some row none low in
    let yes = all_three (nat_lt size (length content)) (not (size % b == 0)) (is_marked present (size / b)) (lt-ltb size (length content) short) (not_from_false (size % b == 0) (ne_eqb (size % b) 0 inside)) (ap (is_marked present) row ∙ marked) in
    subst (λ c. IsAmong (cond c (size / b ∷ []) []) i) (sym yes) (inl (sym row))
  where
    not_whole : (b size i : ℕ) → 0 < b → size / b ≡ i → size % b ≡ 0 → i * b < size → ⊥
    not_whole b size i some row none low = let parts : b * (size / b) ≡ b * i = ap (λ q. b * q) row in omega arith

cut_keeps : (g : Request) (t : Tree) (n size : ℕ) → IsWritten g t (cut g t n size)
cut_keeps g t n size = at_node g t n (Some (file _ _)) (map (data_at n) (cut_block g (content_of (node_at t n)) (present_of (node_at t n)) size))
    (λ i h.
    let b = g.block_size in
    let content = content_of (node_at t n) in
    let present = present_of (node_at t n) in
    let marked = marked_passes (is_marked present) 0 (pieces b size) i h in
    let below : i < pieces b size = (let m = is_marked_in (map (is_marked present) (range_with_len 0 (pieces b size))) i h in let len = length-map-range_with_len (is_marked present) 0 (pieces b size) in omega arith) in
    let start = piece_starts b size i below in
    let old = flags_have g (t n) i marked in
    let bytes = file_bytes g (t n) i marked in
    ⊎_elim
    (λ (whole : i * b + b ≤ size). inr (old, block_same g (i * b) (resized content size) content (λ j low high. resized_low content size j (omega arith)) ∙ bytes))
    (λ (inside : size < i * b + b). ⊎_elim
    (λ (short : size < length content). inl (among_map (data_at n) (cut_block g content present size) i (cut_listed g content present size i short start inside marked)))
    (λ (long : length content ≤ size). inr (
      old,
      block_same g (i * b) (resized content size) content (λ j low high. ⊎_elim
          (λ (before : j < size). resized_low content size j before)
          (λ (past : size ≤ j). resized_high content size j past long)
          (cases_lt j size)) ∙ bytes,
    ))
    (cases_lt size (length content)))
    (at_most (i * b + b) size))

-- ---- names

node_parent : (g : Request) (t : Tree) (n parent : ℕ) (listed : List Position) (node : Option Node) → t n ≡ node → Keeps g t listed (with_parent t n parent)
node_parent g t n parent listed None was = rw was (λ x i h. inr (h, refl))
node_parent g t n parent listed (Some (file content present)) was = rw was (λ x i h. inr (h, refl))
node_parent g t n parent listed (Some (directory slots old)) was = rw was (at_node g t n (Some (directory slots parent)) listed (λ i h. inr (subst (λ o. IsKept g o (Some (directory slots parent)) i) (sym was) (h, refl))))

parent_keeps : (g : Request) (t : Tree) (n parent : ℕ) (listed : List Position) → Keeps g t listed (with_parent t n parent)
parent_keeps g t n parent listed = node_parent g t n parent listed (t n) refl

dropped_keeps : (g : Request) (t : Tree) (n : ℕ) (listed : List Position) (last : Bool) → Keeps g t listed (cond last (with_node t n None) t)
dropped_keeps g t n listed true = without_node g t n listed
dropped_keeps g t n listed false = λ x i h. inr (h, refl)

node_fits : (g : Request) (node : Option Node) (i : ℕ) → ((there : Node) → node ≡ Some there → IsNode g there) → i < slot_blocks g (slots_of_node (unwrap_or node (file [] []))) → IsWithinBlock g (slots_of_block g (slots_of_node (unwrap_or node (file [] []))) i)
node_fits g None i rules h = absurd (no_pieces (slots_in_block g) i h)
node_fits g (Some (file content present)) i rules h = absurd (no_pieces (slots_in_block g) i h)
node_fits g (Some (directory slots parent)) i rules h = directory_fits g slots i (rules (directory slots parent) refl)

-- after a name is placed, the blocks of slots fit where they are not listed
node_slots_fit : (g : Request) (t : Tree) (d slot : ℕ) (e : Entry) (parent : ℕ) (listed : List Position) → HasNodes g t → slot ≤ length (slots_at t d) → IsAmong listed (slot_position g d slot)
    → (x i : ℕ) → i < slot_blocks g (slots_at (with_node t d (Some (directory (with_slot (slots_at t d) slot e) parent))) x) → IsAmong listed (data_at x i) ⊎ IsWithinBlock g (slots_of_block g (slots_at (with_node t d (Some (directory (with_slot (slots_at t d) slot e) parent))) x) i)
node_slots_fit g t d slot e parent listed rules in_slots is_listed x i h =
    elim (nat_eq d x) as (λ b. nat_eq d x ≡ b → i < slot_blocks g (slots_of_node (unwrap_or (cond b (Some (directory (with_slot (slots_at t d) slot e) parent)) (t x)) (file [] [])))
    → IsAmong listed (data_at x i) ⊎ IsWithinBlock g (slots_of_block g (slots_of_node (unwrap_or (cond b (Some (directory (with_slot (slots_at t d) slot e) parent)) (t x)) (file [] []))) i)) [
      | true ↦ λ same k. ⊎_elim
          (λ (own : i ≡ slot / slots_in_block g). inl (subst (λ y. IsAmong listed (data_at y i)) (eqb-true d x same) (subst (λ j. IsAmong listed (data_at d j)) (sym own) is_listed)))
          (λ (other : i ≡ slot / slots_in_block g → ⊥). ⊎_elim
          (λ (old : i < slot_blocks g (slots_at t d)). inr (subst (IsWithinBlock g) (sym (placed_others g (slots_at t d) slot e i in_slots other)) (node_fits g (t d) i (rules d) old)))
          (λ own. absurd (other own))
          (placed_blocks g (slots_at t d) slot e i in_slots k))
          (cases_eq i (slot / slots_in_block g))
      | false ↦ λ other k. inr (node_fits g (t x) i (rules x) k)
    ] refl h

held_fits : (g : Request) (t : Tree) (d slot : ℕ) (e : Entry) (listed : List Position) → HasNodes g t → slot ≤ length (slots_at t d) → IsAmong listed (slot_position g d slot)
    → (x i : ℕ) → i < slot_blocks g (slots_at (placed t d slot e) x) → IsAmong listed (data_at x i) ⊎ IsWithinBlock g (slots_of_block g (slots_at (placed t d slot e) x) i)
held_fits g t d slot e listed rules in_slots is_listed x i h = node_slots_fit g t d slot e _ listed rules in_slots is_listed x i h

unnamed_keeps : (g : Request) (t : Tree) (d : ℕ) (found : Found) (last : Bool) → HasNodes g t → IsWritten g t (unnamed g t d found last)
unnamed_keeps g t d found true rules =
    let listed = clear_writes g d (slots_at t d) found.slot in
    let left = cleared t d found.slot in
    keeps_then g t left (with_node left found.number None) listed (cleared_keeps g t d found.slot listed (λ i w. w) (λ i h. inr (node_fits g (t d) i (rules d) h))) (without_node g left found.number listed)
unnamed_keeps g t d found false rules = cleared_keeps g t d found.slot (clear_writes g d (slots_at t d) found.slot) (λ i w. w) (λ i h. inr (node_fits g (t d) i (rules d) h))

moved_keeps : (g : Request) (t : Tree) (from to slot gone : ℕ) (e : Entry) → HasNodes g t → slot ≤ length (slots_at t to)
    → Keeps g t (slot_position g to slot ∷ clear_writes g from (slots_at (placed t to slot e) from) gone) (cleared (placed t to slot e) from gone)
moved_keeps g t from to slot gone e rules in_slots =
    let held = placed t to slot e in
    let listed = slot_position g to slot ∷ clear_writes g from (slots_at held from) gone in
    keeps_then g t held (cleared held from gone) listed (placed_keeps g t to slot e listed in_slots (inl refl))
    (cleared_keeps g held from gone listed (λ i w. inr w) (λ i h. held_fits g t to slot e listed rules in_slots (inl refl) from i h))

renamed_keeps : (g : Request) (t : Tree) (from : Spot) (found : Found) (to : Spot) (slot : ℕ) (replaced : Option ℕ) → HasNodes g t → slot ≤ length (slots_at t (holder to)) → IsWritten g t (renamed g t from found to slot replaced)
renamed_keeps g t from found to slot None rules in_slots =
    let entry : Entry = record { name = name_at to; number = found.number } in
    let left = cleared (placed t (holder to) slot entry) (holder from) found.slot in
    let listed = (renamed g t from found to slot None).writes in
    keeps_then g t left (with_parent left found.number (holder to)) listed (moved_keeps g t (holder from) (holder to) slot found.slot entry rules in_slots) (parent_keeps g left found.number (holder to) listed)
renamed_keeps g t from found to slot (Some n) rules in_slots =
    let entry : Entry = record { name = name_at to; number = found.number } in
    let left = cleared (placed t (holder to) slot entry) (holder from) found.slot in
    let fewer = cond (has_one_link g t n) (with_node left n None) left in
    let listed = (renamed g t from found to slot (Some n)).writes in
    keeps_then g t left (with_parent fewer found.number (holder to)) listed (moved_keeps g t (holder from) (holder to) slot found.slot entry rules in_slots)
    (keeps_then g left fewer (with_parent fewer found.number (holder to)) listed (dropped_keeps g left n listed (has_one_link g t n)) (parent_keeps g fewer found.number (holder to) listed))

-- ---- each change

made_keeps : (g : Request) (t : Tree) (path : List ℕ) (d : ℕ) (name : List ℕ) (n slot : ℕ) (node : Node) → IsNewName g t path d name n slot
    → ((u : Tree) (listed : List Position) → Keeps g u listed (with_node u n (Some node))) → IsWritten g t (made g t d name n slot node)
made_keeps g t path d name n slot node new empty =
    let listed = slot_position g d slot ∷ [] in
    let under = placed t d slot (record { name = name; number = n }) in
    keeps_then g t under (with_node under n (Some node)) listed (placed_keeps g t d slot (record { name = name; number = n }) listed (slot_within g t d slot new.room) (inl refl)) (empty under listed)

written_change : (g : Request) (s : State) → HasNodes g s.tree → (c : Change g s) → IsWrittenPlan g s.tree (edit_of g s c)
written_change g s rules nothing = tt
written_change g s rules (empties path spot found at there kind) = with_empty_file g s.tree found.number []
written_change g s rules (makes_file path d name n slot new) = made_keeps g s.tree path d name n slot (file [] []) new (λ u listed. with_empty_file g u n listed)
written_change g s rules (makes_dir path d name n slot new) = made_keeps g s.tree path d name n slot (directory [] d) new (λ u listed. with_empty_directory g u n d listed)
written_change g s rules (writes h d new at fits) = written_keeps g s.tree d.number (write_place s d) new
written_change g s rules (cuts h d size at fits) = cut_keeps g s.tree d.number size
written_change g s rules (links path to from found d name slot new) = placed_keeps g s.tree d slot (record { name = name; number = found.number }) (slot_position g d slot ∷ []) (slot_within g s.tree d slot new.room) (inl refl)
written_change g s rules (drops path d name found dropped) = unnamed_keeps g s.tree d found (has_one_link g s.tree found.number) rules
written_change g s rules (moves path to from spot found slot moved absent room) = renamed_keeps g s.tree from found spot slot None rules (slot_within g s.tree (holder spot) slot room)
written_change g s rules (moves_over path to from spot found there moved at replaced) = renamed_keeps g s.tree from found spot there.slot (Some there.number) rules (spot_within s.tree spot there at)

pub each_written : (g : Request) (s : State) → HasNodes g s.tree → (c : Asked) (p : Plan) → plan g s c ≡ Ok p → IsWrittenPlan g s.tree p.edit
each_written g s rules c p was = by_change g s (IsWrittenPlan g s.tree) (written_change g s rules) c p was
