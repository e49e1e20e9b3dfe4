-- Bits that lie in blocks, and what a change of one of them does to the lists.
use Rattle.std.proofs.Common.{◌≡◌, ◌≢◌, inl, inr, ℕ, ◌+◌, ◌*◌, ◌-◌, ◌/◌, ◌%◌, ◌<◌, ◌≤◌, ◌==◌, Bool, true, false, List, [], ◌∷◌, length, drop, set, get_or, refl, sym, ap, ◌∙◌, subst, arith}
use Rattle.std.specs.Prelude.{not, ◌||◌, if◌then◌else◌, slice_range, IsTrue}
use Rattle.std.specs.Int.{bit_at}
use Rattle.std.proofs.lemmas.Nat.{div-mul-add, mod-mul-add}
use Rattle.std.proofs.lemmas.Bool.{cases_eq, cases_lt, eq-eqb, eqb-true, leb-true}
use Rattle.std.proofs.lemmas.List.{get_or-take, get_or-drop, get_or-set_same, get_or-set_other, length-drop, take_all}
use Rattle.edge_base.specs.declared.geometry.Request.{Request}
use Rattle.edge_base.specs.layout.Bitmap.{bit_under, live_place}
use Rattle.edge_base.specs.layout.Bytes.{bit_in, number_at, signature_in}
use Rattle.edge_base.specs.layout.Places.{is_inline_of, imap_nodes_of, imap_place_of, table_start_of, allocable_of}
use Rattle.edge_base.specs.layout.Sizes.{is_block_size, node_bits}
use Rattle.edge_base.specs.layout.Spelling.{bits_of_node}
use Rattle.edge_base.specs.layout.Word.{check_word_of}
use Rattle.edge_base.proofs.LayoutLaws.{node_of_bit}
use Rattle.edge_cache.specs.Blocks.{put_at, sealed, changed_by, word_holds_in}
use Rattle.edge_cache.proofs.GivenLaws.{not_eq}
use Rattle.edge_cache.proofs.SealLaws.{length-put_at, length-sealed, get_below, get_inside, get_behind, back_agrees, put_at-whole, take-put_at, take-sealed, drop-sealed}
use Rattle.edge_nodes.proofs.WritingLaws.{signature_in-front, number_at-back, number_at-front, set_changes, slice_index-back}
use Rattle.edge_nodes.specs.Writing.{ChangesOnly}
use Rattle.edge_imap.specs.Bitmaps.{IsNode, HoldsBit, spare_place, node_of, bits_of, first_bit}
use Rattle.edge_imap.specs.Reading.{ChangesBit, ChangesCopy}

-- ---- one bit

pub bit_is : (from : ℕ) (b : List ℕ) (k : ℕ) → bit_in from b k ≡ (bit_at (get_or b (from + k / 8) 0) (k % 8) == 1)
unfolding bit_in
bit_is from b k = refl

-- a bitmap behind the first bytes of a block
pub bit_in-drop : (b : List ℕ) (k : ℕ) → bit_in 0 (drop 16 b) k ≡ bit_in 16 b k
bit_in-drop b k =
    let at : 16 + (0 + k / 8) ≡ 16 + k / 8 = omega arith in
    bit_is 0 (drop 16 b) k ∙ ap (λ (y : ℕ). bit_at y (k % 8) == 1) (get_or-drop 16 b (0 + k / 8) 0 ∙ ap (λ (i : ℕ). get_or b i 0) at) ∙ sym (bit_is 16 b k)

-- a byte that was read
pub read_byte : (b out : List ℕ) (n m : ℕ) → m ≡ n + 1 → out ≡ slice_range b n m → get_or out 0 0 ≡ get_or b n 0
read_byte b out n m e is =
    let one : 0 < m - n = omega arith in
    ap (λ (l : List ℕ). get_or l 0 0) is ∙ get_or-take (m - n) (drop n b) 0 0 one ∙ get_or-drop n b 0 0 ∙ ap (λ (i : ℕ). get_or b i 0) (omega arith)

-- the bit of a byte that was read
pub bit_of_byte : (b out : List ℕ) (at m : ℕ) → m ≡ 16 + at / 8 + 1 → out ≡ slice_range b (16 + at / 8) m → bit_in 0 out (at % 8) ≡ bit_in 16 b at
bit_of_byte b out at m e is =
    let low : 0 + at % 8 / 8 ≡ 0 = omega arith in
    let same : at % 8 % 8 ≡ at % 8 = omega arith in
    bit_is 0 out (at % 8) ∙ (λ i. bit_at (get_or out (low i) 0) (same i) == 1) ∙ ap (λ (y : ℕ). bit_at y (at % 8) == 1) (read_byte b out (16 + at / 8) m e is) ∙ sym (bit_is 16 b at)

-- a block that was read whole
pub whole_read : (b out : List ℕ) → length b ≡ length out → slice_range b 0 (0 + length out) ≡ b
whole_read b out e = let all : length b ≤ 0 + length out - 0 = omega (arith, e) in take_all (0 + length out - 0) b all

-- ---- sizes

pub record IsLong (n : ℕ) : Type 0 where
  pub least : 512 ≤ n
  pub most : n ≤ 4096

pub long_blocks : (n : ℕ) → IsTrue (is_block_size n) → IsLong n
long_blocks n h = or_elim ((n == 512) || (n == 1024) || (n == 2048)) (n == 4096) (IsLong n) h
    (λ r. or_elim ((n == 512) || (n == 1024)) (n == 2048) (IsLong n) r
    (λ r. or_elim (n == 512) (n == 1024) (IsLong n) r
    (λ e. by n 512 (eqb-true n 512 e) (omega arith) (omega arith))
    (λ e. by n 1024 (eqb-true n 1024 e) (omega arith) (omega arith)))
    (λ e. by n 2048 (eqb-true n 2048 e) (omega arith) (omega arith)))
    (λ e. by n 4096 (eqb-true n 4096 e) (omega arith) (omega arith))
  where
    by : (n m : ℕ) → n ≡ m → 512 ≤ m → m ≤ 4096 → IsLong n
    by n m e low high = record { least = omega (arith, e, low); most = omega (arith, e, high) }

    or_elim : (a b : Bool) (P : Type 0) → (a || b) ≡ true → (a ≡ true → P) → (b ≡ true → P) → P
    or_elim true b P h f r = f refl
    or_elim false b P h f r = r h

-- a bit of a metaroot's bitmap lies in it
pub root_fits : (g : Request) (bit : ℕ) (roots : List ℕ) → is_inline_of g ≡ true → bit < bits_of g → length roots + 32 ≡ g.block_size → bit < 8 * length roots
root_fits g bit roots inline low len =
    let fits : g.blocks - 3 ≤ 8 * (g.block_size - 32) = leb-true (g.blocks - 3) (8 * (g.block_size - 32)) inline in
    omega (arith, low, len, fits)

-- a bit of a node lies in its block
pub rest_inside : (bit n size disk_size : ℕ) → IsLong size → n ≡ node_bits size → disk_size ≡ size → 16 + bit % n / 8 < disk_size
rest_inside bit n size disk_size long e same =
    let some : 0 < n = omega (arith, e, long.least) in
    let low : bit % n < n = omega (arith, some) in
    omega (arith, low, e, same, long.least)

-- the first bit of a node is in it
pub node_start : (j n : ℕ) → 0 < n → j * n / n ≡ j
node_start j n some = let none : j * n ≡ j * n + 0 = omega arith in ap (λ (m : ℕ). m / n) none ∙ div-mul-add j n 0 some

-- a window of the bits of a node lies in the bytes of its bits
pub bits_room : (first len : ℕ) (bits b : List ℕ) (size : ℕ) → bits ≡ drop 16 b → length b ≡ size → first + len ≤ 8 * (size - 16) → first + len ≤ 8 * length bits
bits_room first len bits b size e same inside = omega (arith, inside, same, ap length e, length-drop 16 b)

-- the allocable bits of a metaroot's bitmap lie in it
pub roots_room : (g : Request) (roots : List ℕ) (first len : ℕ) → is_inline_of g ≡ true → 3 ≤ allocable_of g → first ≡ first_bit g → len ≡ allocable_of g → length roots + 32 ≡ g.block_size → first + len ≤ 8 * length roots
roots_room g roots first len inline room at count same =
    let fits : g.blocks - 3 ≤ 8 * (g.block_size - 32) = leb-true (g.blocks - 3) (8 * (g.block_size - 32)) inline in
    omega (arith, fits, room, at, count, same)

-- a bit lies in one of the nodes
pub node_below : (g : Request) (bit : ℕ) → IsLong g.block_size → is_inline_of g ≡ false → bit < bits_of g → bit / node_bits g.block_size < imap_nodes_of g
node_below g bit long external low =
    let at : bit + table_start_of g - table_start_of g ≡ bit = omega arith in
    subst (λ (b : ℕ). b / node_bits g.block_size < imap_nodes_of g) at (node_of_bit g (omega (arith, long.least)) external (bit + table_start_of g) (omega arith) (omega (arith, low)))

-- the block of the node that has a bit
pub holds_bit : (g : Request) (roots : List ℕ) (bit n k : ℕ) → n ≡ node_of g bit → n < imap_nodes_of g → k ≡ live_place g roots n → HoldsBit g roots bit k
holds_bit g roots bit n k e low is = (subst (λ (i : ℕ). i < imap_nodes_of g) e low, is ∙ ap (live_place g roots) e)

-- ---- places of nodes

-- places of other nodes are other blocks
pub place_apart : (g : Request) (i j : ℕ) (s t : Bool) → i ≢ j → imap_place_of g i s ≢ imap_place_of g j t
place_apart g i j true true far = λ e. far (omega arith)
place_apart g i j true false far = λ e. far (omega arith)
place_apart g i j false true far = λ e. far (omega arith)
place_apart g i j false false far = λ e. far (omega arith)

-- a place that is not live is no live one
pub spare_apart : (g : Request) (roots : List ℕ) (i j : ℕ) → live_place g roots i ≢ spare_place g roots j
spare_apart g roots i j = elim (cases_eq i j) [
  | inl e ↦ λ h. by_bit (bit_in 0 roots i) (bit_in 0 roots j) (ap (bit_in 0 roots) e) h
  | inr far ↦ place_apart g i j (bit_in 0 roots i) (not (bit_in 0 roots j)) far
]
  where
    by_bit : (s t : Bool) → s ≡ t → imap_place_of g i s ≡ imap_place_of g j (not t) → ⊥
    by_bit true true e f = omega arith
    by_bit true false e f = cc e
    by_bit false true e f = cc e
    by_bit false false e f = omega arith

-- ---- bits of the lists

pub bit_of_root : (g : Request) (roots : List ℕ) (content : ℕ → List ℕ) (i : ℕ) → is_inline_of g ≡ true → bit_under g roots content i ≡ bit_in 0 roots i
bit_of_root g roots content i inline = ap (λ (t : Bool). if t then bit_in 0 roots i else bit_in 16 (content (live_place g roots (i / node_bits g.block_size))) (i % node_bits g.block_size)) inline

pub bit_of_node : (g : Request) (roots : List ℕ) (content : ℕ → List ℕ) (i : ℕ) → is_inline_of g ≡ false
    → bit_under g roots content i ≡ bit_in 16 (content (live_place g roots (i / node_bits g.block_size))) (i % node_bits g.block_size)
bit_of_node g roots content i external = ap (λ (t : Bool). if t then bit_in 0 roots i else bit_in 16 (content (live_place g roots (i / node_bits g.block_size))) (i % node_bits g.block_size)) external

-- bit i of node j
pub bit_in_node : (g : Request) (roots : List ℕ) (content : ℕ → List ℕ) (j i : ℕ) → is_inline_of g ≡ false → i < node_bits g.block_size
    → bit_under g roots content (j * node_bits g.block_size + i) ≡ bit_in 16 (content (live_place g roots j)) i
bit_in_node g roots content j i external low =
    bit_of_node g roots content (j * node_bits g.block_size + i) external
    ∙ (λ z. bit_in 16 (content (live_place g roots (div-mul-add j (node_bits g.block_size) i low z))) (mod-mul-add j (node_bits g.block_size) i low z))

-- the list is the same where what its nodes hold is
pub bit_under-same : (g : Request) (roots : List ℕ) (old new : ℕ → List ℕ) (i : ℕ) → (is_inline_of g ≡ false → new (live_place g roots (i / node_bits g.block_size)) ≡ old (live_place g roots (i / node_bits g.block_size)))
    → bit_under g roots new i ≡ bit_under g roots old i
bit_under-same g roots old new i same = by_kind (is_inline_of g) refl
  where
    by_kind : (t : Bool) → is_inline_of g ≡ t → bit_under g roots new i ≡ bit_under g roots old i
    by_kind true e = bit_of_root g roots new i e ∙ sym (bit_of_root g roots old i e)
    by_kind false e = bit_of_node g roots new i e ∙ ap (λ (b : List ℕ). bit_in 16 b (i % node_bits g.block_size)) (same e) ∙ sym (bit_of_node g roots old i e)

pub contents_same : (g : Request) (roots : List ℕ) (old new : ℕ → List ℕ) → ((k : ℕ) → new k ≡ old k) → (i : ℕ) → bit_under g roots new i ≡ bit_under g roots old i
contents_same g roots old new same i = bit_under-same g roots old new i (λ e. same (live_place g roots (i / node_bits g.block_size)))

-- a change at a place that is not live leaves the list
pub committed_stays : (g : Request) (roots : List ℕ) (old new : ℕ → List ℕ) (node : ℕ) → ((k : ℕ) → k ≢ spare_place g roots node → new k ≡ old k) → (i : ℕ) → bit_under g roots new i ≡ bit_under g roots old i
committed_stays g roots old new node others i = bit_under-same g roots old new i (λ e. others (live_place g roots (i / node_bits g.block_size)) (spare_apart g roots (i / node_bits g.block_size) node))

-- a bit of the metaroot's bitmap was changed
pub root_changes : (g : Request) (roots next : List ℕ) (old new : ℕ → List ℕ) (bit : ℕ) (used : Bool) → is_inline_of g ≡ true → bit_in 0 next bit ≡ used → ((k : ℕ) → k ≢ bit → bit_in 0 next k ≡ bit_in 0 roots k)
    → (i : ℕ) → bit_under g next new i ≡ (if i == bit then used else bit_under g roots old i)
root_changes g roots next old new bit used inline here others i = bit_of_root g next new i inline ∙ elim (cases_eq i bit) [
  | inl e ↦ ap (bit_in 0 next) e ∙ here ∙ sym (ap (λ (t : Bool). if t then used else bit_under g roots old i) (eq-eqb i bit e))
  | inr far ↦ others i far ∙ sym (bit_of_root g roots old i inline) ∙ sym (ap (λ (t : Bool). if t then used else bit_under g roots old i) (not_eq i bit far))
]

-- a bit of a node was changed at the place that the new bits name
pub node_changes : (g : Request) (roots next : List ℕ) (old new : ℕ → List ℕ) (bit : ℕ) (used : Bool) → is_inline_of g ≡ false → 16 < g.block_size
    → ((j : ℕ) → j ≢ node_of g bit → bit_in 0 next j ≡ bit_in 0 roots j)
    → ((k : ℕ) → k ≢ live_place g next (node_of g bit) → new k ≡ old k)
    → ChangesBit (node_bits g.block_size) (bit % node_bits g.block_size) used (old (live_place g roots (node_of g bit))) (new (live_place g next (node_of g bit)))
    → (i : ℕ) → bit_under g next new i ≡ (if i == bit then used else bit_under g roots old i)
node_changes g roots next old new bit used external long roots_stay others change i =
    bit_of_node g next new i external ∙ elim (cases_eq i bit) [
      | inl e ↦ (λ z. bit_in 16 (new (live_place g next (e z / node_bits g.block_size))) (e z % node_bits g.block_size)) ∙ change.here ∙ sym (ap (λ (t : Bool). if t then used else bit_under g roots old i) (eq-eqb i bit e))
      | inr far ↦ other far ∙ sym (bit_of_node g roots old i external) ∙ sym (ap (λ (t : Bool). if t then used else bit_under g roots old i) (not_eq i bit far))
    ]
  where
    whole : (m : ℕ) → node_bits g.block_size * (m / node_bits g.block_size) + m % node_bits g.block_size ≡ m
    whole m = omega arith

    other : i ≢ bit → bit_in 16 (new (live_place g next (i / node_bits g.block_size))) (i % node_bits g.block_size) ≡ bit_in 16 (old (live_place g roots (i / node_bits g.block_size))) (i % node_bits g.block_size)
    other far = elim (cases_eq (i / node_bits g.block_size) (bit / node_bits g.block_size)) [
      | inl e ↦
          let off : i % node_bits g.block_size ≢ bit % node_bits g.block_size = λ f. far (sym (whole i) ∙ (λ z. node_bits g.block_size * e z + f z) ∙ whole bit) in
          ap (λ (m : ℕ). bit_in 16 (new (live_place g next m)) (i % node_bits g.block_size)) e ∙ change.others (i % node_bits g.block_size) (omega arith) off
          ∙ ap (λ (m : ℕ). bit_in 16 (old (live_place g roots m)) (i % node_bits g.block_size)) (sym e)
      | inr off ↦
          let place : live_place g next (i / node_bits g.block_size) ≡ live_place g roots (i / node_bits g.block_size) = ap (imap_place_of g (i / node_bits g.block_size)) (roots_stay (i / node_bits g.block_size) off) in
          ap (λ (b : List ℕ). bit_in 16 b (i % node_bits g.block_size))
          (others (live_place g next (i / node_bits g.block_size)) (place_apart g (i / node_bits g.block_size) (bit / node_bits g.block_size) (bit_in 0 next (i / node_bits g.block_size)) (bit_in 0 next (bit / node_bits g.block_size)) off) ∙ ap old place)
    ]

-- ---- blocks that are changed

-- a byte of a bitmap was replaced
pub byte_changes : (n at x : ℕ) (used : Bool) (old new : List ℕ) → length new ≡ length old → word_holds_in new ≡ true → signature_in new ≡ signature_in old
    → get_or new (16 + at / 8) 0 ≡ x → ((m : ℕ) → 16 ≤ m → m ≢ 16 + at / 8 → get_or new m 0 ≡ get_or old m 0)
    → (bit_at x (at % 8) == 1) ≡ used → ((k : ℕ) → k < 8 → k ≢ at % 8 → (bit_at x k == 1) ≡ (bit_at (get_or old (16 + at / 8) 0) k == 1))
    → ChangesBit n at used old new
byte_changes n at x used old new len word signature byte rest here others = record {
  here = bit_is 16 new at ∙ ap (λ (y : ℕ). bit_at y (at % 8) == 1) byte ∙ here;
  others = λ k low far. bit_is 16 new k ∙ elim (cases_eq (k / 8) (at / 8)) [
    | inl same ↦
        let off : k % 8 ≢ at % 8 = λ f. far (omega (arith, same, f)) in
        ap (λ (m : ℕ). bit_at (get_or new (16 + m) 0) (k % 8) == 1) same ∙ ap (λ (y : ℕ). bit_at y (k % 8) == 1) byte
        ∙ others (k % 8) (omega arith) off ∙ ap (λ (m : ℕ). bit_at (get_or old (16 + m) 0) (k % 8) == 1) (sym same) ∙ sym (bit_is 16 old k)
    | inr off ↦ ap (λ (y : ℕ). bit_at y (k % 8) == 1) (rest (16 + k / 8) (omega arith) (λ f. off (omega (arith, f)))) ∙ sym (bit_is 16 old k)
  ];
  len = len;
  signature = signature;
  word = word;
}

sealed_byte : (x : List ℕ) (m : ℕ) → 8 ≤ length x → 8 ≤ m → get_or (sealed x) m 0 ≡ get_or x m 0
sealed_byte x m h le = ap (λ (i : ℕ). get_or (sealed x) i 0) (omega arith) ∙ back_agrees x (m - 8) 0 h ∙ ap (λ (i : ℕ). get_or x i 0) (omega arith)

sealed_signature : (x : List ℕ) → 8 ≤ length x → signature_in (sealed x) ≡ signature_in x
sealed_signature x h = signature_in-front 4 (sealed x) x (omega arith) (take-sealed x h)

-- one byte was written, marked as a node's
pub put_changes : (n at x : ℕ) (used : Bool) (old new : List ℕ) → 16 + at / 8 < length old → word_holds_in new ≡ true → new ≡ changed_by (16 + at / 8) (x ∷ []) true old
    → (bit_at x (at % 8) == 1) ≡ used → ((k : ℕ) → k < 8 → k ≢ at % 8 → (bit_at x k == 1) ≡ (bit_at (get_or old (16 + at / 8) 0) k == 1))
    → ChangesBit n at used old new
put_changes n at x used old new inside word is here others =
    let put = put_at (16 + at / 8) (x ∷ []) old in
    let len : length put ≡ length old = length-put_at (16 + at / 8) (x ∷ []) old (omega arith) in
    let long : 8 ≤ length put = omega (arith, len) in
    let none : 16 + at / 8 - (16 + at / 8) ≡ 0 = omega arith in
    byte_changes n at x used old new (ap length is ∙ length-sealed put long ∙ len) word
    (ap signature_in is ∙ sealed_signature put long ∙ signature_in-front 4 put old (omega arith) (take-put_at (16 + at / 8) 4 (x ∷ []) old (omega arith) (omega arith)))
    (ap (λ (l : List ℕ). get_or l (16 + at / 8) 0) is ∙ sealed_byte put (16 + at / 8) long (omega arith)
    ∙ get_inside (16 + at / 8) (x ∷ []) old (16 + at / 8) 0 (omega arith) (omega arith) (omega arith) ∙ ap (λ (i : ℕ). get_or (x ∷ []) i 0) none)
    (λ m le far. ap (λ (l : List ℕ). get_or l m 0) is ∙ sealed_byte put m long (omega arith) ∙ elim (cases_lt m (16 + at / 8)) [
      | inl low ↦ get_below (16 + at / 8) (x ∷ []) old m 0 (omega arith) low
      | inr high ↦ get_behind (16 + at / 8) (x ∷ []) old m 0 (omega arith) (omega arith)
    ])
    here others

-- and the sequence number stays
pub put_sequence : (at x : ℕ) (old new : List ℕ) → 16 + at / 8 < length old → new ≡ changed_by (16 + at / 8) (x ∷ []) true old → number_at 8 8 new ≡ number_at 8 8 old
put_sequence at x old new inside is =
    let put = put_at (16 + at / 8) (x ∷ []) old in
    let len : length put ≡ length old = length-put_at (16 + at / 8) (x ∷ []) old (omega arith) in
    ap (number_at 8 8) is ∙ number_at-back 8 8 8 (sealed put) put (omega arith) (drop-sealed 8 put (omega (arith, len)) (omega arith))
    ∙ number_at-front 16 8 8 put old (omega arith) (take-put_at (16 + at / 8) 16 (x ∷ []) old (omega arith) (omega arith))

-- a whole block was written, marked as a node's
pub copy_changes : (n at : ℕ) (used : Bool) (old spare put new : List ℕ) → 16 + at / 8 < length old → length put ≡ length old → length spare ≡ length old → word_holds_in new ≡ true
    → new ≡ changed_by 0 put true spare → ChangesCopy at used old put → ChangesBit n at used old new
copy_changes n at used old spare put new inside len len_spare word is change =
    let long : 8 ≤ length put = omega (arith, len) in
    let whole : new ≡ sealed put = is ∙ ap sealed (put_at-whole put spare (len ∙ sym len_spare)) in
    byte_changes n at (get_or put (16 + at / 8) 0) used old new (ap length whole ∙ length-sealed put long ∙ len) word
    (ap signature_in whole ∙ sealed_signature put long ∙ change.signature)
    (ap (λ (l : List ℕ). get_or l (16 + at / 8) 0) whole ∙ sealed_byte put (16 + at / 8) long (omega arith))
    (λ m le far. ap (λ (l : List ℕ). get_or l m 0) whole ∙ sealed_byte put m long (omega arith) ∙ change.bytes m le far)
    change.here change.others

pub copy_sequence : (spare put new : List ℕ) → 16 ≤ length put → length spare ≡ length put → new ≡ changed_by 0 put true spare → number_at 8 8 new ≡ number_at 8 8 put
copy_sequence spare put new long len is =
    let whole : new ≡ sealed put = is ∙ ap sealed (put_at-whole put spare (sym len)) in
    ap (number_at 8 8) whole ∙ number_at-back 8 8 8 (sealed put) put (omega arith) (drop-sealed 8 put (omega arith) (omega arith))

-- a byte of a block whose first bytes changed was replaced
pub copy_byte : (at x : ℕ) (used : Bool) (old mid new : List ℕ) → 16 + at / 8 < length mid → ChangesOnly 8 16 old mid → new ≡ set mid (16 + at / 8) x
    → (bit_at x (at % 8) == 1) ≡ used → ((k : ℕ) → k < 8 → k ≢ at % 8 → (bit_at x k == 1) ≡ (bit_at (get_or mid (16 + at / 8) 0) k == 1)) → ChangesCopy at used old new
copy_byte at x used old mid new inside kept is here others =
    let set_in = set mid (16 + at / 8) x in
    let byte : get_or new (16 + at / 8) 0 ≡ x = ap (λ (l : List ℕ). get_or l (16 + at / 8) 0) is ∙ get_or-set_same mid (16 + at / 8) x 0 inside in
    let rest : (m : ℕ) → 16 ≤ m → get_or mid m 0 ≡ get_or old m 0 = λ m le. slice_index-back 16 m mid old le (kept.back 16 (omega arith)) in
    record {
      here = ap (λ (y : ℕ). bit_at y (at % 8) == 1) byte ∙ here;
      others = λ k low far. ap (λ (y : ℕ). bit_at y k == 1) byte ∙ others k low far ∙ ap (λ (y : ℕ). bit_at y k == 1) (rest (16 + at / 8) (omega arith));
      bytes = λ m le far. ap (λ (l : List ℕ). get_or l m 0) is ∙ get_or-set_other mid (16 + at / 8) m x 0 far ∙ rest m le;
      signature = ap signature_in is ∙ (set_changes (16 + at / 8) x mid).signature (omega arith) ∙ kept.signature (omega arith);
    }

word_of : (b : List ℕ) → word_holds_in b ≡ true → number_at 4 4 b ≡ check_word_of (drop 8 b)
unfolding word_holds_in
word_of b h = eqb-true _ _ h

-- a node with one bit changed is a node
pub node_with_bit : (g : Request) (j at : ℕ) (used : Bool) (old new : List ℕ) → at < bits_of_node g j → ChangesBit (8 * (g.block_size - 16)) at used old new → IsNode g j old → IsNode g j new
node_with_bit g j at used old new low change was =
    let was_len : length old ≡ g.block_size = was.len in
    record {
      len = change.len ∙ was.len;
      in_range = was.in_range;
      node = record {
        signature_is = change.signature ∙ was.node.signature_is;
        word_is = word_of new change.word;
        sequence_is = refl;
      };
      bitmap = refl;
      unused = λ k from to. change.others k (omega (arith, to, change.len, was_len)) (λ e. omega (arith, from, low, e)) ∙ was.unused k from (omega (arith, to, change.len));
    }
