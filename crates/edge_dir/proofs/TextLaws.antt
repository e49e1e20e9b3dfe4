-- The bytes of a directory by its slots, and what they are where one slot is set.
use Rattle.std.proofs.Common.{◌≡◌, ◌∙◌, ℕ, ◌+◌, ◌-◌, ◌*◌, ◌/◌, ◌%◌, ◌<◌, ◌≤◌, ◌&&◌, inl, inr, List, length, drop, Option, refl, sym, ap, arith}
use Rattle.std.specs.Prelude.{map, nat_le, nat_lt, slice_index}
use Rattle.std.specs.List.{range_with_len}
use Rattle.std.proofs.lemmas.Bool.{cases_eq, cases_lt, cond-true, cond-false}
use Rattle.std.proofs.lemmas.Bool.Decides.{nat_tests}
use Rattle.std.proofs.lemmas.List.{get_or-drop, get_or-take}
use Rattle.std.proofs.lemmas.Nat.{div-add-mod', div-mul-add, mod-mul-add}
use Rattle.std.proofs.Math.Nat.{div-lt_iff_lt-mul, mod-lt}
use Rattle.edge_base.specs.declared.geometry.Request.{Request}
use Rattle.edge_base.specs.layout.Places.{IsWithinLimits}
use Rattle.edge_base.specs.tree.NodeRules.{IsDirectory}
use Rattle.edge_base.specs.tree.Nodes.{block_of, directory}
use Rattle.edge_base.specs.tree.Slots.{Entry, Slots, slot_blocks, slot_bytes, slots_in_block}
use Rattle.edge_slots.proofs.DirectoryLaws.{block_rest, block_slot}
use Rattle.edge_file.specs.Bytes.{with_bytes}
use Rattle.edge_dir.specs.Directory.{slot_of}
use Rattle.edge_dir.specs.Written.{BecomesSlot, IsSetTo, place_of_slot}
use Rattle.edge_dir.proofs.EndLaws.{slot_before_end, slots_fit, some_slots}

-- byte k of the blocks of a directory, one behind the other
abbrev pub byte_in_slots : Request → Slots → ℕ → ℕ
byte_in_slots g slots k = slice_index (block_of g (directory slots 0) (k / g.block_size)) (k % g.block_size)

-- they all
abbrev pub text_of : Request → Slots → List ℕ
text_of g slots = map (byte_in_slots g slots) (range_with_len 0 (slot_blocks g slots * g.block_size))

abbrev pub width : Request → ℕ
width g = 4 + g.name_max

module _ (g : Request) (slots : Slots) (rules : IsDirectory g slots) where
  -- byte x of block j, where a slot has it
  pub byte_of_slot : (j s q : ℕ) → s < slots_in_block g → q < width g
      → slice_index (block_of g (directory slots 0) j) (s * width g + q) ≡ slice_index (slot_bytes g (slot_of slots (j * slots_in_block g + s))) q
  byte_of_slot j s q low inner =
      let block = block_of g (directory slots 0) j in
      let whole : s * width g + width g - s * width g ≡ width g = omega arith in
      sym (get_or-drop (s * width g) block q 0)
      ∙ sym (get_or-take (s * width g + width g - s * width g) (drop (s * width g) block) q 0 (omega (arith, whole, inner)))
      ∙ ap (λ (l : List ℕ). slice_index l q) (block_slot g slots j s rules low)

  pub byte_behind : (j x : ℕ) → slots_in_block g * width g ≤ x → slice_index (block_of g (directory slots 0) j) x ≡ 0
  byte_behind j x past = block_rest g slots j rules.entries x past

-- ---- a write at a slot

pub with_in : (old : ℕ → ℕ) (at : ℕ) (new : List ℕ) (k : ℕ) → at ≤ k → k < at + length new → with_bytes old at new k ≡ slice_index new (k - at)
with_in old at new k low high = cond-true (nat_le at k && nat_lt k (at + length new)) (slice_index new (k - at)) (old k) (grind (arith, nat_tests))

pub with_out : (old : ℕ → ℕ) (at : ℕ) (new : List ℕ) (k : ℕ) → (at ≤ k → k < at + length new → ⊥) → with_bytes old at new k ≡ old k
with_out old at new k out = cond-false (nat_le at k && nat_lt k (at + length new)) (slice_index new (k - at)) (old k) (grind (arith, nat_tests))

-- what is written of slot k lies there
place_in : (g : Request) (k len x : ℕ) → IsWithinLimits g → len ≤ width g → place_of_slot g k ≤ x → x < place_of_slot g k + len
    → (x / g.block_size ≡ k / slots_in_block g) × (x % g.block_size ≡ k % slots_in_block g * width g + (x - place_of_slot g k)) × (x % g.block_size < slots_in_block g * width g)
place_in g k len x limits short low high =
    let i = k / slots_in_block g in
    let t = k % slots_in_block g in
    let inner : t < slots_in_block g = mod-lt k (some_slots g limits) in
    let end = slot_before_end g t inner in
    let r = t * width g + (x - place_of_slot g k) in
    let within : r < slots_in_block g * width g = omega (arith, end, short, low, high) in
    let fits : r < g.block_size = omega (arith, within, slots_fit g) in
    let same : i * g.block_size + r ≡ x = omega (arith, low) in
    let row : x % g.block_size ≡ r = ap (λ (y : ℕ). y % g.block_size) (sym same) ∙ mod-mul-add i g.block_size r fits in (
      ap (λ (y : ℕ). y / g.block_size) (sym same) ∙ div-mul-add i g.block_size r fits,
      row,
      omega (arith, row, within),
    )

module _ (g : Request) (slots after : Slots) (limits : IsWithinLimits g) (old : IsDirectory g slots) (now : IsDirectory g after) (k : ℕ) (slot : Option Entry) (new : List ℕ)
    (short : length new ≤ width g) (becomes : BecomesSlot g (slot_of slots k) new slot) (set : IsSetTo slots after k slot) where
  -- byte x, which is byte q of slot s of block j
  in_slot : (x j s q : ℕ) → s < slots_in_block g → q < width g → x / g.block_size ≡ j → x % g.block_size ≡ s * width g + q
      → byte_in_slots g after x ≡ with_bytes (byte_in_slots g slots) (place_of_slot g k) new x
  in_slot x j s q low inner block row =
      let n = slots_in_block g in
      let at = place_of_slot g k in
      let is : byte_in_slots g after x ≡ slice_index (slot_bytes g (slot_of after (j * n + s))) q =
      (λ z. slice_index (block_of g (directory after 0) (block z)) (row z)) ∙ byte_of_slot g after now j s q low inner in
      let was : byte_in_slots g slots x ≡ slice_index (slot_bytes g (slot_of slots (j * n + s))) q =
      (λ z. slice_index (block_of g (directory slots 0) (block z)) (row z)) ∙ byte_of_slot g slots old j s q low inner in
      elim (cases_eq (j * n + s) k) [
        | inl here ↦
            let own_block : k / n ≡ j = ap (λ (y : ℕ). y / n) (sym here) ∙ div-mul-add j n s low in
            let own_slot : k % n ≡ s = ap (λ (y : ℕ). y % n) (sym here) ∙ mod-mul-add j n s low in
            let begin : at ≡ j * g.block_size + s * width g = (λ z. own_block z * g.block_size + own_slot z * width g) in
            let split : x ≡ j * g.block_size + (s * width g + q) = sym (div-add-mod' x g.block_size) ∙ (λ z. block z * g.block_size + row z) in
            let after_is : byte_in_slots g after x ≡ with_bytes (slice_index (slot_bytes g (slot_of slots k))) 0 new q =
            is ∙ ap (λ (y : ℕ). slice_index (slot_bytes g (slot_of after y)) q) here ∙ ap (λ (o : Option Entry). slice_index (slot_bytes g o) q) set.0 ∙ becomes q inner in
            elim (cases_lt q (length new)) [
              | inl few ↦
                  after_is ∙ with_in (slice_index (slot_bytes g (slot_of slots k))) 0 new q (omega arith) (omega (arith, few))
                  ∙ ap (slice_index new) (let e : q - 0 ≡ x - at = omega (arith, begin, split) in e)
                  ∙ sym (with_in (byte_in_slots g slots) at new x (omega (arith, begin, split)) (omega (arith, begin, split, few)))
              | inr many ↦
                  after_is ∙ with_out (slice_index (slot_bytes g (slot_of slots k))) 0 new q (λ _ high. omega (arith, many, high))
                  ∙ ap (λ (y : ℕ). slice_index (slot_bytes g (slot_of slots y)) q) (sym here) ∙ sym was
                  ∙ sym (with_out (byte_in_slots g slots) at new x (λ _ high. omega (arith, begin, split, many, high)))
            ]
        | inr apart ↦
            is ∙ ap (λ (o : Option Entry). slice_index (slot_bytes g o) q) (set.1 (j * n + s) apart) ∙ sym was
            ∙ sym (with_out (byte_in_slots g slots) at new x (λ from to.
            let p = place_in g k (length new) x limits short from to in
            let low_q : x - at < width g = omega (arith, short, to, from) in
            let same_row : s * width g + q ≡ k % n * width g + (x - at) = sym row ∙ p.1 in
            let same_slot : s ≡ k % n = sym (div-mul-add s (width g) q inner) ∙ ap (λ (y : ℕ). y / width g) same_row ∙ div-mul-add (k % n) (width g) (x - at) low_q in
            apart ((λ z. (sym block ∙ p.0) z * n + same_slot z) ∙ div-add-mod' k n)))
      ]

  pub set_bytes : (x : ℕ) → byte_in_slots g after x ≡ with_bytes (byte_in_slots g slots) (place_of_slot g k) new x
  set_bytes x = elim (cases_lt (x % g.block_size) (slots_in_block g * width g)) [
    | inl inside ↦
        let wide : 0 < width g = omega arith in
        in_slot x (x / g.block_size) (x % g.block_size / width g) (x % g.block_size % width g)
        ((div-lt_iff_lt-mul wide).1 inside) (mod-lt (x % g.block_size) wide) refl (sym (div-add-mod' (x % g.block_size) (width g)))
    | inr behind ↦
        byte_behind g after now (x / g.block_size) (x % g.block_size) behind ∙ sym (byte_behind g slots old (x / g.block_size) (x % g.block_size) behind)
        ∙ sym (with_out (byte_in_slots g slots) (place_of_slot g k) new x (λ from to. let p = place_in g k (length new) x limits short from to in omega (arith, behind, p.2)))
  ]
