-- How many slots and blocks a directory has of which a slot was set, and the bytes of that slot.
use Rattle.std.proofs.Common.{◌≡◌, ◌∙◌, ℕ, ◌+◌, ◌-◌, ◌*◌, ◌/◌, ◌<◌, ◌≤◌, max, inl, inr, List, ◌++◌, length, Option, Some, None, sym, ap, arith}
use Rattle.std.specs.Prelude.{replicate, slice_index}
use Rattle.std.proofs.lemmas.Bool.{cases_lt}
use Rattle.std.proofs.lemmas.List.{get_or-append_right}
use Rattle.std.proofs.Math.ListN.{get_or-append}
use Rattle.std.proofs.Math.Nat.{add-mul-div_right, div-mul-le_self, le-div_iff_mul-le}
use Rattle.byteorder.specs.Endian.{little_bytes}
use Rattle.byteorder.specs.Numbers.{length-bytes_low_first}
use Rattle.edge_base.specs.declared.geometry.Request.{Request}
use Rattle.edge_base.specs.tree.Slots.{Entry, Slots, pieces, slot_bytes, trimmed}
use Rattle.edge_slots.specs.Slot.{entry_of}
use Rattle.edge_dir.specs.Directory.{slot_of}
use Rattle.edge_dir.specs.Written.{BecomesSlot, IsSetTo}
use Rattle.edge_dir.proofs.SlotLaws.{before_end, last_is_filled, past_last}
use Rattle.edge_dir.proofs.TextLaws.{width, with_in, with_out}

-- ---- how many

pub length_filled : (slots after : Slots) (k : ℕ) (e : Entry) → trimmed slots ≡ slots → trimmed after ≡ after → IsSetTo slots after k (Some e) → length after ≡ max (length slots) (k + 1)
length_filled slots after k e trim trim_after set =
    let inside = before_end after k (λ none. let wrong : Some e ≡ None = sym set.0 ∙ none in absurd (cc)) in
    elim (cases_lt (max (length slots) (k + 1)) (length after)) [
      | inl more ↦
          let last = length after - 1 in
          let empty : slot_of after last ≡ None = set.1 last (λ is. omega (arith, is, more)) ∙ past_last slots last (omega (arith, more)) in
          absurd (last_is_filled after last trim_after (omega (arith, more)) empty)
      | inr few ↦ elim (cases_lt (length after) (length slots)) [
        | inl less ↦
            let last = length slots - 1 in
            let empty : slot_of slots last ≡ None = sym (set.1 last (λ is. omega (arith, is, less, inside))) ∙ past_last after last (omega (arith, less)) in
            absurd (last_is_filled slots last trim (omega (arith, less)) empty)
        | inr enough ↦ omega (arith, inside, few, enough)
      ]
    ]

div_less : (n a b : ℕ) → 0 < n → a ≤ b → a / n ≤ b / n
div_less n a b some less = let low = div-mul-le_self a n in (le-div_iff_mul-le some).1 (omega (arith, low, less))

pub pieces_less : (n a b : ℕ) → 0 < n → a ≤ b → pieces n a ≤ pieces n b
pieces_less n a b some less = div_less n (a + (n - 1)) (b + (n - 1)) some (omega (arith, less))

pub pieces_with : (n k : ℕ) → 0 < n → pieces n (k + 1) ≡ k / n + 1
pieces_with n k some = ap (λ (x : ℕ). x / n) (let e : k + 1 + (n - 1) ≡ k + 1 * n = omega arith in e) ∙ add-mul-div_right k 1 some

pub pieces_near : (n k count : ℕ) → 0 < n → k ≤ count → k / n ≤ pieces n count
pieces_near n k count some near = div_less n k (count + (n - 1)) some (omega (arith, near))

pub blocks_filled : (n k count after : ℕ) → 0 < n → after ≡ max count (k + 1) → pieces n after ≡ max (pieces n count) (k / n + 1)
blocks_filled n k count after some is =
    let one = pieces_with n k some in
    elim (cases_lt k count) [
      | inl low ↦
          let same : pieces n after ≡ pieces n count = ap (pieces n) (let e : after ≡ count = omega (arith, is, low) in e) in
          let least = pieces_less n (k + 1) count some (omega (arith, low)) in
          omega (arith, same, least, one)
      | inr end ↦
          let same : pieces n after ≡ pieces n (k + 1) = ap (pieces n) (let e : after ≡ k + 1 = omega (arith, is, end) in e) in
          let most = pieces_less n count (k + 1) some (omega (arith, end)) in
          omega (arith, same, most, one)
    ]

-- ---- the bytes of the slot

pub becomes_whole : (g : Request) (old slot : Option Entry) (new : List ℕ) → length new ≡ width g → new ≡ slot_bytes g slot → BecomesSlot g old new slot
becomes_whole g old slot new long is q low =
    ap (λ (l : List ℕ). slice_index l q) (sym is) ∙ ap (slice_index new) (let e : q ≡ q - 0 = omega arith in e) ∙ sym (with_in (slice_index (slot_bytes g old)) 0 new q (omega arith) (omega (arith, long, low)))

pub becomes_number : (g : Request) (e : Entry) (number : ℕ) → BecomesSlot g (Some e) (little_bytes 4 number) (Some (entry_of e.name number))
becomes_number g e number q low =
    let new = little_bytes 4 number in
    let rest = e.name ++ replicate (g.name_max - length e.name) 0 in
    let four : length new ≡ 4 = length-bytes_low_first 0 4 number in
    let was : length (little_bytes 4 e.number) ≡ 4 = length-bytes_low_first 0 4 e.number in
    elim (cases_lt q 4) [
      | inl few ↦ get_or-append new rest 0 q (omega (arith, four, few)) ∙ ap (slice_index new) (let e : q ≡ q - 0 = omega arith in e) ∙ sym (with_in (slice_index (slot_bytes g (Some e))) 0 new q (omega arith) (omega (arith, four, few)))
      | inr many ↦
          get_or-append_right new rest 4 q 0 four many ∙ sym (get_or-append_right (little_bytes 4 e.number) rest 4 q 0 was many)
          ∙ sym (with_out (slice_index (slot_bytes g (Some e))) 0 new q (λ _ high. omega (arith, four, many, high)))
    ]
