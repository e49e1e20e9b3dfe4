-- A directory held by a view as a file that has its bytes.
use Rattle.std.proofs.Common.{◌≡◌, ◌∙◌, ℕ, zero, suc, ◌+◌, ◌*◌, ◌/◌, ◌%◌, ◌<◌, ◌≤◌, ◌==◌, Bool, true, inl, inr, List, ◌∷◌, length, take, drop, refl, sym, ap, subst, arith}
use Rattle.std.specs.Prelude.{replicate, slice_index}
use Rattle.std.specs.List.{list_any, range_with_len}
use Rattle.std.proofs.lemmas.Bool.{cases_lt}
use Rattle.std.proofs.lemmas.Grind.{same_number_lists}
use Rattle.std.proofs.lemmas.List.{get_or-replicate}
use Rattle.std.proofs.lemmas.List.FromFn.{length-map-range_with_len, get_or-map-range_with_len}
use Rattle.std.proofs.lemmas.Nat.{div-add-mod', div-mul-add, mod-mul-add}
use Rattle.std.proofs.Math.ListN.{get_or-eq_default}
use Rattle.std.proofs.Math.Nat.{div-lt_iff_lt-mul, le-div_iff_mul-le, mod-lt, mul-le-mul_right}
use Rattle.edge_base.specs.declared.geometry.Request.{Request}
use Rattle.edge_base.specs.layout.Places.{IsWithinLimits}
use Rattle.edge_base.specs.tree.NodeRules.{IsDirectory}
use Rattle.edge_base.specs.tree.Nodes.{block_of, directory, file, indices_of, marked_from, padded}
use Rattle.edge_base.specs.tree.Slots.{Slots, slot_blocks, slot_bytes, slots_in_block}
use Rattle.edge_store.specs.Placed.{HasPlaces, HoldsNode}
use Rattle.edge_store.specs.View.{View, bytes}
use Rattle.edge_slots.proofs.DirectoryLaws.{block_long}
use Rattle.edge_file.proofs.FileLaws.{length-padded, padded_get}
use Rattle.edge_dir.proofs.EndLaws.{some_bytes, some_slots}
use Rattle.edge_dir.proofs.SlotLaws.{blocks_hold, past_last}
use Rattle.edge_dir.proofs.TextLaws.{byte_behind, byte_in_slots, byte_of_slot, text_of, width}

-- each block of a directory is there
abbrev pub flags_of : Request → Slots → List Bool
flags_of g slots = replicate (slot_blocks g slots) true

pub marked_all : (i count : ℕ) → marked_from i (replicate count true) ≡ range_with_len i count
marked_all i zero = refl
marked_all i (suc count) = ap (λ (l : List ℕ). i ∷ l) (marked_all (i + 1) count)

pub same_indices : (g : Request) (slots : Slots) (parent : ℕ) → indices_of g (file (text_of g slots) (flags_of g slots)) ≡ indices_of g (directory slots parent)
same_indices g slots parent = marked_all 0 (slot_blocks g slots)

module _ (g : Request) (slots : Slots) (rules : IsDirectory g slots) (limits : IsWithinLimits g) where
  -- behind the blocks there is nothing
  pub byte_beyond : (x : ℕ) → slot_blocks g slots ≤ x / g.block_size → byte_in_slots g slots x ≡ 0
  byte_beyond x past = elim (cases_lt r (n * width g)) [
    | inl inside ↦
        let wide : 0 < width g = omega arith in
        let s = r / width g in
        let q = r % width g in
        let low_q = mod-lt r wide in
        let low : s < n = (div-lt_iff_lt-mul wide).1 inside in
        let held = blocks_hold n (length slots) (some_slots g limits) in
        let more = mul-le-mul_right {m = slot_blocks g slots} {n = j} n past in
        ap (slice_index (block_of g (directory slots 0) j)) (sym (div-add-mod' r (width g))) ∙ byte_of_slot g slots rules j s q low low_q
        ∙ ap (λ o. slice_index (slot_bytes g o) q) (past_last slots (j * n + s) (omega (arith, held, more))) ∙ get_or-replicate (width g) q 0 0 low_q
    | inr behind ↦ byte_behind g slots rules j r behind
  ]
    where
      n : ℕ
      n = slots_in_block g

      j : ℕ
      j = x / g.block_size

      r : ℕ
      r = x % g.block_size

  -- byte x of the text
  pub text_byte : (x : ℕ) → slice_index (text_of g slots) x ≡ byte_in_slots g slots x
  text_byte x = elim (cases_lt x (slot_blocks g slots * g.block_size)) [
    | inl low ↦ get_or-map-range_with_len (byte_in_slots g slots) 0 (slot_blocks g slots * g.block_size) x x 0 low (omega arith)
    | inr past ↦
        get_or-eq_default (text_of g slots) 0 (let long = length-map-range_with_len (byte_in_slots g slots) 0 (slot_blocks g slots * g.block_size) in omega (arith, long, past))
        ∙ sym (byte_beyond x ((le-div_iff_mul-le (some_bytes g limits)).1 past))
  ]

  pub text_long : length (text_of g slots) ≡ slot_blocks g slots * g.block_size
  text_long = length-map-range_with_len (byte_in_slots g slots) 0 (slot_blocks g slots * g.block_size)

  pub text_block : (i : ℕ) → padded g (take g.block_size (drop (i * g.block_size) (text_of g slots))) ≡ block_of g (directory slots 0) i
  text_block i = same_number_lists (padded g (take g.block_size (drop (i * g.block_size) (text_of g slots)))) (block_of g (directory slots 0) i)
      (length-padded g (text_of g slots) (i * g.block_size) ∙ sym (block_long g slots i rules.entries))
      (λ r in_list.
      let low : r < g.block_size = subst (λ (m : ℕ). r < m) (length-padded g (text_of g slots) (i * g.block_size)) in_list in
      padded_get g (text_of g slots) (i * g.block_size) r low ∙ text_byte (i * g.block_size + r)
      ∙ (λ z. slice_index (block_of g (directory slots 0) (div-mul-add i g.block_size r low z)) (mod-mul-add i g.block_size r low z)))

  pub as_file : (v : View) (d parent : ℕ) → HoldsNode g v d (directory slots parent) → HoldsNode g v d (file (text_of g slots) (flags_of g slots))
  as_file v d parent holds = record {
    places = subst (HasPlaces g v d) (sym (same_indices g slots parent)) holds.places;
    contents = λ i there. holds.contents i (subst (λ l. list_any (λ k. k == i) l ≡ true) (same_indices g slots parent) there) ∙ ap bytes (sym (text_block i));
  }

  pub as_directory : (v : View) (d parent : ℕ) → HoldsNode g v d (file (text_of g slots) (flags_of g slots)) → HoldsNode g v d (directory slots parent)
  as_directory v d parent holds = record {
    places = subst (HasPlaces g v d) (same_indices g slots parent) holds.places;
    contents = λ i there. holds.contents i (subst (λ l. list_any (λ k. k == i) l ≡ true) (sym (same_indices g slots parent)) there) ∙ ap bytes (text_block i);
  }
