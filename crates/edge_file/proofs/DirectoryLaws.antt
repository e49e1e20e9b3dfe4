-- Directories whose blocks a view holds: their bytes are those of the blocks, one behind the other.
use Rattle.std.proofs.Common.{◌≡◌, ℕ, zero, suc, ◌+◌, ◌-◌, ◌*◌, ◌/◌, ◌%◌, ◌<◌, ◌≤◌, true, false, min, inl, inr, List, ◌++◌, length, take, drop, get_or, length-append, length-take, length-drop, refl, sym, ap, ◌∙◌, subst, arith}
use Rattle.std.specs.Prelude.{flat_map, slice_index, nat_lt}
use Rattle.std.specs.List.{range_with_len}
use Rattle.std.proofs.lemmas.Bool.{cases_Bool, ltb-true, ltb-false, lt-ltb}
use Rattle.std.proofs.lemmas.Grind.{same_number_lists}
use Rattle.std.proofs.lemmas.List.{get_or-append_right, get_or-drop, get_or-take}
use Rattle.std.proofs.lemmas.Nat.{div-add-mod'}
use Rattle.std.proofs.Math.ListN.{get_or-append, get_or-eq_default}
use Rattle.std.proofs.Math.Nat.{div-lt_iff_lt-mul, mod-lt, mul-le-mul_right}
use Rattle.edge_base.specs.declared.form.Form.TheVariants.{Plain}
use Rattle.edge_base.specs.declared.geometry.Request.{Request}
use Rattle.edge_base.specs.layout.Places.{entries_of, pointers_of, max_blocks_of, max_size_of}
use Rattle.edge_base.specs.tree.Nodes.{directory, indices_of, block_of, size_of}
use Rattle.edge_base.specs.tree.Positions.{has, data_at, positions_of}
use Rattle.edge_base.specs.tree.Slots.{Slots, slot_blocks}
use Rattle.edge_store.specs.Placed.{data_block, HoldsNode}
use Rattle.edge_store.specs.View.{View, IsView, content, bytes_in, is_whole}
use Rattle.edge_store.proofs.ViewLaws.{unused_zero}
use Rattle.edge_file.specs.Bytes.{byte_of, bytes_at, bytes_of}
use Rattle.edge_file.proofs.ByteLaws.{byte_in, bytes-get, length-bytes}
use Rattle.edge_file.proofs.BlockLaws.{positions_first_of, full_bytes}
use Rattle.edge_file.proofs.JoinLaws.{place_absent, place_used}
use Rattle.edge_file.proofs.RangeLaws.{lists, lists_range}

-- ---- pieces of one length, one behind the other

length-pieces : (f : ℕ → List ℕ) (size from count : ℕ) → ((j : ℕ) → j < count → length (f (from + j)) ≡ size) → length (flat_map f (range_with_len from count)) ≡ count * size
length-pieces f size from zero full = let e : 0 ≡ 0 * size = grind arith in e
length-pieces f size from (suc count) full =
    let first : length (f from) ≡ size = ap (λ (x : ℕ). length (f x)) (let e : from ≡ from + 0 = omega arith in e) ∙ full 0 (omega arith) in
    let rest : length (flat_map f (range_with_len (from + 1) count)) ≡ count * size =
    length-pieces f size (from + 1) count (λ j low. ap (λ (x : ℕ). length (f x)) (let e : from + 1 + j ≡ from + suc j = omega arith in e) ∙ full (suc j) (omega arith)) in
    let sum : size + count * size ≡ suc count * size = grind arith in
    length-append (f from) (flat_map f (range_with_len (from + 1) count)) ∙ (λ t. first t + rest t) ∙ sum

pieces_get : (f : ℕ → List ℕ) (size from count : ℕ) → ((j : ℕ) → j < count → length (f (from + j)) ≡ size) → (j r : ℕ) → j < count → r < size
    → get_or (flat_map f (range_with_len from count)) (j * size + r) 0 ≡ get_or (f (from + j)) r 0
pieces_get f size from zero full j r low fits = absurd (omega arith)
pieces_get f size from (suc count) full zero r low fits =
    let here : from ≡ from + 0 = omega arith in
    let first : length (f from) ≡ size = ap (λ (x : ℕ). length (f x)) here ∙ full 0 (omega arith) in
    let place : 0 * size + r ≡ r = grind arith in
    ap (λ (k : ℕ). get_or (f from ++ flat_map f (range_with_len (from + 1) count)) k 0) place
    ∙ get_or-append (f from) (flat_map f (range_with_len (from + 1) count)) 0 r (omega (arith, first, fits)) ∙ ap (λ (x : ℕ). get_or (f x) r 0) here
pieces_get f size from (suc count) full (suc j) r low fits =
    let first : length (f from) ≡ size = ap (λ (x : ℕ). length (f x)) (let e : from ≡ from + 0 = omega arith in e) ∙ full 0 (omega arith) in
    let place : suc j * size + r ≡ size + (j * size + r) = grind arith in
    ap (λ (k : ℕ). get_or (f from ++ flat_map f (range_with_len (from + 1) count)) k 0) place
    ∙ get_or-append_right (f from) (flat_map f (range_with_len (from + 1) count)) size (size + (j * size + r)) 0 first (omega arith)
    ∙ ap (λ (k : ℕ). get_or (flat_map f (range_with_len (from + 1) count)) k 0) (let e : size + (j * size + r) - size ≡ j * size + r = omega arith in e)
    ∙ pieces_get f size (from + 1) count (λ k below. ap (λ (x : ℕ). length (f x)) (let e : from + 1 + k ≡ from + suc k = omega arith in e) ∙ full (suc k) (omega arith)) j r (omega arith) fits
    ∙ ap (λ (x : ℕ). get_or (f x) r 0) (let e : from + 1 + j ≡ from + suc j = omega arith in e)

-- ---- a directory

module _ (g : Request) (v : View) (n : ℕ) (slots : Slots) (parent : ℕ) (fits : g.direct + g.indirect ≤ entries_of g) (some : 0 < pointers_of g) (size : 0 < g.block_size) (view : IsView g v) (is : is_whole (v.inodes n) ≡ true)
    (holds : HoldsNode g v n (directory slots parent)) where
  abbrev count : ℕ
  count = slot_blocks g slots

  abbrev block : ℕ → List ℕ
  block = block_of g (directory slots parent)

  abbrev indices : List ℕ
  indices = indices_of g (directory slots parent)

  abbrev text : List ℕ
  text = bytes_of g (directory slots parent)

  listed : (i : ℕ) → i < count → lists indices i ≡ true
  listed i low = lists_range count i ∙ lt-ltb i count low

  on : (i : ℕ) → i < count → has (positions_of g n indices) (data_at n i) ≡ true
  on i low = positions_first_of g n indices i ∙ listed i low

  -- each of its blocks is a block long
  full : (i : ℕ) → i < count → length (block i) ≡ g.block_size
  full i low =
      sym (ap (λ c. length (bytes_in c)) (holds.contents i (listed i low)))
      ∙ full_bytes g v (data_block g v n i) view (place_used g v n fits some view is indices holds.places (data_at n i) (on i low))

  full_from : (j : ℕ) → j < count → length (block (0 + j)) ≡ g.block_size
  full_from j low = ap (λ (x : ℕ). length (block x)) (let e : 0 + j ≡ j = omega arith in e) ∙ full j low

  byte_within : (i r : ℕ) → i < count → r < g.block_size → byte_of g v n (i * g.block_size + r) ≡ slice_index text (i * g.block_size + r)
  byte_within i r low low_r =
      byte_in g v n i r low_r ∙ ap (λ c. slice_index (bytes_in c) r) (holds.contents i (listed i low))
      ∙ sym (pieces_get block g.block_size 0 count full_from i r low low_r ∙ ap (λ (x : ℕ). get_or (block x) r 0) (let e : 0 + i ≡ i = omega arith in e))

  long : length text ≡ count * g.block_size
  long = length-pieces block g.block_size 0 count full_from

  byte_behind : (i r : ℕ) → i < max_blocks_of g → count ≤ i → r < g.block_size → byte_of g v n (i * g.block_size + r) ≡ slice_index text (i * g.block_size + r)
  byte_behind i r low behind low_r =
      let none : lists indices i ≡ false = lists_range count i ∙ not_below in
      let out : has (positions_of g n indices) (data_at n i) ≡ false = positions_first_of g n indices i ∙ none in
      let absent : data_block g v n i ≡ 0 = place_absent g v n fits some view is indices holds.places (data_at n i) refl low out in
      let rows : count * g.block_size ≤ i * g.block_size = mul-le-mul_right g.block_size behind in
      byte_in g v n i r low_r ∙ ap (λ o. slice_index (bytes_in (content Plain o)) r) (ap v.blocks absent ∙ unused_zero g v view)
      ∙ sym (get_or-eq_default text 0 (omega (arith, long, rows)))
    where
      not_below : nat_lt i count ≡ false
      not_below = elim (cases_Bool (nat_lt i count)) [
        | inl below ↦ absurd (let h = ltb-true i count below in omega arith)
        | inr above ↦ above
      ]

  byte_at : (i r : ℕ) → i < max_blocks_of g → r < g.block_size → byte_of g v n (i * g.block_size + r) ≡ slice_index text (i * g.block_size + r)
  byte_at i r low low_r = elim (cases_Bool (nat_lt i count)) [
    | inl below ↦ byte_within i r (ltb-true i count below) low_r
    | inr above ↦ byte_behind i r low (ltb-false i count above) low_r
  ]

  pub directory_byte : (k : ℕ) → k < max_size_of g → byte_of g v n k ≡ slice_index text k
  directory_byte k low = subst (λ (x : ℕ). byte_of g v n x ≡ slice_index text x) (div-add-mod' k g.block_size) (byte_at (k / g.block_size) (k % g.block_size) ((div-lt_iff_lt-mul size).1 low) (mod-lt k size))

  byte_before : (k : ℕ) → k < count * g.block_size → byte_of g v n k ≡ slice_index text k
  byte_before k low = subst (λ (x : ℕ). byte_of g v n x ≡ slice_index text x) (div-add-mod' k g.block_size) (byte_within (k / g.block_size) (k % g.block_size) ((div-lt_iff_lt-mul size).1 low) (mod-lt k size))

  pub directory_run : (at len : ℕ) → at + len ≤ size_of g (directory slots parent) → bytes_at g v n at len ≡ take len (drop at text)
  directory_run at len within =
      let turned : g.block_size * count ≡ count * g.block_size = grind arith in
      same_number_lists (bytes_at g v n at len) (take len (drop at text)) (length-bytes g v n at len ∙ sym (length-take len (drop at text) ∙ ap (min len) (length-drop at text) ∙ omega (arith, long, turned, within)))
      (λ k in_list.
      let low_k : k < len = subst (λ (m : ℕ). k < m) (length-bytes g v n at len) in_list in
      bytes-get g v n at len k low_k ∙ byte_before (at + k) (omega (arith, turned, within, low_k)) ∙ sym (get_or-take len (drop at text) k 0 low_k ∙ get_or-drop at text k 0))
