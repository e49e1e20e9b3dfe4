-- A directory of which the last blocks were cut off, since no slot is left in them.
use Rattle.std.proofs.Common.{◌≡◌, ◌∙◌, ℕ, ◌+◌, ◌-◌, ◌*◌, ◌/◌, ◌%◌, ◌<◌, ◌≤◌, ◌==◌, ◌&&◌, not, Bool, true, false, cond, inl, inr, List, [], ◌∷◌, length, Some, None, refl, sym, ap, subst, arith}
use Rattle.std.specs.Prelude.{filter, nat_le, nat_lt, slice_index}
use Rattle.std.specs.List.{range_with_len}
use Rattle.std.proofs.lemmas.Bool.{and_from, and_parts, cases_lt, cond-false, cond-true, eq-eqb, eqb-true, leb-true, le-leb, lt-ltb, ltb-true}
use Rattle.std.proofs.lemmas.Bool.Decides.{nat_tests}
use Rattle.std.proofs.lemmas.Nat.{div-add-mod'}
use Rattle.std.proofs.Math.Nat.{div-lt_iff_lt-mul, div-mul-le_self, le-div_iff_mul-le, mod-lt, mul-le-mul_right, mul-mod_left}
use Rattle.edge_base.specs.declared.geometry.Request.{Request}
use Rattle.edge_base.specs.declared.node.Head.{Head}
use Rattle.edge_base.specs.layout.Places.{IsGeometry, IsWithinLimits}
use Rattle.edge_base.specs.tree.NodeRules.{IsDirectory}
use Rattle.edge_base.specs.tree.Nodes.{block_of, directory, file, indices_of}
use Rattle.edge_base.specs.tree.Slots.{Slots, pieces, slot_blocks, slot_bytes, slots_in_block}
use Rattle.edge_store.specs.Changed.{NodeChanged, has_index}
use Rattle.edge_store.specs.Placed.{data_block, HasNode, HoldsNode}
use Rattle.edge_store.specs.State.{StoreState, Told}
use Rattle.edge_store.specs.View.{View, IsView, entries_of_inode, free_now, head_of_inode, is_whole}
use Rattle.edge_store.proofs.ChangedLaws.{changed_same, dirtied_same, same_truth}
use Rattle.edge_store.proofs.ViewLaws.{whole_with_head}
use Rattle.edge_moves.proofs.SlotLaws.{entries_fit, some_pointers_fit}
use Rattle.edge_shape.specs.Shape.{HasShape, before}
use Rattle.edge_shape.proofs.ListLaws.{any-filter, range_found, range_some}
use Rattle.edge_shape.specs.Where.{cut_need}
use Rattle.edge_cut.specs.Cuts.{RoomForCutAt}
use Rattle.edge_file.specs.Bytes.{blocks_under, size_at, size_in}
use Rattle.edge_file.specs.Rewritten.{fresh_on}
use Rattle.edge_file.specs.Shortened.{IsShortened, block_of_rest, has_rest, shortening_need}
use Rattle.edge_file.specs.Writing.{RoomForBytes, RoomForSize, SetsSize, ShortensTo, sized}
use Rattle.edge_file.proofs.FileLaws.{file_shortened}
use Rattle.edge_file.proofs.RestLaws.{rest_none}
use Rattle.edge_file.proofs.TrimChangeLaws.{trimmed_changed, trimmed_dirtied}
use Rattle.edge_dir.specs.Cleared.{CutsSlots, clearing_need}
use Rattle.edge_dir.specs.Directory.{slot_of}
use Rattle.edge_dir.specs.Written.{IsSetTo, SlotsChanged, place_of_slot}
use Rattle.edge_dir.proofs.EndLaws.{some_bytes, some_slots}
use Rattle.edge_dir.proofs.HeldLaws.{as_directory, as_file, byte_beyond, flags_of, same_indices, text_byte}
use Rattle.edge_dir.proofs.SetLaws.{pieces_less, pieces_with}
use Rattle.edge_dir.proofs.TextLaws.{byte_behind, byte_in_slots, byte_of_slot, text_of, width}
use Rattle.edge_dir.proofs.ViewLaws.{head_is, whole_pieces}
use Rattle.edge_dir.proofs.WriteLaws.{range_has}

-- ---- members of a part of a range

kept_of : (keep : ℕ → Bool) (a n i : ℕ) → has_index (filter keep (range_with_len a n)) i ≡ true → (a ≤ i) × (i < a + n) × (keep i ≡ true)
kept_of keep a n i h =
    let f = range_found (λ x. keep x && (x == i)) a n (sym (any-filter keep (λ x. x == i) (range_with_len a n)) ∙ h) in
    let both = and_parts (keep f.0) (f.0 == i) f.3 in
    let is : f.0 ≡ i = eqb-true f.0 i both.1 in
    (omega (arith, is, f.1), omega (arith, is, f.2), ap keep (sym is) ∙ both.0)

of_kept : (keep : ℕ → Bool) (a n i : ℕ) → a ≤ i → i < a + n → keep i ≡ true → has_index (filter keep (range_with_len a n)) i ≡ true
of_kept keep a n i low high keeps =
    any-filter keep (λ x. x == i) (range_with_len a n) ∙ range_some (λ x. keep x && (x == i)) a n i low high (and_from (keep i) (i == i) keeps (eq-eqb i i refl))

in_range : (a n i : ℕ) → has_index (range_with_len a n) i ≡ true → (a ≤ i) × (i < a + n)
in_range a n i h = let f = range_found (λ x. x == i) a n h in let is : f.0 ≡ i = eqb-true f.0 i f.3 in (omega (arith, is, f.1), omega (arith, is, f.2))

of_range : (a n i : ℕ) → a ≤ i → i < a + n → has_index (range_with_len a n) i ≡ true
of_range a n i low high = range_some (λ x. x == i) a n i low high (eq-eqb i i refl)

before_has : (kept count i : ℕ) → kept ≤ count → has_index (before kept (range_with_len 0 count)) i ≡ has_index (range_with_len 0 kept) i
before_has kept count i most = same_truth (has_index (before kept (range_with_len 0 count)) i) (has_index (range_with_len 0 kept) i)
    (λ h. let p = kept_of (λ x. nat_lt x kept) 0 count i h in of_range 0 kept i (omega arith) (let low = ltb-true i kept p.2 in omega (arith, low)))
    (λ h. let p = in_range 0 kept i h in of_kept (λ x. nat_lt x kept) 0 count i (omega arith) (omega (arith, p.1, most)) (lt-ltb i kept (omega (arith, p.1))))

removed_has : (kept count i : ℕ) → kept ≤ count → has_index (filter (λ x. nat_le kept x) (range_with_len 0 count)) i ≡ has_index (range_with_len kept (count - kept)) i
removed_has kept count i most = same_truth (has_index (filter (λ x. nat_le kept x) (range_with_len 0 count)) i) (has_index (range_with_len kept (count - kept)) i)
    (λ h. let p = kept_of (λ x. nat_le kept x) 0 count i h in let late = leb-true kept i p.2 in of_range kept (count - kept) i late (omega (arith, late, p.1, most)))
    (λ h. let p = in_range kept (count - kept) i h in of_kept (λ x. nat_le kept x) 0 count i (omega arith) (omega (arith, p.0, p.1, most)) (le-leb kept i p.0))

module _ (g : Request) (c v w : View) (d k kept : ℕ) (slots after : Slots) (parent : ℕ)
    (geometry : IsGeometry g) (limits : IsWithinLimits g) (view : IsView g v) (node : HasNode g v d (directory slots parent)) (rules : IsDirectory g after)
    (is_kept : kept ≡ slot_blocks g after) (fewer : kept ≤ slot_blocks g slots) (behind : kept ≤ k / slots_in_block g) (set : IsSetTo slots after k None)
    (short : IsShortened g c v w d (kept * g.block_size) (indices_of g (directory slots parent)))
    (head : head_of_inode (w.inodes d) ≡ Some (record node.head { size = g.block_size * slot_blocks g after })) where
  abbrev size : ℕ
  size = kept * g.block_size

  cut_at : pieces g.block_size size ≡ kept
  cut_at = ap (pieces g.block_size) (let turned : kept * g.block_size ≡ g.block_size * kept = grind arith in turned) ∙ whole_pieces g.block_size kept (some_bytes g limits)

  -- no byte before the cut is one of the slot
  same_before : (x : ℕ) → x < size → byte_in_slots g after x ≡ byte_in_slots g slots x
  same_before x low = elim (cases_lt r (slots_in_block g * width g)) [
    | inl inside ↦
        let wide : 0 < width g = omega arith in
        let s = r / width g in
        let q = r % width g in
        let low_s : s < slots_in_block g = (div-lt_iff_lt-mul wide).1 inside in
        let low_q = mod-lt r wide in
        let split : s * width g + q ≡ r = div-add-mod' r (width g) in
        let early : j < kept = (div-lt_iff_lt-mul (some_bytes g limits)).1 low in
        let row = mul-le-mul_right {m = j + 1} {n = k / slots_in_block g} (slots_in_block g) (omega (arith, early, behind)) in
        let next : (j + 1) * slots_in_block g ≡ j * slots_in_block g + slots_in_block g = grind arith in
        let whole = div-mul-le_self k (slots_in_block g) in
        let other : slot_of after (j * slots_in_block g + s) ≡ slot_of slots (j * slots_in_block g + s) = set.1 (j * slots_in_block g + s) (λ is. omega (arith, is, row, next, whole, low_s)) in
        ap (slice_index (block_of g (directory after 0) j)) (sym split) ∙ byte_of_slot g after rules j s q low_s low_q
        ∙ ap (λ o. slice_index (slot_bytes g o) q) other
        ∙ sym (byte_of_slot g slots node.rules j s q low_s low_q) ∙ ap (slice_index (block_of g (directory slots 0) j)) split
    | inr past ↦ byte_behind g after rules j r past ∙ sym (byte_behind g slots node.rules j r past)
  ]
    where
      j : ℕ
      j = x / g.block_size

      r : ℕ
      r = x % g.block_size

  is_v : is_whole (v.inodes d) ≡ true
  is_v = ap is_whole node.inode

  members : (i : ℕ) → has_index (before (pieces g.block_size size) (indices_of g (directory slots parent))) i ≡ has_index (indices_of g (directory after parent)) i
  members i = ap (λ (n : ℕ). has_index (before n (indices_of g (directory slots parent))) i) cut_at ∙ before_has kept (slot_blocks g slots) i fewer ∙ ap (λ (n : ℕ). has_index (range_with_len 0 n) i) is_kept

  holds : HoldsNode g w d (directory after parent)
  holds = as_directory g after rules limits w d parent
      (file_shortened g v d (text_of g slots) (flags_of g slots) (entries_fit g geometry) (some_pointers_fit g geometry) (some_bytes g limits) view is_v
      (as_file g slots node.rules limits v d parent node.holds) zeros c w size
      (subst (IsShortened g c v w d size) (sym (same_indices g slots parent)) short) (text_of g after) (flags_of g after) put file_members)
    where
      zeros : (x : ℕ) → has_index (indices_of g (file (text_of g slots) (flags_of g slots))) (x / g.block_size) ≡ false → slice_index (text_of g slots) x ≡ 0
      zeros x none = text_byte g slots node.rules limits x ∙ byte_beyond g slots node.rules limits x
          (past (slot_blocks g slots) (x / g.block_size) (sym (range_has (slot_blocks g slots) (x / g.block_size)) ∙ ap (λ l. has_index l (x / g.block_size)) (sym (same_indices g slots parent)) ∙ none))
        where
          past : (m i : ℕ) → nat_lt i m ≡ false → m ≤ i
          past m i e = grind (arith, nat_tests)

      put : (x : ℕ) → slice_index (text_of g after) x ≡ cond (nat_lt x size) (slice_index (text_of g slots) x) 0
      put x = elim (cases_lt x size) [
        | inl low ↦
            text_byte g after rules limits x ∙ same_before x low ∙ sym (text_byte g slots node.rules limits x)
            ∙ sym (cond-true (nat_lt x size) (slice_index (text_of g slots) x) 0 (lt-ltb x size low))
        | inr past ↦
            text_byte g after rules limits x
            ∙ byte_beyond g after rules limits x (let row = (le-div_iff_mul-le (some_bytes g limits)).1 past in omega (arith, row, is_kept))
            ∙ sym (cond-false (nat_lt x size) (slice_index (text_of g slots) x) 0 (not_below x size past))
      ]
        where
          not_below : (x n : ℕ) → n ≤ x → nat_lt x n ≡ false
          not_below x n h = grind (arith, nat_tests)

      file_members : (i : ℕ) → has_index (before (pieces g.block_size size) (indices_of g (file (text_of g slots) (flags_of g slots)))) i ≡ has_index (indices_of g (file (text_of g after) (flags_of g after))) i
      file_members i =
          ap (λ l. has_index (before (pieces g.block_size size) l) i) (same_indices g slots parent) ∙ members i ∙ ap (λ l. has_index l i) (sym (same_indices g after parent))

  shape : HasShape g v d (indices_of g (directory slots parent))
  shape = record { geometry = geometry; view = view; inode = is_v; places = node.holds.places; once = node.once }

  changed : NodeChanged g v w d (indices_of g (directory slots parent)) (indices_of g (directory after parent))
  changed = changed_same g v w d (indices_of g (directory slots parent)) (before (pieces g.block_size size) (indices_of g (directory slots parent)))
      (indices_of g (directory slots parent)) (indices_of g (directory after parent)) (λ i. refl) members
      (trimmed_changed g c v w d (pieces g.block_size size) (block_of_rest g v d size) (indices_of g (directory slots parent)) shape short.trimmed)

  -- no block is written
  no_rest : (i : ℕ) → has_index (block_of_rest g v d size) i ≡ has_index [] i
  no_rest i = ap (λ (n : ℕ). has_index (cond (not (n == 0) && not (data_block g v d (size / g.block_size) == 0)) (size / g.block_size ∷ []) []) i) (mul-mod_left kept g.block_size)

  removed : (i : ℕ) → has_index (filter (λ x. nat_le (pieces g.block_size size) x) (indices_of g (directory slots parent))) i
      ≡ has_index (range_with_len (slot_blocks g after) (slot_blocks g slots - slot_blocks g after)) i
  removed i =
      ap (λ (n : ℕ). has_index (filter (λ x. nat_le n x) (indices_of g (directory slots parent))) i) cut_at ∙ removed_has kept (slot_blocks g slots) i fewer
      ∙ ap (λ (n : ℕ). has_index (range_with_len n (slot_blocks g slots - n)) i) is_kept

  pub slots_cut : SlotsChanged g c v w d slots after parent [] (range_with_len (slot_blocks g after) (slot_blocks g slots - slot_blocks g after))
  slots_cut = record {
    node = record {
      head = record node.head { size = g.block_size * slot_blocks g after };
      entries = entries_of_inode (w.inodes d);
      inode = whole_with_head (w.inodes d) _ head;
      size = refl;
      kind = node.kind;
      parent = node.parent;
      holds = holds;
      once = changed.once;
      rules = rules;
    };
    head = λ old is. head ∙ ap (λ (h : Head). Some (record h { size = g.block_size * slot_blocks g after })) (head_is g v d slots parent node old is);
    changed = changed;
    dirtied = dirtied_same g c v w d (indices_of g (directory slots parent)) (before (pieces g.block_size size) (indices_of g (directory slots parent))) (block_of_rest g v d size)
        (filter (λ x. nat_le (pieces g.block_size size) x) (indices_of g (directory slots parent)))
        (indices_of g (directory slots parent)) (indices_of g (directory after parent)) [] (range_with_len (slot_blocks g after) (slot_blocks g slots - slot_blocks g after)) (λ i. refl) members no_rest removed
        (trimmed_dirtied g c v w d (pieces g.block_size size) (block_of_rest g v d size) (indices_of g (directory slots parent)) shape short.trimmed);
  }

-- ---- a slot whose block is left

pub cleared_by_write : (g : Request) (c v w : View) (d k : ℕ) (slots after : Slots) (parent : ℕ) → k / slots_in_block g < slot_blocks g after → slot_blocks g slots ≡ slot_blocks g after
    → SlotsChanged g c v w d slots after parent (k / slots_in_block g ∷ []) []
    → SlotsChanged g c v w d slots after parent (cond (nat_lt (k / slots_in_block g) (slot_blocks g after)) (k / slots_in_block g ∷ []) [])
    (range_with_len (slot_blocks g after) (slot_blocks g slots - slot_blocks g after))
cleared_by_write g c v w d k slots after parent there same changed =
    let writes : k / slots_in_block g ∷ [] ≡ cond (nat_lt (k / slots_in_block g) (slot_blocks g after)) (k / slots_in_block g ∷ []) [] =
    sym (cond-true (nat_lt (k / slots_in_block g) (slot_blocks g after)) (k / slots_in_block g ∷ []) [] (lt-ltb (k / slots_in_block g) (slot_blocks g after) there)) in
    let none : slot_blocks g slots - slot_blocks g after ≡ 0 = omega (arith, same) in
    let removes : [] ≡ range_with_len (slot_blocks g after) (slot_blocks g slots - slot_blocks g after) = ap (range_with_len (slot_blocks g after)) (sym none) in
    subst (λ (l : List ℕ). SlotsChanged g c v w d slots after parent (cond (nat_lt (k / slots_in_block g) (slot_blocks g after)) (k / slots_in_block g ∷ []) []) l) removes
    (subst (λ (l : List ℕ). SlotsChanged g c v w d slots after parent l []) writes changed)

pub cleared_by_cut : (g : Request) (c v w : View) (d k : ℕ) (slots after : Slots) (parent : ℕ) → slot_blocks g after ≤ k / slots_in_block g
    → SlotsChanged g c v w d slots after parent [] (range_with_len (slot_blocks g after) (slot_blocks g slots - slot_blocks g after))
    → SlotsChanged g c v w d slots after parent (cond (nat_lt (k / slots_in_block g) (slot_blocks g after)) (k / slots_in_block g ∷ []) [])
    (range_with_len (slot_blocks g after) (slot_blocks g slots - slot_blocks g after))
cleared_by_cut g c v w d k slots after parent past changed =
    let off : nat_lt (k / slots_in_block g) (slot_blocks g after) ≡ false = grind (arith, nat_tests) in
    subst (λ (l : List ℕ). SlotsChanged g c v w d slots after parent l (range_with_len (slot_blocks g after) (slot_blocks g slots - slot_blocks g after)))
    (sym (cond-false (nat_lt (k / slots_in_block g) (slot_blocks g after)) (k / slots_in_block g ∷ []) [] off)) changed

-- ---- a directory that ends before the slot's block

low_block : (n k count : ℕ) → 0 < n → k < count → k / n < pieces n count
low_block n k count some low =
    let last = pieces_with n k some in
    let most = pieces_less n (k + 1) count some (omega (arith, low)) in
    omega (arith, last, most)

module _ (s : StoreState) (d left : ℕ) (limits : IsWithinLimits s.origin.request) where
  abbrev g : Request
  g = s.origin.request

  turned : left * g.block_size ≡ g.block_size * left
  turned = grind arith

  module _ (new : StoreState) (geometry : IsGeometry g) (view : Told s → IsView g s.working)
      (sizes : SetsSize s new d (left * g.block_size)) (short : ShortensTo s new d (left * g.block_size)) where
    pub cut_slots : CutsSlots s new d left
    cut_slots told slots after parent k node rules low set is past =
        slots_cut g s.committed s.working new.working d k left slots after parent geometry limits (view told) node rules is fewer past set
        (short told less told (indices_of g (directory slots parent)) shape) head
      where
        block : k / slots_in_block g < slot_blocks g slots
        block = low_block (slots_in_block g) k (length slots) (some_slots g limits) low

        fewer : left ≤ slot_blocks g slots
        fewer = omega (arith, past, block)

        less : left * g.block_size < size_at s.working d
        less =
            let was : size_at s.working d ≡ g.block_size * slot_blocks g slots = ap (λ o. size_in (head_of_inode o)) node.inode ∙ node.size in
            let sides : g.block_size * slot_blocks g slots ≡ slot_blocks g slots * g.block_size = grind arith in
            let row : (left + 1) * g.block_size ≡ left * g.block_size + g.block_size = grind arith in
            let most = mul-le-mul_right {m = left + 1} {n = slot_blocks g slots} g.block_size (omega (arith, past, block)) in
            let some = some_bytes g limits in
            omega (arith, was, sides, row, most, some)

        shape : HasShape g s.working d (indices_of g (directory slots parent))
        shape = record { geometry = geometry; view = view told; inode = ap is_whole node.inode; places = node.holds.places; once = node.once }

        head : head_of_inode (new.working.inodes d) ≡ Some (record node.head { size = g.block_size * slot_blocks g after })
        head =
            sizes told ∙ ap (λ o. sized (head_of_inode o) (left * g.block_size)) node.inode
            ∙ ap (λ (n : ℕ). Some (record node.head { size = n })) (turned ∙ ap (λ (n : ℕ). g.block_size * n) is)

  -- the room that it takes
  pub cut_room : RoomForCutAt s d left → RoomForSize s d (left * g.block_size)
  cut_room room less = subst (λ (n : ℕ). n ≤ free_now g s.committed s.working) (sym need) room
    where
      blocks : pieces g.block_size (left * g.block_size) ≡ left
      blocks = ap (pieces g.block_size) turned ∙ whole_pieces g.block_size left (some_bytes g limits)

      need : shortening_need g s.committed s.working d (left * g.block_size) ≡ cut_need g s.committed s.working d left
      need =
          cond-false (has_rest g s.working d (left * g.block_size)) _ _ (rest_none g s.working d (left * g.block_size) (mul-mod_left left g.block_size))
          ∙ ap (cut_need g s.committed s.working d) blocks

-- ---- the room that clearing takes

module _ (s : StoreState) (d k : ℕ) (after : Slots) (room : clearing_need s d k after ≤ free_now s.origin.request s.committed s.working) where
  abbrev r : Request
  r = s.origin.request

  abbrev wide : ℕ
  wide = fresh_on r s.committed s.working d (blocks_under r (place_of_slot r k) (4 + r.name_max))

  abbrev cuts : ℕ
  cuts = cut_need r s.committed s.working d (slot_blocks r after)

  pub room_to_empty : k / slots_in_block r < slot_blocks r after → RoomForBytes s d (place_of_slot r k) (4 + r.name_max)
  room_to_empty there =
      let is : clearing_need s d k after ≡ wide = cond-true (nat_lt (k / slots_in_block r) (slot_blocks r after)) wide cuts (lt-ltb (k / slots_in_block r) (slot_blocks r after) there) in
      subst (λ (n : ℕ). n ≤ free_now r s.committed s.working) is room

  pub room_to_cut : slot_blocks r after ≤ k / slots_in_block r → RoomForCutAt s d (slot_blocks r after)
  room_to_cut past =
      let off : nat_lt (k / slots_in_block r) (slot_blocks r after) ≡ false = grind (arith, nat_tests) in
      let is : clearing_need s d k after ≡ cuts = cond-false (nat_lt (k / slots_in_block r) (slot_blocks r after)) wide cuts off in
      subst (λ (n : ℕ). n ≤ free_now r s.committed s.working) is room
