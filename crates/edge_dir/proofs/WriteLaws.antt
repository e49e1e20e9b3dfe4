-- A directory of which a slot was written.
use Rattle.std.proofs.Common.{◌≡◌, ◌∙◌, ℕ, ◌+◌, ◌-◌, ◌*◌, ◌/◌, ◌%◌, ◌<◌, ◌≤◌, ◌==◌, ◌&&◌, ◌||◌, ◌⊎◌, inl, inr, Bool, true, false, cond, max, List, [], ◌∷◌, ◌++◌, length, Option, Some, None, refl, sym, ap, subst, arith}
use Rattle.std.specs.Prelude.{nat_le, nat_lt, slice_index}
use Rattle.std.specs.List.{list_any, range_with_len}
use Rattle.std.proofs.lemmas.Bool.{cases_lt, ltb-true}
use Rattle.std.proofs.lemmas.Bool.Decides.{nat_tests}
use Rattle.std.proofs.Math.Nat.{le-div_iff_mul-le, mod-lt, mul-le-mul_right}
use Rattle.edge_base.proofs.CountLaws.{is_member-range}
use Rattle.edge_base.specs.declared.geometry.Request.{Request}
use Rattle.edge_base.specs.declared.node.Head.{Head}
use Rattle.edge_base.specs.layout.Places.{IsGeometry, IsWithinLimits, max_blocks_of, max_size_of}
use Rattle.edge_base.specs.tree.NodeRules.{IsDirectory}
use Rattle.edge_base.specs.tree.Nodes.{directory, file, indices_of}
use Rattle.edge_base.specs.tree.Slots.{Entry, Slots, pieces, slot_blocks, slots_in_block}
use Rattle.edge_store.specs.Changed.{NodeChanged, has_index}
use Rattle.edge_store.specs.Placed.{HasNode, HoldsNode, IsSized}
use Rattle.edge_store.specs.View.{View, IsView, entries_of_inode, head_of_inode, is_whole}
use Rattle.edge_store.proofs.ChangedLaws.{changed_same, dirtied_same}
use Rattle.edge_store.proofs.ViewLaws.{whole_with_head}
use Rattle.edge_moves.proofs.SlotLaws.{entries_fit, some_pointers_fit}
use Rattle.edge_file.specs.Bytes.{blocks_under, with_bytes}
use Rattle.edge_file.specs.Rewritten.{IsWritten}
use Rattle.edge_file.specs.Writing.{grown}
use Rattle.edge_file.proofs.ChangeLaws.{rewritten_changed, rewritten_dirty}
use Rattle.edge_file.proofs.FileLaws.{file_written}
use Rattle.edge_file.proofs.RangeLaws.{block_alone, lists-append, under_in_range}
use Rattle.edge_dir.specs.Directory.{slot_of}
use Rattle.edge_dir.specs.Written.{BecomesSlot, IsSetTo, SlotsChanged, place_of_slot}
use Rattle.edge_dir.proofs.EndLaws.{slot_within, some_bytes, some_slots}
use Rattle.edge_dir.proofs.HeldLaws.{as_directory, as_file, byte_beyond, flags_of, same_indices, text_byte}
use Rattle.edge_dir.proofs.ViewLaws.{head_is}
use Rattle.edge_dir.proofs.TextLaws.{byte_in_slots, set_bytes, text_of, width}

-- the members of a range from 0 on
pub range_has : (m i : ℕ) → has_index (range_with_len 0 m) i ≡ nat_lt i m
range_has m i = (λ t. list_any (λ k. swap k i t) (range_with_len 0 m)) ∙ is_member-range 0 m i ∙ from_zero m i
  where
    swap : (k i : ℕ) → (k == i) ≡ (i == k)
    swap k i = grind (arith, nat_tests)

    from_zero : (m i : ℕ) → (nat_le 0 i && nat_lt i (0 + m)) ≡ nat_lt i m
    from_zero m i = grind (arith, nat_tests)

-- a block and those before another
one_more : (k i m most : ℕ) → k ≤ m → most ≡ max m (k + 1) → (((k == i) || false) || nat_lt i m) ≡ nat_lt i most
one_more k i m most near is = grind (arith, nat_tests)

same_put : (one two : ℕ → ℕ) (at : ℕ) (new : List ℕ) (x : ℕ) → one x ≡ two x → with_bytes one at new x ≡ with_bytes two at new x
same_put one two at new x e = ap (λ (old : ℕ). cond (nat_le at x && nat_lt x (at + length new)) (slice_index new (x - at)) old) e

module _ (g : Request) (c v w : View) (d k : ℕ) (slots after : Slots) (parent : ℕ) (slot : Option Entry) (new : List ℕ)
    (geometry : IsGeometry g) (limits : IsWithinLimits g) (view : IsView g v) (view_w : IsView g w) (node : HasNode g v d (directory slots parent)) (rules : IsDirectory g after)
    (some_new : 0 < length new) (short : length new ≤ width g) (low : k / slots_in_block g < max_blocks_of g) (becomes : BecomesSlot g (slot_of slots k) new slot) (set : IsSetTo slots after k slot)
    (near : k / slots_in_block g ≤ slot_blocks g slots) (blocks : slot_blocks g after ≡ max (slot_blocks g slots) (k / slots_in_block g + 1))
    (written : IsWritten g c v w d (place_of_slot g k) new (indices_of g (directory slots parent))) (is_w : is_whole (w.inodes d) ≡ true)
    (head : head_of_inode (w.inodes d) ≡ Some (record node.head { size = g.block_size * slot_blocks g after })) where
  fits : k % slots_in_block g * width g + length new ≤ g.block_size
  fits = let within = slot_within g (k % slots_in_block g) (mod-lt k (some_slots g limits)) in omega (arith, within, short)

  -- the block that is written
  one_block : (i : ℕ) → has_index (k / slots_in_block g ∷ []) i ≡ has_index (blocks_under g (place_of_slot g k) (length new)) i
  one_block i = block_alone g (k / slots_in_block g) (k % slots_in_block g * width g) (length new) low some_new fits i

  -- the blocks that are there then
  members : (i : ℕ) → has_index (blocks_under g (place_of_slot g k) (length new) ++ indices_of g (directory slots parent)) i ≡ has_index (indices_of g (directory after parent)) i
  members i =
      lists-append (blocks_under g (place_of_slot g k) (length new)) (indices_of g (directory slots parent)) i
      ∙ (λ t. sym (one_block i) t || range_has (slot_blocks g slots) i t)
      ∙ one_more (k / slots_in_block g) i (slot_blocks g slots) (slot_blocks g after) near blocks
      ∙ sym (range_has (slot_blocks g after) i)

  is_v : is_whole (v.inodes d) ≡ true
  is_v = ap is_whole node.inode

  holds : HoldsNode g w d (directory after parent)
  holds = as_directory g after rules limits w d parent
      (file_written g v d (text_of g slots) (flags_of g slots) (entries_fit g geometry) (some_pointers_fit g geometry) (some_bytes g limits) view is_v
      (as_file g slots node.rules limits v d parent node.holds) zeros c w (place_of_slot g k) new view_w is_w
      (subst (IsWritten g c v w d (place_of_slot g k) new) (sym (same_indices g slots parent)) written) (text_of g after) (flags_of g after) put file_members)
    where
      zeros : (x : ℕ) → has_index (indices_of g (file (text_of g slots) (flags_of g slots))) (x / g.block_size) ≡ false → slice_index (text_of g slots) x ≡ 0
      zeros x none = text_byte g slots node.rules limits x ∙ byte_beyond g slots node.rules limits x
          (past (slot_blocks g slots) (x / g.block_size) (sym (range_has (slot_blocks g slots) (x / g.block_size)) ∙ ap (λ l. has_index l (x / g.block_size)) (sym (same_indices g slots parent)) ∙ none))
        where
          past : (m i : ℕ) → nat_lt i m ≡ false → m ≤ i
          past m i e = grind (arith, nat_tests)

      put : (x : ℕ) → slice_index (text_of g after) x ≡ with_bytes (slice_index (text_of g slots)) (place_of_slot g k) new x
      put x = text_byte g after rules limits x ∙ set_bytes g slots after limits node.rules rules k slot new short becomes set x
          ∙ same_put (byte_in_slots g slots) (slice_index (text_of g slots)) (place_of_slot g k) new x (sym (text_byte g slots node.rules limits x))

      file_members : (i : ℕ) → has_index (blocks_under g (place_of_slot g k) (length new) ++ indices_of g (file (text_of g slots) (flags_of g slots))) i
          ≡ has_index (indices_of g (file (text_of g after) (flags_of g after))) i
      file_members i =
          ap (λ l. has_index (blocks_under g (place_of_slot g k) (length new) ++ l) i) (same_indices g slots parent) ∙ members i
          ∙ ap (λ l. has_index l i) (sym (same_indices g after parent))

  changed : NodeChanged g v w d (indices_of g (directory slots parent)) (indices_of g (directory after parent))
  changed = changed_same g v w d (indices_of g (directory slots parent)) (blocks_under g (place_of_slot g k) (length new) ++ indices_of g (directory slots parent))
      (indices_of g (directory slots parent)) (indices_of g (directory after parent)) (λ i. refl) members
      (rewritten_changed g c v w d (blocks_under g (place_of_slot g k) (length new)) (indices_of g (directory slots parent)) view (under_in_range g d (place_of_slot g k) (length new)) node.holds.places written.rewritten)

  pub slot_written : SlotsChanged g c v w d slots after parent (k / slots_in_block g ∷ []) []
  slot_written = record {
    node = record {
      head = record node.head { size = g.block_size * slot_blocks g after };
      entries = entries_of_inode (w.inodes d);
      inode = whole_with_head (w.inodes d) _ head;
      size = refl;
      kind = node.kind;
      parent = node.parent;
      holds = holds;
      once = changed.once;
      rules = rules;
    };
    head = λ old is. head ∙ ap (λ (h : Head). Some (record h { size = g.block_size * slot_blocks g after })) (head_is g v d slots parent node old is);
    changed = changed;
    dirtied = dirtied_same g c v w d (indices_of g (directory slots parent)) (blocks_under g (place_of_slot g k) (length new) ++ indices_of g (directory slots parent)) (blocks_under g (place_of_slot g k) (length new)) []
        (indices_of g (directory slots parent)) (indices_of g (directory after parent)) (k / slots_in_block g ∷ []) [] (λ i. refl) members (λ i. sym (one_block i)) (λ i. refl)
        (rewritten_dirty g c v w d (blocks_under g (place_of_slot g k) (length new)) (indices_of g (directory slots parent)) view (under_in_range g d (place_of_slot g k) (length new)) node.holds.places written.rewritten);
  }

-- ---- before its size is set

more_pieces : (b k x : ℕ) → 0 < b → k * b < x → k < pieces b x
more_pieces b k x some low =
    let row : (k + 1) * b ≡ k * b + b = grind arith in
    let least : k + 1 ≤ pieces b x = (le-div_iff_mul-le some).1 (omega (arith, row, low)) in
    omega (arith, least)

split_or : (a b : Bool) → (a || b) ≡ true → (a ≡ true) ⊎ (b ≡ true)
split_or true b e = inl refl
split_or false b e = inr e

module _ (g : Request) (c v m : View) (d k : ℕ) (slots : Slots) (parent : ℕ) (new : List ℕ)
    (limits : IsWithinLimits g) (node : HasNode g v d (directory slots parent)) (some_new : 0 < length new) (short : length new ≤ width g) (low : k / slots_in_block g < max_blocks_of g)
    (written : IsWritten g c v m d (place_of_slot g k) new (indices_of g (directory slots parent)))
    (head : head_of_inode (m.inodes d) ≡ Some (record node.head { size = max node.head.size (place_of_slot g k + length new) })) where
  abbrev size : ℕ
  size = max node.head.size (place_of_slot g k + length new)

  all_blocks : node.head.size ≡ slot_blocks g slots * g.block_size
  all_blocks = node.size ∙ (let turned : g.block_size * slot_blocks g slots ≡ slot_blocks g slots * g.block_size = grind arith in turned)

  inside : k % slots_in_block g * width g + length new ≤ g.block_size
  inside = let within = slot_within g (k % slots_in_block g) (mod-lt k (some_slots g limits)) in omega (arith, within, short)

  at_most : size ≤ max_size_of g
  at_most =
      let fits = mul-le-mul_right {m = slot_blocks g slots} {n = max_blocks_of g} g.block_size node.rules.size in
      let last = mul-le-mul_right {m = k / slots_in_block g + 1} {n = max_blocks_of g} g.block_size (omega (arith, low)) in
      let row : (k / slots_in_block g + 1) * g.block_size ≡ k / slots_in_block g * g.block_size + g.block_size = grind arith in
      omega (arith, fits, last, row, inside, all_blocks)

  below : (i : ℕ) → has_index (blocks_under g (place_of_slot g k) (length new) ++ indices_of g (directory slots parent)) i ≡ true → i < pieces g.block_size size
  below i there = elim (split_or (has_index (blocks_under g (place_of_slot g k) (length new)) i) (has_index (indices_of g (directory slots parent)) i)
      (sym (lists-append (blocks_under g (place_of_slot g k) (length new)) (indices_of g (directory slots parent)) i) ∙ there)) [
        | inl written_one ↦
            let is : i ≡ k / slots_in_block g = one_of i (k / slots_in_block g) (block_alone g (k / slots_in_block g) (k % slots_in_block g * width g) (length new) low some_new inside i ∙ written_one) in
            let same = ap (λ (x : ℕ). x * g.block_size) is in
            more_pieces g.block_size i size (some_bytes g limits) (omega (arith, same, some_new))
        | inr was ↦
            let early : i < slot_blocks g slots = ltb-true i (slot_blocks g slots) (sym (range_has (slot_blocks g slots) i) ∙ was) in
            let row : (i + 1) * g.block_size ≡ i * g.block_size + g.block_size = grind arith in
            let most = mul-le-mul_right {m = i + 1} {n = slot_blocks g slots} g.block_size (omega (arith, early)) in
            let some = some_bytes g limits in
            more_pieces g.block_size i size some (omega (arith, row, most, all_blocks, some))
      ]
    where
      one_of : (i k : ℕ) → ((k == i) || false) ≡ true → i ≡ k
      one_of i k e = grind (arith, nat_tests)

  pub sized_between : IsSized g m d
  sized_between = record {
    shaped = record {
      head = record node.head { size = size };
      entries = entries_of_inode (m.inodes d);
      inode = whole_with_head (m.inodes d) _ head;
      indices = blocks_under g (place_of_slot g k) (length new) ++ indices_of g (directory slots parent);
      places = written.rewritten.places;
      once = written.rewritten.once;
    };
    size = at_most;
    ends = below;
  }

-- the size that is set then
pub size_after : (b count k was behind end after : ℕ) → was ≡ b * count → behind ≤ end → end ≡ (k + 1) * b → after ≡ max count (k + 1) → max (max was behind) end ≡ b * after
size_after b count k was behind end after is low is_end blocks = elim (cases_lt k count) [
  | inl inner ↦
      let same : after ≡ count = omega (arith, blocks, inner) in
      let most = mul-le-mul_right {m = k + 1} {n = count} b (omega (arith, inner)) in
      let turned : b * count ≡ count * b = grind arith in
      let result : max (max was behind) end ≡ b * count = omega (arith, is, low, is_end, most, turned) in
      result ∙ ap (λ (x : ℕ). b * x) (sym same)
  | inr outer ↦
      let same : after ≡ k + 1 = omega (arith, blocks, outer) in
      let most = mul-le-mul_right {m = count} {n = k + 1} b (omega (arith, outer)) in
      let turned : b * count ≡ count * b = grind arith in
      let turned_end : b * (k + 1) ≡ (k + 1) * b = grind arith in
      let result : max (max was behind) end ≡ b * (k + 1) = omega (arith, is, low, is_end, most, turned, turned_end) in
      result ∙ ap (λ (x : ℕ). b * x) (sym same)
]

-- a head that has grown twice
pub grown_twice : (o : Option Head) (less more : ℕ) → less ≤ more → grown (grown o less) more ≡ grown o more
grown_twice (Some head) less more low = ap (λ (n : ℕ). Some (record head { size = n })) (let e : max (max head.size less) more ≡ max head.size more = omega (arith, low) in e)
grown_twice None less more low = refl
