-- What a change of slots counts: the chains of what is put and of what is cleared, or what the cut needs.
use Rattle.std.proofs.Common.{◌≡◌, ◌≢◌, ◌∙◌, ℕ, ◌+◌, ◌==◌, ◌<◌, ◌≤◌, Bool, true, false, cond, max, min, inl, inr, List, [], ◌∷◌, ◌++◌, length, Option, Some, None, refl, sym, ap, subst, arith}
use Rattle.std.specs.Prelude.{IfSome, nat_lt}
use Rattle.std.proofs.lemmas.Bool.{cases_eq, cases_lt, cond-true, cond-false, eq-eqb, ne_eqb, lt-ltb, ltb-true}
use Rattle.std.proofs.lemmas.Bool.Decides.{nat_tests}
use Rattle.std.proofs.Math.Nat.{div-lt_iff_lt-mul}
use Rattle.edge_base.specs.declared.geometry.Request.{Request}
use Rattle.edge_base.specs.layout.Places.{IsGeometry, IsWithinLimits}
use Rattle.edge_base.specs.tree.Nodes.{directory, indices_of}
use Rattle.edge_base.specs.tree.Positions.{data_at}
use Rattle.edge_base.specs.tree.Slots.{pieces, slot_blocks, slots_in_block}
use Rattle.edge_store.specs.Changed.{has_index}
use Rattle.edge_store.specs.Fresh.{fresh_count}
use Rattle.edge_store.specs.Placed.{HasPlaces, IsOnce}
use Rattle.edge_store.specs.View.{View, IsView, is_whole}
use Rattle.edge_moves.specs.Writable.{fresh_on_chain}
use Rattle.edge_shape.specs.Shape.{HasShape}
use Rattle.edge_shape.specs.Where.{cut_need}
use Rattle.edge_count.specs.Beside.{fresh_beside}
use Rattle.edge_count.specs.Cuts.{removed}
use Rattle.edge_count.proofs.BesideLaws.{chain_beside_cut, chains_apart, nothing_cut, two_chains}
use Rattle.edge_count.proofs.ChainLaws.{fresh_on_chain-count}
use Rattle.edge_count.proofs.JoinLaws.{write_and_cut_apart}
use Rattle.edge_count.proofs.NeedLaws.{fresh_cut}
use Rattle.edge_dir.proofs.EndLaws.{some_slots}
use Rattle.edge_dir.proofs.KeptLaws.{no_more, same_blocks, was_last}
use Rattle.edge_dir.proofs.SetLaws.{pieces_with}
use Rattle.edge_dir.proofs.SlotLaws.{blocks_hold}
use Rattle.edge_dir.proofs.WriteLaws.{range_has}
use Rattle.edge_space.specs.Slots.{IsCleared, IsSlotWithin, block_of_slot, clear_need, clear_removes, clear_writes, need_of_slots, put_need, put_writes}
use Rattle.edge_space.specs.declared.change.SlotAt.{SlotAt}
use Rattle.edge_space.proofs.LeftLaws.{IsLeft, blocks_with_least, left_is}

fresh_none : (g : Request) (c v : View) → fresh_count g c v [] [] ≡ 0
unfolding fresh_count
fresh_none g c v = refl

module _ (g : Request) (c v : View) (put : Option SlotAt) (clear : SlotAt) (indices : List ℕ) (left : ℕ) (geometry : IsGeometry g) (limits : IsWithinLimits g) (view : IsView g v)
    (low : IsSlotWithin g clear) (is : IsCleared g v put clear left) (indices_are : indices ≡ indices_of g (directory is.slots is.parent)) where
  abbrev k : ℕ
  k = block_of_slot g clear

  abbrev n : ℕ
  n = slots_in_block g

  abbrev count : ℕ
  count = slot_blocks g is.slots

  some : 0 < n
  some = some_slots g limits

  shape : HasShape g v clear.dir indices
  shape = record {
    geometry = geometry;
    view = view;
    inode = ap is_whole is.node.inode;
    places = subst (HasPlaces g v clear.dir) (sym indices_are) is.node.holds.places;
    once = subst (IsOnce g v clear.dir) (sym indices_are) is.node.once;
  }

  listed : (x : ℕ) → has_index indices x ≡ nat_lt x count
  listed x = ap (λ l. has_index l x) indices_are ∙ range_has count x

  has_block : (x : ℕ) → x < count → has_index indices x ≡ true
  has_block x early = listed x ∙ lt-ltb x count early

  -- without the slot, and what is put
  abbrev alone : IsLeft g put clear is.slots left
  alone = left_is g v put clear left limits is

  least : slot_blocks g alone.without.after ≤ left
  least = subst (λ (m : ℕ). slot_blocks g alone.without.after ≤ m) (sym alone.is_left) (blocks_with_least g put clear.dir (slot_blocks g alone.without.after))

  own_block : k < count
  own_block = let held = blocks_hold n (length is.slots) some in let inside = is.in_range in (div-lt_iff_lt-mul some).1 (omega (arith, held, inside))

  -- where the block of the slot is left, no block is cut off
  all_left : k < left → count ≤ left
  all_left there = elim (cases_lt k (slot_blocks g alone.without.after)) [
    | inl stays ↦
        let same = same_blocks is.slots alone.without.after clear.slot is.node.rules.last_filled alone.without.trim is.in_range alone.without.is_set n some stays in
        let most = least in
        omega (arith, same, most)
    | inr gone ↦ elim (cases_lt (length alone.without.after) (length is.slots)) [
      | inl less ↦
          let last = ap (pieces n) (sym (was_last is.slots alone.without.after clear.slot is.node.rules.last_filled alone.without.trim is.in_range alone.without.is_set less)) ∙ pieces_with n clear.slot some in
          omega (arith, last, there)
      | inr all ↦
          let most = no_more is.slots alone.without.after clear.slot is.node.rules.last_filled alone.without.trim is.in_range alone.without.is_set in
          let same : length is.slots ≡ length alone.without.after = omega (arith, all, most) in
          let blocks = ap (pieces n) same in
          let own = own_block in
          absurd (omega (arith, blocks, own, gone))
    ]
  ]

  none_cut : nat_lt k left ≡ true → (x : ℕ) → has_index indices x ≡ true → x < left
  none_cut there x h =
      let early = ltb-true x count (sym (listed x) ∙ h) in
      let all = all_left (ltb-true k left there) in
      omega (arith, early, all)

  cut_past : nat_lt k left ≡ false → left ≤ k
  cut_past h = grind (arith, nat_tests)

  -- the clearing alone
  pub clear_count : fresh_count g c v (cond (nat_lt k left) (data_at clear.dir k ∷ []) []) (removed clear.dir left indices) ≡ clear_need g c v clear left
  clear_count = by (nat_lt k left) refl
    where
      by : (t : Bool) → nat_lt k left ≡ t → fresh_count g c v (cond t (data_at clear.dir k ∷ []) []) (removed clear.dir left indices) ≡ cond t (fresh_on_chain g c v clear.dir k) (cut_need g c v clear.dir left)
      by true e = nothing_cut g c v clear.dir left (data_at clear.dir k ∷ []) indices (none_cut e) ∙ fresh_on_chain-count g c v clear.dir k low
      by false e = fresh_cut g c v clear.dir left indices shape

module _ (g : Request) (c v : View) (put clear : SlotAt) (indices : List ℕ) (left : ℕ) (geometry : IsGeometry g) (limits : IsWithinLimits g) (view : IsView g v)
    (low_put : IsSlotWithin g put) (low : IsSlotWithin g clear) (is : IsCleared g v (Some put) clear left) (indices_are : indices ≡ indices_of g (directory is.slots is.parent)) where
  abbrev i : ℕ
  i = block_of_slot g put

  abbrev at : ℕ
  at = block_of_slot g clear

  abbrev whole : HasShape g v clear.dir indices
  whole = shape g c v (Some put) clear indices left geometry limits view low is indices_are

  abbrev not_cut : nat_lt at left ≡ true → (x : ℕ) → has_index indices x ≡ true → x < left
  not_cut = none_cut g c v (Some put) clear indices left geometry limits view low is indices_are

  apart_count : put.dir ≢ clear.dir → fresh_count g c v (data_at put.dir i ∷ cond (nat_lt at left) (data_at clear.dir at ∷ []) []) (removed clear.dir left indices)
      ≡ clear_need g c v clear left + fresh_on_chain g c v put.dir i
  apart_count apart = by (nat_lt at left) refl
    where
      swap : (x a b : ℕ) → x ≡ a + b → x ≡ b + a
      swap x a b e = omega (arith, e)

      by : (t : Bool) → nat_lt at left ≡ t → fresh_count g c v (data_at put.dir i ∷ cond t (data_at clear.dir at ∷ []) []) (removed clear.dir left indices)
          ≡ cond t (fresh_on_chain g c v clear.dir at) (cut_need g c v clear.dir left) + fresh_on_chain g c v put.dir i
      by true e = swap _ (fresh_on_chain g c v put.dir i) (fresh_on_chain g c v clear.dir at)
          (nothing_cut g c v clear.dir left (data_at put.dir i ∷ data_at clear.dir at ∷ []) indices (not_cut e)
          ∙ chains_apart g c v put.dir clear.dir i at apart low_put low)
      by false e = swap _ (fresh_on_chain g c v put.dir i) (cut_need g c v clear.dir left)
          (write_and_cut_apart g c v put.dir clear.dir i left indices whole apart low_put)

  same_count : put.dir ≡ clear.dir → fresh_count g c v (data_at clear.dir i ∷ cond (nat_lt at left) (data_at clear.dir at ∷ []) []) (removed clear.dir left indices)
      ≡ clear_need g c v clear left + fresh_beside g c v clear.dir i (min at left)
  same_count same = by (nat_lt at left) refl
    where
      early : i < left
      early =
          let alone = left_is g v (Some put) clear left limits is in
          let blocks = slot_blocks g alone.without.after in
          let e : left ≡ max blocks (i + 1) = alone.is_left ∙ cond-true (put.dir == clear.dir) _ _ (eq-eqb put.dir clear.dir same) in
          omega (arith, e)

      swap : (x b m k : ℕ) → m ≡ k → x ≡ fresh_beside g c v clear.dir i k + b → x ≡ b + fresh_beside g c v clear.dir i m
      swap x b m k is_k e = let here = ap (fresh_beside g c v clear.dir i) is_k in omega (arith, e, here)

      by : (t : Bool) → nat_lt at left ≡ t → fresh_count g c v (data_at clear.dir i ∷ cond t (data_at clear.dir at ∷ []) []) (removed clear.dir left indices)
          ≡ cond t (fresh_on_chain g c v clear.dir at) (cut_need g c v clear.dir left) + fresh_beside g c v clear.dir i (min at left)
      by true e =
          let inside = ltb-true at left e in
          swap _ (fresh_on_chain g c v clear.dir at) (min at left) at (omega (arith, inside))
          (nothing_cut g c v clear.dir left (data_at clear.dir i ∷ data_at clear.dir at ∷ []) indices (not_cut e)
          ∙ two_chains g c v clear.dir i at low_put low)
      by false e =
          let past : left ≤ at = cut_past g c v (Some put) clear indices left geometry limits view low is indices_are e in
          let own = own_block g c v (Some put) clear indices left geometry limits view low is indices_are in
          let has_it = has_block g c v (Some put) clear indices left geometry limits view low is indices_are in
          swap _ (cut_need g c v clear.dir left) (min at left) left (omega (arith, past))
          (chain_beside_cut g c v clear.dir i left indices whole early low_put (has_it i (omega (arith, early, past, own))) (has_it left (omega (arith, past, own))))

  pub both_count : fresh_count g c v (data_at put.dir i ∷ cond (nat_lt at left) (data_at clear.dir at ∷ []) []) (removed clear.dir left indices)
      ≡ clear_need g c v clear left + put_need g c v put clear left
  both_count = elim (cases_eq put.dir clear.dir) [
    | inl same ↦
        subst (λ (d : ℕ). fresh_count g c v (data_at d i ∷ cond (nat_lt at left) (data_at clear.dir at ∷ []) []) (removed clear.dir left indices)
        ≡ clear_need g c v clear left + fresh_beside g c v d i (min at left)) (sym same) (same_count same)
        ∙ ap (λ (m : ℕ). clear_need g c v clear left + m) (sym (cond-true (put.dir == clear.dir) _ _ (eq-eqb put.dir clear.dir same)))
    | inr apart ↦ apart_count apart ∙ ap (λ (m : ℕ). clear_need g c v clear left + m) (sym (cond-false (put.dir == clear.dir) _ _ (ne_eqb put.dir clear.dir apart)))
  ]

pub counted_slots : (g : Request) (c v : View) (put clear : Option SlotAt) (indices : ℕ → List ℕ) (left : ℕ) → IsGeometry g → IsWithinLimits g → IsView g v
    → IfSome put (IsSlotWithin g) → IfSome clear (IsSlotWithin g)
    → IfSome clear (λ at. (is : IsCleared g v put at left) × (indices at.dir ≡ indices_of g (directory is.slots is.parent)))
    → fresh_count g c v (put_writes g put ++ clear_writes g clear left) (clear_removes clear indices left) ≡ need_of_slots g c v put clear left
counted_slots g c v None None indices left geometry limits view low_put low is = fresh_none g c v
counted_slots g c v (Some put) None indices left geometry limits view low_put low is = fresh_on_chain-count g c v put.dir (block_of_slot g put) low_put
counted_slots g c v None (Some clear) indices left geometry limits view low_put low is = clear_count g c v None clear (indices clear.dir) left geometry limits view low is.0 is.1
counted_slots g c v (Some put) (Some clear) indices left geometry limits view low_put low is =
    both_count g c v put clear (indices clear.dir) left geometry limits view low_put low is.0 is.1
