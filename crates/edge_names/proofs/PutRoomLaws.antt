-- Room to put an entry into a slot, and then to clear another: where there is room for both, there is room for the one and then for the other.
use Rattle.std.proofs.Common.{◌≡◌, ◌≢◌, ◌∙◌, ℕ, ◌+◌, ◌==◌, ◌<◌, ◌≤◌, ◌&&◌, ◌||◌, not, Bool, true, false, cond, max, inl, inr, List, [], ◌∷◌, length, Some, None, refl, sym, ap, subst, arith}
use Rattle.std.specs.Prelude.{is_some, nat_le, nat_lt}
use Rattle.std.specs.List.{filter}
use Rattle.std.specs.Cmp.{both_ways}
use Rattle.std.proofs.lemmas.Bool.{and_parts, and_from, cases_eq, cond-true, eq-eqb, le-leb, leb-true}
use Rattle.std.proofs.lemmas.Bool.Decides.{nat_tests}
use Rattle.edge_base.specs.declared.form.Form.{Form}
use Rattle.edge_base.specs.declared.form.Form.TheVariants.{Plain}
use Rattle.edge_base.specs.declared.geometry.Request.{Request}
use Rattle.edge_base.specs.layout.Places.{IsGeometry, IsWithinLimits, max_blocks_of}
use Rattle.edge_base.specs.outside.Below.{Origin}
use Rattle.edge_base.specs.tree.Nodes.{directory, indices_of}
use Rattle.edge_base.specs.tree.Positions.{Position, same_position, data_at, has}
use Rattle.edge_base.specs.tree.Slots.{Entry, Slots, slot_blocks, slots_in_block, trimmed}
use Rattle.edge_base.proofs.ChainLaws.{has-positions_of-number}
use Rattle.edge_base.proofs.PositionLaws.{same_position_Decides}
use Rattle.edge_store.specs.Changed.{has_index}
use Rattle.edge_store.specs.Fresh.{fresh_count}
use Rattle.edge_store.specs.Placed.{block_at, HasNode}
use Rattle.edge_store.specs.State.{StoreState}
use Rattle.edge_store.specs.View.{View, IsView, entries_of_inode, free_now, is_new, is_used, is_whole}
use Rattle.edge_moves.specs.Sound.{numbered}
use Rattle.edge_moves.specs.Writable.{fresh_on_chain}
use Rattle.edge_shape.specs.Shape.{HasShape}
use Rattle.edge_shape.specs.Where.{cut_need}
use Rattle.edge_shape.proofs.ListLaws.{any_of, any-filter, found, is_false}
use Rattle.edge_shape.proofs.RenewLaws.{node_used}
use Rattle.edge_count.specs.Cuts.{removed}
use Rattle.edge_count.specs.Frames.{AreApart, AreOfOrKept, KeepsBlocks}
use Rattle.edge_count.proofs.JoinLaws.{chain_part, renewed_rest, same_named}
use Rattle.edge_count.proofs.KeptLaws.{keeps_blocks}
use Rattle.edge_count.proofs.WriteLaws.{any_map}
use Rattle.edge_count.proofs.WriteStepLaws.{RenewsChain}
use Rattle.edge_file.specs.Bytes.{blocks_under}
use Rattle.edge_file.specs.Rewritten.{fresh_on, IsRewritten}
use Rattle.edge_file.specs.Writing.{RoomForBytes}
use Rattle.edge_file.proofs.BlockLaws.{alone, fresh_on-chain}
use Rattle.edge_file.proofs.JoinLaws.{rewritten-alike}
use Rattle.edge_dir.specs.Cleared.{clearing_need}
use Rattle.edge_dir.specs.Written.{IsSetTo, place_of_slot}
use Rattle.edge_dir.proofs.EndLaws.{some_slots}
use Rattle.edge_dir.proofs.SetLaws.{blocks_filled, length_filled}
use Rattle.edge_dir.proofs.WriteLaws.{range_has}
use Rattle.edge_space.specs.Changes.{AreLeft, IsWithin, need_of_change}
use Rattle.edge_space.specs.Slots.{IsCleared, IsPutInto, block_of_slot, clear_need}
use Rattle.edge_space.specs.declared.change.Change.TheVariants as change
use Rattle.edge_space.specs.declared.change.SlotAt.{SlotAt}
use Rattle.edge_space.proofs.LeftLaws.{left_is}
use Rattle.edge_space.proofs.SlotLaws.{both_count, clear_count}
use Rattle.edge_names.proofs.SlotRoomLaws.{part_fresh, slot_alone, slot_fresh}

-- ---- one block

-- a data block made new and written makes its chain new
pub rewritten_renews : (g : Request) (c v w : View) (n i : ℕ) (indices : List ℕ) → IsGeometry g → IsView g w → is_whole (w.inodes n) ≡ true
    → IsRewritten g c v w n (i ∷ []) indices → RenewsChain g c v w n i indices
rewritten_renews g c v w n i indices geometry view whole made = record {
  shape = record { geometry = geometry; view = view; inode = whole; places = made.places; once = made.once };
  dirty = λ p on. made.dirty p (alone g n i p ∙ on);
  stays = λ p listed off.
      ap (is_new c w) (made.stays p listed (alone g n i p ∙ off))
      ∙ ap (λ o. is_some o && not (is_used c (block_at g v p))) (made.holds p listed (alone g n i p ∙ off));
  free = ap (λ (k : ℕ). free_now g c w + k) (sym (fresh_on-chain g c v n i)) ∙ made.free;
}

-- and leaves another node, which has no block of that one, its blocks
rewritten_keeps : (g : Request) (c v w : View) (n m : ℕ) (touched indices others : List ℕ) → HasShape g v m others → IsView g w → AreApart g v n m → m ≢ n
    → IsRewritten g c v w n touched indices → KeepsBlocks g v w m
rewritten_keeps g c v w n m touched indices others other view apart away made =
    keeps_blocks g v w m others other view (ap entries_of_inode (made.inodes m away)) (ap is_whole (made.inodes m away) ∙ other.inode) (λ form k node there. kept form k there)
    (λ k there. ap is_some (kept Plain k there) ∙ node_used g v m others other Plain k there)
  where
    far : (x : ℕ) (f form : Form) (l k : ℕ) → x ≡ n → block_at g v (numbered m form k) ≢ 0 → block_at g v (numbered x f l) ≢ block_at g v (numbered m form k)
    far x f form l k is there same =
        apart f form l k (λ none. there (sym same ∙ ap (λ (y : ℕ). block_at g v (numbered y f l)) is ∙ none))
        (ap (λ (y : ℕ). block_at g v (numbered y f l)) (sym is) ∙ same)

    kept : (form : Form) (k : ℕ) → block_at g v (numbered m form k) ≢ 0 → w.blocks (block_at g v (numbered m form k)) ≡ v.blocks (block_at g v (numbered m form k))
    kept form k there = made.others (block_at g v (numbered m form k)) (node_used g v m others other form k there)
        (λ p on same. far p.number p.form form p.index k (has-positions_of-number g n touched p on) there same)

-- ---- what is cut off

-- a position that is removed is a data block of the list, from the index on
removed_from : (n i : ℕ) (indices : List ℕ) (p : Position) → has (removed n i indices) p ≡ true → (x : ℕ) × (has_index indices x ≡ true) × (i ≤ x) × (p ≡ data_at n x)
removed_from n i indices p h =
    let f = found (λ x. nat_le i x && same_position p (data_at n x)) indices
    (sym (any-filter (λ x. nat_le i x) (λ x. same_position p (data_at n x)) indices) ∙ sym (any_map (same_position p) (data_at n) (filter (λ x. nat_le i x) indices)) ∙ h) in
    let parts = and_parts (nat_le i f.0) (same_position p (data_at n f.0)) f.2 in
    (f.0, f.1, leb-true i f.0 parts.0, (same_position_Decides p (data_at n f.0)).0 parts.1)

removed_of : (n i : ℕ) (indices : List ℕ) (x : ℕ) → has_index indices x ≡ true → i ≤ x → has (removed n i indices) (data_at n x) ≡ true
removed_of n i indices x there late =
    any_map (same_position (data_at n x)) (data_at n) (filter (λ y. nat_le i y) indices)
    ∙ any-filter (λ y. nat_le i y) (λ y. same_position (data_at n x) (data_at n y)) indices
    ∙ any_of (λ y. nat_le i y && same_position (data_at n x) (data_at n y)) indices x there
    (and_from _ _ (le-leb i x late) ((same_position_Decides (data_at n x) (data_at n x)).1 refl))

-- lists with the same members from there on have the same removed
same_removed : (n i : ℕ) (xs ys : List ℕ) → ((x : ℕ) → i ≤ x → has_index xs x ≡ has_index ys x) → (p : Position) → has (removed n i xs) p ≡ has (removed n i ys) p
same_removed n i xs ys same p = both_ways (has (removed n i xs) p) (has (removed n i ys) p)
    (λ h. let r = removed_from n i xs p h in subst (λ (q : Position). has (removed n i ys) q ≡ true) (sym r.3) (removed_of n i ys r.0 (sym (same r.0 r.2) ∙ r.1) r.2))
    (λ h. let r = removed_from n i ys p h in subst (λ (q : Position). has (removed n i xs) q ≡ true) (sym r.3) (removed_of n i xs r.0 (same r.0 r.2 ∙ r.1) r.2))

-- what clearing writes is of its directory
written_number : (t : Bool) (n k : ℕ) (p : Position) → has (cond t (data_at n k ∷ []) []) p ≡ true → p.number ≡ n
written_number true n k p h = ap (λ (r : Position). r.number) ((same_position_Decides p (data_at n k)).0 (one (same_position p (data_at n k)) h))
  where
    one : (t : Bool) → (t || false) ≡ true → t ≡ true
    one true e = refl
    one false e = e
written_number false n k p h = absurd (let e : false ≡ true = h in cc)

-- ---- the put, and the room that is left after it

-- An entry is put into slot `put`, and then slot `clear` is cleared: so many blocks of its directory are left.
module _ (g : Request) (c v : View) (put clear : SlotAt) (left : ℕ) (geometry : IsGeometry g) (limits : IsWithinLimits g) (view : IsView g v)
    (low_put : block_of_slot g put < max_blocks_of g) (low_clear : block_of_slot g clear < max_blocks_of g) (is : IsCleared g v (Some put) clear left)
    (room : need_of_change g c v (change.Slots (Some put) (Some clear)) left ≤ free_now g c v) where
  abbrev i : ℕ
  i = block_of_slot g put

  abbrev at : ℕ
  at = block_of_slot g clear

  abbrev had : List ℕ
  had = indices_of g (directory is.slots is.parent)

  abbrev writes : List Position
  writes = cond (nat_lt at left) (data_at clear.dir at ∷ []) []

  abbrev removes : List Position
  removes = removed clear.dir left had

  all_fit : fresh_count g c v (data_at put.dir i ∷ writes) removes ≤ free_now g c v
  all_fit = let both = both_count g c v put clear had left geometry limits view low_put low_clear is refl in omega (arith, both, room)

  -- the block of the slot that is put is left
  put_left : put.dir ≡ clear.dir → i < left
  put_left same =
      let one = left_is g v (Some put) clear left limits is in
      let blocks = slot_blocks g one.without.after in
      let e : left ≡ max blocks (i + 1) = one.is_left ∙ cond-true (put.dir == clear.dir) _ _ (eq-eqb put.dir clear.dir same) in
      omega (arith, e)

  stays : has removes (data_at put.dir i) ≡ false
  stays = is_false _ (λ h.
      let r = removed_from clear.dir left had (data_at put.dir i) h in
      let same : put.dir ≡ clear.dir = ap (λ (p : Position). p.number) r.3 in
      let here : i ≡ r.0 = ap (λ (p : Position). p.index) r.3 in
      let early = put_left same in
      let late = r.2 in
      omega (arith, here, early, late))

  -- there is room for the put
  pub put_fits : fresh_on_chain g c v put.dir i ≤ free_now g c v
  put_fits = let part = chain_part g c v put.dir i low_put writes removes stays in let fits = all_fit in omega (arith, part, fits)

  -- Its block was written, and the directory of slot `clear` has slots `is.held` then.
  module _ (w : View) (parent : ℕ) (indices : List ℕ) (view_w : IsView g w) (then : HasNode g w clear.dir (directory is.held parent))
      (shape : HasShape g v put.dir indices) (whole : is_whole (w.inodes put.dir) ≡ true) (made : IsRewritten g c v w put.dir (i ∷ []) indices)
      (other : put.dir ≢ clear.dir → AreApart g v put.dir clear.dir) where
    abbrev has_then : List ℕ
    has_then = indices_of g (directory is.held parent)

    shape_clear : HasShape g v clear.dir had
    shape_clear = record { geometry = geometry; view = view; inode = ap is_whole is.node.inode; places = is.node.holds.places; once = is.node.once }

    of_directory : (ps : List Position) → ((p : Position) → has ps p ≡ true → p.number ≡ clear.dir) → AreOfOrKept g v w put.dir ps
    of_directory ps number p h = elim (cases_eq put.dir clear.dir) [
      | inl same ↦ inl (number p h ∙ sym same)
      | inr apart ↦
          inr
          (subst (λ (m : ℕ). KeepsBlocks g v w m) (sym (number p h))
          (rewritten_keeps g c v w put.dir clear.dir (i ∷ []) indices had shape_clear view_w (other apart) (λ e. apart (sym e)) made))
    ]

    -- how long the slots are then, and which blocks they have
    long : put.dir ≡ clear.dir → length is.held ≡ max (length is.slots) (put.slot + 1)
    long same = let held = is.is_held.0 same in length_filled is.slots is.held put.slot held.0 is.node.rules.last_filled then.rules.last_filled held.1

    in_range : clear.slot < length is.held
    in_range = elim (cases_eq put.dir clear.dir) [
      | inl same ↦ let all = long same in let inside = is.in_range in omega (arith, all, inside)
      | inr apart ↦ subst (λ (l : Slots). clear.slot < length l) (sym (is.is_held.1 apart)) is.in_range
    ]

    same_late : (x : ℕ) → left ≤ x → has_index had x ≡ has_index has_then x
    same_late x late = range_has (slot_blocks g is.slots) x ∙ both ∙ sym (range_has (slot_blocks g is.held) x)
      where
        more : (a b i x left : ℕ) → b ≡ max a (i + 1) → i < left → left ≤ x → nat_lt x a ≡ nat_lt x b
        more a b i x left e early late = grind (arith, nat_tests)

        both : nat_lt x (slot_blocks g is.slots) ≡ nat_lt x (slot_blocks g is.held)
        both = elim (cases_eq put.dir clear.dir) [
          | inl same ↦
              more (slot_blocks g is.slots) (slot_blocks g is.held) i x left
              (blocks_filled (slots_in_block g) put.slot (length is.slots) (length is.held) (some_slots g limits) (long same)) (put_left same) late
          | inr apart ↦ ap (λ (l : Slots). nat_lt x (slot_blocks g l)) (sym (is.is_held.1 apart))
        ]

    -- the clearing alone, then
    abbrev cleared_then : IsCleared g w None clear left
    cleared_then = record {
      slots = is.held;
      parent = parent;
      node = then;
      in_range = in_range;
      held = is.held;
      is_held = refl;
      apart = tt;
      after = is.after;
      after_trimmed = is.after_trimmed;
      is_cleared = is.is_cleared;
      left_are = is.left_are;
    }

    count_then : fresh_count g c w writes removes ≡ clear_need g c w clear left
    count_then =
        same_named g c w writes writes removes (removed clear.dir left has_then) (λ p. refl) (same_removed clear.dir left had has_then same_late)
        ∙ clear_count g c w None clear has_then left geometry limits view_w low_clear cleared_then refl

    -- and there is room for the clearing
    pub clear_fits : clear_need g c w clear left ≤ free_now g c w
    clear_fits =
        let renews = rewritten_renews g c v w put.dir i indices geometry view_w whole made in
        let all = all_fit in
        let rest = renewed_rest g c v w put.dir i 0 indices writes removes shape low_put renews
        (of_directory writes (written_number (nat_lt at left) clear.dir at))
        (of_directory removes (λ p h. ap (λ (r : Position). r.number) (removed_from clear.dir left had p h).3)) stays (omega (arith, all)) in
        let now = count_then in
        omega (arith, rest, now)

-- ---- in a store

-- the slots of a directory into which the entry is put, and of one into which it is not
pub put_here : (put : SlotAt) (d : ℕ) (slots held : Slots) (e : Entry) → put.dir ≡ d → IsSetTo slots held put.slot (Some e) → IsPutInto (Some put) d slots held
put_here put d slots held e same set = (λ is. (e, set), λ apart. absurd (apart same))

pub put_elsewhere : (put : SlotAt) (d : ℕ) (slots : Slots) → put.dir ≢ d → IsPutInto (Some put) d slots slots
put_elsewhere put d slots apart = (λ same. absurd (apart same), λ is. refl)

-- how many free blocks clearing takes, told of views, so that the slots `after` are left
abbrev need_in : Request → View → View → SlotAt → Slots → ℕ
need_in g c w clear after = cond (nat_lt (block_of_slot g clear) (slot_blocks g after))
    (fresh_on g c w clear.dir (blocks_under g (place_of_slot g clear.slot) (4 + g.name_max))) (cut_need g c w clear.dir (slot_blocks g after))

need_is : (g : Request) (c w : View) (clear : SlotAt) (after : Slots) → IsWithinLimits g → block_of_slot g clear < max_blocks_of g
    → clear_need g c w clear (slot_blocks g after) ≡ need_in g c w clear after
need_is g c w clear after limits low =
    ap (λ (m : ℕ). cond (nat_lt (block_of_slot g clear) (slot_blocks g after)) m (cut_need g c w clear.dir (slot_blocks g after)))
    (sym (slot_fresh g c w clear.dir clear.slot limits low))

-- An entry is put into slot `put`, one that its directory has or a new one, by bytes that are written from its first on. By that the directory
-- of slot `clear`, which is the same or another, comes to have the slots `held`; then that slot is cleared, and `after` are left. There is
-- room for both.
module _ (old : StoreState) (put clear : SlotAt) (len : ℕ) (slots held after : Slots) (parent : ℕ)
    (geometry : IsGeometry old.origin.request) (limits : IsWithinLimits old.origin.request) (view : IsView old.origin.request old.working)
    (within : IsWithin old.origin.request (change.Slots (Some put) (Some clear))) (some : 0 < len) (short : len ≤ 4 + old.origin.request.name_max)
    (node : HasNode old.origin.request old.working clear.dir (directory slots parent)) (in_range : clear.slot < length slots)
    (is_held : IsPutInto (Some put) clear.dir slots held) (apart : put.dir ≡ clear.dir → put.slot ≢ clear.slot)
    (trim : trimmed after ≡ after) (is_cleared : IsSetTo held after clear.slot None)
    (room : (left : ℕ) → AreLeft old.origin.request old.working (change.Slots (Some put) (Some clear)) left
    → need_of_change old.origin.request old.committed old.working (change.Slots (Some put) (Some clear)) left
    ≤ free_now old.origin.request old.committed old.working) where
  abbrev g : Request
  g = old.origin.request

  abbrev c : View
  c = old.committed

  abbrev v : View
  v = old.working

  abbrev is : IsCleared g v (Some put) clear (slot_blocks g after)
  is = record {
    slots = slots;
    parent = parent;
    node = node;
    in_range = in_range;
    held = held;
    is_held = is_held;
    apart = apart;
    after = after;
    after_trimmed = trim;
    is_cleared = is_cleared;
    left_are = refl;
  }

  -- So there is room for the put first,
  pub room_to_put_first : RoomForBytes old put.dir (place_of_slot g put.slot) len
  room_to_put_first =
      subst (λ (m : ℕ). m ≤ free_now g c v) (sym (part_fresh g c v put.dir put.slot len limits within.0 some short))
      (put_fits g c v put clear (slot_blocks g after) geometry limits view within.0 within.1 is (room (slot_blocks g after) is))

  -- and in the store then there is room left for the clearing.
  pub room_left_to_clear : (mid : StoreState) (into : Slots) (into_parent then : ℕ) → mid.origin ≡ old.origin → mid.committed ≡ old.committed → IsView g mid.working
      → HasNode g v put.dir (directory into into_parent) → (put.dir ≢ clear.dir → AreApart g v put.dir clear.dir)
      → IsRewritten g c v mid.working put.dir (blocks_under g (place_of_slot g put.slot) len) (indices_of g (directory into into_parent))
      → is_whole (mid.working.inodes put.dir) ≡ true → HasNode g mid.working clear.dir (directory held then)
      → clearing_need mid clear.dir clear.slot after ≤ free_now mid.origin.request mid.committed mid.working
  room_left_to_clear mid into into_parent then origin committed view_mid put_node other made whole node_mid =
      let shape : HasShape g v put.dir (indices_of g (directory into into_parent))
      = record { geometry = geometry; view = view; inode = ap is_whole put_node.inode; places = put_node.holds.places; once = put_node.once } in
      let alone : IsRewritten g c v mid.working put.dir (block_of_slot g put ∷ []) (indices_of g (directory into into_parent))
      = rewritten-alike g c v mid.working put.dir (blocks_under g (place_of_slot g put.slot) len) (block_of_slot g put ∷ []) (indices_of g (directory into into_parent))
      (λ i. sym (slot_alone g put.slot len limits within.0 some short i)) made in
      let need = clear_fits g c v put clear (slot_blocks g after) geometry limits view within.0 within.1 is (room (slot_blocks g after) is) mid.working then (indices_of g (directory into into_parent))
      view_mid node_mid shape whole alone other in
      subst (λ (r : Request). need_in r mid.committed mid.working clear after ≤ free_now r mid.committed mid.working) (sym (ap (λ (o : Origin). o.request) origin))
      (subst (λ (x : View). need_in g x mid.working clear after ≤ free_now g x mid.working) (sym committed)
      (subst (λ (m : ℕ). m ≤ free_now g c mid.working) (need_is g c mid.working clear after limits within.1) need))
