-- One more piece of a run of bytes is written.
use Rattle.std.proofs.Common.{◌≡◌, ℕ, ◌+◌, ◌-◌, ◌*◌, ◌/◌, ◌%◌, ◌<◌, ◌≤◌, true, inl, inr, List, [], ◌∷◌, ◌++◌, length, refl, sym, ap, ◌∙◌, subst, arith}
use Rattle.std.specs.Prelude.{Result, Ok}
use Rattle.std.proofs.lemmas.Bool.{cases_eq}
use Rattle.std.proofs.lemmas.Nat.{div-add-mod'}
use Rattle.edge_base.specs.declared.geometry.Request.{Request}
use Rattle.edge_base.specs.layout.Places.{IsGeometry, pointers_of, max_blocks_of}
use Rattle.edge_base.specs.outside.Below.{Origin}
use Rattle.edge_store.specs.declared.fault.StoreFault.{StoreFault}
use Rattle.edge_store.specs.Calls.{Called, KeepsPoint, KeepsPlacesBut}
use Rattle.edge_store.specs.Placed.{HasPlaces, IsOnce, IsShaped}
use Rattle.edge_store.specs.State.{StoreState, Told, HasInode}
use Rattle.edge_store.specs.View.{View, IsView, is_whole, entries_of_inode, free_now}
use Rattle.edge_store.proofs.ViewLaws.{head_of_whole, some_of_whole}
use Rattle.edge_moves.proofs.SlotLaws.{entries_fit, some_pointers_fit}
use Rattle.edge_moves.proofs.SpentLaws.{whole_by_head}
use Rattle.edge_tree.specs.Answers.{IsReadable}
use Rattle.edge_tree.specs.Own.{RoomForChain, UntangledIf, UndamagedIf, IsNodeShaped, KeepsHeads}
use Rattle.edge_file.specs.Bytes.{blocks_under}
use Rattle.edge_file.specs.Rewritten.{IsWritten, fresh_on}
use Rattle.edge_file.specs.Writing.{RoomForBytes, WritesBytes}
use Rattle.edge_file.proofs.BlockLaws.{fresh_on-chain}
use Rattle.edge_file.proofs.JoinLaws.{fresh_on-alike}
use Rattle.edge_file.proofs.RangeLaws.{block_alone}
use Rattle.edge_file.proofs.LoopLaws.{GoesOn, goes_first, goes_more, told_on, WrittenSoFar}
use Rattle.edge_file.proofs.WriteLaws.{none_written, more_written, room_left}

pub some_bytes : (g : Request) → 0 < pointers_of g → 0 < g.block_size
some_bytes g some = by g.block_size some
  where
    by : (size : ℕ) → 0 < (size - 20) / 4 → 0 < size
    by size h = elim (cases_eq size 0) [
      | inl none ↦ absurd (let k : 0 < (0 - 20) / 4 = subst (λ (m : ℕ). 0 < (m - 20) / 4) none h in omega arith)
      | inr there ↦ omega arith
    ]

-- where a piece begins
pub piece_place : (size at done index start : ℕ) → index ≡ (at + done) / size → start ≡ (at + done) % size → index * size + start ≡ at + done
piece_place size at done index start is_index is_start = (λ t. is_index t * size + is_start t) ∙ div-add-mod' (at + done) size

here_too : (g h : Request) (c d m w : View) (n x : ℕ) (b : List ℕ) → g ≡ h → c ≡ d
    → ((indices : List ℕ) → HasPlaces h m n indices → IsOnce h m n indices → IsWritten h d m w n x b indices)
    → (indices : List ℕ) → HasPlaces g m n indices → IsOnce g m n indices → IsWritten g c m w n x b indices
here_too g h c d m w n x b eg ec f = rw (eg, ec) f

pub view_too : (g h : Request) (v : View) → g ≡ h → IsView h v → IsView g v
view_too g h v e view = rw e view

pub first_written : (s : StoreState) (n at : ℕ) → s.live ≡ true → HasInode s n → WrittenSoFar s s n at []
first_written s n at live there = record {
  goes_on = goes_first s live;
  places = λ k apart. refl;
  there = there;
  heads = λ told. record { others = λ x apart. refl; head = refl };
  written = λ told indices places once. none_written s.origin.request s.committed s.working n at indices places once;
}

module _ (old now : StoreState) (n at : ℕ) (a : List ℕ) (geometry : IsGeometry old.origin.request) (view_old : Told old → IsView old.origin.request old.working) (view_now : Told now → IsView now.origin.request now.working) (so_far : WrittenSoFar old now n at a) where
  abbrev g : Request
  g = old.origin.request

  request : g ≡ now.origin.request
  request = ap (λ (o : Origin). o.request) (sym so_far.goes_on.origin)

  view_m : Told old → IsView g now.working
  view_m told = view_too g now.origin.request now.working request (view_now (told_on old now so_far.goes_on told))

  pub next_written : (new : StoreState) (b : List ℕ) → Called {T = Unit {0}} now new (Ok tt) → KeepsPoint now new → KeepsPlacesBut now new n → KeepsHeads now new n → IsReadable new n
      → (Told new → IsView new.origin.request new.working) → WritesBytes now new n (at + length a) b → WrittenSoFar old new n at (a ++ b)
  next_written new b called kept places heads readable view_new written = record {
    goes_on = on;
    places = λ k apart. places k apart ∙ so_far.places k apart;
    there = λ told. some_of_whole (new.working.inodes n) (readable told);
    heads = λ told. record {
      others = λ x apart. (heads (told_now told)).others x apart ∙ (so_far.heads told).others x apart;
      head = (heads (told_now told)).head ∙ (so_far.heads told).head;
    };
    written = λ told indices in_places once.
        let first = so_far.written told indices in_places once in
        let is_w = readable (told_on old new on told) in
        let is_m = whole_by_head (new.working.inodes n) (now.working.inodes n) (sym (heads (told_now told)).head) is_w in
        let is_v = whole_by_head (now.working.inodes n) (old.working.inodes n) (sym (so_far.heads told).head) is_m in
        let some = some_pointers_fit g geometry in
        let second = here_too g now.origin.request old.committed now.committed now.working new.working n (at + length a) b request (sym so_far.goes_on.point.committed) (written (told_now told)) (blocks_under g at (length a) ++ indices) first.rewritten.places first.rewritten.once in
        more_written g old.committed old.working now.working n at a indices (entries_fit g geometry) some (some_bytes g some) (view_old told) (view_m told) is_v is_m in_places first new.working b
        (view_too g new.origin.request new.working (ap (λ (o : Origin). o.request) (sym on.origin)) (view_new (told_on old new on told))) second;
  }
    where
      on : GoesOn old new
      on = goes_more old now new so_far.goes_on (tt {0}) called kept

      told_now : Told old → Told now
      told_now told = told_on old now so_far.goes_on told

  -- a node of a proper shape still has one, and there is room for the rest if there was room for all
  pub next_rules : (rest len : ℕ) → len ≤ rest → Told old → IsNodeShaped old n → RoomForBytes old n at (length a + rest) → IsNodeShaped now n × RoomForBytes now n (at + length a) len
  next_rules rest len fewer told shaped room =
      let first = so_far.written told shaped.indices shaped.places shaped.once in
      let is_v = ap is_whole shaped.inode in
      let is_m = whole_by_head (old.working.inodes n) (now.working.inodes n) (so_far.heads told).head is_v in
      let some = some_pointers_fit g geometry in
      let h = head_of_whole (now.working.inodes n) is_m in
      let shaped_now : IsShaped g now.working n = record {
        head = h.0;
        entries = entries_of_inode (now.working.inodes n);
        inode = h.1;
        indices = blocks_under g at (length a) ++ shaped.indices;
        places = first.rewritten.places;
        once = first.rewritten.once;
      } in
      let left : fresh_on g old.committed now.working n (blocks_under g (at + length a) len) ≤ free_now g old.committed now.working =
      room_left g old.committed old.working now.working n at a shaped.indices (entries_fit g geometry) some (some_bytes g some) (view_old told) (view_m told) is_v is_m shaped.places first rest len fewer room in
      (rw (← request) shaped_now, rw (← request, so_far.goes_on.point.committed) left)

  -- nothing is told of the rest then, and no tangled node
  pub next_undamaged : {T : Type 0} (result : Result T StoreFault) (rest len : ℕ) → len ≤ rest → UndamagedIf now (IsNodeShaped now n) (RoomForBytes now n (at + length a) len) result
      → UndamagedIf old (IsNodeShaped old n) (RoomForBytes old n at (length a + rest)) result
  next_undamaged result rest len fewer undamaged told shaped room =
      let rules = next_rules rest len fewer told shaped room in undamaged (told_on old now so_far.goes_on told) rules.0 rules.1

  pub next_untangled : {T : Type 0} (result : Result T StoreFault) (rest len : ℕ) → len ≤ rest → UntangledIf now (RoomForBytes now n (at + length a) len) result
      → UntangledIf old (IsNodeShaped old n × RoomForBytes old n at (length a + rest)) result
  next_untangled result rest len fewer untangled told rules =
      untangled (told_on old now so_far.goes_on told) (next_rules rest len fewer told rules.0 rules.1).1

-- room for bytes of one data block is room for its chain
pub room_alone : (s : StoreState) (n i start len : ℕ) → i < max_blocks_of s.origin.request → 0 < len → start + len ≤ s.origin.request.block_size
    → RoomForBytes s n (i * s.origin.request.block_size + start) len → RoomForChain s n i
room_alone s n i start len low some within room =
    let r = s.origin.request in
    let alone = fresh_on-alike r s.committed s.working s.working n (i ∷ []) (blocks_under r (i * r.block_size + start) len) [] (block_alone r i start len low some within) in
    subst (λ (k : ℕ). k ≤ free_now r s.committed s.working) (sym alone ∙ fresh_on-chain r s.committed s.working n i) room
