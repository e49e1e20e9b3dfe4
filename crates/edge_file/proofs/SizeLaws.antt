-- A store whose node is made shorter: zeros are written, then it is cut, and then it gets its size.
use Rattle.std.proofs.Common.{◌≡◌, ℕ, ◌-◌, ◌%◌, ◌≤◌, true, false, cond, List, sym, ap, ◌∙◌, subst, arith}
use Rattle.std.specs.Prelude.{replicate}
use Rattle.edge_base.specs.declared.node.Head.{Head}
use Rattle.edge_base.specs.layout.Places.{IsGeometry}
use Rattle.edge_base.specs.outside.Below.{Origin}
use Rattle.edge_base.specs.tree.Slots.{pieces}
use Rattle.edge_store.specs.Effects.{HeadSet}
use Rattle.edge_store.specs.Placed.{IsShaped}
use Rattle.edge_store.specs.State.{StoreState, Told}
use Rattle.edge_store.specs.View.{View, IsView, entries_of_inode, free_now, is_whole, with_head}
use Rattle.edge_store.proofs.NodeEffects.{same_entries}
use Rattle.edge_store.proofs.ViewLaws.{with_inode_here, with_inode_apart}
use Rattle.edge_moves.proofs.SpentLaws.{whole_by_head}
use Rattle.edge_shape.specs.Cut.{IsCut}
use Rattle.edge_shape.specs.Shape.{HasShape}
use Rattle.edge_shape.specs.Where.{cut_need}
use Rattle.edge_shape.proofs.LeadLaws.{shape_from_shaped}
use Rattle.edge_shape.proofs.MemberLaws.{shaped_by}
use Rattle.edge_tree.specs.Own.{IsNodeShaped, KeepsHeads}
use Rattle.edge_cut.specs.Cuts.{CutsFrom, RoomForCutAt}
use Rattle.edge_file.specs.Bytes.{blocks_under}
use Rattle.edge_file.specs.Rewritten.{IsWritten, fresh_on}
use Rattle.edge_file.specs.Shortened.{has_rest, rest_of}
use Rattle.edge_file.specs.Writing.{SameBlocks, WritesBytes, RoomForBytes, RoomToShorten, ClearsRest, StaysWithoutRest, Shortens}
use Rattle.edge_file.proofs.GrowLaws.{whole_set}
use Rattle.edge_file.proofs.HeadLaws.{written_from, shortened_head}
use Rattle.edge_file.proofs.RestLaws.{fresh_rest, shape_m, room_left, shortened_both}
use Rattle.edge_file.proofs.WriteLaws.{none_written}

-- ---- zeros are written

-- where nothing is, nothing is written
pub clears_none : (old mid : StoreState) (n size : ℕ) → mid.working ≡ old.working → (Told old → has_rest old.origin.request old.working n size ≡ false) → ClearsRest old mid n size
clears_none old mid n size working none told indices places once =
    subst (λ (w : View). IsWritten old.origin.request old.committed old.working w n size (replicate (rest_of old.origin.request old.working n size) 0) indices) (sym working)
    (subst (λ (k : ℕ). IsWritten old.origin.request old.committed old.working old.working n size (replicate k 0) indices)
    (sym (ap (λ t. cond t (old.origin.request.block_size - size % old.origin.request.block_size) 0) (none told)))
    (none_written old.origin.request old.committed old.working n size indices places once))

pub clears_some : (old mid new : StoreState) (n size count x : ℕ) → mid.origin ≡ old.origin → mid.working ≡ old.working → mid.committed ≡ old.committed
    → (Told old → has_rest old.origin.request old.working n size ≡ true) → count ≡ old.origin.request.block_size - size % old.origin.request.block_size → x ≡ 0
    → WritesBytes mid new n size (replicate count x) → ClearsRest old new n size
clears_some old mid new n size count x origin working committed there is zero written told indices places once =
    subst (λ (k : ℕ). IsWritten old.origin.request old.committed old.working new.working n size (replicate k 0) indices)
    (is ∙ sym (ap (λ t. cond t (old.origin.request.block_size - size % old.origin.request.block_size) 0) (there told)))
    (subst (λ (y : ℕ). IsWritten old.origin.request old.committed old.working new.working n size (replicate count y) indices) zero
    (written_from old mid new n size (replicate count x) origin working committed written told indices places once))

-- there is room for that
pub clears_room : (old : StoreState) (n size count : ℕ) → IsGeometry old.origin.request → IsView old.origin.request old.working
    → has_rest old.origin.request old.working n size ≡ true → count ≡ old.origin.request.block_size - size % old.origin.request.block_size
    → IsNodeShaped old n → RoomToShorten old n size → RoomForBytes old n size count
clears_room old n size count geometry view there is shaped room =
    let shape = shape_from_shaped old.origin.request old.working n geometry view shaped in
    let rest : rest_of old.origin.request old.working n size ≡ count = ap (λ t. cond t (old.origin.request.block_size - size % old.origin.request.block_size) 0) there ∙ sym is in
    let most = fresh_rest old.origin.request old.working n size shaped.indices shape old.committed in
    let same : fresh_on old.origin.request old.committed old.working n (blocks_under old.origin.request size (rest_of old.origin.request old.working n size))
    ≡ fresh_on old.origin.request old.committed old.working n (blocks_under old.origin.request size count) =
    ap (λ (k : ℕ). fresh_on old.origin.request old.committed old.working n (blocks_under old.origin.request size k)) rest in
    omega (arith, most, same, room)

pub clears_from : (old mid : StoreState) (n size count : ℕ) → mid.origin ≡ old.origin → mid.working ≡ old.working → mid.committed ≡ old.committed
    → IsNodeShaped old n → RoomForBytes old n size count → IsNodeShaped mid n × RoomForBytes mid n size count
clears_from old mid n size count origin working committed shaped room = rw (origin, working, committed) (shaped, room)

-- ---- and then it is cut

cut_too : (o p : Origin) (c d m w : View) (n a b : ℕ) → p ≡ o → d ≡ c → a ≡ b
    → (p.tells ≡ true → (indices : List ℕ) → HasShape p.request m n indices → IsCut p.request d m w n a indices)
    → o.tells ≡ true → (indices : List ℕ) → HasShape o.request m n indices → IsCut o.request c m w n b indices
cut_too o p c d m w n a b eo ed ea f = rw (sym eo, sym ed, sym ea) f

room_too : (o p : Origin) (c d m : View) (n a b : ℕ) → p ≡ o → d ≡ c → a ≡ b → IsShaped o.request m n → cut_need o.request c m n b ≤ free_now o.request c m
    → IsShaped p.request m n × (cut_need p.request d m n a ≤ free_now p.request d m)
room_too o p c d m n a b eo ed ea shaped room = rw (eo, ed, ea) (shaped, room)

module _ (old mid : StoreState) (n size count : ℕ) (origin : mid.origin ≡ old.origin) (committed : mid.committed ≡ old.committed)
    (view_mid : Told old → IsView old.origin.request mid.working) (cleared : ClearsRest old mid n size) (stays : StaysWithoutRest old mid n size) (heads : KeepsHeads old mid n)
    (is : count ≡ pieces old.origin.request.block_size size) where
  whole_mid : Told old → is_whole (old.working.inodes n) ≡ true → is_whole (mid.working.inodes n) ≡ true
  whole_mid told inode = whole_by_head (old.working.inodes n) (mid.working.inodes n) (heads told).head inode

  pub shortens_both : (new : StoreState) → CutsFrom mid new n count → Shortens old new n size
  shortens_both new cut told indices shape =
      let first = cleared told indices shape.places shape.once in
      let is_m = whole_mid told shape.inode in
      let shape_mid = shape_m old.origin.request old.working n size indices shape old.committed mid.working (view_mid told) is_m first (stays told) in
      let second = cut_too old.origin mid.origin old.committed mid.committed mid.working new.working n count (pieces old.origin.request.block_size size) origin committed is cut told indices shape_mid in
      shortened_both old.origin.request old.working n size indices shape old.committed mid.working (view_mid told) is_m first (stays told) new.working second

  -- there is room for that
  pub shortens_room : Told old → IsGeometry old.origin.request → IsView old.origin.request old.working → IsNodeShaped old n → RoomToShorten old n size → IsNodeShaped mid n × RoomForCutAt mid n count
  shortens_room told geometry view shaped room =
      let shape = shape_from_shaped old.origin.request old.working n geometry view shaped in
      let first = cleared told shaped.indices shape.places shape.once in
      let is_m = whole_mid told shape.inode in
      let shape_mid = shape_m old.origin.request old.working n size shaped.indices shape old.committed mid.working (view_mid told) is_m first (stays told) in
      let left = room_left old.origin.request old.working n size shaped.indices shape old.committed mid.working (view_mid told) is_m first (stays told) room in
      room_too old.origin mid.origin old.committed mid.committed mid.working n count (pieces old.origin.request.block_size size) origin committed is (shaped_by old.origin.request mid.working n shaped.indices shape_mid).0 left

pub shortens_from : (old mid : StoreState) (n size : ℕ) → mid.origin ≡ old.origin → mid.working ≡ old.working → mid.committed ≡ old.committed
    → IsNodeShaped old n → RoomToShorten old n size → IsNodeShaped mid n × RoomToShorten mid n size
shortens_from old mid n size origin working committed shaped room = rw (origin, working, committed) (shaped, room)

-- ---- it gets its size

pub same_blocks : (v w : View) (n : ℕ) (head : Head) → HeadSet v w n head → SameBlocks v w n
same_blocks v w n head set = record {
  blocks = ap (λ (u : View). u.blocks) set;
  others = λ m apart. ap (λ (u : View). u.inodes m) set ∙ with_inode_apart v n (with_head (v.inodes n) head) m apart;
  entries = ap (λ (u : View). entries_of_inode (u.inodes n)) set ∙ ap entries_of_inode (with_inode_here v n (with_head (v.inodes n) head)) ∙ same_entries (v.inodes n) head;
}

pub shortens_head : (old mid new : StoreState) (n size : ℕ) (head : Head) → (Told old → HeadSet mid.working new.working n head) → (Told old → IsView old.origin.request new.working)
    → KeepsHeads old mid n → Shortens old mid n size → Shortens old new n size
shortens_head old mid new n size head set view heads short told indices shape =
    let is_m = whole_by_head (old.working.inodes n) (mid.working.inodes n) (heads told).head shape.inode in
    let is_w = whole_set mid.working new.working n head (set told) is_m in
    shortened_head old.origin.request old.committed old.working mid.working new.working n (same_blocks mid.working new.working n head (set told)) size indices (view told) is_w (short told indices shape)
