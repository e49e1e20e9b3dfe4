-- A number was found that has no inode, and gets one.
use Rattle.std.proofs.Common.{◌≡◌, ℕ, ◌+◌, true, List, length, replicate, ◌≤◌, Option, Some, None, refl, sym, ap, ◌∙◌, subst, arith}
use Rattle.std.specs.Prelude.{IsTrue, IfOk, IfSome, OnOk, Result, Ok}
use Rattle.edge_base.specs.declared.geometry.Request.{Request}
use Rattle.edge_base.specs.declared.node.Head.{Head}
use Rattle.edge_base.specs.layout.Places.{entries_of}
use Rattle.edge_base.specs.layout.Spelling.{SpellsInode}
use Rattle.edge_base.specs.outside.Below.{Origin as OriginOf}
use Rattle.edge_disk.specs.declared.disk.Disk.{Ghosts}
use Rattle.edge_image.specs.Image.{is_free}
use Rattle.edge_imap.specs.Search.{IsWithin}
use Rattle.edge_nodes.specs.Writing.{ChangesOnly, IsSealed}
use Rattle.edge_nodes.proofs.ChangeLaws.{inode_sequence}
use Rattle.edge_store.specs.Calls.{Called, KeepsPlacesBut, KeepsPlacesButFound, KeepsPoint, KeepsWorking}
use Rattle.edge_store.specs.Effects.{InodeMade}
use Rattle.edge_store.specs.State.{Told}
use Rattle.edge_store.specs.View.{View, empty_inode, is_number, with_inode}
use Rattle.edge_store.specs.declared.fault.StoreFault.{StoreFault}
use Rattle.edge_anchor.specs.Medium.{medium_of}
use Rattle.edge_anchor.proofs.CutLaws.{SureIsShown}
use Rattle.edge_point.specs.Changing.{InodeWritten, IsFirstFree, WillSpell, working_of}
use Rattle.edge_point.specs.Seen.{state_of}
use Rattle.edge_point.specs.Standing.{IsPoint}
use Rattle.edge_point.specs.Steps.{KeepsRest}
use Rattle.edge_point.specs.declared.parts.Parts.{Parts}
use Rattle.edge_point.proofs.AfterLaws.{called_after, places_after, point_after, room_called, room_keeps, room_point, room_works}
use Rattle.edge_point.proofs.AgainLaws.{told_ok}
use Rattle.edge_point.proofs.FirstLaws.{answered_as, still_free}
use Rattle.edge_point.proofs.RoomLaws.{within}

pub number_of : (r : Request) (inodes : ℕ) (found : Option ℕ) → inodes ≡ r.inodes → IfSome found (IsWithin 2 (2 + inodes)) → IfSome found (λ n. is_number r n ≡ true)
number_of r inodes None same bound = tt
number_of r inodes (Some n) same bound = within 2 r.inodes n bound.0 (omega (arith, bound.1, same))

-- a sealed inode stays as it is where its check word is put right again
pub sealed_again : (g : Request) (sequence : ℕ) (head : Head) (entries block node : List ℕ) → 16 ≤ length block → SpellsInode g sequence head entries block
    → IsSealed block node → SpellsInode g sequence head entries node
sealed_again g sequence head entries block node long spells sealed =
    let kept : ChangesOnly 8 16 block block = record {
      front = λ k low. refl;
      back = λ k high. refl;
      before = λ i n low. refl;
      behind = λ i n high. refl;
      signature = λ low. refl;
    } in
    inode_sequence g sequence sequence head entries block block node refl long kept spells.node.sequence_is spells sealed

module _ {D : Type 0} (g : Ghosts D) (p m e : Parts D) (is : IsPoint g m) (found : Option ℕ) (called : Called (state_of g p) (state_of g m) (Ok found))
    (works : KeepsWorking (state_of g p) (state_of g m)) (geometry : m.master.geometry ≡ p.master.geometry) (rest : KeepsRest m e) (imap : e.imap ≡ m.imap)
    (cache : e.cache ≡ m.cache) (law : SureIsShown (medium_of g e.cache)) where
  pub blank_point : IsPoint g e
  blank_point = room_point g m e is called.live rest imap cache

  pub blank_live : e.live ≡ true
  blank_live = rest.live ∙ called.live

  pub blank_geometry : e.master.geometry ≡ p.master.geometry
  blank_geometry = (λ t. (rest.master t).geometry) ∙ geometry

  blank_called : Called {T = Unit {0}} (state_of g m) (state_of g e) (Ok tt)
  blank_called = room_called g m e is called.live rest imap cache law

  blank_works : KeepsWorking (state_of g m) (state_of g e)
  blank_works = room_works g m e is called.live rest imap cache

  pub blank_view : (state_of g e).working ≡ (state_of g p).working
  blank_view = blank_works.working ∙ works.working

  pub blank_told : Told (state_of g e) → Told (state_of g p)
  blank_told told = ap (λ (o : OriginOf). o.tells) (sym called.origin ∙ sym blank_called.origin) ∙ told

  pub told_blank : Told (state_of g p) → Told (state_of g e)
  told_blank told = ap (λ (o : OriginOf). o.tells) (blank_called.origin ∙ called.origin) ∙ told

  pub blank_free : (n : ℕ) → is_number p.master.geometry n ≡ true → (Told (state_of g p) → IsFirstFree p.master.geometry (state_of g p).working (Some n))
      → IsTrue (g.origin e.cache.disk).shows → is_free e.master.geometry (working_of g e) n ≡ true
  blank_free n number first shows = still_free g e blank_point blank_live shows n (ap (λ (r : Request). is_number r n) blank_geometry ∙ number)
      (ap (λ (v : View). v.inodes n) blank_view ∙ (first (blank_told shows)).absent)

  module _ {T : Type 0} (q : Parts D) (r : Result T StoreFault) where
    pub made_calls : Called (state_of g e) (state_of g q) r → Called (state_of g p) (state_of g q) r
    made_calls c = called_after (state_of g p) (state_of g m) (state_of g q) found r called
        (called_after (state_of g m) (state_of g e) (state_of g q) tt r blank_called c)

    pub made_keeps : KeepsPoint (state_of g p) (state_of g m) → KeepsPoint (state_of g e) (state_of g q) → KeepsPoint (state_of g p) (state_of g q)
    made_keeps a b = point_after (state_of g p) (state_of g m) (state_of g q) a
        (point_after (state_of g m) (state_of g e) (state_of g q) (room_keeps g m e is called.live rest imap cache) b)

  module _ (n : ℕ) (q : Parts D) (r : Result (Option ℕ) StoreFault) (answer : IfOk r (λ x. x ≡ Some n)) where
    pub made_places : OnOk r (KeepsPlacesBut (state_of g e) (state_of g q) n) → IfOk r (KeepsPlacesButFound (state_of g p) (state_of g q))
    made_places places = answered_as r n (KeepsPlacesButFound (state_of g p) (state_of g q)) answer places
        (λ b. places_after (state_of g p) (state_of g m) (state_of g q) n works (places_after (state_of g m) (state_of g e) (state_of g q) n blank_works b))

    pub is_made : (head : Head) → (Told (state_of g p) → IsFirstFree p.master.geometry (state_of g p).working (Some n))
        → WillSpell p.master.geometry head (replicate (entries_of p.master.geometry) 0) e.block.items
        → (Told (state_of g e) → OnOk r (InodeWritten e.master.geometry (state_of g e).working (state_of g q).working n e.block.items))
        → IfOk r (λ x. Told (state_of g p) → InodeMade p.master.geometry (state_of g p).working (state_of g q).working head x)
    is_made head first will written = answered_as r n (λ x. Told (state_of g p) → InodeMade p.master.geometry (state_of g p).working (state_of g q).working head x)
        answer (told_ok (InodeWritten e.master.geometry (state_of g e).working (state_of g q).working n e.block.items) (Told (state_of g p)) r (λ told. written (told_blank told))) (λ was told. (
          first told,
          subst (λ (x : Request). InodeWritten x (state_of g e).working (state_of g q).working n e.block.items)
              blank_geometry (was told) head (replicate (entries_of p.master.geometry) 0) will ∙ ap (λ (v : View). with_inode v n (Some (empty_inode p.master.geometry head))) blank_view,
        ))
