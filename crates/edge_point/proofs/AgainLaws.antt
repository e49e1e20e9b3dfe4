-- A call that finds an inode, changes it in the room for a block, and writes it again.
use Rattle.std.proofs.Common.{◌≡◌, ℕ, true, List, Option, Some, None, sym, ap, ◌∙◌}
use Rattle.std.specs.Prelude.{IsTrue, OnOk, Result, Ok, Err}
use Rattle.edge_base.specs.declared.geometry.Request.{Request}
use Rattle.edge_base.specs.declared.node.Head.{Head}
use Rattle.edge_base.specs.layout.Bytes.{numbers_at}
use Rattle.edge_base.specs.layout.Places.{entries_of}
use Rattle.edge_base.specs.outside.Below.{Origin as OriginOf}
use Rattle.edge_cache.specs.Calls.{content_in}
use Rattle.edge_disk.specs.declared.disk.Disk.{Ghosts}
use Rattle.edge_store.specs.Calls.{Called, KeepsPlacesBut, KeepsPoint, KeepsWorking, Meets, NeverDamaged}
use Rattle.edge_store.specs.Damages.{damage_of_inode}
use Rattle.edge_store.specs.State.{StoreState, Told}
use Rattle.edge_store.specs.View.{Inode, View, whole, is_number, with_inode}
use Rattle.edge_store.specs.declared.fault.StoreFault.{StoreFault}
use Rattle.edge_anchor.specs.Medium.{medium_of}
use Rattle.edge_anchor.proofs.CutLaws.{SureIsShown}
use Rattle.edge_point.specs.Changing.{InodeWritten, LiesAt, WillSpell, not_first, working_of}
use Rattle.edge_point.specs.Seen.{state_of}
use Rattle.edge_point.specs.Standing.{IsPoint}
use Rattle.edge_point.specs.Steps.{KeepsRest}
use Rattle.edge_point.specs.declared.inode.Found.{Found}
use Rattle.edge_point.specs.declared.parts.Parts.{Parts}
use Rattle.edge_point.proofs.AfterLaws.{called_after, places_after, point_after, room_called, room_keeps, room_point, room_works}
use Rattle.edge_point.proofs.FindLaws.{always}
use Rattle.edge_point.proofs.PlacedLaws.{ok_map}
use Rattle.edge_point.proofs.SetLaws.{found_next, lies_found, place_next, set_again}

-- the entries in the bytes of an inode
abbrev pub entries_at : Request → List ℕ → List ℕ
entries_at g bytes = numbers_at 32 (entries_of g) bytes

-- what is told, of Ok
pub told_ok : {T E : Type 0} (A P : Type 0) (r : Result T E) → (P → OnOk r A) → OnOk r (P → A)
told_ok A P (Ok v) f = f
told_ok A P (Err e) f = tt

-- it meets no damage where the inode is whole and no fault tells damage
pub meets_whole : {T : Type 0} (old new : StoreState) (r : Result T StoreFault) (inode : Option Inode) (head : Head) (entries : List ℕ)
    → inode ≡ Some (whole head entries) → NeverDamaged r → Meets (damage_of_inode inode) old new r
meets_whole old new r inode head entries is never = record {
  none = always r (damage_of_inode inode ≡ None) (ap damage_of_inode is);
  that = λ damage h. absurd (never damage h);
  keeps = λ damage h. absurd (never damage h);
}

module _ {D : Type 0} (g : Ghosts D) (p m e : Parts D) (n : ℕ) (f : Found) (number : is_number p.master.geometry n ≡ true) (is : IsPoint g m)
    (found : Option Found) (called : Called (state_of g p) (state_of g m) (Ok found)) (works : KeepsWorking (state_of g p) (state_of g m))
    (geometry : m.master.geometry ≡ p.master.geometry) (rest : KeepsRest m e) (imap : e.imap ≡ m.imap) (cache : e.cache ≡ m.cache)
    (law : SureIsShown (medium_of g e.cache))
    (tells : Told (state_of g p) → ((state_of g p).working.inodes n ≡ Some (whole f.head (entries_at p.master.geometry m.block.items)))
    × (f.block ≡ (state_of g p).places n)) where
  pub live_found : m.live ≡ true
  live_found = called.live

  pub again_point : IsPoint g e
  again_point = room_point g m e is live_found rest imap cache

  pub again_live : e.live ≡ true
  again_live = rest.live ∙ live_found

  pub again_geometry : e.master.geometry ≡ p.master.geometry
  again_geometry = (λ t. (rest.master t).geometry) ∙ geometry

  pub again_number : is_number e.master.geometry n ≡ true
  again_number = ap (λ (r : Request). is_number r n) again_geometry ∙ number

  again_called : Called {T = Unit {0}} (state_of g m) (state_of g e) (Ok tt)
  again_called = room_called g m e is live_found rest imap cache law

  again_works : KeepsWorking (state_of g m) (state_of g e)
  again_works = room_works g m e is live_found rest imap cache

  told_first : Told (state_of g e) → Told (state_of g p)
  told_first told = ap (λ (o : OriginOf). o.tells) (sym called.origin ∙ sym again_called.origin) ∙ told

  told_last : Told (state_of g p) → Told (state_of g e)
  told_last told = ap (λ (o : OriginOf). o.tells) (again_called.origin ∙ called.origin) ∙ told

  same_view : (state_of g e).working ≡ (state_of g p).working
  same_view = again_works.working ∙ works.working

  pub again_lies : IsTrue (g.origin e.cache.disk).shows → LiesAt e.master.geometry (working_of g e) n (not_first e.master.geometry n f.block)
  again_lies shows =
      let told = tells (told_first shows) in
      lies_found e.master.geometry (working_of g e) (content_in g e.cache) n again_number f.head (entries_at p.master.geometry m.block.items) f.block
      (found_next g e n (Some (whole f.head (entries_at p.master.geometry m.block.items))) shows (ap (λ (v : View). v.inodes n) same_view ∙ told.0))
      (place_next g e n f.block shows (told.1 ∙ (λ t. sym (again_works.places ∙ works.places) t n)))

  -- ---- and after it was written

  module _ {T : Type 0} (q : Parts D) (r : Result T StoreFault) where
    pub again_calls : Called (state_of g e) (state_of g q) r → Called (state_of g p) (state_of g q) r
    again_calls c = called_after (state_of g p) (state_of g m) (state_of g q) found r called
        (called_after (state_of g m) (state_of g e) (state_of g q) tt r again_called c)

    pub again_keeps : KeepsPoint (state_of g p) (state_of g m) → KeepsPoint (state_of g e) (state_of g q) → KeepsPoint (state_of g p) (state_of g q)
    again_keeps a b = point_after (state_of g p) (state_of g m) (state_of g q) a
        (point_after (state_of g m) (state_of g e) (state_of g q) (room_keeps g m e is live_found rest imap cache) b)

    pub again_places : OnOk r (KeepsPlacesBut (state_of g e) (state_of g q) n) → OnOk r (KeepsPlacesBut (state_of g p) (state_of g q) n)
    again_places = ok_map r (λ b. places_after (state_of g p) (state_of g m) (state_of g q) n works
        (places_after (state_of g m) (state_of g e) (state_of g q) n again_works b))

    pub again_meets : (Told (state_of g e) → NeverDamaged r) → Told (state_of g p)
        → Meets (damage_of_inode ((state_of g p).working.inodes n)) (state_of g p) (state_of g q) r
    again_meets never told = meets_whole (state_of g p) (state_of g q) r ((state_of g p).working.inodes n) f.head (entries_at p.master.geometry m.block.items)
        (tells told).0 (never (told_last told))

    pub again_set : (change : Option Inode → Option Inode) (head : Head) (entries : List ℕ)
        → change (Some (whole f.head (entries_at p.master.geometry m.block.items))) ≡ Some (whole head entries)
        → WillSpell e.master.geometry head entries e.block.items
        → (Told (state_of g e) → OnOk r (InodeWritten e.master.geometry (state_of g e).working (state_of g q).working n e.block.items))
        → OnOk r (Told (state_of g p) → (state_of g q).working ≡ with_inode (state_of g p).working n (change ((state_of g p).working.inodes n)))
    again_set change head entries is_so will written = told_ok ((state_of g q).working ≡ with_inode (state_of g p).working n (change ((state_of g p).working.inodes n)))
        (Told (state_of g p)) r (λ told. ok_map r (λ w. set_again e.master.geometry (state_of g p).working (state_of g e).working
        (state_of g q).working n e.block.items head entries (change ((state_of g p).working.inodes n)) same_view w will (ap change (tells told).0 ∙ is_so))
        (written (told_last told)))

    pub again_dropped : OnOk r (Told (state_of g e) → (state_of g q).working ≡ with_inode (state_of g e).working n None)
        → OnOk r (Told (state_of g p) → (state_of g q).working ≡ with_inode (state_of g p).working n None)
    again_dropped = ok_map r (λ was told. was (told_last told) ∙ ap (λ (v : View). with_inode v n None) same_view)
