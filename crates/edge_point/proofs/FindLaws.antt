-- Steps of a call that find an inode and read it, one after another.
use Rattle.std.proofs.Common.{◌≡◌, ◌<◌, ◌≤◌, ℕ, ◌&&◌, Bool, true, false, List, Option, Some, None, Ok, Err, refl, sym, ap, ◌∙◌, subst, cond, [], ◌++◌, length, take, drop, ◌==◌, arith}
use Rattle.std.specs.Prelude.{Result, IsTrue, IsErr, IsErrAnd, IfOk, IfSome, OnOk, nat_le}
use Rattle.std.proofs.lemmas.Bool.{le-leb}
use Rattle.std.proofs.lemmas.List.{append-nil, drop_all, take_all}
use Rattle.edge_base.specs.declared.damage.Damage.{Damage}
use Rattle.edge_base.specs.declared.geometry.Request.{Request}
use Rattle.edge_base.specs.declared.node.Head.{Head}
use Rattle.edge_base.specs.declared.node.NodeFault.{NodeFault}
use Rattle.edge_base.specs.declared.node.NodeType.{NodeType}
use Rattle.edge_base.specs.declared.node.NodeType.TheVariants.{File, Directory}
use Rattle.edge_base.specs.layout.Bitmap.{used_under}
use Rattle.edge_base.specs.layout.Bytes.{numbers_at}
use Rattle.edge_base.specs.layout.Places.{entries_of, inode_place_of}
use Rattle.edge_base.specs.layout.Spelling.{SpellsInode, inode_in}
use Rattle.edge_base.specs.outside.Faults.{Because, TellsCause}
use Rattle.edge_cache.specs.Calls.{content_in}
use Rattle.edge_disk.specs.Disk.{Origin}
use Rattle.edge_disk.specs.declared.disk.Disk.{Ghosts}
use Rattle.edge_image.specs.View.{inode_by, inode_told, inode_under}
use Rattle.edge_imap.specs.Bitmaps.{Bitmaps, IsTied, state_of as block_state_of}
use Rattle.edge_imap.specs.Reading.{OnlyReads, TellsWhy}
use Rattle.edge_imap.specs.declared.fault.ImapFault.{ImapFault}
use Rattle.edge_imap.proofs.CallLaws.{reads_after}
use Rattle.edge_mount.proofs.TellsLaws.{content_same}
use Rattle.edge_store.specs.Calls.{NeverDamaged, damage_of}
use Rattle.edge_store.specs.View.{Inode, whole, broken, is_head, is_number}
use Rattle.edge_store.specs.declared.fault.StoreFault.{StoreFault}
use Rattle.edge_store.specs.declared.fault.StoreFault.TheVariants.{Device, Damaged}
use Rattle.edge_point.specs.Ended.{damage_after, is_used_by, of_imap}
use Rattle.edge_point.specs.Finding.{Sees, TellsInode, TellsOrFails, head_told, kept_after, place_told}
use Rattle.edge_point.specs.Seen.{next_view, place_under, places_of, second_alone, state_of, view_told}
use Rattle.edge_point.specs.Standing.{IsPoint}
use Rattle.edge_point.specs.Steps.{KeepsRest}
use Rattle.edge_point.specs.declared.inode.Found.{Found}
use Rattle.edge_point.specs.declared.parts.Parts.{Parts}
use Rattle.edge_point.proofs.EndedLaws.{imap_because}
use Rattle.edge_point.proofs.ReadLaws.{seen_is, seen_point}

-- ---- results

pub err_is : {T : Type 0} (r : Result T StoreFault) (e : StoreFault) → IsErr r × IsErrAnd r (λ x. x ≡ e) → r ≡ Err e
err_is (Ok v) e h = absurd (cc (h.0))
err_is (Err x) e h = ap (λ (y : StoreFault). Err y) h.1

pub fails_only : {S T : Type 0} (s : Result S StoreFault) (answer r : Result T StoreFault) (f : StoreFault) → s ≡ Err f → NeverDamaged s → r ≡ Err f
    → TellsOrFails answer r
fails_only s answer r Device was never is = λ other. absurd (other is)
fails_only s answer r (Damaged d) was never is = λ other. absurd (never d was)

-- what holds holds after Ok
pub always : {T E : Type 0} (r : Result T E) (P : Type 0) → P → OnOk r P
always (Ok v) P h = h
always (Err e) P h = tt

abbrev answered : Option ℕ → Result (Option ℕ) StoreFault
answered place = Ok place

pub told_as : (answer : Result (Option ℕ) StoreFault) (place x : Option ℕ) → TellsOrFails answer (Ok place) → place ≡ x → answer ≡ Ok x
told_as answer place x tells is = sym (tells (λ h. absurd (cc h))) ∙ ap answered is

pub used_by : (c w : Bool) → is_used_by (block_state_of c w) ≡ w
used_by true true = refl
used_by true false = refl
used_by false true = refl
used_by false false = refl

pub place_inside : (n first second : ℕ) (one two : Bool) → first < n → second < n → IfOk (place_told first second one two) (λ found. IfSome found (λ b. b < n))
place_inside n first second true true low high = tt
place_inside n first second true false low high = low
place_inside n first second false true low high = high
place_inside n first second false false low high = tt

rest_after : {D : Type 0} (p m q : Parts D) → KeepsRest p m → KeepsRest m q → KeepsRest p q
rest_after p m q a b = record {
  master = b.master ∙ a.master;
  place = b.place ∙ a.place;
  root = b.root ∙ a.root;
  points = b.points ∙ a.points;
  numbers = b.numbers ∙ a.numbers;
  next = b.next ∙ a.next;
  live = b.live ∙ a.live;
  torn = b.torn ∙ a.torn;
  damage = b.damage ∙ a.damage;
  block = b.block ∙ a.block;
}

-- ---- steps

module _ {D : Type 0} (g : Ghosts D) where
  pub sees_passed : {T : Type 0} (p q : Parts D) (v : T) → KeepsRest p q → q.imap ≡ p.imap → OnlyReads g p.cache q.cache → g.faults p.cache.disk ≤ g.faults q.cache.disk
      → g.faults q.cache.disk ≡ g.faults p.cache.disk → Sees g p q (Ok v)
  sees_passed p q v rest imap reads later passed = record {
    rest = rest;
    imap = imap;
    reads = reads;
    cause = record { later = later; passed = (passed, refl); failed = λ x h. absurd (cc h) };
  }

  pub sees_failed : {T : Type 0} (p q : Parts D) (fault : StoreFault) → KeepsRest p q → q.imap ≡ p.imap → OnlyReads g p.cache q.cache
      → g.faults p.cache.disk ≤ g.faults q.cache.disk
      → Because (g.faults p.cache.disk) (g.faults q.cache.disk) p.damage (damage_after p.damage fault) (damage_of fault) → Sees {T = T} g p q (Err fault)
  sees_failed p q fault rest imap reads later because = record {
    rest = rest;
    imap = imap;
    reads = reads;
    cause = record {
      later = later;
      passed = tt;
      failed = λ x h. let e : fault ≡ x = cc h in
          subst (λ (y : StoreFault). Because (g.faults p.cache.disk) (g.faults q.cache.disk) p.damage (damage_after p.damage fault) (damage_of y)) e because;
    };
  }

  pub sees_imap : {S T : Type 0} (P : ℕ → Type 0) (p q : Parts D) (s : Result S ImapFault) (fault : ImapFault) → KeepsRest p q → q.imap ≡ p.imap
      → OnlyReads g p.cache q.cache → TellsWhy g P p.cache q.cache s → s ≡ Err fault → Sees {T = T} g p q (Err (of_imap fault))
  sees_imap P p q s fault rest imap reads why is =
      sees_failed p q (of_imap fault) rest imap reads why.later (imap_because g P p.cache q.cache s fault p.damage why is)

  -- a fault is passed on
  pub sees_as : {S T : Type 0} (p q : Parts D) (s : Result S StoreFault) (r : Result T StoreFault) (f : StoreFault) → Sees g p q s → s ≡ Err f → r ≡ Err f → Sees g p q r
  sees_as p q s r f sees was is =
      let at = subst (Sees g p q) was sees in
      subst (Sees g p q) (sym is)
      (sees_failed p q f at.rest at.imap at.reads at.cause.later (at.cause.failed f refl))

  pub sees_after : {S T : Type 0} (p m q : Parts D) (v : S) (r : Result T StoreFault) → Sees g p m (Ok v) → Sees g m q r → Sees g p q r
  sees_after p m q v r a b = record {
    rest = rest_after p m q a.rest b.rest;
    imap = b.imap ∙ a.imap;
    reads = reads_after g p.cache m.cache q.cache a.reads b.reads;
    cause = subst (λ (n : ℕ). TellsCause damage_of r n (g.faults q.cache.disk) p.damage (kept_after p.damage r)) a.cause.passed.0
        (subst (λ (d : Option Damage). TellsCause damage_of r (g.faults m.cache.disk) (g.faults q.cache.disk) d (kept_after d r)) a.rest.damage b.cause);
  }

  -- what follows from the bits alone
  pub sees_place : {T : Type 0} (p q : Parts D) (v : T) (first second : ℕ) (one two : Bool) → Sees g p q (Ok v) → Sees g p q (place_told first second one two)
  sees_place p q v first second true true s = sees_failed p q _ s.rest s.imap s.reads s.cause.later (s.cause.passed.0, refl)
  sees_place p q v first second true false s = sees_passed p q _ s.rest s.imap s.reads s.cause.later s.cause.passed.0
  sees_place p q v first second false true s = sees_passed p q _ s.rest s.imap s.reads s.cause.later s.cause.passed.0
  sees_place p q v first second false false s = sees_passed p q _ s.rest s.imap s.reads s.cause.later s.cause.passed.0

  -- what follows from what was read
  pub sees_read : (p q : Parts D) (b : ℕ) (x : Result Head NodeFault) (r : Result Head StoreFault) → KeepsRest p q → q.imap ≡ p.imap → OnlyReads g p.cache q.cache
      → g.faults p.cache.disk ≤ g.faults q.cache.disk → g.faults q.cache.disk ≡ g.faults p.cache.disk → r ≡ head_told b x → Sees g p q r
  sees_read p q b (Ok h) r rest imap reads later passed is = subst (Sees g p q) (sym is) (sees_passed p q h rest imap reads later passed)
  sees_read p q b (Err f) r rest imap reads later passed is = subst (Sees g p q) (sym is) (sees_failed p q _ rest imap reads later (passed, refl))

  module _ {T : Type 0} (p q : Parts D) (r : Result T StoreFault) (sees : Sees g p q r) where
    pub sees_point : IsPoint g p → p.live ≡ true → IsPoint g q
    sees_point is live = subst (IsPoint g) (seen_is g p q sees.rest sees.imap) (seen_point g p q is live sees.reads sees.rest.block p.live p.damage is.undamaged)

    pub sees_geometry : q.master.geometry ≡ p.master.geometry
    sees_geometry = λ t. (sees.rest.master t).geometry

    pub sees_shows : IsTrue (g.origin p.cache.disk).shows → IsTrue (g.origin q.cache.disk).shows
    sees_shows = subst (λ (o : Origin). IsTrue o.shows) (sym sees.reads.origin)

    pub sees_content : IsTrue (g.origin p.cache.disk).shows → content_in g q.cache ≡ content_in g p.cache
    sees_content = content_same g p.cache q.cache sees.reads

    pub sees_tied : IsTrue (g.origin p.cache.disk).shows → IsTied p.imap (content_in g p.cache) → IsTied q.imap (content_in g q.cache)
    sees_tied shows tied = subst (λ (m : Bitmaps). IsTied m (content_in g q.cache)) (sym sees.imap)
        (subst (λ (c : ℕ → List ℕ). IsTied p.imap c) (sym (sees_content shows)) tied)

    pub sees_used : IsTrue (g.origin p.cache.disk).shows → (b : ℕ)
        → used_under q.master.geometry q.imap.working (content_in g q.cache) b ≡ used_under p.master.geometry p.imap.working (content_in g p.cache) b
    sees_used shows b = λ t. used_under (sees_geometry t) (sees.imap t).working (sees_content shows t) b

-- ---- what was read

-- a slice that is given back to its place is the whole of it
pub whole_back : (n : ℕ) (a b : List ℕ) → length a ≡ length b → n ≡ length b → take n (a ++ drop (length a) b) ≡ a
whole_back n a b same all =
    let none : drop (length a) b ≡ [] = drop_all (length a) b (omega (arith, same)) in
    ap (λ (l : List ℕ). take n (a ++ l)) none ∙ ap (take n) (append-nil a) ∙ take_all n a (omega (arith, same, all))

rules_of : (size links parent : ℕ) (kind : NodeType) → nat_le 1 links ≡ true → (kind ≡ File → parent ≡ 0)
    → is_head (record { size = size; kind = kind; links = links; parent = parent }) ≡ true
rules_of size links parent File some none = let zero = none refl in λ t. some t && (zero t == 0)
rules_of size links parent Directory some none = λ t. some t && true

pub head_rules : (g : Request) (sequence : ℕ) (head : Head) (entries b : List ℕ) → SpellsInode g sequence head entries b → is_head head ≡ true
head_rules g sequence head entries b spelled =
    rules_of head.size head.links head.parent head.kind (le-leb 1 head.links spelled.some_link) spelled.no_parent

-- ---- an inode

-- a place was found: the inode is the one that it spells
told_at : (g : Request) (place : ℕ) (content bytes : List ℕ) (head : Head) → inode_in content ≡ Ok head → bytes ≡ content
    → inode_told g place content (inode_in content) ≡ whole head (numbers_at 32 (entries_of g) bytes)
told_at g place content bytes head is same = ap (inode_told g place content) is ∙ ap (λ (b : List ℕ). whole head (numbers_at 32 (entries_of g) b)) (sym same)

head_was : (b : ℕ) (r : Result Head NodeFault) (head : Head) → head_told b r ≡ Ok head → r ≡ Ok head
head_was b (Ok h) head e = cc e
head_was b (Err f) head e = absurd (cc e)

head_broken : (g : Request) (b : ℕ) (content : List ℕ) (r : Result Head NodeFault) (d : Damage) → head_told b r ≡ Err (Damaged d) → inode_told g b content r ≡ broken d
head_broken g b content (Ok h) d e = absurd (cc e)
head_broken g b content (Err f) d e = ap broken (cc e)

module _ (g : Request) (used : ℕ → Bool) (content : ℕ → List ℕ) (n : ℕ) (number : is_number g n ≡ true) where
  abbrev first : ℕ
  first = inode_place_of g n false

  abbrev second : ℕ
  second = inode_place_of g n true

  abbrev told : Result (Option ℕ) StoreFault
  told = place_told first second (used first) (used second)

  by_number : inode_under g used content n ≡ inode_by g content n (used first) (used second)
  by_number = ap (λ t. cond t (inode_by g content n (used first) (used second)) None) number

  place_is : place_under g used n ≡ inode_place_of g n (second_alone (used first) (used second))
  place_is = ap (λ t. inode_place_of g n (t && second_alone (used first) (used second))) number

  none_by : (s t : Bool) → place_told first second s t ≡ Ok None → inode_by g content n s t ≡ None
  none_by true true e = absurd (cc e)
  none_by true false e = absurd (cc e)
  none_by false true e = absurd (cc e)
  none_by false false e = refl

  broken_by : (s t : Bool) (d : Damage) → place_told first second s t ≡ Err (Damaged d) → inode_by g content n s t ≡ Some (broken d)
  broken_by true true d e = ap (λ (x : Damage). Some (broken x)) (cc e)
  broken_by true false d e = absurd (cc e)
  broken_by false true d e = absurd (cc e)
  broken_by false false d e = absurd (cc e)

  some_by : (s t : Bool) (b : ℕ) → place_told first second s t ≡ Ok (Some b)
      → (inode_by g content n s t ≡ Some (inode_told g b (content b) (inode_in (content b)))) × (b ≡ inode_place_of g n (second_alone s t))
  some_by true true b e = absurd (cc e)
  some_by true false b e = let at : first ≡ b = cc e in (ap (λ (x : ℕ). Some (inode_told g x (content x) (inode_in (content x)))) at, sym at)
  some_by false true b e = let at : second ≡ b = cc e in (ap (λ (x : ℕ). Some (inode_told g x (content x) (inode_in (content x)))) at, sym at)
  some_by false false b e = absurd (cc e)

  -- what is told of the inode, by the place and what it spells
  pub tells_none : (bytes : List ℕ) → told ≡ Ok None → TellsInode g (place_under g used n) bytes (inode_under g used content n) (Ok None)
  tells_none bytes e = by_number ∙ none_by (used first) (used second) e

  pub tells_two : (bytes : List ℕ) (r : Result (Option Found) StoreFault) (f : StoreFault) → r ≡ Err f → TellsOrFails told (Err f)
      → TellsInode g (place_under g used n) bytes (inode_under g used content n) r
  tells_two bytes r f is tells = subst (TellsInode g (place_under g used n) bytes (inode_under g used content n)) (sym is) (by_fault f tells)
    where
      by_fault : (f : StoreFault) → TellsOrFails told (Err f) → TellsInode g (place_under g used n) bytes (inode_under g used content n) (Err f)
      by_fault Device tells = tt
      by_fault (Damaged d) tells = by_number ∙ broken_by (used first) (used second) d (sym (tells (λ h. absurd (cc h))))

  pub tells_head : (bytes : List ℕ) (b : ℕ) (head : Head) → told ≡ Ok (Some b) → bytes ≡ content b → head_told b (inode_in (content b)) ≡ Ok head
      → TellsInode g (place_under g used n) bytes (inode_under g used content n) (Ok (Some (record { head = head; block = b })))
  tells_head bytes b head e same is =
      let by = some_by (used first) (used second) b e in
      (by_number ∙ by.0 ∙ ap (λ (x : Inode). Some x) (told_at g b (content b) bytes head (head_was b (inode_in (content b)) head is) same), by.1 ∙ sym place_is)

  pub tells_broken : (bytes : List ℕ) (b : ℕ) (r : Result (Option Found) StoreFault) (f : StoreFault) → r ≡ Err f → told ≡ Ok (Some b)
      → TellsOrFails (head_told b (inode_in (content b))) (Err f)
      → TellsInode g (place_under g used n) bytes (inode_under g used content n) r
  tells_broken bytes b r f is e tells = subst (TellsInode g (place_under g used n) bytes (inode_under g used content n)) (sym is) (by_fault f tells)
    where
      by_fault : (f : StoreFault) → TellsOrFails (head_told b (inode_in (content b))) (Err f)
          → TellsInode g (place_under g used n) bytes (inode_under g used content n) (Err f)
      by_fault Device tells = tt
      by_fault (Damaged d) tells = by_number ∙ (some_by (used first) (used second) b e).0
          ∙ ap (λ (x : Inode). Some x) (head_broken g b (content b) (inode_in (content b)) d (sym (tells (λ h. absurd (cc h)))))

-- the same of the state of a store
pub found_told : {D : Type 0} (g : Ghosts D) (p : Parts D) (bytes : List ℕ) (n : ℕ) (r : Result (Option Found) StoreFault) → IsTrue (g.origin p.cache.disk).shows
    → TellsInode p.master.geometry (places_of g p n) bytes ((next_view g p).inodes n) r
    → TellsInode p.master.geometry ((state_of g p).places n) bytes ((state_of g p).working.inodes n) r
found_told g p bytes n r shows tells =
    subst (λ (t : Bool). TellsInode p.master.geometry (cond t (places_of g p n) (inode_place_of p.master.geometry n false)) bytes ((view_told t (next_view g p)).inodes n) r)
    (sym shows) tells
