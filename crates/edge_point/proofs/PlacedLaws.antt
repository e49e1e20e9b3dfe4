-- An inode is put at a place of its number.
use Rattle.std.proofs.Common.{◌≡◌, ◌≢◌, inl, inr, ℕ, ◌≤◌, ◌&&◌, Bool, true, false, not, List, length, take, drop, refl, sym, ap, ◌∙◌, subst, arith}
use Rattle.std.specs.Prelude.{IsTrue, OnOk, Result, Ok, Err}
use Rattle.std.proofs.lemmas.Bool.{eqb-true}
use Rattle.edge_base.specs.declared.geometry.Request.{Request}
use Rattle.edge_base.specs.layout.Places.{inode_place_of}
use Rattle.edge_base.specs.layout.Bitmap.{used_under}
use Rattle.edge_base.specs.layout.Bytes.{number_at}
use Rattle.edge_base.specs.layout.Word.{check_word_of}
use Rattle.edge_cache.specs.Blocks.{sealed, word_holds_in}
use Rattle.edge_cache.specs.Calls.{content_in}
use Rattle.edge_cache.proofs.SealLaws.{drop-sealed, take-sealed}
use Rattle.edge_disk.specs.Disk.{Origin}
use Rattle.edge_disk.specs.declared.disk.Disk.{Ghosts}
use Rattle.edge_image.specs.Image.{is_free}
use Rattle.edge_nodes.specs.Writing.{IsSealed}
use Rattle.edge_nodes.proofs.GeometryLaws.{limits}
use Rattle.edge_store.specs.Calls.{NeverDamaged}
use Rattle.edge_store.specs.View.{is_number}
use Rattle.edge_store.specs.declared.fault.StoreFault.{StoreFault}
use Rattle.edge_store.specs.declared.fault.StoreFault.TheVariants.{Damaged}
use Rattle.edge_anchor.specs.Anchor.{HasBit}
use Rattle.edge_anchor.proofs.PlaceLaws.{place_has_bit}
use Rattle.edge_point.specs.Changing.{Changes, IsBlock, IsPlaceFor, IsPutAt, LiesAt, committed_of, working_of}
use Rattle.edge_point.specs.Finding.{Sees}
use Rattle.edge_point.specs.Standing.{IsPoint}
use Rattle.edge_point.specs.declared.parts.Parts.{Parts}
use Rattle.edge_point.proofs.ChangeLaws.{passes_point}
use Rattle.edge_point.proofs.FindLaws.{sees_content, sees_geometry}
use Rattle.edge_point.proofs.WorkingLaws.{has_working_inode, numbers_stay}

-- ---- results

pub ok_map : {T E A B : Type 0} (r : Result T E) → (A → B) → OnOk r A → OnOk r B
ok_map (Ok v) f h = f h
ok_map (Err e) f h = tt

-- a fault that is passed on tells no damage where it told none
pub never_as : {S T : Type 0} (s : Result S StoreFault) (r : Result T StoreFault) (f : StoreFault) → s ≡ Err f → r ≡ Err f → NeverDamaged s → NeverDamaged r
never_as s r f was is never damage h = never damage (was ∙ ap (λ (x : StoreFault). Err x) (same_fault r f (Damaged damage) is h))
  where
    same_fault : {T : Type 0} (r : Result T StoreFault) (a b : StoreFault) → r ≡ Err a → r ≡ Err b → a ≡ b
    same_fault r a b first second = cc

-- ---- what is written

-- a node whose check word was put right
pub is_sealed : (b node : List ℕ) → 8 ≤ length b → node ≡ sealed b → word_holds_in node ≡ true → IsSealed b node
unfolding word_holds_in
is_sealed b node long is word = record {
  word = eqb-true (number_at 4 4 node) (check_word_of (drop 8 node)) word;
  front = ap (take 4) is ∙ take-sealed b long;
  back = ap (drop 8) is ∙ drop-sealed 8 b long (omega arith);
}

-- ---- the two places of a number

and_false : (t : Bool) → (t && false) ≡ false
and_false true = refl
and_false false = refl

pub not_free : (r : Request) (used : ℕ → Bool) (n : ℕ) (second : Bool) → used (inode_place_of r n second) ≡ true → is_free r used n ≡ false
not_free r used n false on = λ t. not (on t) && not (used (inode_place_of r n true))
not_free r used n true on = (λ t. not (used (inode_place_of r n false)) && not (on t)) ∙ and_false (not (used (inode_place_of r n false)))

pub is_place : (r : Request) (n : ℕ) (second : Bool) → IsPlaceFor r n (inode_place_of r n second)
is_place r n false = inl refl
is_place r n true = inr refl

pub at_place : (r : Request) (n b : ℕ) (second : Bool) → b ≡ inode_place_of r n second → (k : ℕ) → IsBlock b k → IsPlaceFor r n k
at_place r n b second is k e = subst (IsPlaceFor r n) (sym (e ∙ is)) (is_place r n second)

pub other_apart : (r : Request) (n : ℕ) (second : Bool) → inode_place_of r n (not second) ≢ inode_place_of r n second
other_apart r n false e = omega arith
other_apart r n true e = omega arith

pub back_again : (second : Bool) → not (not second) ≡ second
back_again false = refl
back_again true = refl

-- where neither is used, the number has no inode
pub neither : (r : Request) (used : ℕ → Bool) (n : ℕ) (second at : Bool) → used (inode_place_of r n second) ≡ false
    → used (inode_place_of r n (not second)) ≡ false → used (inode_place_of r n at) ≡ false
neither r used n false false here there = here
neither r used n false true here there = there
neither r used n true false here there = there
neither r used n true true here there = here

pub both_free : (r : Request) (used : ℕ → Bool) (n : ℕ) → used (inode_place_of r n false) ≡ false → used (inode_place_of r n true) ≡ false → is_free r used n ≡ true
both_free r used n one two = λ t. not (one t) && not (two t)

-- where one of the two places is not used, they are not both
pub not_both : (r : Request) (used : ℕ → Bool) (n : ℕ) (second : Bool) → used (inode_place_of r n second) ≡ false
    → used (inode_place_of r n false) ≡ true → used (inode_place_of r n true) ≡ true → ⊥
not_both r used n false off one two = cc (off, one)
not_both r used n true off one two = cc (off, two)

-- ---- where it lies in two lists

pub lies_same : (r : Request) (used now : ℕ → Bool) (n : ℕ) (second : Bool) → ((k : ℕ) → now k ≡ used k) → LiesAt r used n second → LiesAt r now n second
lies_same r used now n second same lies = record {
  here = same (inode_place_of r n second) ∙ lies.here;
  not_there = same (inode_place_of r n (not second)) ∙ lies.not_there;
}

-- a block that is new is not used in the list of the last point
pub new_unused : (w c : Bool) → (w && not c) ≡ true → c ≡ false
new_unused true true e = absurd (cc e)
new_unused true false e = refl
new_unused false true e = absurd (cc e)
new_unused false false e = refl

-- and one that is used and not new is
old_used : (w c : Bool) → w ≡ true → (w && not c) ≡ false → c ≡ true
old_used true true on e = refl
old_used true false on e = absurd (cc e)
old_used false c on e = absurd (cc on)

-- Where the inode lies at a place that the last point uses, that does not use the other: it would be used still.
pub old_other : (r : Request) (used committed : ℕ → Bool) (n : ℕ) (second : Bool) → LiesAt r used n second
    → (used (inode_place_of r n second) && not (committed (inode_place_of r n second))) ≡ false
    → (committed (inode_place_of r n false) ≡ true → committed (inode_place_of r n true) ≡ true → (at : Bool) → used (inode_place_of r n at) ≡ true)
    → committed (inode_place_of r n (not second)) ≡ false
old_other r used committed n second lies old both = by_test (committed (inode_place_of r n (not second))) refl
  where
    kept : committed (inode_place_of r n second) ≡ true
    kept = old_used (used (inode_place_of r n second)) (committed (inode_place_of r n second)) lies.here old

    still : (s : Bool) → committed (inode_place_of r n s) ≡ true → committed (inode_place_of r n (not s)) ≡ true → (at : Bool) → used (inode_place_of r n at) ≡ true
    still false one two = both one two
    still true one two = both two one

    by_test : (t : Bool) → committed (inode_place_of r n (not second)) ≡ t → committed (inode_place_of r n (not second)) ≡ false
    by_test true e = absurd (cc (sym (still second kept e (not second)) ∙ lies.not_there))
    by_test false e = e

-- ---- a number without an inode

pub free_both : (r : Request) (used : ℕ → Bool) (n : ℕ) → is_free r used n ≡ true → (at : Bool) → used (inode_place_of r n at) ≡ false
free_both r used n free at = by_test (used (inode_place_of r n at)) refl
  where
    by_test : (t : Bool) → used (inode_place_of r n at) ≡ t → used (inode_place_of r n at) ≡ false
    by_test true e = absurd (cc (sym (not_free r used n at e) ∙ free))
    by_test false e = e

-- The place that the last point does not use: the second exactly where it uses the first.
pub spare_chosen : (r : Request) (used committed : ℕ → Bool) (n : ℕ) (second : Bool) → second ≡ committed (inode_place_of r n false) → is_free r used n ≡ true
    → (committed (inode_place_of r n false) ≡ true → committed (inode_place_of r n true) ≡ true → (at : Bool) → used (inode_place_of r n at) ≡ true)
    → committed (inode_place_of r n second) ≡ false
spare_chosen r used committed n false is free both = sym is
spare_chosen r used committed n true is free both = by_test (committed (inode_place_of r n true)) refl
  where
    by_test : (t : Bool) → committed (inode_place_of r n true) ≡ t → committed (inode_place_of r n true) ≡ false
    by_test true e = absurd (cc (sym (free_both r used n free false) ∙ both (sym is) e false))
    by_test false e = e

module _ {D : Type 0} (g : Ghosts D) where
  pub sees_committed : {T : Type 0} (p q : Parts D) (r : Result T StoreFault) (sees : Sees g p q r) → IsTrue (g.origin p.cache.disk).shows → (b : ℕ)
      → committed_of g q b ≡ committed_of g p b
  sees_committed p q r sees shows b = λ t. used_under (sees_geometry g p q r sees t) (sees.imap t).committed (sees_content g p q r sees shows t) b

  -- a change at the places of a number that has an inode before and after it leaves a store
  pub kept_point : (IsSuch : ℕ → Type 0) (p q : Parts D) (n : ℕ) → IsPoint g p → p.live ≡ true → is_number p.master.geometry n ≡ true
      → ((k : ℕ) → IsSuch k → IsPlaceFor p.master.geometry n k) → Changes g IsSuch p q → q.numbers ≡ p.numbers
      → (IsTrue (g.origin p.cache.disk).shows → committed_of g p (inode_place_of p.master.geometry n false) ≡ true
      → committed_of g p (inode_place_of p.master.geometry n true) ≡ true → ⊥)
      → (IsTrue (g.origin p.cache.disk).shows → is_free p.master.geometry (working_of g p) n ≡ false)
      → (IsTrue (g.origin p.cache.disk).shows → is_free p.master.geometry (working_of g q) n ≡ false)
      → IsPoint g q
  kept_point IsSuch p q n is live number only c numbers apart had has =
      passes_point g IsSuch p q is live c (λ shows. has_working_inode g IsSuch p q is live c n number only shows (apart shows)
      (numbers ∙ (is.told live shows).numbers ∙ sym (numbers_stay g IsSuch p q is live c n number only shows (has shows ∙ sym (had shows)))))

  -- An inode was put at one place of its number, and the bits turned.
  module _ (p a b q : Parts D) (is : IsPoint g p) (n : ℕ) (number : is_number p.master.geometry n ≡ true) (second : Bool) (to from : ℕ)
      (to_is : to ≡ inode_place_of p.master.geometry n (not second)) (from_is : from ≡ inode_place_of p.master.geometry n second)
      (put : Changes g (IsBlock to) p a) (marks : Changes g (IsBlock to) a b) (clears : Changes g (IsBlock from) b q)
      (shows : IsTrue (g.origin p.cache.disk).shows) (bytes : List ℕ) where
    abbrev request : Request
    request = p.master.geometry

    shows_a : IsTrue (g.origin a.cache.disk).shows
    shows_a = subst (λ (o : Origin). IsTrue o.shows) (sym put.origin) shows

    shows_b : IsTrue (g.origin b.cache.disk).shows
    shows_b = subst (λ (o : Origin). IsTrue o.shows) (sym marks.origin) shows_a

    has_bit : (at : Bool) → HasBit request (inode_place_of request n at)
    has_bit at = place_has_bit request (limits request is.geometry) n at number

    to_bit : HasBit b.master.geometry to
    to_bit = subst (λ (k : ℕ). HasBit b.master.geometry k) (sym to_is)
        (subst (λ (x : Request). HasBit x (inode_place_of request n (not second))) (λ t. (sym (marks.master ∙ put.master) t).geometry) (has_bit (not second)))

    far : IsBlock from to → ⊥
    far e = other_apart request n second (sym to_is ∙ e ∙ from_is)

    pub moved_here : working_of g b to ≡ true → working_of g q to ≡ true
    moved_here on = clears.used shows_b to to_bit far ∙ on

    pub is_moved : working_of g b to ≡ true → working_of g q from ≡ false → IsSealed bytes (content_in g a.cache to) → content_in g b.cache to ≡ content_in g a.cache to
        → IsPutAt request (working_of g q) (content_in g q.cache) n bytes
    is_moved on off was same = record {
      second = not second;
      lies = record {
        here = ap (working_of g q) (sym to_is) ∙ moved_here on;
        not_there = ap (λ (s : Bool). working_of g q (inode_place_of request n s)) (back_again second) ∙ ap (working_of g q) (sym from_is) ∙ off;
      };
      node = subst (λ (x : List ℕ). IsSealed bytes x) (sym (ap (content_in g q.cache) (sym to_is) ∙ clears.contents shows_b to to_bit far ∙ same)) was;
    }
