-- What is said of an inode that was found, changed and written again.
use Rattle.std.proofs.Common.{◌≡◌, ℕ, ◌≤◌, ◌==◌, ◌&&◌, Bool, true, false, not, cond, List, Option, Some, None, refl, sym, ap, ◌∙◌, subst}
use Rattle.std.specs.Prelude.{IsTrue, nat_le}
use Rattle.std.proofs.lemmas.Bool.{and_parts, eqb-true, eq-eqb, leb-true}
use Rattle.edge_base.specs.declared.geometry.Request.{Request}
use Rattle.edge_base.specs.declared.node.Head.{Head}
use Rattle.edge_base.specs.declared.node.NodeType.{NodeType}
use Rattle.edge_base.specs.declared.node.NodeType.TheVariants.{File, Directory}
use Rattle.edge_base.specs.layout.Places.{inode_place_of}
use Rattle.edge_cache.specs.Calls.{content_in}
use Rattle.edge_disk.specs.declared.disk.Disk.{Ghosts}
use Rattle.edge_image.specs.View.{inode_by, inode_under}
use Rattle.edge_nodes.proofs.InodeLaws.{inode_in-spelled}
use Rattle.edge_store.specs.View.{Inode, View, whole, is_head, is_number, with_inode}
use Rattle.edge_anchor.proofs.PlacedLaws.{inode_placed}
use Rattle.edge_point.specs.Changing.{InodeWritten, IsPutAt, LiesAt, WillSpell, not_first, working_of}
use Rattle.edge_point.specs.Seen.{next_view, place_under, places_of, second_alone, state_of, view_told}
use Rattle.edge_point.specs.declared.parts.Parts.{Parts}
use Rattle.edge_point.proofs.PlacedLaws.{other_apart}

-- ---- where it lies

module _ (g : Request) (used : ℕ → Bool) (content : ℕ → List ℕ) (n : ℕ) (number : is_number g n ≡ true) (head : Head) (entries : List ℕ) where
  abbrev first : ℕ
  first = inode_place_of g n false

  abbrev second : ℕ
  second = inode_place_of g n true

  far_second : (second == first) ≡ false
  far_second = by_test (second == first) refl
    where
      by_test : (t : Bool) → (second == first) ≡ t → (second == first) ≡ false
      by_test true e = absurd (other_apart g n false (eqb-true second first e))
      by_test false e = e

  lies_by : (s t : Bool) → used first ≡ s → used second ≡ t → inode_by g content n s t ≡ Some (whole head entries)
      → LiesAt g used n (not_first g n (inode_place_of g n (second_alone s t)))
  lies_by true true one two e = absurd (cc e)
  lies_by true false one two e =
      subst (LiesAt g used n) (sym (ap not (eq-eqb first first refl))) (record { here = one; not_there = two })
  lies_by false true one two e =
      subst (LiesAt g used n) (sym (ap not far_second)) (record { here = two; not_there = one })
  lies_by false false one two e = absurd (cc e)

  pub lies_found : (b : ℕ) → inode_under g used content n ≡ Some (whole head entries) → b ≡ place_under g used n → LiesAt g used n (not_first g n b)
  lies_found b e at =
      let place : b ≡ inode_place_of g n (second_alone (used first) (used second)) = at ∙ ap (λ t. inode_place_of g n (t && second_alone (used first) (used second))) number in
      subst (λ (x : ℕ). LiesAt g used n (not_first g n x)) (sym place)
      (lies_by (used first) (used second) refl refl (sym (ap (λ t. cond t (inode_by g content n (used first) (used second)) None) number) ∙ e))

-- ---- what is written

pub is_written : (g : Request) (used : ℕ → Bool) (content : ℕ → List ℕ) (n : ℕ) (block : List ℕ) (v w : View) → is_number g n ≡ true
    → IsPutAt g used content n block → w ≡ with_inode v n (inode_under g used content n) → InodeWritten g v w n block
is_written g used content n block v w number put is head entries will =
    let node = will.1 (content (inode_place_of g n put.second)) put.node in
    is ∙ ap (with_inode v n) (inode_placed g used content n put.second head number put.lies.here put.lies.not_there
    (inode_in-spelled g (content (inode_place_of g n put.second)) will.0 head entries node)
    ∙ ap (λ (x : List ℕ). Some (whole head x)) node.entries_are)

-- ---- what was found

-- what is told of the inode of a store's state is told of its parts
pub found_next : {D : Type 0} (g : Ghosts D) (p : Parts D) (n : ℕ) (inode : Option Inode) → IsTrue (g.origin p.cache.disk).shows
    → (state_of g p).working.inodes n ≡ inode → inode_under p.master.geometry (working_of g p) (content_in g p.cache) n ≡ inode
found_next g p n inode shows e = sym (ap (λ (t : Bool). (view_told t (next_view g p)).inodes n) shows) ∙ e

pub place_next : {D : Type 0} (g : Ghosts D) (p : Parts D) (n b : ℕ) → IsTrue (g.origin p.cache.disk).shows → b ≡ (state_of g p).places n
    → b ≡ place_under p.master.geometry (working_of g p) n
place_next g p n b shows e = e ∙ ap (λ (t : Bool). cond t (places_of g p n) (inode_place_of p.master.geometry n false)) shows

-- an inode that was found whole is written again otherwise
pub set_again : (g : Request) (a b c : View) (n : ℕ) (block : List ℕ) (head : Head) (entries : List ℕ) (inode : Option Inode) → b ≡ a
    → InodeWritten g b c n block → WillSpell g head entries block → inode ≡ Some (whole head entries) → c ≡ with_inode a n inode
set_again g a b c n block head entries inode same written will is =
    written head entries will ∙ ap (λ (v : View). with_inode v n (Some (whole head entries))) same ∙ ap (with_inode a n) (sym is)

-- ---- heads

-- what a head keeps that an inode may have
pub head_parts : (size links parent : ℕ) (kind : NodeType) → is_head (record { size = size; kind = kind; links = links; parent = parent }) ≡ true
    → (1 ≤ links) × (kind ≡ File → parent ≡ 0)
head_parts size links parent File e = let both = and_parts (nat_le 1 links) (parent == 0) e in (leb-true 1 links both.0, λ h. eqb-true parent 0 both.1)
head_parts size links parent Directory e = let both = and_parts (nat_le 1 links) true e in (leb-true 1 links both.0, λ h. absurd (cc h))
