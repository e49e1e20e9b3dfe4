-- What used places tell of a number and of a block.
use Rattle.std.proofs.Common.{◌≡◌, ℕ, ◌&&◌, Bool, true, false, cond, not, List, Option, Some, None, Ok, refl, ap, ◌∙◌}
use Rattle.edge_base.specs.declared.geometry.Request.{Request}
use Rattle.edge_base.specs.declared.node.Head.{Head}
use Rattle.edge_base.specs.layout.Bytes.{numbers_at}
use Rattle.edge_base.specs.layout.Places.{entries_of, inode_place_of}
use Rattle.edge_base.specs.layout.Spelling.{inode_in}
use Rattle.edge_store.specs.View.{whole, is_allocable, is_number}
use Rattle.edge_image.specs.View.{inode_told, inode_at, inode_by, inode_under, block_told, block_under}

by_place : (g : Request) (content : ℕ → List ℕ) (n : ℕ) (second : Bool) (at : Bool → Bool) → at second ≡ true → at (not second) ≡ false
    → inode_by g content n (at false) (at true) ≡ Some (inode_at g (inode_place_of g n second) (content (inode_place_of g n second)))
by_place g content n true at on off = (λ t. inode_by g content n (off t) (on t))
by_place g content n false at on off = (λ t. inode_by g content n (on t) (off t))

pub inode_placed : (g : Request) (used : ℕ → Bool) (content : ℕ → List ℕ) (n : ℕ) (second : Bool) (head : Head) → is_number g n ≡ true
    → used (inode_place_of g n second) ≡ true → used (inode_place_of g n (not second)) ≡ false → inode_in (content (inode_place_of g n second)) ≡ Ok head
    → inode_under g used content n ≡ Some (whole head (numbers_at 32 (entries_of g) (content (inode_place_of g n second))))
inode_placed g used content n second head is on off spells =
    let at : Bool → Bool = λ s. used (inode_place_of g n s) in
    ap (λ t. cond t (inode_by g content n (at false) (at true)) None) is
    ∙ by_place g content n second at on off
    ∙ ap (λ h. Some (inode_told g (inode_place_of g n second) (content (inode_place_of g n second)) h)) spells

none_either : {A : Type 0} (t : Bool) (x : Option A) → x ≡ None → cond t x None ≡ None
none_either true x none = none
none_either false x none = refl

pub inode_absent : (g : Request) (used : ℕ → Bool) (content : ℕ → List ℕ) (n : ℕ) → used (inode_place_of g n false) ≡ false
    → used (inode_place_of g n true) ≡ false
    → inode_under g used content n ≡ None
inode_absent g used content n first second = none_either (is_number g n)
    (inode_by g content n (used (inode_place_of g n false)) (used (inode_place_of g n true)))
    (λ t. inode_by g content n (first t) (second t))

pub block_placed : (g : Request) (used : ℕ → Bool) (content : ℕ → List ℕ) (b : ℕ) → is_allocable g b ≡ true → used b ≡ true
    → block_under g used content b ≡ Some (block_told g (content b))
block_placed g used content b may on = (λ t. cond (may t && on t) (Some (block_told g (content b))) None)

and_false : (t : Bool) → (t && false) ≡ false
and_false true = refl
and_false false = refl

pub block_absent : (g : Request) (used : ℕ → Bool) (content : ℕ → List ℕ) (b : ℕ) → used b ≡ false → block_under g used content b ≡ None
block_absent g used content b off =
    (λ t. cond (is_allocable g b && off t) (Some (block_told g (content b))) None)
    ∙ ap (λ t. cond t (Some (block_told g (content b))) None) (and_false (is_allocable g b))
