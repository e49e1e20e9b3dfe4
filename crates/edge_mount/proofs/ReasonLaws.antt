-- The first reason why an image is not mounted, step by step.
use Rattle.std.proofs.Common.{◌≡◌, ◌≢◌, ℕ, ◌^◌, ◌<◌, ◌≤◌, ◌==◌, ◌&&◌, Bool, true, false, not, cond, List, Option, Some, None, Ok, Err, refl, sym, ap, ◌∙◌, ◌⊎◌, inl, inr, arith}
use Rattle.std.specs.Prelude.{nat_lt, Result}
use Rattle.std.proofs.lemmas.Bool.{lt-ltb, le-ltb, ltb-false, eq-eqb, eqb-true}
use Rattle.edge_base.specs.declared.geometry.Request.{Request}
use Rattle.edge_base.specs.declared.node.Master.{Master}
use Rattle.edge_base.specs.declared.node.Metaroot.{Metaroot}
use Rattle.edge_base.specs.declared.node.NodeFault.{NodeFault}
use Rattle.edge_base.specs.layout.Bitmap.{used_under}
use Rattle.edge_base.specs.layout.Spelling.{master_in}
use Rattle.edge_disk.specs.Image.{Image}
use Rattle.edge_image.specs.Image.{Live, live_of, live_among, reason_of, reason_of_master, reason_of_live, reason_of_counts, counts_hold, free_blocks_of, free_inodes_of, has_bad_imap}
use Rattle.edge_mount.specs.Live.{live_bytes}
use Rattle.edge_mount.specs.Mounting.{HasCounts, reason_under}

not_equal : (a b : ℕ) → a ≢ b → (a == b) ≡ false
not_equal a b apart = elim (a == b) as (λ t. (a == b) ≡ t → t ≡ false) [
  | true ↦ λ e. absurd (apart (eqb-true a b e))
  | false ↦ λ e. refl
] refl

-- ---- the master

module _ (image : Image) where
  pub too_few : image.blocks < 3 → reason_of image ≡ Some 1
  unfolding reason_of
  too_few few = ap (λ b. cond b (Some 1) (reason_of_master image (master_in (image.block 0)))) (lt-ltb image.blocks 3 few)

  by_master : 3 ≤ image.blocks → (read : Result Master NodeFault) → master_in (image.block 0) ≡ read → reason_of image ≡ reason_of_master image read
  unfolding reason_of
  by_master enough read is = ap (λ b. cond b (Some 1) (reason_of_master image (master_in (image.block 0)))) (le-ltb image.blocks 3 enough)
      ∙ ap (reason_of_master image) is

  pub no_master : 3 ≤ image.blocks → (fault : NodeFault) → master_in (image.block 0) ≡ Err fault → reason_of image ≡ Some 1
  no_master enough fault is = by_master enough (Err fault) is

  module _ (master : Master) (enough : 3 ≤ image.blocks) (is_master : master_in (image.block 0) ≡ Ok master) where
    abbrev below_size : Option ℕ
    below_size = cond (nat_lt image.blocks master.geometry.blocks) (Some 3) (reason_of_live master.geometry image (live_of master.geometry image))

    pub other_size : master.geometry.block_size ≢ image.block_size → reason_of image ≡ Some 2
    other_size apart = by_master enough (Ok master) is_master ∙ ap (λ b. cond (not b) (Some 2) below_size) (not_equal _ _ apart)

    same_size : master.geometry.block_size ≡ image.block_size → reason_of image ≡ below_size
    same_size same = by_master enough (Ok master) is_master ∙ ap (λ b. cond (not b) (Some 2) below_size) (eq-eqb _ _ same)

    pub too_large : master.geometry.block_size ≡ image.block_size → image.blocks < master.geometry.blocks → reason_of image ≡ Some 3
    too_large same more = same_size same
        ∙ ap (λ b. cond b (Some 3) (reason_of_live master.geometry image (live_of master.geometry image))) (lt-ltb _ _ more)

    pub by_live : master.geometry.block_size ≡ image.block_size → master.geometry.blocks ≤ image.blocks
        → reason_of image ≡ reason_of_live master.geometry image (live_of master.geometry image)
    by_live same fits = same_size same
        ∙ ap (λ b. cond b (Some 3) (reason_of_live master.geometry image (live_of master.geometry image))) (le-ltb _ _ fits)

-- ---- the live metaroot

two_places : (one two : Result Metaroot NodeFault) (live : Live) → live_among one two ≡ Some live → (live.place ≡ 1) ⊎ (live.place ≡ 2)
two_places (Ok one) (Ok two) live is =
    elim (nat_lt one.sequence two.sequence) as
    (λ t. Some (cond t (record { place = 2; root = two }) (record { place = 1; root = one })) ≡ Some live → (live.place ≡ 1) ⊎ (live.place ≡ 2)) [
      | true ↦ λ e. let h : record { place = 2; root = two } ≡ live = cc in inr (sym (ap (λ (l : Live). l.place) h))
      | false ↦ λ e. let h : record { place = 1; root = one } ≡ live = cc in inl (sym (ap (λ (l : Live). l.place) h))
    ] is
two_places (Ok one) (Err fault) live is = let h : record { place = 1; root = one } ≡ live = cc in inl (sym (ap (λ (l : Live). l.place) h))
two_places (Err fault) (Ok two) live is = let h : record { place = 2; root = two } ≡ live = cc in inr (sym (ap (λ (l : Live). l.place) h))
two_places (Err fault) (Err other) live is = absurd (cc)

-- the bytes that were chosen are those of the live metaroot's block
pub at_place : (one two : Result Metaroot NodeFault) (content : ℕ → List ℕ) (live : Live) → live_among one two ≡ Some live
    → live_bytes live (content 1) (content 2) ≡ content live.place
at_place one two content live is = by_place (two_places one two live is)
  where
    by_place : (live.place ≡ 1) ⊎ (live.place ≡ 2) → live_bytes live (content 1) (content 2) ≡ content live.place
    by_place (inl first) = ap (λ (n : ℕ). cond (n == 1) (content 1) (content 2)) first ∙ sym (ap content first)
    by_place (inr second) = ap (λ (n : ℕ). cond (n == 1) (content 1) (content 2)) second ∙ sym (ap content second)

-- ---- the bitmap

module _ (g : Request) (root : Metaroot) (roots : List ℕ) (content : ℕ → List ℕ) where
  abbrev rest : Bool → Option ℕ
  rest bad = cond bad (Some 6) (reason_of_counts g root (used_under g roots content))

  pub late : 2 ^ 63 < root.sequence → reason_under g root roots content ≡ Some 5
  late after = ap (λ b. cond b (Some 5) (rest (has_bad_imap g roots content))) (lt-ltb _ _ after)

  in_time : root.sequence ≤ 2 ^ 63 → reason_under g root roots content ≡ rest (has_bad_imap g roots content)
  in_time before = ap (λ b. cond b (Some 5) (rest (has_bad_imap g roots content))) (le-ltb _ _ before)

  pub bad : root.sequence ≤ 2 ^ 63 → has_bad_imap g roots content ≡ true → reason_under g root roots content ≡ Some 6
  bad before is = in_time before ∙ ap rest is

  pub by_counts : root.sequence ≤ 2 ^ 63 → has_bad_imap g roots content ≡ false
      → reason_under g root roots content ≡ reason_of_counts g root (used_under g roots content)
  by_counts before is = in_time before ∙ ap rest is

passed : (b : Bool) (r : ℕ) (other : Option ℕ) → cond b (Some r) other ≡ None → (b ≡ false) × (other ≡ None)
passed true r other e = absurd (cc)
passed false r other e = (refl, e)

was : (b : Bool) → not b ≡ false → b ≡ true
was true e = refl
was false e = absurd (cc)

both : (a b : Bool) → (a && b) ≡ true → (a ≡ true) × (b ≡ true)
both true true e = (refl, refl)
both true false e = absurd (cc)
both false b e = absurd (cc)

pub has_counts : (g : Request) (root : Metaroot) (used : ℕ → Bool) → reason_of_counts g root used ≡ None → HasCounts g root used
has_counts g root used e =
    let first = passed (not (counts_hold g root used)) 7 _ e in
    let second = passed (nat_lt (free_blocks_of g used) 3) 8 None first.1 in
    let equal = both (root.free_blocks == free_blocks_of g used) (root.free_inodes == free_inodes_of g used) (was (counts_hold g root used) first.0) in
    let same = eqb-true root.free_blocks (free_blocks_of g used) equal.0 in
    record {
      free_blocks = same;
      free_inodes = eqb-true root.free_inodes (free_inodes_of g used) equal.1;
      room = let enough = ltb-false (free_blocks_of g used) 3 second.0 in omega arith;
    }
