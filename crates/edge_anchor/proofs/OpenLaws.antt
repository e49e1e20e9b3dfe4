-- An image that has the blocks of an anchor opens by it.
use Rattle.std.proofs.Common.{◌≡◌, ◌⊎◌, inl, inr, ℕ, ◌≤◌, ◌^◌, ◌==◌, ◌&&◌, not, Bool, true, false, cond, List, Option, Some, None, refl, sym, ap, ◌∙◌, subst, arith}
use Rattle.std.specs.Prelude.{nat_lt}
use Rattle.std.proofs.lemmas.Bool.{le-ltb, eq-eqb}
use Rattle.edge_base.specs.declared.geometry.Request.{Request}
use Rattle.edge_base.specs.declared.node.Metaroot.{Metaroot}
use Rattle.edge_base.specs.layout.Bitmap.{used_under}
use Rattle.edge_disk.specs.Disk.{Origin}
use Rattle.edge_disk.specs.Image.{Image}
use Rattle.edge_store.specs.View.{View}
use Rattle.edge_image.specs.Image.{roots_in, used_in, has_bad_imap, free_blocks_of, free_inodes_of, counts_hold, reason_of_counts, reason_of_live, reason_of_master, reason_of}
use Rattle.edge_image.specs.Ready.{IsMountable}
use Rattle.edge_image.specs.View.{view_of}
use Rattle.edge_anchor.specs.Anchor.{Anchor, HasBit, HangsOn, IsOn, IsRoot, LeadsTo, to_used, Loses, geometry_of, live_by, spare_of, view_at}
use Rattle.edge_anchor.specs.Opens.{OpensAs}
use Rattle.edge_anchor.proofs.HangLaws.{hangs_same, within_limits, no_bad_imap}
use Rattle.edge_anchor.proofs.LiveLaws.{is_live}
use Rattle.edge_anchor.proofs.PlaceLaws.{has_room, free_blocks_same, free_inodes_same}
use Rattle.edge_anchor.proofs.ViewLaws.{view_stays}

-- an image of a disk that has the metaroot, and what hangs on it as blocks hold it
pub record HasAnchor (origin : Origin) (a : Anchor) (s : ℕ → List ℕ) (image : Image) : Type 0 where
  pub blocks : image.blocks ≡ origin.blocks
  pub block_size : image.block_size ≡ origin.block_size
  pub root : IsRoot a (image.block a.place)
  pub same : (k : ℕ) → LeadsTo a k → image.block k ≡ s k
  pub loses : Loses a (image.block (spare_of a))

module _ (origin : Origin) (a : Anchor) (s : ℕ → List ℕ) (image : Image) (on : IsOn origin a) (hangs : HangsOn a s) (has : HasAnchor origin a s image) where
  there : HangsOn a image.block
  there = hangs_same a s image.block has.same hangs

  used_there : (b : ℕ) → HasBit (geometry_of a) b → used_in (geometry_of a) image (live_by a) b ≡ a.used b
  used_there b bit = ap (λ roots. used_under (geometry_of a) roots image.block b) has.root.roots ∙ there.bits b bit

  view_there : view_of (geometry_of a) image (live_by a) ≡ view_at a s
  unfolding view_of
  view_there = view_stays (geometry_of a) a.used (used_in (geometry_of a) image (live_by a)) s image.block (within_limits a s hangs)
      (λ b bit. record { same_use = used_there b bit; bytes = λ used. has.same b (to_used bit used) })

  pub opens : OpensAs a (view_at a s) image
  opens =
      let g = geometry_of a in
      let limits = within_limits a s hangs in
      let room = has_room g limits in
      let size = has.blocks in
      let fits = on.blocks in
      record {
        blocks = omega arith;
        master = there.master;
        size = on.size ∙ sym has.block_size;
        fits = omega arith;
        live = is_live g image a.place a.root on.place has.root.spells has.loses;
        imap_nodes = ap (λ roots. has_bad_imap g roots image.block) has.root.roots ∙ no_bad_imap g a.roots image.block there.nodes;
        free_blocks = hangs.free_blocks ∙ sym (free_blocks_same g limits a.used (used_in g image (live_by a)) used_there);
        free_inodes = hangs.free_inodes ∙ sym (free_inodes_same g limits a.used (used_in g image (live_by a)) used_there);
        view = view_there;
      }

-- ---- reasons

pub opens_mounted : (a : Anchor) (v : View) (image : Image) → OpensAs a v image → a.root.sequence ≤ 2 ^ 63 → 3 ≤ a.root.free_blocks
    → IsMountable image a.master (live_by a)
opens_mounted a v image is sequence room = record {
  blocks = is.blocks;
  is_master = is.master;
  size = is.size;
  fits = is.fits;
  is_live = is.live;
  sequence = sequence;
  imap_nodes = is.imap_nodes;
  free_blocks = is.free_blocks;
  free_inodes = is.free_inodes;
  room = room;
}

skip : (b : Bool) (r : ℕ) (rest : Option ℕ) → b ≡ false → cond b (Some r) rest ≡ rest
skip true r rest e = absurd (cc)
skip false r rest e = refl

-- the two reasons that are left
abbrev left : Bool → Bool → Option ℕ
left great few = cond great (Some 5) (cond few (Some 8) None)

one_of_left : (great few : Bool) → (left great few ≡ None) ⊎ ((left great few ≡ Some 5) ⊎ (left great few ≡ Some 8))
one_of_left true few = inr (inl refl)
one_of_left false true = inr (inr refl)
one_of_left false false = inl refl

counts_left : (g : Request) (root : Metaroot) (used : ℕ → Bool) → root.free_blocks ≡ free_blocks_of g used → root.free_inodes ≡ free_inodes_of g used
    → reason_of_counts g root used ≡ cond (nat_lt (free_blocks_of g used) 3) (Some 8) None
counts_left g root used blocks inodes =
    let hold : counts_hold g root used ≡ true
    = ap (λ t. t && (root.free_inodes == free_inodes_of g used)) (eq-eqb root.free_blocks (free_blocks_of g used) blocks)
    ∙ eq-eqb root.free_inodes (free_inodes_of g used) inodes in
    skip (not (counts_hold g root used)) 7 _ (ap not hold)

reason_left : (a : Anchor) (v : View) (image : Image) → OpensAs a v image
    → reason_of image ≡ left (nat_lt (2 ^ 63) a.root.sequence) (nat_lt (free_blocks_of (geometry_of a) (used_in (geometry_of a) image (live_by a))) 3)
unfolding reason_of
reason_left a v image is =
    let g = geometry_of a in
    skip (nat_lt image.blocks 3) 1 _ (le-ltb image.blocks 3 is.blocks)
    ∙ ap (reason_of_master image) is.master
    ∙ skip (not (g.block_size == image.block_size)) 2 _ (ap not (eq-eqb g.block_size image.block_size is.size))
    ∙ skip (nat_lt image.blocks g.blocks) 3 _ (le-ltb image.blocks g.blocks is.fits)
    ∙ ap (reason_of_live g image) is.live
    ∙ ap (cond (nat_lt (2 ^ 63) a.root.sequence) (Some 5))
    (skip (has_bad_imap g (roots_in image (live_by a)) image.block) 6 _ is.imap_nodes
    ∙ counts_left g a.root (used_in g image (live_by a)) is.free_blocks is.free_inodes)

pub opens_reasons : (a : Anchor) (v : View) (image : Image) → OpensAs a v image
    → (reason_of image ≡ None) ⊎ ((reason_of image ≡ Some 5) ⊎ (reason_of image ≡ Some 8))
opens_reasons a v image is =
    let great = nat_lt (2 ^ 63) a.root.sequence in
    let few = nat_lt (free_blocks_of (geometry_of a) (used_in (geometry_of a) image (live_by a))) 3 in
    let Left : Option ℕ → Type 0 = λ o. (o ≡ None) ⊎ ((o ≡ Some 5) ⊎ (o ≡ Some 8)) in
    subst Left (sym (reason_left a v image is)) (one_of_left great few)
