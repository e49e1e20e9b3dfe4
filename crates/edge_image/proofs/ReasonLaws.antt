-- An image has no reason exactly where all that mounting asks is so.
use Rattle.std.proofs.Common.{◌≡◌, ℕ, ◌≤◌, ◌^◌, ◌==◌, ◌&&◌, not, Bool, true, false, Option, Some, None, Ok, Err, refl, ap, ◌∙◌, arith}
use Rattle.std.specs.Prelude.{Result, nat_lt, if◌then◌else◌}
use Rattle.std.proofs.lemmas.Bool.{ltb-false, le-ltb, eqb-true, eq-eqb}
use Rattle.edge_base.specs.declared.geometry.Request.{Request}
use Rattle.edge_base.specs.declared.node.Master.{Master}
use Rattle.edge_base.specs.declared.node.Metaroot.{Metaroot}
use Rattle.edge_base.specs.declared.node.NodeFault.{NodeFault}
use Rattle.edge_base.specs.layout.Spelling.{master_in}
use Rattle.edge_disk.specs.Image.{Image}
use Rattle.edge_image.specs.Image.{Live, live_of, roots_in, used_in, free_blocks_of, free_inodes_of, has_bad_imap, counts_hold, reason_of_counts, reason_of_live, reason_of_master, reason_of}
use Rattle.edge_image.specs.Ready.{IsMountable}

passed : (b : Bool) (r : ℕ) (rest : Option ℕ) → (if b then Some r else rest) ≡ None → (b ≡ false) × (rest ≡ None)
passed true r rest e = absurd cc
passed false r rest e = (refl, e)

passes : (b : Bool) (r : ℕ) (rest : Option ℕ) → b ≡ false → rest ≡ None → (if b then Some r else rest) ≡ None
passes true r rest e none = absurd (let f : true ≡ false = e in cc)
passes false r rest e none = none

was : (b : Bool) → not b ≡ false → b ≡ true
was true e = refl
was false e = absurd cc

both : (a b : Bool) → (a && b) ≡ true → (a ≡ true) × (b ≡ true)
both true true e = (refl, refl)
both true false e = absurd cc
both false b e = absurd cc

below : (a b : ℕ) → nat_lt a b ≡ false → b ≤ a
below a b e = ltb-false a b e

-- ---- counts

record CountsHold (g : Request) (root : Metaroot) (used : ℕ → Bool) : Type 0 where
  blocks : root.free_blocks ≡ free_blocks_of g used
  inodes : root.free_inodes ≡ free_inodes_of g used
  room : 3 ≤ root.free_blocks

counts_of : (g : Request) (root : Metaroot) (used : ℕ → Bool) → reason_of_counts g root used ≡ None → CountsHold g root used
counts_of g root used e =
    let first = passed (not (counts_hold g root used)) 7 _ e in
    let second = passed (nat_lt (free_blocks_of g used) 3) 8 None first.1 in
    let equal = both (root.free_blocks == free_blocks_of g used) (root.free_inodes == free_inodes_of g used) (was (counts_hold g root used) first.0) in
    let same = eqb-true root.free_blocks (free_blocks_of g used) equal.0 in
    record {
      blocks = same;
      inodes = eqb-true root.free_inodes (free_inodes_of g used) equal.1;
      room = let enough = below (free_blocks_of g used) 3 second.0 in omega arith;
    }

counts_back : (g : Request) (root : Metaroot) (used : ℕ → Bool) → CountsHold g root used → reason_of_counts g root used ≡ None
counts_back g root used c =
    let blocks = eq-eqb root.free_blocks (free_blocks_of g used) c.blocks in
    let inodes = eq-eqb root.free_inodes (free_inodes_of g used) c.inodes in
    let hold : counts_hold g root used ≡ true = ap (λ a. a && (root.free_inodes == free_inodes_of g used)) blocks ∙ inodes in
    let same = c.blocks in
    let enough = c.room in
    passes (not (counts_hold g root used)) 7 _ (ap not hold) (passes (nat_lt (free_blocks_of g used) 3) 8 None (le-ltb (free_blocks_of g used) 3 (omega arith)) refl)

-- ---- the live metaroot

record LiveHolds (g : Request) (image : Image) (found : Option Live) : Type 0 where
  live : Live
  is : found ≡ Some live
  sequence : live.root.sequence ≤ 2 ^ 63
  imap_nodes : has_bad_imap g (roots_in image live) image.block ≡ false
  counts : CountsHold g live.root (used_in g image live)

live_holds : (g : Request) (image : Image) (found : Option Live) → reason_of_live g image found ≡ None → LiveHolds g image found
live_holds g image None e = absurd cc
live_holds g image (Some live) e =
    let first = passed (nat_lt (2 ^ 63) live.root.sequence) 5 _ e in
    let second = passed (has_bad_imap g (roots_in image live) image.block) 6 _ first.1 in
    record { live = live; is = refl; sequence = below (2 ^ 63) live.root.sequence first.0; imap_nodes = second.0; counts = counts_of g live.root (used_in g image live) second.1 }

live_back : (g : Request) (image : Image) (found : Option Live) → LiveHolds g image found → reason_of_live g image found ≡ None
live_back g image found l = ap (reason_of_live g image) l.is
    ∙ passes (nat_lt (2 ^ 63) l.live.root.sequence) 5 _ (le-ltb (2 ^ 63) l.live.root.sequence l.sequence)
    (passes (has_bad_imap g (roots_in image l.live) image.block) 6 _ l.imap_nodes (counts_back g l.live.root (used_in g image l.live) l.counts))

-- ---- the master

record MasterHolds (image : Image) (found : Result Master NodeFault) : Type 0 where
  master : Master
  is : found ≡ Ok master
  size : master.geometry.block_size ≡ image.block_size
  fits : master.geometry.blocks ≤ image.blocks
  live : LiveHolds master.geometry image (live_of master.geometry image)

master_holds : (image : Image) (found : Result Master NodeFault) → reason_of_master image found ≡ None → MasterHolds image found
master_holds image (Err fault) e = absurd cc
master_holds image (Ok master) e =
    let first = passed (not (master.geometry.block_size == image.block_size)) 2 _ e in
    let second = passed (nat_lt image.blocks master.geometry.blocks) 3 _ first.1 in
    record {
      master = master;
      is = refl;
      size = eqb-true master.geometry.block_size image.block_size (was (master.geometry.block_size == image.block_size) first.0);
      fits = below image.blocks master.geometry.blocks second.0;
      live = live_holds master.geometry image (live_of master.geometry image) second.1;
    }

master_back : (image : Image) (found : Result Master NodeFault) → MasterHolds image found → reason_of_master image found ≡ None
master_back image found m = ap (reason_of_master image) m.is
    ∙ passes (not (m.master.geometry.block_size == image.block_size)) 2 _ (ap not (eq-eqb m.master.geometry.block_size image.block_size m.size))
    (passes (nat_lt image.blocks m.master.geometry.blocks) 3 _ (le-ltb image.blocks m.master.geometry.blocks m.fits) (live_back m.master.geometry image (live_of m.master.geometry image) m.live))

-- ---- the image

pub without_a_reason : (image : Image) → reason_of image ≡ None → (master : Master) × (live : Live) × IsMountable image master live
unfolding reason_of
without_a_reason image e =
    let first = passed (nat_lt image.blocks 3) 1 _ e in
    let m = master_holds image (master_in (image.block 0)) first.1 in (
      m.master,
      m.live.live,
      record {
        blocks = below image.blocks 3 first.0;
        is_master = m.is;
        size = m.size;
        fits = m.fits;
        is_live = m.live.is;
        sequence = m.live.sequence;
        imap_nodes = m.live.imap_nodes;
        free_blocks = m.live.counts.blocks;
        free_inodes = m.live.counts.inodes;
        room = m.live.counts.room;
      },
    )

pub mountable : (image : Image) → ((master : Master) × (live : Live) × IsMountable image master live) → reason_of image ≡ None
unfolding reason_of
mountable image so =
    let master = so.0 in
    let live = so.1 in
    let i = so.2 in
    let counts : CountsHold master.geometry live.root (used_in master.geometry image live) = record { blocks = i.free_blocks; inodes = i.free_inodes; room = i.room } in
    let holds : LiveHolds master.geometry image (live_of master.geometry image) = record { live = live; is = i.is_live; sequence = i.sequence; imap_nodes = i.imap_nodes; counts = counts } in
    passes (nat_lt image.blocks 3) 1 _ (le-ltb image.blocks 3 i.blocks)
    (master_back image (master_in (image.block 0)) (record { master = master; is = i.is_master; size = i.size; fits = i.fits; live = holds }))
