-- A whole volume, from its parts.
use Rattle.std.proofs.Common.{◌≡◌, ℕ, ◌+◌, ◌/◌, ◌%◌, ◌^◌, ◌≤◌, ◌==◌, false, List, ◌++◌, length, take, drop, get_or, Some, Ok, refl, sym, ap, ◌∙◌, subst, ⊎_elim, arith}
use Rattle.std.specs.Prelude.{Result, Err}
use Rattle.std.specs.Int.{bit_at}
use Rattle.std.proofs.lemmas.List.{get_or-drop, length-append, length-drop, length-take}
use Rattle.edge_base.specs.declared.geometry.Request.{Request}
use Rattle.edge_base.specs.declared.node.Master.{Master}
use Rattle.edge_base.specs.declared.node.Metaroot.{Metaroot}
use Rattle.edge_base.specs.layout.Bitmap.{used_under}
use Rattle.edge_base.specs.layout.Bytes.{bit_in}
use Rattle.edge_base.specs.layout.Spelling.{SpellsMetaroot, master_in}
use Rattle.edge_cache.specs.Cached.{Cached, IsClean}
use Rattle.edge_cache.specs.Calls.{content_in}
use Rattle.edge_cache.specs.Given.{or_shown}
use Rattle.edge_disk.specs.Image.{Image, shown_image}
use Rattle.edge_disk.specs.State.{IsUntouched, disk_of, shown_by}
use Rattle.edge_disk.specs.declared.disk.Disk.{Ghosts}
use Rattle.edge_image.specs.Image.{live_of, has_bad_imap, reason_of, reason_of_live}
use Rattle.edge_image.specs.Ready.{IsMountable}
use Rattle.edge_imap.specs.Bitmaps.{IsRootBits}
use Rattle.edge_imap.specs.Reading.{OnlyReads}
use Rattle.edge_imap.proofs.BitLaws.{bit_is}
use Rattle.edge_mount.specs.Mounted.{WhyNot}
use Rattle.edge_mount.specs.Mounting.{HasCounts, TellsMount, image_of, live_at, reason_under}
use Rattle.edge_mount.specs.declared.fault.MountFault.{MountFault}
use Rattle.edge_mount.specs.declared.fault.MountFault.TheVariants.{Device, NotVolume, Memory}
use Rattle.edge_mount.proofs.ReasonLaws.{by_live}

-- ---- the bytes of a metaroot's bitmap

root_bit : (b : List ℕ) (k : ℕ) → bit_in 0 (drop 32 b) k ≡ bit_in 32 b k
root_bit b k =
    let at : 32 + (0 + k / 8) ≡ 32 + k / 8 = omega arith in
    bit_is 0 (drop 32 b) k ∙ ap (λ (y : ℕ). bit_at y (k % 8) == 1) (get_or-drop 32 b (0 + k / 8) 0 ∙ ap (λ (i : ℕ). get_or b i 0) at) ∙ sym (bit_is 32 b k)

pub root_bits : (g : Request) (root : Metaroot) (b bits : List ℕ) → 32 ≤ g.block_size → SpellsMetaroot g root (drop 32 b) b → bits ≡ drop 32 b → IsRootBits g bits
root_bits g root b bits enough spelled same =
    let len = spelled.len in
    subst (IsRootBits g) (sym same) (record {
      len = omega (arith, length-drop 32 b);
      unused = λ i from below. root_bit b i ∙ spelled.unused i from (omega (arith, length-drop 32 b));
    })

-- a slice that is given back to its place keeps the length
pub length-back : (n : ℕ) (a b : List ℕ) → length a ≡ length b → n ≡ length b → length (take n (a ++ drop (length a) b)) ≡ length b
length-back n a b same all = omega (arith, length-take n (a ++ drop (length a) b), length-append a (drop (length a) b), length-drop (length a) b)

-- ---- the image

module _ (image : Image) (master : Master) (place : ℕ) (root : Metaroot) (roots : List ℕ) (content : ℕ → List ℕ)
    (enough : 3 ≤ image.blocks) (is_master : master_in (image.block 0) ≡ Ok master) (size : master.geometry.block_size ≡ image.block_size)
    (fits : master.geometry.blocks ≤ image.blocks) (is_live : live_of master.geometry image ≡ Some (live_at place root))
    (is_roots : roots ≡ drop 32 (image.block place)) (is_content : content ≡ image.block) where
  pub by_root : reason_under master.geometry root roots content ≡ reason_of image
  by_root = (λ t. reason_under master.geometry root (is_roots t) (is_content t))
      ∙ sym (by_live image master enough is_master size fits ∙ ap (reason_of_live master.geometry image) is_live)

  pub mountable : root.sequence ≤ 2 ^ 63 → has_bad_imap master.geometry roots content ≡ false
      → HasCounts master.geometry root (used_under master.geometry roots content) → IsMountable image master (live_at place root)
  mountable sequence nodes counts =
      let there : HasCounts master.geometry root (used_under master.geometry (drop 32 (image.block place)) image.block)
      = subst (λ c. HasCounts master.geometry root (used_under master.geometry (drop 32 (image.block place)) c)) is_content
      (subst (λ r. HasCounts master.geometry root (used_under master.geometry r content)) is_roots counts) in
      record {
        blocks = enough;
        is_master = is_master;
        size = size;
        fits = fits;
        is_live = is_live;
        sequence = sequence;
        imap_nodes = (λ t. has_bad_imap master.geometry (sym is_roots t) (sym is_content t)) ∙ nodes;
        free_blocks = there.free_blocks;
        free_inodes = there.free_inodes;
        room = counts.room;
      }

-- ---- the disk

module _ {D : Type 0} (g : Ghosts D) (old new : Cached D) (clean : IsClean old.held) (reads : OnlyReads g old new) where
  pub content_shown : content_in g old ≡ g.shown old.disk
  content_shown = λ t k. or_shown (clean k t) (g.shown old.disk k)

  pub only_read : IsUntouched (disk_of g old.disk) (disk_of g new.disk)
  only_read = record {
    origin = reads.origin;
    shown = λ t k. ⊎_elim (λ same. same) (λ was. absurd (cc (clean k, was))) (reads.gives.shown k) t;
    candidates = (reads.clean clean).candidates;
  }

  pub image_shown : image_of g old ≡ shown_by (disk_of g old.disk)
  image_shown = ap (shown_image (g.origin old.disk)) content_shown

  pub why_not : {T : Type 0} (s : Result T MountFault) (e : MountFault) → TellsMount g (reason_of (image_of g old)) old new s → s ≡ Err e
      → WhyNot g old.disk new.disk e
  why_not s Device tells is = tells.device is
  why_not s (NotVolume r) tells is = (tells.read r is, λ shows. ap reason_of (sym image_shown) ∙ tells.first r is shows)
  why_not s Memory tells is = absurd (tells.memory is)

pub untouched_same : {D : Type 0} (g : Ghosts D) (disk : D) → IsUntouched (disk_of g disk) (disk_of g disk)
untouched_same g disk = record {
  origin = refl;
  shown = refl;
  candidates = record { adds_none = λ k c h. h; stays = λ k c h. h; sure = λ k h. h; sure_stays = λ k h. h };
}
