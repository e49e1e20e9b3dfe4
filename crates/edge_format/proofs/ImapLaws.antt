-- A disk while imap nodes are written to it, one after the other.
use Rattle.std.proofs.Common.{◌≡◌, ◌≢◌, inl, inr, ℕ, ◌+◌, ◌<◌, false, List, refl, sym, ap, subst, ◌∙◌, arith}
use Rattle.std.specs.Prelude.{IsTrue}
use Rattle.std.proofs.lemmas.Bool.{cases_eq}
use Rattle.edge_base.specs.declared.geometry.Request.{Request}
use Rattle.edge_base.specs.layout.Places.{imap_nodes_of, imap_place_of}
use Rattle.edge_disk.specs.Disk.{Origin, DiskState}
use Rattle.edge_disk.specs.State.{Keeps}
use Rattle.edge_image.specs.Formatted.{HasFirstImap}
use Rattle.edge_format.specs.Nodes.{IsBesideImaps}

-- the nodes below one are written, and no other block is
pub record WroteImaps (g : Request) (node : ℕ) (before after : DiskState) : Type 0 where
  pub origin : after.origin ≡ before.origin
  pub faults : after.faults ≡ before.faults
  pub kept : Keeps (IsBesideImaps g) before after
  pub nodes : IsTrue before.origin.shows → (i : ℕ) → i < node → HasFirstImap g i (after.shown (imap_place_of g i false))

pub wrote_none : (g : Request) (disk : DiskState) → WroteImaps g 0 disk disk
wrote_none g disk = record {
  origin = refl;
  faults = refl;
  kept = record { shown = λ b is. refl; adds_none = λ b c is h. h; sure = λ b is h. h };
  nodes = λ shows i below. absurd (omega arith);
}

-- one node more, or a part of its write
pub beside_more : (g : Request) (node : ℕ) (before mid after : DiskState) → node < imap_nodes_of g → Keeps (IsBesideImaps g) before mid
    → Keeps (λ b. b ≢ imap_place_of g node false) mid after → Keeps (IsBesideImaps g) before after
beside_more g node before mid after inside kept one = record {
  shown = λ b is. one.shown b (is node inside) ∙ kept.shown b is;
  adds_none = λ b c is h. kept.adds_none b c is (one.adds_none b c (is node inside) h);
  sure = λ b is h. one.sure b (is node inside) (kept.sure b is h);
}

pub wrote_more : (g : Request) (node : ℕ) (before mid after : DiskState) → node < imap_nodes_of g → WroteImaps g node before mid → after.origin ≡ mid.origin → after.faults ≡ mid.faults
    → Keeps (λ b. b ≢ imap_place_of g node false) mid after → (IsTrue mid.origin.shows → HasFirstImap g node (after.shown (imap_place_of g node false))) → WroteImaps g (node + 1) before after
wrote_more g node before mid after inside was origin faults one here = record {
  origin = origin ∙ was.origin;
  faults = faults ∙ was.faults;
  kept = beside_more g node before mid after inside was.kept one;
  nodes = λ shows i below. elim (cases_eq i node) [
    | inl e ↦ subst (λ (k : ℕ). HasFirstImap g k (after.shown (imap_place_of g k false))) (sym e) (here (subst (λ (o : Origin). IsTrue o.shows) (sym was.origin) shows))
    | inr apart ↦ subst (HasFirstImap g i) (sym (one.shown (imap_place_of g i false) (λ e. apart (omega arith)))) (was.nodes shows i (omega arith))
  ];
}
