-- The working list of a tied bitmap hangs below the next metaroot.
use Rattle.std.proofs.Common.{◌≡◌, ◌<◌, ℕ, true, List, None, Ok, refl, sym, ap, ◌∙◌, subst}
use Rattle.std.specs.Prelude.{Result, is_ok}
use Rattle.edge_base.specs.declared.geometry.Request.{Request}
use Rattle.edge_base.specs.declared.node.Metaroot.{Metaroot}
use Rattle.edge_base.specs.declared.node.NodeFault.{NodeFault}
use Rattle.edge_base.specs.layout.Bitmap.{live_place, used_under}
use Rattle.edge_base.specs.layout.Bytes.{number_at}
use Rattle.edge_base.specs.layout.Places.{imap_nodes_of}
use Rattle.edge_base.specs.layout.Spelling.{master_in}
use Rattle.edge_nodes.proofs.ImapLaws.{imap_in-spelled}
use Rattle.edge_cache.specs.Cached.{Cached}
use Rattle.edge_cache.specs.Calls.{content_in}
use Rattle.edge_cache.specs.Given.{waiting, or_shown}
use Rattle.edge_disk.specs.declared.disk.Disk.{Ghosts}
use Rattle.edge_image.specs.Image.{free_blocks_of, free_inodes_of, spells_imap}
use Rattle.edge_imap.specs.Bitmaps.{Bitmaps, IsTied, HasNodes}
use Rattle.edge_imap.proofs.ListLaws.{counts_working}
use Rattle.edge_anchor.specs.Anchor.{Anchor, HangsOn, geometry_of}
use Rattle.edge_phase.specs.Phases.{IsNextRoot, MayCommit, MayFollow, next_of}

node_spells : (g : Request) (i : ℕ) (roots : List ℕ) (content : ℕ → List ℕ) → HasNodes g roots content → i < imap_nodes_of g
    → spells_imap g i (content (live_place g roots i)) ≡ true
node_spells g i roots content nodes below = ap
    (λ (r : Result ℕ NodeFault). is_ok r)
    (imap_in-spelled g i (content (live_place g roots i)) (number_at 8 8 (content (live_place g roots i))) _ (nodes i below))

pub tied_follows : (a : Anchor) (m : Bitmaps) (root : Metaroot) (content : ℕ → List ℕ) → m.geometry ≡ geometry_of a → master_in (content 0) ≡ Ok a.master
    → IsTied m content → IsNextRoot a m content root → HangsOn (next_of a root m.working content) content
tied_follows a m root content geometry master tied is = record {
  master = master;
  nodes = λ i below. node_spells (geometry_of a) i m.working content (subst (λ (g : Request). HasNodes g m.working content) geometry tied.working) below;
  bits = λ b has. refl;
  free_blocks = is.free_blocks ∙ counts_working m content tied ∙ ap (λ (g : Request). free_blocks_of g (used_under g m.working content)) geometry;
  free_inodes = is.free_inodes ∙ ap (λ (g : Request). free_inodes_of (geometry_of a) (used_under g m.working content)) geometry;
}

-- what the bitmap's working list leads to, and its counts, may follow the last point
pub may_follow : {D : Type 0} (d : Ghosts D) (a : Anchor) (place : ℕ) (root : Metaroot) (m : Bitmaps) (c : Cached D) → MayCommit d a place root m c
    → HangsOn a (d.shown c.disk)
    → waiting c.held 0 ≡ None → MayFollow d a root m.working c
may_follow d a place root m c allowed hangs idle =
    let shown : content_in d c 0 ≡ d.shown c.disk 0 = ap (λ w. or_shown w (d.shown c.disk 0)) idle in
    record {
      on = allowed.on;
      sequence = allowed.next.sequence;
      hangs = tied_follows a m root (content_in d c) (sym allowed.geometry) (ap master_in shown ∙ hangs.master) allowed.tied allowed.next;
    }
