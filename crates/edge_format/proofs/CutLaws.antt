-- What a cut leaves of a disk that is being formatted, from what the parts promise.
use Rattle.std.proofs.Common.{◌≡◌, ◌≢◌, ◌⊎◌, inl, inr, ⊎_elim, ℕ, ◌<◌, ◌≤◌, ◌==◌, false, List, replicate, Ok, Err, Result, refl, sym, ap, ◌∙◌, subst, arith}
use Rattle.std.specs.Prelude.{IsTrue, OnErr}
use Rattle.std.proofs.lemmas.Bool.{cases_eq, eqb-true}
use Rattle.edge_base.specs.declared.geometry.Request.{Request}
use Rattle.edge_base.specs.declared.node.Master.{Master}
use Rattle.edge_base.specs.declared.node.NodeFault.TheVariants.{WrongSignature}
use Rattle.edge_base.specs.layout.Places.{IsWithinLimits, imap_place_of}
use Rattle.edge_base.specs.layout.Bytes.{signature_in}
use Rattle.edge_base.specs.layout.Spelling.{master_signature, master_in, SpellsNoNode}
use Rattle.edge_disk.specs.Disk.{Origin, DiskState}
use Rattle.edge_disk.specs.Image.{Image, IsPermitted}
use Rattle.edge_disk.specs.State.{shown_by, EachCut, EachPermitted, IsTold, Keeps}
use Rattle.edge_image.specs.Opens.{IsAlike}
use Rattle.edge_image.specs.Formatted.{master_of, root_place, zero_block, HasFirstMetaroot, HasFirstImap, HasEmptyRoot, OpensFresh}
use Rattle.edge_image.proofs.FormattedLaws.{no_signature, opens_fresh}
use Rattle.edge_nodes.proofs.HeaderLaws.{passed}
use Rattle.edge_nodes.proofs.MasterLaws.{spelled_master}
use Rattle.edge_format.specs.Nodes.{IsBesideNodes, HasNodes}
use Rattle.edge_format.specs.Cut.{HasNoMaster, IsOldOrFresh}

pub on_err : {T E : Type 0} (r : Result T E) (P : Type 0) → P → OnErr r P
on_err (Ok x) P p = tt
on_err (Err e) P p = p

-- ---- no master

no_master : (n : ℕ) (m : Master) → master_in (replicate n 0) ≢ Ok m
unfolding master_in
no_master n m e =
    let sign = eqb-true _ _ (passed (signature_in (replicate n 0) == master_signature) WrongSignature _ m e).0 in
    let none = no_signature n in
    absurd (omega arith)

zeros_have_none : (image : Image) (n : ℕ) → image.block 0 ≡ replicate n 0 → HasNoMaster image
zeros_have_none image n zeros = λ m e. no_master n m (sym (ap master_in zeros) ∙ e)

no_node_has_none : (image : Image) → SpellsNoNode (image.block 0) → HasNoMaster image
no_node_has_none image none = λ m e. none.no_master m (spelled_master (image.block 0) m e)

-- ---- states

pub still_told : (old new : DiskState) → new.origin ≡ old.origin → new.faults ≡ old.faults → IsTold old → IsTold new
still_told old new origin faults told = record {
  shows = subst (λ (o : Origin). IsTrue o.shows) (sym origin) told.shows;
  keeps = subst (λ (o : Origin). IsTrue o.keeps) (sym origin) told.keeps;
  no_fault = faults ∙ told.no_fault;
}

pub beside_nodes : (g : Request) → IsBesideNodes g 0
beside_nodes g = record { not_imap = λ i inside e. omega arith; not_first = λ e. omega arith; not_second = λ e. omega arith; not_root = λ e. omega arith }

-- a disk with this geometry has its nodes' blocks
pub record HasRoom (g : Request) (origin : Origin) : Type 0 where
  pub size : origin.block_size ≡ g.block_size
  pub fits : g.blocks ≤ origin.blocks
  pub nodes : root_place g < origin.blocks

pub has_room : (g : Request) (old new : Origin) → IsWithinLimits g → old.block_size ≡ g.block_size → g.blocks ≤ old.blocks → new ≡ old → HasRoom g new
has_room g old new limits size fits same =
    let room = limits.room in
    let some = limits.some_inode in
    subst (HasRoom g) (sym same) (record { size = size; fits = fits; nodes = omega arith })

-- ---- images

-- a candidate of a sure block is what reads give
abbrev pub IsOnlyShown : DiskState → Type 0
IsOnlyShown disk = (b : ℕ) (c : List ℕ) → disk.is_sure b → disk.may_hold b c → c ≡ disk.shown b

-- blocks that hold the nodes still do where each of them stays
nodes_stay : (g : Request) (blocks : ℕ) (old new : ℕ → List ℕ) → root_place g < blocks → ((b : ℕ) → b ≢ 0 → b < blocks → new b ≡ old b) → HasNodes g old → HasNodes g new
nodes_stay g blocks old new room same has = record {
  imap = λ i inside. subst (HasFirstImap g i) (sym (same (imap_place_of g i false) (λ e. omega arith) (omega arith))) (has.imap i inside);
  metaroot = subst (HasFirstMetaroot g) (sym (same 1 (λ e. omega arith) (omega arith))) has.metaroot;
  second = same 2 (λ e. omega arith) (omega arith) ∙ has.second;
  root = subst (HasEmptyRoot g) (sym (same (root_place g) (λ e. omega arith) room)) has.root;
}

formatted : (g : Request) (time : ℕ) (image : Image) (origin : Origin) → image.blocks ≡ origin.blocks → image.block_size ≡ origin.block_size → HasRoom g origin
    → master_in (image.block 0) ≡ Ok (master_of g time) → HasNodes g image.block → OpensFresh g time image
formatted g time image origin blocks size room master has = opens_fresh g time image (record {
  block_size = size ∙ room.size;
  blocks = let fits = room.fits in omega arith;
  master = master;
  metaroot = has.metaroot;
  imap = has.imap;
  second = has.second;
  root = has.root;
})

module _ (g : Request) (time : ℕ) (disk : DiskState) (room : HasRoom g disk.origin) where
  -- what is shown at the end opens
  pub shown_opens : (before : ℕ → List ℕ) → HasNodes g before → ((b : ℕ) → b ≢ 0 → disk.shown b ≡ before b) → master_in (disk.shown 0) ≡ Ok (master_of g time)
      → OpensFresh g time (shown_by disk)
  shown_opens before has same master =
      formatted g time (shown_by disk) disk.origin refl refl room master (nodes_stay g disk.origin.blocks before disk.shown room.nodes (λ b far below. same b far) has)

  module _ (only : IsOnlyShown disk) where
    -- a sure block of a permitted image
    sure_block : (image : Image) → IsPermitted disk.origin disk.may_hold disk.is_sure image → (b : ℕ) → b < disk.origin.blocks → disk.is_sure b → image.block b ≡ disk.shown b
    sure_block image permitted b below sure = only b (image.block b) sure (permitted.only b below sure)

    -- each permitted image opens where all blocks are sure
    pub all_open : (before : ℕ → List ℕ) → ((b : ℕ) → disk.is_sure b) → HasNodes g before → ((b : ℕ) → b ≢ 0 → disk.shown b ≡ before b) → master_in (disk.shown 0) ≡ Ok (master_of g time)
        → EachPermitted disk (OpensFresh g time)
    all_open before sure has stay master = λ image permitted.
        let same : (b : ℕ) → b < disk.origin.blocks → image.block b ≡ disk.shown b = λ b below. sure_block image permitted b below (sure b) in
        let nodes = room.nodes in
        formatted g time image disk.origin permitted.blocks permitted.block_size room (ap master_in (same 0 (omega arith)) ∙ master)
        (nodes_stay g disk.origin.blocks before image.block nodes (λ b far below. same b below ∙ stay b far) has)

    -- no volume where the master is cleared
    pub cut_writing : (old : Image) → disk.is_sure 0 → disk.shown 0 ≡ zero_block g → EachCut disk (IsOldOrFresh old g time)
    cut_writing old sure zeros = λ image permitted plain.
        let nodes = room.nodes in
        inr (inl (zeros_have_none image g.block_size (sure_block image permitted 0 (omega arith) sure ∙ zeros)))

    module _ (before : DiskState) (only_before : IsOnlyShown before) (keeps : Keeps (λ b. b ≢ 0) before disk) where
      -- the blocks behind the master
      others : (image : Image) → IsPermitted disk.origin disk.may_hold disk.is_sure image → ((b : ℕ) → b < disk.origin.blocks → before.is_sure b) → (b : ℕ) → b ≢ 0 → b < disk.origin.blocks
          → image.block b ≡ before.shown b
      others image permitted sure b far below = sure_block image permitted b below (keeps.sure b far (sure b below)) ∙ keeps.shown b far

      -- the old image or no volume while the master is cleared
      pub cut_clearing : disk.origin ≡ before.origin → ((b : ℕ) → b < disk.origin.blocks → before.is_sure b) → ((c : List ℕ) → disk.may_hold 0 c → before.may_hold 0 c ⊎ (c ≡ zero_block g))
          → EachCut disk (IsOldOrFresh (shown_by before) g time)
      cut_clearing same sure adds = λ image permitted plain.
          let nodes = room.nodes in
          let some : 0 < disk.origin.blocks = omega arith in
          let blocks = ap (λ (o : Origin). o.blocks) same in
          let unchanged : image.block 0 ≡ before.shown 0 → IsAlike (shown_by before) image = λ first. record {
            blocks = permitted.blocks ∙ blocks;
            block_size = permitted.block_size ∙ ap (λ (o : Origin). o.block_size) same;
            same = λ b below. elim (cases_eq b 0) [
              | inl e ↦ subst (λ (k : ℕ). image.block k ≡ before.shown k) (sym e) first
              | inr far ↦ others image permitted sure b far (omega arith)
            ];
          } in
          ⊎_elim (λ here. ⊎_elim (λ was. inl (unchanged (only_before 0 (image.block 0) (sure 0 some) was))) (λ zeros. inr (inl (zeros_have_none image g.block_size zeros))) (adds (image.block 0) here))
          (λ none. inr (inl (no_node_has_none image none))) (plain 0 (omega arith) some)

      -- no volume or a fresh one while the master is written
      pub cut_ending : (old : Image) → ((b : ℕ) → before.is_sure b) → before.shown 0 ≡ zero_block g → HasNodes g before.shown
          → ((c : List ℕ) → disk.may_hold 0 c → before.may_hold 0 c ⊎ (master_in c ≡ Ok (master_of g time))) → EachCut disk (IsOldOrFresh old g time)
      cut_ending old sure zeros has adds = λ image permitted plain.
          let nodes = room.nodes in
          let behind = others image permitted (λ b below. sure b) in
          let fresh : master_in (image.block 0) ≡ Ok (master_of g time) → OpensFresh g time image
          = λ master. formatted g time image disk.origin permitted.blocks permitted.block_size room master (nodes_stay g disk.origin.blocks before.shown image.block nodes behind has) in
          ⊎_elim (λ here. ⊎_elim (λ was. inr (inl (zeros_have_none image g.block_size (only_before 0 (image.block 0) (sure 0) was ∙ zeros)))) (λ master. inr (inr (fresh master))) (adds (image.block 0) here))
          (λ none. inr (inl (no_node_has_none image none))) (plain 0 (omega arith) (omega arith))
