-- Looking at a block that is to have a form and an owner.
use Rattle.std.proofs.Common.{◌≡◌, ◌≢◌, ◌+◌, ◌*◌, ◌<◌, ◌≤◌, ◌&&◌, ◌==◌, ℕ, Bool, true, false, cond, List, length, Option, Some, None, Ok, Err, refl, sym, ap, ◌∙◌, subst, arith}
use Rattle.std.specs.Prelude.{Result, slice_index}
use Rattle.std.proofs.lemmas.Bool.{eqb-true}
use Rattle.std.proofs.lemmas.List.FromFn.{get_or-map-range_with_len}
use Rattle.edge_base.specs.declared.damage.Damage.{Damage}
use Rattle.edge_base.specs.declared.damage.DamageKind.TheVariants as kinds
use Rattle.edge_base.specs.declared.form.Form.{Form}
use Rattle.edge_base.specs.declared.form.Form.TheVariants.{Plain, Indirect, Double}
use Rattle.edge_base.specs.declared.geometry.Request.{Request}
use Rattle.edge_base.specs.declared.node.NodeFault.{NodeFault}
use Rattle.edge_base.specs.layout.Bytes.{number_at, numbers_at}
use Rattle.edge_base.specs.layout.Places.{pointers_of}
use Rattle.edge_base.specs.layout.Spelling.{PointerNode, pointer_in}
use Rattle.edge_base.proofs.SpellingLaws.{pointer_in-decides}
use Rattle.edge_disk.specs.declared.disk.Disk.{Ghosts}
use Rattle.edge_image.specs.View.{block_told, block_under, view_over}
use Rattle.edge_imap.specs.Reading.{OnlyReads}
use Rattle.edge_nodes.specs.Pointers.{owner_told}
use Rattle.edge_store.specs.Calls.{NeverDamaged}
use Rattle.edge_store.specs.Damages.{damage_at, damage_in}
use Rattle.edge_store.specs.View.{Block, Content, bytes_in, content, content_at, entries_in, is_allocable, kind_of_fault, pointers}
use Rattle.edge_store.specs.declared.fault.StoreFault.{StoreFault}
use Rattle.edge_store.specs.declared.fault.StoreFault.TheVariants.{Device, Damaged}
use Rattle.edge_point.specs.Blocks.{TellsMet, met_told, owner_met}
use Rattle.edge_point.specs.Finding.{Sees}
use Rattle.edge_point.specs.Steps.{KeepsRest}
use Rattle.edge_point.specs.declared.parts.Parts.{Parts}
use Rattle.edge_point.proofs.FindLaws.{sees_failed, sees_passed}

-- ---- what is met at a block

module _ (g : Request) (used : ℕ → Bool) (bytes : ℕ → List ℕ) (form : Form) (owner b : ℕ) (may : is_allocable g b ≡ true) where
  block_is : (t : Bool) → used b ≡ t → block_under g used bytes b ≡ cond t (Some (block_told g (bytes b))) None
  block_is t e = λ i. cond (may i && e i) (Some (block_told g (bytes b))) None

  no_content : (f : Form) → damage_in b owner (content f None) ≡ Some (record { block = b; kind = kinds.NotUsed })
  no_content Plain = refl
  no_content Indirect = refl
  no_content Double = refl

  pub met_unused : used b ≡ false → damage_at (view_over g used bytes) form owner b ≡ Some (record { block = b; kind = kinds.NotUsed })
  met_unused off = ap (λ o. damage_in b owner (content form o)) (block_is false off) ∙ no_content form

  pub met_used : used b ≡ true → damage_at (view_over g used bytes) form owner b ≡ damage_in b owner (content form (Some (block_told g (bytes b))))
  met_used on = ap (λ o. damage_in b owner (content form o)) (block_is true on)

-- the owner that was found in a node, or its fault
pub met_owner : (b found owner : ℕ) (r : Result PointerNode NodeFault) → owner_told r ≡ Ok found
    → owner_met b found owner ≡ damage_in b owner (pointers r)
met_owner b found owner (Ok node) e =
    let same : node.owner ≡ found = cc e in
    ap (λ (n : ℕ). owner_met b n owner) (sym same)
met_owner b found owner (Err fault) e = absurd (cc e)

pub met_fault : (b owner : ℕ) (fault : NodeFault) (r : Result PointerNode NodeFault) → owner_told r ≡ Err fault
    → damage_in b owner (pointers r) ≡ Some (record { block = b; kind = kind_of_fault fault })
met_fault b owner fault (Ok node) e = absurd (cc e)
met_fault b owner fault (Err other) e =
    let same : other ≡ fault = cc e in
    ap (λ (f : NodeFault). Some (record { block = b; kind = kind_of_fault f })) same

-- ---- what is answered

pub tells_met : (met : Option Damage) (r : Result (Unit {0}) StoreFault) → r ≡ met_told met → TellsMet met r
tells_met None r is = subst (TellsMet None) (sym is) refl
tells_met (Some d) r is = subst (TellsMet (Some d)) (sym is) refl

pub tells_device : {T : Type 0} (met : Option Damage) (r : Result T StoreFault) → r ≡ Err Device → TellsMet met r
tells_device met r is = subst (TellsMet met) (sym is) tt

pub tells_damage : {T : Type 0} (met : Option Damage) (r : Result T StoreFault) (d : Damage) → r ≡ Err (Damaged d) → met ≡ Some d → TellsMet met r
tells_damage met r d is e = subst (TellsMet met) (sym is) e

-- a fault that tells no damage
pub tells_fault : {S T : Type 0} (met : Option Damage) (s : Result S StoreFault) (r : Result T StoreFault) (f : StoreFault) → s ≡ Err f → NeverDamaged s
    → r ≡ Err f
    → TellsMet met r
tells_fault met s r Device was never is = tells_device met r is
tells_fault met s r (Damaged d) was never is = absurd (never d was)

-- a fault is passed on
pub tells_as : {S T : Type 0} (met : Option Damage) (s : Result S StoreFault) (r : Result T StoreFault) (f : StoreFault) → TellsMet met s → s ≡ Err f
    → r ≡ Err f → TellsMet met r
tells_as met s r Device tells was is = tells_device met r is
tells_as met s r (Damaged d) tells was is = tells_damage met r d is (subst (TellsMet met) was tells)

-- what follows from what was read
pub sees_met : {D : Type 0} (g : Ghosts D) (p q : Parts D) (met : Option Damage) (r : Result (Unit {0}) StoreFault) → KeepsRest p q → q.imap ≡ p.imap
    → OnlyReads g p.cache q.cache → g.faults p.cache.disk ≤ g.faults q.cache.disk → g.faults q.cache.disk ≡ g.faults p.cache.disk → r ≡ met_told met
    → Sees g p q r
sees_met g p q None r rest imap reads later passed is = subst (Sees g p q) (sym is) (sees_passed g p q tt rest imap reads later passed)
sees_met g p q (Some d) r rest imap reads later passed is = subst (Sees g p q) (sym is) (sees_failed g p q (Damaged d) rest imap reads later (passed, refl))

-- ---- what a block without damage holds

when_none : (t : Bool) (d : Damage) → cond t None (Some d) ≡ None → t ≡ true
when_none true d e = refl
when_none false d e = absurd (cc e)

module _ (g : Request) (used : ℕ → Bool) (bytes : ℕ → List ℕ) (owner b : ℕ) (may : is_allocable g b ≡ true) where
  -- bytes, where it is used
  told_bytes : (t : Bool) → damage_in b owner (content Plain (cond t (Some (block_told g (bytes b))) None)) ≡ None
      → bytes_in (content Plain (cond t (Some (block_told g (bytes b))) None)) ≡ bytes b
  told_bytes true e = refl
  told_bytes false e = absurd (cc e)

  pub bytes_met : damage_at (view_over g used bytes) Plain owner b ≡ None → bytes_in (content_at (view_over g used bytes) Plain b) ≡ bytes b
  bytes_met = subst (λ (o : Option Block). damage_in b owner (content Plain o) ≡ None → bytes_in (content Plain o) ≡ bytes b)
      (sym (block_is g used bytes Plain owner b may (used b) refl)) (told_bytes (used b))

  -- a pointer node of the owner, whose entries are in its bytes
  module _ (whole : length (bytes b) ≡ g.block_size) where
    abbrev node_in : Content
    node_in = pointers (Ok (record { owner = owner; entries = numbers_at 20 (pointers_of g) (bytes b) }))

    told_node : (double : Bool) (r : Result PointerNode NodeFault) → r ≡ pointer_in g double (bytes b) → damage_in b owner (pointers r) ≡ None
        → pointers r ≡ node_in
    told_node double (Ok node) is e =
        let same = eqb-true node.owner owner (when_none (node.owner == owner) (record { block = b; kind = kinds.WrongOwner }) e) in
        let entries = ((pointer_in-decides g double (bytes b) node whole).0 (sym is)).entries_are in
        λ i. pointers (Ok (record { owner = same i; entries = sym entries i }))
    told_node double (Err fault) is e = absurd (cc e)

    told_form : (form : Form) (t : Bool) → form ≢ Plain → damage_in b owner (content form (cond t (Some (block_told g (bytes b))) None)) ≡ None
        → content form (cond t (Some (block_told g (bytes b))) None) ≡ node_in
    told_form Plain t node e = absurd (node refl)
    told_form Indirect true node e = told_node false (pointer_in g false (bytes b)) refl e
    told_form Indirect false node e = absurd (cc e)
    told_form Double true node e = told_node true (pointer_in g true (bytes b)) refl e
    told_form Double false node e = absurd (cc e)

    pub node_met : (form : Form) → form ≢ Plain → damage_at (view_over g used bytes) form owner b ≡ None → content_at (view_over g used bytes) form b ≡ node_in
    node_met form node = subst (λ (o : Option Block). damage_in b owner (content form o) ≡ None → content form o ≡ node_in)
        (sym (block_is g used bytes form owner b may (used b) refl)) (told_form form (used b) node)

    -- an entry of it
    pub entry_met : (form : Form) (room : List ℕ) (i to : ℕ) → form ≢ Plain → damage_at (view_over g used bytes) form owner b ≡ None → room ≡ bytes b
        → i < pointers_of g
        → to ≡ number_at (20 + 4 * i) 4 room → to ≡ slice_index (entries_in (content_at (view_over g used bytes) form b)) i
    entry_met form room i to node none same below is =
        is ∙ ap (number_at (20 + 4 * i) 4) same
        ∙ sym (get_or-map-range_with_len (λ j. number_at (20 + 4 * j) 4 (bytes b)) 0 (pointers_of g) i i 0 below (omega arith))
        ∙ sym (ap (λ (c : Content). slice_index (entries_in c) i) (node_met form node none))
