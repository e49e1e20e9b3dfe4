-- What a call meets is damage of the view.
use Rattle.std.proofs.Common.{◌≡◌, ◌≢◌, ℕ, ◌==◌, Bool, true, false, cond, Option, Some, None, refl, sym, ap, ◌∙◌, subst, inl, inr}
use Rattle.std.specs.Prelude.{slice_index, Result, Ok, Err}
use Rattle.edge_base.specs.declared.damage.Damage.{Damage}
use Rattle.edge_base.specs.declared.damage.DamageKind.{DamageKind}
use Rattle.edge_base.specs.declared.damage.DamageKind.TheVariants as kinds
use Rattle.edge_base.specs.declared.form.Form.{Form}
use Rattle.edge_base.specs.declared.form.Form.TheVariants.{Plain, Indirect, Double}
use Rattle.edge_base.specs.declared.geometry.Request.{Request}
use Rattle.edge_base.specs.declared.node.NodeFault.{NodeFault}
use Rattle.edge_base.specs.declared.node.NodeFault.TheVariants as faults
use Rattle.edge_base.specs.layout.Spelling.{PointerNode}
use Rattle.std.proofs.lemmas.Bool.{eqb-true}
use Rattle.edge_store.specs.declared.fault.StoreFault.{StoreFault}
use Rattle.edge_store.specs.declared.fault.StoreFault.TheVariants.{Damaged}
use Rattle.edge_store.specs.View.{View, IsView, IsInodeDamage, unreadable, two_places, broken, Block, Content, content, bytes, pointers, unused, content_at, entries_in, entries_of_inode, is_owned_by, is_spot, is_link, is_allocable, is_whole, kind_of_fault}
use Rattle.edge_store.specs.Damages.{damage_in, damage_at, damage_of_inode, IsLinked, IsDamage, IsMisread, HasWrongPointer, HasPointers, in_inode, in_node}
use Rattle.edge_store.specs.Calls.{Called, KeepsPoint, Meets, TellsDamage}
use Rattle.edge_store.specs.State.{StoreState}
use Rattle.edge_store.proofs.ViewLaws.{broken_of, head_of_whole}

module _ (g : Request) (places : ℕ → ℕ) (c v : View) where
  -- an inode that cannot be read
  pub broken_is_damage : (n : ℕ) (d : Damage) → v.inodes n ≡ Some (broken d) → IsInodeDamage g n d → IsDamage g places c v d
  broken_is_damage n d e (unreadable second faults.WrongSignature) = inl (record { number = n; inode = e })
  broken_is_damage n d e (unreadable second faults.WrongWord) = inl (record { number = n; inode = e })
  broken_is_damage n d e (unreadable second (faults.WrongField at)) = inl (record { number = n; inode = e })
  broken_is_damage n d e two_places = record { number = n; inode = e }

  -- a linked block that is misread
  module _ (n : ℕ) (form : Form) (b : ℕ) (fits : is_allocable g b ≡ true) (linked : IsLinked g v n form b) where
    abbrev at : DamageKind → Damage
    at kind = record { block = b; kind = kind }

    misread : (kind : DamageKind) → damage_at v form n b ≡ Some (at kind) → IsMisread g v (at kind)
    misread kind e = record { allocable = fits; number = n; form = form; linked = linked; met = e }

    by_fault : (fault : NodeFault) → content_at v form b ≡ pointers (Err fault) → IsDamage g places c v (at (kind_of_fault fault))
    by_fault faults.WrongSignature e = inr (misread kinds.WrongSignature (ap (damage_in b n) e))
    by_fault faults.WrongWord e = inr (misread kinds.WrongWord (ap (damage_in b n) e))
    by_fault (faults.WrongField place) e = inr (misread kinds.WrongField (ap (damage_in b n) e))

    by_content : (d : Damage) (is_content : Content) → content_at v form b ≡ is_content → damage_in b n is_content ≡ Some d → IsDamage g places c v d
    by_content d (bytes list) is e = absurd (cc)
    by_content d (pointers (Err fault)) is e = let f : Some (at (kind_of_fault fault)) ≡ Some d = e in
        let same : at (kind_of_fault fault) ≡ d = cc in
        subst (IsDamage g places c v) same (by_fault fault is)
    by_content d unused is e = let f : Some (at kinds.NotUsed) ≡ Some d = e in
        let same : at kinds.NotUsed ≡ d = cc in
        subst (IsDamage g places c v) same (inl (misread kinds.NotUsed (ap (damage_in b n) is)))
    by_content d (pointers (Ok node)) is e = by_owner (node.owner == n) refl e
      where
        by_owner : (t : Bool) → (node.owner == n) ≡ t → cond t None (Some (at kinds.WrongOwner)) ≡ Some d → IsDamage g places c v d
        by_owner true was f = absurd (cc)
        by_owner false was f = let h : Some (at kinds.WrongOwner) ≡ Some d = f in
            let same : at kinds.WrongOwner ≡ d = cc in
            subst (IsDamage g places c v) same (misread kinds.WrongOwner (ap (damage_in b n) is ∙ ap (λ t. cond t None (Some (at kinds.WrongOwner))) was))

    pub misread_is_damage : (d : Damage) → damage_at v form n b ≡ Some d → IsDamage g places c v d
    misread_is_damage d e = by_content d (content_at v form b) refl e

pub same_damage : (g h : Request) (p q : ℕ → ℕ) (c e v w : View) (d : Damage) → h ≡ g → q ≡ p → e ≡ c → w ≡ v → IsDamage g p c v d → IsDamage h q e w d
same_damage g h p q c e v w d eg ep ec ev x = rw (eg, ep, ec, ev) x

module _ {T : Type 0} (old new : StoreState) (result : Result T StoreFault) (called : Called old new result) (kept : KeepsPoint old new) where
  stays : (so : Option Damage) → Meets so old new result → (d : Damage) → result ≡ Err (Damaged d) → IsDamage old.origin.request old.places old.committed old.working d → IsDamage new.origin.request new.places new.committed new.working d
  stays so met d e x = same_damage old.origin.request new.origin.request old.places new.places old.committed new.committed old.working new.working d
      (ap (λ o. o.request) called.origin) (met.keeps d e).places kept.committed (met.keeps d e).working x

  -- what a call that names an inode tells
  pub tells_of_inode : (n : ℕ) → IsView old.origin.request old.working → Meets (damage_of_inode (old.working.inodes n)) old new result → TellsDamage new result
  tells_of_inode n view met d e =
      let is : old.working.inodes n ≡ Some (broken d) = broken_of (old.working.inodes n) d (met.that d e) in
      stays _ met d e (broken_is_damage old.origin.request old.places old.committed old.working n d is (view.broken_inodes n d is))

  -- what a call that names a linked block tells
  pub tells_of_spot : (n : ℕ) (form : Form) (b : ℕ) → is_allocable old.origin.request b ≡ true → IsLinked old.origin.request old.working n form b
      → Meets (damage_at old.working form n b) old new result → TellsDamage new result
  tells_of_spot n form b fits linked met d e = stays _ met d e (misread_is_damage old.origin.request old.places old.committed old.working n form b fits linked d (met.that d e))

-- ---- wrong pointers

pub wrong_in_inode : (g : Request) (places : ℕ → ℕ) (v : View) (n i b : ℕ) → is_whole (v.inodes n) ≡ true → b ≡ places n → is_link g (slice_index (entries_of_inode (v.inodes n)) i) ≡ false → HasWrongPointer g places v b
wrong_in_inode g places v n i b is at wrong =
    let w = head_of_whole (v.inodes n) is in
    record {
      number = n;
      list = entries_of_inode (v.inodes n);
      has = subst (λ (k : ℕ). HasPointers g places v n k (entries_of_inode (v.inodes n))) (sym at) (in_inode w.0 (entries_of_inode (v.inodes n)) w.1);
      place = i;
      wrong = wrong;
    }

-- a pointer node that is one of the owner's
node_of : (x : ℕ) (form : Form) (o : Option Block) → form ≢ Plain → is_owned_by x (content form o) ≡ true
    → (node : PointerNode) × (content form o ≡ pointers (Ok node)) × (node.owner ≡ x)
node_of x form None node e = absurd (let f : false ≡ true = e in cc)
node_of x Plain (Some block) node e = absurd (node refl)
node_of x Indirect (Some block) node e = told block.indirect e
  where
    told : (r : Result PointerNode NodeFault) → is_owned_by x (pointers r) ≡ true → (node : PointerNode) × (pointers r ≡ pointers (Ok node)) × (node.owner ≡ x)
    told (Ok node) e = (node, refl, eqb-true node.owner x e)
    told (Err fault) e = absurd (let f : false ≡ true = e in cc)
node_of x Double (Some block) node e = told block.double e
  where
    told : (r : Result PointerNode NodeFault) → is_owned_by x (pointers r) ≡ true → (node : PointerNode) × (pointers r ≡ pointers (Ok node)) × (node.owner ≡ x)
    told (Ok node) e = (node, refl, eqb-true node.owner x e)
    told (Err fault) e = absurd (let f : false ≡ true = e in cc)

pub wrong_in_node : (g : Request) (places : ℕ → ℕ) (v : View) (n : ℕ) (form : Form) (i b : ℕ) → form ≢ Plain → IsLinked g v n form b → is_spot v form n b ≡ true
    → is_link g (slice_index (entries_in (content_at v form b)) i) ≡ false → HasWrongPointer g places v b
wrong_in_node g places v n form i b some linked spot wrong =
    let w = node_of n form (v.blocks b) some spot in
    record {
      number = n;
      list = w.0.entries;
      has = in_node form b w.0 some linked w.1 w.2;
      place = i;
      wrong = ap (λ x. is_link g (slice_index (entries_in x) i)) (sym w.1) ∙ wrong;
    }
