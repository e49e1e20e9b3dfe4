-- What a call meets is no tangled node.
use Rattle.std.proofs.Common.{◌≡◌, ◌≢◌, ℕ, ◌==◌, Bool, true, false, cond, Some, None, ap, ◌∙◌}
use Rattle.std.specs.Prelude.{Result, Ok, Err}
use Rattle.edge_base.specs.declared.damage.Damage.{Damage}
use Rattle.edge_base.specs.declared.damage.DamageKind.TheVariants as kinds
use Rattle.edge_base.specs.declared.form.Form.{Form}
use Rattle.edge_base.specs.declared.geometry.Request.{Request}
use Rattle.edge_base.specs.declared.node.NodeFault.{NodeFault}
use Rattle.edge_base.specs.declared.node.NodeFault.TheVariants as faults
use Rattle.edge_store.specs.Calls.{Meets, TellsNoTangle}
use Rattle.edge_store.specs.Damages.{damage_in, damage_at, damage_of_inode}
use Rattle.edge_store.specs.State.{StoreState}
use Rattle.edge_store.specs.View.{IsView, IsInodeDamage, unreadable, two_places, Content, bytes, pointers, unused, content_at, kind_of_fault}
use Rattle.edge_store.specs.declared.fault.StoreFault.{StoreFault}
use Rattle.edge_store.proofs.ViewLaws.{broken_of}

fault_kind : (fault : NodeFault) → kind_of_fault fault ≢ kinds.Tangled
fault_kind faults.WrongSignature e = cc
fault_kind faults.WrongWord e = cc
fault_kind (faults.WrongField at) e = cc

inode_kind : (g : Request) (n : ℕ) (d : Damage) → IsInodeDamage g n d → d.kind ≢ kinds.Tangled
inode_kind g n d (unreadable second fault) e = fault_kind fault e
inode_kind g n d two_places e = cc

block_kind : (b n : ℕ) (is : Content) (d : Damage) → damage_in b n is ≡ Some d → d.kind ≢ kinds.Tangled
block_kind b n (bytes list) d e = absurd (cc)
block_kind b n (pointers (Err fault)) d e =
    let f : Some (record { block = b; kind = kind_of_fault fault }) ≡ Some d = e in
    let same : record { block = b; kind = kind_of_fault fault } ≡ d = cc in
    λ h. fault_kind fault (ap (λ (x : Damage). x.kind) same ∙ h)
block_kind b n unused d e =
    let f : Some (record { block = b; kind = kinds.NotUsed }) ≡ Some d = e in
    let same : record { block = b; kind = kinds.NotUsed } ≡ d = cc in
    λ h. let x : kinds.NotUsed ≡ kinds.Tangled = ap (λ (x : Damage). x.kind) same ∙ h in cc
block_kind b n (pointers (Ok node)) d e = by (node.owner == n) e
  where
    by : (t : Bool) → cond t None (Some (record { block = b; kind = kinds.WrongOwner })) ≡ Some d → d.kind ≢ kinds.Tangled
    by true f = absurd (cc)
    by false f =
        let h : Some (record { block = b; kind = kinds.WrongOwner }) ≡ Some d = f in
        let same : record { block = b; kind = kinds.WrongOwner } ≡ d = cc in
        λ h. let x : kinds.WrongOwner ≡ kinds.Tangled = ap (λ (x : Damage). x.kind) same ∙ h in cc

pub inode_untangled : {T : Type 0} (old new : StoreState) (n : ℕ) (result : Result T StoreFault) → IsView old.origin.request old.working → Meets (damage_of_inode (old.working.inodes n)) old new result → TellsNoTangle result
inode_untangled old new n result view met d e = inode_kind old.origin.request n d (view.broken_inodes n d (broken_of (old.working.inodes n) d (met.that d e)))

pub block_untangled : {T : Type 0} (old new : StoreState) (form : Form) (n b : ℕ) (result : Result T StoreFault) → Meets (damage_at old.working form n b) old new result → TellsNoTangle result
block_untangled old new form n b result met d e = block_kind b n (content_at old.working form b) d (met.that d e)
