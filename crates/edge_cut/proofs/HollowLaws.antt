-- Damage that is told of blocks that were dropped, and of pointer nodes without pointers.
use Rattle.std.proofs.Common.{◌≡◌, ◌≢◌, ℕ, true, false, Some, None, Option, Ok, Err, refl, sym, ap, ◌∙◌, inl}
use Rattle.std.specs.Prelude.{Result, slice_index}
use Rattle.edge_base.specs.declared.damage.DamageKind.TheVariants as kinds
use Rattle.edge_base.specs.declared.form.Form.{Form}
use Rattle.edge_base.specs.declared.form.Form.TheVariants.{Plain, Indirect, Double}
use Rattle.edge_base.specs.declared.geometry.Request.{Request}
use Rattle.edge_base.specs.declared.node.NodeFault.{NodeFault}
use Rattle.edge_base.specs.layout.Spelling.{PointerNode}
use Rattle.edge_store.specs.Damages.{damage_in, IsDamage, no_pointer}
use Rattle.edge_store.specs.View.{View, Block, content, pointers, entries_in, entries_of_inode, is_owned_by}
use Rattle.edge_store.proofs.ViewLaws.{head_of_whole}
use Rattle.edge_cut.specs.Dropped.{IsLost, IsHollow}

pub lost_is_damage : (g : Request) (places : ℕ → ℕ) (c v : View) (b : ℕ) → IsLost g v b → IsDamage g places c v (record { block = b; kind = kinds.NotUsed })
lost_is_damage g places c v b lost = inl (record {
  allocable = lost.allocable;
  number = lost.number;
  form = lost.form;
  linked = lost.linked;
  met = ap (λ o. damage_in b lost.number (content lost.form o)) lost.unused;
})

-- a pointer node that is one of the owner's
node_of : (owner : ℕ) (form : Form) (o : Option Block) → form ≢ Plain → is_owned_by owner (content form o) ≡ true → (node : PointerNode) × (content form o ≡ pointers (Ok node))
node_of owner form None node e = absurd (let f : false ≡ true = e in cc)
node_of owner Plain (Some block) node e = absurd (node refl)
node_of owner Indirect (Some block) node e = told block.indirect e
  where
    told : (r : Result PointerNode NodeFault) → is_owned_by owner (pointers r) ≡ true → (node : PointerNode) × (pointers r ≡ pointers (Ok node))
    told (Ok node) e = (node, refl)
    told (Err fault) e = absurd (let f : false ≡ true = e in cc)
node_of owner Double (Some block) node e = told block.double e
  where
    told : (r : Result PointerNode NodeFault) → is_owned_by owner (pointers r) ≡ true → (node : PointerNode) × (pointers r ≡ pointers (Ok node))
    told (Ok node) e = (node, refl)
    told (Err fault) e = absurd (let f : false ≡ true = e in cc)

pub hollow_is_damage : (g : Request) (places : ℕ → ℕ) (c v : View) (n : ℕ) (form : Form) (b : ℕ) → IsHollow g v n form b → IsDamage g places c v (record { block = b; kind = kinds.WrongShape })
hollow_is_damage g places c v n form b hollow =
    let inode = head_of_whole (v.inodes n) hollow.inode in
    let node = node_of n form (v.blocks b) hollow.is_node hollow.spot in
    record {
      number = n;
      head = inode.0;
      entries = entries_of_inode (v.inodes n);
      inode = inode.1;
      breaks = no_pointer form b node.0 hollow.is_node hollow.linked node.1 (λ i. ap (λ x. slice_index (entries_in x) i) (sym node.1) ∙ hollow.none i);
    }
