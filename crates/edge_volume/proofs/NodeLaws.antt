-- What a view that stands for a tree tells of the head of a node.
use Rattle.std.proofs.Common.{◌≡◌, ◌∙◌, ℕ, ◌+◌, ◌<◌, ◌≤◌, true, is_some, refl, sym, ap, subst, Option, Some, None}
use Rattle.std.specs.Prelude.{Result, Ok, Err, IfOk, IfSome}
use Rattle.std.proofs.lemmas.Bool.{and_from, and_parts, le-leb, lt-ltb, leb-true, ltb-true}
use Rattle.edge_base.specs.declared.damage.Damage.{Damage}
use Rattle.edge_base.specs.declared.geometry.Request.{Request}
use Rattle.edge_base.specs.declared.node.Head.{Head}
use Rattle.edge_base.specs.outside.Below.{Origin}
use Rattle.edge_base.specs.tree.Nodes.{Node}
use Rattle.edge_store.specs.declared.fault.StoreFault.{StoreFault}
use Rattle.edge_store.specs.declared.fault.StoreFault.TheVariants.{Damaged}
use Rattle.edge_store.specs.Calls.{Meets, KeepsWorking}
use Rattle.edge_store.specs.Damages.{damage_of_inode}
use Rattle.edge_store.specs.State.{StoreState, Told}
use Rattle.edge_store.specs.Told.{IsHeadOf}
use Rattle.edge_store.specs.View.{View, Inode, head_of_inode, is_head_or_none, is_number}
use Rattle.edge_model.specs.Rules.{IsTree}
use Rattle.edge_model.specs.State.{State}
use Rattle.edge_model.specs.Tree.{Tree}
use Rattle.edge_image.specs.Opens.{StandsFor}
use Rattle.edge_volume.specs.Stopped.{fault_in}
use Rattle.edge_volume.specs.Volume.{StoreStands}
use Rattle.edge_volume.specs.Parts.{EndsBy, IsOfNoDamage}
use Rattle.edge_volume.specs.Nodes.{OnTree, IsNoNode, IsNodeOf, head_at, head_of_some}

module _ (g : Request) (v : View) (t : Tree) (stands : StandsFor g v t) (n : ℕ) where
  -- no inode is damaged
  pub inode_undamaged : damage_of_inode (v.inodes n) ≡ None
  inode_undamaged = by (t n) refl
    where
      by : (o : Option Node) → t n ≡ o → damage_of_inode (v.inodes n) ≡ None
      by None e = ap damage_of_inode ((stands.numbers n).0 e)
      by (Some node) e = ap damage_of_inode (stands.heads n node e).inode

  -- the head of the inode is that of the node
  pub head_of_number : head_of_inode (v.inodes n) ≡ head_at g t n
  head_of_number = by (t n) refl
    where
      by : (o : Option Node) → t n ≡ o → head_of_inode (v.inodes n) ≡ head_at g t n
      by None e = ap head_of_inode ((stands.numbers n).0 e) ∙ ap (head_of_some g t n) (sym e)
      by (Some node) e = ap head_of_inode (stands.heads n node e).inode ∙ ap (head_of_some g t n) (sym e)

-- nothing is told of an inode of a store that stands for a state
pub meets_undamaged : {T : Type 0} (old new : StoreState) (n : ℕ) (r : Result T StoreFault) (z : State) → StoreStands old z
    → Meets (damage_of_inode (old.working.inodes n)) old new r → IsOfNoDamage (fault_in r)
meets_undamaged old new n (Ok x) z stands met d e = absurd (cc)
meets_undamaged old new n (Err fault) z stands met d e =
    let none = inode_undamaged old.origin.request old.working z.tree stands.views.tree n in
    let some = met.that d (ap Err (let h : Some fault ≡ Some (Damaged d) = e in cc)) in
    absurd (let h : None ≡ Some d = sym none ∙ some in cc)

-- a number outside the range has no node
pub outside_none : (g : Request) (t : Tree) (n : ℕ) → IsTree g t → ((2 ≤ n) → (n < 2 + g.inodes) → ⊥) → None ≡ head_at g t n
outside_none g t n tree out = by (t n) refl
  where
    by : (o : Option Node) → t n ≡ o → None ≡ head_at g t n
    by None e = ap (head_of_some g t n) (sym e)
    by (Some node) e = let in_range = tree.in_range n (ap is_some e) in absurd (out in_range.0 in_range.1)

-- what is told of a head is that of the node
pub told_head : (old new : StoreState) (n : ℕ) (r : Result (Option Head) StoreFault) → IfOk r (IsHeadOf old n)
    → IfOk r (λ found. OnTree old (λ t. found ≡ head_at old.origin.request t n))
told_head old new n (Ok found) is = λ z stands tree. (is stands.told).head ∙ head_of_number old.origin.request old.working z.tree stands.views.tree n
told_head old new n (Err fault) is = is

-- ---- a node of every store

some_of_head : (o : Option Inode) (head : Head) → head_of_inode o ≡ Some head → is_some o ≡ true
some_of_head None head is = absurd (let h : None ≡ Some head = is in cc)
some_of_head (Some inode) head is = refl

pub is_node : (st : StoreState) (n : ℕ) (r : Result (Option Head) StoreFault) → 2 ≤ n → n < 2 + st.origin.request.inodes → IfOk r (IsHeadOf st n)
    → IfOk r (λ found. is_head_or_none found ≡ true) → IfOk r (λ found. IfSome found (IsNodeOf st n))
is_node st n (Err fault) low high is rules = is
is_node st n (Ok None) low high is rules = tt
is_node st n (Ok (Some head)) low high is rules = record {
  rules = rules;
  number = and_from _ _ (le-leb 2 n low) (lt-ltb n (2 + st.origin.request.inodes) high);
  there = λ told. some_of_head (st.working.inodes n) head (sym (is told).head);
  is_head = λ told. sym (is told).head;
}

-- a call that only reads leaves a node as it is
pub node_still : (a b : StoreState) (n : ℕ) (head : Head) → EndsBy None a b → KeepsWorking a b → IsNodeOf a n head → IsNodeOf b n head
node_still a b n head ends working node = record {
  number = subst (λ (o : Origin). is_number o.request n ≡ true) (sym ends.origin) node.number;
  rules = node.rules;
  there = λ told. subst (λ (v : View). is_some (v.inodes n) ≡ true) (sym working.working) (node.there (old told));
  is_head = λ told. subst (λ (v : View). head_of_inode (v.inodes n) ≡ Some head) (sym working.working) (node.is_head (old told));
}
  where
    old : Told b → Told a
    old told = ap (λ (o : Origin). o.tells) (sym ends.origin) ∙ told

-- where no head is told, a number that a node may have has no inode
pub none_there : (st : StoreState) (n : ℕ) (r : Result (Option Head) StoreFault) → IfOk r (IsHeadOf st n) → IfOk r (IsNoNode st n)
none_there st n (Err fault) is = is
none_there st n (Ok found) is = λ none told number. (is told).absent none

-- nor has a number that no node may have
pub none_outside : (st : StoreState) (n : ℕ) → ((2 ≤ n) → (n < 2 + st.origin.request.inodes) → ⊥) → IsNoNode st n None
none_outside st n out none told number =
    let parts = and_parts _ _ number in absurd (out (leb-true 2 n parts.0) (ltb-true n (2 + st.origin.request.inodes) parts.1))
