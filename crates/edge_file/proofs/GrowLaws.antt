-- A node whose head is set to one with at least some size.
use Rattle.std.proofs.Common.{◌≡◌, ℕ, ◌<◌, ◌≤◌, max, true, inl, inr, Option, Some, None, refl, sym, ap, ◌∙◌, subst, arith}
use Rattle.std.proofs.lemmas.Bool.{cases_eq}
use Rattle.std.specs.Prelude.{Result}
use Rattle.edge_base.specs.declared.node.Head.{Head}
use Rattle.edge_store.specs.declared.fault.StoreFault.{StoreFault}
use Rattle.edge_store.specs.Calls.{Meets, NeverDamaged}
use Rattle.edge_store.specs.Damages.{damage_of_inode}
use Rattle.edge_store.specs.Effects.{HeadSet}
use Rattle.edge_store.specs.View.{View, Inode, whole, broken, head_of_inode, is_whole, with_head, with_inode}
use Rattle.edge_store.specs.State.{StoreState}
use Rattle.edge_store.proofs.ViewLaws.{with_inode_here, with_inode_apart, whole_with_head, no_damage_where_whole}

pub whole_of_head : (o : Option Inode) (head : Head) → head_of_inode o ≡ Some head → is_whole o ≡ true
whole_of_head o head e = ap is_whole (whole_with_head o head e)

whole_still : (o : Option Inode) (head : Head) → is_whole o ≡ true → is_whole (with_head o head) ≡ true
whole_still (Some (whole old entries)) head h = refl
whole_still (Some (broken damage)) head h = h
whole_still None head h = h

pub whole_set : (v w : View) (n : ℕ) (head : Head) → HeadSet v w n head → is_whole (v.inodes n) ≡ true → is_whole (w.inodes n) ≡ true
whole_set v w n head set is =
    ap (λ (u : View). is_whole (u.inodes n)) set ∙ ap is_whole (with_inode_here v n (with_head (v.inodes n) head)) ∙ whole_still (v.inodes n) head is

same_head : (o : Option Inode) (head : Head) → head_of_inode o ≡ Some head → with_head o head ≡ o
same_head None head e = refl
same_head (Some (broken damage)) head e = refl
same_head (Some (whole old entries)) head e = let f : Some old ≡ Some head = e in ap (λ h. Some (whole h entries)) (let same : head ≡ old = cc in same)

same_inode : (v : View) (n : ℕ) → with_inode v n (v.inodes n) ≡ v
same_inode v n = λ i. record v { inodes = λ m. at m i }
  where
    at : (m : ℕ) → (with_inode v n (v.inodes n)).inodes m ≡ v.inodes m
    at m = elim (cases_eq m n) [
      | inl is ↦ subst (λ (k : ℕ). (with_inode v n (v.inodes n)).inodes k ≡ v.inodes k) (sym is) (with_inode_here v n (v.inodes n))
      | inr apart ↦ with_inode_apart v n (v.inodes n) m apart
    ]

pub one_head : (o : Option Head) (a b : Head) → o ≡ Some a → o ≡ Some b → a ≡ b
one_head o a b e f = cc

-- where the size is as great already
pub grows_still : (v : View) (n size : ℕ) (head : Head) → head_of_inode (v.inodes n) ≡ Some head → size ≤ head.size
    → (old : Head) → head_of_inode (v.inodes n) ≡ Some old → HeadSet v v n (record old { size = max old.size size })
grows_still v n size head is low old was =
    let less : size ≤ old.size = subst (λ (h : Head). size ≤ h.size) (one_head (head_of_inode (v.inodes n)) head old is was) low in
    let most : max old.size size ≡ old.size = omega arith in
    let same : record old { size = max old.size size } ≡ old = λ i. record old { size = most i } in
    sym (ap (λ h. with_inode v n (with_head (v.inodes n) h)) same ∙ ap (with_inode v n) (same_head (v.inodes n) old was) ∙ same_inode v n)

pub grows_set : (v w : View) (n size : ℕ) (head : Head) → head_of_inode (v.inodes n) ≡ Some head → head.size < size → HeadSet v w n (record head { size = size })
    → (old : Head) → head_of_inode (v.inodes n) ≡ Some old → HeadSet v w n (record old { size = max old.size size })
grows_set v w n size head is low set old was =
    let one = one_head (head_of_inode (v.inodes n)) head old is was in
    let less : old.size < size = subst (λ (h : Head). h.size < size) one low in
    let most : size ≡ max old.size size = omega arith in
    let same : record head { size = size } ≡ record old { size = max old.size size } = λ i. record (one i) { size = most i } in
    subst (λ (h : Head). HeadSet v w n h) same set

-- the same of a size that is no less
pub grows_no_less : (v w : View) (n size : ℕ) → ((old : Head) → head_of_inode (v.inodes n) ≡ Some old → HeadSet v w n (record old { size = max old.size size }))
    → (head : Head) → head_of_inode (v.inodes n) ≡ Some head → head.size ≤ size → HeadSet v w n (record head { size = size })
grows_no_less v w n size grows head was low =
    let most : max head.size size ≡ size = omega arith in
    let same : record head { size = max head.size size } ≡ record head { size = size } = λ i. record head { size = most i } in
    subst (λ (h : Head). HeadSet v w n h) same (grows head was)

-- a call that names an inode whose head can be read tells no damage
pub headed_undamaged : {T : Type 0} (old new : StoreState) (n : ℕ) (result : Result T StoreFault) → Meets (damage_of_inode (old.working.inodes n)) old new result
    → (head : Head) → head_of_inode (old.working.inodes n) ≡ Some head → NeverDamaged result
headed_undamaged old new n result met head was d e =
    let none = no_damage_where_whole (old.working.inodes n) (whole_of_head (old.working.inodes n) head was) in
    absurd (let f : Some d ≡ None = sym (met.that d e) ∙ none in cc)
