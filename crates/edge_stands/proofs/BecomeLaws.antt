-- Another node at a number: told by its data blocks, and by the positions of the trees.
use Rattle.std.proofs.Common.{◌≡◌, ℕ, ◌+◌, ◌&&◌, ◌||◌, Bool, true, false, is_some, List, map, inl, inr, ⊎_elim, Option, Some, None, refl, sym, ap, ◌∙◌, subst}
use Rattle.std.proofs.lemmas.Bool.{false≢true, cases_eq, and_parts, false_from_ne_true, leb-true, ltb-true}
use Rattle.edge_base.specs.declared.geometry.Request.{Request}
use Rattle.edge_base.specs.tree.Positions.{Position, data_at, has, positions_of}
use Rattle.edge_base.specs.tree.Nodes.{Node, indices_of}
use Rattle.edge_base.proofs.ChainLaws.{has-positions_of-number}
use Rattle.edge_store.specs.Changed.{has_index, IsBlockOf, IsNoBlockOf, NodeDirtied}
use Rattle.edge_store.specs.Fresh.{is_dirty}
use Rattle.edge_store.specs.Placed.{block_at}
use Rattle.edge_store.specs.View.{View, IsView, is_number, is_used}
use Rattle.edge_store.proofs.ChangedLaws.{same_truth, data_there, has_mapped, touches, touched_number}
use Rattle.edge_store.proofs.NodeEffects.{index_of}
use Rattle.edge_model.specs.Tree.{Tree, numbers_of, tree_positions, with_node}
use Rattle.edge_model.proofs.Members.{IsAmong, among_range}
use Rattle.edge_steps.proofs.NodeLaws.{node_set}
use Rattle.edge_stands.specs.Dirtied.{TreeDirtied}
use Rattle.edge_stands.specs.Stands.{StandsWith, with_links, indices_at, NodeBecomes}
use Rattle.edge_stands.proofs.NodeLaws.{IsOwn, OwnChanged, is_of, of_tree, then_stands, other_dirty, was_there}

-- ---- numbers

not_none : {A : Type 0} (o : Option A) → (o ≡ None → ⊥) → is_some o ≡ true
not_none None h = absurd (h refl)
not_none (Some x) h = refl

some_not_none : {A : Type 0} (o : Option A) → is_some o ≡ true → o ≡ None → ⊥
some_not_none o h none = false≢true (sym (ap is_some none) ∙ h)

pub in_numbers : (g : Request) (n : ℕ) → is_number g n ≡ true → IsAmong (numbers_of g) n
in_numbers g n h = let both = and_parts _ _ h in let low = leb-true 2 n both.0 in let high = ltb-true n (2 + g.inodes) both.1 in among_range 2 g.inodes n low high

-- the numbers of the tree are numbers
pub tree_number : (g : Request) (v : View) (t : Tree) (links : ℕ → ℕ) → IsView g v → StandsWith g v t links → (x : ℕ) → is_some (t x) ≡ true → is_number g x ≡ true
tree_number g v t links is s x h = is.numbers x (not_none (v.inodes x) (λ none. some_not_none (t x) h ((s.numbers x).1 none)))

pub tree_numbers : (g : Request) (v : View) (t : Tree) (links : ℕ → ℕ) → IsView g v → StandsWith g v t links → (x : ℕ) → is_some (t x) ≡ true → IsAmong (numbers_of g) x
tree_numbers g v t links is s x h = in_numbers g x (tree_number g v t links is s x h)

-- ---- positions of a number

-- a position of number n in the tree is one of its node
pub own_of : (g : Request) (t : Tree) (n : ℕ) (p : Position) → IsOwn g t n p → has (positions_of g n (indices_at g (t n))) p ≡ true
own_of g t n p own =
    let o = is_of g t p own.1 in
    subst (λ (x : ℕ). has (positions_of g x (indices_at g (t x))) p ≡ true) own.0
    (subst (λ (w : Option Node). has (positions_of g p.number (indices_at g w)) p ≡ true) (sym o.there) o.position)

pub is_own : (g : Request) (t : Tree) (n : ℕ) (p : Position) → IsAmong (numbers_of g) n → has (positions_of g n (indices_at g (t n))) p ≡ true → IsOwn g t n p
is_own g t n p number h = by (t n) refl h
  where
    by : (o : Option Node) → t n ≡ o → has (positions_of g n (indices_at g o)) p ≡ true → IsOwn g t n p
    by None is h = absurd (false≢true h)
    by (Some node) is h = (has-positions_of-number g n (indices_of g node) p h, of_tree g t n node p number is h)

module _ (g : Request) (v w : View) (t : Tree) (links : ℕ → ℕ) (n : ℕ) (node : Option Node) (now : ℕ) (number : IsAmong (numbers_of g) n) (b : NodeBecomes g v w t n node now) where
  abbrev then : Tree
  then = with_node t n node

  here : then n ≡ node
  here = (node_set t n node).here

  new_of : (p : Position) → IsOwn g then n p → has (positions_of g n (indices_at g node)) p ≡ true
  new_of p own = ap (λ o. has (positions_of g n (indices_at g o)) p) (sym here) ∙ own_of g then n p own

  is_new_own : (p : Position) → has (positions_of g n (indices_at g node)) p ≡ true → IsOwn g then n p
  is_new_own p h = is_own g then n p number (ap (λ o. has (positions_of g n (indices_at g o)) p) here ∙ h)

  own_changed : OwnChanged g v w t n node now
  own_changed = record {
    stands = b.stands;
    once = λ p q one two e. b.changed.once p q (new_of p one) (new_of q two) e;
    inodes = b.changed.inodes;
    blocks = λ k used none. b.changed.blocks k used (λ p h e. none p (is_own g t n p number h) e);
    taken = λ p own. ⊎_elim
        (λ (unused : is_used v (block_at g w p) ≡ false). inl unused)
        (λ (r : IsBlockOf g v n (indices_at g (t n)) (block_at g w p)). inr (r.position, is_own g t n r.position number r.is_there, r.block))
        (b.changed.taken p (new_of p own));
    left = λ k used. ⊎_elim
        (λ (r : IsBlockOf g w n (indices_at g node) k). inl (r.position, is_new_own r.position r.is_there, r.block))
        (λ (r : (is_used v k ≡ true) × IsNoBlockOf g v n (indices_at g (t n)) k). inr (r.0, λ q own e. r.1 q (own_of g t n q own) e))
        (b.changed.left k used);
  }

  -- ---- what is dirty

  own_same : (p : Position) → p.number ≡ n → has (positions_of g n (indices_at g (t n))) p ≡ has (tree_positions g t) p
  own_same p own = same_truth (has (positions_of g n (indices_at g (t n))) p) (has (tree_positions g t) p) (λ h. (is_own g t n p number h).1) (λ h. own_of g t n p (own, h))

  not_had : (i : ℕ) → has (tree_positions g t) (data_at n i) ≡ false → has_index (indices_at g (t n)) i ≡ false
  not_had i out = false_from_ne_true (has_index (indices_at g (t n)) i)
      (λ h. false≢true (sym out ∙ sym (own_same (data_at n i) refl) ∙ data_there g n (indices_at g (t n)) i h))

  pub tree_dirtied : (c : View) (writes removes : List ℕ) → StandsWith g v t links → NodeDirtied g c v w n (indices_at g (t n)) (indices_at g node) writes removes → TreeDirtied g c v w t then (map (data_at n) writes) (map (data_at n) removes)
  tree_dirtied c writes removes s d = record {
    dirty = λ p h. ⊎_elim
        (λ (own : p.number ≡ n). d.dirty p (new_of p (own, h)) ∙ ap (λ there. (there && is_dirty g c v p) || touches g n writes removes p) (own_same p own))
        (λ (other : p.number ≡ n → ⊥).
        let was = was_there g v w t links n node now s own_changed p other h in
        let untouched : touches g n writes removes p ≡ false = false_from_ne_true (touches g n writes removes p) (λ k. other (touched_number g n writes removes p k)) in
        other_dirty g v w t links n node now s own_changed c p other h
        ∙ sym (ap (λ x. (x && is_dirty g c v p) || touches g n writes removes p) was ∙ ap (λ x. is_dirty g c v p || x) untouched ∙ or_false (is_dirty g c v p)))
        (cases_eq p.number n);
    added = λ m i there out. ⊎_elim
        (λ (same : m ≡ n). subst (λ (x : ℕ). has (map (data_at n) writes) (data_at x i) ≡ true) (sym same) (has_mapped n writes i
        (d.added i (index_of g n (indices_at g node) i (new_of (data_at n i) (refl, ap (λ x. has (tree_positions g then) (data_at x i)) (sym same) ∙ there)))
        (not_had i (ap (λ x. has (tree_positions g t) (data_at x i)) (sym same) ∙ out)))))
        (λ (other : m ≡ n → ⊥). absurd (false≢true (sym out ∙ was_there g v w t links n node now s own_changed (data_at m i) other there)))
        (cases_eq m n);
  }
    where
      or_false : (x : Bool) → (x || false) ≡ x
      or_false true = refl
      or_false false = refl

pub one_node : (g : Request) (v w : View) (t : Tree) (links : ℕ → ℕ) (n : ℕ) (node : Option Node) (now : ℕ) → IsView g v → is_number g n ≡ true → StandsWith g v t links → NodeBecomes g v w t n node now
    → StandsWith g w (with_node t n node) (with_links links n now)
one_node g v w t links n node now is number s b = then_stands g v w t links n node now s (own_changed g v w t links n node now (in_numbers g n number) b) (tree_numbers g v t links is s)

pub one_node_dirtied : (g : Request) (c v w : View) (t : Tree) (links : ℕ → ℕ) (n : ℕ) (node : Option Node) (now : ℕ) (writes removes : List ℕ) → is_number g n ≡ true → StandsWith g v t links → NodeBecomes g v w t n node now
    → NodeDirtied g c v w n (indices_at g (t n)) (indices_at g node) writes removes → TreeDirtied g c v w t (with_node t n node) (map (data_at n) writes) (map (data_at n) removes)
one_node_dirtied g c v w t links n node now writes removes number s b d = tree_dirtied g v w t links n node now (in_numbers g n number) b c writes removes s d
