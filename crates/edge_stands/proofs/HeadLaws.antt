-- Heads set, inodes made and inodes dropped, as another node at a number.
use Rattle.std.proofs.Common.{◌≡◌, ℕ, ◌==◌, true, false, cond, is_some, List, [], replicate, Option, Some, None, refl, sym, ap, ◌∙◌, subst, eqb-true}
use Rattle.std.specs.List.{list_any}
use Rattle.std.proofs.lemmas.Bool.{false≢true}
use Rattle.std.proofs.lemmas.Map.{update_here}
use Rattle.edge_base.specs.declared.geometry.Request.{Request}
use Rattle.edge_base.specs.declared.node.Head.{Head}
use Rattle.edge_base.specs.layout.Places.{entries_of}
use Rattle.edge_base.specs.tree.Nodes.{Node, indices_of}
use Rattle.edge_store.specs.Changed.{NodeChanged, NodeDirtied}
use Rattle.edge_store.specs.Effects.{HeadSet, InodeMade, InodeDropped}
use Rattle.edge_store.specs.View.{View, Inode, whole, IsView, bytes, is_number, empty_inode, with_head}
use Rattle.edge_store.specs.Placed.{HasPlaces, HoldsNode, IsOnce}
use Rattle.edge_store.proofs.NodeEffects.{head_stays, head_contents, stays_changed, stays_dirty, made_changed, dropped_changed, blockless_dirty}
use Rattle.edge_model.specs.Tree.{Tree, with_node}
use Rattle.edge_stands.specs.Dirtied.{TreeDirtied}
use Rattle.edge_stands.specs.Stands.{head_with, NodeStands, StandsWith, with_links, indices_at, NodeBecomes, HasSameBlocks}
use Rattle.edge_stands.proofs.NodeLaws.{of_tree}
use Rattle.edge_stands.proofs.BecomeLaws.{tree_number, tree_numbers, one_node, one_node_dirtied}

-- ---- heads

whole_with : (o : Option Inode) (old head : Head) (entries : List ℕ) → o ≡ Some (whole old entries) → with_head o head ≡ Some (whole head entries)
whole_with o old head entries is = ap (λ i. with_head i head) is

module _ (g : Request) (v w : View) (t : Tree) (links : ℕ → ℕ) (n : ℕ) (old new : Node) (now : ℕ) (view : IsView g v) (s : StandsWith g v t links) (there : t n ≡ Some old) (same : HasSameBlocks g old new) (set : HeadSet v w n (head_with g now new)) where
  node : NodeStands g v n old (links n)
  node = s.nodes n old there

  once : IsOnce g v n (indices_of g old)
  once p q one two e =
      let number = tree_numbers g v t links view s n (ap (λ (o : Option Node). is_some o) there) in
      s.once p q (of_tree g t n old p number there one) (of_tree g t n old q number there two) e

  old_changed : NodeChanged g v w n (indices_of g old) (indices_of g old)
  old_changed = stays_changed g v w n (indices_of g old) (head_stays g v w n (head_with g now new) (indices_of g old) node.holds.places once set)

  new_changed : NodeChanged g v w n (indices_of g old) (indices_of g new)
  new_changed = subst (NodeChanged g v w n (indices_of g old)) (sym same.indices) old_changed

  head_holds : HoldsNode g w n new
  head_holds = record {
    places = new_changed.places;
    contents = λ i h.
        let was = ap (λ is. list_any (λ k. k == i) is) (sym same.indices) ∙ h in
        head_contents g v w n (head_with g now new) (indices_of g old) node.holds.places once set i was ∙ node.holds.contents i was ∙ ap bytes (sym (same.blocks i));
  }

  pub head_becomes : NodeBecomes g v w t n (Some new) now
  head_becomes = record {
    stands = record {
      head = record {
        entries = node.head.entries;
        inode = ap (λ (u : View). u.inodes n) set ∙ update_here v.inodes n (with_head (v.inodes n) (head_with g now new)) ∙ whole_with (v.inodes n) (head_with g (links n) old) (head_with g now new) node.head.entries node.head.inode;
      };
      holds = head_holds;
    };
    changed = subst (λ (o : Option Node). NodeChanged g v w n (indices_at g o) (indices_of g new)) (sym there) new_changed;
  }

  pub head_dirtied : (c : View) → NodeDirtied g c v w n (indices_at g (t n)) (indices_of g new) [] []
  head_dirtied c = subst (λ (o : Option Node). NodeDirtied g c v w n (indices_at g o) (indices_of g new) [] []) (sym there)
      (subst (λ is. NodeDirtied g c v w n (indices_of g old) is [] []) (sym same.indices)
      (stays_dirty g v w n (indices_of g old) (head_stays g v w n (head_with g now new) (indices_of g old) node.holds.places once set) c))

  pub head_set : StandsWith g w (with_node t n (Some new)) (with_links links n now)
  head_set = one_node g v w t links n (Some new) now view (tree_number g v t links view s n (ap (λ (o : Option Node). is_some o) there)) s head_becomes

  pub head_tree : (c : View) → TreeDirtied g c v w t (with_node t n (Some new)) [] []
  head_tree c = one_node_dirtied g c v w t links n (Some new) now [] [] (tree_number g v t links view s n (ap (λ (o : Option Node). is_some o) there)) s head_becomes (head_dirtied c)

-- ---- inodes made

module _ (g : Request) (v w : View) (t : Tree) (links : ℕ → ℕ) (n : ℕ) (node : Node) (now : ℕ) (view : IsView g v) (s : StandsWith g v t links) (empty : indices_of g node ≡ []) (made : InodeMade g v w (head_with g now node) (Some n)) where
  none_there : t n ≡ None
  none_there = (s.numbers n).1 made.0.absent

  bare : NodeChanged g v w n (indices_of g node) (indices_of g node)
  bare = subst (λ is. NodeChanged g v w n is is) (sym empty) (made_changed g v w n (head_with g now node) made)

  made_holds : HoldsNode g w n node
  made_holds = record { places = bare.places; contents = λ i h. absurd (false≢true (ap (λ is. list_any (λ k. k == i) is) (sym empty) ∙ h)) }

  pub made_becomes : NodeBecomes g v w t n (Some node) now
  made_becomes = record {
    stands = record {
      head = record { entries = replicate (entries_of g) 0; inode = ap (λ (u : View). u.inodes n) made.1 ∙ update_here v.inodes n (Some (empty_inode g (head_with g now node))) };
      holds = made_holds;
    };
    changed = subst (λ (o : Option Node). NodeChanged g v w n (indices_at g o) (indices_of g node)) (sym none_there) (subst (λ is. NodeChanged g v w n [] is) (sym empty) (made_changed g v w n (head_with g now node) made));
  }

  pub made_dirtied : (c : View) → NodeDirtied g c v w n (indices_at g (t n)) (indices_of g node) [] []
  made_dirtied c = subst (λ (o : Option Node). NodeDirtied g c v w n (indices_at g o) (indices_of g node) [] []) (sym none_there)
      (subst (λ is. NodeDirtied g c v w n [] is [] []) (sym empty) (blockless_dirty g c v w n))

  pub inode_made : StandsWith g w (with_node t n (Some node)) (with_links links n now)
  inode_made = one_node g v w t links n (Some node) now view made.0.number s made_becomes

  pub made_tree : (c : View) → TreeDirtied g c v w t (with_node t n (Some node)) [] []
  made_tree c = one_node_dirtied g c v w t links n (Some node) now [] [] made.0.number s made_becomes (made_dirtied c)

-- ---- inodes dropped

pub same_links : (links : ℕ → ℕ) (n : ℕ) → with_links links n (links n) ≡ links
same_links links n = λ i x. each x i
  where
    each : (x : ℕ) → with_links links n (links n) x ≡ links x
    each x = elim (x == n) as (λ b. (x == n) ≡ b → cond b (links n) (links x) ≡ links x) [
      | true ↦ λ is. ap links (sym (eqb-true x n is))
      | false ↦ λ other. refl
    ] refl

module _ (g : Request) (v w : View) (t : Tree) (links : ℕ → ℕ) (n : ℕ) (node : Node) (view : IsView g v) (s : StandsWith g v t links) (there : t n ≡ Some node) (empty : indices_of g node ≡ []) (dropped : InodeDropped v w n) where
  number : is_number g n ≡ true
  number = tree_number g v t links view s n (ap (λ (o : Option Node). is_some o) there)

  nothing : indices_at g (t n) ≡ []
  nothing = ap (indices_at g) there ∙ empty

  were : HasPlaces g v n []
  were = subst (HasPlaces g v n) empty (s.nodes n node there).holds.places

  pub dropped_becomes : (now : ℕ) → NodeBecomes g v w t n None now
  dropped_becomes now = record {
    stands = ap (λ (u : View). u.inodes n) dropped ∙ update_here v.inodes n None;
    changed = subst (λ is. NodeChanged g v w n is []) (sym nothing) (dropped_changed g v w n were dropped);
  }

  pub dropped_dirtied : (c : View) → NodeDirtied g c v w n (indices_at g (t n)) [] [] []
  dropped_dirtied c = subst (λ is. NodeDirtied g c v w n is [] [] []) (sym nothing) (blockless_dirty g c v w n)

  pub inode_dropped : StandsWith g w (with_node t n None) links
  inode_dropped = subst (λ l. StandsWith g w (with_node t n None) l) (same_links links n) (one_node g v w t links n None (links n) view number s (dropped_becomes (links n)))

  pub dropped_tree : (c : View) → TreeDirtied g c v w t (with_node t n None) [] []
  dropped_tree c = one_node_dirtied g c v w t links n None (links n) [] [] number s (dropped_becomes (links n)) (dropped_dirtied c)
