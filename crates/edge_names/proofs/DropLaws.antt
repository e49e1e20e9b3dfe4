-- A node dropped: cut off from its first data block on, and then without its inode.
use Rattle.std.proofs.Common.{◌≡◌, ◌∙◌, ℕ, ◌<◌, ◌≤◌, Bool, true, false, cond, List, [], ◌∷◌, ◌++◌, filter, map, is_some, refl, sym, ap, subst, arith, Option, Some, None}
use Rattle.std.specs.Prelude.{nat_le, nat_lt}
use Rattle.std.proofs.lemmas.Bool.Decides.{nat_tests}
use Rattle.std.proofs.lemmas.Map.{update_here}
use Rattle.edge_base.specs.declared.geometry.Request.{Request}
use Rattle.edge_base.specs.layout.Places.{IsGeometry}
use Rattle.edge_base.specs.tree.Nodes.{Node, indices_of}
use Rattle.edge_base.specs.tree.Positions.{Position, data_at}
use Rattle.edge_store.specs.Changed.{NodeChanged, NodeDirtied}
use Rattle.edge_store.specs.Effects.{InodeDropped}
use Rattle.edge_store.specs.View.{View, IsView, is_number}
use Rattle.edge_store.proofs.ChangedLaws.{changed_twice, dirtied_twice}
use Rattle.edge_store.proofs.NodeEffects.{dropped_changed, blockless_dirty}
use Rattle.edge_file.proofs.RangeLaws.{append_none}
use Rattle.edge_shape.specs.Cut.{IsCut}
use Rattle.edge_shape.specs.Shape.{HasShape, before}
use Rattle.edge_shape.proofs.ChangeLaws.{cut_changed, cut_dirtied}
use Rattle.edge_model.specs.Tree.{Tree, with_node}
use Rattle.edge_stands.specs.Dirtied.{TreeDirtied}
use Rattle.edge_stands.specs.Stands.{StandsWith, NodeBecomes, indices_at}
use Rattle.edge_stands.proofs.BecomeLaws.{tree_number, one_node, one_node_dirtied}
use Rattle.edge_stands.proofs.HeadLaws.{same_links}
use Rattle.edge_stands.proofs.StandingLaws.{each_shape}

not_below : (x : ℕ) → nat_lt x 0 ≡ false
not_below x = grind (arith, nat_tests)

from_zero : (x : ℕ) → nat_le 0 x ≡ true
from_zero x = grind (arith, nat_tests)

none_before : (indices : List ℕ) → before 0 indices ≡ []
none_before [] = refl
none_before (x ∷ xs) = ap (λ b. cond b (x ∷ before 0 xs) (before 0 xs)) (not_below x) ∙ none_before xs

all_gone : (indices : List ℕ) → filter (λ x. nat_le 0 x) indices ≡ indices
all_gone [] = refl
all_gone (x ∷ xs) = ap (λ b. cond b (x ∷ filter (λ y. nat_le 0 y) xs) (filter (λ y. nat_le 0 y) xs)) (from_zero x) ∙ ap (λ (rest : List ℕ). x ∷ rest) (all_gone xs)

module _ (g : Request) (c u v w : View) (t : Tree) (links : ℕ → ℕ) (n : ℕ) (node : Node) (geometry : IsGeometry g) (view : IsView g u) (s : StandsWith g u t links) (there : t n ≡ Some node)
    (cut : IsCut g c u v n 0 (indices_of g node)) (dropped : InodeDropped v w n) where
  pub shape : HasShape g u n (indices_of g node)
  shape = each_shape g u t links view s n node there geometry

  number : is_number g n ≡ true
  number = tree_number g u t links view s n (ap (λ (o : Option Node). is_some o) there)

  cut_all : NodeChanged g u v n (indices_of g node) []
  cut_all = subst (NodeChanged g u v n (indices_of g node)) (none_before (indices_of g node)) (cut_changed g c u v n 0 (indices_of g node) shape cut)

  cut_dirty : NodeDirtied g c u v n (indices_of g node) [] [] (indices_of g node)
  cut_dirty = subst (λ (is : List ℕ). NodeDirtied g c u v n (indices_of g node) [] [] is) (all_gone (indices_of g node))
      (subst (λ (is : List ℕ). NodeDirtied g c u v n (indices_of g node) is [] (filter (λ x. nat_le 0 x) (indices_of g node))) (none_before (indices_of g node))
      (cut_dirtied g c u v n 0 (indices_of g node) shape cut))

  becomes : NodeBecomes g u w t n None (links n)
  becomes = record {
    stands = ap (λ (x : View). x.inodes n) dropped ∙ update_here v.inodes n None;
    changed = subst (λ (o : Option Node). NodeChanged g u w n (indices_at g o) []) (sym there)
        (changed_twice g u v w n (indices_of g node) [] [] cut_all (dropped_changed g v w n cut_all.places dropped));
  }

  pub dropped_stands : StandsWith g w (with_node t n None) links
  dropped_stands = subst (λ (l : ℕ → ℕ). StandsWith g w (with_node t n None) l) (same_links links n) (one_node g u w t links n None (links n) view number s becomes)

  pub dropped_dirties : TreeDirtied g c u w t (with_node t n None) [] (map (data_at n) (indices_of g node))
  dropped_dirties = subst (λ (ps : List Position). TreeDirtied g c u w t (with_node t n None) [] ps) (ap (map (data_at n)) (append_none (indices_of g node)))
      (one_node_dirtied g c u w t links n None (links n) [] (indices_of g node ++ []) number s becomes
      (subst (λ (o : Option Node). NodeDirtied g c u w n (indices_at g o) [] [] (indices_of g node ++ [])) (sym there)
      (dirtied_twice g c u v w n (indices_of g node) [] [] [] (indices_of g node) [] [] cut_dirty (blockless_dirty g c v w n))))
