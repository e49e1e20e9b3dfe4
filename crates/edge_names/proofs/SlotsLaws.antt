-- A directory with other slots, in a view that stands for a tree.
use Rattle.std.proofs.Common.{◌≡◌, ◌∙◌, ℕ, true, is_some, List, map, sym, ap, subst, Option, Some}
use Rattle.edge_base.specs.declared.geometry.Request.{Request}
use Rattle.edge_base.specs.declared.node.Head.{Head}
use Rattle.edge_base.specs.tree.Nodes.{Node, directory, indices_of}
use Rattle.edge_base.specs.tree.Positions.{data_at}
use Rattle.edge_base.specs.tree.Slots.{Slots}
use Rattle.edge_store.specs.Changed.{NodeChanged, NodeDirtied}
use Rattle.edge_store.specs.View.{View, IsView, head_of_inode, is_number, whole}
use Rattle.edge_model.specs.Tree.{Tree, with_node}
use Rattle.edge_dir.specs.Written.{SlotsChanged}
use Rattle.edge_stands.specs.Dirtied.{TreeDirtied}
use Rattle.edge_stands.specs.Stands.{NodeStands, StandsWith, NodeBecomes, head_with, indices_at}
use Rattle.edge_stands.proofs.BecomeLaws.{tree_number, one_node, one_node_dirtied}
use Rattle.edge_stands.proofs.HeadLaws.{same_links}

same_head : (x y : Head) → Some x ≡ Some y → x ≡ y
same_head x y e = cc

module _ (g : Request) (c v w : View) (t : Tree) (links : ℕ → ℕ) (d : ℕ) (slots after : Slots) (parent : ℕ) (writes removes : List ℕ) (view : IsView g v) (s : StandsWith g v t links)
    (there : t d ≡ Some (directory slots parent)) (changed : SlotsChanged g c v w d slots after parent writes removes) where
  node : NodeStands g v d (directory slots parent) (links d)
  node = s.nodes d (directory slots parent) there

  number : is_number g d ≡ true
  number = tree_number g v t links view s d (ap (λ (o : Option Node). is_some o) there)

  -- its head has another size, and the links that it had
  new_head : changed.node.head ≡ head_with g (links d) (directory after parent)
  new_head = same_head _ _ (sym (ap head_of_inode changed.node.inode) ∙ changed.head (head_with g (links d) (directory slots parent)) (ap head_of_inode node.head.inode))

  becomes : NodeBecomes g v w t d (Some (directory after parent)) (links d)
  becomes = record {
    stands = record {
      head = record { entries = changed.node.entries; inode = changed.node.inode ∙ ap (λ (h : Head). Some (whole h changed.node.entries)) new_head };
      holds = changed.node.holds;
    };
    changed = subst (λ (o : Option Node). NodeChanged g v w d (indices_at g o) (indices_of g (directory after parent))) (sym there) changed.changed;
  }

  pub slots_stand : StandsWith g w (with_node t d (Some (directory after parent))) links
  slots_stand = subst (λ (l : ℕ → ℕ). StandsWith g w (with_node t d (Some (directory after parent))) l) (same_links links d)
      (one_node g v w t links d (Some (directory after parent)) (links d) view number s becomes)

  pub slots_dirtied : TreeDirtied g c v w t (with_node t d (Some (directory after parent))) (map (data_at d) writes) (map (data_at d) removes)
  slots_dirtied = one_node_dirtied g c v w t links d (Some (directory after parent)) (links d) writes removes number s becomes
      (subst (λ (o : Option Node). NodeDirtied g c v w d (indices_at g o) (indices_of g (directory after parent)) writes removes) (sym there) changed.dirtied)
