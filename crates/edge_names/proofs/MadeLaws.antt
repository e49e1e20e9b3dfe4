-- A new node with its name: what the view stands for when its inode was made and its name placed.
use Rattle.std.proofs.Common.{◌≡◌, ◌∙◌, ℕ, ◌/◌, ◌≤◌, List, [], ◌∷◌, length, sym, ap, subst, Option, Some, None}
use Rattle.edge_base.specs.declared.geometry.Request.{Request}
use Rattle.edge_base.specs.tree.Nodes.{Node, directory, indices_of}
use Rattle.edge_base.specs.tree.Positions.{Position, data_at}
use Rattle.edge_base.specs.tree.Slots.{Entry, Slots, slots_in_block}
use Rattle.edge_store.specs.Effects.{InodeMade}
use Rattle.edge_store.specs.View.{View, IsView}
use Rattle.edge_model.specs.Named.{placed, slot_position, with_slot}
use Rattle.edge_model.specs.Rules.{IsTree}
use Rattle.edge_model.specs.Tree.{Tree, links_of, slots_of_node, with_node}
use Rattle.edge_image.specs.Opens.{StandsFor}
use Rattle.edge_dir.specs.Written.{SlotsChanged}
use Rattle.edge_steps.specs.Naming.{slot_of}
use Rattle.edge_steps.proofs.NodeLaws.{node_set}
use Rattle.edge_steps.proofs.SetLaws.{placed_is, set_apart}
use Rattle.edge_stands.specs.Dirtied.{TreeDirtied}
use Rattle.edge_stands.specs.Stands.{StandsWith, head_with, with_links}
use Rattle.edge_stands.proofs.NodeLaws.{with_links_of, agreed_links}
use Rattle.edge_stands.proofs.HeadLaws.{inode_made, made_tree}
use Rattle.edge_stands.proofs.DirtyLaws.{tree_twice}
use Rattle.edge_names.proofs.LinkLaws.{made_links}
use Rattle.edge_names.proofs.SlotsLaws.{slots_stand, slots_dirtied}

module _ (g : Request) (c u v w : View) (t : Tree) (d slot n : ℕ) (e : Entry) (node : Node) (slots : Slots) (parent : ℕ) (view_u : IsView g u) (view_v : IsView g v) (tree : IsTree g t)
    (stands : StandsFor g u t) (there : t d ≡ Some (directory slots parent)) (inside : slot ≤ length slots) (empty : slot_of t d slot ≡ None) (number : e.number ≡ n)
    (bare : indices_of g node ≡ []) (slotless : slots_of_node node ≡ []) (made : InodeMade g u v (head_with g 1 node) (Some n)) where
  -- the tree with the inode, which nothing names yet
  abbrev half : Tree
  half = with_node t n (Some node)

  abbrev then : Tree
  then = with_node (placed t d slot e) n (Some node)

  first : StandsWith g u t (links_of g t)
  first = (with_links_of g u t).0 stands

  pub absent : t n ≡ None
  absent = (first.numbers n).1 made.0.absent

  pub d_is_other : d ≡ n → ⊥
  d_is_other same = absurd (let h : None ≡ Some (directory slots parent) = sym absent ∙ ap t (sym same) ∙ there in cc)

  pub half_stands : StandsWith g v half (with_links (links_of g t) n 1)
  half_stands = inode_made g u v t (links_of g t) n node 1 view_u first bare made

  pub half_there : half d ≡ Some (directory slots parent)
  half_there = (node_set t n (Some node)).others d d_is_other ∙ there

  both : with_node half d (Some (directory (with_slot slots slot e) parent)) ≡ then
  both = set_apart t n d (Some node) (Some (directory (with_slot slots slot e) parent)) (λ same. d_is_other (sym same))
      ∙ ap (λ (x : Tree). with_node x n (Some node)) (sym (placed_is t d slot e slots parent there))

  module _ (changed : SlotsChanged g c v w d slots (with_slot slots slot e) parent (slot / slots_in_block g ∷ []) []) where
    pub made_stands : StandsFor g w then
    made_stands = agreed_links g w then (with_links (links_of g t) n 1)
        (subst (λ (x : Tree). StandsWith g w x (with_links (links_of g t) n 1)) both
        (slots_stand g c v w half (with_links (links_of g t) n 1) d slots (with_slot slots slot e) parent (slot / slots_in_block g ∷ []) [] view_v half_stands half_there changed))
        (λ x is. made_links g t d slot e slots parent tree there inside empty n node number absent slotless x)

    pub made_dirties : TreeDirtied g c u w t then (slot_position g d slot ∷ []) []
    made_dirties = tree_twice g c u v w t half then [] [] (slot_position g d slot ∷ []) []
        (made_tree g u v t (links_of g t) n node 1 view_u first bare made c)
        (subst (λ (x : Tree). TreeDirtied g c v w half x (slot_position g d slot ∷ []) []) both
        (slots_dirtied g c v w half (with_links (links_of g t) n 1) d slots (with_slot slots slot e) parent (slot / slots_in_block g ∷ []) [] view_v half_stands half_there changed))
