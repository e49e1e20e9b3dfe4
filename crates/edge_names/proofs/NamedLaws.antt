-- A further name of a file: what the view stands for when its links were told anew and the name placed.
use Rattle.std.proofs.Common.{◌≡◌, ◌∙◌, ℕ, ◌+◌, ◌/◌, ◌≤◌, false, List, [], ◌∷◌, length, refl, sym, ap, subst, Option, Some, None}
use Rattle.edge_base.specs.declared.geometry.Request.{Request}
use Rattle.edge_base.specs.tree.Nodes.{Node, directory}
use Rattle.edge_base.specs.tree.Positions.{Position}
use Rattle.edge_base.specs.tree.Slots.{Entry, Slots, slots_in_block}
use Rattle.edge_store.specs.Effects.{HeadSet}
use Rattle.edge_store.specs.View.{View, IsView}
use Rattle.edge_model.specs.Named.{placed, slot_position, with_slot}
use Rattle.edge_model.specs.Rules.{IsTree}
use Rattle.edge_model.specs.Tree.{Tree, is_directory, links_of, with_node}
use Rattle.edge_image.specs.Opens.{StandsFor}
use Rattle.edge_dir.specs.Written.{SlotsChanged}
use Rattle.edge_steps.specs.Naming.{slot_of}
use Rattle.edge_steps.proofs.SetLaws.{placed_is, set_as_it_was}
use Rattle.edge_stands.specs.Dirtied.{TreeDirtied}
use Rattle.edge_stands.specs.Stands.{StandsWith, HasSameBlocks, head_with, with_links}
use Rattle.edge_stands.proofs.NodeLaws.{with_links_of, agreed_links}
use Rattle.edge_stands.proofs.HeadLaws.{head_set, head_tree}
use Rattle.edge_stands.proofs.DirtyLaws.{tree_twice}
use Rattle.edge_names.proofs.LinkLaws.{linked_links}
use Rattle.edge_names.proofs.SlotsLaws.{slots_stand, slots_dirtied}

module _ (g : Request) (c u v w : View) (t : Tree) (d slot n : ℕ) (e : Entry) (node : Node) (slots : Slots) (parent : ℕ) (view_u : IsView g u) (view_v : IsView g v) (tree : IsTree g t)
    (stands : StandsFor g u t) (there : t d ≡ Some (directory slots parent)) (inside : slot ≤ length slots) (empty : slot_of t d slot ≡ None) (number : e.number ≡ n)
    (node_there : t n ≡ Some node) (file_there : is_directory t n ≡ false) (set : HeadSet u v n (head_with g (links_of g t n + 1) node)) where
  abbrev links : ℕ → ℕ
  links = with_links (links_of g t) n (links_of g t n + 1)

  first : StandsWith g u t (links_of g t)
  first = (with_links_of g u t).0 stands

  same : HasSameBlocks g node node
  same = record { indices = refl; blocks = λ i. refl }

  as_it_was : with_node t n (Some node) ≡ t
  as_it_was = ap (λ (o : Option Node). with_node t n o) (sym node_there) ∙ set_as_it_was t n

  pub half_stands : StandsWith g v t links
  half_stands = subst (λ (x : Tree). StandsWith g v x links) as_it_was (head_set g u v t (links_of g t) n node node (links_of g t n + 1) view_u first node_there same set)

  module _ (changed : SlotsChanged g c v w d slots (with_slot slots slot e) parent (slot / slots_in_block g ∷ []) []) where
    pub named_stands : StandsFor g w (placed t d slot e)
    named_stands = agreed_links g w (placed t d slot e) links
        (subst (λ (x : Tree). StandsWith g w x links) (sym (placed_is t d slot e slots parent there))
        (slots_stand g c v w t links d slots (with_slot slots slot e) parent (slot / slots_in_block g ∷ []) [] view_v half_stands there changed))
        (λ x is. linked_links g t d slot e slots parent tree there inside empty n number file_there x)

    pub named_dirties : TreeDirtied g c u w t (placed t d slot e) (slot_position g d slot ∷ []) []
    named_dirties = tree_twice g c u v w t t (placed t d slot e) [] [] (slot_position g d slot ∷ []) []
        (subst (λ (x : Tree). TreeDirtied g c u v t x [] []) as_it_was (head_tree g u v t (links_of g t) n node node (links_of g t n + 1) view_u first node_there same set c))
        (subst (λ (x : Tree). TreeDirtied g c v w t x (slot_position g d slot ∷ []) []) (sym (placed_is t d slot e slots parent there))
        (slots_dirtied g c v w t links d slots (with_slot slots slot e) parent (slot / slots_in_block g ∷ []) [] view_v half_stands there changed))
