-- A name moved: the steps of its move together.
use Rattle.std.proofs.Common.{◌≡◌, ◌∙◌, ℕ, ◌-◌, ◌==◌, Bool, true, false, cond, List, [], ◌∷◌, ◌++◌, map, unwrap_or, refl, sym, ap, subst, Option, Some, None}
use Rattle.edge_base.specs.declared.geometry.Request.{Request}
use Rattle.edge_base.specs.tree.Nodes.{Node, file, indices_of}
use Rattle.edge_base.specs.tree.Positions.{Position, data_at}
use Rattle.edge_store.specs.View.{View}
use Rattle.edge_model.specs.Named.{clear_writes, clear_removes, slot_position}
use Rattle.edge_model.specs.Names.{has_one_link, with_parent}
use Rattle.edge_model.specs.State.{State, Edit}
use Rattle.edge_model.specs.Tree.{Tree, data_positions, links_of, slots_at, with_node}
use Rattle.edge_changes.specs.Edited.{IsEdited}
use Rattle.edge_file.proofs.RangeLaws.{append_none}
use Rattle.edge_stands.specs.Dirtied.{TreeDirtied}
use Rattle.edge_stands.specs.Stands.{with_links}
use Rattle.edge_stands.proofs.NodeLaws.{agreed_links}
use Rattle.edge_names.specs.Moved.{MayMove, IsPlaced, moved}
use Rattle.edge_names.specs.Stepped.{IsStepped}
use Rattle.edge_names.specs.declared.moves.Move.{Move}
use Rattle.edge_names.specs.declared.moves.NamedNode.{NamedNode}
use Rattle.edge_names.proofs.MoveTreeLaws.{held_of, left_of, edit_of, old_entry, then_links, was_there}
use Rattle.edge_names.proofs.ParentLaws.{parent_apart}
use Rattle.edge_names.proofs.StepLaws.{step_on}

module _ (g : Request) (c u v w x : View) (z : State) (m : Move) (name : List ℕ) (may : MayMove g z m name)
    (put : IsStepped g c u v z.tree (held_of z.tree m name) (links_of g z.tree) (slot_position g m.to.dir m.to.slot ∷ []) [])
    (clear : IsStepped g c v w (held_of z.tree m name) (left_of z.tree m name) (links_of g z.tree)
    (clear_writes g m.from.dir (slots_at (held_of z.tree m name) m.from.dir) m.from.slot) (clear_removes g m.from.dir (slots_at (held_of z.tree m name) m.from.dir) m.from.slot))
    (parent : IsStepped g c w x (left_of z.tree m name) (with_parent (left_of z.tree m name) m.node.number m.to.dir) (links_of g z.tree) [] []) where
  abbrev t : Tree
  t = z.tree

  abbrev left : Tree
  left = left_of z.tree m name

  -- the tree with the new name alone, and with the new parent
  abbrev named : Tree
  named = with_parent left m.node.number m.to.dir

  abbrev writes : List Position
  writes = slot_position g m.to.dir m.to.slot ∷ clear_writes g m.from.dir (slots_at (held_of z.tree m name) m.from.dir) m.from.slot

  abbrev removes : List Position
  removes = clear_removes g m.from.dir (slots_at (held_of z.tree m name) m.from.dir) m.from.slot

  three : IsStepped g c u x t named (links_of g t) writes removes
  three = subst (λ (rs : List Position). IsStepped g c u x t named (links_of g t) writes rs) (append_none removes)
      (subst (λ (ws : List Position). IsStepped g c u x t named (links_of g t) ws (removes ++ [])) (append_none writes)
      (step_on g c u w x t left named (links_of g t) (links_of g t) writes removes [] []
      (step_on g c u v w t (held_of z.tree m name) left (links_of g t) (links_of g t) (slot_position g m.to.dir m.to.slot ∷ []) []
      (clear_writes g m.from.dir (slots_at (held_of z.tree m name) m.from.dir) m.from.slot) removes put clear) parent))

  placed : (o : Option NamedNode) → m.replaced ≡ o → IsPlaced g t m name o
  placed o is = subst (IsPlaced g t m name) is may.placed

  -- nothing was replaced
  pub moved_alone : m.replaced ≡ None → IsEdited g c u x t (moved g t m name)
  moved_alone is = subst (λ (o : Option NamedNode). IsEdited g c u x t (edit_of g t m name o)) (sym is) (record {
    stands = agreed_links g x named (links_of g t) three.stands (then_links g z m name may None (placed None is) (was_there g z m name may ∙ ap (old_entry name) is));
    dirtied = subst (λ (rs : List Position). TreeDirtied g c u x t named writes rs) (sym (append_none removes)) three.dirtied;
  })

  -- A node was replaced, which had one link or more.
  module _ (y : View) (node : NamedNode) (own : Node) (is : m.replaced ≡ Some node) (there : t node.number ≡ Some own)
      (taken : IsStepped g c x y named (cond (links_of g t node.number == 1) (with_node named node.number None) named) (with_links (links_of g t) node.number (links_of g t node.number - 1))
      [] (cond (links_of g t node.number == 1) (map (data_at node.number) (indices_of g own)) [])) where
    abbrev n : ℕ
    n = node.number

    abbrev then : Edit
    then = edit_of g t m name (Some node)

    same_tree : (last : Bool) → cond last (with_node named n None) named ≡ with_parent (cond last (with_node left n None) left) m.node.number m.to.dir
    same_tree true = parent_apart left m.node.number m.to.dir n (λ same. (placed (Some node) is).other (sym same))
    same_tree false = refl

    same_removes : (last : Bool) → cond last (map (data_at n) (indices_of g own)) [] ≡ cond last (data_positions g t n) []
    same_removes last = ap (λ (o : Option Node). cond last (map (data_at n) (indices_of g (unwrap_or o (file [] [])))) []) (sym there)

    four : IsStepped g c u y t then.tree (with_links (links_of g t) n (links_of g t n - 1)) then.writes then.removes
    four = subst (λ (ws : List Position). IsStepped g c u y t then.tree (with_links (links_of g t) n (links_of g t n - 1)) ws then.removes) (append_none writes)
        (step_on g c u x y t named then.tree (links_of g t) (with_links (links_of g t) n (links_of g t n - 1)) writes removes [] (cond (has_one_link g t n) (data_positions g t n) []) three
        (subst (λ (u : Tree). IsStepped g c x y named u (with_links (links_of g t) n (links_of g t n - 1)) [] (cond (has_one_link g t n) (data_positions g t n) [])) (same_tree (has_one_link g t n))
        (subst (λ (rs : List Position). IsStepped g c x y named (cond (has_one_link g t n) (with_node named n None) named) (with_links (links_of g t) n (links_of g t n - 1)) [] rs)
        (same_removes (has_one_link g t n)) taken)))

    pub moved_over : IsEdited g c u y t (moved g t m name)
    moved_over = subst (λ (o : Option NamedNode). IsEdited g c u y t (edit_of g t m name o)) (sym is) (record {
      stands = agreed_links g y then.tree (with_links (links_of g t) n (links_of g t n - 1)) four.stands
          (then_links g z m name may (Some node) (placed (Some node) is) (was_there g z m name may ∙ ap (old_entry name) is));
      dirtied = four.dirtied;
    })
