-- A new node in a store that stands for a state: when its inode is made, and when its name is placed.
use Rattle.std.proofs.Common.{◌≡◌, ◌≢◌, ◌∙◌, ℕ, ◌+◌, ◌/◌, ◌<◌, ◌≤◌, true, false, is_some, List, [], ◌∷◌, length, refl, sym, ap, subst, Option, Some, None}
use Rattle.edge_base.specs.declared.geometry.Request.{Request}
use Rattle.edge_base.specs.declared.node.NodeType.{NodeType}
use Rattle.edge_base.specs.outside.Below.{Origin}
use Rattle.edge_base.specs.tree.NodeRules.{IsNode, IsDirectory}
use Rattle.edge_base.specs.tree.Nodes.{Node, directory}
use Rattle.edge_base.specs.tree.Slots.{Entry, Slots, slots_in_block}
use Rattle.edge_store.specs.Effects.{InodeMade}
use Rattle.edge_store.specs.Placed.{HasNode}
use Rattle.edge_store.specs.State.{StoreState, Told}
use Rattle.edge_store.specs.View.{View, IsView}
use Rattle.edge_model.specs.Named.{NewName, placed, with_slot}
use Rattle.edge_model.specs.Rules.{IsTree}
use Rattle.edge_model.specs.State.{State, Edit}
use Rattle.edge_model.specs.Tree.{Tree, links_of, with_node}
use Rattle.edge_model.proofs.Changes.{made}
use Rattle.edge_image.specs.Opens.{StandsFor}
use Rattle.edge_dir.specs.Written.{IsSetTo, PlacesEntry, SlotsChanged}
use Rattle.edge_steps.proofs.NodeLaws.{node_set}
use Rattle.edge_steps.proofs.SetLaws.{placed_is}
use Rattle.edge_steps.proofs.SlotLaws.{placed_here, placed_elsewhere}
use Rattle.edge_stands.specs.Dirtied.{TreeDirtied}
use Rattle.edge_stands.specs.Stands.{StandsWith, head_with, with_links}
use Rattle.edge_stands.proofs.SessionLaws.{least_free}
use Rattle.edge_stands.proofs.StandingLaws.{each_node}
use Rattle.edge_names.specs.Made.{IsPlanned, new_node}
use Rattle.edge_names.proofs.MadeLaws.{d_is_other, half_stands, half_there, made_stands, made_dirties}
use Rattle.edge_names.proofs.PlannedLaws.{IsFirst, first_slot, IsMadeAt, planned_at, bare_node, slotless_node}

same_number : (n m : ℕ) → Some n ≡ Some m → n ≡ m
same_number n m e = cc

-- an empty slot filled
pub filled_slot : (slots : Slots) (slot : ℕ) (e : Entry) → slot ≤ length slots → IsSetTo slots (with_slot slots slot e) slot (Some e)
filled_slot slots slot e inside = (placed_here slots slot e inside, λ j other. placed_elsewhere slots slot e j inside other)

module _ (g : Request) (c u v w : View) (z : State) (kind : NodeType) (d slot n : ℕ) (name : List ℕ) (plan : NewName) (some : 0 < slots_in_block g) (view_u : IsView g u) (view_v : IsView g v)
    (stands : StandsFor g u z.tree) (planned : IsPlanned g z kind d slot name plan) (is_made : InodeMade g u v (head_with g 1 (new_node kind d)) (Some n)) where
  abbrev e : Entry
  e = record { name = name; number = n }

  at : IsMadeAt g z.tree (new_node kind d) d slot name plan
  at = planned_at g z kind d slot name plan planned

  pub first : IsFirst g z.tree d slot
  first = first_slot g z.tree d slot planned.directory at.room

  pub number : n ≡ plan.number
  number = same_number n plan.number (sym (least_free g u z.tree n stands is_made.0) ∙ at.free)

  edit : plan.edit ≡ made g z.tree d name n slot (new_node kind d)
  edit = at.edit ∙ ap (λ (m : ℕ). made g z.tree d name m slot (new_node kind d)) (sym number)

  pub apart : d ≢ n
  apart = d_is_other g c u v v z.tree d slot n e (new_node kind d) first.slots first.parent view_u view_v planned.tree stands first.there first.inside first.empty refl (bare_node g kind d some) (slotless_node kind d) is_made

  -- the directory when the inode is made
  pub directory_then : HasNode g v d (directory first.slots first.parent)
  directory_then = each_node g v (with_node z.tree n (Some (new_node kind d))) (with_links (links_of g z.tree) n 1) view_v
      (half_stands g c u v v z.tree d slot n e (new_node kind d) first.slots first.parent view_u view_v planned.tree stands first.there first.inside first.empty refl (bare_node g kind d some) (slotless_node kind d) is_made)
      d (directory first.slots first.parent)
      (half_there g c u v v z.tree d slot n e (new_node kind d) first.slots first.parent view_u view_v planned.tree stands first.there first.inside first.empty refl (bare_node g kind d some) (slotless_node kind d) is_made)
      (planned.tree.nodes d (directory first.slots first.parent) first.there)

  -- and the rules of its slots when the name is placed
  pub rules_then : IsDirectory g (with_slot first.slots slot e)
  rules_then = planned.tree_then.nodes d (directory (with_slot first.slots slot e) first.parent)
      (ap (λ (x : Edit). x.tree d) edit ∙ (node_set (placed z.tree d slot e) n (Some (new_node kind d))).others d apart
      ∙ ap (λ (t : Tree). t d) (placed_is z.tree d slot e first.slots first.parent first.there) ∙ (node_set z.tree d (Some (directory (with_slot first.slots slot e) first.parent))).here)

  module _ (changed : SlotsChanged g c v w d first.slots (with_slot first.slots slot e) first.parent (slot / slots_in_block g ∷ []) []) where
    pub stands_then : StandsFor g w plan.edit.tree
    stands_then = subst (λ (x : Edit). StandsFor g w x.tree) (sym edit)
        (made_stands g c u v w z.tree d slot n e (new_node kind d) first.slots first.parent view_u view_v planned.tree stands first.there first.inside first.empty refl (bare_node g kind d some) (slotless_node kind d) is_made changed)

    pub dirtied_then : TreeDirtied g c u w z.tree plan.edit.tree plan.edit.writes plan.edit.removes
    dirtied_then = subst (λ (x : Edit). TreeDirtied g c u w z.tree x.tree x.writes x.removes) (sym edit)
        (made_dirties g c u v w z.tree d slot n e (new_node kind d) first.slots first.parent view_u view_v planned.tree stands first.there first.inside first.empty refl (bare_node g kind d some) (slotless_node kind d) is_made changed)

-- a name placed between two stores, over the geometry and the last point of one before
pub placed_changed : (old mid new : StoreState) (d slot : ℕ) (e : Entry) (slots : Slots) (parent : ℕ) → mid.origin ≡ old.origin → mid.committed ≡ old.committed → Told mid
    → PlacesEntry mid new d slot e → HasNode old.origin.request mid.working d (directory slots parent) → IsDirectory old.origin.request (with_slot slots slot e) → slot ≤ length slots
    → SlotsChanged old.origin.request old.committed mid.working new.working d slots (with_slot slots slot e) parent (slot / slots_in_block old.origin.request ∷ []) []
placed_changed old mid new d slot e slots parent origin committed told places node rules inside =
    subst (λ (v : View). SlotsChanged old.origin.request v mid.working new.working d slots (with_slot slots slot e) parent (slot / slots_in_block old.origin.request ∷ []) []) committed
    (subst (λ (o : Origin). SlotsChanged o.request mid.committed mid.working new.working d slots (with_slot slots slot e) parent (slot / slots_in_block o.request ∷ []) []) origin
    (places told slots (with_slot slots slot e) parent (subst (λ (o : Origin). HasNode o.request mid.working d (directory slots parent)) (sym origin) node)
    (subst (λ (o : Origin). IsDirectory o.request (with_slot slots slot e)) (sym origin) rules) inside (filled_slot slots slot e inside)))
