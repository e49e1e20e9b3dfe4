-- A further name in a store that stands for a state: when the links are told anew, and when the name is placed.
use Rattle.std.proofs.Common.{◌≡◌, ◌≢◌, ◌∙◌, ℕ, ◌+◌, ◌/◌, ◌≤◌, Bool, true, false, List, [], ◌∷◌, length, refl, sym, ap, subst, Option, Some, None}
use Rattle.edge_base.specs.declared.geometry.Request.{Request}
use Rattle.edge_base.specs.declared.node.Head.{Head}
use Rattle.edge_base.specs.tree.NodeRules.{IsDirectory}
use Rattle.edge_base.specs.tree.Nodes.{file, directory}
use Rattle.edge_base.specs.tree.Slots.{Entry, Slots, slots_in_block}
use Rattle.edge_store.specs.Effects.{HeadSet}
use Rattle.edge_store.specs.Placed.{HasNode}
use Rattle.edge_store.specs.View.{View, IsView, head_of_inode}
use Rattle.edge_model.specs.Named.{with_slot}
use Rattle.edge_model.specs.State.{State}
use Rattle.edge_model.specs.Tree.{Tree, is_directory, links_of}
use Rattle.edge_image.specs.Opens.{StandsFor, head_of_node}
use Rattle.edge_dir.specs.Written.{SlotsChanged}
use Rattle.edge_steps.proofs.NodeLaws.{file_is, node_set}
use Rattle.edge_steps.proofs.SetLaws.{placed_is}
use Rattle.edge_stands.specs.Dirtied.{TreeDirtied}
use Rattle.edge_stands.specs.Stands.{head_with, with_links}
use Rattle.edge_stands.proofs.StandingLaws.{each_node}
use Rattle.edge_names.specs.Linked.{MayLink, linked}
use Rattle.edge_names.proofs.NamedLaws.{half_stands, named_stands, named_dirties}
use Rattle.edge_names.proofs.PlannedLaws.{IsFirst, first_slot}

same_head : (x y : Head) → Some x ≡ Some y → x ≡ y
same_head x y e = cc

module _ (g : Request) (c u v w : View) (z : State) (n d slot : ℕ) (name : List ℕ) (head : Head) (view_u : IsView g u) (view_v : IsView g v) (stands : StandsFor g u z.tree)
    (may : MayLink g z n d slot name) (is_head : head_of_inode (u.inodes n) ≡ Some head) (set : HeadSet u v n (record head { links = head.links + 1 })) where
  abbrev e : Entry
  e = record { name = name; number = n }

  own : (content : List ℕ) × (present : List Bool) × (z.tree n ≡ Some (file content present))
  own = file_is z.tree n may.file.0 may.file.1

  pub first : IsFirst g z.tree d slot
  first = first_slot g z.tree d slot may.directory may.room

  was : head ≡ head_with g (links_of g z.tree n) (file own.0 own.1)
  was = same_head head (head_of_node g z.tree n (file own.0 own.1)) (sym is_head ∙ ap head_of_inode (stands.heads n (file own.0 own.1) own.2).inode)

  set_more : HeadSet u v n (head_with g (links_of g z.tree n + 1) (file own.0 own.1))
  set_more = subst (λ (h : Head). HeadSet u v n (record h { links = h.links + 1 })) was set

  pub apart : d ≢ n
  apart same = absurd (let kind : true ≡ false = sym may.directory ∙ ap (λ x. is_directory z.tree x) same ∙ may.file.1 in cc)

  -- the directory when the links are told anew
  pub directory_then : HasNode g v d (directory first.slots first.parent)
  directory_then = each_node g v z.tree (with_links (links_of g z.tree) n (links_of g z.tree n + 1)) view_v
      (half_stands g c u v v z.tree d slot n e (file own.0 own.1) first.slots first.parent view_u view_v may.tree stands first.there first.inside first.empty refl own.2 may.file.1 set_more)
      d (directory first.slots first.parent) first.there (may.tree.nodes d (directory first.slots first.parent) first.there)

  -- and the rules of its slots when the name is placed
  pub rules_then : IsDirectory g (with_slot first.slots slot e)
  rules_then = may.tree_then.nodes d (directory (with_slot first.slots slot e) first.parent)
      (ap (λ (t : Tree). t d) (placed_is z.tree d slot e first.slots first.parent first.there) ∙ (node_set z.tree d (Some (directory (with_slot first.slots slot e) first.parent))).here)

  module _ (changed : SlotsChanged g c v w d first.slots (with_slot first.slots slot e) first.parent (slot / slots_in_block g ∷ []) []) where
    pub stands_then : StandsFor g w (linked g z.tree n d slot name).tree
    stands_then = named_stands g c u v w z.tree d slot n e (file own.0 own.1) first.slots first.parent view_u view_v may.tree stands first.there first.inside first.empty refl own.2 may.file.1 set_more changed

    pub dirtied_then : TreeDirtied g c u w z.tree (linked g z.tree n d slot name).tree (linked g z.tree n d slot name).writes (linked g z.tree n d slot name).removes
    dirtied_then = named_dirties g c u v w z.tree d slot n e (file own.0 own.1) first.slots first.parent view_u view_v may.tree stands first.there first.inside first.empty refl own.2 may.file.1 set_more changed
