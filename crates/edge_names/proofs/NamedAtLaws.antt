-- A directory of a store that stands for a state, of which a slot is to be cleared.
use Rattle.std.proofs.Common.{◌≡◌, ◌≢◌, ◌∙◌, ℕ, ◌-◌, ◌<◌, Bool, true, false, is_some, length, refl, sym, ap, subst, Option, Some, None}
use Rattle.edge_base.specs.declared.geometry.Request.{Request}
use Rattle.edge_base.specs.declared.node.Head.{Head}
use Rattle.edge_base.specs.tree.NodeRules.{IsDirectory}
use Rattle.edge_base.specs.tree.Nodes.{Node, directory}
use Rattle.edge_base.specs.tree.Slots.{Slots}
use Rattle.edge_store.specs.Effects.{HeadSet}
use Rattle.edge_store.specs.Placed.{HasNode}
use Rattle.edge_store.specs.View.{View, IsView, head_of_inode}
use Rattle.edge_model.specs.Named.{cleared, without_slot}
use Rattle.edge_model.specs.State.{State}
use Rattle.edge_model.specs.Tree.{Tree, links_of, slots_at, with_node}
use Rattle.edge_image.specs.Opens.{StandsFor, head_of_node}
use Rattle.edge_dir.specs.Written.{IsSetTo}
use Rattle.edge_steps.proofs.NodeLaws.{directory_is, node_set, slots_are}
use Rattle.edge_steps.proofs.SetLaws.{cleared_is}
use Rattle.edge_steps.proofs.SlotLaws.{cleared_here, cleared_elsewhere, slot_inside}
use Rattle.edge_stands.specs.Stands.{head_with}
use Rattle.edge_stands.proofs.NodeLaws.{with_links_of}
use Rattle.edge_stands.proofs.StandingLaws.{each_node}
use Rattle.edge_names.specs.Unnamed.{MayUnname}

same_head : (x y : Head) → Some x ≡ Some y → x ≡ y
same_head x y e = cc

module _ (g : Request) (u : View) (z : State) (n d slot : ℕ) (last : Bool) (view : IsView g u) (stands : StandsFor g u z.tree) (may : MayUnname g z n d slot last) where
  abbrev is : (slots : Slots) × (parent : ℕ) × (z.tree d ≡ Some (directory slots parent))
  is = directory_is z.tree d may.directory

  abbrev pub parent_at : ℕ
  parent_at = (directory_is z.tree d may.directory).1

  pub there_at : z.tree d ≡ Some (directory (slots_at z.tree d) parent_at)
  there_at = is.2 ∙ ap (λ (s : Slots). Some (directory s is.1)) (sym (slots_are z.tree d is.0 is.1 is.2))

  pub node_at_d : HasNode g u d (directory (slots_at z.tree d) parent_at)
  node_at_d = each_node g u z.tree (links_of g z.tree) view ((with_links_of g u z.tree).0 stands) d (directory (slots_at z.tree d) parent_at) there_at
      (may.tree.nodes d (directory (slots_at z.tree d) parent_at) there_at)

  pub inside_at : slot < length (slots_at z.tree d)
  inside_at = slot_inside (slots_at z.tree d) slot may.entry may.named

  pub set_at : IsSetTo (slots_at z.tree d) (without_slot (slots_at z.tree d) slot) slot None
  set_at = (cleared_here (slots_at z.tree d) slot, λ j other. cleared_elsewhere (slots_at z.tree d) slot j other)

  cleared_there : cleared z.tree d slot d ≡ Some (directory (without_slot (slots_at z.tree d) slot) parent_at)
  cleared_there = ap (λ (t : Tree). t d) (cleared_is z.tree d slot (slots_at z.tree d) parent_at there_at) ∙ (node_set z.tree d (Some (directory (without_slot (slots_at z.tree d) slot) parent_at))).here

  -- its slots keep the rules without the name
  pub rules_at : IsDirectory g (without_slot (slots_at z.tree d) slot)
  rules_at = by last may
    where
      by : (b : Bool) → MayUnname g z n d slot b → IsDirectory g (without_slot (slots_at z.tree d) slot)
      by true m = m.tree_then.nodes d (directory (without_slot (slots_at z.tree d) slot) parent_at) ((node_set (cleared z.tree d slot) n None).others d may.other ∙ cleared_there)
      by false m = m.tree_then.nodes d (directory (without_slot (slots_at z.tree d) slot) parent_at) cleared_there

-- a head with a link less is that of the node with a link less
pub less_head : (g : Request) (u v w : View) (t : Tree) (n : ℕ) (node : Node) (head : Head) → StandsFor g u t → t n ≡ Some node → head_of_inode (u.inodes n) ≡ Some head
    → HeadSet v w n (record head { links = head.links - 1 }) → HeadSet v w n (head_with g (links_of g t n - 1) node)
less_head g u v w t n node head stands there is set =
    subst (λ (h : Head). HeadSet v w n (record h { links = h.links - 1 })) (same_head head (head_of_node g t n node) (sym is ∙ ap head_of_inode (stands.heads n node there).inode)) set

-- the node that is named
pub own_at : (g : Request) (z : State) (n d slot : ℕ) (last : Bool) → MayUnname g z n d slot last → (node : Node) × (z.tree n ≡ Some node)
own_at g z n d slot last may = by (z.tree n) refl
  where
    by : (o : Option Node) → z.tree n ≡ o → (node : Node) × (z.tree n ≡ Some node)
    by None is = absurd (let wrong : false ≡ true = sym (ap (λ (o : Option Node). is_some o) is) ∙ may.there in cc)
    by (Some node) is = (node, is)
