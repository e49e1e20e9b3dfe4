-- The rules of a session's state: its two trees are trees, and each descriptor names a node of its kind.
use Rattle.std.specs.Prelude.{◌≡◌, ℕ, true, is_some, Some}
use Rattle.edge_base.specs.declared.geometry.Request.{Request}
use Rattle.edge_base.specs.commands.Descriptors.{Descriptor, descriptor_at}
use Rattle.edge_model.specs.Tree.{Tree, is_directory}
use Rattle.edge_model.specs.Rules.{IsTree}
use Rattle.edge_model.specs.State.{State}

-- the node of an open descriptor is there and of its kind
pub record NamesItsNode (t : Tree) (d : Descriptor) : Type 0 where
  pub there : is_some (t d.number) ≡ true
  pub kind : is_directory t d.number ≡ d.directory

-- each open descriptor has such a node
abbrev pub DescriptorsNameNodes : State → Type 0
DescriptorsNameNodes s = (h : ℕ) (d : Descriptor) → descriptor_at s.descriptors h ≡ Some d → NamesItsNode s.tree d

-- the tree and that of the last point are trees, and each open descriptor has its node
pub record HasTrees (g : Request) (s : State) : Type 0 where
  pub tree : IsTree g s.tree
  pub committed : IsTree g s.committed
  pub descriptors : DescriptorsNameNodes s
