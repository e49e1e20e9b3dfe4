-- The room that the trees of a session leave, and the commands that only free blocks.
use Rattle.std.specs.Prelude.{◌≡◌, ◌≤◌, ◌+◌, length, Some, Ok}
use Rattle.edge_base.specs.declared.geometry.Request.{Request}
use Rattle.edge_base.specs.layout.Places.{allocable_of}
use Rattle.edge_base.specs.commands.Descriptors.{Descriptor, descriptor_at}
use Rattle.edge_base.specs.tree.Positions.{count_of}
use Rattle.edge_model.specs.Asked.{Asked, open_file, truncate, unlink, remove_dir}
use Rattle.edge_model.specs.Files.{content_of}
use Rattle.edge_model.specs.State.{State}
use Rattle.edge_model.specs.Tree.{Tree, node_at, tree_positions}
use Rattle.edge_model.specs.Walk.{Spot, Found, at_spot, spot_of}

-- the positions of a tree are at most the allocable blocks less three
abbrev pub LeavesRoom : Request → Tree → Type 0
LeavesRoom g t = count_of (tree_positions g t) + 3 ≤ allocable_of g

pub record HasRoom (g : Request) (s : State) : Type 0 where
  pub tree : LeavesRoom g s.tree
  pub committed : LeavesRoom g s.committed

-- Unlink and rmdir, a truncate to at most the present size, and the opening of a path that is there.
abbrev pub OnlyFrees : Request → State → Asked → Type 0
OnlyFrees g s (unlink path) = Unit {0}
OnlyFrees g s (remove_dir path) = Unit {0}
OnlyFrees g s (truncate h size) = (d : Descriptor) → descriptor_at s.descriptors h ≡ Some d → size ≤ length (content_of (node_at s.tree d.number))
OnlyFrees g s (open_file path flags) = (spot : Spot) × (found : Found) × (spot_of g s.tree path ≡ Ok spot) × (at_spot s.tree spot ≡ Some found)
OnlyFrees g s command = ⊥
