-- All rules of a session's state.
use Rattle.std.specs.Prelude.{◌≡◌, length}
use Rattle.edge_base.specs.commands.Descriptors.{most_open}
use Rattle.edge_base.specs.declared.geometry.Request.{Request}
use Rattle.edge_model.specs.Laws.{IsDirtySound}
use Rattle.edge_model.specs.State.{State}
use Rattle.edge_steps.specs.Rules.{HasTrees}
use Rattle.edge_steps.specs.Room.{HasRoom}

pub record IsSession (g : Request) (s : State) : Type 0 where
  -- its trees are trees, and its descriptors have their nodes
  pub trees : HasTrees g s
  -- the dirty positions are of the tree, with their ancestors, and the others are of the committed tree
  pub dirty : IsDirtySound g s
  -- each of its trees leaves three blocks free
  pub room : HasRoom g s
  -- the table of descriptors has its places
  pub places : length s.descriptors ≡ most_open
