-- When two views stand for the state of a session.
use Rattle.edge_base.specs.declared.geometry.Request.{Request}
use Rattle.edge_store.specs.View.{View, IsView}
use Rattle.edge_model.specs.State.{State}
use Rattle.edge_image.specs.Opens.{StandsFor}
use Rattle.edge_stands.specs.Stands.{IsTied}

-- The committed view stands for the tree of the last point and the working one for the tree; the dirty positions are those whose block is
-- in the working view alone.
pub record StandForState (g : Request) (committed working : View) (s : State) : Type 0 where
  pub committed_is_view : IsView g committed
  pub working_is_view : IsView g working
  pub last : StandsFor g committed s.committed
  pub tree : StandsFor g working s.tree
  pub dirty : IsTied g committed working s.tree s.dirty
