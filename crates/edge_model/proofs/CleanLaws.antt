-- What is not dirty is as in the committed tree.
use Rattle.std.proofs.Common.{sym, subst}
use Rattle.edge_base.specs.declared.geometry.Request.{Request}
use Rattle.edge_model.specs.Asked.{Asked}
use Rattle.edge_model.specs.State.{State}
use Rattle.edge_model.specs.Step.{step, plan}
use Rattle.edge_model.specs.Laws.{HasNodes, IsOpenByKind, IsDirtyWithin, IsCleanAbove, IsCleanSame}
use Rattle.edge_model.proofs.Outcomes.{each_state}
use Rattle.edge_model.proofs.DirtyLaws.{IsCompletePlan, IsRemovedPlan, IsWrittenPlan, point_within, point_above, point_same, edited_within, edited_above, edited_same}
use Rattle.edge_model.proofs.CompleteLaws.{each_complete}
use Rattle.edge_model.proofs.RemoveLaws.{each_removed}
use Rattle.edge_model.proofs.WriteLaws.{each_written}

abbrev Above : Request → State → Type 0
Above g s = IsDirtyWithin g s × IsCleanAbove g s

-- below a pointer node that is not dirty the tree has the data blocks of the committed tree
pub step_above : (g : Request) (s : State) (c : Asked) → HasNodes g s.tree → IsOpenByKind s → IsDirtyWithin g s → IsCleanAbove g s → IsCleanAbove g (step g s c).state
unfolding step
step_above g s c rules kinds within above = (each_state g s (plan g s c) (Above g) (λ z k. (point_within g z, point_above g z))
    (λ p was z same k. (
      edited_within g z p.edit k.0,
      edited_above g z p.edit (subst (λ t. IsCompletePlan g t p.edit) (sym same) (each_complete g s c p was)) (subst (λ t. IsRemovedPlan g t p.edit) (sym same) (each_removed g s rules kinds c p was)) k.0 k.1,
    ))
    (within, above)).1

-- a data block that is not dirty has the bytes of the committed tree
pub step_same : (g : Request) (s : State) (c : Asked) → HasNodes g s.tree → IsCleanSame g s → IsCleanSame g (step g s c).state
unfolding step
step_same g s c rules = each_state g s (plan g s c) (IsCleanSame g) (λ z k. point_same g z)
    (λ p was z same k. edited_same g z p.edit (subst (λ t. IsWrittenPlan g t p.edit) (sym same) (each_written g s rules c p was)) k)
