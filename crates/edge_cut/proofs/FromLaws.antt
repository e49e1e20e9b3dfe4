-- What the steps of a cut make of a node, at an index.
use Rattle.std.proofs.Common.{◌≡◌, ◌≤◌, ℕ, true, refl, ap, ◌∙◌, subst}
use Rattle.std.specs.Prelude.{Result, Ok, Err, OnOk, is_ok}
use Rattle.edge_base.specs.layout.Places.{IsGeometry}
use Rattle.edge_store.specs.Placed.{IsShaped}
use Rattle.edge_store.specs.State.{StoreState, Told}
use Rattle.edge_store.specs.View.{IsView, free_now}
use Rattle.edge_shape.specs.declared.cut.Cut.{Cut}
use Rattle.edge_shape.specs.Shape.{HasShape}
use Rattle.edge_shape.specs.Steps.{Steps}
use Rattle.edge_shape.specs.Where.{cut_at, cut_need, GoesThrough}
use Rattle.edge_shape.proofs.BlockLaws.{index_cut}
use Rattle.edge_shape.proofs.LeadLaws.{shape_from_shaped}
use Rattle.edge_shape.proofs.WhereLaws.{finds}
use Rattle.edge_cut.specs.Cuts.{TakesSteps, TakesStepsAt, CutsFrom, RoomForCut}

-- The steps that a call takes after it has read where the cut goes.
pub steps_at : {T E : Type 0} (old read last : StoreState) (n i : ℕ) (cut : Cut) (result : Result T E) → read.origin ≡ old.origin → read.committed ≡ old.committed → read.working ≡ old.working
    → (Told old → cut ≡ cut_at old.origin.request old.working n i) → OnOk result (TakesSteps read last n cut) → OnOk result (TakesStepsAt old last n i)
steps_at old read last n i cut (Ok x) origin committed working is steps = λ told.
    let taken : Steps old.origin.request old.committed old.working last.working n cut = rw (← origin, ← committed, ← working) (steps (ap (λ o. o.tells) origin ∙ told)) in
    subst (Steps old.origin.request old.committed old.working last.working n) (is told) taken
steps_at old read last n i cut (Err e) origin committed working is steps = tt

pub cuts_of : {T E : Type 0} (old last : StoreState) (n i : ℕ) (result : Result T E) → (is_ok result ≡ true → Told old → IsView old.origin.request last.working) → OnOk result (TakesStepsAt old last n i) → OnOk result (CutsFrom old last n i)
cuts_of old last n i (Ok x) view steps = λ told indices shape. index_cut old.origin.request old.committed old.working last.working n i indices shape (view refl told) (steps told)
cuts_of old last n i (Err e) view steps = tt

-- what a node of a proper shape needs of a cut that was found
pub never_at : (old read : StoreState) (n i : ℕ) (cut : Cut) → read.origin ≡ old.origin → read.committed ≡ old.committed → read.working ≡ old.working → IsGeometry old.origin.request → IsView old.origin.request old.working
    → cut ≡ cut_at old.origin.request old.working n i → (shaped : IsShaped old.origin.request old.working n) → cut_need old.origin.request old.committed old.working n i ≤ free_now old.origin.request old.committed old.working
    → HasShape read.origin.request read.working n shaped.indices × GoesThrough read.origin.request shaped.indices cut × RoomForCut read n cut
never_at old read n i cut origin committed working geometry view is shaped room =
    let shape = shape_from_shaped old.origin.request old.working n geometry view shaped in
    let found = finds old.origin.request old.working n shaped.indices shape i in
    rw (origin, committed, working, is) (shape, found.goes_through, room)
