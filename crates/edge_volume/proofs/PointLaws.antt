-- A point that a store takes, as a part of a command.
use Rattle.std.proofs.Common.{◌≡◌, ◌∙◌, ◌-◌, true, false, [], ◌∷◌, ap, arith, Some, None}
use Rattle.std.specs.Prelude.{Result, Ok, Err}
use Rattle.edge_store.specs.declared.fault.StoreFault.{StoreFault}
use Rattle.edge_store.specs.declared.fault.StoreFault.TheVariants.{Damaged}
use Rattle.edge_store.specs.Calls.{Called, TakesPoint}
use Rattle.edge_store.specs.State.{StoreState}
use Rattle.edge_store.specs.Told.{MeetsNone}
use Rattle.edge_model.specs.State.{State, point_taken}
use Rattle.edge_stands.specs.Session.{StandForState}
use Rattle.edge_stands.proofs.SessionLaws.{after_point}
use Rattle.edge_volume.specs.Stopped.{fault_in}
use Rattle.edge_volume.specs.Volume.{StoreStands}
use Rattle.edge_volume.specs.Parts.{TakesUpTo, Comes}

pub takes_point : {T : Type 0} (a b : StoreState) (r : Result T StoreFault) → TakesPoint a b r → TakesUpTo 1 a b
takes_point a b (Ok x) takes = let p = takes.points in record { never_falls = omega arith; at_most = omega arith }
takes_point a b (Err fault) takes = let p = takes.failed_points in record { never_falls = omega arith; at_most = omega arith }

pub point_comes : {T : Type 0} (a b : StoreState) (r : Result T StoreFault) (s : State) → Called a b r → MeetsNone a r → TakesPoint a b r → StoreStands a s
    → Comes (fault_in r) a b s (point_taken s) (s.tree ∷ [])
point_comes a b (Ok x) s called met takes stands =
    let one = takes.points in
    let views : StandForState b.origin.request b.committed b.working (point_taken s) =
    rw (called.origin, takes.committed, takes.working.working) (after_point a.origin.request a.committed a.working s stands.views) in
    record {
      undamaged = λ d e. absurd (cc);
      to_state = λ e. record { told = ap (λ o. o.tells) called.origin ∙ stands.told; whole = takes.none_under_way ∙ stands.whole; views = views };
      by_points = λ e. omega arith;
      never_falls = omega arith;
      trees = let rise : b.points - a.points ≡ 1 = omega arith in rw rise (record {
        there = omega arith;
        committed = views.last;
        next = λ e. absurd (let n : b.under_way ≡ None = takes.none_under_way ∙ stands.whole in let f : false ≡ true = rw n at e in cc);
      });
    }
point_comes a b (Err fault) s called met takes stands =
    let same = takes.failed_points in
    record {
      undamaged = λ d e. met stands.told d (ap Err (let h : Some fault ≡ Some (Damaged d) = e in cc));
      to_state = λ e. absurd (cc);
      by_points = λ e. absurd (cc);
      never_falls = omega arith;
      trees = let rise : b.points - a.points ≡ 0 = omega arith in rw rise (record {
        there = omega arith;
        committed = rw (called.origin, takes.failed_committed) stands.views.last;
        next = λ e. (omega arith, rw (called.origin, takes.failed_under_way) stands.views.tree);
      });
    }
