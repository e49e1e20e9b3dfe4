-- A store that goes on while a loop runs.
use Rattle.std.proofs.Common.{◌≡◌, ℕ, true, refl, ap, ◌∙◌}
use Rattle.std.specs.Prelude.{Result, Ok, Err, OnOk}
use Rattle.edge_store.specs.Calls.{Called, KeepsPoint}
use Rattle.edge_store.specs.State.{StoreState, Told}
use Rattle.edge_store.proofs.CallLaws.{called_ok}

-- no call has answered a fault since, and no point was taken
pub record GoesOn (old now : StoreState) : Type 0 where
  pub called : Called {T = ℕ} old now (Ok 0)
  pub point : KeepsPoint old now

pub goes_on_first : (s : StoreState) → s.live ≡ true → GoesOn s s
goes_on_first s live = record {
  called = called_ok s s 0 refl live refl refl (λ h. h);
  point = record { committed = refl; points = refl; under_way = refl };
}

pub goes_on_then : {T : Type 0} (a b c : StoreState) (x : T) → GoesOn a b → Called b c (Ok x) → KeepsPoint b c → GoesOn a c
goes_on_then a b c x so_far called point =
    let one = so_far.called in
    record {
      called = called_ok a c 0 (called.origin ∙ one.origin) called.live (called.cause.passed.0 ∙ one.cause.passed.0) (called.cause.passed.1 ∙ one.cause.passed.1) (λ h. called.guarded (one.guarded h));
      point = record {
        committed = point.committed ∙ so_far.point.committed;
        points = point.points ∙ so_far.point.points;
        under_way = point.under_way ∙ so_far.point.under_way;
      };
    }

-- what is told stays told
pub told_now : (old now : StoreState) → GoesOn old now → Told old → Told now
told_now old now goes told = ap (λ o. o.tells) goes.called.origin ∙ told

pub told_then : {T : Type 0} (old now : StoreState) (x : T) → Called old now (Ok x) → Told old → Told now
told_then old now x called told = ap (λ o. o.tells) called.origin ∙ told

-- ---- what follows from an Ok

pub on_ok_map : {T E A B : Type 0} (r : Result T E) → (A → B) → OnOk r A → OnOk r B
on_ok_map (Ok x) f a = f a
on_ok_map (Err e) f a = tt

pub on_ok_both : {T E A B C : Type 0} (r : Result T E) → (A → B → C) → OnOk r A → OnOk r B → OnOk r C
on_ok_both (Ok x) f a b = f a b
on_ok_both (Err e) f a b = tt

-- a fault that was handed on
pub err_of : {T E : Type 0} (x y : E) → ◌≡◌ {A = Result T E} (Err x) (Err y) → x ≡ y
err_of x y e = cc
