-- Answers of calls: what holds of Ok, and a fault that is handed on.
use Rattle.std.proofs.Common.{◌≡◌, true, false, refl, ap}
use Rattle.std.specs.Prelude.{Result, Ok, Err, OnOk, is_ok}

pub on_ok_map : {T E P Q : Type 0} (r : Result T E) → (is_ok r ≡ true → P → Q) → OnOk r P → OnOk r Q
on_ok_map (Ok x) f p = f refl p
on_ok_map (Err e) f p = p

-- two results of one fault have the same one, whatever they would answer
pub same_fault : {T U E : Type 0} (f h : E) → ◌≡◌ {A = Result T E} (Err f) (Err h) → ◌≡◌ {A = Result U E} (Err f) (Err h)
same_fault f h e = ap Err (one f h e)
  where
    one : {T E : Type 0} (f h : E) → ◌≡◌ {A = Result T E} (Err f) (Err h) → f ≡ h
    one f h e = cc

pub on_ok_at : {T E P : Type 0} (r : Result T E) → is_ok r ≡ true → OnOk r P → P
on_ok_at (Ok x) ok p = p
on_ok_at (Err e) ok p = absurd (let f : false ≡ true = ok in cc)
