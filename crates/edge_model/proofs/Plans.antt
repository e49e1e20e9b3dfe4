-- What holds of what a plan or a part of one gives, walked along its refusals.
use Rattle.std.proofs.Common.{◌≡◌, Bool, true, false, cond, Result, Ok, Err, refl, subst}
use Rattle.edge_base.specs.declared.refusal.Refusal.{Refusal}
use Rattle.edge_base.specs.commands.Refusals.{◌>>=◌}

-- P holds of what is given, where nothing was refused
pub record Gives {A : Type 0} (P : A → Type 0) (r : Result A Refusal) : Type 0 where
  pub holds : (x : A) → r ≡ Ok x → P x

pub ok_is : {A : Type 0} (x y : A) (r : Result A Refusal) → r ≡ Ok x → r ≡ Ok y → x ≡ y
ok_is x y r one two = cc

pub err_is_not_ok : {A : Type 0} (e : Refusal) (x : A) (r : Result A Refusal) → r ≡ Err e → r ≡ Ok x → ⊥
err_is_not_ok e x r one two = cc

pub gives_ok : {A : Type 0} (P : A → Type 0) (x : A) → P x → Gives P (Ok x)
gives_ok P x h = record { holds = λ y e. subst P (ok_is x y (Ok x) refl e) h }

pub gives_none : {A : Type 0} (P : A → Type 0) (e : Refusal) → Gives P (Err e)
gives_none P e = record { holds = λ x h. absurd (err_is_not_ok e x (Err e) refl h) }

-- after a part, with what it gave
pub gives_after : {A B : Type 0} (P : B → Type 0) (r : Result A Refusal) (f : A → Result B Refusal) → ((x : A) → r ≡ Ok x → Gives P (f x)) → Gives P (r >>= f)
gives_after P (Ok x) f h = h x refl
gives_after P (Err e) f h = gives_none P e

-- after a part, whatever it gave
pub gives_each : {A B : Type 0} (P : B → Type 0) (r : Result A Refusal) (f : A → Result B Refusal) → ((x : A) → Gives P (f x)) → Gives P (r >>= f)
gives_each P r f h = gives_after P r f (λ x _. h x)

pub gives_either : {A : Type 0} (P : A → Type 0) (b : Bool) (r q : Result A Refusal) → Gives P r → Gives P q → Gives P (cond b r q)
gives_either P true r q h k = h
gives_either P false r q h k = k
