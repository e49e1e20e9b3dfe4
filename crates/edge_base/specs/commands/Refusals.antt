-- Refusals, one after another: the first that holds is the answer.
use Rattle.std.specs.Prelude.{Bool, if◌then◌else◌, Option, Some, None, Result, Ok, Err}
use Rattle.edge_base.specs.declared.refusal.Refusal.{Refusal}

infixl 10 ◌>>=◌
-- goes on where nothing was refused
abbrev pub ◌>>=◌ : {A B : Type 0} → Result A Refusal → (A → Result B Refusal) → Result B Refusal
(Ok x) >>= f = f x
(Err e) >>= f = Err e

-- refused where the test holds
abbrev pub refuse_if : Bool → Refusal → Result (Unit {0}) Refusal
refuse_if test e = if test then Err e else Ok tt

-- refused where there is none
abbrev pub or_refuse : {A : Type 0} → Option A → Refusal → Result A Refusal
or_refuse None e = Err e
or_refuse (Some x) e = Ok x
