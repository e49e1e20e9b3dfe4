-- Faults of parts, one after the other.
use Rattle.std.proofs.Common.{◌≡◌, ◌∙◌, ℕ, ◌+◌, ◌≤◌, true, refl, sym, ap, arith, Option, Some, None}
use Rattle.std.specs.Prelude.{Result, Ok, Err}
use Rattle.edge_base.specs.outside.Below.{Origin}
use Rattle.edge_base.specs.outside.Faults.{Because}
use Rattle.edge_store.specs.declared.fault.StoreFault.{StoreFault}
use Rattle.edge_store.specs.declared.fault.StoreFault.TheVariants.{Damaged}
use Rattle.edge_store.specs.Calls.{Called, TellsDamage, damage_of}
use Rattle.edge_store.specs.State.{StoreState, Told}
use Rattle.edge_store.specs.Told.{MeetsNone}
use Rattle.edge_volume.specs.Stopped.{fault_in}
use Rattle.edge_volume.specs.Parts.{CauseOf, EndsBy, TakesUpTo}

some_fault : (x y : StoreFault) → Some x ≡ Some y → x ≡ y
some_fault x y e = cc

-- a call that tells no damage tells none that is not there
pub tells_none : {T : Type 0} (old new : StoreState) (r : Result T StoreFault) → MeetsNone old r → Told old → TellsDamage new r
tells_none old new r none told d e = absurd (none told d e)

pub ends_of_call : {T : Type 0} (old new : StoreState) (r : Result T StoreFault) → Called old new r → (Told old → TellsDamage new r) → EndsBy (fault_in r) old new
ends_of_call old new (Ok x) called tells = record {
  origin = called.origin;
  live = called.live;
  later = called.cause.later;
  cause = called.cause.passed;
  there = λ d e told. absurd (cc);
  guarded = called.guarded;
}
ends_of_call old new (Err fault) called tells = record {
  origin = called.origin;
  live = called.live;
  later = called.cause.later;
  cause = called.cause.failed fault refl;
  there = λ d e told. tells told d (ap Err (some_fault fault (Damaged d) e));
  guarded = called.guarded;
}

pub ends_none : (st : StoreState) → st.live ≡ true → EndsBy None st st
ends_none st live = record { origin = refl; live = live; later = omega arith; cause = (refl, refl); there = λ d e told. absurd (cc); guarded = λ h. h }

because_on : (a b c : StoreState) (damage : Option _) → b.faults ≡ a.faults → b.damage ≡ a.damage → Because b.faults c.faults b.damage c.damage damage
    → Because a.faults c.faults a.damage c.damage damage
because_on a b c None faults damage because = (rw (sym faults) because.0, because.1 ∙ damage)
because_on a b c (Some d) faults damage because = (because.0 ∙ faults, because.1)

cause_on : (fault : Option StoreFault) (a b c : StoreState) → b.faults ≡ a.faults → b.damage ≡ a.damage → CauseOf fault b c → CauseOf fault a c
cause_on None a b c faults damage cause = (cause.0 ∙ faults, cause.1 ∙ damage)
cause_on (Some fault) a b c faults damage cause = because_on a b c (damage_of fault) faults damage cause

pub ends_on : (fault : Option StoreFault) (a b c : StoreState) → EndsBy None a b → EndsBy fault b c → EndsBy fault a c
ends_on fault a b c one two = record {
  origin = two.origin ∙ one.origin;
  live = two.live;
  later = let x = one.later in let y = two.later in omega arith;
  cause = cause_on fault a b c one.cause.0 one.cause.1 two.cause;
  there = λ d e told. two.there d e (ap (λ (o : Origin). o.tells) one.origin ∙ told);
  guarded = λ h. two.guarded (one.guarded h);
}

-- ---- points

pub takes_none : (most : ℕ) (a b : StoreState) → b.points ≡ a.points → TakesUpTo most a b
takes_none most a b same = record { never_falls = omega arith; at_most = omega arith }

pub takes_on : (one two most : ℕ) (a b c : StoreState) → one + two ≤ most → TakesUpTo one a b → TakesUpTo two b c → TakesUpTo most a c
takes_on one two most a b c low x y =
    let p = x.never_falls in let q = x.at_most in let r = y.never_falls in let s = y.at_most in record { never_falls = omega arith; at_most = omega arith }
