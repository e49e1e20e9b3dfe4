-- Calls that answered Ok, and calls one after the other.
use Rattle.std.proofs.Common.{◌≡◌, ℕ, true, arith, List}
use Rattle.std.specs.Prelude.{Ok}
use Rattle.edge_base.specs.outside.Below.{SameBelow}
use Rattle.edge_store.specs.Calls.{Called}
use Rattle.edge_store.specs.State.{StoreState}

pub called_ok : {T : Type 0} (old new : StoreState) (x : T) → new.origin ≡ old.origin → new.live ≡ true → new.faults ≡ old.faults
    → new.damage ≡ old.damage → (old.guarded → new.guarded) → Called old new (Ok x)
called_ok old new x origin live faults damage guarded = record {
  origin = origin;
  live = live;
  cause = record { later = omega (arith, faults); passed = (faults, damage); failed = λ fault e. absurd (cc) };
  guarded = guarded;
}

-- two calls that change no candidate
pub same_below_twice : {may_a may_b may_c : ℕ → List ℕ → Type 0} {sure_a sure_b sure_c : ℕ → Type 0}
    → SameBelow may_a may_b sure_a sure_b → SameBelow may_b may_c sure_b sure_c → SameBelow may_a may_c sure_a sure_c
same_below_twice one two = record {
  adds_none = λ k c h. one.adds_none k c (two.adds_none k c h);
  stays = λ k c h. two.stays k c (one.stays k c h);
  sure = λ k h. one.sure k (two.sure k h);
  sure_stays = λ k h. two.sure_stays k (one.sure_stays k h);
}
