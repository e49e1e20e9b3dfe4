-- What a call answers by its steps, and one call after another.
use Rattle.std.proofs.Common.{◌≡◌, ◌<◌, ℕ, true, Option, Ok, Err, sym, ap, ◌∙◌, subst}
use Rattle.std.specs.Prelude.{Result, OnOk}
use Rattle.edge_base.specs.declared.damage.Damage.{Damage}
use Rattle.edge_base.specs.outside.Below.{Origin}
use Rattle.edge_base.specs.outside.Faults.{TellsCause}
use Rattle.edge_disk.specs.declared.disk.Disk.{Ghosts}
use Rattle.edge_store.specs.Calls.{Called, KeepsPoint, KeepsWorking, NeverDamaged, damage_of}
use Rattle.edge_store.specs.State.{HasRoom, IsAllocable, IsNumber, StoreState, Told}
use Rattle.edge_store.specs.View.{View, free_now, is_allocable, is_number}
use Rattle.edge_store.specs.declared.fault.StoreFault.{StoreFault}
use Rattle.edge_anchor.specs.Medium.{medium_of}
use Rattle.edge_anchor.proofs.CutLaws.{SureIsShown}
use Rattle.edge_point.specs.Blocks.{ended_by}
use Rattle.edge_point.specs.Changing.{TakesStep}
use Rattle.edge_point.specs.Ended.{damage_after}
use Rattle.edge_point.specs.Seen.{IsGuarded, state_of}
use Rattle.edge_point.specs.Standing.{IsPoint, IsTold}
use Rattle.edge_point.specs.declared.parts.Parts.{Parts}
use Rattle.edge_point.proofs.ChangeLaws.{fails_called, fails_keeps, fails_point, passes_called, passes_keeps}
use Rattle.edge_point.proofs.FoundLaws.{called_err}

-- ---- one call after another

module _ (old mid new : StoreState) where
  pub keeps_then : KeepsPoint old mid → KeepsPoint mid new → KeepsPoint old new
  keeps_then a b = record { committed = b.committed ∙ a.committed; points = b.points ∙ a.points; under_way = b.under_way ∙ a.under_way }

  pub works_then : KeepsWorking old mid → KeepsWorking mid new → KeepsWorking old new
  works_then a b = record { working = b.working ∙ a.working; places = b.places ∙ a.places }

  pub called_then : {S T : Type 0} (v : S) (r : Result T StoreFault) → Called old mid (Ok v) → Called mid new r → Called old new r
  called_then v r a b = record {
    origin = b.origin ∙ a.origin;
    live = b.live;
    cause = subst (λ (n : ℕ). TellsCause damage_of r n new.faults old.damage new.damage) a.cause.passed.0
        (subst (λ (x : Option Damage). TellsCause damage_of r mid.faults new.faults x new.damage) a.cause.passed.1 b.cause);
    guarded = λ h. b.guarded (a.guarded h);
  }

  -- a fault of the second is passed on
  pub fault_then : {S T U : Type 0} (v : S) (s : Result T StoreFault) (r : Result U StoreFault) (f : StoreFault) → Called old mid (Ok v) → Called mid new s
      → s ≡ Err f → r ≡ Err f → Called old new r
  fault_then v s r f a b was is = called_then v r a (called_err mid new s r f b was is)

module _ (old mid : StoreState) (origin : mid.origin ≡ old.origin) where
  pub told_mid : Told old → Told mid
  told_mid told = ap (λ (o : Origin). o.tells) origin ∙ told

  pub allocable_mid : (b : ℕ) → IsAllocable old b → IsAllocable mid b
  allocable_mid b = subst (λ (o : Origin). is_allocable o.request b ≡ true) (sym origin)

  pub number_mid : (n : ℕ) → IsNumber old n → IsNumber mid n
  number_mid n = subst (λ (o : Origin). is_number o.request n ≡ true) (sym origin)

  pub room_mid : mid.committed ≡ old.committed → mid.working ≡ old.working → HasRoom old → HasRoom mid
  room_mid committed working room told = subst (λ (o : Origin). 0 < free_now o.request mid.committed mid.working) (sym origin)
      (subst (λ (c : View). 0 < free_now old.origin.request c mid.working) (sym committed)
      (subst (λ (v : View). 0 < free_now old.origin.request old.committed v) (sym working) (room (ap (λ (o : Origin). o.tells) (sym origin) ∙ told))))

-- a fault that is passed on tells no damage, where the call that it comes from tells none
pub never_told : {S T : Type 0} (s : Result S StoreFault) (r : Result T StoreFault) (f : StoreFault) → s ≡ Err f → r ≡ Err f → NeverDamaged s → NeverDamaged r
never_told s r f was is never d h = never d (was ∙ ap (λ (x : StoreFault). Err x) (cc (sym is ∙ h)))

pub never_ok : {T : Type 0} (v : T) → NeverDamaged {T = T} (Ok v)
never_ok v d h = cc h

-- ---- the answers of steps that change blocks

pub record LeavesStep {T D : Type 0} (g : Ghosts D) (p q : Parts D) (r : Result T StoreFault) : Type 0 where
  pub stands : IsPoint g q
  pub called : Called (state_of g p) (state_of g q) r
  pub point : KeepsPoint (state_of g p) (state_of g q)

module _ {T D : Type 0} (g : Ghosts D) (IsSuch : ℕ → Type 0) (p m : Parts D) (is : IsPoint g p) (live : p.live ≡ true)
    (law : SureIsShown (medium_of g m.cache)) where
  step_answer : (r : Result T StoreFault) → TakesStep g IsSuch p m r → OnOk r (IsPoint g m) → LeavesStep g p (ended_by m r) r
  step_answer (Ok v) step stands = record {
    stands = stands;
    called = passes_called g IsSuch p m is live v step stands law;
    point = passes_keeps g IsSuch p m is live step.changes;
  }
  step_answer (Err fault) step stands = record {
    stands = fails_point g IsSuch p m is live (damage_after m.damage fault) step.changes;
    called = fails_called g IsSuch p m is live {T = T} fault step law;
    point = fails_keeps g IsSuch p m is live (damage_after m.damage fault) step.changes;
  }

  -- the same of the answer, and of the parts then
  pub leaves_step : (q : Parts D) (step r : Result T StoreFault) → TakesStep g IsSuch p m step → OnOk step (IsPoint g m) → r ≡ step → q ≡ ended_by m step
      → LeavesStep g p q r
  leaves_step q step r takes stands is to = subst (λ (x : Parts D). LeavesStep g p x r) (sym to)
      (subst (λ (a : Result T StoreFault). LeavesStep g p (ended_by m step) a) (sym is) (step_answer step takes stands))

-- what holds after a step that answered Ok holds of the parts then
pub ok_after : {T D : Type 0} (m q : Parts D) (step r : Result T StoreFault) (P : Parts D → Type 0) → r ≡ step → q ≡ ended_by m step → OnOk step (P m)
    → OnOk r (P q)
ok_after {T} {D} m q step r P is to h = subst (λ (x : Result T StoreFault). OnOk x (P q)) (sym is) (by_answer step to h)
  where
    by_answer : (s : Result T StoreFault) → q ≡ ended_by m s → OnOk s (P m) → OnOk s (P q)
    by_answer (Ok v) e h = subst P (sym e) h
    by_answer (Err f) e h = tt

pub on_both : {T E A B C : Type 0} (r : Result T E) → (A → B → C) → OnOk r A → OnOk r B → OnOk r C
on_both (Ok v) f a b = f a b
on_both (Err e) f a b = tt

-- ---- another block to try next

module _ {D : Type 0} (g : Ghosts D) where
  -- the parts with another block to try next
  abbrev pub moved : Parts D → ℕ → Parts D
  moved p next = record {
    cache = p.cache;
    imap = p.imap;
    master = p.master;
    place = p.place;
    root = p.root;
    points = p.points;
    numbers = p.numbers;
    next = next;
    live = p.live;
    torn = p.torn;
    damage = p.damage;
    block = p.block;
  }

  moved_told : (p : Parts D) (next : ℕ) → IsTold g p → IsTold g (moved p next)
  moved_told p next told = record { committed = told.committed; tied = told.tied; numbers = told.numbers; whole = told.whole; both_stay = told.both_stay }

  pub moved_point : (p : Parts D) (next : ℕ) → IsPoint g p → IsPoint g (moved p next)
  moved_point p next is = record {
    fits = is.fits;
    geometry = is.geometry;
    imap = is.imap;
    block = is.block;
    first = is.first;
    place = is.place;
    points = is.points;
    sequence = is.sequence;
    untorn = is.untorn;
    undamaged = is.undamaged;
    told = λ live shows. moved_told p next (is.told live shows);
  }

  moved_guarded : (p : Parts D) (next : ℕ) → IsGuarded g p → IsGuarded g (moved p next)
  moved_guarded p next guard = record { shows = guard.shows; keeps = guard.keeps; no_fault = guard.no_fault; committed = guard.committed; cut = guard.cut }

  pub moved_keeps : (old : StoreState) (p : Parts D) (next : ℕ) → KeepsPoint old (state_of g p) → KeepsPoint old (state_of g (moved p next))
  moved_keeps old p next keeps = record { committed = keeps.committed; points = keeps.points; under_way = keeps.under_way }

  pub moved_called : {T : Type 0} (old : StoreState) (p : Parts D) (next : ℕ) (v : T) → Called old (state_of g p) (Ok v)
      → Called old (state_of g (moved p next)) (Ok v)
  moved_called old p next v c = record { origin = c.origin; live = c.live; cause = c.cause; guarded = λ h. moved_guarded p next (c.guarded h) }

-- the room for a block stays as a step left it
pub room_after : {T D : Type 0} (m q : Parts D) (step : Result T StoreFault) → q ≡ ended_by m step → q.block.items ≡ m.block.items
room_after {T} {D} m q (Ok v) e = ap (λ (x : Parts D). x.block.items) e
room_after {T} {D} m q (Err f) e = ap (λ (x : Parts D). x.block.items) e
