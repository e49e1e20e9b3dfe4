-- A call that only reads, and ends the store where it answers a fault.
use Rattle.std.proofs.Common.{◌≡◌, Bool, true, false, Option, Some, Ok, Err, refl, sym, ap, ◌∙◌, subst}
use Rattle.std.specs.Prelude.{Result, IfOk, OnOk, IsTrue}
use Rattle.edge_base.specs.declared.damage.Damage.{Damage}
use Rattle.edge_base.specs.outside.Below.{SameBelow}
use Rattle.edge_cache.specs.Cached.{IsClean}
use Rattle.edge_disk.specs.declared.disk.Disk.{Ghosts}
use Rattle.edge_store.specs.Calls.{Called, KeepsPoint, KeepsWorking, Meets}
use Rattle.edge_store.specs.Damages.{damage_at}
use Rattle.edge_store.specs.State.{StoreState}
use Rattle.edge_store.specs.declared.fault.StoreFault.{StoreFault}
use Rattle.edge_store.specs.declared.fault.StoreFault.TheVariants.{Device, Damaged}
use Rattle.edge_store.specs.declared.spot.Spot.{Spot}
use Rattle.edge_anchor.specs.Medium.{medium_of}
use Rattle.edge_anchor.proofs.CutLaws.{SureIsShown}
use Rattle.edge_point.specs.Blocks.{TellsMet, ended_by}
use Rattle.edge_point.specs.Ended.{damage_after, ended}
use Rattle.edge_point.specs.Finding.{Sees}
use Rattle.edge_point.specs.Seen.{next_view, state_of, view_told}
use Rattle.edge_point.specs.Standing.{IsPoint}
use Rattle.edge_point.specs.declared.parts.Parts.{Parts}
use Rattle.edge_point.proofs.FindLaws.{sees_point}
use Rattle.edge_point.proofs.ReadLaws.{seen, seen_called, seen_failed, seen_is, seen_keeps, seen_point, seen_works}

-- what each such call leaves
pub record Leaves {T D : Type 0} (g : Ghosts D) (p q : Parts D) (r : Result T StoreFault) : Type 0 where
  pub stands : IsPoint g q
  pub called : Called (state_of g p) (state_of g q) r
  pub point : KeepsPoint (state_of g p) (state_of g q)
  pub works : KeepsWorking (state_of g p) (state_of g q)
  pub reads : OnOk r (KeepsWorking (state_of g p) (state_of g q))
  pub below : IsClean p.cache.held → SameBelow (g.may_hold p.cache.disk) (g.may_hold q.cache.disk) (g.is_sure p.cache.disk) (g.is_sure q.cache.disk)
  pub clean : IsClean p.cache.held → OnOk r (IsClean q.cache.held)

module _ {T D : Type 0} (g : Ghosts D) (p m : Parts D) (is : IsPoint g p) (live : p.live ≡ true) (law : SureIsShown (medium_of g m.cache)) where
  by_answer : (r : Result T StoreFault) → Sees g p m r → Leaves g p (ended_by m r) r
  by_answer (Ok v) sees =
      let same = seen_is g p m sees.rest sees.imap in
      let works = subst (λ (x : Parts D). KeepsWorking (state_of g p) (state_of g x)) same (seen_works g p m is live sees.reads p.live p.damage) in
      record {
        stands = sees_point g p m (Ok v) sees is live;
        called = subst (λ (x : Parts D). Called (state_of g p) (state_of g x) (Ok v)) same
            (seen_called g p m is live sees.reads v sees.rest.block law sees.cause.passed.0);
        point = subst (λ (x : Parts D). KeepsPoint (state_of g p) (state_of g x)) same (seen_keeps g p m is live sees.reads p.live p.damage);
        works = works;
        reads = works;
        below = λ clean. (sees.reads.clean clean).candidates;
        clean = λ clean. (sees.reads.clean clean).clean;
      }
  by_answer (Err fault) sees =
      let damage = damage_after p.damage fault in
      let there : seen g p m false damage ≡ ended m (damage_after m.damage fault)
      = ap (λ (x : Parts D). ended x (damage_after x.damage fault)) (seen_is g p m sees.rest sees.imap) in
      record {
        stands = subst (IsPoint g) there (seen_point g p m is live sees.reads sees.rest.block false damage (λ h. absurd (cc h)));
        called = subst (λ (x : Parts D). Called {T = T} (state_of g p) (state_of g x) (Err fault)) there
            (seen_failed g p m is live sees.reads fault damage sees.rest.block law sees.cause.later (sees.cause.failed fault refl));
        point = subst (λ (x : Parts D). KeepsPoint (state_of g p) (state_of g x)) there (seen_keeps g p m is live sees.reads false damage);
        works = subst (λ (x : Parts D). KeepsWorking (state_of g p) (state_of g x)) there (seen_works g p m is live sees.reads false damage);
        reads = tt;
        below = λ clean. (sees.reads.clean clean).candidates;
        clean = λ clean. tt;
      }

  -- the same of the answer, and of the parts then
  pub leaves : (q : Parts D) (step r : Result T StoreFault) → Sees g p m step → r ≡ step → q ≡ ended_by m step → Leaves g p q r
  leaves q step r sees is to =
      subst (λ (x : Parts D). Leaves g p x r) (sym to) (subst (λ (a : Result T StoreFault). Leaves g p (ended_by m step) a) (sym is) (by_answer step sees))

-- ---- damage

pub meets : {T : Type 0} (met : Option Damage) (old new : StoreState) (r : Result T StoreFault) → TellsMet met r → KeepsWorking old new → Meets met old new r
meets met old new (Ok v) tells works = record { none = tells; that = λ d h. absurd (cc h); keeps = λ d h. works }
meets met old new (Err Device) tells works = record { none = tt; that = λ d h. absurd (cc h); keeps = λ d h. works }
meets met old new (Err (Damaged x)) tells works = record { none = tt; that = λ d h. tells ∙ ap (λ (y : Damage). Some y) (cc h); keeps = λ d h. works }

-- what is met in the working view of a store that is told
pub told_met : {T D : Type 0} (g : Ghosts D) (p : Parts D) (s : Spot) (r : Result T StoreFault) → IsTrue (g.origin p.cache.disk).shows
    → TellsMet (damage_at (next_view g p) s.form s.owner s.block) r → TellsMet (damage_at (state_of g p).working s.form s.owner s.block) r
told_met g p s r shows tells = subst (λ (t : Bool). TellsMet (damage_at (view_told t (next_view g p)) s.form s.owner s.block) r) (sym shows) tells

-- the same of what is answered after Ok
pub told_then : {T E : Type 0} (r : Result T E) (P : Type 0) (Q : T → Type 0) → (P → IfOk r Q) → IfOk r (λ v. P → Q v)
told_then (Ok v) P Q h = h
told_then (Err e) P Q h = tt

pub told_after : {T E : Type 0} (r : Result T E) (P Q : Type 0) → (P → OnOk r Q) → OnOk r (P → Q)
told_after (Ok v) P Q h = h
told_after (Err e) P Q h = tt
