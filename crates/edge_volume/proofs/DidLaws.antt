-- What a command did, by what its parts did: at each of its ends.
use Rattle.std.proofs.Common.{◌≡◌, ◌∙◌, ℕ, ◌+◌, ◌≤◌, Bool, true, false, List, [], refl, sym, ap, subst, arith, Option, Some, None}
use Rattle.std.specs.Prelude.{Result, Ok, Err}
use Rattle.edge_base.specs.declared.geometry.Request.{Request}
use Rattle.edge_base.specs.declared.refusal.Refusal.{Refusal}
use Rattle.edge_store.specs.declared.fault.StoreFault.{StoreFault}
use Rattle.edge_store.specs.Calls.{KeepsPoint, KeepsWorking}
use Rattle.edge_store.specs.State.{StoreState}
use Rattle.edge_model.specs.declared.command.Answer.{Answer}
use Rattle.edge_model.specs.declared.command.Answer.TheVariants as a
use Rattle.edge_model.specs.Asked.{Asked, told_by}
use Rattle.edge_model.specs.Asking.{IsInBuffer, AnswersMask, mask_after, may_open_or_close}
use Rattle.edge_model.specs.Bytes.{IsOfBytes}
use Rattle.edge_model.specs.State.{State, Plan, Edit, edited, planned}
use Rattle.edge_model.specs.Step.{plan, step}
use Rattle.edge_stands.proofs.SessionLaws.{alike_states}
use Rattle.edge_volume.specs.declared.stop.Stop.{Stop}
use Rattle.edge_volume.specs.declared.stop.Stop.TheVariants.{Refused, Fault}
use Rattle.edge_volume.specs.Volume.{VolumeState, StoreStands, VolumeStands, request_of, opens_of, point_after, trees_after, points_due}
use Rattle.edge_volume.specs.Parts.{EndsBy, TakesUpTo, IsOfNoDamage, Comes}
use Rattle.edge_volume.specs.Did.{KeepsMask, KeepsOpen, Did}
use Rattle.edge_volume.proofs.FaultLaws.{ends_none, ends_on, takes_none, takes_on}
use Rattle.edge_volume.proofs.LookLaws.{stands_still}
use Rattle.edge_volume.proofs.ComeLaws.{comes_none, comes_to, comes_on}
use Rattle.edge_volume.proofs.StepLaws.{meets_ended, meets_refused, meets_kept, meets_kept_fault}

-- ---- the mask and the descriptors

-- the mask stays, and the command is none that tells it
pub mask_kept : (command : Asked) (result : Result Answer Stop) (old new : VolumeState) → mask_after old.mask command ≡ old.mask
    → ((answer : Answer) → AnswersMask old.mask command answer) → new.mask ≡ old.mask → KeepsMask command result old new
mask_kept command (Ok answer) old new after told same = record { after = λ e. same ∙ sym after; told = told answer; stays = λ e. same }
mask_kept command (Err (Refused refusal)) old new after told same = record { after = λ e. same ∙ sym after; told = told (a.No refusal); stays = λ e. same }
mask_kept command (Err (Fault fault)) old new after told same = record { after = λ e. absurd (cc); told = tt; stays = λ e. same }

pub mask_at_fault : (command : Asked) (fault : StoreFault) (old new : VolumeState) → new.mask ≡ old.mask → KeepsMask command (Err (Fault fault)) old new
mask_at_fault command fault old new same = record { after = λ e. absurd (cc); told = tt; stays = λ e. same }

pub open_at_fault : (command : Asked) (fault : StoreFault) (old new : VolumeState) → (may_open_or_close command ≡ false → opens_of new ≡ opens_of old)
    → KeepsOpen command (Err (Fault fault)) old new
open_at_fault command fault old new stays = record { after = tt; stays = stays }

-- ---- ends of a command that changes no tree

-- What a command that is answered plans, with a point at its end where one is due.
pub record Settles (g : Request) (s : State) (command : Asked) (due : Bool) (answer : Answer) (out : List ℕ) (new : VolumeState) : Type 0 where
  pub done : Plan
  pub is : plan g s command ≡ Ok done
  pub none : done.edit ≡ None
  pub point : done.point ≡ due
  pub told : told_by answer out ≡ Ok done.reply
  pub mask : new.mask ≡ done.mask
  pub descriptors : new.descriptors ≡ done.descriptors

low_due : (due : Bool) → 0 + points_due due ≤ 2
low_due true = omega arith
low_due false = omega arith

-- a plan without an edit changes no tree
unedited : (g : Request) (s : State) (p : Plan) (st : StoreState) → p.edit ≡ None → StoreStands st s → StoreStands st (planned g s p)
unedited g s p st none stands = record {
  told = stands.told;
  whole = stands.whole;
  views = let z = planned g s p in
      alike_states st.origin.request st.committed st.working s z
      (ap (λ (e : Option Edit). (edited g s e).tree) none) (ap (λ (e : Option Edit). (edited g s e).committed) none) (ap (λ (e : Option Edit). (edited g s e).dirty) none)
      stands.views;
}

-- the last point is that of the state before
unedited_last : (g : Request) (s : State) (p : Plan) → p.edit ≡ None → (planned g s p).committed ≡ s.committed
unedited_last g s p none = ap (λ (e : Option Edit). (edited g s e).committed) none

module _ (command : Asked) (old new : VolumeState) (out : List ℕ) where
  -- it was refused after some reading
  pub did_refused : (e : Refusal) → EndsBy None old.store new.store → KeepsPoint old.store new.store → KeepsWorking old.store new.store
      → new.mask ≡ old.mask → new.descriptors ≡ old.descriptors → KeepsMask command (Err (Refused e)) old new → KeepsOpen command (Err (Refused e)) old new
      → (IsOfBytes command → (s : State) → VolumeStands old s → plan (request_of old) s command ≡ Err e) → Did command (Err (Refused e)) old new out
  did_refused e ends point working mask descriptors masks opens plans = record {
    ends = ends;
    points = takes_none 2 old.store new.store point.points;
    mask = masks;
    opens = opens;
    buffer = tt;
    meets = λ bytes limits s stands.
        meets_refused (request_of old) s command e old new out (plans bytes s stands)
        (comes_to old.store new.store s s point.points refl (stands_still old.store new.store s ends point working stands.store))
        (mask ∙ stands.mask) (descriptors ∙ stands.descriptors);
  }

  -- it was refused at once
  pub did_refused_here : (e : Refusal) → old.store.live ≡ true → new.store ≡ old.store
      → new.mask ≡ old.mask → new.descriptors ≡ old.descriptors → KeepsMask command (Err (Refused e)) old new → KeepsOpen command (Err (Refused e)) old new
      → (IsOfBytes command → (s : State) → VolumeStands old s → plan (request_of old) s command ≡ Err e) → Did command (Err (Refused e)) old new out
  did_refused_here e live same mask descriptors masks opens plans =
      did_refused e (subst (EndsBy None old.store) (sym same) (ends_none old.store live))
      (subst (KeepsPoint old.store) (sym same) (record { committed = refl; points = refl; under_way = refl }))
      (subst (KeepsWorking old.store) (sym same) (record { working = refl; places = refl })) mask descriptors masks opens plans

  -- a fault came in some reading
  pub did_fault : (fault : StoreFault) → EndsBy (Some fault) old.store new.store → KeepsPoint old.store new.store
      → new.mask ≡ old.mask → (may_open_or_close command ≡ false → opens_of new ≡ opens_of old)
      → ((s : State) → VolumeStands old s → IsOfNoDamage (Some fault)) → Did command (Err (Fault fault)) old new out
  did_fault fault ends point mask opens undamaged = record {
    ends = ends;
    points = takes_none 2 old.store new.store point.points;
    mask = mask_at_fault command fault old new mask;
    opens = open_at_fault command fault old new opens;
    buffer = tt;
    meets = λ bytes limits s stands. meets_ended fault (step (request_of old) s command) old new s out (undamaged s stands) ends point stands.store;
  }

  module _ (mid : StoreState) (due : Bool) (ends : EndsBy None old.store mid) (point : KeepsPoint old.store mid) (working : KeepsWorking old.store mid) where
    -- the parts up to the point, and the point
    settled : (fault : Option StoreFault) (g : Request) (s : State) (p : Plan) → p.edit ≡ None → p.point ≡ due → VolumeStands old s
        → ((z : State) → StoreStands mid z → Comes fault mid new.store z (point_after due z) (trees_after due z))
        → Comes fault old.store new.store s (point_after p.point (planned g s p)) (trees_after p.point (planned g s p))
    settled fault g s p none is stands comes =
        let z = planned g s p in
        let there : StoreStands mid z = unedited g s p mid none (stands_still old.store mid s ends point working stands.store) in
        rw is (comes_on fault old.store mid new.store s z (point_after due z) [] (trees_after due z)
        (comes_to old.store mid s z point.points (unedited_last g s p none) there) (sym (unedited_last g s p none)) (comes z there))

    -- it was answered after some reading, and a point where one was due
    pub did_settle : (answer : Answer) → EndsBy None mid new.store → TakesUpTo (points_due due) mid new.store
        → ((z : State) → StoreStands mid z → Comes None mid new.store z (point_after due z) (trees_after due z))
        → KeepsMask command (Ok answer) old new → KeepsOpen command (Ok answer) old new → IsInBuffer answer
        → (IsOfBytes command → (s : State) → VolumeStands old s → Settles (request_of old) s command due answer out new) → Did command (Ok answer) old new out
    did_settle answer ended most comes masks opens buffer plans = record {
      ends = ends_on None old.store mid new.store ends ended;
      points = takes_on 0 (points_due due) 2 old.store mid new.store (low_due due) (takes_none 0 old.store mid point.points) most;
      mask = masks;
      opens = opens;
      buffer = buffer;
      meets = λ bytes limits s stands.
          let k = plans bytes s stands in
          meets_kept (request_of old) s command k.done answer old new out k.is k.none
          (settled None (request_of old) s k.done k.none k.point stands comes) k.told k.mask k.descriptors;
    }

    -- a fault came in the point
    pub did_point_fault : (fault : StoreFault) → EndsBy (Some fault) mid new.store → TakesUpTo (points_due due) mid new.store
        → ((z : State) → StoreStands mid z → Comes (Some fault) mid new.store z (point_after due z) (trees_after due z))
        → new.mask ≡ old.mask → (may_open_or_close command ≡ false → opens_of new ≡ opens_of old)
        → ((s : State) → VolumeStands old s → (p : Plan) × (plan (request_of old) s command ≡ Ok p) × (p.edit ≡ None) × (p.point ≡ due))
        → Did command (Err (Fault fault)) old new out
    did_point_fault fault ended most comes mask opens plans = record {
      ends = ends_on (Some fault) old.store mid new.store ends ended;
      points = takes_on 0 (points_due due) 2 old.store mid new.store (low_due due) (takes_none 0 old.store mid point.points) most;
      mask = mask_at_fault command fault old new mask;
      opens = open_at_fault command fault old new opens;
      buffer = tt;
      meets = λ bytes limits s stands.
          let k = plans s stands in
          meets_kept_fault (request_of old) s (point_after k.0.point (planned (request_of old) s k.0)) command k.0 fault old new out k.1 k.2
          (settled (Some fault) (request_of old) s k.0 k.2 k.3 stands comes);
    }

module _ (command : Asked) (old new : VolumeState) (out : List ℕ) (live : old.store.live ≡ true) (due : Bool) where
  -- it was answered with nothing read, and a point where one was due
  pub did_pointed : (answer : Answer) → EndsBy None old.store new.store → TakesUpTo (points_due due) old.store new.store
      → ((z : State) → StoreStands old.store z → Comes None old.store new.store z (point_after due z) (trees_after due z))
      → KeepsMask command (Ok answer) old new → KeepsOpen command (Ok answer) old new → IsInBuffer answer
      → (IsOfBytes command → (s : State) → VolumeStands old s → Settles (request_of old) s command due answer out new) → Did command (Ok answer) old new out
  did_pointed answer ended most comes masks opens buffer plans =
      did_settle command old new out old.store due (ends_none old.store live) (record { committed = refl; points = refl; under_way = refl })
      (record { working = refl; places = refl }) answer ended most comes masks opens buffer plans

  -- a fault came in that point
  pub did_pointed_fault : (fault : StoreFault) → EndsBy (Some fault) old.store new.store → TakesUpTo (points_due due) old.store new.store
      → ((z : State) → StoreStands old.store z → Comes (Some fault) old.store new.store z (point_after due z) (trees_after due z))
      → new.mask ≡ old.mask → (may_open_or_close command ≡ false → opens_of new ≡ opens_of old)
      → ((s : State) → VolumeStands old s → (p : Plan) × (plan (request_of old) s command ≡ Ok p) × (p.edit ≡ None) × (p.point ≡ due))
      → Did command (Err (Fault fault)) old new out
  did_pointed_fault fault ended most comes mask opens plans =
      did_point_fault command old new out old.store due (ends_none old.store live) (record { committed = refl; points = refl; under_way = refl })
      (record { working = refl; places = refl }) fault ended most comes mask opens plans

-- it was answered at once
pub did_here : (command : Asked) (old new : VolumeState) (out : List ℕ) (answer : Answer) → old.store.live ≡ true → new.store ≡ old.store
    → KeepsMask command (Ok answer) old new → KeepsOpen command (Ok answer) old new → IsInBuffer answer
    → (IsOfBytes command → (s : State) → VolumeStands old s → Settles (request_of old) s command false answer out new) → Did command (Ok answer) old new out
did_here command old new out answer live same masks opens buffer plans =
    did_pointed command old new out live false answer (subst (EndsBy None old.store) (sym same) (ends_none old.store live))
    (takes_none 0 old.store new.store (ap (λ (st : StoreState). st.points) same))
    (λ z stands. subst (λ (st : StoreState). Comes None old.store st z z []) (sym same) (comes_none old.store z stands)) masks opens buffer plans
