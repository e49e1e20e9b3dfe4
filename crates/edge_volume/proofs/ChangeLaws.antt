-- What a command did that changes the tree, by how its room was judged: at each of its ends.
use Rattle.std.proofs.Common.{◌≡◌, ◌∙◌, ℕ, true, false, List, Option, Some, None}
use Rattle.std.specs.Prelude.{Ok, Err}
use Rattle.edge_base.specs.declared.geometry.Request.{Request}
use Rattle.edge_base.specs.declared.refusal.Refusal.TheVariants.{NoSpace}
use Rattle.edge_store.specs.declared.fault.StoreFault.{StoreFault}
use Rattle.edge_model.specs.declared.command.Answer.{Answer}
use Rattle.edge_model.specs.Asked.{Asked, told_by}
use Rattle.edge_model.specs.Asking.{IsInLimits, IsInBuffer, may_open_or_close}
use Rattle.edge_model.specs.Bytes.{IsOfBytes}
use Rattle.edge_model.specs.State.{State, Plan, judged, planned}
use Rattle.edge_model.specs.Step.{plan}
use Rattle.edge_volume.specs.declared.stop.Stop.TheVariants.{Refused, Fault}
use Rattle.edge_volume.specs.Volume.{VolumeState, VolumeStands, request_of, opens_of, point_after, trees_after}
use Rattle.edge_volume.specs.Parts.{EndsBy, TakesUpTo, Comes}
use Rattle.edge_volume.specs.Did.{KeepsMask, KeepsOpen, Did}
use Rattle.edge_volume.proofs.DidLaws.{mask_at_fault, open_at_fault}
use Rattle.edge_volume.proofs.StepLaws.{meets_unfit, meets_fit, meets_fit_fault, meets_judging_fault}

-- A command of a state as it is judged: what it plans, and how its room was judged up to a moment.
pub record IsJudged (g : Request) (s : State) (command : Asked) (fault : Option StoreFault) (old mid : VolumeState) : Type 0 where
  pub done : Plan
  pub is : plan g s command ≡ Ok done
  pub judge : Comes fault old.store mid.store s (judged g s done.edit).state (judged g s done.edit).points

-- It fits, and was carried out from then on, with its point.
pub record IsCarried (g : Request) (s : State) (command : Asked) (fault : Option StoreFault) (old mid new : VolumeState) : Type 0 where
  pub judged_so : IsJudged g s command None old mid
  pub fits : (judged g s judged_so.done.edit).fits ≡ true
  pub carry : Comes fault mid.store new.store (judged g s judged_so.done.edit).state
      (point_after judged_so.done.point (planned g (judged g s judged_so.done.edit).state judged_so.done))
      (trees_after judged_so.done.point (planned g (judged g s judged_so.done.edit).state judged_so.done))

module _ (command : Asked) (old new : VolumeState) (out : List ℕ) where
  -- there was no room
  pub did_unfit : EndsBy None old.store new.store → TakesUpTo 2 old.store new.store → new.mask ≡ old.mask → new.descriptors ≡ old.descriptors
      → KeepsMask command (Err (Refused NoSpace)) old new → KeepsOpen command (Err (Refused NoSpace)) old new
      → (IsOfBytes command → IsInLimits command → (s : State) → VolumeStands old s
      → (j : IsJudged (request_of old) s command None old new) × ((judged (request_of old) s j.done.edit).fits ≡ false))
      → Did command (Err (Refused NoSpace)) old new out
  did_unfit ends most mask descriptors masks opens is = record {
    ends = ends;
    points = most;
    mask = masks;
    opens = opens;
    buffer = tt;
    meets = λ bytes limits s stands.
        let j = is bytes limits s stands in
        meets_unfit (request_of old) s command j.0.done j.0.is old old new out j.1 j.0.judge (trans_mask mask stands) (trans_descriptors descriptors stands);
  }
    where
      trans_mask : {s : State} → new.mask ≡ old.mask → VolumeStands old s → new.mask ≡ s.mask
      trans_mask same stands = same ∙ stands.mask

      trans_descriptors : {s : State} → new.descriptors ≡ old.descriptors → VolumeStands old s → new.descriptors ≡ s.descriptors
      trans_descriptors same stands = same ∙ stands.descriptors

  -- a fault came as room was judged
  pub did_judging_fault : (fault : StoreFault) → EndsBy (Some fault) old.store new.store → TakesUpTo 2 old.store new.store → new.mask ≡ old.mask
      → (may_open_or_close command ≡ false → opens_of new ≡ opens_of old)
      → (IsOfBytes command → IsInLimits command → (s : State) → VolumeStands old s → IsJudged (request_of old) s command (Some fault) old new)
      → Did command (Err (Fault fault)) old new out
  did_judging_fault fault ends most mask opens is = record {
    ends = ends;
    points = most;
    mask = mask_at_fault command fault old new mask;
    opens = open_at_fault command fault old new opens;
    buffer = tt;
    meets = λ bytes limits s stands.
        let j = is bytes limits s stands in
        meets_judging_fault (request_of old) s (judged (request_of old) s j.done.edit).state command j.done fault old new out j.is j.judge;
  }

  -- a fault came as it was carried out, or in the point at its end
  pub did_changed_fault : (mid : VolumeState) (fault : StoreFault) → EndsBy (Some fault) old.store new.store → TakesUpTo 2 old.store new.store → new.mask ≡ old.mask
      → (may_open_or_close command ≡ false → opens_of new ≡ opens_of old)
      → (IsOfBytes command → IsInLimits command → (s : State) → VolumeStands old s → IsCarried (request_of old) s command (Some fault) old mid new)
      → Did command (Err (Fault fault)) old new out
  did_changed_fault mid fault ends most mask opens is = record {
    ends = ends;
    points = most;
    mask = mask_at_fault command fault old new mask;
    opens = open_at_fault command fault old new opens;
    buffer = tt;
    meets = λ bytes limits s stands.
        let k = is bytes limits s stands in
        let j = k.judged_so in
        meets_fit_fault (request_of old) s command j.done j.is old mid new out
        (point_after j.done.point (planned (request_of old) (judged (request_of old) s j.done.edit).state j.done)) fault k.fits j.judge k.carry;
  }

  -- it was carried out, and answered
  pub did_changed : (mid : VolumeState) (answer : Answer) → EndsBy None old.store new.store → TakesUpTo 2 old.store new.store
      → KeepsMask command (Ok answer) old new → KeepsOpen command (Ok answer) old new → IsInBuffer answer
      → (IsOfBytes command → IsInLimits command → (s : State) → VolumeStands old s
      → (k : IsCarried (request_of old) s command None old mid new) × (told_by answer out ≡ Ok k.judged_so.done.reply)
      × (new.mask ≡ k.judged_so.done.mask) × (new.descriptors ≡ k.judged_so.done.descriptors))
      → Did command (Ok answer) old new out
  did_changed mid answer ends most masks opens buffer is = record {
    ends = ends;
    points = most;
    mask = masks;
    opens = opens;
    buffer = buffer;
    meets = λ bytes limits s stands.
        let k = is bytes limits s stands in
        let j = k.0.judged_so in
        meets_fit (request_of old) s command j.done j.is old mid new out answer k.0.fits j.judge k.0.carry k.1 k.2 k.3;
  }
