-- A command that was answered after some reading.
use Rattle.std.proofs.Common.{◌≡◌, ◌∙◌, ℕ, Bool, false, List, [], refl, sym, ap, subst, arith, None}
use Rattle.std.specs.Prelude.{Result, Ok}
use Rattle.edge_base.specs.outside.Below.{Origin}
use Rattle.edge_store.specs.Calls.{KeepsPoint, KeepsWorking}
use Rattle.edge_model.specs.declared.command.Answer.{Answer}
use Rattle.edge_model.specs.Asked.{Asked}
use Rattle.edge_model.specs.Asking.{AnswersMask, IsInBuffer, OpensAfter, mask_after}
use Rattle.edge_model.specs.Bytes.{IsOfBytes}
use Rattle.edge_model.specs.State.{State}
use Rattle.edge_model.specs.Step.{step}
use Rattle.edge_steps.specs.Session.{IsSession}
use Rattle.edge_volume.specs.declared.stop.Stop.{Stop}
use Rattle.edge_volume.specs.Stopped.{IfAnswered, fault_of}
use Rattle.edge_volume.specs.Volume.{VolumeState, VolumeStands, opens_of, request_of}
use Rattle.edge_volume.specs.Parts.{EndsBy}
use Rattle.edge_volume.specs.Did.{KeepsMask, KeepsOpen, Did, Meets, answer_of}
use Rattle.edge_volume.proofs.ComeLaws.{comes_none, comes_on, comes_to}
use Rattle.edge_volume.proofs.DidLaws.{Settles, did_settle}
use Rattle.edge_volume.proofs.FaultLaws.{ends_none, ends_on, takes_none, takes_on}
use Rattle.edge_volume.proofs.LookLaws.{stands_still}
use Rattle.edge_volume.proofs.OpenLaws.{same_opens}
use Rattle.edge_calls.proofs.RoomLaws.{IsLooked}

pub did_looked : (command : Asked) (old new : VolumeState) (out : List ℕ) → EndsBy None old.store new.store → KeepsPoint old.store new.store
    → KeepsWorking old.store new.store → (answer : Answer) → KeepsMask command (Ok answer) old new → KeepsOpen command (Ok answer) old new → IsInBuffer answer
    → (IsOfBytes command → (s : State) → VolumeStands old s → Settles (request_of old) s command false answer out new) → Did command (Ok answer) old new out
did_looked command old new out ends point working answer masks opens buffer plans =
    did_settle command old new out new.store false ends point working answer (ends_none new.store ends.live) (takes_none 0 new.store new.store refl)
    (λ z stands. comes_none new.store z stands) masks opens buffer plans

-- what a command did after some reading it did as a whole
module _ (command : Asked) (result : Result Answer Stop) (old mid new : VolumeState) (out : List ℕ) (looked : IsLooked old.store mid.store) (mask : mid.mask ≡ old.mask)
    (are : mid.descriptors ≡ old.descriptors) (did : Did command result mid new out) where
  stands_after : (s : State) → VolumeStands old s → VolumeStands mid s
  stands_after s stands = record {
    store = stands_still old.store mid.store s looked.ends looked.point looked.working stands.store;
    session = subst (λ (o : Origin). IsSession o.request s) (sym looked.ends.origin) stands.session;
    mask = mask ∙ stands.mask;
    descriptors = are ∙ stands.descriptors;
  }

  pub did_after_looks : Did command result old new out
  did_after_looks = record {
    ends = ends_on (fault_of result) old.store mid.store new.store looked.ends did.ends;
    points = takes_on 0 2 2 old.store mid.store new.store (omega arith) (takes_none 0 old.store mid.store looked.point.points) did.points;
    mask = record {
      after = λ none. did.mask.after none ∙ ap (λ (m : ℕ). mask_after m command) mask;
      told = subst (λ (m : ℕ). IfAnswered result (λ r. AnswersMask m command (answer_of r))) mask did.mask.told;
      stays = λ kept. did.mask.stays kept ∙ mask;
    };
    opens = record {
      after = subst (λ (opens : ℕ → Bool). IfAnswered result (λ r. OpensAfter command (answer_of r) opens (opens_of new))) (same_opens old mid are) did.opens.after;
      stays = λ kept. did.opens.stays kept ∙ same_opens old mid are;
    };
    buffer = did.buffer;
    meets = λ bytes limits s stands.
        let on = stands_after s stands in
        let m = subst (λ (o : Origin). Meets (step o.request s command) result mid new s out) looked.ends.origin (did.meets bytes limits s on) in
        let o = step (request_of old) s command in
        record {
          comes = comes_on (fault_of result) old.store mid.store new.store s s o.state [] o.points (comes_to old.store mid.store s s looked.point.points refl on.store) refl m.comes;
          answer = m.answer;
          mask = m.mask;
          descriptors = m.descriptors;
        };
  }
