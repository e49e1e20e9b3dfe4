-- The one relation of every command. old and new are a volume as the command begins and after it, and out is the buffer after it.
use Rattle.std.specs.Prelude.{◌≡◌, ℕ, false, List, None, Result, Ok, Err}
use Rattle.edge_base.specs.declared.refusal.Refusal.{Refusal}
use Rattle.edge_model.specs.declared.command.Answer.{Answer}
use Rattle.edge_model.specs.declared.command.Answer.TheVariants as a
use Rattle.edge_model.specs.Asked.{Asked, told_by}
use Rattle.edge_model.specs.Asking.{IsInLimits, IsInBuffer, AnswersMask, OpensAfter, mask_after, may_set_mask, may_open_or_close}
use Rattle.edge_model.specs.Bytes.{IsOfBytes}
use Rattle.edge_model.specs.State.{State, Outcome}
use Rattle.edge_model.specs.Step.{step}
use Rattle.edge_volume.specs.declared.stop.Stop.{Stop}
use Rattle.edge_volume.specs.Stopped.{fault_of, IfAnswered}
use Rattle.edge_volume.specs.Parts.{EndsBy, TakesUpTo, Comes}
use Rattle.edge_volume.specs.Volume.{VolumeState, VolumeStands, request_of, opens_of}

-- a refusal is an answer too
abbrev pub answer_of : Result Answer Refusal → Answer
answer_of (Ok answer) = answer
answer_of (Err refusal) = a.No refusal

-- The mask changes by its own command alone, and is told.
pub record KeepsMask (command : Asked) (result : Result Answer Stop) (old new : VolumeState) : Type 0 where
  pub after : fault_of result ≡ None → new.mask ≡ mask_after old.mask command
  pub told : IfAnswered result (λ r. AnswersMask old.mask command (answer_of r))
  pub stays : may_set_mask command ≡ false → new.mask ≡ old.mask

-- Opening and closing alone change which descriptors are open.
pub record KeepsOpen (command : Asked) (result : Result Answer Stop) (old new : VolumeState) : Type 0 where
  pub after : IfAnswered result (λ r. OpensAfter command (answer_of r) (opens_of old) (opens_of new))
  pub stays : may_open_or_close command ≡ false → opens_of new ≡ opens_of old

-- It answers what an outcome answers, and comes to its state over its points.
pub record Meets (o : Outcome) (result : Result Answer Stop) (old new : VolumeState) (s : State) (out : List ℕ) : Type 0 where
  pub comes : Comes (fault_of result) old.store new.store s o.state o.points
  pub answer : IfAnswered result (λ r. told_by (answer_of r) out ≡ o.answer)
  pub mask : fault_of result ≡ None → new.mask ≡ o.state.mask
  pub descriptors : fault_of result ≡ None → new.descriptors ≡ o.state.descriptors

pub record Did (command : Asked) (result : Result Answer Stop) (old new : VolumeState) (out : List ℕ) : Type 0 where
  pub ends : EndsBy (fault_of result) old.store new.store
  pub points : TakesUpTo 2 old.store new.store
  pub mask : KeepsMask command result old new
  pub opens : KeepsOpen command result old new
  pub buffer : IfAnswered result (λ r. IsInBuffer (answer_of r))
  pub meets : IsOfBytes command → IsInLimits command → (s : State) → VolumeStands old s
      → Meets (step (request_of old) s command) result old new s out
