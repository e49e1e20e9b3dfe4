-- What open does, at its ends that change no tree, and the descriptor that it enters.
use Rattle.std.proofs.Common.{◌≡◌, ◌∙◌, ℕ, Bool, true, false, List, is_some, unwrap_or, refl, sym, ap, Option, Some, None}
use Rattle.std.specs.Prelude.{slice_get, Ok, Err}
use Rattle.std.proofs.lemmas.Bool.{leb-false}
use Rattle.edge_base.specs.commands.Descriptors.{Descriptor, Descriptors, first_empty, is_full, most_open}
use Rattle.edge_store.specs.Calls.{KeepsPoint, KeepsWorking}
use Rattle.edge_model.specs.declared.command.Answer.TheVariants as a
use Rattle.edge_model.specs.declared.command.OpenFlags.{OpenFlags}
use Rattle.edge_model.specs.Asked as command
use Rattle.edge_model.specs.Open.{entered, file_descriptor, open_plan}
use Rattle.edge_model.specs.State.{State, keeps}
use Rattle.edge_volume.specs.declared.stop.Stop.{Stop}
use Rattle.edge_volume.specs.declared.stop.Stop.TheVariants.{Refused, Fault}
use Rattle.edge_volume.specs.Nodes.{OnTree}
use Rattle.edge_volume.specs.Stopped.{fault_of, IfAnswered}
use Rattle.edge_volume.specs.Volume.{VolumeState, VolumeStands, request_of}
use Rattle.edge_volume.specs.Parts.{EndsBy, IsOfNoDamage}
use Rattle.edge_volume.specs.Did.{KeepsMask, KeepsOpen, Did}
use Rattle.edge_volume.proofs.DidLaws.{mask_kept, did_refused, did_fault, did_here}
use Rattle.edge_volume.proofs.OpenLaws.{same_opens, set_opens, set_here}
use Rattle.edge_calls.specs.declared.open.Opening.{Opening}
use Rattle.edge_calls.specs.declared.open.Opening.TheVariants.{There}
use Rattle.edge_calls.specs.Openings.{OpensAs}

-- ---- the descriptor that is entered

-- An entered file: the table had room, and one descriptor more is open.
pub record IsEntered (flags : OpenFlags) (n : ℕ) (old new : Descriptors) : Type 0 where
  pub room : is_full old ≡ false
  pub free : slice_get old (first_empty old) ≡ Some None
  pub are : new ≡ entered old (file_descriptor flags n)

module _ (path : List ℕ) (flags : OpenFlags) (n : ℕ) (old new : VolumeState) (is : IsEntered flags n old.descriptors new.descriptors) where
  pub file_opens : KeepsOpen (command.open_file path flags) (Ok (a.Number (first_empty old.descriptors))) old new
  file_opens = record {
    after = (
      leb-false most_open (first_empty old.descriptors) is.room,
      ap (λ (o : Option (Option Descriptor)). is_some (unwrap_or o None)) is.free,
      set_opens old new (first_empty old.descriptors) (Some (file_descriptor flags n)) is.are
          (set_here old.descriptors (first_empty old.descriptors) None (Some (file_descriptor flags n)) is.free),
    );
    stays = λ x. absurd (cc);
  }

  pub file_mask : new.mask ≡ old.mask → KeepsMask (command.open_file path flags) (Ok (a.Number (first_empty old.descriptors))) old new
  file_mask same = mask_kept (command.open_file path flags) (Ok (a.Number (first_empty old.descriptors))) old new refl (λ answer. tt) same

  -- in a state that the volume stands for
  pub file_entered : (s : State) → VolumeStands old s → new.descriptors ≡ entered s.descriptors (file_descriptor flags n)
  file_entered s stands = is.are ∙ ap (λ (ds : Descriptors). entered ds (file_descriptor flags n)) stands.descriptors

-- ---- a file that is there, and stays as it is

pub opened_kept : (path : List ℕ) (flags : OpenFlags) (n : ℕ) (old new : VolumeState) (out : List ℕ) → old.store.live ≡ true → new.store ≡ old.store → new.mask ≡ old.mask
    → flags.truncate ≡ false → IsEntered flags n old.descriptors new.descriptors → OpensAs old.store old.descriptors path flags (Ok (There n))
    → Did (command.open_file path flags) (Ok (a.Number (first_empty old.descriptors))) old new out
opened_kept path flags n old new out live same mask kept is opens =
    did_here (command.open_file path flags) old new out (a.Number (first_empty old.descriptors)) live same (file_mask path flags n old new is mask) (file_opens path flags n old new is) tt
    (λ bytes s stands. record {
      done = record (keeps s (command.number (first_empty s.descriptors))) { descriptors = entered s.descriptors (file_descriptor flags n) };
      is = opens s stands.store stands.session.trees.tree (sym stands.descriptors) ∙ ap (λ (b : Bool). Ok (open_plan b (request_of old) s flags n)) kept;
      none = refl;
      point = refl;
      told = ap (λ (ds : Descriptors). Ok (command.number (first_empty ds))) stands.descriptors;
      mask = mask ∙ stands.mask;
      descriptors = file_entered path flags n old new is s stands;
    })

-- ---- it is refused, or a fault comes, before anything changes

module _ (path : List ℕ) (flags : OpenFlags) (old new : VolumeState) (out : List ℕ) (mask : new.mask ≡ old.mask) (are : new.descriptors ≡ old.descriptors) where
  pub open_stopped : (stop : Stop) → EndsBy (fault_of {T = Opening} (Err stop)) old.store new.store → KeepsPoint old.store new.store
      → (fault_of {T = Opening} (Err stop) ≡ None → KeepsWorking old.store new.store) → OnTree old.store (λ t. IsOfNoDamage (fault_of {T = Opening} (Err stop)))
      → IfAnswered {T = Opening} (Err stop) (OpensAs old.store old.descriptors path flags) → Did (command.open_file path flags) (Err stop) old new out
  open_stopped (Refused e) ends point reads undamaged opens =
      did_refused (command.open_file path flags) old new out e ends point (reads refl) mask are
      (mask_kept (command.open_file path flags) (Err (Refused e)) old new refl (λ answer. tt) mask)
      (record { after = same_opens old new are; stays = λ x. same_opens old new are })
      (λ bytes s stands. opens s stands.store stands.session.trees.tree (sym stands.descriptors))
  open_stopped (Fault fault) ends point reads undamaged opens =
      did_fault (command.open_file path flags) old new out fault ends point mask (λ x. same_opens old new are)
      (λ s stands. undamaged s stands.store stands.session.trees.tree)
