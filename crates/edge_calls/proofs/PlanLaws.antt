-- What commands plan that name a descriptor and change no tree.
use Rattle.std.proofs.Common.{◌≡◌, ℕ, nat_lt, true, false, refl, slice_set, Option, Some, None}
use Rattle.std.specs.Prelude.{Ok, Err}
use Rattle.edge_base.specs.commands.Descriptors.{Descriptor, descriptor_at}
use Rattle.edge_base.specs.commands.Events as event
use Rattle.edge_base.specs.commands.Refusals.{or_refuse}
use Rattle.edge_base.specs.declared.geometry.Request.{Request}
use Rattle.edge_base.specs.declared.refusal.Refusal.{Refusal}
use Rattle.edge_base.specs.declared.refusal.Refusal.TheVariants as refusal
use Rattle.edge_base.specs.layout.Places.{max_size_of}
use Rattle.edge_model.specs.Asked as command
use Rattle.edge_model.specs.Open.{open_at, file_at, directory_at, moved, plan_close, plan_seek, plan_fsync, plan_rewind}
use Rattle.edge_model.specs.State.{State, keeps}
use Rattle.edge_model.specs.Step.{plan, plan_set_mask}

module _ (g : Request) (s : State) (h : ℕ) where
  pub close_refused : (e : Refusal) → open_at s h ≡ Err e → plan g s (command.close h) ≡ Err e
  unfolding plan_close
  close_refused e is = rw is refl

  pub close_plan : (d : Descriptor) → open_at s h ≡ Ok d
      → plan g s (command.close h) ≡ Ok (record (keeps s command.done) { descriptors = slice_set s.descriptors h None; point = event.has_event s.mask event.close })
  unfolding plan_close
  close_plan d is = rw is refl

  pub fsync_refused : (e : Refusal) → open_at s h ≡ Err e → plan g s (command.fsync h) ≡ Err e
  unfolding plan_fsync
  fsync_refused e is = rw is refl

  pub fsync_plan : (d : Descriptor) → open_at s h ≡ Ok d
      → plan g s (command.fsync h) ≡ Ok (record (keeps s command.done) { point = event.has_event s.mask event.fsync })
  unfolding plan_fsync
  fsync_plan d is = rw is refl

  pub seek_refused : (to : ℕ) (e : Refusal) → file_at s h ≡ Err e → plan g s (command.seek h to) ≡ Err e
  unfolding plan_seek
  seek_refused to e is = rw is refl

  pub seek_invalid : (to : ℕ) (d : Descriptor) → file_at s h ≡ Ok d → nat_lt (max_size_of g) to ≡ true → plan g s (command.seek h to) ≡ Err refusal.Invalid
  unfolding plan_seek
  seek_invalid to d is past = rw (is, past) refl

  pub seek_plan : (to : ℕ) (d : Descriptor) → file_at s h ≡ Ok d → nat_lt (max_size_of g) to ≡ false
      → plan g s (command.seek h to) ≡ Ok (record (keeps s command.done) { descriptors = moved s.descriptors h d to })
  unfolding plan_seek
  seek_plan to d is within = rw (is, within) refl

  pub rewind_refused : (e : Refusal) → directory_at s h ≡ Err e → plan g s (command.rewind h) ≡ Err e
  unfolding plan_rewind
  rewind_refused e is = rw is refl

  pub rewind_plan : (d : Descriptor) → directory_at s h ≡ Ok d → plan g s (command.rewind h) ≡ Ok (record (keeps s command.done) { descriptors = moved s.descriptors h d 0 })
  unfolding plan_rewind
  rewind_plan d is = rw is refl

pub set_mask_refused : (g : Request) (s : State) (events : ℕ) → nat_lt event.greatest_mask events ≡ true → plan g s (command.set_mask events) ≡ Err refusal.Invalid
unfolding plan_set_mask
set_mask_refused g s events past = rw past refl

pub set_mask_plan : (g : Request) (s : State) (events : ℕ) → nat_lt event.greatest_mask events ≡ false
    → plan g s (command.set_mask events) ≡ Ok (record (keeps s command.done) { mask = events })
unfolding plan_set_mask
set_mask_plan g s events within = rw within refl

-- ---- descriptors

module _ (s : State) (h : ℕ) where
  pub none_open_at : descriptor_at s.descriptors h ≡ None → open_at s h ≡ Err refusal.BadDescriptor
  none_open_at is = rw is refl

  pub some_open_at : (d : Descriptor) → descriptor_at s.descriptors h ≡ Some d → open_at s h ≡ Ok d
  some_open_at d is = rw is refl

  pub open_is_at : (d : Descriptor) → open_at s h ≡ Ok d → descriptor_at s.descriptors h ≡ Some d
  open_is_at d is = by (descriptor_at s.descriptors h) is
    where
      by : (o : Option Descriptor) → or_refuse o refusal.BadDescriptor ≡ Ok d → o ≡ Some d
      by None e = absurd (cc)
      by (Some x) e = cc
