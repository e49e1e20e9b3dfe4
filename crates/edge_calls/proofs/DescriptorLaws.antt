-- What close, seek, fsync and rewind do, at each of their ends.
use Rattle.std.proofs.Common.{◌≡◌, ◌∙◌, ℕ, ◌<◌, ◌≤◌, not, Bool, true, false, List, slice_set, is_some, refl, sym, ap, Option, Some, None}
use Rattle.std.specs.Prelude.{Ok, Err, IsSome}
use Rattle.std.proofs.lemmas.Bool.{lt-ltb, le-ltb}
use Rattle.edge_base.specs.commands.Descriptors.{Descriptor, Descriptors, descriptor_at}
use Rattle.edge_base.specs.commands.Events as event
use Rattle.edge_base.specs.commands.Refusals.{◌>>=◌, or_refuse, refuse_if}
use Rattle.edge_base.specs.declared.refusal.Refusal.{Refusal}
use Rattle.edge_base.specs.declared.refusal.Refusal.TheVariants as refusal
use Rattle.edge_base.specs.layout.Places.{max_size_of}
use Rattle.edge_store.specs.declared.fault.StoreFault.{StoreFault}
use Rattle.edge_model.specs.declared.command.Answer.{Answer}
use Rattle.edge_model.specs.declared.command.Answer.TheVariants as a
use Rattle.edge_model.specs.Asked as command
use Rattle.edge_model.specs.Asking.{HasClosed, with_open}
use Rattle.edge_model.specs.Open.{open_at, file_at, directory_at, moved}
use Rattle.edge_model.specs.State.{State, keeps, first_state}
use Rattle.edge_model.specs.Step.{plan}
use Rattle.edge_volume.specs.declared.stop.Stop.TheVariants.{Refused, Fault}
use Rattle.edge_volume.specs.Volume.{VolumeState, StoreStands, VolumeStands, request_of, opens_of, point_after, trees_after, points_due}
use Rattle.edge_volume.specs.Parts.{EndsBy, TakesUpTo, Comes}
use Rattle.edge_volume.specs.Did.{Did}
use Rattle.edge_volume.proofs.DidLaws.{mask_kept, did_refused_here, did_here, did_pointed, did_pointed_fault}
use Rattle.edge_volume.proofs.OpenLaws.{set_none, set_opens, moved_opens, same_opens}
use Rattle.edge_calls.proofs.PlanLaws.{close_refused, close_plan, fsync_refused, fsync_plan, seek_refused, seek_invalid, seek_plan, rewind_refused, rewind_plan, none_open_at, some_open_at}

-- ---- descriptors

pub not_some : {A : Type 0} (o : Option A) → (IsSome o → false ≡ true) → o ≡ None
not_some None f = refl
not_some (Some x) f = absurd (let e : false ≡ true = f refl in cc)

pub some_is : {A : Type 0} (o : Option A) → IsSome o → (x : A) × (o ≡ Some x)
some_is None h = absurd (let e : false ≡ true = h in cc)
some_is (Some x) h = (x, refl)

closes_none : (h : ℕ) (answer : Answer) (old new : ℕ → Bool) → old h ≡ false → answer ≡ a.No refusal.BadDescriptor → new ≡ old → HasClosed h answer old new
closes_none h answer old new is told same = rw is (told, same)

closes_some : (h : ℕ) (answer : Answer) (old new : ℕ → Bool) → old h ≡ true → answer ≡ a.Done → new ≡ with_open old h false → HasClosed h answer old new
closes_some h answer old new is told same = rw is (told, same)

-- a descriptor of the volume is one of the state
pub state_at : (v : VolumeState) (s : State) (h : ℕ) → VolumeStands v s → descriptor_at s.descriptors h ≡ descriptor_at v.descriptors h
state_at v s h stands = ap (λ (ds : Descriptors). descriptor_at ds h) (sym stands.descriptors)

-- whether a point is due is told by the mask of the state
due_is : (v : VolumeState) (s : State) (e : event.Event) (due : Bool) → VolumeStands v s → due ≡ event.has_event v.mask e → event.has_event s.mask e ≡ due
due_is v s e due stands is = ap (λ (m : ℕ). event.has_event m e) (sym stands.mask) ∙ sym is

module _ (h : ℕ) (old new : VolumeState) (out : List ℕ) (live : old.store.live ≡ true) (mask : new.mask ≡ old.mask) where
  -- ---- close

  pub close_unopened : new.store ≡ old.store → new.descriptors ≡ old.descriptors → descriptor_at old.descriptors h ≡ None
      → Did (command.close h) (Err (Refused refusal.BadDescriptor)) old new out
  close_unopened same are none =
      did_refused_here (command.close h) old new out refusal.BadDescriptor live same mask are
      (mask_kept (command.close h) (Err (Refused refusal.BadDescriptor)) old new refl (λ answer. tt) mask)
      (record { after = closes_none h (a.No refusal.BadDescriptor) (opens_of old) (opens_of new) (ap is_some none) refl (same_opens old new are); stays = λ e. absurd (cc) })
      (λ bytes s stands. close_refused (request_of old) s h refusal.BadDescriptor (none_open_at s h (state_at old s h stands ∙ none)))

  module _ (due : Bool) (is_due : due ≡ event.has_event old.mask event.close) (are : new.descriptors ≡ slice_set old.descriptors h None)
      (d : Descriptor) (is_open : descriptor_at old.descriptors h ≡ Some d) where
    close_plans : (s : State) → VolumeStands old s
        → plan (request_of old) s (command.close h)
        ≡ Ok (record (keeps s command.done) { descriptors = slice_set s.descriptors h None; point = event.has_event s.mask event.close })
    close_plans s stands = close_plan (request_of old) s h d (some_open_at s h d (state_at old s h stands ∙ is_open))

    pub closed : EndsBy None old.store new.store → TakesUpTo (points_due due) old.store new.store
        → ((z : State) → StoreStands old.store z → Comes None old.store new.store z (point_after due z) (trees_after due z))
        → Did (command.close h) (Ok a.Done) old new out
    closed ends most comes =
        did_pointed (command.close h) old new out live due a.Done ends most comes
        (mask_kept (command.close h) (Ok a.Done) old new refl (λ answer. tt) mask)
        (record {
          after = closes_some h a.Done (opens_of old) (opens_of new) (ap is_some is_open) refl (set_opens old new h None are (set_none old.descriptors h));
          stays = λ e. absurd (cc);
        }) tt
        (λ bytes s stands. record {
          done = record (keeps s command.done) { descriptors = slice_set s.descriptors h None; point = event.has_event s.mask event.close };
          is = close_plans s stands;
          none = refl;
          point = due_is old s event.close due stands is_due;
          told = refl;
          mask = mask ∙ stands.mask;
          descriptors = are ∙ ap (λ (ds : Descriptors). slice_set ds h None) stands.descriptors;
        })

    pub close_ended : (fault : StoreFault) → EndsBy (Some fault) old.store new.store → TakesUpTo (points_due due) old.store new.store
        → ((z : State) → StoreStands old.store z → Comes (Some fault) old.store new.store z (point_after due z) (trees_after due z))
        → Did (command.close h) (Err (Fault fault)) old new out
    close_ended fault ends most comes =
        did_pointed_fault (command.close h) old new out live due fault ends most comes mask (λ e. absurd (cc))
        (λ s stands. (
          record (keeps s command.done) { descriptors = slice_set s.descriptors h None; point = event.has_event s.mask event.close },
          close_plans s stands,
          refl,
          due_is old s event.close due stands is_due,
        ))

  module _ (are : new.descriptors ≡ old.descriptors) where
    -- ---- fsync

    pub fsync_stopped : (e : Refusal) → new.store ≡ old.store → ((s : State) → s.descriptors ≡ old.descriptors → Err e ≡ open_at s h)
        → Did (command.fsync h) (Err (Refused e)) old new out
    fsync_stopped e same is =
        did_refused_here (command.fsync h) old new out e live same mask are
        (mask_kept (command.fsync h) (Err (Refused e)) old new refl (λ answer. tt) mask) (record { after = same_opens old new are; stays = λ x. same_opens old new are })
        (λ bytes s stands. fsync_refused (request_of old) s h e (sym (is s (sym stands.descriptors))))

    module _ (due : Bool) (is_due : due ≡ event.has_event old.mask event.fsync) (d : Descriptor) (is : (s : State) → s.descriptors ≡ old.descriptors → Ok d ≡ open_at s h) where
      fsync_plans : (s : State) → VolumeStands old s
          → plan (request_of old) s (command.fsync h) ≡ Ok (record (keeps s command.done) { point = event.has_event s.mask event.fsync })
      fsync_plans s stands = fsync_plan (request_of old) s h d (sym (is s (sym stands.descriptors)))

      pub fsynced : EndsBy None old.store new.store → TakesUpTo (points_due due) old.store new.store
          → ((z : State) → StoreStands old.store z → Comes None old.store new.store z (point_after due z) (trees_after due z))
          → Did (command.fsync h) (Ok a.Done) old new out
      fsynced ends most comes =
          did_pointed (command.fsync h) old new out live due a.Done ends most comes
          (mask_kept (command.fsync h) (Ok a.Done) old new refl (λ answer. tt) mask) (record { after = same_opens old new are; stays = λ x. same_opens old new are }) tt
          (λ bytes s stands. record {
            done = record (keeps s command.done) { point = event.has_event s.mask event.fsync };
            is = fsync_plans s stands;
            none = refl;
            point = due_is old s event.fsync due stands is_due;
            told = refl;
            mask = mask ∙ stands.mask;
            descriptors = are ∙ stands.descriptors;
          })

      pub fsync_ended : (fault : StoreFault) → EndsBy (Some fault) old.store new.store → TakesUpTo (points_due due) old.store new.store
          → ((z : State) → StoreStands old.store z → Comes (Some fault) old.store new.store z (point_after due z) (trees_after due z))
          → Did (command.fsync h) (Err (Fault fault)) old new out
      fsync_ended fault ends most comes =
          did_pointed_fault (command.fsync h) old new out live due fault ends most comes mask (λ x. same_opens old new are)
          (λ s stands. (record (keeps s command.done) { point = event.has_event s.mask event.fsync }, fsync_plans s stands, refl, due_is old s event.fsync due stands is_due))

    -- ---- seek and rewind are refused

    pub seek_stopped : (to : ℕ) (e : Refusal) → new.store ≡ old.store → ((s : State) → s.descriptors ≡ old.descriptors → Err e ≡ file_at s h)
        → Did (command.seek h to) (Err (Refused e)) old new out
    seek_stopped to e same is =
        did_refused_here (command.seek h to) old new out e live same mask are
        (mask_kept (command.seek h to) (Err (Refused e)) old new refl (λ answer. tt) mask) (record { after = same_opens old new are; stays = λ x. same_opens old new are })
        (λ bytes s stands. seek_refused (request_of old) s h to e (sym (is s (sym stands.descriptors))))

    pub seek_past : (to : ℕ) (d : Descriptor) → new.store ≡ old.store → ((s : State) → s.descriptors ≡ old.descriptors → Ok d ≡ file_at s h)
        → max_size_of (request_of old) < to → Did (command.seek h to) (Err (Refused refusal.Invalid)) old new out
    seek_past to d same is past =
        did_refused_here (command.seek h to) old new out refusal.Invalid live same mask are
        (mask_kept (command.seek h to) (Err (Refused refusal.Invalid)) old new refl (λ answer. tt) mask)
        (record { after = same_opens old new are; stays = λ x. same_opens old new are })
        (λ bytes s stands. seek_invalid (request_of old) s h to d (sym (is s (sym stands.descriptors))) (lt-ltb _ _ past))

    pub rewind_stopped : (e : Refusal) → new.store ≡ old.store → ((s : State) → s.descriptors ≡ old.descriptors → Err e ≡ directory_at s h)
        → Did (command.rewind h) (Err (Refused e)) old new out
    rewind_stopped e same is =
        did_refused_here (command.rewind h) old new out e live same mask are
        (mask_kept (command.rewind h) (Err (Refused e)) old new refl (λ answer. tt) mask) (record { after = same_opens old new are; stays = λ x. same_opens old new are })
        (λ bytes s stands. rewind_refused (request_of old) s h e (sym (is s (sym stands.descriptors))))

  -- ---- they move

  module _ (d : Descriptor) (to : ℕ) (same : new.store ≡ old.store) (is_open : descriptor_at old.descriptors h ≡ Some d) (are : new.descriptors ≡ moved old.descriptors h d to) where
    pub sought : ((s : State) → s.descriptors ≡ old.descriptors → Ok d ≡ file_at s h) → to ≤ max_size_of (request_of old) → Did (command.seek h to) (Ok a.Done) old new out
    sought is within =
        let opens = moved_opens old new h d to is_open are in
        did_here (command.seek h to) old new out a.Done live same
        (mask_kept (command.seek h to) (Ok a.Done) old new refl (λ answer. tt) mask) (record { after = opens; stays = λ x. opens }) tt
        (λ bytes s stands. record {
          done = record (keeps s command.done) { descriptors = moved s.descriptors h d to };
          is = seek_plan (request_of old) s h to d (sym (is s (sym stands.descriptors))) (le-ltb _ _ within);
          none = refl;
          point = refl;
          told = refl;
          mask = mask ∙ stands.mask;
          descriptors = are ∙ ap (λ (ds : Descriptors). moved ds h d to) stands.descriptors;
        })

    pub rewound : ((s : State) → s.descriptors ≡ old.descriptors → Ok d ≡ directory_at s h) → to ≡ 0 → Did (command.rewind h) (Ok a.Done) old new out
    rewound is first =
        let opens = moved_opens old new h d to is_open are in
        did_here (command.rewind h) old new out a.Done live same
        (mask_kept (command.rewind h) (Ok a.Done) old new refl (λ answer. tt) mask) (record { after = opens; stays = λ x. opens }) tt
        (λ bytes s stands. record {
          done = record (keeps s command.done) { descriptors = moved s.descriptors h d 0 };
          is = rewind_plan (request_of old) s h d (sym (is s (sym stands.descriptors)));
          none = refl;
          point = refl;
          told = refl;
          mask = mask ∙ stands.mask;
          descriptors = are ∙ ap (λ (ds : Descriptors). moved ds h d to) stands.descriptors ∙ ap (moved s.descriptors h d) first;
        })

-- ---- a descriptor that is open as one of a kind is open

file_is : (o : Option Descriptor) (d : Descriptor) → Ok d ≡ (or_refuse o refusal.BadDescriptor >>= (λ x. refuse_if x.directory refusal.IsDir >>= (λ u. Ok x))) → o ≡ Some d
file_is None d is = absurd (cc)
file_is (Some x) d is = by x.directory is
  where
    by : (b : Bool) → Ok d ≡ (refuse_if b refusal.IsDir >>= (λ u. Ok x)) → Some x ≡ Some d
    by true e = absurd (cc)
    by false e = cc

directory_is : (o : Option Descriptor) (d : Descriptor) → Ok d ≡ (or_refuse o refusal.BadDescriptor >>= (λ x. refuse_if (not x.directory) refusal.NotDir >>= (λ u. Ok x))) → o ≡ Some d
directory_is None d is = absurd (cc)
directory_is (Some x) d is = by x.directory is
  where
    by : (b : Bool) → Ok d ≡ (refuse_if (not b) refusal.NotDir >>= (λ u. Ok x)) → Some x ≡ Some d
    by true e = cc
    by false e = absurd (cc)

-- a state with these descriptors, whatever else it has
abbrev pub with_descriptors : Descriptors → State
with_descriptors table = record (first_state (λ n. None)) { descriptors = table }

module _ (table : Descriptors) (h : ℕ) (d : Descriptor) where
  pub file_is_open : ((s : State) → s.descriptors ≡ table → Ok d ≡ file_at s h) → descriptor_at table h ≡ Some d
  file_is_open is = file_is (descriptor_at table h) d (is (with_descriptors table) refl)

  pub directory_is_open : ((s : State) → s.descriptors ≡ table → Ok d ≡ directory_at s h) → descriptor_at table h ≡ Some d
  directory_is_open is = directory_is (descriptor_at table h) d (is (with_descriptors table) refl)
