-- What stat and opendir do, at each of their ends.
use Rattle.std.proofs.Common.{◌≡◌, ◌∙◌, ℕ, ◌<◌, Bool, true, false, List, slice_set, is_some, unwrap_or, refl, sym, ap, Option, Some, None}
use Rattle.std.specs.Prelude.{slice_get, Result, Ok, Err}
use Rattle.edge_base.specs.commands.Descriptors.{Descriptor, first_empty, is_full, most_open}
use Rattle.edge_base.specs.commands.Refusals.{◌>>=◌, refuse_if}
use Rattle.edge_base.specs.declared.geometry.Request.{Request}
use Rattle.edge_base.specs.declared.node.Head.{Head}
use Rattle.edge_base.specs.declared.refusal.Refusal.{Refusal}
use Rattle.edge_base.specs.declared.refusal.Refusal.TheVariants as refusal
use Rattle.edge_store.specs.declared.fault.StoreFault.{StoreFault}
use Rattle.edge_store.specs.Calls.{KeepsPoint, KeepsWorking}
use Rattle.edge_model.specs.declared.command.Answer.TheVariants as a
use Rattle.edge_model.specs.Asked as command
use Rattle.edge_model.specs.Asking.{HasOpened}
use Rattle.edge_model.specs.Open.{directory_descriptor, entered, plan_open_dir}
use Rattle.edge_model.specs.State.{State, Plan, keeps}
use Rattle.edge_model.specs.Step.{plan, plan_stat, status_of}
use Rattle.edge_volume.specs.declared.stop.Stop.{Stop}
use Rattle.edge_volume.specs.declared.stop.Stop.TheVariants.{Refused, Fault}
use Rattle.edge_volume.specs.Stopped.{fault_of, IfAnswered}
use Rattle.edge_volume.specs.Volume.{VolumeState, VolumeStands, request_of, opens_of}
use Rattle.edge_volume.specs.Parts.{EndsBy, IsOfNoDamage}
use Rattle.edge_volume.specs.Nodes.{OnTree, head_at}
use Rattle.edge_volume.specs.Did.{Did}
use Rattle.edge_volume.proofs.DidLaws.{mask_kept, did_refused, did_fault}
use Rattle.edge_volume.proofs.OpenLaws.{same_opens, set_opens, set_here}
use Rattle.edge_walk.specs.Spots.{enters, number_at}
use Rattle.edge_walk.proofs.StepLaws.{after_number}
use Rattle.edge_calls.specs.State.{status_in}
use Rattle.edge_calls.proofs.LookedLaws.{did_looked}
use Rattle.edge_calls.proofs.StatusLaws.{status_is}

-- ---- plans

module _ (g : Request) (s : State) (path : List ℕ) where
  abbrev to_status : ℕ → Result Plan Refusal
  to_status n = Ok (keeps s (status_of g s.tree n))

  pub stat_refused : (e : Refusal) → Err e ≡ number_at g s.tree path → plan g s (command.stat path) ≡ Err e
  unfolding plan_stat
  stat_refused e is = after_number g s.tree path to_status ∙ ap (λ (r : Result ℕ Refusal). r >>= to_status) (sym is)

  pub stat_plan : (n : ℕ) → Ok n ≡ number_at g s.tree path → plan g s (command.stat path) ≡ Ok (keeps s (status_of g s.tree n))
  unfolding plan_stat
  stat_plan n is = after_number g s.tree path to_status ∙ ap (λ (r : Result ℕ Refusal). r >>= to_status) (sym is)

  -- a directory that is opened
  abbrev opened : ℕ → Plan
  opened n = record (keeps s (command.number (first_empty s.descriptors))) { descriptors = entered s.descriptors (directory_descriptor n) }

  abbrev to_opened : ℕ → Result Plan Refusal
  to_opened n = enters s.tree n >>= λ _. refuse_if (is_full s.descriptors) refusal.TooManyOpen >>= λ _. Ok (opened n)

  pub open_dir_refused : (e : Refusal) → Err e ≡ number_at g s.tree path → plan g s (command.open_dir path) ≡ Err e
  unfolding plan_open_dir
  open_dir_refused e is = after_number g s.tree path to_opened ∙ ap (λ (r : Result ℕ Refusal). r >>= to_opened) (sym is)

  module _ (n : ℕ) (is : Ok n ≡ number_at g s.tree path) where
    reached : plan g s (command.open_dir path) ≡ to_opened n
    unfolding plan_open_dir
    reached = after_number g s.tree path to_opened ∙ ap (λ (r : Result ℕ Refusal). r >>= to_opened) (sym is)

    pub open_dir_at_file : (e : Refusal) → Err e ≡ enters s.tree n → plan g s (command.open_dir path) ≡ Err e
    open_dir_at_file e kind =
        reached ∙ ap (λ (r : Result (Unit {0}) Refusal). r >>= λ _. refuse_if (is_full s.descriptors) refusal.TooManyOpen >>= λ _. Ok (opened n)) (sym kind)

    entered_at : Ok tt ≡ enters s.tree n → (full : Bool) → is_full s.descriptors ≡ full
        → plan g s (command.open_dir path) ≡ (refuse_if full refusal.TooManyOpen >>= λ _. Ok (opened n))
    entered_at kind full same =
        reached ∙ ap (λ (r : Result (Unit {0}) Refusal). r >>= λ _. refuse_if (is_full s.descriptors) refusal.TooManyOpen >>= λ _. Ok (opened n)) (sym kind)
        ∙ ap (λ (b : Bool). refuse_if b refusal.TooManyOpen >>= λ _. Ok (opened n)) same

    pub open_dir_full : Ok tt ≡ enters s.tree n → is_full s.descriptors ≡ true → plan g s (command.open_dir path) ≡ Err refusal.TooManyOpen
    open_dir_full kind full = entered_at kind true full

    pub open_dir_plan : Ok tt ≡ enters s.tree n → is_full s.descriptors ≡ false
        → plan g s (command.open_dir path)
        ≡ Ok (record (keeps s (command.number (first_empty s.descriptors))) { descriptors = entered s.descriptors (directory_descriptor n) })
    open_dir_plan kind room = entered_at kind false room

-- ---- stat

module _ (path : List ℕ) (old new : VolumeState) (out : List ℕ) (mask : new.mask ≡ old.mask) where
  module _ (are : new.descriptors ≡ old.descriptors) where
    pub stat_ended : (fault : StoreFault) → EndsBy (Some fault) old.store new.store → KeepsPoint old.store new.store
        → OnTree old.store (λ t. IsOfNoDamage (Some fault)) → Did (command.stat path) (Err (Fault fault)) old new out
    stat_ended fault ends point undamaged =
        did_fault (command.stat path) old new out fault ends point mask (λ x. same_opens old new are)
        (λ s stands. undamaged s stands.store stands.session.trees.tree)

    open_dir_ended : (fault : StoreFault) → EndsBy (Some fault) old.store new.store → KeepsPoint old.store new.store
        → OnTree old.store (λ t. IsOfNoDamage (Some fault)) → Did (command.open_dir path) (Err (Fault fault)) old new out
    open_dir_ended fault ends point undamaged =
        did_fault (command.open_dir path) old new out fault ends point mask (λ x. same_opens old new are)
        (λ s stands. undamaged s stands.store stands.session.trees.tree)

    module _ (ends : EndsBy None old.store new.store) (point : KeepsPoint old.store new.store) (working : KeepsWorking old.store new.store) where
      stat_stopped : (e : Refusal) → OnTree old.store (λ t. Err e ≡ number_at (request_of old) t path)
          → Did (command.stat path) (Err (Refused e)) old new out
      stat_stopped e is =
          did_refused (command.stat path) old new out e ends point working mask are
          (mask_kept (command.stat path) (Err (Refused e)) old new refl (λ answer. tt) mask)
          (record { after = same_opens old new are; stays = λ x. same_opens old new are })
          (λ bytes s stands. stat_refused (request_of old) s path e (is s stands.store stands.session.trees.tree))

      pub stat_told : (n : ℕ) (head : Head) → OnTree old.store (λ t. Ok n ≡ number_at (request_of old) t path)
          → OnTree old.store (λ t. Some head ≡ head_at (request_of old) t n)
          → Did (command.stat path) (Ok (a.Stat (status_in n head))) old new out
      stat_told n head is told =
          did_looked (command.stat path) old new out ends point working (a.Stat (status_in n head))
          (mask_kept (command.stat path) (Ok (a.Stat (status_in n head))) old new refl (λ answer. tt) mask)
          (record { after = same_opens old new are; stays = λ x. same_opens old new are }) tt
          (λ bytes s stands. record {
            done = keeps s (status_of (request_of old) s.tree n);
            is = stat_plan (request_of old) s path n (is s stands.store stands.session.trees.tree);
            none = refl;
            point = refl;
            told = ap Ok (status_is (request_of old) s.tree n head (told s stands.store stands.session.trees.tree));
            mask = mask ∙ stands.mask;
            descriptors = are ∙ stands.descriptors;
          })

      -- ---- opendir is refused

      open_dir_not : (e : Refusal) → ((s : State) → VolumeStands old s → plan (request_of old) s (command.open_dir path) ≡ Err e)
          → Did (command.open_dir path) (Err (Refused e)) old new out
      open_dir_not e plans =
          did_refused (command.open_dir path) old new out e ends point working mask are
          (mask_kept (command.open_dir path) (Err (Refused e)) old new refl (λ answer. tt) mask)
          (record { after = same_opens old new are; stays = λ x. same_opens old new are })
          (λ bytes s stands. plans s stands)

      open_dir_stopped : (e : Refusal) → OnTree old.store (λ t. Err e ≡ number_at (request_of old) t path)
          → Did (command.open_dir path) (Err (Refused e)) old new out
      open_dir_stopped e is =
          open_dir_not e (λ s stands. open_dir_refused (request_of old) s path e (is s stands.store stands.session.trees.tree))

      module _ (n : ℕ) (is : OnTree old.store (λ t. Ok n ≡ number_at (request_of old) t path)) where
        open_dir_of_file : (e : Refusal) → OnTree old.store (λ t. Err e ≡ enters t n) → Did (command.open_dir path) (Err (Refused e)) old new out
        open_dir_of_file e kind =
            open_dir_not e (λ s stands.
            open_dir_at_file (request_of old) s path n (is s stands.store stands.session.trees.tree) e (kind s stands.store stands.session.trees.tree))

        pub open_dir_too_many : OnTree old.store (λ t. Ok tt ≡ enters t n) → is_full old.descriptors ≡ true
            → Did (command.open_dir path) (Err (Refused refusal.TooManyOpen)) old new out
        open_dir_too_many kind full =
            open_dir_not refusal.TooManyOpen (λ s stands.
            open_dir_full (request_of old) s path n (is s stands.store stands.session.trees.tree) (kind s stands.store stands.session.trees.tree)
            (ap is_full (sym stands.descriptors) ∙ full))

    -- ---- a part before the end stopped

    module _ (stop : Stop) (ends : EndsBy (fault_of {T = ℕ} (Err stop)) old.store new.store) (point : KeepsPoint old.store new.store)
        (working : fault_of {T = ℕ} (Err stop) ≡ None → KeepsWorking old.store new.store)
        (undamaged : OnTree old.store (λ t. IsOfNoDamage (fault_of {T = ℕ} (Err stop)))) where
      pub stat_unreached : IfAnswered {T = ℕ} (Err stop) (λ r. OnTree old.store (λ t. r ≡ number_at (request_of old) t path))
          → Did (command.stat path) (Err stop) old new out
      stat_unreached is = by stop ends working undamaged is
        where
          by : (x : Stop) → EndsBy (fault_of {T = ℕ} (Err x)) old.store new.store → (fault_of {T = ℕ} (Err x) ≡ None → KeepsWorking old.store new.store)
              → OnTree old.store (λ t. IsOfNoDamage (fault_of {T = ℕ} (Err x)))
              → IfAnswered {T = ℕ} (Err x) (λ r. OnTree old.store (λ t. r ≡ number_at (request_of old) t path)) → Did (command.stat path) (Err x) old new out
          by (Refused e) ends working undamaged is = stat_stopped ends point (working refl) e is
          by (Fault fault) ends working undamaged is = stat_ended fault ends point undamaged

      pub open_dir_unreached : IfAnswered {T = ℕ} (Err stop) (λ r. OnTree old.store (λ t. r ≡ number_at (request_of old) t path))
          → Did (command.open_dir path) (Err stop) old new out
      open_dir_unreached is = by stop ends working undamaged is
        where
          by : (x : Stop) → EndsBy (fault_of {T = ℕ} (Err x)) old.store new.store → (fault_of {T = ℕ} (Err x) ≡ None → KeepsWorking old.store new.store)
              → OnTree old.store (λ t. IsOfNoDamage (fault_of {T = ℕ} (Err x)))
              → IfAnswered {T = ℕ} (Err x) (λ r. OnTree old.store (λ t. r ≡ number_at (request_of old) t path)) → Did (command.open_dir path) (Err x) old new out
          by (Refused e) ends working undamaged is = open_dir_stopped ends point (working refl) e is
          by (Fault fault) ends working undamaged is = open_dir_ended fault ends point undamaged

      pub open_dir_unentered : (n : ℕ) → OnTree old.store (λ t. Ok n ≡ number_at (request_of old) t path)
          → IfAnswered {T = Unit {0}} (Err stop) (λ r. OnTree old.store (λ t. r ≡ enters t n)) → Did (command.open_dir path) (Err stop) old new out
      open_dir_unentered n is kind = by stop ends working undamaged kind
        where
          by : (x : Stop) → EndsBy (fault_of {T = ℕ} (Err x)) old.store new.store → (fault_of {T = ℕ} (Err x) ≡ None → KeepsWorking old.store new.store)
              → OnTree old.store (λ t. IsOfNoDamage (fault_of {T = ℕ} (Err x)))
              → IfAnswered {T = Unit {0}} (Err x) (λ r. OnTree old.store (λ t. r ≡ enters t n)) → Did (command.open_dir path) (Err x) old new out
          by (Refused e) ends working undamaged kind = open_dir_of_file ends point (working refl) n is e kind
          by (Fault fault) ends working undamaged kind = open_dir_ended fault ends point undamaged

  -- ---- a directory is opened

  module _ (ends : EndsBy None old.store new.store) (point : KeepsPoint old.store new.store) (working : KeepsWorking old.store new.store) (n h : ℕ)
      (least : h ≡ first_empty old.descriptors) (below : h < most_open) (free : slice_get old.descriptors h ≡ Some None)
      (are : new.descriptors ≡ slice_set old.descriptors h (Some (directory_descriptor n))) where
    has_opened : HasOpened (a.Number h) (opens_of old) (opens_of new)
    has_opened = (
      below,
      ap (λ (o : Option (Option Descriptor)). is_some (unwrap_or o None)) free,
      set_opens old new h (Some (directory_descriptor n)) are (set_here old.descriptors h None (Some (directory_descriptor n)) free),
    )

    pub open_dir_done : OnTree old.store (λ t. Ok n ≡ number_at (request_of old) t path) → OnTree old.store (λ t. Ok tt ≡ enters t n)
        → is_full old.descriptors ≡ false → Did (command.open_dir path) (Ok (a.Number h)) old new out
    open_dir_done is kind room =
        did_looked (command.open_dir path) old new out ends point working (a.Number h)
        (mask_kept (command.open_dir path) (Ok (a.Number h)) old new refl (λ answer. tt) mask)
        (record { after = has_opened; stays = λ x. absurd (cc) }) tt
        (λ bytes s stands. record {
          done = record (keeps s (command.number (first_empty s.descriptors))) { descriptors = entered s.descriptors (directory_descriptor n) };
          is = open_dir_plan (request_of old) s path n (is s stands.store stands.session.trees.tree) (kind s stands.store stands.session.trees.tree)
              (ap is_full (sym stands.descriptors) ∙ room);
          none = refl;
          point = refl;
          told = ap (λ (k : ℕ). Ok (command.number k)) (least ∙ ap first_empty stands.descriptors);
          mask = mask ∙ stands.mask;
          descriptors = are ∙ (λ i. slice_set (stands.descriptors i) ((least ∙ ap first_empty stands.descriptors) i) (Some (directory_descriptor n)));
        })
