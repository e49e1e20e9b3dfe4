-- What readdir does, at each of its ends.
use Rattle.std.proofs.Common.{◌≡◌, ◌∙◌, ℕ, ◌+◌, ◌≤◌, not, Bool, true, false, List, drop, take, refl, sym, ap, Option, Some, None}
use Rattle.std.specs.Prelude.{Result, Ok, Err}
use Rattle.edge_base.specs.commands.Descriptors.{Descriptor, Descriptors, descriptor_at}
use Rattle.edge_base.specs.commands.Refusals.{◌>>=◌, or_refuse, refuse_if}
use Rattle.edge_base.specs.declared.geometry.Request.{Request}
use Rattle.edge_base.specs.declared.refusal.Refusal.{Refusal}
use Rattle.edge_base.specs.declared.refusal.Refusal.TheVariants as refusal
use Rattle.edge_store.specs.declared.fault.StoreFault.{StoreFault}
use Rattle.edge_store.specs.Calls.{KeepsPoint, KeepsWorking}
use Rattle.edge_model.specs.declared.command.Answer.TheVariants as a
use Rattle.edge_model.specs.Asked as command
use Rattle.edge_model.specs.Open.{Filled, directory_at, first_filled, moved, plan_read_dir, read_dir_plan}
use Rattle.edge_model.specs.State.{State, keeps}
use Rattle.edge_model.specs.Step.{plan}
use Rattle.edge_model.specs.Tree.{Tree, is_directory, slots_at}
use Rattle.edge_volume.specs.declared.stop.Stop.{Stop}
use Rattle.edge_volume.specs.declared.stop.Stop.TheVariants.{Refused, Fault}
use Rattle.edge_volume.specs.Stopped.{fault_of, IfAnswered}
use Rattle.edge_volume.specs.Volume.{VolumeState, VolumeStands, request_of}
use Rattle.edge_volume.specs.Parts.{EndsBy, IsOfNoDamage}
use Rattle.edge_volume.specs.Nodes.{OnTree}
use Rattle.edge_volume.specs.Did.{Did}
use Rattle.edge_volume.proofs.DidLaws.{mask_kept, did_refused_here, did_refused, did_fault}
use Rattle.edge_volume.proofs.OpenLaws.{same_opens, moved_opens}
use Rattle.edge_calls.proofs.LookedLaws.{did_looked}

-- ---- plans

-- the first filled slot from the position of a descriptor on
abbrev pub next_of : Tree → Descriptor → Option Filled
next_of t d = first_filled d.at (drop d.at (slots_at t d.number))

module _ (g : Request) (s : State) (h : ℕ) where
  read_dir_refused : (e : Refusal) → Err e ≡ directory_at s h → plan g s (command.read_dir h) ≡ Err e
  unfolding plan_read_dir
  read_dir_refused e is = ap (λ (r : Result Descriptor Refusal). r >>= λ d. Ok (read_dir_plan s h d (next_of s.tree d))) (sym is)

  read_dir_next : (d : Descriptor) → Ok d ≡ directory_at s h → (next : Option Filled) → next_of s.tree d ≡ next → plan g s (command.read_dir h) ≡ Ok (read_dir_plan s h d next)
  unfolding plan_read_dir
  read_dir_next d is next same =
      ap (λ (r : Result Descriptor Refusal). r >>= λ d. Ok (read_dir_plan s h d (next_of s.tree d))) (sym is)
      ∙ ap (λ (o : Option Filled). Ok (read_dir_plan s h d o)) same

-- ---- the directory of a descriptor

directory_kind : (o : Option Descriptor) (d : Descriptor)
    → Ok d ≡ (or_refuse o refusal.BadDescriptor >>= (λ x. refuse_if (not x.directory) refusal.NotDir >>= (λ u. Ok x))) → (d.directory ≡ true) × (o ≡ Some d)
directory_kind None d is = absurd (cc)
directory_kind (Some x) d is = by x.directory refl is
  where
    by : (b : Bool) → x.directory ≡ b → Ok d ≡ (refuse_if (not b) refusal.NotDir >>= (λ u. Ok x)) → (d.directory ≡ true) × (Some x ≡ Some d)
    by true was e = let same : d ≡ x = cc in (ap (λ (y : Descriptor). y.directory) same ∙ was, ap Some (sym same))
    by false was e = absurd (cc)

-- a directory that is open is there
open_directory_is : (v : VolumeState) (s : State) (h : ℕ) (d : Descriptor) → VolumeStands v s → Ok d ≡ directory_at s h → is_directory s.tree d.number ≡ true
open_directory_is v s h d stands is =
    let r = directory_kind (descriptor_at s.descriptors h) d is in
    (stands.session.trees.descriptors h d r.1).kind ∙ r.0

-- ---- ends

module _ (h : ℕ) (old new : VolumeState) (out : List ℕ) (mask : new.mask ≡ old.mask) where
  module _ (are : new.descriptors ≡ old.descriptors) where
    pub read_dir_stopped : (e : Refusal) → old.store.live ≡ true → new.store ≡ old.store
        → ((s : State) → s.descriptors ≡ old.descriptors → Err e ≡ directory_at s h) → Did (command.read_dir h) (Err (Refused e)) old new out
    read_dir_stopped e live same is =
        did_refused_here (command.read_dir h) old new out e live same mask are
        (mask_kept (command.read_dir h) (Err (Refused e)) old new refl (λ answer. tt) mask)
        (record { after = same_opens old new are; stays = λ x. same_opens old new are })
        (λ bytes s stands. read_dir_refused (request_of old) s h e (is s (sym stands.descriptors)))

    pub read_dir_ended : (fault : StoreFault) → EndsBy (Some fault) old.store new.store → KeepsPoint old.store new.store
        → OnTree old.store (λ t. IsOfNoDamage (Some fault)) → Did (command.read_dir h) (Err (Fault fault)) old new out
    read_dir_ended fault ends point undamaged =
        did_fault (command.read_dir h) old new out fault ends point mask (λ x. same_opens old new are)
        (λ s stands. undamaged s stands.store stands.session.trees.tree)

    -- the node of the descriptor was not there, or was not read
    pub read_dir_no_node : (stop : Stop) (d : Descriptor) → ((s : State) → s.descriptors ≡ old.descriptors → Ok d ≡ directory_at s h)
        → EndsBy (fault_of {T = Unit {0}} (Err stop)) old.store new.store → KeepsPoint old.store new.store
        → (fault_of {T = Unit {0}} (Err stop) ≡ None → KeepsWorking old.store new.store)
        → OnTree old.store (λ t. IsOfNoDamage (fault_of {T = Unit {0}} (Err stop)))
        → IfAnswered {T = Unit {0}} (Err stop) (λ r. OnTree old.store (λ t. is_directory t d.number ≡ true → r ≡ Ok tt))
        → Did (command.read_dir h) (Err stop) old new out
    read_dir_no_node (Refused e) d is ends point working undamaged kind =
        did_refused (command.read_dir h) old new out e ends point (working refl) mask are
        (mask_kept (command.read_dir h) (Err (Refused e)) old new refl (λ answer. tt) mask)
        (record { after = same_opens old new are; stays = λ x. same_opens old new are })
        (λ bytes s stands.
        let there : Err e ≡ Ok tt = kind s stands.store stands.session.trees.tree (open_directory_is old s h d stands (is s (sym stands.descriptors))) in
        absurd (cc))
    read_dir_no_node (Fault fault) d is ends point working undamaged kind = read_dir_ended fault ends point undamaged

    module _ (ends : EndsBy None old.store new.store) (point : KeepsPoint old.store new.store) (working : KeepsWorking old.store new.store) (d : Descriptor)
        (is : (s : State) → s.descriptors ≡ old.descriptors → Ok d ≡ directory_at s h) where
      pub read_dir_at_end : OnTree old.store (λ t. next_of t d ≡ None) → Did (command.read_dir h) (Ok a.End) old new out
      read_dir_at_end none =
          did_looked (command.read_dir h) old new out ends point working a.End
          (mask_kept (command.read_dir h) (Ok a.End) old new refl (λ answer. tt) mask)
          (record { after = same_opens old new are; stays = λ x. same_opens old new are }) tt
          (λ bytes s stands. record {
            done = keeps s command.end;
            is = read_dir_next (request_of old) s h d (is s (sym stands.descriptors)) None (none s stands.store stands.session.trees.tree);
            none = refl;
            point = refl;
            told = refl;
            mask = mask ∙ stands.mask;
            descriptors = are ∙ stands.descriptors;
          })

  -- an entry is told, and the position moves behind it
  pub read_dir_told : (d : Descriptor) (slot number len : ℕ) → EndsBy None old.store new.store → KeepsPoint old.store new.store → KeepsWorking old.store new.store
      → ((s : State) → s.descriptors ≡ old.descriptors → Ok d ≡ directory_at s h) → descriptor_at old.descriptors h ≡ Some d
      → new.descriptors ≡ moved old.descriptors h d (slot + 1) → len ≤ 252
      → OnTree old.store (λ t. next_of t d ≡ Some (record { slot = slot; entry = record { name = take len out; number = number } }))
      → Did (command.read_dir h) (Ok (a.Entry number len)) old new out
  read_dir_told d slot number len ends point working is is_open are low next =
      let opens = moved_opens old new h d (slot + 1) is_open are in
      did_looked (command.read_dir h) old new out ends point working (a.Entry number len)
      (mask_kept (command.read_dir h) (Ok (a.Entry number len)) old new refl (λ answer. tt) mask) (record { after = opens; stays = λ x. opens }) low
      (λ bytes s stands. record {
        done = record (keeps s (command.entry number (take len out))) { descriptors = moved s.descriptors h d (slot + 1) };
        is = read_dir_next (request_of old) s h d (is s (sym stands.descriptors)) (Some (record { slot = slot; entry = record { name = take len out; number = number } }))
            (next s stands.store stands.session.trees.tree);
        none = refl;
        point = refl;
        told = refl;
        mask = mask ∙ stands.mask;
        descriptors = are ∙ ap (λ (ds : Descriptors). moved ds h d (slot + 1)) stands.descriptors;
      })
