-- What read does, at each of its ends.
use Rattle.std.proofs.Common.{◌≡◌, ◌∙◌, ℕ, ◌+◌, ◌<◌, ◌≤◌, not, Bool, true, false, List, [], ◌∷◌, length, take, length-take, refl, sym, ap, arith, Some, None}
use Rattle.std.specs.Prelude.{Result, Ok, Err}
use Rattle.edge_base.specs.commands.Descriptors.{Descriptor, descriptor_at}
use Rattle.edge_base.specs.commands.Refusals.{◌>>=◌, or_refuse, refuse_if}
use Rattle.edge_base.specs.declared.geometry.Request.{Request}
use Rattle.edge_base.specs.declared.node.Head.{Head}
use Rattle.edge_base.specs.declared.refusal.Refusal.{Refusal}
use Rattle.edge_base.specs.declared.refusal.Refusal.TheVariants as refusal
use Rattle.edge_store.specs.declared.fault.StoreFault.{StoreFault}
use Rattle.edge_store.specs.Calls.{KeepsPoint, KeepsWorking}
use Rattle.edge_model.specs.declared.command.Answer.TheVariants as a
use Rattle.edge_model.specs.Asked as command
use Rattle.edge_model.specs.Files.{plan_read, read_plan}
use Rattle.edge_model.specs.Open.{file_at, moved}
use Rattle.edge_model.specs.State.{State, Plan, keeps}
use Rattle.edge_model.specs.Step.{plan}
use Rattle.edge_volume.specs.declared.stop.Stop.{Stop}
use Rattle.edge_volume.specs.declared.stop.Stop.TheVariants.{Refused, Fault}
use Rattle.edge_volume.specs.Stopped.{fault_of, IfAnswered}
use Rattle.edge_volume.specs.Volume.{VolumeState, VolumeStands, request_of}
use Rattle.edge_volume.specs.Parts.{EndsBy, IsOfNoDamage}
use Rattle.edge_volume.specs.Nodes.{OnTree, head_at}
use Rattle.edge_volume.specs.Did.{Did}
use Rattle.edge_volume.proofs.DidLaws.{mask_kept, did_refused_here, did_refused, did_fault}
use Rattle.edge_volume.proofs.OpenLaws.{same_opens, moved_opens}
use Rattle.edge_calls.proofs.ContentLaws.{rest_of, open_file_is, head_of_open}
use Rattle.edge_calls.proofs.LookedLaws.{did_looked}

-- ---- plans

module _ (g : Request) (s : State) (h count : ℕ) where
  abbrev to_read : Descriptor → Result Plan Refusal
  to_read d = refuse_if (not d.read) refusal.BadDescriptor >>= λ _. Ok (read_plan s h d (rest_of s.tree d) (take count (rest_of s.tree d)))

  read_refused : (e : Refusal) → Err e ≡ file_at s h → plan g s (command.read h count) ≡ Err e
  unfolding plan_read
  read_refused e is = ap (λ (r : Result Descriptor Refusal). r >>= to_read) (sym is)

  module _ (d : Descriptor) (is : Ok d ≡ file_at s h) where
    opened : (may : Bool) → d.read ≡ may
        → plan g s (command.read h count) ≡ (refuse_if (not may) refusal.BadDescriptor >>= λ _. Ok (read_plan s h d (rest_of s.tree d) (take count (rest_of s.tree d))))
    unfolding plan_read
    opened may same =
        ap (λ (r : Result Descriptor Refusal). r >>= to_read) (sym is)
        ∙ ap (λ (b : Bool). refuse_if (not b) refusal.BadDescriptor >>= λ _. Ok (read_plan s h d (rest_of s.tree d) (take count (rest_of s.tree d)))) same

    read_unopened : d.read ≡ false → plan g s (command.read h count) ≡ Err refusal.BadDescriptor
    read_unopened closed = opened false closed

    read_at_end : d.read ≡ true → rest_of s.tree d ≡ [] → plan g s (command.read h count) ≡ Ok (keeps s command.end)
    read_at_end may none = opened true may ∙ ap (λ (rest : List ℕ). Ok (read_plan s h d rest (take count (rest_of s.tree d)))) none

    read_bytes : d.read ≡ true → (piece : List ℕ) → take count (rest_of s.tree d) ≡ piece → 0 < length piece
        → plan g s (command.read h count) ≡ Ok (record (keeps s (command.bytes piece)) { descriptors = moved s.descriptors h d (d.at + length piece) })
    read_bytes may piece same some = opened true may ∙ by (rest_of s.tree d) refl
      where
        by : (rest : List ℕ) → rest_of s.tree d ≡ rest
            → ◌≡◌ {A = Result Plan Refusal} (Ok (read_plan s h d rest (take count (rest_of s.tree d))))
            (Ok (record (keeps s (command.bytes piece)) { descriptors = moved s.descriptors h d (d.at + length piece) }))
        by [] none =
            let empty : length (rest_of s.tree d) ≡ 0 = ap length none in
            let cut = length-take count (rest_of s.tree d) in
            let long = ap length same in
            absurd (omega (arith, empty, cut, long, some))
        by (byte ∷ rest) is =
            ap (λ (p : List ℕ). Ok (record (keeps s (command.bytes p)) { descriptors = moved s.descriptors h d (d.at + length p) })) same

module _ (h count : ℕ) (old new : VolumeState) (out : List ℕ) (mask : new.mask ≡ old.mask) where
  module _ (are : new.descriptors ≡ old.descriptors) where
    read_not : (e : Refusal) → old.store.live ≡ true → new.store ≡ old.store
        → ((s : State) → VolumeStands old s → plan (request_of old) s (command.read h count) ≡ Err e) → Did (command.read h count) (Err (Refused e)) old new out
    read_not e live same plans =
        did_refused_here (command.read h count) old new out e live same mask are
        (mask_kept (command.read h count) (Err (Refused e)) old new refl (λ answer. tt) mask)
        (record { after = same_opens old new are; stays = λ x. same_opens old new are })
        (λ bytes s stands. plans s stands)

    pub read_stopped : (e : Refusal) → old.store.live ≡ true → new.store ≡ old.store
        → ((s : State) → s.descriptors ≡ old.descriptors → Err e ≡ file_at s h) → Did (command.read h count) (Err (Refused e)) old new out
    read_stopped e live same is = read_not e live same (λ s stands. read_refused (request_of old) s h count e (is s (sym stands.descriptors)))

    pub read_closed : (d : Descriptor) → old.store.live ≡ true → new.store ≡ old.store
        → ((s : State) → s.descriptors ≡ old.descriptors → Ok d ≡ file_at s h) → d.read ≡ false
        → Did (command.read h count) (Err (Refused refusal.BadDescriptor)) old new out
    read_closed d live same is closed =
        read_not refusal.BadDescriptor live same (λ s stands. read_unopened (request_of old) s h count d (is s (sym stands.descriptors)) closed)

    pub read_ended : (fault : StoreFault) → EndsBy (Some fault) old.store new.store → KeepsPoint old.store new.store
        → ((s : State) → VolumeStands old s → IsOfNoDamage (Some fault)) → Did (command.read h count) (Err (Fault fault)) old new out
    read_ended fault ends point undamaged =
        did_fault (command.read h count) old new out fault ends point mask (λ x. same_opens old new are) undamaged

    -- the node of the descriptor was not there, or was not read
    pub read_no_node : (stop : Stop) (d : Descriptor) → ((s : State) → s.descriptors ≡ old.descriptors → Ok d ≡ file_at s h)
        → EndsBy (fault_of {T = Head} (Err stop)) old.store new.store → KeepsPoint old.store new.store
        → (fault_of {T = Head} (Err stop) ≡ None → KeepsWorking old.store new.store) → OnTree old.store (λ t. IsOfNoDamage (fault_of {T = Head} (Err stop)))
        → IfAnswered {T = Head} (Err stop) (λ r. OnTree old.store (λ t. r ≡ or_refuse (head_at (request_of old) t d.number) refusal.BadDescriptor))
        → Did (command.read h count) (Err stop) old new out
    read_no_node (Refused e) d is ends point working undamaged head =
        did_refused (command.read h count) old new out e ends point (working refl) mask are
        (mask_kept (command.read h count) (Err (Refused e)) old new refl (λ answer. tt) mask)
        (record { after = same_opens old new are; stays = λ x. same_opens old new are })
        (λ bytes s stands.
        let f = open_file_is old s h d stands (is s (sym stands.descriptors)) in
        let there = head_of_open (request_of old) s.tree d.number f.0 f.1 (Err e) f.2 (head s stands.store stands.session.trees.tree) in
        absurd (cc))
    read_no_node (Fault fault) d is ends point working undamaged head =
        read_ended fault ends point (λ s stands. undamaged s stands.store stands.session.trees.tree)

    module _ (ends : EndsBy None old.store new.store) (point : KeepsPoint old.store new.store) (working : KeepsWorking old.store new.store) (d : Descriptor)
        (is : (s : State) → s.descriptors ≡ old.descriptors → Ok d ≡ file_at s h) where
      pub read_none : d.read ≡ true → ((s : State) → VolumeStands old s → rest_of s.tree d ≡ []) → Did (command.read h count) (Ok a.End) old new out
      read_none may none =
          did_looked (command.read h count) old new out ends point working a.End
          (mask_kept (command.read h count) (Ok a.End) old new refl (λ answer. tt) mask)
          (record { after = same_opens old new are; stays = λ x. same_opens old new are }) tt
          (λ bytes s stands. record {
            done = keeps s command.end;
            is = read_at_end (request_of old) s h count d (is s (sym stands.descriptors)) may (none s stands);
            none = refl;
            point = refl;
            told = refl;
            mask = mask ∙ stands.mask;
            descriptors = are ∙ stands.descriptors;
          })

  -- bytes are told, and the position moves behind them
  pub read_told : (d : Descriptor) (done to : ℕ) → EndsBy None old.store new.store → KeepsPoint old.store new.store → KeepsWorking old.store new.store
      → ((s : State) → s.descriptors ≡ old.descriptors → Ok d ≡ file_at s h) → descriptor_at old.descriptors h ≡ Some d → d.read ≡ true
      → new.descriptors ≡ moved old.descriptors h d to → done ≤ 4096
      → ((s : State) → VolumeStands old s → (take count (rest_of s.tree d) ≡ take done out) × (length (take done out) ≡ done) × (to ≡ d.at + done) × (0 < done))
      → Did (command.read h count) (Ok (a.Bytes done)) old new out
  read_told d done to ends point working is is_open may are low told =
      let opens = moved_opens old new h d to is_open are in
      did_looked (command.read h count) old new out ends point working (a.Bytes done)
      (mask_kept (command.read h count) (Ok (a.Bytes done)) old new refl (λ answer. tt) mask) (record { after = opens; stays = λ x. opens }) low
      (λ bytes s stands.
      let k = told s stands in
      let long = k.1 in
      let some = k.3 in
      let next : to ≡ d.at + length (take done out) = k.2 ∙ ap (λ (n : ℕ). d.at + n) (sym long) in
      record {
        done = record (keeps s (command.bytes (take done out))) { descriptors = moved s.descriptors h d (d.at + length (take done out)) };
        is = read_bytes (request_of old) s h count d (is s (sym stands.descriptors)) may (take done out) k.0 (omega (arith, long, some));
        none = refl;
        point = refl;
        told = refl;
        mask = mask ∙ stands.mask;
        descriptors = are ∙ (λ i. moved (stands.descriptors i) h d (next i));
      })
