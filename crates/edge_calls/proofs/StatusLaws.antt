-- What fstat does, at each of its ends.
use Rattle.std.proofs.Common.{◌≡◌, ◌∙◌, ℕ, true, false, List, is_some, refl, sym, ap, Option, Some, None}
use Rattle.std.specs.Prelude.{Ok, Err}
use Rattle.edge_base.specs.commands.Descriptors.{Descriptor}
use Rattle.edge_base.specs.declared.geometry.Request.{Request}
use Rattle.edge_base.specs.declared.node.Head.{Head}
use Rattle.edge_base.specs.declared.refusal.Refusal.{Refusal}
use Rattle.edge_base.specs.declared.refusal.Refusal.TheVariants as refusal
use Rattle.edge_base.specs.tree.Nodes.{Node}
use Rattle.edge_store.specs.declared.fault.StoreFault.{StoreFault}
use Rattle.edge_store.specs.Calls.{KeepsPoint, KeepsWorking}
use Rattle.edge_model.specs.declared.command.Answer.TheVariants as a
use Rattle.edge_model.specs.Asked as command
use Rattle.edge_model.specs.Open.{open_at}
use Rattle.edge_model.specs.State.{State, keeps}
use Rattle.edge_model.specs.Step.{plan, plan_fstat, status_of}
use Rattle.edge_model.specs.Tree.{Tree}
use Rattle.edge_image.specs.Opens.{head_of_node}
use Rattle.edge_volume.specs.declared.stop.Stop.TheVariants.{Refused, Fault}
use Rattle.edge_volume.specs.Volume.{VolumeState, StoreStands, VolumeStands, request_of}
use Rattle.edge_volume.specs.Parts.{EndsBy, IsOfNoDamage}
use Rattle.edge_volume.specs.Nodes.{OnTree, head_at, head_of_some}
use Rattle.edge_volume.specs.Did.{Did}
use Rattle.edge_volume.proofs.DidLaws.{mask_kept, did_refused_here, did_refused, did_fault}
use Rattle.edge_volume.proofs.OpenLaws.{same_opens}
use Rattle.edge_calls.specs.State.{status_in}
use Rattle.edge_calls.proofs.LookedLaws.{did_looked}
use Rattle.edge_calls.proofs.PlanLaws.{open_is_at}

pub status_is : (g : Request) (t : Tree) (n : ℕ) (head : Head) → Some head ≡ head_at g t n → command.status (status_in n head) ≡ status_of g t n
status_is g t n head is = by (t n) refl
  where
    by : (o : Option Node) → t n ≡ o → command.status (status_in n head) ≡ status_of g t n
    by None e = absurd (let h : Some head ≡ None = is ∙ ap (head_of_some g t n) e in cc)
    by (Some node) e =
        let same : head ≡ head_of_node g t n node = (let h : Some head ≡ head_of_some g t n (Some node) = is ∙ ap (head_of_some g t n) e in cc) in
        rw (same, e) refl

module _ (g : Request) (s : State) (h : ℕ) where
  pub fstat_refused : (e : Refusal) → open_at s h ≡ Err e → plan g s (command.fstat h) ≡ Err e
  unfolding plan_fstat
  fstat_refused e is = rw is refl

  pub fstat_plan : (d : Descriptor) → open_at s h ≡ Ok d → plan g s (command.fstat h) ≡ Ok (keeps s (status_of g s.tree d.number))
  unfolding plan_fstat
  fstat_plan d is = rw is refl

-- the node of a descriptor that is open is there
not_gone : (v : VolumeState) (s : State) (h : ℕ) (d : Descriptor) → VolumeStands v s → open_at s h ≡ Ok d → None ≡ head_at (request_of v) s.tree d.number → ⊥
not_gone v s h d stands is none = by (s.tree d.number) refl (stands.session.trees.descriptors h d (open_is_at s h d is)).there
  where
    by : (o : Option Node) → s.tree d.number ≡ o → is_some (s.tree d.number) ≡ true → ⊥
    by None e there = absurd (let f : false ≡ true = sym (ap is_some e) ∙ there in cc)
    by (Some node) e there = absurd (let f : None ≡ head_of_some (request_of v) s.tree d.number (Some node) = none ∙ ap (head_of_some (request_of v) s.tree d.number) e in cc)

module _ (h : ℕ) (old new : VolumeState) (out : List ℕ) (mask : new.mask ≡ old.mask) (are : new.descriptors ≡ old.descriptors) where
  pub fstat_stopped : (e : Refusal) → old.store.live ≡ true → new.store ≡ old.store → ((s : State) → s.descriptors ≡ old.descriptors → Err e ≡ open_at s h)
      → Did (command.fstat h) (Err (Refused e)) old new out
  fstat_stopped e live same is =
      did_refused_here (command.fstat h) old new out e live same mask are
      (mask_kept (command.fstat h) (Err (Refused e)) old new refl (λ answer. tt) mask) (record { after = same_opens old new are; stays = λ x. same_opens old new are })
      (λ bytes s stands. fstat_refused (request_of old) s h e (sym (is s (sym stands.descriptors))))

  pub fstat_ended : (fault : StoreFault) → EndsBy (Some fault) old.store new.store → KeepsPoint old.store new.store
      → ((z : State) → StoreStands old.store z → IsOfNoDamage (Some fault)) → Did (command.fstat h) (Err (Fault fault)) old new out
  fstat_ended fault ends point undamaged =
      did_fault (command.fstat h) old new out fault ends point mask (λ x. same_opens old new are) (λ s stands. undamaged s stands.store)

  module _ (d : Descriptor) (is : (s : State) → s.descriptors ≡ old.descriptors → Ok d ≡ open_at s h) (ends : EndsBy None old.store new.store)
      (point : KeepsPoint old.store new.store) (working : KeepsWorking old.store new.store) where
    pub fstat_gone : OnTree old.store (λ t. None ≡ head_at (request_of old) t d.number) → Did (command.fstat h) (Err (Refused refusal.BadDescriptor)) old new out
    fstat_gone none =
        did_refused (command.fstat h) old new out refusal.BadDescriptor ends point working mask are
        (mask_kept (command.fstat h) (Err (Refused refusal.BadDescriptor)) old new refl (λ answer. tt) mask)
        (record { after = same_opens old new are; stays = λ x. same_opens old new are })
        (λ bytes s stands. absurd (not_gone old s h d stands (sym (is s (sym stands.descriptors))) (none s stands.store stands.session.trees.tree)))

    pub fstat_told : (head : Head) → OnTree old.store (λ t. Some head ≡ head_at (request_of old) t d.number)
        → Did (command.fstat h) (Ok (a.Stat (status_in d.number head))) old new out
    fstat_told head told =
        did_looked (command.fstat h) old new out ends point working (a.Stat (status_in d.number head))
        (mask_kept (command.fstat h) (Ok (a.Stat (status_in d.number head))) old new refl (λ answer. tt) mask)
        (record { after = same_opens old new are; stays = λ x. same_opens old new are }) tt
        (λ bytes s stands. record {
          done = keeps s (status_of (request_of old) s.tree d.number);
          is = fstat_plan (request_of old) s h d (sym (is s (sym stands.descriptors)));
          none = refl;
          point = refl;
          told = ap Ok (status_is (request_of old) s.tree d.number head (told s stands.store stands.session.trees.tree));
          mask = mask ∙ stands.mask;
          descriptors = are ∙ stands.descriptors;
        })
