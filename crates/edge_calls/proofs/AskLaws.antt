-- What a command did, in the words of `Ask`.
use Rattle.std.proofs.Common.{◌≡◌, ℕ, ◌+◌, ◌-◌, List, ◌∷◌, refl, sym, ap, subst, Option, Some, None}
use Rattle.std.specs.Prelude.{Result, All, is_some}
use Rattle.std.proofs.lemmas.List.Elements.{All-cons, All-get_or}
use Rattle.edge_base.specs.outside.Below.{Origin}
use Rattle.edge_base.specs.declared.damage.Damage.{Damage}
use Rattle.edge_base.specs.declared.geometry.Request.{Request}
use Rattle.edge_base.specs.layout.Places.{IsGeometry}
use Rattle.edge_store.specs.View.{View}
use Rattle.edge_store.specs.declared.fault.StoreFault.{StoreFault}
use Rattle.edge_store.specs.declared.fault.StoreFault.TheVariants as store
use Rattle.edge_model.specs.declared.ask.AskFault.TheVariants as ask
use Rattle.edge_model.specs.declared.command.Answer.{Answer}
use Rattle.edge_model.specs.Asked.{Asked}
use Rattle.edge_model.specs.Asking.{IsAt, IsInLimits, tree_at}
use Rattle.edge_model.specs.Bytes.{IsOfBytes}
use Rattle.edge_model.specs.Rules.{IsTree}
use Rattle.edge_model.specs.State.{State}
use Rattle.edge_model.specs.Step.{step}
use Rattle.edge_model.specs.Tree.{Tree}
use Rattle.edge_steps.specs.Session.{IsSession}
use Rattle.edge_steps.proofs.SessionLaws.{step_session}
use Rattle.edge_steps.proofs.TreeLaws.{step_points}
use Rattle.edge_volume.specs.declared.stop.Stop.{Stop}
use Rattle.edge_volume.specs.Stopped.{fault_of}
use Rattle.edge_volume.specs.Did.{Did}
use Rattle.edge_volume.specs.Parts.{StandsSome, IsAmong, IsOfNoDamage}
use Rattle.edge_volume.specs.Volume.{VolumeState, VolumeStands, IsCommitted, IsUnderWay, IsSomeOfTree, request_of}
use Rattle.edge_calls.specs.State.{as_ask}

-- ---- the trees of points are trees

some_of : (g : Request) (v : Option View) (t : Tree) → IsTree g t → StandsSome g v t → IsSomeOfTree g v t
some_of g None t tree stands = stands
some_of g (Some v) t tree stands = record { tree = tree; stands = stands }

-- a store that is among trees is among trees that keep their rules, where all of them do
pub among_trees : (v : VolumeState) (trees : List Tree) (j : ℕ) → All (IsTree (request_of v)) trees → IsAmong v.store trees j
    → IsAt (IsCommitted v) (IsUnderWay v) (is_some v.store.under_way) trees j
among_trees v trees j all at = record {
  there = at.there;
  committed = record { tree = All-get_or (IsTree (request_of v)) trees j (λ n. None) at.there all; stands = at.committed };
  next = λ torn.
      let n = at.next torn in
      (n.0, some_of (request_of v) v.store.under_way (tree_at trees (j + 1)) (All-get_or (IsTree (request_of v)) trees (j + 1) (λ n. None) n.0 all) n.1);
}

-- ---- a command

module _ (command : Asked) (result : Result Answer Stop) (old new : VolumeState) (out : List ℕ) (did : Did command result old new out) (geometry : IsGeometry (request_of old))
    (bytes : IsOfBytes command) (limits : IsInLimits command) (s : State) (stands : VolumeStands old s) where
  same_request : request_of new ≡ request_of old
  same_request = ap (λ (o : Origin). o.request) did.ends.origin

  -- it has come to the state of the step
  pub did_stand : fault_of result ≡ None → VolumeStands new (step (request_of old) s command).state
  did_stand none =
      let m = did.meets bytes limits s stands in
      record {
        store = m.comes.to_state none;
        session = subst (λ (g : Request). IsSession g (step (request_of old) s command).state) (sym same_request) (step_session (request_of old) s command geometry bytes stands.session);
        mask = m.mask none;
        descriptors = m.descriptors none;
      }

  -- the last point was of one of its trees
  pub did_trees : IsAt (IsCommitted new) (IsUnderWay new) (is_some new.store.under_way) (s.committed ∷ (step (request_of old) s command).points) (new.store.points - old.store.points)
  did_trees =
      let m = did.meets bytes limits s stands in
      among_trees new (s.committed ∷ (step (request_of old) s command).points) (new.store.points - old.store.points)
      (subst (λ (g : Request). All (IsTree g) (s.committed ∷ (step (request_of old) s command).points)) (sym same_request)
      (All-cons (IsTree (request_of old)) s.committed (step (request_of old) s command).points stands.session.trees.committed
      (step_points (request_of old) s command geometry bytes stands.session.trees))) m.comes.trees

pub no_damage_told : (fault : StoreFault) (damage : Damage) → IsOfNoDamage (Some fault) → as_ask fault ≡ ask.Damaged damage → ⊥
no_damage_told store.Device damage none is = absurd (cc)
no_damage_told (store.Damaged x) damage none is = none x refl
