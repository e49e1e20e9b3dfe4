-- The end of a session: the point that the mask may ask for.
use Rattle.std.proofs.Common.{◌≡◌, ◌∙◌, ◌-◌, Bool, true, false, cond, List, [], ◌∷◌, length, refl, sym, ap, subst, Option, None}
use Rattle.std.specs.Prelude.{All, is_some}
use Rattle.std.proofs.lemmas.List.Elements.{All-cons, All-nil}
use Rattle.edge_base.specs.commands.Descriptors.{Descriptors}
use Rattle.edge_base.specs.commands.Events.{has_event, umount}
use Rattle.edge_base.specs.declared.geometry.Request.{Request}
use Rattle.edge_base.specs.outside.Below.{Origin}
use Rattle.edge_store.specs.declared.fault.StoreFault.{StoreFault}
use Rattle.edge_model.specs.Asking.{IsAt}
use Rattle.edge_model.specs.Rules.{IsTree}
use Rattle.edge_model.specs.Run.{closing_state, closing_trees}
use Rattle.edge_model.specs.State.{State, point_taken, closes_with_point}
use Rattle.edge_model.specs.Tree.{Tree}
use Rattle.edge_steps.specs.Session.{IsSession}
use Rattle.edge_steps.proofs.SessionLaws.{closing_session}
use Rattle.edge_volume.specs.Parts.{EndsBy, Comes, IsAmong}
use Rattle.edge_volume.specs.Volume.{VolumeState, StoreStands, VolumeStands, IsCommitted, IsUnderWay, request_of, point_after, trees_after, points_due}
use Rattle.edge_calls.proofs.AskLaws.{among_trees}

after_is : (s : State) (due : Bool) → point_after due s ≡ cond due (point_taken s) s
after_is s true = refl
after_is s false = refl

trees_are : (s : State) (due : Bool) → trees_after due s ≡ cond due (s.tree ∷ []) []
trees_are s true = refl
trees_are s false = refl

same_mask : (s : State) (due : Bool) → s.mask ≡ (cond due (point_taken s) s).mask
same_mask s true = refl
same_mask s false = refl

same_descriptors : (s : State) (due : Bool) → s.descriptors ≡ (cond due (point_taken s) s).descriptors
same_descriptors s true = refl
same_descriptors s false = refl

closing_all : (g : Request) (s : State) (due : Bool) → IsTree g s.tree → All (IsTree g) (cond due (s.tree ∷ []) [])
closing_all g s true tree = All-cons (IsTree g) s.tree [] tree (All-nil (IsTree g))
closing_all g s false tree = All-nil (IsTree g)

-- the points that are due are as many as the closing trees
pub closing_count : (old : VolumeState) (due : Bool) → due ≡ has_event old.mask umount → (s : State) → VolumeStands old s → points_due due ≡ length (closing_trees s)
closing_count old due due_is s stands = count due ∙ ap (λ b. length (cond b (s.tree ∷ []) [])) (due_is ∙ ap (λ m. has_event m umount) stands.mask)
  where
    count : (b : Bool) → points_due b ≡ length (cond b (s.tree ∷ []) [])
    count true = refl
    count false = refl

module _ (old new : VolumeState) (due : Bool) (due_is : due ≡ has_event old.mask umount) (s : State) (stands : VolumeStands old s) where
  closes_is : due ≡ closes_with_point s
  closes_is = due_is ∙ ap (λ m. has_event m umount) stands.mask

  pub finish_stands : new.mask ≡ old.mask → new.descriptors ≡ old.descriptors → EndsBy None old.store new.store
      → Comes None old.store new.store s (point_after due s) (trees_after due s) → VolumeStands new (closing_state s)
  finish_stands mask are ends comes = record {
    store = subst (StoreStands new.store) (after_is s due ∙ ap (λ b. cond b (point_taken s) s) closes_is) (comes.to_state refl);
    session = subst (λ (o : Origin). IsSession o.request (closing_state s)) (sym ends.origin) (closing_session (request_of old) s stands.session);
    mask = mask ∙ stands.mask ∙ same_mask s (closes_with_point s);
    descriptors = are ∙ stands.descriptors ∙ same_descriptors s (closes_with_point s);
  }

  pub finish_trees : (fault : Option StoreFault) → EndsBy fault old.store new.store → Comes fault old.store new.store s (point_after due s) (trees_after due s)
      → IsAt (IsCommitted new) (IsUnderWay new) (is_some new.store.under_way) (s.committed ∷ closing_trees s) (new.store.points - old.store.points)
  finish_trees fault ends comes =
      among_trees new (s.committed ∷ closing_trees s) (new.store.points - old.store.points)
      (subst (λ (o : Origin). All (IsTree o.request) (s.committed ∷ closing_trees s)) (sym ends.origin)
      (All-cons (IsTree (request_of old)) s.committed (closing_trees s) stands.session.trees.committed (closing_all (request_of old) s (closes_with_point s) stands.session.trees.tree)))
      (subst (λ (trees : List Tree). IsAmong new.store (s.committed ∷ trees) (new.store.points - old.store.points)) (trees_are s due ∙ ap (λ b. cond b (s.tree ∷ []) []) closes_is) comes.trees)
