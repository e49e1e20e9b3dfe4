-- What rename does, at each of its ends.
use Rattle.std.proofs.Common.{◌≡◌, ◌∙◌, ℕ, Bool, true, false, List, refl, sym, ap, subst, arith, Option, Some, None}
use Rattle.std.specs.Prelude.{Result, Ok, Err}
use Rattle.edge_base.specs.commands.Descriptors.{Descriptors}
use Rattle.edge_base.specs.commands.Events as event
use Rattle.edge_base.specs.commands.Refusals.{◌>>=◌}
use Rattle.edge_base.specs.declared.geometry.Request.{Request}
use Rattle.edge_base.specs.declared.refusal.Refusal.{Refusal}
use Rattle.edge_base.specs.declared.refusal.Refusal.TheVariants as refusal
use Rattle.edge_base.specs.layout.Places.{IsGeometry, IsWithinLimits}
use Rattle.edge_base.specs.outside.Below.{Origin}
use Rattle.edge_store.specs.declared.fault.StoreFault.{StoreFault}
use Rattle.edge_store.specs.Calls.{KeepsPoint, KeepsWorking}
use Rattle.edge_store.specs.State.{StoreState, Told}
use Rattle.edge_store.specs.View.{IsView}
use Rattle.edge_space.specs.declared.change.Change.{Change}
use Rattle.edge_space.specs.declared.change.Change.TheVariants.{Slots}
use Rattle.edge_model.specs.declared.command.Answer.TheVariants as a
use Rattle.edge_model.specs.Asked as command
use Rattle.edge_model.specs.Asked.{Asked}
use Rattle.edge_model.specs.Asking.{IsInLimits}
use Rattle.edge_model.specs.Bytes.{IsOfBytes}
use Rattle.edge_model.specs.Names.{plan_rename}
use Rattle.edge_model.specs.Rules.{IsTree}
use Rattle.edge_model.specs.State.{State, Plan, Edit}
use Rattle.edge_model.specs.Step.{plan}
use Rattle.edge_model.specs.Tree.{Tree}
use Rattle.edge_steps.specs.Session.{IsSession}
use Rattle.edge_changes.specs.Edited.{IsEdited}
use Rattle.edge_names.specs.Moved.{HasRoomToMove, MayMove, Moves, NeverMoving, moved, number_of}
use Rattle.edge_names.specs.declared.moves.Move.{Move}
use Rattle.edge_room.specs.Room.{HasRoomWhere, NamesEdit}
use Rattle.edge_volume.specs.declared.stop.Stop.{Stop}
use Rattle.edge_volume.specs.declared.stop.Stop.TheVariants.{Refused, Fault}
use Rattle.edge_volume.specs.Nodes.{OnTree}
use Rattle.edge_volume.specs.Stopped.{fault_of, IfAnswered}
use Rattle.edge_volume.specs.Volume.{VolumeState, StoreStands, VolumeStands, request_of, point_after, trees_after, points_due}
use Rattle.edge_volume.specs.Parts.{EndsBy, TakesUpTo, IsOfNoDamage, Comes}
use Rattle.edge_volume.specs.Did.{Did}
use Rattle.edge_volume.proofs.DidLaws.{mask_kept, did_refused, did_fault, did_settle, did_point_fault}
use Rattle.edge_volume.proofs.OpenLaws.{same_opens}
use Rattle.edge_calls.specs.declared.rename.Renaming.{Renaming}
use Rattle.edge_calls.specs.Renames.{Rename, rename_as, rename_by, rename_of, rename_with, renamed_by}
use Rattle.edge_calls.proofs.RenameMayLaws.{from_kind, may_move, old_entry, place_inside, places_apart, replaced_apart, to_kind}
use Rattle.edge_calls.proofs.RenameNamedLaws.{named}
use Rattle.edge_calls.proofs.RenamePlanLaws.{IsPlacedAt, IsRenaming, by_rename, facts, plan_for}
use Rattle.edge_calls.proofs.RoomLaws.{IsLooked, Judges, Fits, PlansAs, IsCarrying, did_without_room, did_in_judgement, did_in_change, did_in_point, did_answer}

module _ (path to : List ℕ) (old : VolumeState) (out : List ℕ) where
  abbrev asked : Asked
  asked = command.rename path to

  -- what is told of the move
  abbrev pub IsTold : Result (Option Renaming) Refusal → Type 0
  IsTold r = OnTree old.store (λ t. rename_as r ≡ rename_of (request_of old) t old.descriptors path to)

  pub plan_of : (r : Result (Option Renaming) Refusal) → IsTold r → (s : State) → VolumeStands old s
      → plan (request_of old) s asked ≡ (rename_as r >>= λ x. Ok (plan_for (request_of old) s x))
  plan_of r told s stands =
      let g = request_of old in
      by_rename g s path to stands.session.trees.tree
      ∙ ap (λ (x : Result (Option Rename) Refusal). x >>= λ y. Ok (plan_for g s y))
      (ap (λ (ds : Descriptors). rename_of g s.tree ds path to) (sym stands.descriptors) ∙ sym (told s stands.store stands.session.trees.tree))

  module _ (last : VolumeState) (mask : last.mask ≡ old.mask) (are : last.descriptors ≡ old.descriptors) where
    -- it is refused, or a fault comes, before room is judged
    pub rename_stopped : (stop : Stop) → EndsBy (fault_of {T = Option Renaming} (Err stop)) old.store last.store → KeepsPoint old.store last.store
        → (fault_of {T = Option Renaming} (Err stop) ≡ None → KeepsWorking old.store last.store)
        → OnTree old.store (λ t. IsOfNoDamage (fault_of {T = Option Renaming} (Err stop))) → IfAnswered {T = Option Renaming} (Err stop) IsTold → Did asked (Err stop) old last out
    rename_stopped (Refused e) ends point reads undamaged told =
        did_refused asked old last out e ends point (reads refl) mask are (mask_kept asked (Err (Refused e)) old last refl (λ answer. tt) mask)
        (record { after = same_opens old last are; stays = λ x. same_opens old last are }) (λ of_bytes s stands. plan_of (Err e) told s stands)
    rename_stopped (Fault fault) ends point reads undamaged told =
        did_fault asked old last out fault ends point mask (λ x. same_opens old last are) (λ s stands. undamaged s stands.store stands.session.trees.tree)

    -- ---- two names of one node

    module _ (b : StoreState) (looked : IsLooked old.store b) (told : IsTold (Ok None)) (due : Bool) (is_due : due ≡ event.has_event old.mask event.rename) where
      due_so : (s : State) → VolumeStands old s → event.has_event s.mask event.rename ≡ due
      due_so s stands = ap (λ (m : ℕ). event.has_event m event.rename) (sym stands.mask) ∙ sym is_due

      -- a fault comes in the point
      pub same_ended : (fault : StoreFault) → EndsBy (Some fault) b last.store → TakesUpTo (points_due due) b last.store
          → ((z : State) → StoreStands b z → Comes (Some fault) b last.store z (point_after due z) (trees_after due z)) → Did asked (Err (Fault fault)) old last out
      same_ended fault ended most comes =
          did_point_fault asked old last out b due looked.ends looked.point looked.working fault ended most comes mask (λ x. same_opens old last are)
          (λ s stands. (plan_for (request_of old) s None, plan_of (Ok None) told s stands, refl, due_so s stands))

      -- it is answered
      pub same_done : EndsBy None b last.store → TakesUpTo (points_due due) b last.store
          → ((z : State) → StoreStands b z → Comes None b last.store z (point_after due z) (trees_after due z)) → Did asked (Ok a.Done) old last out
      same_done ended most comes =
          did_settle asked old last out b due looked.ends looked.point looked.working a.Done ended most comes
          (mask_kept asked (Ok a.Done) old last refl (λ answer. tt) mask) (record { after = same_opens old last are; stays = λ x. same_opens old last are }) tt
          (λ bytes s stands. record {
            done = plan_for (request_of old) s None;
            is = plan_of (Ok None) told s stands;
            none = refl;
            point = due_so s stands;
            told = refl;
            mask = mask ∙ stands.mask;
            descriptors = are ∙ stands.descriptors;
          })

  -- ---- a name is moved

  module _ (geometry : IsGeometry (request_of old)) (limits : IsWithinLimits (request_of old)) (r : Renaming) (full : Bool) (b : StoreState) (looked : IsLooked old.store b)
      (is_full : full ≡ event.has_event old.mask event.full) (told : IsTold (Ok (Some r))) where
    abbrev change : Change
    change = Slots (Some r.change.to) (Some r.change.from)

    abbrev move : Rename
    move = rename_with r.change r.name.now

    abbrev edit_in : State → Edit
    edit_in s = renamed_by (request_of old) s.tree move

    is_renaming : (s : State) → VolumeStands old s → IsRenaming (request_of old) s.tree path to move
    is_renaming s stands = facts (request_of old) s.tree old.descriptors path to move (sym (told s stands.store stands.session.trees.tree))

    pub names_in : (s : State) → VolumeStands old s → NamesEdit (request_of old) old.store.working s.tree change 3 (edit_in s)
    names_in s stands =
        let g = request_of old in
        let tree = stands.session.trees.tree in
        let is = is_renaming s stands in
        let e = old_entry g s.tree path to move tree is in
        named g old.store.working s.tree move.held.dir move.held.slot move.name.dir move.slot move.held.number move.name.name limits tree stands.store.views.tree
        (from_kind g s.tree path to move tree is) e.0 e.1 (to_kind g s.tree path to move tree is) (place_inside g s.tree path to move tree is move.replaced is.place)
        (places_apart g s.tree path to move tree is move.replaced is.place) move.replaced
        (λ n same. replaced_apart g s.tree path to move tree is n (subst (IsPlacedAt g s.tree move) same is.place))

    abbrev pub plans : PlansAs asked old full change 3
    plans of_bytes in_limits s stands = record {
      stands = stands.store;
      session = stands.session;
      is_full = is_full ∙ ap (λ m. event.has_event m event.full) stands.mask;
      of_bytes = of_bytes;
      in_limits = in_limits;
      done = plan_for (request_of old) s (Some move);
      is = plan_of (Ok (Some r)) told s stands;
      edit = edit_in s;
      has_edit = refl;
      names = names_in s stands;
    }

    pub rename_judging : (fault : StoreFault) (last : VolumeState) → last.mask ≡ old.mask → last.descriptors ≡ old.descriptors
        → EndsBy (Some fault) b last.store → TakesUpTo 1 b last.store → Judges b last.store full change 3 (Some fault) → Did asked (Err (Fault fault)) old last out
    rename_judging fault last mask are ends most judges = did_in_judgement asked old last out b full change 3 looked mask plans fault ends most (same_opens old last are) judges

    pub rename_unfit : (last : VolumeState) → last.mask ≡ old.mask → last.descriptors ≡ old.descriptors
        → EndsBy None b last.store → TakesUpTo 1 b last.store → Judges b last.store full change 3 None → Fits b full change 3 false → Did asked (Err (Refused refusal.NoSpace)) old last out
    rename_unfit last mask are ends most judges fits =
        did_without_room asked old last out b full change 3 looked mask plans ends most are (mask_kept asked (Err (Refused refusal.NoSpace)) old last refl (λ answer. tt) mask)
        (record { after = same_opens old last are; stays = λ x. same_opens old last are }) judges fits

    module _ (mid : VolumeState) (ends : EndsBy None b mid.store) (most : TakesUpTo 1 b mid.store) (judges : Judges b mid.store full change 3 None) (fits : Fits b full change 3 true)
        (mid_mask : mid.mask ≡ old.mask) where
      origin : mid.store.origin ≡ old.store.origin
      origin = ends.origin ∙ looked.ends.origin

      module _ (of_bytes : IsOfBytes asked) (in_limits : IsInLimits asked) (s : State) (stands : VolumeStands old s) (z : State) (k : IsCarrying mid.store s (plans of_bytes in_limits s stands).edit z) where
        -- the edit of the state before is that of this one
        same_edit : moved mid.store.origin.request z.tree r.change r.name.now ≡ edit_in s
        same_edit = λ i. renamed_by (origin i).request (k.same_tree i) move

        may_so : MayMove mid.store.origin.request z r.change r.name.now
        may_so =
            may_move mid.store.origin.request z path to r.change r.name.now k.session.trees.tree
            (subst (λ (o : Origin). IsRenaming o.request z.tree path to move) (sym origin)
            (subst (λ (t : Tree). IsRenaming (request_of old) t path to move) (sym k.same_tree) (is_renaming s stands)))
            (subst (λ (e : Edit). IsTree mid.store.origin.request e.tree) (sym same_edit) k.tree)

        edited_so : (made : StoreState) → Moves mid.store made r.change r.name.now
            → IsEdited mid.store.origin.request mid.store.committed mid.store.working made.working z.tree (edit_in s)
        edited_so made moves =
            subst (λ (e : Edit). IsEdited mid.store.origin.request mid.store.committed mid.store.working made.working z.tree e) same_edit (moves z k.stands may_so)

      -- as many blocks are free as the move needs
      room_so : HasRoomWhere mid.store change 3 true → Told mid.store → HasRoomToMove mid.store r.change.to r.change.from
      room_so room is_told left are = let low = room refl is_told left are in omega (arith, low)

      -- a fault comes as the name is moved
      pub rename_faulted : (fault : StoreFault) (last : VolumeState) → last.mask ≡ old.mask → last.descriptors ≡ old.descriptors → EndsBy (Some fault) mid.store last.store
          → KeepsPoint mid.store last.store → NeverMoving mid.store r.change r.name.now (Some fault) → HasRoomWhere mid.store change 3 true → Did asked (Err (Fault fault)) old last out
      rename_faulted fault last mask are ended point never room =
          did_in_change asked old mid out geometry b full change 3 looked plans ends most judges fits mid_mask fault last mask (same_opens old last are) ended point
          (λ of_bytes in_limits s stands z k. never z k.stands (may_so of_bytes in_limits s stands z k) (room_so room k.stands.told))

      module _ (made : StoreState) (view : Told made → IsView made.origin.request made.working) (made_ends : EndsBy None mid.store made) (point : KeepsPoint mid.store made)
          (moves : Moves mid.store made r.change r.name.now) (due : Bool) (is_due : due ≡ event.has_event old.mask event.rename)
          (last : VolumeState) (mask : last.mask ≡ old.mask) (are : last.descriptors ≡ old.descriptors) where
        point_so : (of_bytes : IsOfBytes asked) (in_limits : IsInLimits asked) (s : State) (stands : VolumeStands old s) → (plans of_bytes in_limits s stands).done.point ≡ due
        point_so of_bytes in_limits s stands = ap (λ (m : ℕ). event.has_event m event.rename) (sym stands.mask) ∙ sym is_due

        edits : (of_bytes : IsOfBytes asked) (in_limits : IsInLimits asked) (s : State) (stands : VolumeStands old s) (z : State) → IsView mid.store.origin.request made.working
            → IsCarrying mid.store s (plans of_bytes in_limits s stands).edit z
            → IsEdited mid.store.origin.request mid.store.committed mid.store.working made.working z.tree (plans of_bytes in_limits s stands).edit
        edits of_bytes in_limits s stands z is_view k = edited_so of_bytes in_limits s stands z k made moves

        -- a fault comes in the point behind
        pub rename_ended : (fault : StoreFault) → EndsBy (Some fault) made last.store → TakesUpTo (points_due due) made last.store
            → ((z : State) → StoreStands made z → Comes (Some fault) made last.store z (point_after due z) (trees_after due z)) → Did asked (Err (Fault fault)) old last out
        rename_ended fault ended takes comes =
            did_in_point asked old mid out geometry b full change 3 looked plans ends most judges fits mid_mask made view made_ends point edits due point_so last mask
            (same_opens old last are) fault ended takes comes

        -- it is answered
        pub rename_done : EndsBy None made last.store → TakesUpTo (points_due due) made last.store
            → ((z : State) → StoreStands made z → Comes None made last.store z (point_after due z) (trees_after due z)) → Did asked (Ok a.Done) old last out
        rename_done ended takes comes =
            did_answer asked old mid out geometry b full change 3 looked plans ends most judges fits mid_mask made view made_ends point edits due point_so last mask
            a.Done ended takes comes (mask_kept asked (Ok a.Done) old last refl (λ answer. tt) mask)
            (record { after = same_opens old last are; stays = λ x. same_opens old last are }) tt
            (λ of_bytes in_limits s stands. (refl, mask ∙ stands.mask, are ∙ stands.descriptors))
