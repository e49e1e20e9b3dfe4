-- What link does, at each of its ends.
use Rattle.std.proofs.Common.{◌≡◌, ◌∙◌, ℕ, ◌+◌, ◌/◌, ◌<◌, Bool, true, false, List, is_some, refl, sym, ap, subst, Some, None}
use Rattle.std.specs.Prelude.{Result, Ok, Err}
use Rattle.edge_base.specs.commands.Events as event
use Rattle.edge_base.specs.commands.Refusals.{◌>>=◌}
use Rattle.edge_base.specs.declared.refusal.Refusal.{Refusal}
use Rattle.edge_base.specs.declared.refusal.Refusal.TheVariants as refusal
use Rattle.edge_base.specs.layout.Places.{IsGeometry, IsWithinLimits, max_blocks_of}
use Rattle.edge_base.specs.outside.Below.{Origin}
use Rattle.edge_base.specs.tree.Slots.{slots_in_block}
use Rattle.edge_store.specs.declared.fault.StoreFault.{StoreFault}
use Rattle.edge_store.specs.Calls.{KeepsPoint, KeepsWorking}
use Rattle.edge_store.specs.State.{StoreState, Told}
use Rattle.edge_store.specs.View.{IsView}
use Rattle.edge_file.specs.Writing.{RoomForBytes}
use Rattle.edge_dir.specs.Written.{place_of_slot}
use Rattle.edge_space.specs.declared.change.Change.{Change}
use Rattle.edge_model.specs.declared.command.Answer.TheVariants as a
use Rattle.edge_model.specs.Asked as command
use Rattle.edge_model.specs.Asking.{IsInLimits}
use Rattle.edge_model.specs.Bytes.{IsOfBytes}
use Rattle.edge_model.specs.Named.{new_slot}
use Rattle.edge_model.specs.Rules.{IsTree}
use Rattle.edge_model.specs.State.{State, Edit}
use Rattle.edge_model.specs.Step.{plan}
use Rattle.edge_model.specs.Tree.{Tree, is_directory}
use Rattle.edge_changes.specs.Edited.{IsEdited}
use Rattle.edge_names.specs.Linked.{Links, MayLink, NeverLinking, linked}
use Rattle.edge_room.specs.Room.{HasRoomWhere}
use Rattle.edge_volume.specs.declared.stop.Stop.{Stop}
use Rattle.edge_volume.specs.declared.stop.Stop.TheVariants.{Refused, Fault}
use Rattle.edge_volume.specs.Nodes.{OnTree}
use Rattle.edge_volume.specs.Stopped.{fault_of, IfAnswered}
use Rattle.edge_volume.specs.Volume.{VolumeState, StoreStands, VolumeStands, request_of, point_after, trees_after, points_due}
use Rattle.edge_volume.specs.Parts.{EndsBy, TakesUpTo, IsOfNoDamage, Comes}
use Rattle.edge_volume.specs.Did.{Did}
use Rattle.edge_volume.proofs.DidLaws.{mask_kept, did_refused, did_fault}
use Rattle.edge_volume.proofs.OpenLaws.{same_opens}
use Rattle.edge_calls.specs.declared.link.Linking.{Linking}
use Rattle.edge_calls.specs.Links.{NewLink, link_in, link_of}
use Rattle.edge_calls.proofs.LinkPlanLaws.{by_link, link_may, link_plan}
use Rattle.edge_calls.proofs.PutLaws.{put_at, put_named, put_room, placed_keeps, placed_there}
use Rattle.edge_calls.proofs.RoomLaws.{IsLooked, Judges, Fits, PlansAs, IsCarrying, did_without_room, did_in_judgement, did_in_change, did_in_point, did_answer}

module _ (path to : List ℕ) (old : VolumeState) (out : List ℕ) where
  abbrev asked : command.Asked
  asked = command.link path to

  -- what is told of the file and its further name
  abbrev pub IsLinked : Result NewLink Refusal → Type 0
  IsLinked r = OnTree old.store (λ t. r ≡ link_of (request_of old) t path to)

  pub planned_by : (r : Result NewLink Refusal) → IsLinked r → (s : State) → VolumeStands old s → plan (request_of old) s asked ≡ (r >>= λ x. Ok (link_plan (request_of old) s x))
  planned_by r told s stands =
      by_link (request_of old) s path to ∙ ap (λ (q : Result NewLink Refusal). q >>= λ x. Ok (link_plan (request_of old) s x)) (sym (told s stands.store stands.session.trees.tree))

  -- it is refused, or a fault comes, before room is judged
  pub link_stopped : (stop : Stop) (last : VolumeState) → last.mask ≡ old.mask → last.descriptors ≡ old.descriptors
      → EndsBy (fault_of {T = Linking} (Err stop)) old.store last.store → KeepsPoint old.store last.store
      → (fault_of {T = Linking} (Err stop) ≡ None → KeepsWorking old.store last.store) → OnTree old.store (λ t. IsOfNoDamage (fault_of {T = Linking} (Err stop)))
      → IfAnswered {T = Linking} (Err stop) (λ r. IsLinked (link_in r)) → Did asked (Err stop) old last out
  link_stopped (Refused e) last mask are ends point reads undamaged told =
      did_refused asked old last out e ends point (reads refl) mask are (mask_kept asked (Err (Refused e)) old last refl (λ answer. tt) mask)
      (record { after = same_opens old last are; stays = λ x. same_opens old last are })
      (λ of_bytes s stands. planned_by (Err e) told s stands)
  link_stopped (Fault fault) last mask are ends point reads undamaged told =
      did_fault asked old last out fault ends point mask (λ x. same_opens old last are) (λ s stands. undamaged s stands.store stands.session.trees.tree)

  module _ (geometry : IsGeometry (request_of old)) (limits : IsWithinLimits (request_of old)) (n d slot : ℕ) (name : List ℕ) (full : Bool) (b : StoreState) (looked : IsLooked old.store b)
      (is_full : full ≡ event.has_event old.mask event.full) (inside : slot / slots_in_block (request_of old) < max_blocks_of (request_of old))
      (told : IsLinked (Ok (record { number = n; at = record { d = d; name = name; slot = slot } }))) where
    abbrev link : NewLink
    link = record { number = n; at = record { d = d; name = name; slot = slot } }

    abbrev change : Change
    change = put_at d slot

    abbrev edit_in : State → Edit
    edit_in s = linked (request_of old) s.tree n d slot name

    abbrev pub plans : PlansAs asked old full change 3
    plans of_bytes in_limits s stands = record {
      stands = stands.store;
      session = stands.session;
      is_full = is_full ∙ ap (λ m. event.has_event m event.full) stands.mask;
      of_bytes = of_bytes;
      in_limits = in_limits;
      done = link_plan (request_of old) s link;
      is = planned_by (Ok link) told s stands;
      edit = edit_in s;
      has_edit = refl;
      names = put_named (request_of old) old.store.working s.tree (edit_in s).tree d slot (placed_keeps s.tree d slot (record { name = name; number = n }))
          (placed_there s.tree d slot (record { name = name; number = n }));
    }

    pub link_judging : (fault : StoreFault) (last : VolumeState) → last.mask ≡ old.mask → last.descriptors ≡ old.descriptors
        → EndsBy (Some fault) b last.store → TakesUpTo 1 b last.store → Judges b last.store full change 3 (Some fault) → Did asked (Err (Fault fault)) old last out
    link_judging fault last mask are ends most judges =
        did_in_judgement asked old last out b full change 3 looked mask plans fault ends most (same_opens old last are) judges

    pub link_unfit : (last : VolumeState) → last.mask ≡ old.mask → last.descriptors ≡ old.descriptors
        → EndsBy None b last.store → TakesUpTo 1 b last.store → Judges b last.store full change 3 None → Fits b full change 3 false
        → Did asked (Err (Refused refusal.NoSpace)) old last out
    link_unfit last mask are ends most judges fits =
        did_without_room asked old last out b full change 3 looked mask plans ends most are
        (mask_kept asked (Err (Refused refusal.NoSpace)) old last refl (λ answer. tt) mask) (record { after = same_opens old last are; stays = λ x. same_opens old last are }) judges fits

    module _ (mid : VolumeState) (ends : EndsBy None b mid.store) (most : TakesUpTo 1 b mid.store) (judges : Judges b mid.store full change 3 None) (fits : Fits b full change 3 true)
        (mid_mask : mid.mask ≡ old.mask) where
      origin : mid.store.origin ≡ old.store.origin
      origin = ends.origin ∙ looked.ends.origin

      same_edit : (s z : State) → z.tree ≡ s.tree → linked mid.store.origin.request z.tree n d slot name ≡ edit_in s
      same_edit s z same = λ i. linked (origin i).request (same i) n d slot name

      may_so : (of_bytes : IsOfBytes asked) (in_limits : IsInLimits asked) (s : State) (stands : VolumeStands old s) (z : State)
          → IsCarrying mid.store s (plans of_bytes in_limits s stands).edit z → MayLink mid.store.origin.request z n d slot name
      may_so of_bytes in_limits s stands z k =
          let m = link_may (request_of old) s.tree path to link stands.session.trees.tree (told s stands.store stands.session.trees.tree) in
          record {
            tree = k.session.trees.tree;
            file = subst (λ (t : Tree). (is_some (t n) ≡ true) × (is_directory t n ≡ false)) (sym k.same_tree) (m.there, m.file);
            directory = subst (λ (t : Tree). is_directory t d ≡ true) (sym k.same_tree) m.directory;
            room = (λ i. new_slot (origin i).request (k.same_tree i) d) ∙ m.room;
            tree_then = subst (λ (e : Edit). IsTree mid.store.origin.request e.tree) (sym (same_edit s z k.same_tree)) k.tree;
          }

      room_so : HasRoomWhere mid.store change 3 true → Told mid.store
          → RoomForBytes mid.store d (place_of_slot mid.store.origin.request slot) (4 + mid.store.origin.request.name_max)
      room_so room is_told =
          put_room mid.store d slot (subst (λ (o : Origin). IsWithinLimits o.request) (sym origin) limits)
          (subst (λ (o : Origin). slot / slots_in_block o.request < max_blocks_of o.request) (sym origin) inside) is_told room

      -- a fault comes as the name is given
      pub link_faulted : (fault : StoreFault) (last : VolumeState) → last.mask ≡ old.mask → last.descriptors ≡ old.descriptors → EndsBy (Some fault) mid.store last.store
          → KeepsPoint mid.store last.store → NeverLinking mid.store n d slot name (Some fault) → HasRoomWhere mid.store change 3 true → Did asked (Err (Fault fault)) old last out
      link_faulted fault last mask are ended point never room =
          did_in_change asked old mid out geometry b full change 3 looked plans ends most judges fits mid_mask fault last mask (same_opens old last are) ended point
          (λ of_bytes in_limits s stands z k. never z k.stands (may_so of_bytes in_limits s stands z k) (room_so room k.stands.told))

      module _ (made : StoreState) (view : Told made → IsView made.origin.request made.working) (made_ends : EndsBy None mid.store made) (point : KeepsPoint mid.store made)
          (links : Links mid.store made n d slot name) (due : Bool) (is_due : due ≡ event.has_event old.mask event.link)
          (last : VolumeState) (mask : last.mask ≡ old.mask) (are : last.descriptors ≡ old.descriptors) where
        due_so : (of_bytes : IsOfBytes asked) (in_limits : IsInLimits asked) (s : State) (stands : VolumeStands old s) → (plans of_bytes in_limits s stands).done.point ≡ due
        due_so of_bytes in_limits s stands = ap (λ m. event.has_event m event.link) (sym stands.mask) ∙ sym is_due

        -- a fault comes in the point behind
        pub link_ended : (fault : StoreFault) → EndsBy (Some fault) made last.store → TakesUpTo (points_due due) made last.store
            → ((z : State) → StoreStands made z → Comes (Some fault) made last.store z (point_after due z) (trees_after due z)) → Did asked (Err (Fault fault)) old last out
        link_ended fault ended takes comes =
            did_in_point asked old mid out geometry b full change 3 looked plans ends most judges fits mid_mask made view made_ends point
            (λ of_bytes in_limits s stands z is_view k.
            subst (λ (e : Edit). IsEdited mid.store.origin.request mid.store.committed mid.store.working made.working z.tree e) (same_edit s z k.same_tree)
            (links z k.stands (may_so of_bytes in_limits s stands z k))) due due_so last mask
            (same_opens old last are) fault ended takes comes

        -- it is answered
        pub link_done : EndsBy None made last.store → TakesUpTo (points_due due) made last.store
            → ((z : State) → StoreStands made z → Comes None made last.store z (point_after due z) (trees_after due z)) → Did asked (Ok a.Done) old last out
        link_done ended takes comes =
            did_answer asked old mid out geometry b full change 3 looked plans ends most judges fits mid_mask made view made_ends point
            (λ of_bytes in_limits s stands z is_view k.
            subst (λ (e : Edit). IsEdited mid.store.origin.request mid.store.committed mid.store.working made.working z.tree e) (same_edit s z k.same_tree)
            (links z k.stands (may_so of_bytes in_limits s stands z k))) due due_so last mask
            a.Done ended takes comes (mask_kept asked (Ok a.Done) old last refl (λ answer. tt) mask)
            (record { after = same_opens old last are; stays = λ x. same_opens old last are }) tt
            (λ of_bytes in_limits s stands. (refl, mask ∙ stands.mask, are ∙ stands.descriptors))
