-- What mkdir does, at each of its ends.
use Rattle.std.proofs.Common.{◌≡◌, ◌∙◌, ℕ, ◌+◌, ◌/◌, ◌<◌, Bool, true, false, List, [], refl, sym, ap, subst, Option, Some, None}
use Rattle.std.specs.Prelude.{Result, Ok, Err}
use Rattle.edge_base.specs.commands.Descriptors.{first_empty}
use Rattle.edge_base.specs.commands.Events as event
use Rattle.edge_base.specs.declared.node.NodeType.TheVariants.{Directory}
use Rattle.edge_base.specs.declared.refusal.Refusal.{Refusal}
use Rattle.edge_base.specs.declared.refusal.Refusal.TheVariants as refusal
use Rattle.edge_base.specs.layout.Places.{IsGeometry, IsWithinLimits, max_blocks_of}
use Rattle.edge_base.specs.outside.Below.{Origin}
use Rattle.edge_base.specs.tree.Nodes.{directory}
use Rattle.edge_base.specs.tree.Slots.{slots_in_block}
use Rattle.edge_store.specs.declared.fault.StoreFault.{StoreFault}
use Rattle.edge_store.specs.Calls.{KeepsPoint, KeepsWorking}
use Rattle.edge_store.specs.State.{StoreState, Told}
use Rattle.edge_store.specs.View.{IsView}
use Rattle.edge_file.specs.Writing.{RoomForBytes}
use Rattle.edge_dir.specs.Written.{place_of_slot}
use Rattle.edge_space.specs.declared.change.Change.{Change}
use Rattle.edge_model.specs.declared.command.Answer.TheVariants as a
use Rattle.edge_model.specs.Asked as command
use Rattle.edge_model.specs.Asked.{done}
use Rattle.edge_model.specs.Asking.{IsInLimits}
use Rattle.edge_model.specs.Bytes.{IsOfBytes}
use Rattle.edge_model.specs.Named as tree
use Rattle.edge_model.specs.Named.{new_name}
use Rattle.edge_model.specs.State.{State, changes}
use Rattle.edge_model.specs.Tree.{Tree, is_directory, slots_at}
use Rattle.edge_model.specs.Walk.{within}
use Rattle.edge_model.proofs.WalkLaws.{in_directory}
use Rattle.edge_names.specs.Made.{IsPlanned, MakesNode, NeverMaking}
use Rattle.edge_room.specs.Room.{HasRoomWhere}
use Rattle.edge_volume.specs.declared.stop.Stop.{Stop}
use Rattle.edge_volume.specs.declared.stop.Stop.TheVariants.{Refused, Fault}
use Rattle.edge_volume.specs.Nodes.{OnTree}
use Rattle.edge_volume.specs.Stopped.{fault_of, IfAnswered}
use Rattle.edge_volume.specs.Volume.{VolumeState, StoreStands, VolumeStands, request_of, point_after, trees_after, points_due}
use Rattle.edge_volume.specs.Parts.{EndsBy, TakesUpTo, IsOfNoDamage, Comes}
use Rattle.edge_volume.specs.Did.{Did}
use Rattle.edge_volume.proofs.DidLaws.{mask_kept, did_refused, did_fault}
use Rattle.edge_volume.proofs.OpenLaws.{same_opens}
use Rattle.edge_calls.specs.declared.vacant.Vacancy.{Vacancy}
use Rattle.edge_calls.specs.Makes.{NewName, node_place_at, vacated}
use Rattle.edge_calls.proofs.MakeLaws.{MakesDir, new_at, make_dir_made, make_dir_refused}
use Rattle.edge_calls.proofs.PutLaws.{put_at, put_named, put_room, made_keeps, made_there}
use Rattle.edge_calls.proofs.RoomLaws.{IsLooked, Judges, Fits, PlansAs, IsCarrying, did_without_room, did_in_judgement, did_in_change, did_never, did_in_point, did_answer}

module _ (path : List ℕ) (old : VolumeState) (out : List ℕ) where
  abbrev asked : command.Asked
  asked = command.make_dir path

  -- what is told of the name's place
  abbrev pub IsPlaced : Result NewName Refusal → Type 0
  IsPlaced r = OnTree old.store (λ t. r ≡ node_place_at (request_of old) t path)

  -- it is refused, or a fault comes, before room is judged
  pub make_stopped : (stop : Stop) (last : VolumeState) → last.mask ≡ old.mask → last.descriptors ≡ old.descriptors
      → EndsBy (fault_of {T = Vacancy} (Err stop)) old.store last.store → KeepsPoint old.store last.store
      → (fault_of {T = Vacancy} (Err stop) ≡ None → KeepsWorking old.store last.store) → OnTree old.store (λ t. IsOfNoDamage (fault_of {T = Vacancy} (Err stop)))
      → IfAnswered {T = Vacancy} (Err stop) (λ r. IsPlaced (vacated r)) → Did asked (Err stop) old last out
  make_stopped (Refused e) last mask are ends point reads undamaged told =
      did_refused asked old last out e ends point (reads refl) mask are (mask_kept asked (Err (Refused e)) old last refl (λ answer. tt) mask)
      (record { after = same_opens old last are; stays = λ x. same_opens old last are })
      (λ of_bytes s stands. make_dir_refused (request_of old) s path e (told s stands.store stands.session.trees.tree))
  make_stopped (Fault fault) last mask are ends point reads undamaged told =
      did_fault asked old last out fault ends point mask (λ x. same_opens old last are) (λ s stands. undamaged s stands.store stands.session.trees.tree)

  module _ (geometry : IsGeometry (request_of old)) (limits : IsWithinLimits (request_of old)) (d slot : ℕ) (name : List ℕ) (full : Bool) (b : StoreState) (looked : IsLooked old.store b)
      (is_full : full ≡ event.has_event old.mask event.full) (inside : slot / slots_in_block (request_of old) < max_blocks_of (request_of old))
      (told : IsPlaced (Ok (record { d = d; name = name; slot = slot }))) where
    abbrev at : NewName
    at = record { d = d; name = name; slot = slot }

    abbrev change : Change
    change = put_at d slot

    abbrev makes : (s : State) → VolumeStands old s → MakesDir (request_of old) s path at
    makes s stands = make_dir_made (request_of old) s path at (told s stands.store stands.session.trees.tree)

    abbrev new_in : (s : State) → VolumeStands old s → tree.NewName
    new_in s stands = new_at (request_of old) s.tree at (directory [] d) (makes s stands).new.number

    abbrev pub plans : PlansAs asked old full change 3
    plans of_bytes in_limits s stands = record {
      stands = stands.store;
      session = stands.session;
      is_full = is_full ∙ ap (λ m. event.has_event m event.full) stands.mask;
      of_bytes = of_bytes;
      in_limits = in_limits;
      done = changes s (new_in s stands).edit event.mkdir done;
      is = (makes s stands).is;
      edit = (new_in s stands).edit;
      has_edit = refl;
      names = put_named (request_of old) old.store.working s.tree (new_in s stands).edit.tree d slot
          (made_keeps s.tree d slot (record { name = name; number = (new_in s stands).number }) (new_in s stands).number (directory [] d))
          (made_there s.tree d slot (record { name = name; number = (new_in s stands).number }) (new_in s stands).number (directory [] d));
    }

    pub make_judging : (fault : StoreFault) (last : VolumeState) → last.mask ≡ old.mask → last.descriptors ≡ old.descriptors
        → EndsBy (Some fault) b last.store → TakesUpTo 1 b last.store → Judges b last.store full change 3 (Some fault) → Did asked (Err (Fault fault)) old last out
    make_judging fault last mask are ends most judges =
        did_in_judgement asked old last out b full change 3 looked mask plans fault ends most (same_opens old last are) judges

    pub make_unfit : (last : VolumeState) → last.mask ≡ old.mask → last.descriptors ≡ old.descriptors
        → EndsBy None b last.store → TakesUpTo 1 b last.store → Judges b last.store full change 3 None → Fits b full change 3 false
        → Did asked (Err (Refused refusal.NoSpace)) old last out
    make_unfit last mask are ends most judges fits =
        did_without_room asked old last out b full change 3 looked mask plans ends most are
        (mask_kept asked (Err (Refused refusal.NoSpace)) old last refl (λ answer. tt) mask) (record { after = same_opens old last are; stays = λ x. same_opens old last are }) judges fits

    module _ (mid : VolumeState) (ends : EndsBy None b mid.store) (most : TakesUpTo 1 b mid.store) (judges : Judges b mid.store full change 3 None) (fits : Fits b full change 3 true)
        (mid_mask : mid.mask ≡ old.mask) where
      origin : mid.store.origin ≡ old.store.origin
      origin = ends.origin ∙ looked.ends.origin

      planned_so : (of_bytes : IsOfBytes asked) (in_limits : IsInLimits asked) (s : State) (stands : VolumeStands old s) (z : State)
          → IsCarrying mid.store s (plans of_bytes in_limits s stands).edit z → IsPlanned mid.store.origin.request z Directory d slot name (new_in s stands)
      planned_so of_bytes in_limits s stands z k =
          let m = makes s stands in
          record {
            tree = k.session.trees.tree;
            directory = subst (λ (t : Tree). is_directory t d ≡ true) (sym k.same_tree) (in_directory (request_of old) s.tree path d name m.spot);
            first = subst (λ (t : Tree). slot ≡ first_empty (slots_at t d)) (sym k.same_tree) m.new.first;
            is = (λ i. new_name (origin i).request (k.same_tree i) (within d name) (directory [] d)) ∙ m.new.named (directory [] d);
            tree_then = k.tree;
          }

      room_so : HasRoomWhere mid.store change 3 true → Told mid.store
          → RoomForBytes mid.store d (place_of_slot mid.store.origin.request slot) (4 + mid.store.origin.request.name_max)
      room_so room is_told =
          put_room mid.store d slot (subst (λ (o : Origin). IsWithinLimits o.request) (sym origin) limits)
          (subst (λ (o : Origin). slot / slots_in_block o.request < max_blocks_of o.request) (sym origin) inside) is_told room

      -- a fault comes as the node is made
      pub make_faulted : (fault : StoreFault) (last : VolumeState) → last.mask ≡ old.mask → last.descriptors ≡ old.descriptors → EndsBy (Some fault) mid.store last.store
          → KeepsPoint mid.store last.store → NeverMaking mid.store Directory d slot name (Some fault) → HasRoomWhere mid.store change 3 true → Did asked (Err (Fault fault)) old last out
      make_faulted fault last mask are ended point never room =
          did_in_change asked old mid out geometry b full change 3 looked plans ends most judges fits mid_mask fault last mask (same_opens old last are) ended point
          (λ of_bytes in_limits s stands z k. never z (new_in s stands) k.stands (planned_so of_bytes in_limits s stands z k) (room_so room k.stands.told))

      -- no number is free, where no store stands for a tree
      pub make_none : (last : VolumeState) → last.mask ≡ old.mask → last.descriptors ≡ old.descriptors → EndsBy None mid.store last.store → KeepsPoint mid.store last.store
          → MakesNode mid.store last.store Directory d slot name None → Did asked (Err (Refused refusal.NoInodes)) old last out
      make_none last mask are ended point makes_none =
          did_never asked old mid out geometry b full change 3 looked plans ends most judges fits mid_mask refusal.NoInodes last ended point
          (mask_kept asked (Err (Refused refusal.NoInodes)) old last refl (λ answer. tt) mask) (record { after = same_opens old last are; stays = λ x. same_opens old last are })
          (λ of_bytes in_limits s stands z k.
          let m = makes_none z (new_in s stands) k.stands (planned_so of_bytes in_limits s stands z k) in
          let e : None ≡ Some (new_in s stands).number = m.0 in cc)

      module _ (made : StoreState) (view : Told made → IsView made.origin.request made.working) (made_ends : EndsBy None mid.store made) (point : KeepsPoint mid.store made)
          (found : Option ℕ) (makes_node : MakesNode mid.store made Directory d slot name found) (due : Bool) (is_due : due ≡ event.has_event old.mask event.mkdir)
          (last : VolumeState) (mask : last.mask ≡ old.mask) (are : last.descriptors ≡ old.descriptors) where
        due_so : (of_bytes : IsOfBytes asked) (in_limits : IsInLimits asked) (s : State) (stands : VolumeStands old s) → (plans of_bytes in_limits s stands).done.point ≡ due
        due_so of_bytes in_limits s stands = ap (λ m. event.has_event m event.mkdir) (sym stands.mask) ∙ sym is_due

        -- a fault comes in the point behind
        pub make_ended : (fault : StoreFault) → EndsBy (Some fault) made last.store → TakesUpTo (points_due due) made last.store
            → ((z : State) → StoreStands made z → Comes (Some fault) made last.store z (point_after due z) (trees_after due z)) → Did asked (Err (Fault fault)) old last out
        make_ended fault ended takes comes =
            did_in_point asked old mid out geometry b full change 3 looked plans ends most judges fits mid_mask made view made_ends point
            (λ of_bytes in_limits s stands z is_view k. (makes_node z (new_in s stands) k.stands (planned_so of_bytes in_limits s stands z k)).1) due due_so last mask
            (same_opens old last are) fault ended takes comes

        -- it is answered
        pub make_done : EndsBy None made last.store → TakesUpTo (points_due due) made last.store
            → ((z : State) → StoreStands made z → Comes None made last.store z (point_after due z) (trees_after due z)) → Did asked (Ok a.Done) old last out
        make_done ended takes comes =
            did_answer asked old mid out geometry b full change 3 looked plans ends most judges fits mid_mask made view made_ends point
            (λ of_bytes in_limits s stands z is_view k. (makes_node z (new_in s stands) k.stands (planned_so of_bytes in_limits s stands z k)).1) due due_so last mask
            a.Done ended takes comes (mask_kept asked (Ok a.Done) old last refl (λ answer. tt) mask)
            (record { after = same_opens old last are; stays = λ x. same_opens old last are }) tt
            (λ of_bytes in_limits s stands. (refl, mask ∙ stands.mask, are ∙ stands.descriptors))
