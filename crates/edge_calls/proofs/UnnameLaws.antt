-- What unlink and rmdir do once it is known which name goes, at each of their ends.
use Rattle.std.proofs.Common.{◌≡◌, ◌∙◌, ℕ, ◌/◌, ◌<◌, Bool, true, false, List, refl, sym, ap, subst, arith, Some, None}
use Rattle.std.specs.Prelude.{Result, Ok, Err}
use Rattle.edge_base.specs.commands.Events as event
use Rattle.edge_base.specs.declared.refusal.Refusal.{Refusal}
use Rattle.edge_base.specs.declared.refusal.Refusal.TheVariants as refusal
use Rattle.edge_base.specs.layout.Places.{IsGeometry, IsWithinLimits, max_blocks_of}
use Rattle.edge_base.specs.outside.Below.{Origin}
use Rattle.edge_base.specs.tree.Slots.{slots_in_block}
use Rattle.edge_store.specs.declared.fault.StoreFault.{StoreFault}
use Rattle.edge_store.specs.Calls.{KeepsPoint, KeepsWorking}
use Rattle.edge_store.specs.State.{StoreState, Told}
use Rattle.edge_store.specs.View.{IsView}
use Rattle.edge_space.specs.declared.change.Change.{Change}
use Rattle.edge_space.specs.declared.change.Change.TheVariants as change
use Rattle.edge_model.specs.declared.command.Answer.{Answer}
use Rattle.edge_model.specs.declared.command.Answer.TheVariants as a
use Rattle.edge_model.specs.Asked.{Asked, done}
use Rattle.edge_model.specs.Asking.{IsInLimits}
use Rattle.edge_model.specs.Bytes.{IsOfBytes}
use Rattle.edge_model.specs.Named.{without_slot}
use Rattle.edge_model.specs.Rules.{IsTree}
use Rattle.edge_model.specs.State.{State, Plan, Edit, changes}
use Rattle.edge_model.specs.Step.{plan}
use Rattle.edge_model.specs.Tree.{Tree, slots_at}
use Rattle.edge_changes.specs.Edited.{IsEdited}
use Rattle.edge_volume.specs.declared.stop.Stop.{Stop}
use Rattle.edge_volume.specs.declared.stop.Stop.TheVariants.{Refused, Fault}
use Rattle.edge_volume.specs.Stopped.{fault_of, IfAnswered}
use Rattle.edge_volume.specs.Volume.{VolumeState, StoreStands, VolumeStands, request_of, opens_of, point_after, trees_after, points_due}
use Rattle.edge_volume.specs.Nodes.{OnTree}
use Rattle.edge_volume.specs.Parts.{EndsBy, TakesUpTo, IsOfNoDamage, Comes}
use Rattle.edge_volume.specs.Did.{KeepsMask, KeepsOpen, Did}
use Rattle.edge_volume.proofs.DidLaws.{did_fault, did_refused, mask_kept}
use Rattle.edge_volume.proofs.FaultLaws.{ends_none}
use Rattle.edge_volume.proofs.OpenLaws.{same_opens}
use Rattle.edge_names.specs.Unnamed.{HasRoomToClear, MayUnname, NeverUnnaming}
use Rattle.edge_names.proofs.SlotRoomLaws.{room_to_clear}
use Rattle.edge_room.specs.Room.{HasRoomWhere, NamesEdit}
use Rattle.edge_calls.specs.declared.unname.Named.{Named}
use Rattle.edge_calls.specs.Unnaming.{IsLeafName, IsNamedNode, PlansToUnname, TakesAway, Unnames, is_last, of_directory, of_file, unnaming, unnaming_edit}
use Rattle.edge_calls.proofs.NameEditLaws.{edit_is, is_cleared, may_unname, unnaming_named}
use Rattle.edge_calls.proofs.RoomLaws.{IsLooked, Judges, Fits, PlansAs, IsCarrying, edit_tree, did_without_room, did_in_judgement, did_in_change, did_in_point, did_answer}

-- ---- what stays

keeps_mask : (command : Asked) → Unnames command → (result : Result Answer Stop) (one two : VolumeState) → two.mask ≡ one.mask → KeepsMask command result one two
keeps_mask _ (of_file path) result one two mask = mask_kept _ result one two refl (λ answer. tt) mask
keeps_mask _ (of_directory path) result one two mask = mask_kept _ result one two refl (λ answer. tt) mask

keeps_open : (command : Asked) → Unnames command → (result : Result Answer Stop) (one two : VolumeState) → opens_of two ≡ opens_of one → KeepsOpen command result one two
keeps_open _ (of_file path) (Ok x) one two opens = record { after = opens; stays = λ e. opens }
keeps_open _ (of_file path) (Err (Refused e)) one two opens = record { after = opens; stays = λ e. opens }
keeps_open _ (of_file path) (Err (Fault f)) one two opens = record { after = tt; stays = λ e. opens }
keeps_open _ (of_directory path) (Ok x) one two opens = record { after = opens; stays = λ e. opens }
keeps_open _ (of_directory path) (Err (Refused e)) one two opens = record { after = opens; stays = λ e. opens }
keeps_open _ (of_directory path) (Err (Fault f)) one two opens = record { after = tt; stays = λ e. opens }

-- what is known of a name stays known where the working view stays
pub named_still : (one two : StoreState) (named : Named) → two.origin ≡ one.origin → two.working ≡ one.working → IsNamedNode one named → IsNamedNode two named
named_still one two named origin working is = record {
  holder = record {
    number = rw origin is.holder.number;
    there = λ told. rw working (is.holder.there (ap (λ (o : Origin). o.tells) (sym origin) ∙ told));
    directory = λ told. rw working (is.holder.directory (ap (λ (o : Origin). o.tells) (sym origin) ∙ told));
  };
  block = rw origin is.block;
  node = record {
    number = rw origin is.node.number;
    rules = is.node.rules;
    there = λ told. rw working (is.node.there (ap (λ (o : Origin). o.tells) (sym origin) ∙ told));
    is_head = λ told. rw working (is.node.is_head (ap (λ (o : Origin). o.tells) (sym origin) ∙ told));
  };
}

-- ---- before it is known

-- what is told of a name, as what a command plans
abbrev pub TellsPlan : VolumeState → Asked → Result Named Refusal → Type 0
TellsPlan v command r = (z : State) → StoreStands v.store z → IsTree (request_of v) z.tree → z.descriptors ≡ v.descriptors
    → unnaming (request_of v) z r ≡ plan (request_of v) z command

-- it is refused, or a fault comes, before the name is known
pub unname_stopped : (command : Asked) → Unnames command → (old last : VolumeState) (out : List ℕ) (stop : Stop) → last.mask ≡ old.mask → last.descriptors ≡ old.descriptors
    → EndsBy (fault_of {T = Named} (Err stop)) old.store last.store → KeepsPoint old.store last.store → (fault_of {T = Named} (Err stop) ≡ None → KeepsWorking old.store last.store)
    → OnTree old.store (λ t. IsOfNoDamage (fault_of {T = Named} (Err stop))) → IfAnswered {T = Named} (Err stop) (TellsPlan old command) → Did command (Err stop) old last out
unname_stopped command unnames old last out (Refused e) mask are ends point reads undamaged told =
    did_refused command old last out e ends point (reads refl) mask are (keeps_mask command unnames _ old last mask) (keeps_open command unnames _ old last (same_opens old last are))
    (λ of_bytes s stands. sym (told s stands.store stands.session.trees.tree (sym stands.descriptors)))
unname_stopped command unnames old last out (Fault fault) mask are ends point reads undamaged told =
    did_fault command old last out fault ends point mask (λ x. same_opens old last are) (λ s stands. undamaged s stands.store stands.session.trees.tree)

-- a state that a store stands for after some reading it stood for before
stood : (one two : StoreState) (z : State) → IsLooked one two → StoreStands two z → StoreStands one z
stood one two z looked stands = record {
  told = ap (λ (o : Origin). o.tells) (sym looked.ends.origin) ∙ stands.told;
  whole = sym looked.point.under_way ∙ stands.whole;
  views = rw (sym looked.ends.origin, sym looked.point.committed, sym looked.working.working) stands.views;
}

-- what was told as the name was looked for holds of what follows
pub to_unname : (command : Asked) (old mid : VolumeState) (named : Named) → IsLooked old.store mid.store → mid.descriptors ≡ old.descriptors → TellsPlan old command (Ok named)
    → OnTree old.store (λ t. IsLeafName (request_of old) t named) → PlansToUnname command mid named
to_unname command old mid named looked are told leaf s stands =
    let before = stood old.store mid.store s looked stands.store in
    let tree = subst (λ (o : Origin). IsTree o.request s.tree) looked.ends.origin stands.session.trees.tree in (
      subst (λ (o : Origin). plan o.request s command ≡ unnaming o.request s (Ok named)) (sym looked.ends.origin) (sym (told s before tree (sym stands.descriptors ∙ are))),
      subst (λ (o : Origin). IsLeafName o.request s.tree named) (sym looked.ends.origin) (leaf s before tree),
    )

-- ---- ends

module _ (command : Asked) (unnames : Unnames command) (named : Named) (old : VolumeState) (out : List ℕ) (to : PlansToUnname command old named) (geometry : IsGeometry (request_of old))
    (limits_old : IsWithinLimits (request_of old)) (low : named.slot / slots_in_block (request_of old) < max_blocks_of (request_of old)) (full : Bool) (is_full : full ≡ event.has_event old.mask event.full)
    (live : old.store.live ≡ true) where
  looked : IsLooked old.store old.store
  looked = record {
    ends = ends_none old.store live;
    point = record { committed = refl; points = refl; under_way = refl };
    working = record { working = refl; places = refl };
  }

  abbrev changed : Change
  changed = change.Slots None (Some (record { dir = named.d; slot = named.slot }))

  abbrev edit_in : State → Edit
  edit_in s = unnaming_edit (request_of old) s.tree named

  abbrev done_in : State → Plan
  done_in s = changes s (edit_in s) event.unlink done

  module _ (of_bytes : IsOfBytes command) (s : State) (stands : VolumeStands old s) where
    pub leaf_in : IsLeafName (request_of old) s.tree named
    leaf_in = (to s stands).1

    pub may_in : MayUnname (request_of old) s named.number named.d named.slot (is_last named)
    may_in = may_unname (request_of old) s named stands.session.trees.tree leaf_in
        (edit_tree (request_of old) s command (done_in s) (edit_in s) geometry stands.session of_bytes (to s stands).0 refl)

  abbrev pub plans : PlansAs command old full changed 0
  plans of_bytes limits s stands = record {
    stands = stands.store;
    session = stands.session;
    is_full = is_full ∙ ap (λ m. event.has_event m event.full) stands.mask;
    of_bytes = of_bytes;
    in_limits = limits;
    done = done_in s;
    is = (to s stands).0;
    edit = edit_in s;
    has_edit = refl;
    names = subst (λ (e : Edit). NamesEdit (request_of old) old.store.working s.tree changed 0 e) (sym (edit_is (request_of old) s.tree named (leaf_in of_bytes s stands)))
        (unnaming_named (request_of old) old.store.working s named stands.store.views.working_is_view stands.store.views.tree (may_in of_bytes s stands));
  }

  pub unname_judging : (fault : StoreFault) (last : VolumeState) → last.mask ≡ old.mask → last.descriptors ≡ old.descriptors
      → EndsBy (Some fault) old.store last.store → TakesUpTo 1 old.store last.store → Judges old.store last.store full changed 0 (Some fault) → Did command (Err (Fault fault)) old last out
  unname_judging fault last mask are ends most judges = did_in_judgement command old last out old.store full changed 0 looked mask plans fault ends most (same_opens old last are) judges

  pub unname_unfit : (last : VolumeState) → last.mask ≡ old.mask → last.descriptors ≡ old.descriptors
      → EndsBy None old.store last.store → TakesUpTo 1 old.store last.store → Judges old.store last.store full changed 0 None → Fits old.store full changed 0 false
      → Did command (Err (Refused refusal.NoSpace)) old last out
  unname_unfit last mask are ends most judges fits =
      did_without_room command old last out old.store full changed 0 looked mask plans ends most are (keeps_mask command unnames _ old last mask)
      (keeps_open command unnames _ old last (same_opens old last are)) judges fits

  module _ (mid : VolumeState) (ends : EndsBy None old.store mid.store) (most : TakesUpTo 1 old.store mid.store) (judges : Judges old.store mid.store full changed 0 None)
      (fits : Fits old.store full changed 0 true) (mid_mask : mid.mask ≡ old.mask) where
    module _ (of_bytes : IsOfBytes command) (limits : IsInLimits command) (s : State) (stands : VolumeStands old s) (z : State) (k : IsCarrying mid.store s (plans of_bytes limits s stands).edit z) where
      leaf_so : IsLeafName mid.store.origin.request z.tree named
      leaf_so = subst (λ (o : Origin). IsLeafName o.request z.tree named) (sym ends.origin) (subst (λ (t : Tree). IsLeafName (request_of old) t named) (sym k.same_tree) (leaf_in of_bytes s stands))

      -- the edit of the state before is that of this one
      same_edit : unnaming_edit mid.store.origin.request z.tree named ≡ edit_in s
      same_edit = λ i. unnaming_edit (ends.origin i).request (k.same_tree i) named

      may_so : MayUnname mid.store.origin.request z named.number named.d named.slot (is_last named)
      may_so = may_unname mid.store.origin.request z named k.session.trees.tree leaf_so (subst (λ (e : Edit). IsTree mid.store.origin.request e.tree) (sym same_edit) k.tree)

      edited_so : (made : StoreState) → TakesAway mid.store made named → IsEdited mid.store.origin.request mid.store.committed mid.store.working made.working z.tree (edit_in s)
      edited_so made taken =
          let g = mid.store.origin.request in
          subst (λ (e : Edit). IsEdited g mid.store.committed mid.store.working made.working z.tree e) (sym (edit_is g z.tree named leaf_so) ∙ same_edit) (taken z k.stands may_so leaf_so)

      room_so : HasRoomWhere mid.store changed 0 true → HasRoomToClear mid.store z named.d named.slot
      room_so room =
          let g = mid.store.origin.request in
          let free = room refl k.stands.told _ (is_cleared g mid.store.working z named k.stands.views.working_is_view k.stands.views.tree may_so) in
          room_to_clear mid.store named.d named.slot (subst (λ (o : Origin). IsWithinLimits o.request) (sym ends.origin) limits_old)
          (subst (λ (o : Origin). named.slot / slots_in_block o.request < max_blocks_of o.request) (sym ends.origin) low) (without_slot (slots_at z.tree named.d) named.slot) (omega (arith, free))

    -- a fault comes as the name is taken away
    pub unname_faulted : (fault : StoreFault) (last : VolumeState) → last.mask ≡ old.mask → last.descriptors ≡ old.descriptors → EndsBy (Some fault) mid.store last.store → KeepsPoint mid.store last.store
        → NeverUnnaming mid.store named.number named.d named.slot (is_last named) (Some fault) → HasRoomWhere mid.store changed 0 true → Did command (Err (Fault fault)) old last out
    unname_faulted fault last mask are ended point never room =
        did_in_change command old mid out geometry old.store full changed 0 looked plans ends most judges fits mid_mask fault last mask (same_opens old last are) ended point
        (λ of_bytes limits s stands z k. never z k.stands (may_so of_bytes limits s stands z k) (room_so of_bytes limits s stands z k room))

    module _ (made : StoreState) (view : Told made → IsView made.origin.request made.working) (made_ends : EndsBy None mid.store made) (point : KeepsPoint mid.store made) (taken : TakesAway mid.store made named)
        (due : Bool) (is_due : due ≡ event.has_event old.mask event.unlink) (last : VolumeState) (mask : last.mask ≡ old.mask) (are : last.descriptors ≡ old.descriptors) where
      due_so : (of_bytes : IsOfBytes command) (limits : IsInLimits command) (s : State) (stands : VolumeStands old s) → (plans of_bytes limits s stands).done.point ≡ due
      due_so of_bytes limits s stands = ap (λ m. event.has_event m event.unlink) (sym stands.mask) ∙ sym is_due

      edits : (of_bytes : IsOfBytes command) (limits : IsInLimits command) (s : State) (stands : VolumeStands old s) (z : State) → IsView mid.store.origin.request made.working
          → IsCarrying mid.store s (plans of_bytes limits s stands).edit z
          → IsEdited mid.store.origin.request mid.store.committed mid.store.working made.working z.tree (plans of_bytes limits s stands).edit
      edits of_bytes limits s stands z is_view k = edited_so of_bytes limits s stands z k made taken

      -- a fault comes in the point behind
      pub unname_ended : (fault : StoreFault) → EndsBy (Some fault) made last.store → TakesUpTo (points_due due) made last.store
          → ((z : State) → StoreStands made z → Comes (Some fault) made last.store z (point_after due z) (trees_after due z)) → Did command (Err (Fault fault)) old last out
      unname_ended fault ended takes comes =
          did_in_point command old mid out geometry old.store full changed 0 looked plans ends most judges fits mid_mask made view made_ends point edits due due_so last mask (same_opens old last are)
          fault ended takes comes

      -- it is answered
      pub unname_done : EndsBy None made last.store → TakesUpTo (points_due due) made last.store
          → ((z : State) → StoreStands made z → Comes None made last.store z (point_after due z) (trees_after due z)) → Did command (Ok a.Done) old last out
      unname_done ended takes comes =
          did_answer command old mid out geometry old.store full changed 0 looked plans ends most judges fits mid_mask made view made_ends point edits due due_so last mask
          a.Done ended takes comes (keeps_mask command unnames _ old last mask) (keeps_open command unnames _ old last (same_opens old last are)) tt
          (λ of_bytes limits s stands. (refl, mask ∙ stands.mask, are ∙ stands.descriptors))
