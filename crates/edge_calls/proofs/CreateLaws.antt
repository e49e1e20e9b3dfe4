-- What open does with a file that it makes, at each end.
use Rattle.std.proofs.Common.{◌≡◌, ◌∙◌, ℕ, ◌+◌, ◌/◌, ◌<◌, Bool, true, false, List, [], refl, sym, ap, subst, Option, Some, None}
use Rattle.std.specs.Prelude.{Result, Ok, Err}
use Rattle.edge_base.specs.commands.Descriptors.{first_empty}
use Rattle.edge_base.specs.commands.Events as event
use Rattle.edge_base.specs.commands.Refusals.{◌>>=◌, refuse_if, or_refuse}
use Rattle.edge_base.specs.declared.geometry.Request.{Request}
use Rattle.edge_base.specs.declared.node.NodeType.TheVariants.{File}
use Rattle.edge_base.specs.declared.refusal.Refusal.{Refusal}
use Rattle.edge_base.specs.declared.refusal.Refusal.TheVariants as refusal
use Rattle.edge_base.specs.layout.Places.{IsGeometry, IsWithinLimits, max_blocks_of}
use Rattle.edge_base.specs.outside.Below.{Origin}
use Rattle.edge_base.specs.tree.Nodes.{Node, file}
use Rattle.edge_base.specs.tree.Slots.{slots_in_block}
use Rattle.edge_store.specs.declared.fault.StoreFault.{StoreFault}
use Rattle.edge_store.specs.Calls.{KeepsPoint}
use Rattle.edge_store.specs.State.{StoreState, Told}
use Rattle.edge_store.specs.View.{IsView}
use Rattle.edge_file.specs.Writing.{RoomForBytes}
use Rattle.edge_dir.specs.Written.{place_of_slot}
use Rattle.edge_space.specs.declared.change.Change.{Change}
use Rattle.edge_model.specs.declared.command.Answer.TheVariants as a
use Rattle.edge_model.specs.declared.command.OpenFlags.{OpenFlags}
use Rattle.edge_model.specs.Asked as command
use Rattle.edge_model.specs.Asking.{IsInLimits}
use Rattle.edge_model.specs.Bytes.{IsOfBytes}
use Rattle.edge_model.specs.Named as tree
use Rattle.edge_model.specs.Named.{new_name}
use Rattle.edge_model.specs.Open.{entered, file_descriptor}
use Rattle.edge_model.specs.State.{State, Plan}
use Rattle.edge_model.specs.Tree.{Tree, free_number, is_directory, slots_at}
use Rattle.edge_model.specs.Walk.{within}
use Rattle.edge_steps.proofs.NodeLaws.{is_a_directory}
use Rattle.edge_names.specs.Made.{IsPlanned, MakesNode, NeverMaking}
use Rattle.edge_room.specs.Room.{HasRoomWhere}
use Rattle.edge_volume.specs.declared.stop.Stop.TheVariants.{Refused, Fault}
use Rattle.edge_volume.specs.Nodes.{OnTree}
use Rattle.edge_volume.specs.Volume.{VolumeState, StoreStands, VolumeStands, request_of, point_after, trees_after, points_due}
use Rattle.edge_volume.specs.Parts.{EndsBy, TakesUpTo, Comes}
use Rattle.edge_volume.specs.Did.{Did}
use Rattle.edge_volume.proofs.DidLaws.{mask_kept, did_refused_here}
use Rattle.edge_volume.proofs.FaultLaws.{ends_none}
use Rattle.edge_volume.proofs.OpenLaws.{same_opens}
use Rattle.edge_walk.proofs.TreeLaws.{directory_in_tree}
use Rattle.edge_calls.specs.declared.open.Opening.TheVariants.{New}
use Rattle.edge_calls.specs.declared.vacant.Vacancy.{Vacancy}
use Rattle.edge_calls.specs.Makes.{NewName, is_behind, may_take}
use Rattle.edge_calls.specs.Openings.{IsNew, OpensAs, made_plan}
use Rattle.edge_calls.proofs.MakeLaws.{new_at}
use Rattle.edge_calls.proofs.PutLaws.{put_at, put_named, put_room, made_keeps, made_there}
use Rattle.edge_calls.proofs.RoomLaws.{IsLooked, Judges, Fits, PlansAs, IsCarrying, carrying, did_without_room, did_in_judgement, did_in_change, did_never, did_in_point, did_answer}
use Rattle.edge_calls.proofs.OpenedLaws.{IsEntered, file_entered, file_mask, file_opens}

-- ---- a new node in the first empty slot

module _ (g : Request) (t : Tree) (slot : ℕ) where
  pub take_without_number : free_number g t ≡ None → Err refusal.NoInodes ≡ may_take g t slot
  take_without_number none = rw none refl

  module _ (n : ℕ) (free : free_number g t ≡ Some n) where
    pub take_behind : is_behind g slot ≡ true → Err refusal.TooBig ≡ may_take g t slot
    take_behind behind = rw (free, behind) refl

    pub take_is : is_behind g slot ≡ false → Ok tt ≡ may_take g t slot
    take_is inside = rw (free, inside) refl

module _ (g : Request) (t : Tree) (d : ℕ) (name : List ℕ) (node : Node) where
  abbrev allowed : Option ℕ → Bool → Result (Unit {0}) Refusal
  allowed o b = or_refuse o refusal.NoInodes >>= λ n. refuse_if b refusal.TooBig

  -- a node that may take it has the least free number
  pub new_is : (slot : ℕ) → slot ≡ first_empty (slots_at t d) → Ok tt ≡ may_take g t slot
      → (n : ℕ) × (new_name g t (within d name) node ≡ Ok (new_at g t (record { d = d; name = name; slot = slot }) node n))
  new_is slot first may = rw first (by (free_number g t) refl (is_behind g (first_empty (slots_at t d))) refl (may ∙ ap (may_take g t) first))
    where
      by : (o : Option ℕ) → free_number g t ≡ o → (b : Bool) → is_behind g (first_empty (slots_at t d)) ≡ b → Ok tt ≡ allowed o b
          → (n : ℕ) × (new_name g t (within d name) node ≡ Ok (new_at g t (record { d = d; name = name; slot = first_empty (slots_at t d) }) node n))
      by None is b behind e = absurd (cc)
      by (Some n) is true behind e = absurd (cc)
      by (Some n) is false inside e = (n, rw (is, inside) refl)

  -- what it may not, its plan is not
  pub new_refused : (slot : ℕ) → slot ≡ first_empty (slots_at t d) → (e : Refusal) → Err e ≡ may_take g t slot → new_name g t (within d name) node ≡ Err e
  new_refused slot first e may = by (free_number g t) refl (is_behind g (first_empty (slots_at t d))) refl (may ∙ ap (may_take g t) first)
    where
      by : (o : Option ℕ) → free_number g t ≡ o → (b : Bool) → is_behind g (first_empty (slots_at t d)) ≡ b → Err e ≡ allowed o b → new_name g t (within d name) node ≡ Err e
      by None is b behind h = rw is (ap (λ (r : Result (Unit {0}) Refusal). r >>= λ u. new_name g t (within d name) node) (sym h))
      by (Some n) is true behind h = rw (is, behind) (ap (λ (r : Result (Unit {0}) Refusal). r >>= λ u. new_name g t (within d name) node) (sym h))
      by (Some n) is false inside h = absurd (cc)

-- ---- ends

module _ (path : List ℕ) (flags : OpenFlags) (at : Vacancy) (old : VolumeState) (out : List ℕ) (live : old.store.live ≡ true) (new : IsNew old.store flags at)
    (opens : OpensAs old.store old.descriptors path flags (Ok (New at))) where
  abbrev asked : command.Asked
  asked = command.open_file path flags

  abbrev to_made : State → Result tree.NewName Refusal → Result Plan Refusal
  to_made s r = r >>= λ x. Ok (made_plan s flags x)

  -- no number is free, or the slot lies too far behind
  pub create_refused : (e : Refusal) → OnTree old.store (λ t. Err e ≡ may_take (request_of old) t at.slot) → Did asked (Err (Refused e)) old old out
  create_refused e may =
      did_refused_here asked old old out e live refl refl refl (mask_kept asked (Err (Refused e)) old old refl (λ answer. tt) refl) (record { after = refl; stays = λ x. refl })
      (λ bytes s stands.
      let t = stands.session.trees.tree in
      opens s stands.store t (sym stands.descriptors)
      ∙ ap (to_made s) (new_refused (request_of old) s.tree at.d at.name.now (file [] []) at.slot (new.first s stands.store t) e (may s stands.store t)))

  module _ (geometry : IsGeometry (request_of old)) (limits : IsWithinLimits (request_of old)) (may : OnTree old.store (λ t. Ok tt ≡ may_take (request_of old) t at.slot))
      (inside : at.slot / slots_in_block (request_of old) < max_blocks_of (request_of old)) (full : Bool) (is_full : full ≡ event.has_event old.mask event.full) where
    abbrev here : NewName
    here = record { d = at.d; name = at.name.now; slot = at.slot }

    abbrev change : Change
    change = put_at at.d at.slot

    looked : IsLooked old.store old.store
    looked = record {
      ends = ends_none old.store live;
      point = record { committed = refl; points = refl; under_way = refl };
      working = record { working = refl; places = refl };
    }

    abbrev first : (s : State) → VolumeStands old s → at.slot ≡ first_empty (slots_at s.tree at.d)
    first s stands = new.first s stands.store stands.session.trees.tree

    in_directory : (s : State) → VolumeStands old s → is_directory s.tree at.d ≡ true
    in_directory s stands = let r = directory_in_tree old.store at.d new.holder.directory s stands.store stands.session.trees.tree in is_a_directory s.tree at.d r.0 r.1 r.2

    abbrev makes : (s : State) → VolumeStands old s → (n : ℕ) × (new_name (request_of old) s.tree (within at.d at.name.now) (file [] []) ≡ Ok (new_at (request_of old) s.tree here (file [] []) n))
    makes s stands = new_is (request_of old) s.tree at.d at.name.now (file [] []) at.slot (first s stands) (may s stands.store stands.session.trees.tree)

    abbrev new_in : (s : State) → VolumeStands old s → tree.NewName
    new_in s stands = new_at (request_of old) s.tree here (file [] []) (makes s stands).0

    abbrev plans : PlansAs asked old full change 3
    plans of_bytes in_limits s stands = record {
      stands = stands.store;
      session = stands.session;
      is_full = is_full ∙ ap (λ m. event.has_event m event.full) stands.mask;
      of_bytes = of_bytes;
      in_limits = in_limits;
      done = made_plan s flags (new_in s stands);
      is = opens s stands.store stands.session.trees.tree (sym stands.descriptors) ∙ ap (to_made s) (makes s stands).1;
      edit = (new_in s stands).edit;
      has_edit = refl;
      names = put_named (request_of old) old.store.working s.tree (new_in s stands).edit.tree at.d at.slot
          (made_keeps s.tree at.d at.slot (record { name = at.name.now; number = (new_in s stands).number }) (new_in s stands).number (file [] []))
          (made_there s.tree at.d at.slot (record { name = at.name.now; number = (new_in s stands).number }) (new_in s stands).number (file [] []));
    }

    pub create_judging : (fault : StoreFault) (last : VolumeState) → last.mask ≡ old.mask → last.descriptors ≡ old.descriptors
        → EndsBy (Some fault) old.store last.store → TakesUpTo 1 old.store last.store → Judges old.store last.store full change 3 (Some fault) → Did asked (Err (Fault fault)) old last out
    create_judging fault last mask are ends most judges =
        did_in_judgement asked old last out old.store full change 3 looked mask plans fault ends most (same_opens old last are) judges

    pub create_unfit : (last : VolumeState) → last.mask ≡ old.mask → last.descriptors ≡ old.descriptors
        → EndsBy None old.store last.store → TakesUpTo 1 old.store last.store → Judges old.store last.store full change 3 None → Fits old.store full change 3 false
        → Did asked (Err (Refused refusal.NoSpace)) old last out
    create_unfit last mask are ends most judges fits =
        did_without_room asked old last out old.store full change 3 looked mask plans ends most are
        (mask_kept asked (Err (Refused refusal.NoSpace)) old last refl (λ answer. tt) mask) (record { after = same_opens old last are; stays = λ x. same_opens old last are }) judges fits

    module _ (mid : VolumeState) (ends : EndsBy None old.store mid.store) (most : TakesUpTo 1 old.store mid.store) (judges : Judges old.store mid.store full change 3 None)
        (fits : Fits old.store full change 3 true) (mid_mask : mid.mask ≡ old.mask) where
      planned_so : (of_bytes : IsOfBytes asked) (in_limits : IsInLimits asked) (s : State) (stands : VolumeStands old s) (z : State)
          → IsCarrying mid.store s (plans of_bytes in_limits s stands).edit z → IsPlanned mid.store.origin.request z File at.d at.slot at.name.now (new_in s stands)
      planned_so of_bytes in_limits s stands z k = record {
        tree = k.session.trees.tree;
        directory = subst (λ (t : Tree). is_directory t at.d ≡ true) (sym k.same_tree) (in_directory s stands);
        first = subst (λ (t : Tree). at.slot ≡ first_empty (slots_at t at.d)) (sym k.same_tree) (first s stands);
        is = (λ i. new_name (ends.origin i).request (k.same_tree i) (within at.d at.name.now) (file [] [])) ∙ (makes s stands).1;
        tree_then = k.tree;
      }

      room_so : HasRoomWhere mid.store change 3 true → Told mid.store
          → RoomForBytes mid.store at.d (place_of_slot mid.store.origin.request at.slot) (4 + mid.store.origin.request.name_max)
      room_so room is_told =
          put_room mid.store at.d at.slot (subst (λ (o : Origin). IsWithinLimits o.request) (sym ends.origin) limits)
          (subst (λ (o : Origin). at.slot / slots_in_block o.request < max_blocks_of o.request) (sym ends.origin) inside) is_told room

      -- a fault comes as the file is made
      pub create_faulted : (fault : StoreFault) (last : VolumeState) → last.mask ≡ old.mask → last.descriptors ≡ old.descriptors → EndsBy (Some fault) mid.store last.store
          → KeepsPoint mid.store last.store → NeverMaking mid.store File at.d at.slot at.name.now (Some fault) → HasRoomWhere mid.store change 3 true
          → Did asked (Err (Fault fault)) old last out
      create_faulted fault last mask are ended point never room =
          did_in_change asked old mid out geometry old.store full change 3 looked plans ends most judges fits mid_mask fault last mask (same_opens old last are) ended point
          (λ of_bytes in_limits s stands z k. never z (new_in s stands) k.stands (planned_so of_bytes in_limits s stands z k) (room_so room k.stands.told))

      -- no number is free, where no store stands for a tree
      pub create_none : (last : VolumeState) → last.mask ≡ old.mask → last.descriptors ≡ old.descriptors → EndsBy None mid.store last.store → KeepsPoint mid.store last.store
          → MakesNode mid.store last.store File at.d at.slot at.name.now None → Did asked (Err (Refused refusal.NoInodes)) old last out
      create_none last mask are ended point makes_none =
          did_never asked old mid out geometry old.store full change 3 looked plans ends most judges fits mid_mask refusal.NoInodes last ended point
          (mask_kept asked (Err (Refused refusal.NoInodes)) old last refl (λ answer. tt) mask) (record { after = same_opens old last are; stays = λ x. same_opens old last are })
          (λ of_bytes in_limits s stands z k.
          let m = makes_none z (new_in s stands) k.stands (planned_so of_bytes in_limits s stands z k) in
          let e : None ≡ Some (new_in s stands).number = m.0 in cc)

      module _ (made : StoreState) (view : Told made → IsView made.origin.request made.working) (made_ends : EndsBy None mid.store made) (point : KeepsPoint mid.store made)
          (n : ℕ) (makes_node : MakesNode mid.store made File at.d at.slot at.name.now (Some n)) (due : Bool) (is_due : due ≡ event.has_event old.mask event.create)
          (last : VolumeState) (mask : last.mask ≡ old.mask) where
        due_so : (of_bytes : IsOfBytes asked) (in_limits : IsInLimits asked) (s : State) (stands : VolumeStands old s) → (plans of_bytes in_limits s stands).done.point ≡ due
        due_so of_bytes in_limits s stands = ap (λ m. event.has_event m event.create) (sym stands.mask) ∙ sym is_due

        -- a fault comes in the point behind
        pub create_ended : last.descriptors ≡ old.descriptors → (fault : StoreFault) → EndsBy (Some fault) made last.store → TakesUpTo (points_due due) made last.store
            → ((z : State) → StoreStands made z → Comes (Some fault) made last.store z (point_after due z) (trees_after due z)) → Did asked (Err (Fault fault)) old last out
        create_ended are fault ended takes comes =
            did_in_point asked old mid out geometry old.store full change 3 looked plans ends most judges fits mid_mask made view made_ends point
            (λ of_bytes in_limits s stands z is_view k. (makes_node z (new_in s stands) k.stands (planned_so of_bytes in_limits s stands z k)).1) due due_so last mask
            (same_opens old last are) fault ended takes comes

        -- the number that is told is the one that is planned
        number_so : (of_bytes : IsOfBytes asked) (in_limits : IsInLimits asked) (s : State) (stands : VolumeStands old s) → n ≡ (new_in s stands).number
        number_so of_bytes in_limits s stands =
            let k = carrying asked old mid out geometry old.store full change 3 looked plans ends most judges fits mid_mask of_bytes in_limits s stands in
            let m = makes_node _ (new_in s stands) k.stands (planned_so of_bytes in_limits s stands _ k) in
            let e : Some n ≡ Some (new_in s stands).number = m.0 in cc

        -- it is answered, with a descriptor that is entered
        pub create_done : IsEntered flags n old.descriptors last.descriptors → EndsBy None made last.store → TakesUpTo (points_due due) made last.store
            → ((z : State) → StoreStands made z → Comes None made last.store z (point_after due z) (trees_after due z))
            → Did asked (Ok (a.Number (first_empty old.descriptors))) old last out
        create_done is ended takes comes =
            did_answer asked old mid out geometry old.store full change 3 looked plans ends most judges fits mid_mask made view made_ends point
            (λ of_bytes in_limits s stands z is_view k. (makes_node z (new_in s stands) k.stands (planned_so of_bytes in_limits s stands z k)).1) due due_so last mask
            (a.Number (first_empty old.descriptors)) ended takes comes (file_mask path flags n old last is mask) (file_opens path flags n old last is) tt
            (λ of_bytes in_limits s stands. (
              ap (λ ds. Ok (command.number (first_empty ds))) stands.descriptors,
              mask ∙ stands.mask,
              subst (λ (x : ℕ). last.descriptors ≡ entered s.descriptors (file_descriptor flags x)) (number_so of_bytes in_limits s stands)
                  (file_entered path flags n old last is s stands),
            ))
