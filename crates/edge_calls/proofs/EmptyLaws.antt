-- What open does with a file that it makes empty, at each end.
use Rattle.std.proofs.Common.{◌≡◌, ◌∙◌, ℕ, ◌<◌, ◌≤◌, ◌+◌, ◌-◌, ◌/◌, ◌==◌, ◌&&◌, not, nat_le, nat_lt, Bool, true, false, cond, List, [], ◌∷◌, length, map, filter, replicate, refl, sym, ap, subst, arith, unwrap_or, Option, Some, None}
use Rattle.std.specs.Prelude.{Ok, Err}
use Rattle.std.specs.List.{range_with_len}
use Rattle.std.proofs.lemmas.Bool.{le-leb}
use Rattle.std.proofs.Math.Nat.{zero-mod, div-eq_of_lt}
use Rattle.edge_base.specs.commands.Descriptors.{first_empty}
use Rattle.edge_base.specs.commands.Events as event
use Rattle.edge_base.specs.declared.geometry.Request.{Request}
use Rattle.edge_base.specs.declared.refusal.Refusal.TheVariants as refusal
use Rattle.edge_base.specs.layout.Places.{IsGeometry, max_size_of}
use Rattle.edge_base.specs.tree.NodeRules.{IsFile}
use Rattle.edge_base.specs.tree.Nodes.{Node, file, indices_of, marked_from}
use Rattle.edge_base.specs.tree.Positions.{data_at}
use Rattle.edge_base.specs.tree.Slots.{pieces}
use Rattle.edge_store.specs.declared.fault.StoreFault.{StoreFault}
use Rattle.edge_store.specs.Calls.{KeepsPoint}
use Rattle.edge_store.specs.State.{StoreState, Told}
use Rattle.edge_store.specs.View.{View, IsView}
use Rattle.edge_tree.specs.Own.{UndamagedIf}
use Rattle.edge_moves.proofs.SlotLaws.{some_pointers_fit}
use Rattle.edge_file.specs.Writing.{RoomForSize, IsNodeSized, ShortensTo, LengthensTo, LengthensHead, SetsSize}
use Rattle.edge_file.proofs.StepLaws.{some_bytes}
use Rattle.edge_space.specs.declared.change.Change.TheVariants.{Size}
use Rattle.edge_model.specs.declared.command.Answer.TheVariants as a
use Rattle.edge_model.specs.declared.command.OpenFlags.{OpenFlags}
use Rattle.edge_model.specs.Asked as command
use Rattle.edge_model.specs.Asking.{IsInLimits}
use Rattle.edge_model.specs.Bytes.{IsOfBytes}
use Rattle.edge_model.specs.Files.{is_marked, flags_for, resized, cut_block, past_end, cut}
use Rattle.edge_model.specs.Open.{emptied, open_plan}
use Rattle.edge_model.specs.State.{State, Edit}
use Rattle.edge_model.specs.Tree.{Tree, node_at, with_node}
use Rattle.edge_image.specs.Opens.{StandsFor}
use Rattle.edge_changes.specs.Edited.{IsEdited}
use Rattle.edge_changes.proofs.EditLaws.{text_of, flags_of, file_of, file_there}
use Rattle.edge_room.specs.Room.{NamesEdit, HasRoomWhere}
use Rattle.edge_volume.specs.declared.stop.Stop.TheVariants.{Refused, Fault}
use Rattle.edge_volume.specs.Volume.{VolumeState, StoreStands, VolumeStands, request_of, point_after, trees_after, points_due}
use Rattle.edge_volume.specs.Parts.{EndsBy, TakesUpTo, Comes}
use Rattle.edge_volume.specs.Did.{Did}
use Rattle.edge_volume.proofs.DidLaws.{mask_kept}
use Rattle.edge_volume.proofs.FaultLaws.{ends_none}
use Rattle.edge_volume.proofs.OpenLaws.{same_opens}
use Rattle.edge_calls.specs.declared.open.Opening.TheVariants.{There}
use Rattle.edge_calls.specs.Openings.{IsThere, OpensAs}
use Rattle.edge_calls.proofs.RoomLaws.{IsLooked, Judges, Fits, PlansAs, IsCarrying, did_without_room, did_in_judgement, did_in_change, did_in_point, did_answer}
use Rattle.edge_calls.proofs.CutLaws.{cut_named}
use Rattle.edge_calls.proofs.SizedLaws.{PlansSize, size_edited, size_never}
use Rattle.edge_calls.proofs.OpenedLaws.{IsEntered, file_entered, file_mask, file_opens}

-- ---- an empty file is one of no bytes

all_past : (xs : List ℕ) → filter (λ i. nat_le 0 i) xs ≡ xs
all_past [] = refl
all_past (x ∷ xs) =
    ap (λ (b : Bool). cond b (x ∷ filter (λ i. nat_le 0 i) xs) (filter (λ i. nat_le 0 i) xs)) (le-leb 0 x (omega arith)) ∙ ap (λ (ys : List ℕ). x ∷ ys) (all_past xs)

module _ (g : Request) (t : Tree) (n : ℕ) (geometry : IsGeometry g) (there : t n ≡ Some (file_of t n)) where
  no_piece : pieces g.block_size 0 ≡ 0
  no_piece = let some = some_bytes g (some_pointers_fit g geometry) in div-eq_of_lt (let low : 0 + (g.block_size - 1) < g.block_size = omega arith in low)

  no_bytes : resized (text_of t n) 0 ≡ []
  no_bytes = ap (λ (k : ℕ). replicate k 0) (let none : 0 - length (text_of t n) ≡ 0 = omega arith in none)

  no_flags : flags_for g 0 (is_marked (flags_of t n)) ≡ []
  no_flags = ap (λ (k : ℕ). map (is_marked (flags_of t n)) (range_with_len 0 k)) no_piece

  none_in_two : cut_block g (text_of t n) (flags_of t n) 0 ≡ []
  none_in_two =
      ap (λ (k : ℕ). cond (nat_lt 0 (length (text_of t n)) && not (k == 0) && is_marked (flags_of t n) (0 / g.block_size)) (0 / g.block_size ∷ []) []) (zero-mod g.block_size)
      ∙ by (nat_lt 0 (length (text_of t n))) (is_marked (flags_of t n) (0 / g.block_size))
    where
      by : (b m : Bool) → cond (b && false && m) (0 / g.block_size ∷ []) [] ≡ []
      by true m = refl
      by false m = refl

  each_past : past_end g (flags_of t n) 0 ≡ indices_of g (node_at t n)
  each_past = ap (λ (k : ℕ). filter (λ i. nat_le k i) (marked_from 0 (flags_of t n))) no_piece ∙ all_past (marked_from 0 (flags_of t n))
      ∙ sym (ap (λ (o : Option Node). indices_of g (unwrap_or o (file [] []))) there)

  none_left : (cut g t n 0).reserve ≡ 0
  none_left = ap (λ (b : Bool). cond b 0 3) (le-leb 0 (length (text_of t n)) (omega arith))

  pub emptied_is_cut : cut g t n 0 ≡ emptied g t n
  emptied_is_cut = λ i. record {
    tree = with_node t n (Some (file (no_bytes i) (no_flags i)));
    writes = map (data_at n) (none_in_two i);
    removes = map (data_at n) (each_past i);
    reserve = none_left i;
  }

  pub emptied_named : (v : View) → StandsFor g v t → IsFile g (text_of t n) (flags_of t n) → NamesEdit g v t (Size n 0) 0 (emptied g t n)
  emptied_named v stands rules = subst (λ (e : Edit). NamesEdit g v t (Size n 0) 0 e) emptied_is_cut (cut_named g v t n 0 geometry stands there rules 0 none_left)

-- ---- ends

module _ (path : List ℕ) (flags : OpenFlags) (n : ℕ) (old : VolumeState) (out : List ℕ) (geometry : IsGeometry (request_of old)) (live : old.store.live ≡ true) (there : IsThere old.store n)
    (empties : flags.truncate ≡ true) (opens : OpensAs old.store old.descriptors path flags (Ok (There n))) (full : Bool) (is_full : full ≡ event.has_event old.mask event.full) where
  abbrev asked : command.Asked
  asked = command.open_file path flags

  file_in : (s : State) → VolumeStands old s → s.tree n ≡ Some (file_of s.tree n)
  file_in s stands = let f = there.file s stands.store stands.session.trees.tree in file_there s.tree n f.0 f.1

  looked : IsLooked old.store old.store
  looked = record {
    ends = ends_none old.store live;
    point = record { committed = refl; points = refl; under_way = refl };
    working = record { working = refl; places = refl };
  }

  abbrev plans : PlansAs asked old full (Size n 0) 0
  plans of_bytes limits s stands = record {
    stands = stands.store;
    session = stands.session;
    is_full = is_full ∙ ap (λ m. event.has_event m event.full) stands.mask;
    of_bytes = of_bytes;
    in_limits = limits;
    done = open_plan true (request_of old) s flags n;
    is = opens s stands.store stands.session.trees.tree (sym stands.descriptors) ∙ ap (λ (b : Bool). Ok (open_plan b (request_of old) s flags n)) empties;
    edit = emptied (request_of old) s.tree n;
    has_edit = refl;
    names = emptied_named (request_of old) s.tree n geometry (file_in s stands) old.store.working stands.store.views.tree (stands.session.trees.tree.nodes n _ (file_in s stands));
  }

  sizes : PlansSize asked n 0 0 old full plans
  sizes of_bytes limits s stands = (file_in s stands, emptied_is_cut (request_of old) s.tree n geometry (file_in s stands))

  low : 0 ≤ max_size_of (request_of old)
  low = omega arith

  pub empty_judging : (fault : StoreFault) (last : VolumeState) → last.mask ≡ old.mask → last.descriptors ≡ old.descriptors
      → EndsBy (Some fault) old.store last.store → TakesUpTo 1 old.store last.store → Judges old.store last.store full (Size n 0) 0 (Some fault) → Did asked (Err (Fault fault)) old last out
  empty_judging fault last mask are ends most judges =
      did_in_judgement asked old last out old.store full (Size n 0) 0 looked mask plans fault ends most (same_opens old last are) judges

  pub empty_unfit : (last : VolumeState) → last.mask ≡ old.mask → last.descriptors ≡ old.descriptors
      → EndsBy None old.store last.store → TakesUpTo 1 old.store last.store → Judges old.store last.store full (Size n 0) 0 None → Fits old.store full (Size n 0) 0 false
      → Did asked (Err (Refused refusal.NoSpace)) old last out
  empty_unfit last mask are ends most judges fits =
      did_without_room asked old last out old.store full (Size n 0) 0 looked mask plans ends most are
      (mask_kept asked (Err (Refused refusal.NoSpace)) old last refl (λ answer. tt) mask) (record { after = same_opens old last are; stays = λ x. same_opens old last are }) judges fits

  module _ (mid : VolumeState) (ends : EndsBy None old.store mid.store) (most : TakesUpTo 1 old.store mid.store) (judges : Judges old.store mid.store full (Size n 0) 0 None)
      (fits : Fits old.store full (Size n 0) 0 true) (mid_mask : mid.mask ≡ old.mask) where
    -- a fault comes as the file is cut
    pub empty_faulted : (T : Type 0) (fault : StoreFault) (last : VolumeState) → last.mask ≡ old.mask → last.descriptors ≡ old.descriptors → EndsBy (Some fault) mid.store last.store
        → KeepsPoint mid.store last.store → UndamagedIf {T = T} mid.store (IsNodeSized mid.store n) (RoomForSize mid.store n 0) (Err fault) → HasRoomWhere mid.store (Size n 0) 0 true
        → Did asked (Err (Fault fault)) old last out
    empty_faulted T fault last mask are ended point never room =
        did_in_change asked old mid out geometry old.store full (Size n 0) 0 looked plans ends most judges fits mid_mask fault last mask (same_opens old last are) ended point
        (size_never asked n 0 0 old mid geometry full plans sizes low ends.origin T fault never room)

    module _ (made : StoreState) (view : Told made → IsView made.origin.request made.working) (made_ends : EndsBy None mid.store made) (point : KeepsPoint mid.store made)
        (shortens : ShortensTo mid.store made n 0) (lengthens : LengthensTo mid.store made n 0) (sets : LengthensHead mid.store made n 0) (size_set : SetsSize mid.store made n 0)
        (due : Bool) (is_due : due ≡ event.has_event old.mask event.truncate) (last : VolumeState) (mask : last.mask ≡ old.mask) where
      due_so : (of_bytes : IsOfBytes asked) (limits : IsInLimits asked) (s : State) (stands : VolumeStands old s) → (plans of_bytes limits s stands).done.point ≡ due
      due_so of_bytes limits s stands = ap (λ m. event.has_event m event.truncate) (sym stands.mask) ∙ sym is_due

      edits : (of_bytes : IsOfBytes asked) (limits : IsInLimits asked) (s : State) (stands : VolumeStands old s) (z : State) → IsView mid.store.origin.request made.working
          → IsCarrying mid.store s (plans of_bytes limits s stands).edit z
          → IsEdited mid.store.origin.request mid.store.committed mid.store.working made.working z.tree (plans of_bytes limits s stands).edit
      edits of_bytes limits s stands z is_view k =
          size_edited asked n 0 0 old mid geometry full plans sizes low ends.origin of_bytes limits s stands z k made is_view shortens lengthens sets size_set

      -- a fault comes in the point behind
      pub empty_ended : last.descriptors ≡ old.descriptors → (fault : StoreFault) → EndsBy (Some fault) made last.store → TakesUpTo (points_due due) made last.store
          → ((z : State) → StoreStands made z → Comes (Some fault) made last.store z (point_after due z) (trees_after due z)) → Did asked (Err (Fault fault)) old last out
      empty_ended are fault ended takes comes =
          did_in_point asked old mid out geometry old.store full (Size n 0) 0 looked plans ends most judges fits mid_mask made view made_ends point edits due due_so last mask
          (same_opens old last are) fault ended takes comes

      -- it is answered, with a descriptor that is entered
      pub empty_done : IsEntered flags n old.descriptors last.descriptors → EndsBy None made last.store → TakesUpTo (points_due due) made last.store
          → ((z : State) → StoreStands made z → Comes None made last.store z (point_after due z) (trees_after due z))
          → Did asked (Ok (a.Number (first_empty old.descriptors))) old last out
      empty_done is ended takes comes =
          did_answer asked old mid out geometry old.store full (Size n 0) 0 looked plans ends most judges fits mid_mask made view made_ends point edits due due_so last mask
          (a.Number (first_empty old.descriptors)) ended takes comes (file_mask path flags n old last is mask) (file_opens path flags n old last is) tt
          (λ of_bytes limits s stands. (ap (λ ds. Ok (command.number (first_empty ds))) stands.descriptors, mask ∙ stands.mask, file_entered path flags n old last is s stands))
