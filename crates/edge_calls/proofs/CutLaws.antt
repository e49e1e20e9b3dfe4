-- What truncate does, at each of its ends.
use Rattle.std.proofs.Common.{◌≡◌, ◌∙◌, ℕ, ◌/◌, ◌<◌, ◌≤◌, ◌&&◌, nat_lt, Bool, true, false, cond, List, [], ◌∷◌, length, map, ⊎_elim, refl, sym, ap, Option, Some, None}
use Rattle.std.specs.Prelude.{Result, Ok, Err}
use Rattle.std.proofs.lemmas.Bool.{cases_lt, lt-ltb, le-ltb}
use Rattle.edge_base.specs.commands.Descriptors.{Descriptor, Descriptors, descriptor_at}
use Rattle.edge_base.specs.commands.Events as event
use Rattle.edge_base.specs.commands.Refusals.{◌>>=◌, refuse_if}
use Rattle.edge_base.specs.declared.geometry.Request.{Request}
use Rattle.edge_base.specs.declared.refusal.Refusal.{Refusal}
use Rattle.edge_base.specs.declared.refusal.Refusal.TheVariants as refusal
use Rattle.edge_base.specs.layout.Places.{IsGeometry, max_size_of}
use Rattle.edge_base.specs.tree.Nodes.{Node}
use Rattle.edge_base.specs.tree.NodeRules.{IsFile}
use Rattle.edge_base.specs.tree.Positions.{data_at, has}
use Rattle.edge_base.specs.tree.Slots.{pieces}
use Rattle.edge_handles.specs.declared.Slot.{Slot}
use Rattle.edge_handles.specs.Table.{descriptor_of}
use Rattle.edge_store.specs.declared.fault.StoreFault.{StoreFault}
use Rattle.edge_store.specs.Calls.{KeepsPoint, KeepsWorking}
use Rattle.edge_store.specs.State.{StoreState, Told}
use Rattle.edge_store.specs.View.{View, IsView}
use Rattle.edge_tree.specs.Own.{UndamagedIf}
use Rattle.edge_count.specs.Cuts.{removed}
use Rattle.edge_file.specs.Shortened.{has_rest}
use Rattle.edge_file.specs.Writing.{RoomForSize, IsNodeSized, ShortensTo, LengthensTo, LengthensHead, SetsSize}
use Rattle.edge_space.specs.declared.change.Change.{Change}
use Rattle.edge_space.specs.declared.change.Change.TheVariants.{Size}
use Rattle.edge_space.specs.Changes.{is_longer, writes_of, removes_of}
use Rattle.edge_model.specs.declared.command.Answer.TheVariants as a
use Rattle.edge_model.specs.Asked as command
use Rattle.edge_model.specs.Asked.{done}
use Rattle.edge_model.specs.Asking.{IsInLimits}
use Rattle.edge_model.specs.Bytes.{IsOfBytes}
use Rattle.edge_model.specs.Files.{cut, plan_truncate}
use Rattle.edge_model.specs.Open.{writable_at}
use Rattle.edge_model.specs.State.{State, Plan, Edit, changes}
use Rattle.edge_model.specs.Step.{plan}
use Rattle.edge_model.specs.Tree.{Tree}
use Rattle.edge_image.specs.Opens.{StandsFor}
use Rattle.edge_steps.specs.Session.{IsSession}
use Rattle.edge_stands.specs.Stands.{indices_at}
use Rattle.edge_changes.specs.Edited.{IsEdited}
use Rattle.edge_changes.proofs.EditLaws.{text_of, flags_of, file_of}
use Rattle.edge_changes.proofs.SizeLaws.{size_was, same_rest, none_cut, none_past}
use Rattle.edge_room.specs.Room.{NamesEdit, HasRoomWhere, blocks_in}
use Rattle.edge_room.proofs.NamedLaws.{both_stay, data_stay, if_stay, removes_kept, set_stays, set_there}
use Rattle.edge_volume.specs.declared.stop.Stop.{Stop}
use Rattle.edge_volume.specs.declared.stop.Stop.TheVariants.{Refused, Fault}
use Rattle.edge_volume.specs.Stopped.{fault_of, IfAnswered}
use Rattle.edge_volume.specs.Volume.{VolumeState, StoreStands, VolumeStands, request_of, point_after, trees_after, points_due}
use Rattle.edge_volume.specs.Parts.{EndsBy, TakesUpTo, IsOfNoDamage, Comes}
use Rattle.edge_volume.specs.Did.{Did}
use Rattle.edge_volume.proofs.DidLaws.{mask_kept, did_refused, did_fault}
use Rattle.edge_volume.proofs.OpenLaws.{same_opens}
use Rattle.edge_calls.specs.declared.resize.Sizing.{Sizing}
use Rattle.edge_calls.specs.Sizes.{Sized, sizing_of, sizing_in}
use Rattle.edge_calls.proofs.RoomLaws.{IsLooked, Judges, Fits, PlansAs, IsCarrying, did_without_room, did_in_judgement, did_in_change, did_in_point, did_answer}
use Rattle.edge_calls.proofs.PlaceLaws.{file_open}
use Rattle.edge_calls.proofs.SizedLaws.{PlansSize, size_edited, size_never}

-- ---- the plan

module _ (g : Request) (s : State) (h size : ℕ) where
  abbrev pub cut_plan : Sized → Plan
  cut_plan x = changes s (cut g s.tree x.by.number size) event.truncate done

  pub by_sizing : plan_truncate g s h size ≡ (sizing_of g s h size >>= (λ x. Ok (cut_plan x)))
  unfolding plan_truncate
  by_sizing = by (writable_at s h)
    where
      by_size : (d : Descriptor) (past : Bool)
          → (refuse_if past refusal.TooBig >>= (λ u. Ok (changes s (cut g s.tree d.number size) event.truncate done)))
          ≡ ((refuse_if past refusal.TooBig >>= (λ u. Ok (let x : Sized = record { by = d; reserve = (cut g s.tree d.number size).reserve } in x))) >>= (λ x. Ok (cut_plan x)))
      by_size d true = refl
      by_size d false = refl

      by : (r : Result Descriptor Refusal)
          → (r >>= (λ d. refuse_if (nat_lt (max_size_of g) size) refusal.TooBig >>= (λ u. Ok (changes s (cut g s.tree d.number size) event.truncate done))))
          ≡ ((r >>= (λ d. refuse_if (nat_lt (max_size_of g) size) refusal.TooBig >>= (λ u. Ok (let x : Sized = record { by = d; reserve = (cut g s.tree d.number size).reserve } in x)))) >>= (λ x. Ok (cut_plan x)))
      by (Err e) = refl
      by (Ok d) = by_size d (nat_lt (max_size_of g) size)

-- ---- the change

-- of a file of a tree that a view stands for, the positions of the change are those of the edit
module _ (g : Request) (v : View) (t : Tree) (n size : ℕ) (geometry : IsGeometry g) (stands : StandsFor g v t) (there : t n ≡ Some (file_of t n)) (rules : IsFile g (text_of t n) (flags_of t n)) where
  mapped_if : (b : Bool) (i : ℕ) → map (data_at n) (cond b (i ∷ []) []) ≡ cond b (data_at n i ∷ []) []
  mapped_if true i = refl
  mapped_if false i = refl

  shorter_is : (low : size < length (text_of t n)) → is_longer v n size ≡ true
  shorter_is low = ap (nat_lt size) (size_was g v t n size geometry stands there rules) ∙ lt-ltb size (length (text_of t n)) low

  longer_is : (long : length (text_of t n) ≤ size) → is_longer v n size ≡ false
  longer_is long = ap (nat_lt size) (size_was g v t n size geometry stands there rules) ∙ le-ltb size (length (text_of t n)) long

  cut_writes : (cut g t n size).writes ≡ writes_of g v (Size n size) 0
  cut_writes = ⊎_elim
      (λ (low : size < length (text_of t n)).
      ap (map (data_at n)) (same_rest g v t n size geometry stands there rules low) ∙ mapped_if (has_rest g v n size) (size / g.block_size)
      ∙ ap (λ b. cond (b && has_rest g v n size) (data_at n (size / g.block_size) ∷ []) []) (sym (shorter_is low)))
      (λ (long : length (text_of t n) ≤ size).
      ap (map (data_at n)) (none_cut g v t n size geometry stands there rules long)
      ∙ ap (λ b. cond (b && has_rest g v n size) (data_at n (size / g.block_size) ∷ []) []) (sym (longer_is long)))
      (cases_lt size (length (text_of t n)))

  cut_removes : (cut g t n size).removes ≡ removes_of g v (Size n size) (blocks_in g t) 0
  cut_removes = ⊎_elim
      (λ (low : size < length (text_of t n)).
      ap (λ (o : Option Node). removed n (pieces g.block_size size) (indices_at g o)) (sym there)
      ∙ ap (λ b. cond b (removed n (pieces g.block_size size) (blocks_in g t n)) []) (sym (shorter_is low)))
      (λ (long : length (text_of t n) ≤ size).
      ap (map (data_at n)) (none_past g v t n size geometry stands there rules long)
      ∙ ap (λ b. cond b (removed n (pieces g.block_size size) (blocks_in g t n)) []) (sym (longer_is long)))
      (cases_lt size (length (text_of t n)))

  pub cut_named : (reserve : ℕ) → (cut g t n size).reserve ≡ reserve → NamesEdit g v t (Size n size) reserve (cut g t n size)
  cut_named reserve leaves =
      let u : Tree = (cut g t n size).tree in
      let stays = set_there t n _ in
      record {
        left = 0;
        are_left = tt;
        writes = λ p. ap (λ ps. has ps p) cut_writes;
        removes = λ p. ap (λ ps. has ps p) cut_removes ∙ removes_kept g t u (set_stays t t n _ (λ x there. there)) (removes_of g v (Size n size) (blocks_in g t) 0) p;
        stay = both_stay u (cut g t n size).writes (removes_of g v (Size n size) (blocks_in g t) 0) (data_stay u n _ stays)
            (if_stay u (is_longer v n size) (removed n (pieces g.block_size size) (blocks_in g t n)) (data_stay u n _ stays));
        leaves = leaves;
      }

-- ---- ends

module _ (h size : ℕ) (old : VolumeState) (out : List ℕ) where
  -- what is told of the file
  abbrev pub IsSizing : Result Sizing Refusal → Type 0
  IsSizing r = (z : State) → StoreStands old.store z → IsSession (request_of old) z → z.descriptors ≡ old.descriptors → sizing_in r ≡ sizing_of (request_of old) z h size

  pub plan_of : (r : Result Sizing Refusal) → IsSizing r → (s : State) → VolumeStands old s → plan (request_of old) s (command.truncate h size) ≡ (sizing_in r >>= (λ x. Ok (cut_plan (request_of old) s h size x)))
  plan_of r told s stands =
      let g = request_of old in
      by_sizing g s h size ∙ ap (λ t. t >>= (λ x. Ok (cut_plan g s h size x))) (sym (told s stands.store stands.session (sym stands.descriptors)))

  -- it is refused, or a fault comes, before room is judged
  pub cut_stopped : (stop : Stop) (last : VolumeState) → last.mask ≡ old.mask → last.descriptors ≡ old.descriptors
      → EndsBy (fault_of {T = Sizing} (Err stop)) old.store last.store → KeepsPoint old.store last.store → (fault_of {T = Sizing} (Err stop) ≡ None → KeepsWorking old.store last.store)
      → ((z : State) → StoreStands old.store z → IsOfNoDamage (fault_of {T = Sizing} (Err stop))) → IfAnswered {T = Sizing} (Err stop) IsSizing → Did (command.truncate h size) (Err stop) old last out
  cut_stopped (Refused e) last mask are ends point reads undamaged told =
      did_refused (command.truncate h size) old last out e ends point (reads refl) mask are (mask_kept (command.truncate h size) (Err (Refused e)) old last refl (λ answer. tt) mask)
      (record { after = same_opens old last are; stays = λ x. same_opens old last are }) (λ of_bytes s stands. plan_of (Err e) told s stands)
  cut_stopped (Fault fault) last mask are ends point reads undamaged told =
      did_fault (command.truncate h size) old last out fault ends point mask (λ x. same_opens old last are) (λ s stands. undamaged s stands.store)

  module _ (geometry : IsGeometry (request_of old)) (slot : Slot) (reserve : ℕ) (full : Bool) (b : StoreState) (looked : IsLooked old.store b) (is_full : full ≡ event.has_event old.mask event.full)
      (within : size ≤ max_size_of (request_of old)) (told : IsSizing (Ok (record { slot = slot; reserve = reserve }))) (is_open : descriptor_at old.descriptors h ≡ Some (descriptor_of slot))
      (kind : slot.directory ≡ false) where
    abbrev change : Change
    change = Size slot.number size

    abbrev edit_in : State → Edit
    edit_in s = cut (request_of old) s.tree slot.number size

    pub reserve_is : (s : State) → VolumeStands old s → (edit_in s).reserve ≡ reserve
    reserve_is s stands =
        let both = told s stands.store stands.session (sym stands.descriptors) in
        found (writable_at s h) (nat_lt (max_size_of (request_of old)) size) both
      where
        found : (r : Result Descriptor Refusal) (past : Bool)
            → Ok (let x : Sized = record { by = descriptor_of slot; reserve = reserve } in x)
            ≡ (r >>= (λ d. refuse_if past refusal.TooBig >>= (λ u. Ok (let x : Sized = record { by = d; reserve = (cut (request_of old) s.tree d.number size).reserve } in x))))
            → (edit_in s).reserve ≡ reserve
        found (Err e) past is = absurd (cc)
        found (Ok d) true is = absurd (cc)
        found (Ok d) false is =
            let same : record { by = descriptor_of slot; reserve = reserve } ≡ (let x : Sized = record { by = d; reserve = (cut (request_of old) s.tree d.number size).reserve } in x) = cc in
            ap (λ (x : Sized). (cut (request_of old) s.tree x.by.number size).reserve) same ∙ sym (ap (λ (x : Sized). x.reserve) same)

    pub file_in : (s : State) → VolumeStands old s → s.tree slot.number ≡ Some (file_of s.tree slot.number)
    file_in s stands = file_open (request_of old) s h (descriptor_of slot) stands.session (ap (λ (ds : Descriptors). descriptor_at ds h) (sym stands.descriptors) ∙ is_open) kind

    abbrev pub plans : PlansAs (command.truncate h size) old full change reserve
    plans of_bytes limits s stands = record {
      stands = stands.store;
      session = stands.session;
      is_full = is_full ∙ ap (λ m. event.has_event m event.full) stands.mask;
      of_bytes = of_bytes;
      in_limits = limits;
      done = cut_plan (request_of old) s h size (record { by = descriptor_of slot; reserve = reserve });
      is = plan_of (Ok (record { slot = slot; reserve = reserve })) told s stands;
      edit = edit_in s;
      has_edit = refl;
      names = cut_named (request_of old) old.store.working s.tree slot.number size geometry stands.store.views.tree (file_in s stands) (stands.session.trees.tree.nodes slot.number _ (file_in s stands))
          reserve (reserve_is s stands);
    }

    pub cut_judging : (fault : StoreFault) (last : VolumeState) → last.mask ≡ old.mask → last.descriptors ≡ old.descriptors
        → EndsBy (Some fault) b last.store → TakesUpTo 1 b last.store → Judges b last.store full change reserve (Some fault) → Did (command.truncate h size) (Err (Fault fault)) old last out
    cut_judging fault last mask are ends most judges =
        did_in_judgement (command.truncate h size) old last out b full change reserve looked mask plans fault ends most (same_opens old last are) judges

    pub cut_unfit : (last : VolumeState) → last.mask ≡ old.mask → last.descriptors ≡ old.descriptors
        → EndsBy None b last.store → TakesUpTo 1 b last.store → Judges b last.store full change reserve None → Fits b full change reserve false
        → Did (command.truncate h size) (Err (Refused refusal.NoSpace)) old last out
    cut_unfit last mask are ends most judges fits =
        did_without_room (command.truncate h size) old last out b full change reserve looked mask plans ends most are
        (mask_kept (command.truncate h size) (Err (Refused refusal.NoSpace)) old last refl (λ answer. tt) mask) (record { after = same_opens old last are; stays = λ x. same_opens old last are }) judges fits

    module _ (mid : VolumeState) (ends : EndsBy None b mid.store) (most : TakesUpTo 1 b mid.store) (judges : Judges b mid.store full change reserve None) (fits : Fits b full change reserve true)
        (mid_mask : mid.mask ≡ old.mask) where
      origin : mid.store.origin ≡ old.store.origin
      origin = ends.origin ∙ looked.ends.origin

      sizes : PlansSize (command.truncate h size) slot.number size reserve old full plans
      sizes of_bytes limits s stands = (file_in s stands, refl)

      -- a fault comes as the size is set
      pub cut_faulted : (T : Type 0) (fault : StoreFault) (last : VolumeState) → last.mask ≡ old.mask → last.descriptors ≡ old.descriptors → EndsBy (Some fault) mid.store last.store → KeepsPoint mid.store last.store
          → UndamagedIf {T = T} mid.store (IsNodeSized mid.store slot.number) (RoomForSize mid.store slot.number size) (Err fault) → HasRoomWhere mid.store change reserve true
          → Did (command.truncate h size) (Err (Fault fault)) old last out
      cut_faulted T fault last mask are ended point never room =
          did_in_change (command.truncate h size) old mid out geometry b full change reserve looked plans ends most judges fits mid_mask fault last mask (same_opens old last are) ended point
          (size_never (command.truncate h size) slot.number size reserve old mid geometry full plans sizes within origin T fault never room)

      module _ (made : StoreState) (view : Told made → IsView made.origin.request made.working) (made_ends : EndsBy None mid.store made) (point : KeepsPoint mid.store made)
          (shortens : ShortensTo mid.store made slot.number size) (lengthens : LengthensTo mid.store made slot.number size) (sets : LengthensHead mid.store made slot.number size)
          (size_set : SetsSize mid.store made slot.number size) (due : Bool) (is_due : due ≡ event.has_event old.mask event.truncate)
          (last : VolumeState) (mask : last.mask ≡ old.mask) (are : last.descriptors ≡ old.descriptors) where
        due_so : (of_bytes : IsOfBytes (command.truncate h size)) (limits : IsInLimits (command.truncate h size)) (s : State) (stands : VolumeStands old s) → (plans of_bytes limits s stands).done.point ≡ due
        due_so of_bytes limits s stands = ap (λ m. event.has_event m event.truncate) (sym stands.mask) ∙ sym is_due

        edits : (of_bytes : IsOfBytes (command.truncate h size)) (limits : IsInLimits (command.truncate h size)) (s : State) (stands : VolumeStands old s) (z : State) → IsView mid.store.origin.request made.working
            → IsCarrying mid.store s (plans of_bytes limits s stands).edit z
            → IsEdited mid.store.origin.request mid.store.committed mid.store.working made.working z.tree (plans of_bytes limits s stands).edit
        edits of_bytes limits s stands z is_view k =
            size_edited (command.truncate h size) slot.number size reserve old mid geometry full plans sizes within origin of_bytes limits s stands z k made is_view shortens lengthens sets size_set

        -- a fault comes in the point behind
        pub cut_ended : (fault : StoreFault) → EndsBy (Some fault) made last.store → TakesUpTo (points_due due) made last.store
            → ((z : State) → StoreStands made z → Comes (Some fault) made last.store z (point_after due z) (trees_after due z)) → Did (command.truncate h size) (Err (Fault fault)) old last out
        cut_ended fault ended takes comes =
            did_in_point (command.truncate h size) old mid out geometry b full change reserve looked plans ends most judges fits mid_mask made view made_ends point edits due due_so last mask
            (same_opens old last are) fault ended takes comes

        -- it is answered
        pub cut_done : EndsBy None made last.store → TakesUpTo (points_due due) made last.store
            → ((z : State) → StoreStands made z → Comes None made last.store z (point_after due z) (trees_after due z)) → Did (command.truncate h size) (Ok a.Done) old last out
        cut_done ended takes comes =
            did_answer (command.truncate h size) old mid out geometry b full change reserve looked plans ends most judges fits mid_mask made view made_ends point edits due due_so last mask
            a.Done ended takes comes (mask_kept (command.truncate h size) (Ok a.Done) old last refl (λ answer. tt) mask)
            (record { after = same_opens old last are; stays = λ x. same_opens old last are }) tt
            (λ of_bytes limits s stands. (refl, mask ∙ stands.mask, are ∙ stands.descriptors))
