-- A command that gives a file a size, as it is carried out: mid is the volume as its room was judged.
use Rattle.std.proofs.Common.{◌≡◌, ◌∙◌, ℕ, ◌≤◌, Bool, true, refl, sym, ap, subst, arith, Some}
use Rattle.std.specs.Prelude.{Err}
use Rattle.std.proofs.lemmas.Bool.{lt-ltb, cond-true}
use Rattle.edge_base.specs.layout.Places.{IsGeometry, max_size_of}
use Rattle.edge_base.specs.outside.Below.{Origin}
use Rattle.edge_store.specs.declared.fault.StoreFault.{StoreFault}
use Rattle.edge_store.specs.declared.fault.StoreFault.TheVariants.{Damaged}
use Rattle.edge_store.specs.State.{StoreState, Told}
use Rattle.edge_store.specs.View.{IsView}
use Rattle.edge_tree.specs.Own.{UndamagedIf}
use Rattle.edge_shape.specs.Shape.{HasShape}
use Rattle.edge_file.specs.Bytes.{size_at}
use Rattle.edge_file.specs.Shortened.{shortening_need}
use Rattle.edge_file.specs.Writing.{RoomForSize, IsNodeSized, ShortensTo, LengthensTo, LengthensHead, SetsSize}
use Rattle.edge_space.specs.declared.change.Change.TheVariants.{Size}
use Rattle.edge_space.specs.Changes.{is_longer}
use Rattle.edge_model.specs.Asked.{Asked}
use Rattle.edge_model.specs.Asking.{IsInLimits}
use Rattle.edge_model.specs.Bytes.{IsOfBytes}
use Rattle.edge_model.specs.Files.{cut}
use Rattle.edge_model.specs.Rules.{IsTree}
use Rattle.edge_model.specs.State.{State, Edit}
use Rattle.edge_model.specs.Tree.{Tree, links_of}
use Rattle.edge_steps.specs.Listed.{IsListed}
use Rattle.edge_stands.specs.Stands.{StandsWith}
use Rattle.edge_stands.proofs.NodeLaws.{with_links_of}
use Rattle.edge_stands.proofs.StandingLaws.{each_shape, each_sized}
use Rattle.edge_changes.specs.Edited.{IsEdited}
use Rattle.edge_changes.proofs.EditLaws.{file_of, had_by}
use Rattle.edge_changes.proofs.SizeLaws.{sized_edited}
use Rattle.edge_room.specs.Room.{HasRoomWhere}
use Rattle.edge_volume.specs.Volume.{VolumeState, VolumeStands, request_of}
use Rattle.edge_volume.specs.Parts.{IsOfNoDamage}
use Rattle.edge_calls.proofs.RoomLaws.{PlansAs, IsCarrying}

-- in each state the command plans to give file n this size
abbrev pub PlansSize : (command : Asked) (n size reserve : ℕ) (old : VolumeState) (full : Bool) → PlansAs command old full (Size n size) reserve → Type 0
PlansSize command n size reserve old full plans = (of_bytes : IsOfBytes command) (limits : IsInLimits command) (s : State) (stands : VolumeStands old s)
    → (s.tree n ≡ Some (file_of s.tree n)) × (cut (request_of old) s.tree n size ≡ (plans of_bytes limits s stands).edit)

module _ (command : Asked) (n size reserve : ℕ) (old mid : VolumeState) (geometry : IsGeometry (request_of old)) (full : Bool) (plans : PlansAs command old full (Size n size) reserve)
    (is : PlansSize command n size reserve old full plans) (within : size ≤ max_size_of (request_of old)) (origin : mid.store.origin ≡ old.store.origin) where
  geometry_mid : IsGeometry mid.store.origin.request
  geometry_mid = subst (λ (o : Origin). IsGeometry o.request) (sym origin) geometry

  module _ (of_bytes : IsOfBytes command) (limits : IsInLimits command) (s : State) (stands : VolumeStands old s) (z : State)
      (k : IsCarrying mid.store s (plans of_bytes limits s stands).edit z) where
    file_so : z.tree n ≡ Some (file_of z.tree n)
    file_so = subst (λ (t : Tree). t n ≡ Some (file_of t n)) (sym k.same_tree) (is of_bytes limits s stands).0

    all_so : StandsWith mid.store.origin.request mid.store.working z.tree (links_of mid.store.origin.request z.tree)
    all_so = (with_links_of mid.store.origin.request mid.store.working z.tree).0 k.stands.views.tree

    sized_so : IsNodeSized mid.store n
    sized_so = each_sized mid.store.origin.request mid.store.working z.tree _ k.stands.views.working_is_view all_so n (file_of z.tree n) file_so geometry_mid
        (k.session.trees.tree.nodes n _ file_so)

    shape_so : HasShape mid.store.origin.request mid.store.working n (had_by mid.store.origin.request z.tree n)
    shape_so = each_shape mid.store.origin.request mid.store.working z.tree _ k.stands.views.working_is_view all_so n (file_of z.tree n) file_so geometry_mid

    same_edit : cut mid.store.origin.request z.tree n size ≡ (plans of_bytes limits s stands).edit
    same_edit = (λ i. cut (origin i).request (k.same_tree i) n size) ∙ (is of_bytes limits s stands).1

    -- the edit is made
    pub size_edited : (made : StoreState) → IsView mid.store.origin.request made.working → ShortensTo mid.store made n size → LengthensTo mid.store made n size
        → LengthensHead mid.store made n size → SetsSize mid.store made n size
        → IsEdited mid.store.origin.request mid.store.committed mid.store.working made.working z.tree (plans of_bytes limits s stands).edit
    size_edited made view shortens lengthens sets size_set =
        let g = mid.store.origin.request in
        subst (λ (e : Edit). IsEdited g mid.store.committed mid.store.working made.working z.tree e) same_edit
        (sized_edited g mid.store.committed mid.store.working made.working z.tree n size geometry_mid k.stands.views.working_is_view k.stands.views.tree k.session.trees.tree file_so
        (k.session.trees.tree.nodes n _ file_so) (subst (λ (e : Edit). IsTree g e.tree) (sym same_edit) k.tree)
        (subst (λ (o : Origin). size ≤ max_size_of o.request) (sym origin) within) (subst (λ (e : Edit). IsListed g z.tree e) (sym same_edit) k.listed) (size_set k.stands.told)
        (λ low. shortens k.stands.told low k.stands.told (had_by g z.tree n) shape_so) (lengthens k.stands.told) (sets k.stands.told))

  -- as many blocks are free as a shorter size needs
  room_so : HasRoomWhere mid.store (Size n size) reserve true → Told mid.store → RoomForSize mid.store n size
  room_so room is_told less =
      let low = room refl is_told 0 tt in
      let whole = cond-true (is_longer mid.store.working n size) (shortening_need mid.store.origin.request mid.store.committed mid.store.working n size) 0
      (lt-ltb size (size_at mid.store.working n) less) in
      omega arith

  -- no damage is told as the size is set
  pub size_never : (T : Type 0) (fault : StoreFault) → UndamagedIf {T = T} mid.store (IsNodeSized mid.store n) (RoomForSize mid.store n size) (Err fault)
      → HasRoomWhere mid.store (Size n size) reserve true → (of_bytes : IsOfBytes command) (limits : IsInLimits command) (s : State) (stands : VolumeStands old s) (z : State)
      → IsCarrying mid.store s (plans of_bytes limits s stands).edit z → IsOfNoDamage (Some fault)
  size_never T fault never room of_bytes limits s stands z k damage e =
      never k.stands.told (sized_so of_bytes limits s stands z k) (room_so room k.stands.told) damage (ap Err (let f : Some fault ≡ Some (Damaged damage) = e in cc))
