-- Room for the two steps of a move in a store that stands for a tree: a name is put into a slot, and then another slot is cleared.
use Rattle.std.proofs.Common.{◌≡◌, ◌≢◌, ◌∙◌, ℕ, ◌<◌, ◌≤◌, ◌+◌, true, inl, inr, [], length, unwrap_or, Option, Some, None, sym, ap, subst}
use Rattle.std.specs.Prelude.{slice_set}
use Rattle.std.proofs.lemmas.Bool.{cases_eq}
use Rattle.edge_base.specs.declared.geometry.Request.{Request}
use Rattle.edge_base.specs.layout.Places.{IsGeometry, IsWithinLimits}
use Rattle.edge_base.specs.tree.NodeRules.{IsDirectory}
use Rattle.edge_base.specs.tree.Nodes.{Node, file, directory, indices_of}
use Rattle.edge_base.specs.tree.Slots.{Entry, Slots}
use Rattle.edge_store.specs.Placed.{HasNode}
use Rattle.edge_store.specs.State.{StoreState}
use Rattle.edge_store.specs.View.{View, IsView, free_now, is_whole}
use Rattle.edge_model.specs.Named.{placed, with_slot, without_slot}
use Rattle.edge_model.specs.Rules.{IsTree}
use Rattle.edge_model.specs.Tree.{Tree, is_directory, is_directory_node, links_of, slots_at, slots_of_node}
use Rattle.edge_image.specs.Opens.{StandsFor}
use Rattle.edge_file.specs.Bytes.{blocks_under}
use Rattle.edge_file.specs.Rewritten.{IsRewritten}
use Rattle.edge_file.specs.Writing.{RoomForBytes}
use Rattle.edge_dir.specs.Cleared.{clearing_need}
use Rattle.edge_dir.specs.Written.{IsSetTo, place_of_slot}
use Rattle.edge_space.specs.Changes.{AreLeft, IsWithin, need_of_change}
use Rattle.edge_space.specs.Slots.{IsPutInto}
use Rattle.edge_space.specs.declared.change.Change.TheVariants as change
use Rattle.edge_space.specs.declared.change.SlotAt.{SlotAt}
use Rattle.edge_steps.specs.Naming.{slot_of}
use Rattle.edge_steps.proofs.NodeLaws.{directory_is, is_a_directory, node_set, slots_are}
use Rattle.edge_steps.proofs.SetLaws.{placed_is}
use Rattle.edge_steps.proofs.SlotLaws.{cleared_here, cleared_elsewhere, slot_inside, trimmed_twice}
use Rattle.edge_stands.specs.Stands.{StandsWith}
use Rattle.edge_stands.proofs.NodeLaws.{with_links_of}
use Rattle.edge_stands.proofs.StandingLaws.{each_apart, each_node}
use Rattle.edge_names.proofs.PutRoomLaws.{room_to_put_first, room_left_to_clear}
use Rattle.edge_names.proofs.StoreLaws.{filled_slot}

-- a directory of a tree, by its slots
directory_there : (t : Tree) (d : ℕ) → is_directory t d ≡ true → (parent : ℕ) × (t d ≡ Some (directory (slots_at t d) parent))
directory_there t d kind =
    let is = directory_is t d kind in
    (is.1, is.2 ∙ ap (λ (s : Slots). Some (directory s is.1)) (sym (slots_are t d is.0 is.1 is.2)))

directory_node : (g : Request) (v : View) (t : Tree) (links : ℕ → ℕ) (d : ℕ) → IsView g v → StandsWith g v t links → is_directory t d ≡ true → IsDirectory g (slots_at t d)
    → (parent : ℕ) × HasNode g v d (directory (slots_at t d) parent)
directory_node g v t links d view stands kind rules =
    let is = directory_there t d kind in
    (is.0, each_node g v t links view stands d (directory (slots_at t d) is.0) is.1 rules)

-- ---- between the two steps

module _ (g : Request) (t : Tree) (put clear : SlotAt) (e : Entry) (tree : IsTree g t) (put_kind : is_directory t put.dir ≡ true) (clear_kind : is_directory t clear.dir ≡ true)
    (near : put.slot ≤ length (slots_at t put.dir)) where
  abbrev pub between : Tree
  between = placed t put.dir put.slot e

  abbrev filled : Slots
  filled = with_slot (slots_at t put.dir) put.slot e

  put_there : (parent : ℕ) × (t put.dir ≡ Some (directory (slots_at t put.dir) parent))
  put_there = directory_there t put.dir put_kind

  filled_there : between put.dir ≡ Some (directory filled put_there.0)
  filled_there = ap (λ (x : Tree). x put.dir) (placed_is t put.dir put.slot e (slots_at t put.dir) put_there.0 put_there.1) ∙ (node_set t put.dir (Some (directory filled put_there.0))).here

  stays : put.dir ≢ clear.dir → between clear.dir ≡ t clear.dir
  stays apart =
      ap (λ (x : Tree). x clear.dir) (placed_is t put.dir put.slot e (slots_at t put.dir) put_there.0 put_there.1)
      ∙ (node_set t put.dir (Some (directory filled put_there.0))).others clear.dir (λ same. apart (sym same))

  held_here : put.dir ≡ clear.dir → slots_at between clear.dir ≡ filled
  held_here same = ap (slots_at between) (sym same) ∙ slots_are between put.dir filled put_there.0 filled_there

  held_elsewhere : put.dir ≢ clear.dir → slots_at between clear.dir ≡ slots_at t clear.dir
  held_elsewhere apart = ap (λ (o : Option Node). slots_of_node (unwrap_or o (file [] []))) (stays apart)

  is_held : IsPutInto (Some put) clear.dir (slots_at t clear.dir) (slots_at between clear.dir)
  is_held = (λ same. (e, set same), held_elsewhere)
    where
      set : put.dir ≡ clear.dir → IsSetTo (slots_at t clear.dir) (slots_at between clear.dir) put.slot (Some e)
      set same =
          subst (λ (l : Slots). IsSetTo (slots_at t clear.dir) l put.slot (Some e)) (sym (held_here same))
          (subst (λ (d : ℕ). IsSetTo (slots_at t d) filled put.slot (Some e)) same (filled_slot (slots_at t put.dir) put.slot e near))

  kind_then : is_directory between clear.dir ≡ true
  kind_then = elim (cases_eq put.dir clear.dir) [
    | inl same ↦ ap (is_directory between) (sym same) ∙ is_a_directory between put.dir filled put_there.0 filled_there
    | inr apart ↦ ap (λ (o : Option Node). is_directory_node (unwrap_or o (file [] []))) (stays apart) ∙ clear_kind
  ]

  rules_of : (d : ℕ) → is_directory t d ≡ true → IsDirectory g (slots_at t d)
  rules_of d kind = let is = directory_there t d kind in tree.nodes d (directory (slots_at t d) is.0) is.1

  rules_then : IsDirectory g filled → IsDirectory g (slots_at between clear.dir)
  rules_then rules = elim (cases_eq put.dir clear.dir) [
    | inl same ↦ subst (IsDirectory g) (sym (held_here same)) rules
    | inr apart ↦ subst (IsDirectory g) (sym (held_elsewhere apart)) (rules_of clear.dir clear_kind)
  ]

-- ---- the steps

-- In a store that stands for tree t there is room to put an entry into one slot and to clear another, which is filled. The entry is put by
-- bytes that are written from the slot's first on, so many.
module _ (old : StoreState) (t : Tree) (put clear : SlotAt) (e entry : Entry) (len : ℕ)
    (geometry : IsGeometry old.origin.request) (limits : IsWithinLimits old.origin.request) (view : IsView old.origin.request old.working) (stands : StandsFor old.origin.request old.working t)
    (within : IsWithin old.origin.request (change.Slots (Some put) (Some clear))) (some : 0 < len) (short : len ≤ 4 + old.origin.request.name_max)
    (tree : IsTree old.origin.request t) (put_kind : is_directory t put.dir ≡ true) (clear_kind : is_directory t clear.dir ≡ true)
    (near : put.slot ≤ length (slots_at t put.dir)) (named : slot_of t clear.dir clear.slot ≡ Some entry) (apart : put.dir ≡ clear.dir → put.slot ≢ clear.slot)
    (room : (left : ℕ) → AreLeft old.origin.request old.working (change.Slots (Some put) (Some clear)) left
    → need_of_change old.origin.request old.committed old.working (change.Slots (Some put) (Some clear)) left
    ≤ free_now old.origin.request old.committed old.working) where
  abbrev g : Request
  g = old.origin.request

  -- the slots of the directory of the other slot when the entry is put, and when that is cleared
  abbrev held : Slots
  held = slots_at (placed t put.dir put.slot e) clear.dir

  abbrev after : Slots
  after = without_slot held clear.slot

  with : StandsWith g old.working t (links_of g t)
  with = (with_links_of g old.working t).0 stands

  node : (d : ℕ) → is_directory t d ≡ true → (parent : ℕ) × HasNode g old.working d (directory (slots_at t d) parent)
  node d kind = directory_node g old.working t (links_of g t) d view with kind (rules_of g t put clear e tree put_kind clear_kind near d kind)

  inside : clear.slot < length (slots_at t clear.dir)
  inside = slot_inside (slots_at t clear.dir) clear.slot entry named

  is_cleared : IsSetTo held after clear.slot None
  is_cleared = (cleared_here held clear.slot, λ j other. cleared_elsewhere held clear.slot j other)

  -- There is room to put the entry,
  pub room_to_place : RoomForBytes old put.dir (place_of_slot g put.slot) len
  room_to_place =
      let was = node clear.dir clear_kind in
      room_to_put_first old put clear len (slots_at t clear.dir) held after was.0 geometry limits view within some short was.1 inside (is_held g t put clear e tree put_kind clear_kind near) apart
      (trimmed_twice (slice_set held clear.slot None)) is_cleared room

  -- and in the store then, which stands for the tree with the entry, to clear the other slot.
  pub room_to_clear_then : (mid : StoreState) (links : ℕ → ℕ) (parent : ℕ) → mid.origin ≡ old.origin → mid.committed ≡ old.committed → IsView g mid.working
      → StandsWith g mid.working (placed t put.dir put.slot e) links → IsDirectory g (with_slot (slots_at t put.dir) put.slot e) → is_whole (mid.working.inodes put.dir) ≡ true
      → IsRewritten g old.committed old.working mid.working put.dir (blocks_under g (place_of_slot g put.slot) len) (indices_of g (directory (slots_at t put.dir) parent))
      → clearing_need mid clear.dir clear.slot after ≤ free_now mid.origin.request mid.committed mid.working
  room_to_clear_then mid links parent origin committed view_mid stands_mid rules whole made =
      let was = node clear.dir clear_kind in
      let into = node put.dir put_kind in
      let then = directory_node g mid.working (placed t put.dir put.slot e) links clear.dir view_mid stands_mid (kind_then g t put clear e tree put_kind clear_kind near)
      (rules_then g t put clear e tree put_kind clear_kind near rules) in
      room_left_to_clear old put clear len (slots_at t clear.dir) held after was.0 geometry limits view within some short was.1 inside (is_held g t put clear e tree put_kind clear_kind near) apart
      (trimmed_twice (slice_set held clear.slot None)) is_cleared room
      mid (slots_at t put.dir) into.0 then.0 origin committed view_mid into.1 (λ other. each_apart g old.working t (links_of g t) view with geometry put.dir clear.dir other) made whole then.1
