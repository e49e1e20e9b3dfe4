-- The name of a node put into its new slot, in a store that stands for a state: what it makes of the tree, and the room before and after.
use Rattle.std.proofs.Common.{◌≡◌, ◌∙◌, ℕ, ◌+◌, ◌-◌, ◌<◌, ◌≤◌, max, true, is_some, List, [], ◌∷◌, ◌++◌, length, length-append, replicate, refl, sym, ap, subst, arith, inl, inr, Option, Some, None}
use Rattle.std.specs.Prelude.{Result, Ok, Err, OnOk}
use Rattle.std.proofs.lemmas.Bool.{cases_eq, false≢true}
use Rattle.std.proofs.lemmas.List.{length-replicate}
use Rattle.byteorder.specs.Endian.{little_bytes}
use Rattle.byteorder.specs.Numbers.{length-bytes_low_first}
use Rattle.edge_base.specs.declared.geometry.Request.{Request}
use Rattle.edge_base.specs.declared.node.Head.{Head}
use Rattle.edge_base.specs.declared.node.NodeType.TheVariants.{Directory}
use Rattle.edge_base.specs.layout.Places.{IsGeometry, IsWithinLimits}
use Rattle.edge_base.specs.outside.Below.{Origin}
use Rattle.edge_base.specs.tree.Nodes.{directory, indices_of}
use Rattle.edge_base.specs.tree.Slots.{Entry, slot_bytes}
use Rattle.edge_store.specs.declared.fault.StoreFault.{StoreFault}
use Rattle.edge_store.specs.Calls.{Called, KeepsPoint}
use Rattle.edge_store.specs.State.{StoreState, Told, IsLive}
use Rattle.edge_store.specs.View.{IsView, Inode, free_now, head_of_inode}
use Rattle.edge_store.proofs.ViewLaws.{some_of_whole}
use Rattle.edge_model.specs.Named.{slot_position, without_slot}
use Rattle.edge_model.specs.State.{State}
use Rattle.edge_model.specs.Tree.{links_of, slots_at}
use Rattle.edge_tree.specs.Answers.{IsReadable}
use Rattle.edge_file.specs.Writing.{GrowsTo, KeepsInodesBut, RoomForBytes, WritesBytes, grown}
use Rattle.edge_dir.specs.Cleared.{clearing_need}
use Rattle.edge_dir.specs.Written.{PlacesEntry, ReplacesNumber, place_of_slot}
use Rattle.edge_space.specs.Changes.{IsWithin}
use Rattle.edge_space.specs.declared.change.Change.TheVariants.{Slots}
use Rattle.edge_volume.specs.Volume.{StoreStands}
use Rattle.edge_names.specs.Moved.{HasRoomToMove, MayMove}
use Rattle.edge_names.specs.Stepped.{KeepsNodes, LeavesRoomToClear, PutsName, Steps}
use Rattle.edge_names.specs.declared.moves.Move.{Move}
use Rattle.edge_names.specs.declared.moves.NamedNode.{NamedNode}
use Rattle.edge_names.proofs.MoveRoomLaws.{room_to_place, room_to_clear_then}
use Rattle.edge_names.proofs.MoveTreeLaws.{held_of, inside_to, new_entry, old_entry, was_there}
use Rattle.edge_names.proofs.PutLaws.{put_step, to_node, to_parent, to_rules, to_set}

-- ---- on every view

-- a directory that has come to be longer at most, and no other inode changed
keeps_nodes : (old new : StoreState) (d size : ℕ) → new.origin ≡ old.origin → KeepsInodesBut old new d → IsReadable new d → GrowsTo old new d size → KeepsNodes old new
keeps_nodes old new d size origin inodes readable grows = record {
  inodes = λ n there told. elim (cases_eq n d) [
    | inl same ↦ ap (λ (x : ℕ). is_some (new.working.inodes x)) same ∙ some_of_whole (new.working.inodes d) (readable told)
    | inr other ↦ ap (λ (o : Option Inode). is_some o) (inodes (before told) n other) ∙ there (before told)
  ];
  directories = λ n is told. elim (cases_eq n d) [
    | inl same ↦ long n same (is (before told)) (before told)
    | inr other ↦ let was = is (before told) in (was.0, ap head_of_inode (inodes (before told) n other) ∙ was.1, was.2)
  ];
}
  where
    before : Told new → Told old
    before told = ap (λ (o : Origin). o.tells) (sym origin) ∙ told

    long : (n : ℕ) → n ≡ d → (h : Head) × (head_of_inode (old.working.inodes n) ≡ Some h) × (h.kind ≡ Directory) → Told old → (h : Head) × (head_of_inode (new.working.inodes n) ≡ Some h) × (h.kind ≡ Directory)
    long n same was told = (
      record was.0 { size = max was.0.size size },
      ap (λ (x : ℕ). head_of_inode (new.working.inodes x)) same ∙ grows told ∙ ap (λ (x : ℕ). grown (head_of_inode (old.working.inodes x)) size) (sym same) ∙ ap (λ (o : Option Head). grown o size) was.1,
      was.2,
    )

pub keeps_ok : {T : Type 0} (r : Result T StoreFault) (old new : StoreState) (d size : ℕ) → new.origin ≡ old.origin → OnOk r (KeepsInodesBut old new d) → OnOk r (IsReadable new d)
    → OnOk r (GrowsTo old new d size) → OnOk r (KeepsNodes old new)
keeps_ok (Ok x) old new d size origin inodes readable grows = keeps_nodes old new d size origin inodes readable grows
keeps_ok (Err fault) old new d size origin inodes readable grows = tt

-- so many bytes an entry has
pub entry_length : (g : Request) (e : Entry) → length e.name ≤ g.name_max → length (slot_bytes g (Some e)) ≡ 4 + g.name_max
entry_length g e short =
    let whole = length-append (little_bytes 4 e.number) (e.name ++ replicate (g.name_max - length e.name) 0) in
    let four : length (little_bytes 4 e.number) ≡ 4 = length-bytes_low_first 0 4 e.number in
    let inner = length-append e.name (replicate (g.name_max - length e.name) 0) in
    let rest = length-replicate {A = ℕ} (g.name_max - length e.name) 0 in
    omega (arith, whole, four, inner, rest, short)

some_node : (o : Option NamedNode) → is_some o ≡ true → (node : NamedNode) × (o ≡ Some node)
some_node None is = absurd (false≢true is)
some_node (Some node) is = (node, refl)

-- ---- in a store that stands for a state

module _ (old : StoreState) (z : State) (m : Move) (name : List ℕ) (geometry : IsGeometry old.origin.request) (limits : IsWithinLimits old.origin.request)
    (view : IsView old.origin.request old.working) (stands : StoreStands old z) (may : MayMove old.origin.request z m name) (within : IsWithin old.origin.request (Slots (Some m.to) (Some m.from))) where
  abbrev g : Request
  g = old.origin.request

  -- there is room to put it
  pub room_to_put : (len : ℕ) → 0 < len → len ≤ 4 + g.name_max → HasRoomToMove old m.to m.from → RoomForBytes old m.to.dir (place_of_slot g m.to.slot) len
  room_to_put len some short room = room_to_place old z.tree m.to m.from (new_entry m name) may.entry len geometry limits view stands.views.tree within some short
      may.tree may.to may.from (inside_to g z m name may) may.named may.apart room

  module _ (new : StoreState) where
    -- it is put into an empty slot, or in place of another
    pub put_placed : PlacesEntry old new m.to.dir m.to.slot (new_entry m name)
        → Steps old new z.tree (held_of z.tree m name) (links_of g z.tree) (slot_position g m.to.dir m.to.slot ∷ []) []
    put_placed places = put_step g old.committed old.working z m name may within.0 view stands.views.tree new.working
        (places stands.told _ _ (to_parent g old.committed old.working z m name may within.0) (to_node g old.committed old.working z m name may within.0 view stands.views.tree)
        (to_rules g old.committed old.working z m name may within.0) (inside_to g z m name may) (to_set g old.committed old.working z m name may within.0))

    pub put_replaced : is_some m.replaced ≡ true → ReplacesNumber old new m.to.dir m.to.slot m.node.number
        → Steps old new z.tree (held_of z.tree m name) (links_of g z.tree) (slot_position g m.to.dir m.to.slot ∷ []) []
    put_replaced some replaces =
        let node = some_node m.replaced some in
        let before : Entry = record { name = name; number = node.0.number } in
        put_step g old.committed old.working z m name may within.0 view stands.views.tree new.working
        (replaces stands.told _ _ (to_parent g old.committed old.working z m name may within.0) before (to_node g old.committed old.working z m name may within.0 view stands.views.tree)
        (to_rules g old.committed old.working z m name may within.0) (was_there g z m name may ∙ ap (old_entry name) node.1) (to_set g old.committed old.working z m name may within.0))

    -- and leaves room to clear the old slot
    room_left : (bytes : List ℕ) → 0 < length bytes → length bytes ≤ 4 + g.name_max → HasRoomToMove old m.to m.from → new.origin ≡ old.origin → new.committed ≡ old.committed
        → IsView g new.working → Steps old new z.tree (held_of z.tree m name) (links_of g z.tree) (slot_position g m.to.dir m.to.slot ∷ []) [] → IsReadable new m.to.dir
        → WritesBytes old new m.to.dir (place_of_slot g m.to.slot) bytes
        → clearing_need new m.from.dir m.from.slot (without_slot (slots_at (held_of z.tree m name) m.from.dir) m.from.slot) ≤ free_now new.origin.request new.committed new.working
    room_left bytes some short room origin committed view_new step readable writes =
        let parent = to_parent g old.committed old.working z m name may within.0 in
        let node = to_node g old.committed old.working z m name may within.0 view stands.views.tree in
        let indices = indices_of g (directory (slots_at z.tree m.to.dir) parent) in
        room_to_clear_then old z.tree m.to m.from (new_entry m name) may.entry (length bytes) geometry limits view stands.views.tree within some short
        may.tree may.to may.from (inside_to g z m name may) may.named may.apart room
        new (links_of g z.tree) parent origin committed view_new step.stands (to_rules g old.committed old.working z m name may within.0)
        (readable (ap (λ (o : Origin). o.tells) origin ∙ stands.told))
        (writes stands.told indices node.holds.places node.once).rewritten

-- the same of a call that puts it by writing these bytes
pub room_ok : {T : Type 0} (r : Result T StoreFault) (old new : StoreState) (m : Move) (name bytes : List ℕ) → IsGeometry old.origin.request → IsWithinLimits old.origin.request
    → (Told old → IsView old.origin.request old.working) → (Told new → IsLive new → IsView new.origin.request new.working) → IsWithin old.origin.request (Slots (Some m.to) (Some m.from))
    → 0 < length bytes → length bytes ≤ 4 + old.origin.request.name_max → Called old new r → KeepsPoint old new → OnOk r (PutsName old new m name) → OnOk r (IsReadable new m.to.dir)
    → OnOk r (WritesBytes old new m.to.dir (place_of_slot old.origin.request m.to.slot) bytes) → OnOk r (LeavesRoomToClear old new m name)
room_ok (Ok x) old new m name bytes geometry limits view view_new within some short called point puts readable writes = λ z stands may room.
    room_left old z m name geometry limits (view stands.told) stands may within new bytes some short room called.origin point.committed
    (subst (λ (o : Origin). IsView o.request new.working) called.origin (view_new (ap (λ (o : Origin). o.tells) called.origin ∙ stands.told) called.live)) (puts z stands may) readable writes
room_ok (Err fault) old new m name bytes geometry limits view view_new within some short called point puts readable writes = tt
