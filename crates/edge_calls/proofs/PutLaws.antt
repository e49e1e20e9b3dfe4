-- A name put into an empty slot of a directory: the change that names the edit, and the room of the slot.
use Rattle.std.proofs.Common.{◌≡◌, ℕ, ◌+◌, ◌/◌, ◌<◌, true, is_some, [], ◌∷◌, refl, arith, Some, None}
use Rattle.edge_base.specs.declared.geometry.Request.{Request}
use Rattle.edge_base.specs.layout.Places.{IsWithinLimits, max_blocks_of}
use Rattle.edge_base.specs.tree.Slots.{Entry, slots_in_block}
use Rattle.edge_base.specs.tree.Nodes.{Node}
use Rattle.edge_store.specs.State.{StoreState, Told}
use Rattle.edge_store.specs.View.{View}
use Rattle.edge_file.specs.Writing.{RoomForBytes}
use Rattle.edge_dir.specs.Written.{place_of_slot}
use Rattle.edge_space.specs.declared.change.Change.{Change}
use Rattle.edge_space.specs.declared.change.Change.TheVariants.{Slots}
use Rattle.edge_model.specs.Named.{placed, slot_position}
use Rattle.edge_model.specs.Tree.{Tree, with_node}
use Rattle.edge_names.proofs.SlotRoomLaws.{room_to_put}
use Rattle.edge_room.specs.Room.{NamesEdit, HasRoomWhere}
use Rattle.edge_room.proofs.NamedLaws.{KeepsNodes, removes_kept, set_there, set_stays, data_stay, none_stay, both_stay}

abbrev pub put_at : ℕ → ℕ → Change
put_at d slot = Slots (Some (record { dir = d; slot = slot })) None

-- it names an edit that keeps the nodes, and the directory's
pub put_named : (g : Request) (v : View) (t tree : Tree) (d slot : ℕ) → KeepsNodes t tree → is_some (tree d) ≡ true
    → NamesEdit g v t (put_at d slot) 3 (record { tree = tree; writes = slot_position g d slot ∷ []; removes = []; reserve = 3 })
put_named g v t tree d slot kept there = record {
  left = 0;
  are_left = tt;
  writes = λ p. refl;
  removes = λ p. removes_kept g t tree kept [] p;
  stay = both_stay tree (slot_position g d slot ∷ []) [] (data_stay tree d (slot / slots_in_block g ∷ []) there) (none_stay tree);
  leaves = refl;
}

-- a name that is placed keeps the nodes
module _ (t : Tree) (d slot : ℕ) (e : Entry) where
  pub placed_keeps : KeepsNodes t (placed t d slot e)
  placed_keeps = set_stays t t d _ (λ x there. there)

  pub placed_there : is_some (placed t d slot e d) ≡ true
  placed_there = set_there t d _

  -- so does a node that is set besides
  pub made_keeps : (n : ℕ) (node : Node) → KeepsNodes t (with_node (placed t d slot e) n (Some node))
  made_keeps n node = set_stays t (placed t d slot e) n node placed_keeps

  pub made_there : (n : ℕ) (node : Node) → is_some (with_node (placed t d slot e) n (Some node) d) ≡ true
  made_there n node = set_stays (placed t d slot e) (placed t d slot e) n node (λ x there. there) d placed_there

-- where there is room for the change there is for the slot's bytes
pub put_room : (st : StoreState) (d slot : ℕ) → IsWithinLimits st.origin.request → slot / slots_in_block st.origin.request < max_blocks_of st.origin.request
    → Told st → HasRoomWhere st (put_at d slot) 3 true → RoomForBytes st d (place_of_slot st.origin.request slot) (4 + st.origin.request.name_max)
put_room st d slot limits within told room =
    let low = room refl told 0 tt in
    room_to_put st d slot limits within 0 (omega arith)
