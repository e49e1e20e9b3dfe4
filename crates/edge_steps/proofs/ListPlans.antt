-- Each plan lists the data blocks of its change.
use Rattle.std.proofs.Common.{◌≡◌, ℕ, ◌+◌, ◌<◌, ◌≤◌, ◌==◌, ◌&&◌, ◌||◌, not, Bool, true, false, cond, List, [], ◌∷◌, ◌++◌, length, replicate, is_some, nat_lt, nat_le, inl, inr, ⊎_elim, Option, Some, None, Ok, refl, sym, ap, ◌∙◌, subst, arith}
use Rattle.std.proofs.lemmas.Bool.{false≢true, eqb-false, or_parts}
use Rattle.std.proofs.lemmas.List.{length-replicate}
use Rattle.edge_base.specs.declared.geometry.Request.{Request}
use Rattle.edge_base.specs.declared.refusal.Refusal.TheVariants as refusal
use Rattle.edge_base.specs.commands.Refusals.{refuse_if, or_refuse}
use Rattle.edge_base.specs.commands.Descriptors.{is_full, is_open}
use Rattle.edge_base.specs.commands.Paths.{names_of, names_in, two_paths}
use Rattle.edge_base.specs.layout.Places.{IsGeometry, max_size_of}
use Rattle.edge_base.specs.tree.Positions.{data_at}
use Rattle.edge_base.specs.tree.Slots.{Entry, slots_in_block}
use Rattle.edge_base.specs.tree.Nodes.{Node, file, directory}
use Rattle.edge_model.specs.declared.command.OpenFlags.{OpenFlags}
use Rattle.edge_model.specs.Asked.{Asked, open_file, close, read, write, fill, seek, truncate, fsync, link, unlink, rename, make_dir, remove_dir, open_dir, read_dir, rewind, stat, fstat, space, mask, set_mask, transact}
use Rattle.edge_model.specs.Asking.{IsInLimits}
use Rattle.edge_model.specs.Tree.{Tree, is_directory, slots_at, links_of, free_number, with_node, data_positions}
use Rattle.edge_model.specs.Walk.{Spot, top, within, Found, at_spot, spot_of, walk, is_top, find_name}
use Rattle.edge_model.specs.State.{State, Plan, Edit}
use Rattle.edge_model.specs.Step.{plan}
use Rattle.edge_model.specs.Named.{NewName, new_slot, new_name, placed, cleared, clear_writes, clear_removes, slot_position}
use Rattle.edge_model.specs.Open.{writable_at, plan_open, are_bad_flags, open_spot, open_there, open_absent, open_plan}
use Rattle.edge_model.specs.Files.{plan_write, plan_truncate, write_place}
use Rattle.edge_model.specs.Names.{plan_make_dir, plan_link, plan_unlink, plan_remove_dir, plan_rename, make_dir_at, link_at, unlink_at, is_busy, is_empty, has_one_link, with_parent, rename_to, rename_over, rename_same, rename_plan, is_below}
use Rattle.edge_model.specs.Laws.{reads_only}
use Rattle.edge_model.specs.Rules.{IsTree}
use Rattle.edge_model.proofs.Members.{among_append}
use Rattle.edge_model.proofs.Plans.{Gives, gives_ok, gives_none, gives_after, gives_each, ok_is}
use Rattle.edge_model.proofs.Changes.{passes, is_some_of, not_false}
use Rattle.edge_model.proofs.ReadLaws.{no_edit}
use Rattle.edge_model.proofs.WalkLaws.{in_directory, walk_in_directory, holder_is_directory}
use Rattle.edge_model.proofs.SlotLaws.{found_within}
use Rattle.edge_model.proofs.DirtyLaws.{IsCompletePlan, IsRemovedPlan}
use Rattle.edge_model.proofs.CompleteLaws.{each_complete, slot_within}
use Rattle.edge_model.proofs.RemoveLaws.{each_removed}
use Rattle.edge_model.specs.Bytes.{IsOfBytes}
use Rattle.edge_steps.specs.Rules.{HasTrees}
use Rattle.edge_steps.specs.Listed.{IsListed}
use Rattle.edge_steps.proofs.SlotLaws.{slot_in, none_some, some_same}
use Rattle.edge_steps.proofs.CountLaws.{slot_at}
use Rattle.edge_steps.proofs.NodeLaws.{node_set, placed_set, placed_slot, cleared_slot, same_kinds, slots_others, directory_there}
use Rattle.edge_steps.proofs.WalkLaws.{after_part, is_found}
use Rattle.edge_steps.proofs.PlanLaws.{tree_then, some_bytes, found_there, free_is, empty_slot}
use Rattle.edge_steps.proofs.NameLaws.{is_leaf, after_names, other_false}
use Rattle.edge_steps.proofs.RenameLaws.{parent_set}
use Rattle.edge_steps.proofs.RenamePlans.{some_slots, no_zero}
use Rattle.edge_steps.proofs.TreeLaws.{each_sound}
use Rattle.edge_steps.proofs.ListLaws.{Lists, listed, one_slot, emptied_lists, cut_lists, written_lists, unnamed_lists, moved_lists, left_blocks, gone_blocks, dropped_removed}

abbrev ListsEdit : Request → Option Edit → Type 0
ListsEdit g None = Unit {0}
ListsEdit g (Some e) = Lists g e

abbrev ListsPlan : Request → Plan → Type 0
ListsPlan g p = ListsEdit g p.edit

-- ---- new names

made_lists : (g : Request) (t : Tree) (d : ℕ) (name : List ℕ) (node : Node) (new : NewName) → IsGeometry g → is_directory t d ≡ true → new_name g t (within d name) node ≡ Ok new → Lists g new.edit
made_lists g t d name node new is kind h =
    let r = after_part (or_refuse (free_number g t) refusal.NoInodes) _ new h in
    let q = after_part (new_slot g t d) _ new r.2 in
    let same = ok_is _ new _ refl q.2 in
    let free = free_is g t r.0 (is_some_of (free_number g t) refusal.NoInodes r.0 r.1) in
    let e : Entry = record { name = name; number = r.0 } in
    let u = with_node (placed t d q.0 e) r.0 (Some node) in
    let other : d ≡ r.0 → ⊥ = λ is_n. false≢true (sym (ap (λ (o : Option Node). is_some o) free.absent) ∙ ap (λ n. is_some (t n)) (sym is_n) ∙ directory_there t d kind) in
    let there : slot_at u d q.0 ≡ Some e = ap (λ s. slot_in s q.0) (slots_others (placed t d q.0 e) u r.0 (Some node) d (node_set (placed t d q.0 e) r.0 (Some node)) other) ∙ (placed_slot t d q.0 e kind (slot_within g t d q.0 q.1)).here in
    subst (Lists g) (ap (λ (x : NewName). x.edit) same)
    (one_slot g (record { tree = u; writes = slot_position g d q.0 ∷ []; removes = []; reserve = 3 }) d q.0 e (some_slots g is) refl refl there)

absent_lists : (g : Request) (s : State) (path : List ℕ) (flags : OpenFlags) (spot : Spot) → IsGeometry g → spot_of g s.tree path ≡ Ok spot → Gives (ListsPlan g) (open_absent g s flags spot)
absent_lists g s path flags top is at =
    gives_each _ (refuse_if (not flags.create) refusal.NoEntry) _ (λ _.
    gives_each _ (refuse_if (is_full s.descriptors) refusal.TooManyOpen) _ (λ _.
    gives_none _ refusal.Exists))
absent_lists g s path flags (within d name) is at =
    gives_each _ (refuse_if (not flags.create) refusal.NoEntry) _ (λ _.
    gives_each _ (refuse_if (is_full s.descriptors) refusal.TooManyOpen) _ (λ _.
    gives_after _ (new_name g s.tree (within d name) (file [] [])) _ (λ new was.
    gives_ok _ _ (made_lists g s.tree d name (file [] []) new is (in_directory g s.tree path d name at) was))))

there_lists : (g : Request) (s : State) (flags : OpenFlags) (n : ℕ) → Gives (ListsPlan g) (open_there g s flags n)
there_lists g s flags n =
    gives_each _ (refuse_if flags.exclusive refusal.Exists) _ (λ _.
    gives_each _ (refuse_if (is_directory s.tree n) refusal.IsDir) _ (λ _.
    gives_each _ (refuse_if (is_full s.descriptors) refusal.TooManyOpen) _ (λ _.
    gives_ok _ _ (by_flag flags.truncate))))
  where
    by_flag : (cuts : Bool) → ListsPlan g (open_plan cuts g s flags n)
    by_flag true = emptied_lists g s.tree n
    by_flag false = tt

spot_lists : (g : Request) (s : State) (path : List ℕ) (flags : OpenFlags) (spot : Spot) (there : Option Found) → IsGeometry g → spot_of g s.tree path ≡ Ok spot → Gives (ListsPlan g) (open_spot g s flags spot there)
spot_lists g s path flags spot (Some found) is at = there_lists g s flags found.number
spot_lists g s path flags spot None is at = absent_lists g s path flags spot is at

open_lists : (g : Request) (s : State) (path : List ℕ) (flags : OpenFlags) → IsGeometry g → Gives (ListsPlan g) (plan_open g s path flags)
unfolding plan_open
open_lists g s path flags is =
    gives_each _ (refuse_if (are_bad_flags flags) refusal.Invalid) _ (λ _.
    gives_after _ (spot_of g s.tree path) _ (λ spot at.
    spot_lists g s path flags spot (at_spot s.tree spot) is at))

dir_at_lists : (g : Request) (s : State) (path : List ℕ) (spot : Spot) → IsGeometry g → spot_of g s.tree path ≡ Ok spot → Gives (ListsPlan g) (make_dir_at g s spot)
dir_at_lists g s path top is at = gives_none _ refusal.Exists
dir_at_lists g s path (within d name) is at =
    gives_after _ (new_name g s.tree (within d name) (directory [] d)) _ (λ new was.
    gives_ok _ _ (made_lists g s.tree d name (directory [] d) new is (in_directory g s.tree path d name at) was))

make_dir_lists : (g : Request) (s : State) (path : List ℕ) → IsGeometry g → Gives (ListsPlan g) (plan_make_dir g s path)
unfolding plan_make_dir
make_dir_lists g s path is =
    gives_after _ (spot_of g s.tree path) _ (λ spot at.
    gives_each _ (refuse_if (is_some (at_spot s.tree spot)) refusal.Exists) _ (λ _.
    dir_at_lists g s path spot is at))

link_at_lists : (g : Request) (s : State) (to : List ℕ) (n : ℕ) (spot : Spot) → IsGeometry g → walk s.tree (names_in to) ≡ Ok spot → Gives (ListsPlan g) (link_at g s n spot)
link_at_lists g s to n top is at = gives_none _ refusal.Exists
link_at_lists g s to n (within d name) is at =
    gives_after _ (new_slot g s.tree d) _ (λ slot room.
    let e : Entry = record { name = name; number = n } in
    gives_ok _ _ (one_slot g (record { tree = placed s.tree d slot e; writes = slot_position g d slot ∷ []; removes = []; reserve = 3 }) d slot e (some_slots g is) refl refl
    (placed_slot s.tree d slot e (walk_in_directory s.tree (names_in to) d name at) (slot_within g s.tree d slot room)).here))

link_lists : (g : Request) (s : State) (path to : List ℕ) → IsGeometry g → Gives (ListsPlan g) (plan_link g s path to)
unfolding plan_link
link_lists g s path to is =
    gives_each _ (two_paths g.name_max path to) _ (λ _.
    gives_each _ (walk s.tree (names_in path)) _ (λ from.
    gives_each _ (or_refuse (at_spot s.tree from) refusal.NoEntry) _ (λ found.
    gives_each _ (refuse_if (is_directory s.tree found.number) refusal.IsDir) _ (λ _.
    gives_after _ (walk s.tree (names_in to)) _ (λ spot at.
    gives_each _ (refuse_if (is_some (at_spot s.tree spot)) refusal.Exists) _ (λ _.
    gives_each _ (refuse_if (nat_le 65535 (links_of g s.tree found.number)) refusal.TooManyLinks) _ (λ _.
    link_at_lists g s to found.number spot is at)))))))

-- ---- files

write_lists : (g : Request) (s : State) (h : ℕ) (new : List ℕ) → IsGeometry g → 1 ≤ length new → Gives (ListsPlan g) (plan_write g s h new)
unfolding plan_write
write_lists g s h new is long =
    gives_each _ (writable_at s h) _ (λ d.
    gives_each _ (refuse_if (nat_lt (max_size_of g) (write_place s d + length new)) refusal.TooBig) _ (λ _.
    gives_ok _ _ (written_lists g s.tree d.number (write_place s d) new (some_bytes g is) long)))

truncate_lists : (g : Request) (s : State) (h size : ℕ) → IsGeometry g → Gives (ListsPlan g) (plan_truncate g s h size)
unfolding plan_truncate
truncate_lists g s h size is =
    gives_each _ (writable_at s h) _ (λ d.
    gives_each _ (refuse_if (nat_lt (max_size_of g) size) refusal.TooBig) _ (λ _.
    gives_ok _ _ (cut_lists g s.tree d.number size (some_bytes g is))))

-- ---- names dropped

unlink_at_lists : (g : Request) (s : State) (path : List ℕ) (spot : Spot) (found : Found) → HasTrees g s → spot_of g s.tree path ≡ Ok spot → at_spot s.tree spot ≡ Some found
    → (is_directory s.tree found.number ≡ true → is_empty (slots_at s.tree found.number) ≡ true) → ListsPlan g (unlink_at g s spot found)
unlink_at_lists g s path top found has at there empty = tt
unlink_at_lists g s path (within d name) found has at there empty =
    let f = is_found name (slots_at s.tree d) found there in
    let leaf = is_leaf g s.tree found.number (found_there g s.tree (within d name) found has.tree there) empty in
    unnamed_lists g s.tree d found (has_one_link g s.tree found.number) (in_directory g s.tree path d name at) (λ same. none_some f.entry (sym (leaf found.slot) ∙ ap (λ y. slot_at s.tree y found.slot) same ∙ f.there))

unlink_lists : (g : Request) (s : State) (path : List ℕ) → HasTrees g s → Gives (ListsPlan g) (plan_unlink g s path)
unfolding plan_unlink
unlink_lists g s path has =
    gives_after _ (spot_of g s.tree path) _ (λ spot at.
    gives_after _ (or_refuse (at_spot s.tree spot) refusal.NoEntry) _ (λ found there.
    gives_after _ (refuse_if (is_directory s.tree found.number) refusal.IsDir) _ (λ u kind.
    gives_each _ (refuse_if (is_busy g s found.number) refusal.Busy) _ (λ _.
    gives_ok _ _ (unlink_at_lists g s path spot found has at (is_some_of (at_spot s.tree spot) refusal.NoEntry found there) (λ yes. absurd (false≢true (sym (passes _ _ u kind) ∙ yes))))))))

remove_dir_lists : (g : Request) (s : State) (path : List ℕ) → HasTrees g s → Gives (ListsPlan g) (plan_remove_dir g s path)
unfolding plan_remove_dir
remove_dir_lists g s path has =
    gives_after _ (names_of g.name_max path) _ (λ names named.
    gives_each _ (refuse_if (is_top path) refusal.Busy) _ (λ _.
    gives_after _ (walk s.tree names) _ (λ spot at.
    gives_after _ (or_refuse (at_spot s.tree spot) refusal.NoEntry) _ (λ found there.
    gives_each _ (refuse_if (not (is_directory s.tree found.number)) refusal.NotDir) _ (λ _.
    gives_after _ (refuse_if (not (is_empty (slots_at s.tree found.number))) refusal.NotEmpty) _ (λ u empty.
    gives_each _ (refuse_if (is_open s.descriptors found.number) refusal.Busy) _ (λ _.
    gives_ok _ _ (unlink_at_lists g s path spot found has (after_names g s.tree path names spot named at) (is_some_of (at_spot s.tree spot) refusal.NoEntry found there)
    (λ _. not_false (is_empty (slots_at s.tree found.number)) (passes _ _ u empty))))))))))

-- ---- rename

-- the new name is in its slot
left_placed : (t : Tree) (df sf dt st : ℕ) (entry : Entry) → is_directory t df ≡ true → is_directory t dt ≡ true → st ≤ length (slots_at t dt) → (dt ≡ df → st ≡ sf → ⊥) → slot_at (cleared (placed t dt st entry) df sf) dt st ≡ Some entry
left_placed t df sf dt st entry from to inside apart =
    let held = placed t dt st entry in
    let kinds = same_kinds t held dt _ (placed_set t dt st entry to) in
    (cleared_slot held df sf (kinds.kinds df ∙ from)).others dt st apart ∙ (placed_slot t dt st entry to inside).here

moves_lists : (g : Request) (s : State) (df : ℕ) (name : List ℕ) (found : Found) (dt : ℕ) (target : List ℕ) (slot : ℕ) → IsGeometry g → is_directory s.tree df ≡ true → is_directory s.tree dt ≡ true → find_name s.tree df name ≡ Some found → new_slot g s.tree dt ≡ Ok slot
    → ListsPlan g (rename_plan g s (within df name) found (within dt target) slot None)
moves_lists g s df name found dt target slot is from to at room =
    let t = s.tree in
    let entry : Entry = record { name = target; number = found.number } in
    let held = placed t dt slot entry in
    let left = cleared held df found.slot in
    let f = is_found name (slots_at t df) found at in
    let kinds = same_kinds t held dt _ (placed_set t dt slot entry to) in
    let apart : dt ≡ df → slot ≡ found.slot → ⊥ = λ same place. none_some f.entry (sym (empty_slot g t dt slot room) ∙ ap (λ y. slot_at t y slot) same ∙ ap (slot_at t df) place ∙ f.there) in
    moved_lists g _ held df found.slot dt slot entry (some_slots g is) (kinds.kinds df ∙ from) refl
    (λ n k r. ⊎_elim (λ cut. inl cut) (λ none. absurd none) (among_append (clear_removes g df (slots_at held df) found.slot) [] (data_at n k) r))
    ((parent_set left found.number dt).slots.same dt slot ∙ left_placed t df found.slot dt slot entry from to (slot_within g t dt slot room) apart)
    (left_blocks g left left found.number dt df refl)

by_links : (g : Request) (t : Tree) (df : ℕ) (found : Found) (dt r st : ℕ) (entry : Entry) → 0 < slots_in_block g → is_directory (placed t dt st entry) df ≡ true → (r ≡ df → ⊥) → (r ≡ dt → ⊥) → slot_at (cleared (placed t dt st entry) df found.slot) dt st ≡ Some entry
    → (last : Bool) → Lists g (record {
      tree = with_parent (cond last (with_node (cleared (placed t dt st entry) df found.slot) r None) (cleared (placed t dt st entry) df found.slot)) found.number dt;
      writes = slot_position g dt st ∷ clear_writes g df (slots_at (placed t dt st entry) df) found.slot;
      removes = clear_removes g df (slots_at (placed t dt st entry) df) found.slot ++ cond last (data_positions g t r) [];
      reserve = 3;
    })
by_links g t df found dt r st entry some kind not_from not_to there true =
    let held = placed t dt st entry in
    let left = cleared held df found.slot in
    let w = with_node left r None in
    let own = node_set left r None in
    moved_lists g _ held df found.slot dt st entry some kind refl
    (λ n k h. ⊎_elim
    (λ cut. inl cut)
    (λ dropped. inr (λ block. dropped_removed g t (with_parent w found.number dt) r n k (gone_blocks g left found.number dt r) dropped block))
    (among_append (clear_removes g df (slots_at held df) found.slot) (data_positions g t r) (data_at n k) h))
    ((parent_set w found.number dt).slots.same dt st ∙ ap (λ s. slot_in s st) (slots_others left w r None dt own (λ same. not_to (sym same))) ∙ there)
    (left_blocks g left w found.number dt df (own.others df (λ same. not_from (sym same))))
by_links g t df found dt r st entry some kind not_from not_to there false =
    let held = placed t dt st entry in
    let left = cleared held df found.slot in
    moved_lists g _ held df found.slot dt st entry some kind refl
    (λ n k h. ⊎_elim (λ cut. inl cut) (λ none. absurd none) (among_append (clear_removes g df (slots_at held df) found.slot) [] (data_at n k) h))
    ((parent_set left found.number dt).slots.same dt st ∙ there)
    (left_blocks g left left found.number dt df refl)

over_lists : (g : Request) (s : State) (df : ℕ) (name : List ℕ) (found : Found) (dt : ℕ) (target : List ℕ) (there : Found) → IsGeometry g → HasTrees g s → is_directory s.tree df ≡ true → is_directory s.tree dt ≡ true → find_name s.tree df name ≡ Some found → find_name s.tree dt target ≡ Some there
    → (there.number ≡ found.number → ⊥) → (is_directory s.tree there.number ≡ true → is_empty (slots_at s.tree there.number) ≡ true) → ListsPlan g (rename_plan g s (within df name) found (within dt target) there.slot (Some there.number))
over_lists g s df name found dt target there is has from to at at_to other empty =
    let t = s.tree in
    let entry : Entry = record { name = target; number = found.number } in
    let held = placed t dt there.slot entry in
    let f = is_found name (slots_at t df) found at in
    let k = is_found target (slots_at t dt) there at_to in
    let kinds = same_kinds t held dt _ (placed_set t dt there.slot entry to) in
    let leaf = is_leaf g t there.number (found_there g t (within dt target) there has.tree at_to) empty in
    let apart : dt ≡ df → there.slot ≡ found.slot → ⊥ = λ same place. other (sym k.number_is ∙ ap (λ (e : Entry). e.number) (some_same k.entry f.entry (sym k.there ∙ ap (λ y. slot_at t y there.slot) same ∙ ap (slot_at t df) place ∙ f.there)) ∙ f.number_is) in
    by_links g t df found dt there.number there.slot entry (some_slots g is) (kinds.kinds df ∙ from)
    (λ same. none_some f.entry (sym (leaf found.slot) ∙ ap (λ y. slot_at t y found.slot) same ∙ f.there))
    (λ same. none_some k.entry (sym (leaf there.slot) ∙ ap (λ y. slot_at t y there.slot) same ∙ k.there))
    (left_placed t df found.slot dt there.slot entry from to (found_within target (slots_at t dt) there at_to) apart)
    (has_one_link g t there.number)

to_lists : (g : Request) (s : State) (df : ℕ) (name : List ℕ) (found : Found) (dt : ℕ) (target : List ℕ) (there : Option Found) → IsGeometry g → HasTrees g s → is_directory s.tree df ≡ true → is_directory s.tree dt ≡ true → find_name s.tree df name ≡ Some found → find_name s.tree dt target ≡ there
    → Gives (ListsPlan g) (rename_to g s (within df name) found (within dt target) there)
to_lists g s df name found dt target (Some there) is has from to at at_to =
    elim (there.number == found.number) as (λ b. (there.number == found.number) ≡ b → Gives (ListsPlan g) (cond b (Ok (rename_same g s)) (rename_over g s (within df name) found (within dt target) there))) [
      | true ↦ λ same. gives_ok _ _ tt
      | false ↦ λ other.
          gives_each _ (refuse_if (is_directory s.tree found.number && not (is_directory s.tree there.number)) refusal.NotDir) _ (λ _.
          gives_each _ (refuse_if (not (is_directory s.tree found.number) && is_directory s.tree there.number) refusal.IsDir) _ (λ _.
          gives_after _ (refuse_if (is_directory s.tree there.number && not (is_empty (slots_at s.tree there.number))) refusal.NotEmpty) _ (λ u empty.
          gives_each _ (refuse_if (is_busy g s there.number) refusal.Busy) _ (λ _.
          gives_ok _ _ (over_lists g s df name found dt target there is has from to at at_to (eqb-false there.number found.number other)
          (λ kind. not_false (is_empty (slots_at s.tree there.number)) (other_false (is_directory s.tree there.number) (not (is_empty (slots_at s.tree there.number))) (passes _ _ u empty) kind)))))))
    ] refl
to_lists g s df name found dt target None is has from to at at_to =
    gives_after _ (new_slot g s.tree dt) _ (λ slot room.
    gives_ok _ _ (moves_lists g s df name found dt target slot is from to at room))

spots_lists : (g : Request) (s : State) (path to : List ℕ) (from spot : Spot) (found : Found) → IsGeometry g → HasTrees g s → is_top path ≡ false → is_top to ≡ false → walk s.tree (names_in path) ≡ Ok from → at_spot s.tree from ≡ Some found
    → walk s.tree (names_in to) ≡ Ok spot → Gives (ListsPlan g) (rename_to g s from found spot (at_spot s.tree spot))
spots_lists g s path to top spot found is has named named_to at there goes = absurd (no_zero g s.tree has.tree (holder_is_directory s.tree path top named at))
spots_lists g s path to (within df name) top found is has named named_to at there goes = absurd (no_zero g s.tree has.tree (holder_is_directory s.tree to top named_to goes))
spots_lists g s path to (within df name) (within dt target) found is has named named_to at there goes =
    to_lists g s df name found dt target (find_name s.tree dt target) is has (walk_in_directory s.tree (names_in path) df name at) (walk_in_directory s.tree (names_in to) dt target goes) there refl

rename_lists : (g : Request) (s : State) (path to : List ℕ) → IsGeometry g → HasTrees g s → Gives (ListsPlan g) (plan_rename g s path to)
unfolding plan_rename
rename_lists g s path to is has =
    gives_each _ (two_paths g.name_max path to) _ (λ _.
    gives_after _ (refuse_if (is_top path || is_top to) refusal.Busy) _ (λ v named.
    gives_after _ (walk s.tree (names_in path)) _ (λ from at.
    gives_after _ (or_refuse (at_spot s.tree from) refusal.NoEntry) _ (λ found there.
    gives_after _ (walk s.tree (names_in to)) _ (λ spot goes.
    gives_each _ (refuse_if (is_directory s.tree found.number && is_below s.tree to found.number) refusal.Invalid) _ (λ _.
    let both = or_parts (is_top path) (is_top to) (passes _ _ v named) in
    spots_lists g s path to from spot found is has both.0 both.1 at (is_some_of (at_spot s.tree from) refusal.NoEntry found there) goes))))))

-- ---- each command

reads_lists : (g : Request) (s : State) (c : Asked) → reads_only c ≡ true → Gives (ListsPlan g) (plan g s c)
reads_lists g s c reads = record { holds = λ p was. subst (ListsEdit g) (sym ((no_edit g s c reads).holds p was)) tt }

each_lists : (g : Request) (s : State) (c : Asked) → IsGeometry g → IsInLimits c → HasTrees g s → Gives (ListsPlan g) (plan g s c)
each_lists g s (open_file path flags) is limits has = open_lists g s path flags is
each_lists g s (write h new) is limits has = write_lists g s h new is limits.0
each_lists g s (fill h count byte) is limits has = write_lists g s h (replicate count byte) is (let long = length-replicate {A = ℕ} count byte in let some = limits.0 in omega arith)
each_lists g s (truncate h size) is limits has = truncate_lists g s h size is
each_lists g s (link path to) is limits has = link_lists g s path to is
each_lists g s (unlink path) is limits has = unlink_lists g s path has
each_lists g s (rename path to) is limits has = rename_lists g s path to is has
each_lists g s (make_dir path) is limits has = make_dir_lists g s path is
each_lists g s (remove_dir path) is limits has = remove_dir_lists g s path has
each_lists g s (close h) is limits has = reads_lists g s (close h) refl
each_lists g s (read h count) is limits has = reads_lists g s (read h count) refl
each_lists g s (seek h to) is limits has = reads_lists g s (seek h to) refl
each_lists g s (fsync h) is limits has = reads_lists g s (fsync h) refl
each_lists g s (open_dir path) is limits has = reads_lists g s (open_dir path) refl
each_lists g s (read_dir h) is limits has = reads_lists g s (read_dir h) refl
each_lists g s (rewind h) is limits has = reads_lists g s (rewind h) refl
each_lists g s (stat path) is limits has = reads_lists g s (stat path) refl
each_lists g s (fstat h) is limits has = reads_lists g s (fstat h) refl
each_lists g s space is limits has = reads_lists g s space refl
each_lists g s mask is limits has = reads_lists g s mask refl
each_lists g s (set_mask events) is limits has = reads_lists g s (set_mask events) refl
each_lists g s transact is limits has = reads_lists g s transact refl

pub change_listed : (g : Request) (s : State) (c : Asked) (p : Plan) (e : Edit) → IsGeometry g → IsOfBytes c → IsInLimits c → HasTrees g s → plan g s c ≡ Ok p → p.edit ≡ Some e → IsListed g s.tree e
change_listed g s c p e is bytes limits has was has_edit =
    let tree = subst (λ (o : Option Edit). IsTree g (tree_then s.tree o)) has_edit ((each_sound g s c is has bytes).holds p was).tree in
    let complete = subst (IsCompletePlan g s.tree) has_edit (each_complete g s c p was) in
    let removed = subst (IsRemovedPlan g s.tree) has_edit (each_removed g s has.tree.nodes (λ h d at. (has.descriptors h d at).kind) c p was) in
    listed g s.tree e tree complete removed (subst (ListsEdit g) has_edit ((each_lists g s c is limits has).holds p was))
