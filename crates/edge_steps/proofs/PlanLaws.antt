-- Each plan leads to a tree, and its descriptors have their nodes there.
use Rattle.std.proofs.Common.{◌≡◌, ℕ, zero, suc, ◌+◌, ◌<◌, ◌≤◌, not, Bool, true, false, cond, List, [], ◌∷◌, length, drop, is_some, nat_lt, find, unwrap_or, ⊎_elim, Option, Some, None, Ok, refl, sym, ap, ◌∙◌, subst, arith}
use Rattle.std.specs.List.{range_with_len}
use Rattle.std.proofs.lemmas.Bool.{false≢true, cases_eq, ltb-false}
use Rattle.edge_base.specs.declared.geometry.Request.{Request}
use Rattle.edge_base.specs.declared.geometry.BadGeometry.{BadGeometry}
use Rattle.edge_base.specs.declared.geometry.BadGeometry.TheVariants.{BlockSize}
use Rattle.edge_base.specs.declared.refusal.Refusal.TheVariants as refusal
use Rattle.edge_base.specs.commands.Refusals.{◌>>=◌, refuse_if, or_refuse}
use Rattle.edge_base.specs.layout.Sizes.{is_block_size}
use Rattle.edge_base.specs.layout.Places.{max_size_of, bad_geometry, IsGeometry}
use Rattle.edge_base.specs.commands.Descriptors.{Descriptor, descriptor_at, first_empty, is_full}
use Rattle.edge_base.specs.commands.Paths.{names_in}
use Rattle.edge_base.specs.tree.Slots.{Entry}
use Rattle.edge_base.specs.tree.Nodes.{Node, file, directory}
use Rattle.edge_base.specs.tree.NodeRules.{IsFile, IsEntry}
use Rattle.edge_model.specs.declared.command.OpenFlags.{OpenFlags}
use Rattle.edge_model.specs.Asked.{Reply}
use Rattle.edge_model.specs.Tree.{Tree, node_at, is_directory, slots_at, free_number, with_node}
use Rattle.edge_model.specs.Walk.{Spot, top, within, Found, at_spot, spot_of, find_name, found_number}
use Rattle.edge_model.specs.State.{State, Plan, Edit, keeps}
use Rattle.edge_model.specs.Named.{NewName, new_slot, new_name, placed}
use Rattle.edge_model.specs.Open.{open_at, file_at, writable_at, directory_at, plan_open, are_bad_flags, open_spot, open_there, open_absent, open_plan, file_descriptor, plan_close, plan_seek, plan_fsync, plan_open_dir, plan_read_dir, plan_rewind, read_dir_plan, directory_descriptor, Filled, first_filled}
use Rattle.edge_model.specs.Files.{plan_read, read_plan, plan_write, plan_truncate, write_place, content_of, present_of}
use Rattle.edge_model.specs.Rules.{IsTree}
use Rattle.edge_model.proofs.Plans.{Gives, gives_ok, gives_none, gives_after, gives_each, ok_is}
use Rattle.edge_model.proofs.Changes.{passes, is_some_of, none_is, not_false}
use Rattle.edge_model.proofs.WalkLaws.{in_directory}
use Rattle.edge_model.proofs.SlotLaws.{first_empty_within}
use Rattle.edge_model.specs.Bytes.{AreBytes}
use Rattle.edge_steps.specs.Rules.{NamesItsNode, HasTrees}
use Rattle.edge_steps.proofs.SlotLaws.{none_some, some_same}
use Rattle.edge_steps.proofs.CountLaws.{slot_at, slot_names}
use Rattle.edge_steps.proofs.NodeLaws.{node_set, same_kinds, placed_set, file_is, is_there, is_a_file, directory_there}
use Rattle.edge_steps.proofs.WalkLaws.{after_part, after_test, IsGood, path_name, walk_last, spot_names, is_found, not_found, first_is_empty, new_slot_is}
use Rattle.edge_steps.proofs.MakeLaws.{IsPlace, IsMade, made_tree}
use Rattle.edge_steps.proofs.FileLaws.{filed_tree, written_file, resized_file, empty_file}
use Rattle.edge_steps.proofs.OpenLaws.{AreFor, set_for, closed_for, moved_for, Stays, for_stays, set_stays_but}

-- the tree after an edit
abbrev pub tree_then : Tree → Option Edit → Tree
tree_then t None = t
tree_then t (Some e) = e.tree

pub record IsSound (g : Request) (s : State) (p : Plan) : Type 0 where
  pub tree : IsTree g (tree_then s.tree p.edit)
  pub table : AreFor (tree_then s.tree p.edit) p.descriptors

-- ---- sizes

pub kept : (broken : Bool) (limit : BadGeometry) (rest : Option BadGeometry) → cond broken (Some limit) rest ≡ None → broken ≡ false
kept false limit rest e = refl
kept true limit rest e = absurd (none_some limit (sym e))

pub some_bytes : (g : Request) → IsGeometry g → 0 < g.block_size
unfolding bad_geometry
some_bytes g is = ⊎_elim
    (λ (none : g.block_size ≡ 0). absurd (false≢true (ap is_block_size (sym none) ∙ not_false (is_block_size g.block_size) (kept (not (is_block_size g.block_size)) BlockSize _ is))))
    (λ (some : g.block_size ≡ 0 → ⊥). omega arith)
    (cases_eq g.block_size 0)

-- ---- nodes that are found, and free numbers

pub found_there : (g : Request) (t : Tree) (spot : Spot) (found : Found) → IsTree g t → at_spot t spot ≡ Some found → is_some (t found.number) ≡ true
found_there g t top found tree at = ap (λ (f : Found). is_some (t f.number)) (sym (some_same (record { slot = 0; number = 2 }) found at)) ∙ is_there t 2 (directory tree.root.0 0) tree.root.1
found_there g t (within d name) found tree at = let f = is_found name (slots_at t d) found at in (tree.named d found.number (slot_names t d found.slot found.number f.entry f.there f.number_is)).0

free_in : (a k : ℕ) (t : Tree) (n : ℕ) → find (λ m. not (is_some (t m))) (range_with_len a k) ≡ Some n → (is_some (t n) ≡ false) × (a ≤ n) × (n < a + k)
free_in a zero t n h = absurd (none_some n h)
free_in a (suc k) t n h =
    elim (is_some (t a)) as (λ b. is_some (t a) ≡ b → cond (not b) (Some a) (find (λ m. not (is_some (t m))) (range_with_len (a + 1) k)) ≡ Some n → (is_some (t n) ≡ false) × (a ≤ n) × (n < a + suc k)) [
      | true ↦ λ taken later. let r = free_in (a + 1) k t n later in (r.0, omega arith, omega arith)
      | false ↦ λ free here. let same = some_same a n here in (ap (λ m. is_some (t m)) (sym same) ∙ free, omega arith, omega arith)
    ] refl h

-- a new number
pub record IsFree (g : Request) (t : Tree) (n : ℕ) : Type 0 where
  pub absent : t n ≡ None
  pub from : 2 ≤ n
  pub below : n < 2 + g.inodes

pub free_is : (g : Request) (t : Tree) (n : ℕ) → free_number g t ≡ Some n → IsFree g t n
free_is g t n h = let r = free_in 2 g.inodes t n h in record { absent = none_is (t n) r.0; from = r.1; below = r.2 }

-- ---- the place of a new name

-- a name with the number of a node that is not the root
pub entry_is : (g : Request) (name : List ℕ) (n : ℕ) → IsGood g name → 2 ≤ n → n < 2 + g.inodes → (n ≡ 2 → ⊥) → IsEntry g (record { name = name; number = n })
entry_is g name n good low high other = record { bytes = good.bytes; name = good.is; from = omega arith; below = high }

-- what a slot takes that is the first empty one of a directory without the name
pub new_place : (g : Request) (t : Tree) (d : ℕ) (name : List ℕ) (n slot : ℕ) → is_directory t d ≡ true → IsGood g name → 2 ≤ n → n < 2 + g.inodes → (n ≡ 2 → ⊥) → find_name t d name ≡ None → new_slot g t d ≡ Ok slot → IsPlace g t d slot (record { name = name; number = n })
new_place g t d name n slot kind good low high other absent room =
    let is = new_slot_is g t d slot room in
    let within_slots = first_empty_within (slots_at t d) in
    record {
      kind = kind;
      within = (let same = is.0 in omega arith);
      good = entry_is g name n good low high other;
      new = λ j a there same. absurd (false≢true (sym (not_found name (slots_at t d) absent j a there) ∙ same));
      room = is.1;
    }

pub empty_slot : (g : Request) (t : Tree) (d slot : ℕ) → new_slot g t d ≡ Ok slot → slot_at t d slot ≡ None
empty_slot g t d slot room = ap (λ j. slot_at t d j) (new_slot_is g t d slot room).0 ∙ first_is_empty (slots_at t d)

pub good_spot : (g : Request) (t : Tree) (path : List ℕ) (d : ℕ) (name : List ℕ) → AreBytes path → spot_of g t path ≡ Ok (within d name) → IsGood g name
good_spot g t path d name bytes at = let r = spot_names g t path (within d name) at in path_name g path name bytes r.0 r.1 (walk_last t (names_in path) d name r.2)

-- ---- a node is made

pub new_is : (g : Request) (t : Tree) (d : ℕ) (name : List ℕ) (node : Node) (new : NewName) → new_name g t (within d name) node ≡ Ok new
    → (slot : ℕ) × (free_number g t ≡ Some new.number) × (new_slot g t d ≡ Ok slot) × (new.edit.tree ≡ with_node (placed t d slot (record { name = name; number = new.number })) new.number (Some node))
new_is g t d name node new h =
    let r = after_part (or_refuse (free_number g t) refusal.NoInodes) _ new h in
    let q = after_part (new_slot g t d) _ new r.2 in
    let is = ok_is _ new _ refl q.2 in
    let number : r.0 ≡ new.number = ap (λ (x : NewName). x.number) is in
    (q.0, is_some_of (free_number g t) refusal.NoInodes r.0 r.1 ∙ ap Some number, q.1, subst (λ m. new.edit.tree ≡ with_node (placed t d q.0 (record { name = name; number = m })) m (Some node)) number (ap (λ (x : NewName). x.edit.tree) (sym is)))

-- a new node has its name, what was there is as it was
made_stays : (g : Request) (t : Tree) (d slot n : ℕ) (name : List ℕ) (node : Node) → is_directory t d ≡ true → t n ≡ None → Stays t (with_node (placed t d slot (record { name = name; number = n })) n (Some node))
made_stays g t d slot n name node kind absent x there =
    let e : Entry = record { name = name; number = n } in
    let kinds = same_kinds t (placed t d slot e) d _ (placed_set t d slot e kind) in
    let own = node_set (placed t d slot e) n (Some node) in
    let r = set_stays_but (placed t d slot e) (with_node (placed t d slot e) n (Some node)) n (Some node) own x
    (λ same. false≢true (sym (ap (λ (o : Option Node). is_some o) absent) ∙ ap (λ m. is_some (t m)) (sym same) ∙ there))
    (kinds.there x ∙ there) in
    (r.0, r.1 ∙ kinds.kinds x)

-- all that is asked of a node that is made
pub record IsNew (g : Request) (t : Tree) (new : NewName) (node : Node) : Type 0 where
  pub tree : IsTree g new.edit.tree
  pub stays : Stays t new.edit.tree
  pub here : new.edit.tree new.number ≡ Some node

pub new_made : (g : Request) (t : Tree) (path : List ℕ) (d : ℕ) (name : List ℕ) (node : Node) (new : NewName) → IsTree g t → AreBytes path → spot_of g t path ≡ Ok (within d name) → find_name t d name ≡ None → IsMade g d node → new_name g t (within d name) node ≡ Ok new → IsNew g t new node
new_made g t path d name node new tree bytes at absent made h =
    let r = new_is g t d name node new h in
    let free = free_is g t new.number r.1 in
    let kind = in_directory g t path d name at in
    let other : new.number ≡ 2 → ⊥ = λ same. none_some (directory tree.root.0 0) (sym free.absent ∙ ap t same ∙ tree.root.1) in
    let place = new_place g t d name new.number r.0 kind (good_spot g t path d name bytes at) free.from free.below other absent r.2 in
    let e : Entry = record { name = name; number = new.number } in
    record {
      tree = subst (IsTree g) (sym r.3) (made_tree g t d r.0 e node tree place (empty_slot g t d r.0 r.2) free.absent made);
      stays = subst (Stays t) (sym r.3) (made_stays g t d r.0 new.number name node kind free.absent);
      here = ap (λ u. u new.number) r.3 ∙ (node_set (placed t d r.0 e) new.number (Some node)).here;
    }

-- ---- plans that keep the tree

same_tree : (g : Request) (s : State) (reply : Reply) → HasTrees g s → IsSound g s (keeps s reply)
same_tree g s reply has = record { tree = has.tree; table = has.descriptors }

-- ---- open

opened_file : (t : Tree) (flags : OpenFlags) (n : ℕ) → is_some (t n) ≡ true → is_directory t n ≡ false → NamesItsNode t (file_descriptor flags n)
opened_file t flags n there kind = record { there = there; kind = kind }

file_stays : (t : Tree) (n : ℕ) (content : List ℕ) (present : List Bool) → is_directory t n ≡ false → Stays t (with_node t n (Some (file content present)))
file_stays t n content present kind x there =
    let u = with_node t n (Some (file content present)) in
    let own = node_set t n (Some (file content present)) in
    ⊎_elim
    (λ (same : x ≡ n). (ap (λ y. is_some (u y)) same ∙ is_there u n (file content present) own.here, ap (λ y. is_directory u y) same ∙ is_a_file u n content present own.here ∙ sym (ap (λ y. is_directory t y) same ∙ kind)))
    (λ (other : x ≡ n → ⊥). set_stays_but t u n (Some (file content present)) own x other there)
    (cases_eq x n)

open_there_sound : (g : Request) (s : State) (flags : OpenFlags) (spot : Spot) (found : Found) → IsGeometry g → HasTrees g s → at_spot s.tree spot ≡ Some found → Gives (IsSound g s) (open_there g s flags found.number)
open_there_sound g s flags spot found is has at =
    gives_each _ (refuse_if flags.exclusive refusal.Exists) _ (λ _.
    gives_after _ (refuse_if (is_directory s.tree found.number) refusal.IsDir) _ (λ u kind.
    gives_each _ (refuse_if (is_full s.descriptors) refusal.TooManyOpen) _ (λ _.
    gives_ok _ _ (by_flag (passes _ _ u kind) flags.truncate))))
  where
    there : is_some (s.tree found.number) ≡ true
    there = found_there g s.tree spot found has.tree at

    by_flag : is_directory s.tree found.number ≡ false → (cuts : Bool) → IsSound g s (open_plan cuts g s flags found.number)
    by_flag kind true =
        let stays = file_stays s.tree found.number [] [] kind in
        let now = stays found.number there in
        record {
          tree = filed_tree g s.tree found.number [] [] has.tree there kind (empty_file g (some_bytes g is));
          table = set_for _ s.descriptors (first_empty s.descriptors) (file_descriptor flags found.number) (for_stays s.tree _ s.descriptors stays has.descriptors) (opened_file _ flags found.number now.0 (now.1 ∙ kind));
        }
    by_flag kind false = record { tree = has.tree; table = set_for s.tree s.descriptors (first_empty s.descriptors) (file_descriptor flags found.number) has.descriptors (opened_file s.tree flags found.number there kind) }

made_file : (g : Request) (d : ℕ) → IsGeometry g → IsMade g d (file [] [])
made_file g d is = record { good = empty_file g (some_bytes g is); slotless = refl; parent = λ slots number wrong. absurd (cc) }

open_absent_sound : (g : Request) (s : State) (path : List ℕ) (flags : OpenFlags) (spot : Spot) → IsGeometry g → HasTrees g s → AreBytes path → spot_of g s.tree path ≡ Ok spot → at_spot s.tree spot ≡ None → Gives (IsSound g s) (open_absent g s flags spot)
open_absent_sound g s path flags top is has bytes at absent =
    gives_each _ (refuse_if (not flags.create) refusal.NoEntry) _ (λ _.
    gives_each _ (refuse_if (is_full s.descriptors) refusal.TooManyOpen) _ (λ _.
    gives_none _ refusal.Exists))
open_absent_sound g s path flags (within d name) is has bytes at absent =
    gives_each _ (refuse_if (not flags.create) refusal.NoEntry) _ (λ _.
    gives_each _ (refuse_if (is_full s.descriptors) refusal.TooManyOpen) _ (λ _.
    gives_after _ (new_name g s.tree (within d name) (file [] [])) _ (λ new was.
    let made = new_made g s.tree path d name (file [] []) new has.tree bytes at absent (made_file g d is) was in
    gives_ok _ _ (record {
      tree = made.tree;
      table = set_for new.edit.tree s.descriptors (first_empty s.descriptors) (file_descriptor flags new.number) (for_stays s.tree new.edit.tree s.descriptors made.stays has.descriptors)
          (opened_file new.edit.tree flags new.number (is_there new.edit.tree new.number (file [] []) made.here) (is_a_file new.edit.tree new.number [] [] made.here));
    }))))

open_spot_sound : (g : Request) (s : State) (path : List ℕ) (flags : OpenFlags) (spot : Spot) (there : Option Found) → IsGeometry g → HasTrees g s → AreBytes path → spot_of g s.tree path ≡ Ok spot → at_spot s.tree spot ≡ there → Gives (IsSound g s) (open_spot g s flags spot there)
open_spot_sound g s path flags spot (Some found) is has bytes at was = open_there_sound g s flags spot found is has was
open_spot_sound g s path flags spot None is has bytes at was = open_absent_sound g s path flags spot is has bytes at was

pub open_sound : (g : Request) (s : State) (path : List ℕ) (flags : OpenFlags) → IsGeometry g → HasTrees g s → AreBytes path → Gives (IsSound g s) (plan_open g s path flags)
unfolding plan_open
open_sound g s path flags is has bytes =
    gives_each _ (refuse_if (are_bad_flags flags) refusal.Invalid) _ (λ _.
    gives_after _ (spot_of g s.tree path) _ (λ spot at.
    open_spot_sound g s path flags spot (at_spot s.tree spot) is has bytes at refl))

-- ---- descriptors

-- what a descriptor is told by
at_place : (s : State) (h : ℕ) (d : Descriptor) → open_at s h ≡ Ok d → descriptor_at s.descriptors h ≡ Some d
at_place s h d was = is_some_of (descriptor_at s.descriptors h) refusal.BadDescriptor d was

file_place : (s : State) (h : ℕ) (d : Descriptor) → file_at s h ≡ Ok d → (descriptor_at s.descriptors h ≡ Some d) × (d.directory ≡ false)
file_place s h d was =
    let r = after_part (open_at s h) (λ d. refuse_if d.directory refusal.IsDir >>= λ _. Ok d) d was in
    let q = after_test r.0.directory refusal.IsDir (Ok r.0) d r.2 in
    let same = ok_is r.0 d (Ok r.0) refl q.1 in
    (at_place s h r.0 r.1 ∙ ap Some same, ap (λ (x : Descriptor). x.directory) (sym same) ∙ q.0)

pub writable_place : (s : State) (h : ℕ) (d : Descriptor) → writable_at s h ≡ Ok d → (descriptor_at s.descriptors h ≡ Some d) × (d.directory ≡ false)
writable_place s h d was =
    let r = after_part (file_at s h) (λ d. refuse_if (not d.write) refusal.BadDescriptor >>= λ _. Ok d) d was in
    let q = after_test (not r.0.write) refusal.BadDescriptor (Ok r.0) d r.2 in
    let same = ok_is r.0 d (Ok r.0) refl q.1 in
    let place = file_place s h r.0 r.1 in
    (place.0 ∙ ap Some same, ap (λ (x : Descriptor). x.directory) (sym same) ∙ place.1)

directory_place : (s : State) (h : ℕ) (d : Descriptor) → directory_at s h ≡ Ok d → descriptor_at s.descriptors h ≡ Some d
directory_place s h d was =
    let r = after_part (open_at s h) (λ d. refuse_if (not d.directory) refusal.NotDir >>= λ _. Ok d) d was in
    let q = after_test (not r.0.directory) refusal.NotDir (Ok r.0) d r.2 in
    at_place s h r.0 r.1 ∙ ap Some (ok_is r.0 d (Ok r.0) refl q.1)

pub close_sound : (g : Request) (s : State) (h : ℕ) → HasTrees g s → Gives (IsSound g s) (plan_close s h)
unfolding plan_close
close_sound g s h has = gives_each _ (open_at s h) _ (λ _. gives_ok _ _ (record { tree = has.tree; table = closed_for s.tree s.descriptors h has.descriptors }))

pub seek_sound : (g : Request) (s : State) (h to : ℕ) → HasTrees g s → Gives (IsSound g s) (plan_seek g s h to)
unfolding plan_seek
seek_sound g s h to has =
    gives_after _ (file_at s h) _ (λ d at.
    gives_each _ (refuse_if (nat_lt (max_size_of g) to) refusal.Invalid) _ (λ _.
    gives_ok _ _ (record { tree = has.tree; table = moved_for s.tree s.descriptors h d to has.descriptors (file_place s h d at).0 })))

pub fsync_sound : (g : Request) (s : State) (h : ℕ) → HasTrees g s → Gives (IsSound g s) (plan_fsync s h)
unfolding plan_fsync
fsync_sound g s h has = gives_each _ (open_at s h) _ (λ _. gives_ok _ _ (record { tree = has.tree; table = has.descriptors }))

pub read_sound : (g : Request) (s : State) (h count : ℕ) → HasTrees g s → Gives (IsSound g s) (plan_read s h count)
unfolding plan_read
read_sound g s h count has =
    gives_after _ (file_at s h) _ (λ d at.
    gives_each _ (refuse_if (not d.read) refusal.BadDescriptor) _ (λ _.
    gives_ok _ _ (by_rest d (file_place s h d at).0 (drop d.at (content_of (node_at s.tree d.number))) _)))
  where
    by_rest : (d : Descriptor) → descriptor_at s.descriptors h ≡ Some d → (rest piece : List ℕ) → IsSound g s (read_plan s h d rest piece)
    by_rest d at [] piece = record { tree = has.tree; table = has.descriptors }
    by_rest d at (byte ∷ rest) piece = record { tree = has.tree; table = moved_for s.tree s.descriptors h d _ has.descriptors at }

pub open_dir_sound : (g : Request) (s : State) (path : List ℕ) → HasTrees g s → Gives (IsSound g s) (plan_open_dir g s path)
unfolding plan_open_dir
open_dir_sound g s path has =
    gives_each _ (spot_of g s.tree path) _ (λ spot.
    gives_each _ (found_number (at_spot s.tree spot)) _ (λ n.
    gives_after _ (refuse_if (not (is_directory s.tree n)) refusal.NotDir) _ (λ u kind.
    gives_each _ (refuse_if (is_full s.descriptors) refusal.TooManyOpen) _ (λ _.
    let is = not_false (is_directory s.tree n) (passes _ _ u kind) in
    gives_ok _ _ (record { tree = has.tree; table = set_for s.tree s.descriptors (first_empty s.descriptors) (directory_descriptor n) has.descriptors (record { there = directory_there s.tree n is; kind = is }) })))))

pub read_dir_sound : (g : Request) (s : State) (h : ℕ) → HasTrees g s → Gives (IsSound g s) (plan_read_dir s h)
unfolding plan_read_dir
read_dir_sound g s h has =
    gives_after _ (directory_at s h) _ (λ d at.
    gives_ok _ _ (by_filled d (directory_place s h d at) (first_filled d.at (drop d.at (slots_at s.tree d.number)))))
  where
    by_filled : (d : Descriptor) → descriptor_at s.descriptors h ≡ Some d → (filled : Option Filled) → IsSound g s (read_dir_plan s h d filled)
    by_filled d at None = record { tree = has.tree; table = has.descriptors }
    by_filled d at (Some filled) = record { tree = has.tree; table = moved_for s.tree s.descriptors h d _ has.descriptors at }

pub rewind_sound : (g : Request) (s : State) (h : ℕ) → HasTrees g s → Gives (IsSound g s) (plan_rewind s h)
unfolding plan_rewind
rewind_sound g s h has =
    gives_after _ (directory_at s h) _ (λ d at.
    gives_ok _ _ (record { tree = has.tree; table = moved_for s.tree s.descriptors h d 0 has.descriptors (directory_place s h d at) }))

-- ---- files

-- the file of a number, by what is read of it
file_rules : (g : Request) (t : Tree) (n : ℕ) → IsTree g t → is_some (t n) ≡ true → is_directory t n ≡ false → IsFile g (content_of (node_at t n)) (present_of (node_at t n))
file_rules g t n tree there kind =
    let f = file_is t n there kind in
    subst (λ (o : Option Node). IsFile g (content_of (unwrap_or o (file [] []))) (present_of (unwrap_or o (file [] [])))) (sym f.2) (tree.nodes n (file f.0 f.1) f.2)

pub write_sound : (g : Request) (s : State) (h : ℕ) (new : List ℕ) → IsGeometry g → HasTrees g s → AreBytes new → Gives (IsSound g s) (plan_write g s h new)
unfolding plan_write
write_sound g s h new is has bytes =
    gives_after _ (writable_at s h) _ (λ d at.
    gives_after _ (refuse_if (nat_lt (max_size_of g) (write_place s d + length new)) refusal.TooBig) _ (λ u fits.
    let place = writable_place s h d at in
    let node = has.descriptors h d place.0 in
    let kind = node.kind ∙ place.1 in
    let stays = file_stays s.tree d.number _ _ kind in
    gives_ok _ _ (record {
      tree = filed_tree g s.tree d.number _ _ has.tree node.there kind
          (written_file g (content_of (node_at s.tree d.number)) (present_of (node_at s.tree d.number)) (write_place s d) new (some_bytes g is) (file_rules g s.tree d.number has.tree node.there kind) bytes (ltb-false _ _ (passes _ _ u fits)));
      table = moved_for _ s.descriptors h d _ (for_stays s.tree _ s.descriptors stays has.descriptors) place.0;
    })))

pub truncate_sound : (g : Request) (s : State) (h size : ℕ) → IsGeometry g → HasTrees g s → Gives (IsSound g s) (plan_truncate g s h size)
unfolding plan_truncate
truncate_sound g s h size is has =
    gives_after _ (writable_at s h) _ (λ d at.
    gives_after _ (refuse_if (nat_lt (max_size_of g) size) refusal.TooBig) _ (λ u fits.
    let place = writable_place s h d at in
    let node = has.descriptors h d place.0 in
    let kind = node.kind ∙ place.1 in
    let stays = file_stays s.tree d.number _ _ kind in
    gives_ok _ _ (record {
      tree = filed_tree g s.tree d.number _ _ has.tree node.there kind
          (resized_file g (content_of (node_at s.tree d.number)) (present_of (node_at s.tree d.number)) size (some_bytes g is) (file_rules g s.tree d.number has.tree node.there kind) (ltb-false _ _ (passes _ _ u fits)));
      table = for_stays s.tree _ s.descriptors stays has.descriptors;
    })))
