-- The changes that commands may make, each with what was tested before it.
use Rattle.std.proofs.Common.{◌≡◌, ℕ, ◌+◌, ◌==◌, ◌&&◌, ◌||◌, not, Bool, true, false, cond, List, [], ◌∷◌, length, replicate, is_some, nat_lt, nat_le, Option, Some, None, Result, Ok, Err, refl, sym, ap, subst, ◌∙◌}
use Rattle.std.proofs.lemmas.Bool.{false≢true, or_parts}
use Rattle.edge_base.specs.declared.geometry.Request.{Request}
use Rattle.edge_base.specs.declared.refusal.Refusal.{Refusal}
use Rattle.edge_base.specs.declared.refusal.Refusal.TheVariants as refusal
use Rattle.edge_base.specs.commands.Refusals.{◌>>=◌, refuse_if, or_refuse}
use Rattle.edge_base.specs.layout.Places.{max_size_of}
use Rattle.edge_base.specs.commands.Descriptors.{Descriptor, is_full, is_open}
use Rattle.edge_base.specs.tree.Nodes.{Node, file, directory}
use Rattle.edge_base.specs.commands.Paths.{names_of, names_in, two_paths}
use Rattle.edge_model.specs.declared.command.OpenFlags.{OpenFlags}
use Rattle.edge_model.specs.Asked.{Asked, open_file, close, read, write, fill, seek, truncate, fsync, link, unlink, rename, make_dir, remove_dir, open_dir, read_dir, rewind, stat, fstat, space, mask, set_mask, transact}
use Rattle.edge_model.specs.Tree.{Tree, is_directory, slots_at, links_of, free_number, with_node}
use Rattle.edge_model.specs.Walk.{Spot, top, within, Found, at_spot, spot_of, walk, is_top}
use Rattle.edge_model.specs.State.{State, Plan, Edit}
use Rattle.edge_model.specs.Step.{plan}
use Rattle.edge_model.specs.Named.{new_slot, new_name, placed, slot_position}
use Rattle.edge_model.specs.Open.{plan_open, are_bad_flags, open_spot, open_there, open_absent, open_plan, writable_at, emptied}
use Rattle.edge_model.specs.Files.{plan_write, plan_truncate, write_place, written, cut}
use Rattle.edge_model.specs.Names.{plan_make_dir, plan_link, plan_unlink, plan_remove_dir, plan_rename, make_dir_at, link_at, unlink_at, is_busy, is_empty, has_one_link, is_below, holder, rename_to, rename_over, rename_same, renamed, unnamed}
use Rattle.edge_model.specs.Laws.{reads_only}
use Rattle.edge_model.proofs.Plans.{Gives, gives_ok, gives_none, gives_after, gives_each, ok_is, err_is_not_ok}
use Rattle.edge_model.proofs.ReadLaws.{no_edit}

-- a new name in the directory d: the path led there, and neither the name nor a node of the number was there
pub record IsNewName (g : Request) (t : Tree) (path : List ℕ) (d : ℕ) (name : List ℕ) (n slot : ℕ) : Type 0 where
  pub spot : spot_of g t path ≡ Ok (within d name)
  pub absent : at_spot t (within d name) ≡ None
  pub number : free_number g t ≡ Some n
  pub room : new_slot g t d ≡ Ok slot

pub record IsNewLink (g : Request) (t : Tree) (path to : List ℕ) (from : Spot) (found : Found) (d : ℕ) (name : List ℕ) (slot : ℕ) : Type 0 where
  pub paths : two_paths g.name_max path to ≡ Ok tt
  pub spot : walk t (names_in path) ≡ Ok from
  pub there : at_spot t from ≡ Some found
  pub is_file : is_directory t found.number ≡ false
  pub spot_to : walk t (names_in to) ≡ Ok (within d name)
  pub absent : at_spot t (within d name) ≡ None
  pub few : nat_le 65535 (links_of g t found.number) ≡ false
  pub room : new_slot g t d ≡ Ok slot

pub record IsDropped (g : Request) (s : State) (path : List ℕ) (d : ℕ) (name : List ℕ) (found : Found) : Type 0 where
  pub spot : spot_of g s.tree path ≡ Ok (within d name)
  pub there : at_spot s.tree (within d name) ≡ Some found
  -- a directory that is dropped is empty
  pub empty : is_directory s.tree found.number ≡ true → is_empty (slots_at s.tree found.number) ≡ true
  pub closed : has_one_link g s.tree found.number ≡ true → is_open s.descriptors found.number ≡ false

pub record IsMoved (g : Request) (t : Tree) (path to : List ℕ) (from onto : Spot) (found : Found) : Type 0 where
  pub paths : two_paths g.name_max path to ≡ Ok tt
  pub is_named : is_top path ≡ false
  pub is_named_to : is_top to ≡ false
  pub spot : walk t (names_in path) ≡ Ok from
  pub there : at_spot t from ≡ Some found
  pub spot_to : walk t (names_in to) ≡ Ok onto
  pub outside : (is_directory t found.number && is_below t to found.number) ≡ false

pub record IsReplaced (g : Request) (s : State) (found there : Found) : Type 0 where
  pub is_other : (there.number == found.number) ≡ false
  pub both : (is_directory s.tree found.number && not (is_directory s.tree there.number)) ≡ false
  pub neither : (not (is_directory s.tree found.number) && is_directory s.tree there.number) ≡ false
  pub empty : (is_directory s.tree there.number && not (is_empty (slots_at s.tree there.number))) ≡ false
  pub free : is_busy g s there.number ≡ false

pub data Change (g : Request) (s : State) : Type 0 where
  nothing : Change g s
  empties : (path : List ℕ) (spot : Spot) (found : Found) → spot_of g s.tree path ≡ Ok spot → at_spot s.tree spot ≡ Some found → is_directory s.tree found.number ≡ false → Change g s
  makes_file : (path : List ℕ) (d : ℕ) (name : List ℕ) (n slot : ℕ) → IsNewName g s.tree path d name n slot → Change g s
  makes_dir : (path : List ℕ) (d : ℕ) (name : List ℕ) (n slot : ℕ) → IsNewName g s.tree path d name n slot → Change g s
  writes : (h : ℕ) (d : Descriptor) (new : List ℕ) → writable_at s h ≡ Ok d → nat_lt (max_size_of g) (write_place s d + length new) ≡ false → Change g s
  cuts : (h : ℕ) (d : Descriptor) (size : ℕ) → writable_at s h ≡ Ok d → nat_lt (max_size_of g) size ≡ false → Change g s
  links : (path to : List ℕ) (from : Spot) (found : Found) (d : ℕ) (name : List ℕ) (slot : ℕ) → IsNewLink g s.tree path to from found d name slot → Change g s
  drops : (path : List ℕ) (d : ℕ) (name : List ℕ) (found : Found) → IsDropped g s path d name found → Change g s
  moves : (path to : List ℕ) (from spot : Spot) (found : Found) (slot : ℕ) → IsMoved g s.tree path to from spot found → at_spot s.tree spot ≡ None → new_slot g s.tree (holder spot) ≡ Ok slot → Change g s
  moves_over : (path to : List ℕ) (from spot : Spot) (found there : Found) → IsMoved g s.tree path to from spot found → at_spot s.tree spot ≡ Some there → IsReplaced g s found there → Change g s

-- the edit of a new node
abbrev pub made : Request → Tree → ℕ → List ℕ → ℕ → ℕ → Node → Edit
made g t d name n slot node = record { tree = with_node (placed t d slot (record { name = name; number = n })) n (Some node); writes = slot_position g d slot ∷ []; removes = []; reserve = 3 }

abbrev pub edit_of : (g : Request) (s : State) → Change g s → Option Edit
edit_of g s nothing = None
edit_of g s (empties path spot found at there kind) = Some (emptied g s.tree found.number)
edit_of g s (makes_file path d name n slot new) = Some (made g s.tree d name n slot (file [] []))
edit_of g s (makes_dir path d name n slot new) = Some (made g s.tree d name n slot (directory [] d))
edit_of g s (writes h d new at fits) = Some (written g s.tree d.number (write_place s d) new)
edit_of g s (cuts h d size at fits) = Some (cut g s.tree d.number size)
edit_of g s (links path to from found d name slot new) = Some (record { tree = placed s.tree d slot (record { name = name; number = found.number }); writes = slot_position g d slot ∷ []; removes = []; reserve = 3 })
edit_of g s (drops path d name found dropped) = Some (unnamed g s.tree d found (has_one_link g s.tree found.number))
edit_of g s (moves path to from spot found slot moved absent room) = Some (renamed g s.tree from found spot slot None)
edit_of g s (moves_over path to from spot found there moved at replaced) = Some (renamed g s.tree from found spot there.slot (Some there.number))

-- an edit is that of a change
abbrev pub IsChange : (g : Request) → State → Option Edit → Type 0
IsChange g s edit = (c : Change g s) × (edit ≡ edit_of g s c)

abbrev Made : Request → State → Plan → Type 0
Made g s p = IsChange g s p.edit

abbrev AllMade : Request → State → Result Plan Refusal → Type 0
AllMade g s r = Gives (Made g s) r

-- ---- what tests leave

pub passes : (b : Bool) (e : Refusal) (u : Unit {0}) → refuse_if b e ≡ Ok u → b ≡ false
passes false e u h = refl
passes true e u h = absurd (err_is_not_ok e u (Err e) refl h)

pub is_some_of : {A : Type 0} (o : Option A) (e : Refusal) (x : A) → or_refuse o e ≡ Ok x → o ≡ Some x
is_some_of (Some y) e x h = ap Some (ok_is y x (Ok y) refl h)
is_some_of None e x h = absurd (err_is_not_ok e x (Err e) refl h)

pub none_is : {A : Type 0} (o : Option A) → is_some o ≡ false → o ≡ None
none_is None h = refl
none_is (Some x) h = absurd (false≢true (sym h))

-- ---- open

made_of : (g : Request) (s : State) (c : Change g s) (p : Plan) → p.edit ≡ edit_of g s c → AllMade g s (Ok p)
made_of g s c p e = gives_ok (Made g s) p (c, e)

open_there_made : (g : Request) (s : State) (path : List ℕ) (flags : OpenFlags) (spot : Spot) (found : Found) → spot_of g s.tree path ≡ Ok spot → at_spot s.tree spot ≡ Some found → AllMade g s (open_there g s flags found.number)
open_there_made g s path flags spot found at there =
    gives_each _ (refuse_if flags.exclusive refusal.Exists) _ (λ _.
    gives_after _ (refuse_if (is_directory s.tree found.number) refusal.IsDir) _ (λ u kind.
    gives_each _ (refuse_if (is_full s.descriptors) refusal.TooManyOpen) _ (λ _.
    gives_ok _ _ (by_flag (empties path spot found at there (passes _ _ u kind)) refl flags.truncate))))
  where
    by_flag : (c : Change g s) → edit_of g s c ≡ Some (emptied g s.tree found.number) → (cuts_it : Bool) → Made g s (open_plan cuts_it g s flags found.number)
    by_flag c is true = (c, sym is)
    by_flag c is false = (nothing, refl)

new_of : (g : Request) (t : Tree) (d : ℕ) (name : List ℕ) (node : Node) → Gives (λ new. (slot : ℕ) × (new_slot g t d ≡ Ok slot) × (free_number g t ≡ Some new.number) × (new.edit ≡ made g t d name new.number slot node)) (new_name g t (within d name) node)
new_of g t d name node =
    gives_after _ (or_refuse (free_number g t) refusal.NoInodes) _ (λ n is_free.
    gives_after _ (new_slot g t d) _ (λ slot room.
    gives_ok _ _ (slot, room, is_some_of (free_number g t) refusal.NoInodes n is_free, refl)))

open_absent_made : (g : Request) (s : State) (path : List ℕ) (flags : OpenFlags) (spot : Spot) → spot_of g s.tree path ≡ Ok spot → at_spot s.tree spot ≡ None → AllMade g s (open_absent g s flags spot)
open_absent_made g s path flags top at absent =
    gives_each _ (refuse_if (not flags.create) refusal.NoEntry) _ (λ _.
    gives_each _ (refuse_if (is_full s.descriptors) refusal.TooManyOpen) _ (λ _.
    gives_none _ refusal.Exists))
open_absent_made g s path flags (within d name) at absent =
    gives_each _ (refuse_if (not flags.create) refusal.NoEntry) _ (λ _.
    gives_each _ (refuse_if (is_full s.descriptors) refusal.TooManyOpen) _ (λ _.
    gives_after _ (new_name g s.tree (within d name) (file [] [])) _ (λ new was.
    let n = (new_of g s.tree d name (file [] [])).holds new was in
    gives_ok _ _ (makes_file path d name new.number n.0 (record { spot = at; absent = absent; number = n.2; room = n.1 }), ap Some n.3))))

open_spot_made : (g : Request) (s : State) (path : List ℕ) (flags : OpenFlags) (spot : Spot) (there : Option Found) → spot_of g s.tree path ≡ Ok spot → at_spot s.tree spot ≡ there → AllMade g s (open_spot g s flags spot there)
open_spot_made g s path flags spot (Some found) at is = open_there_made g s path flags spot found at is
open_spot_made g s path flags spot None at is = open_absent_made g s path flags spot at is

open_made : (g : Request) (s : State) (path : List ℕ) (flags : OpenFlags) → AllMade g s (plan_open g s path flags)
unfolding plan_open
open_made g s path flags =
    gives_each _ (refuse_if (are_bad_flags flags) refusal.Invalid) _ (λ _.
    gives_after _ (spot_of g s.tree path) _ (λ spot at.
    open_spot_made g s path flags spot (at_spot s.tree spot) at refl))

-- ---- files

write_made : (g : Request) (s : State) (h : ℕ) (new : List ℕ) → AllMade g s (plan_write g s h new)
unfolding plan_write
write_made g s h new =
    gives_after _ (writable_at s h) _ (λ d at.
    gives_after _ (refuse_if (nat_lt (max_size_of g) (write_place s d + length new)) refusal.TooBig) _ (λ u fits.
    gives_ok _ _ (writes h d new at (passes _ _ u fits), refl)))

truncate_made : (g : Request) (s : State) (h size : ℕ) → AllMade g s (plan_truncate g s h size)
unfolding plan_truncate
truncate_made g s h size =
    gives_after _ (writable_at s h) _ (λ d at.
    gives_after _ (refuse_if (nat_lt (max_size_of g) size) refusal.TooBig) _ (λ u fits.
    gives_ok _ _ (cuts h d size at (passes _ _ u fits), refl)))

-- ---- names

make_dir_at_made : (g : Request) (s : State) (path : List ℕ) (spot : Spot) → spot_of g s.tree path ≡ Ok spot → at_spot s.tree spot ≡ None → AllMade g s (make_dir_at g s spot)
make_dir_at_made g s path top at absent = gives_none _ refusal.Exists
make_dir_at_made g s path (within d name) at absent =
    gives_after _ (new_name g s.tree (within d name) (directory [] d)) _ (λ new was.
    let n = (new_of g s.tree d name (directory [] d)).holds new was in
    gives_ok _ _ (makes_dir path d name new.number n.0 (record { spot = at; absent = absent; number = n.2; room = n.1 }), ap Some n.3))

make_dir_made : (g : Request) (s : State) (path : List ℕ) → AllMade g s (plan_make_dir g s path)
unfolding plan_make_dir
make_dir_made g s path =
    gives_after _ (spot_of g s.tree path) _ (λ spot at.
    gives_after _ (refuse_if (is_some (at_spot s.tree spot)) refusal.Exists) _ (λ u absent.
    make_dir_at_made g s path spot at (none_is (at_spot s.tree spot) (passes _ _ u absent))))

link_at_made : (g : Request) (s : State) (path to : List ℕ) (from : Spot) (found : Found) (spot : Spot) → two_paths g.name_max path to ≡ Ok tt → walk s.tree (names_in path) ≡ Ok from → at_spot s.tree from ≡ Some found → is_directory s.tree found.number ≡ false
    → walk s.tree (names_in to) ≡ Ok spot → at_spot s.tree spot ≡ None → nat_le 65535 (links_of g s.tree found.number) ≡ false → AllMade g s (link_at g s found.number spot)
link_at_made g s path to from found top paths at there kind at_to absent few = gives_none _ refusal.Exists
link_at_made g s path to from found (within d name) paths at there kind at_to absent few =
    gives_after _ (new_slot g s.tree d) _ (λ slot room.
    gives_ok _ _ (links path to from found d name slot (record { paths = paths; spot = at; there = there; is_file = kind; spot_to = at_to; absent = absent; few = few; room = room }), refl))

link_made : (g : Request) (s : State) (path to : List ℕ) → AllMade g s (plan_link g s path to)
unfolding plan_link
link_made g s path to =
    gives_after _ (two_paths g.name_max path to) _ (λ u paths.
    gives_after _ (walk s.tree (names_in path)) _ (λ from at.
    gives_after _ (or_refuse (at_spot s.tree from) refusal.NoEntry) _ (λ found there.
    gives_after _ (refuse_if (is_directory s.tree found.number) refusal.IsDir) _ (λ v kind.
    gives_after _ (walk s.tree (names_in to)) _ (λ spot at_to.
    gives_after _ (refuse_if (is_some (at_spot s.tree spot)) refusal.Exists) _ (λ w absent.
    gives_after _ (refuse_if (nat_le 65535 (links_of g s.tree found.number)) refusal.TooManyLinks) _ (λ x few.
    link_at_made g s path to from found spot paths at (is_some_of (at_spot s.tree from) refusal.NoEntry found there) (passes _ _ v kind) at_to (none_is (at_spot s.tree spot) (passes _ _ w absent)) (passes _ _ x few))))))))

other_false : (a b : Bool) → (a && b) ≡ false → a ≡ true → b ≡ false
other_false true b h one = h
other_false false b h one = absurd (false≢true one)

no_such : (b : Bool) (P : Type 0) → b ≡ false → b ≡ true → P
no_such b P is_false is_true = absurd (false≢true (sym is_false ∙ is_true))

pub not_false : (b : Bool) → not b ≡ false → b ≡ true
not_false true h = refl
not_false false h = absurd (false≢true (sym h))

unlink_at_made : (g : Request) (s : State) (path : List ℕ) (spot : Spot) (found : Found) → spot_of g s.tree path ≡ Ok spot → at_spot s.tree spot ≡ Some found
    → (is_directory s.tree found.number ≡ true → is_empty (slots_at s.tree found.number) ≡ true) → (has_one_link g s.tree found.number ≡ true → is_open s.descriptors found.number ≡ false) → Made g s (unlink_at g s spot found)
unlink_at_made g s path top found at there empty closed = (nothing, refl)
unlink_at_made g s path (within d name) found at there empty closed = (drops path d name found (record { spot = at; there = there; empty = empty; closed = closed }), refl)

unlink_made : (g : Request) (s : State) (path : List ℕ) → AllMade g s (plan_unlink g s path)
unfolding plan_unlink
unlink_made g s path =
    gives_after _ (spot_of g s.tree path) _ (λ spot at.
    gives_after _ (or_refuse (at_spot s.tree spot) refusal.NoEntry) _ (λ found there.
    gives_after _ (refuse_if (is_directory s.tree found.number) refusal.IsDir) _ (λ u kind.
    gives_after _ (refuse_if (is_busy g s found.number) refusal.Busy) _ (λ v free.
    gives_ok _ _ (unlink_at_made g s path spot found at (is_some_of (at_spot s.tree spot) refusal.NoEntry found there)
    (λ yes. no_such (is_directory s.tree found.number) _ (passes _ _ u kind) yes)
    (other_false (has_one_link g s.tree found.number) (is_open s.descriptors found.number) (passes _ _ v free)))))))

after_names : (g : Request) (t : Tree) (path : List ℕ) (names : List (List ℕ)) (spot : Spot) → names_of g.name_max path ≡ Ok names → walk t names ≡ Ok spot → spot_of g t path ≡ Ok spot
after_names g t path names spot named at = ap (λ (r : Result (List (List ℕ)) Refusal). r >>= walk t) named ∙ at

remove_dir_made : (g : Request) (s : State) (path : List ℕ) → AllMade g s (plan_remove_dir g s path)
unfolding plan_remove_dir
remove_dir_made g s path =
    gives_after _ (names_of g.name_max path) _ (λ names named.
    gives_each _ (refuse_if (is_top path) refusal.Busy) _ (λ _.
    gives_after _ (walk s.tree names) _ (λ spot at.
    gives_after _ (or_refuse (at_spot s.tree spot) refusal.NoEntry) _ (λ found there.
    gives_each _ (refuse_if (not (is_directory s.tree found.number)) refusal.NotDir) _ (λ _.
    gives_after _ (refuse_if (not (is_empty (slots_at s.tree found.number))) refusal.NotEmpty) _ (λ u empty.
    gives_after _ (refuse_if (is_open s.descriptors found.number) refusal.Busy) _ (λ v free.
    gives_ok _ _ (unlink_at_made g s path spot found (after_names g s.tree path names spot named at) (is_some_of (at_spot s.tree spot) refusal.NoEntry found there)
    (λ _. not_false (is_empty (slots_at s.tree found.number)) (passes _ _ u empty))
    (λ _. passes _ _ v free)))))))))

-- ---- rename

rename_over_made : (g : Request) (s : State) (path to : List ℕ) (from spot : Spot) (found there : Found) → IsMoved g s.tree path to from spot found → at_spot s.tree spot ≡ Some there → (there.number == found.number) ≡ false → AllMade g s (rename_over g s from found spot there)
rename_over_made g s path to from spot found there moved at other =
    gives_after _ (refuse_if (is_directory s.tree found.number && not (is_directory s.tree there.number)) refusal.NotDir) _ (λ u both.
    gives_after _ (refuse_if (not (is_directory s.tree found.number) && is_directory s.tree there.number) refusal.IsDir) _ (λ v neither.
    gives_after _ (refuse_if (is_directory s.tree there.number && not (is_empty (slots_at s.tree there.number))) refusal.NotEmpty) _ (λ w empty.
    gives_after _ (refuse_if (is_busy g s there.number) refusal.Busy) _ (λ x free.
    gives_ok _ _ (moves_over path to from spot found there moved at (record { is_other = other; both = passes _ _ u both; neither = passes _ _ v neither; empty = passes _ _ w empty; free = passes _ _ x free }), refl)))))

rename_to_made : (g : Request) (s : State) (path to : List ℕ) (from spot : Spot) (found : Found) (there : Option Found) → IsMoved g s.tree path to from spot found → at_spot s.tree spot ≡ there → AllMade g s (rename_to g s from found spot there)
rename_to_made g s path to from spot found (Some there) moved at =
    elim (there.number == found.number) as (λ b. (there.number == found.number) ≡ b → AllMade g s (cond b (Ok (rename_same g s)) (rename_over g s from found spot there))) [
      | true ↦ λ same. gives_ok _ _ (nothing, refl)
      | false ↦ λ other. rename_over_made g s path to from spot found there moved at other
    ] refl
rename_to_made g s path to from spot found None moved at =
    gives_after _ (new_slot g s.tree (holder spot)) _ (λ slot room.
    gives_ok _ _ (moves path to from spot found slot moved at room, refl))

rename_made : (g : Request) (s : State) (path to : List ℕ) → AllMade g s (plan_rename g s path to)
unfolding plan_rename
rename_made g s path to =
    gives_after _ (two_paths g.name_max path to) _ (λ u paths.
    gives_after _ (refuse_if (is_top path || is_top to) refusal.Busy) _ (λ v named.
    gives_after _ (walk s.tree (names_in path)) _ (λ from at.
    gives_after _ (or_refuse (at_spot s.tree from) refusal.NoEntry) _ (λ found there.
    gives_after _ (walk s.tree (names_in to)) _ (λ spot at_to.
    gives_after _ (refuse_if (is_directory s.tree found.number && is_below s.tree to found.number) refusal.Invalid) _ (λ w outside.
    let both = or_parts (is_top path) (is_top to) (passes _ _ v named) in
    rename_to_made g s path to from spot found (at_spot s.tree spot)
    (record { paths = paths; is_named = both.0; is_named_to = both.1; spot = at; there = is_some_of (at_spot s.tree from) refusal.NoEntry found there; spot_to = at_to; outside = passes _ _ w outside }) refl))))))

-- ---- each command

reads_made : (g : Request) (s : State) (c : Asked) → reads_only c ≡ true → AllMade g s (plan g s c)
reads_made g s c reads = record { holds = λ p was. (nothing, (no_edit g s c reads).holds p was) }

-- the edit of each plan is one of the changes
pub each_made : (g : Request) (s : State) (c : Asked) → Gives (λ p. IsChange g s p.edit) (plan g s c)
each_made g s (open_file path flags) = open_made g s path flags
each_made g s (write h new) = write_made g s h new
each_made g s (fill h count byte) = write_made g s h (replicate count byte)
each_made g s (truncate h size) = truncate_made g s h size
each_made g s (link path to) = link_made g s path to
each_made g s (unlink path) = unlink_made g s path
each_made g s (rename path to) = rename_made g s path to
each_made g s (make_dir path) = make_dir_made g s path
each_made g s (remove_dir path) = remove_dir_made g s path
each_made g s (close h) = reads_made g s (close h) refl
each_made g s (read h count) = reads_made g s (read h count) refl
each_made g s (seek h to) = reads_made g s (seek h to) refl
each_made g s (fsync h) = reads_made g s (fsync h) refl
each_made g s (open_dir path) = reads_made g s (open_dir path) refl
each_made g s (read_dir h) = reads_made g s (read_dir h) refl
each_made g s (rewind h) = reads_made g s (rewind h) refl
each_made g s (stat path) = reads_made g s (stat path) refl
each_made g s (fstat h) = reads_made g s (fstat h) refl
each_made g s space = reads_made g s space refl
each_made g s mask = reads_made g s mask refl
each_made g s (set_mask events) = reads_made g s (set_mask events) refl
each_made g s transact = reads_made g s transact refl

-- what holds of each change holds of what a plan changes
pub by_change : (g : Request) (s : State) (P : Option Edit → Type 0) → ((c : Change g s) → P (edit_of g s c)) → (c : Asked) (p : Plan) → plan g s c ≡ Ok p → P p.edit
by_change g s P each c p was = let made_by = (each_made g s c).holds p was in subst P (sym made_by.1) (each made_by.0)
