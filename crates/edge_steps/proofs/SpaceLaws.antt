-- With the event `full` in the mask a command that only frees blocks is never refused for want of room.
use Rattle.std.proofs.Common.{◌≡◌, ℕ, ◌+◌, ◌≤◌, not, Bool, true, false, cond, List, [], ◌∷◌, ◌++◌, length, nat_lt, ⊎_elim, Option, Some, None, Result, Ok, Err, refl, sym, ap, ◌∙◌, subst, arith}
use Rattle.std.proofs.lemmas.Bool.{false≢true, leb-false, le-leb, ltb-false, and_cases}
use Rattle.edge_base.specs.declared.geometry.Request.{Request}
use Rattle.edge_base.specs.declared.refusal.Refusal.{Refusal}
use Rattle.edge_base.specs.declared.refusal.Refusal.TheVariants as refusal
use Rattle.edge_base.specs.declared.refusal.Refusal.TheVariants.{NoSpace}
use Rattle.edge_base.specs.commands.Refusals.{◌>>=◌, refuse_if, or_refuse}
use Rattle.edge_base.specs.commands.Events as event
use Rattle.edge_base.specs.commands.Descriptors.{descriptor_at, is_full, is_open}
use Rattle.edge_base.specs.commands.Paths.{names_of, is_invalid, is_too_long}
use Rattle.edge_base.specs.layout.Places.{IsGeometry, allocable_of, max_size_of}
use Rattle.edge_base.specs.tree.Positions.{count_of}
use Rattle.edge_model.specs.declared.command.OpenFlags.{OpenFlags}
use Rattle.edge_model.specs.Asked.{Asked, open_file, close, read, write, fill, seek, truncate, fsync, link, unlink, rename, make_dir, remove_dir, open_dir, read_dir, rewind, stat, fstat, space, mask, set_mask, transact, Reply}
use Rattle.edge_model.specs.Tree.{Tree, node_at, is_directory, slots_at, tree_positions}
use Rattle.edge_model.specs.Walk.{Spot, top, within, Found, at_spot, spot_of, walk, walk_from, is_top, find_name, found_number}
use Rattle.edge_model.specs.State.{State, Plan, Edit, Outcome, point_taken, planned, ended, fits, gains_by_point, in_use, dirty_of}
use Rattle.edge_model.specs.Step.{plan, step}
use Rattle.edge_model.specs.Files.{plan_truncate, content_of}
use Rattle.edge_model.specs.Open.{open_at, file_at, writable_at, plan_open, are_bad_flags, open_spot, open_there, open_plan}
use Rattle.edge_model.specs.Names.{plan_unlink, plan_remove_dir, unlink_at, unnamed, has_one_link, is_busy, is_empty}
use Rattle.edge_model.proofs.Plans.{Gives, gives_ok, gives_after, gives_each, err_is_not_ok}
use Rattle.edge_model.proofs.Changes.{passes, is_some_of, not_false}
use Rattle.edge_model.proofs.Outcomes.{each_outcome}
use Rattle.edge_model.proofs.WalkLaws.{in_directory}
use Rattle.edge_steps.specs.Rules.{HasTrees}
use Rattle.edge_steps.specs.Room.{LeavesRoom, OnlyFrees}
use Rattle.edge_steps.proofs.SlotLaws.{none_some, slot_inside}
use Rattle.edge_steps.proofs.CountLaws.{slot_at}
use Rattle.edge_steps.proofs.NodeLaws.{base_of, directory_rules}
use Rattle.edge_steps.proofs.WalkLaws.{is_found}
use Rattle.edge_steps.proofs.PlanLaws.{some_bytes, found_there, writable_place}
use Rattle.edge_steps.proofs.NameLaws.{is_leaf, after_names}
use Rattle.edge_steps.proofs.RenamePlans.{some_slots}
use Rattle.edge_steps.proofs.ShrinkLaws.{IsOneChain, few_dirty, emptied_chain, cut_chain, unnamed_chain}

-- ---- refusals that are not for want of room

record IsOther {A : Type 0} (r : Result A Refusal) : Type 0 where
  never : r ≡ Err NoSpace → ⊥

ok_other : {A : Type 0} (x : A) → IsOther (Ok x)
ok_other x = record { never = λ h. err_is_not_ok NoSpace x (Ok x) h refl }

err_other : {A : Type 0} (e : Refusal) → (e ≡ NoSpace → ⊥) → IsOther {A = A} (Err e)
err_other {A} e other = record { never = λ h. other (same e (Err e) refl h) }
  where
    same : (e : Refusal) (r : Result A Refusal) → r ≡ Err e → r ≡ Err NoSpace → e ≡ NoSpace
    same e r one two = cc

other_after : {A B : Type 0} (r : Result A Refusal) (f : A → Result B Refusal) → IsOther r → ((x : A) → IsOther (f x)) → IsOther (r >>= f)
other_after (Ok x) f h k = k x
other_after {A} {B} (Err e) f h k = record { never = λ is. h.never (ap Err (again e (Err e) refl is)) }
  where
    again : (e : Refusal) (r : Result B Refusal) → r ≡ Err e → r ≡ Err NoSpace → e ≡ NoSpace
    again e r one two = cc

other_test : (b : Bool) (e : Refusal) → (e ≡ NoSpace → ⊥) → IsOther (refuse_if b e)
other_test true e other = err_other e other
other_test false e other = ok_other tt

other_some : {A : Type 0} (o : Option A) (e : Refusal) → (e ≡ NoSpace → ⊥) → IsOther (or_refuse o e)
other_some None e other = err_other e other
other_some (Some x) e other = ok_other x

found_other : (o : Option Found) → IsOther (found_number o)
found_other None = err_other refusal.NoEntry (λ h. cc)
found_other (Some found) = ok_other found.number

walk_from_other : (t : Tree) (x : ℕ) (name : List ℕ) (names : List (List ℕ)) → IsOther (walk_from t x name names)
walk_from_other t x name [] = other_after (refuse_if (not (is_directory t x)) refusal.NotDir) _ (other_test _ refusal.NotDir (λ h. cc)) (λ _. ok_other _)
walk_from_other t x name (next ∷ more) = other_after (refuse_if (not (is_directory t x)) refusal.NotDir) _ (other_test _ refusal.NotDir (λ h. cc)) (λ _.
    other_after (found_number (find_name t x name)) _ (found_other (find_name t x name)) (λ y. walk_from_other t y next more))

walk_other : (t : Tree) (names : List (List ℕ)) → IsOther (walk t names)
walk_other t [] = ok_other _
walk_other t (name ∷ names) = walk_from_other t 2 name names

names_other : (longest : ℕ) (path : List ℕ) → IsOther (names_of longest path)
names_other longest path = other_after (refuse_if (is_invalid path) refusal.Invalid) _ (other_test _ refusal.Invalid (λ h. cc)) (λ _.
    other_after (refuse_if (is_too_long longest path) refusal.NameTooLong) _ (other_test _ refusal.NameTooLong (λ h. cc)) (λ _. ok_other _))

spot_other : (g : Request) (t : Tree) (path : List ℕ) → IsOther (spot_of g t path)
spot_other g t path = other_after (names_of g.name_max path) _ (names_other g.name_max path) (λ names. walk_other t names)

unlink_other : (g : Request) (s : State) (path : List ℕ) → IsOther (plan_unlink g s path)
unfolding plan_unlink
unlink_other g s path =
    other_after (spot_of g s.tree path) _ (spot_other g s.tree path) (λ spot.
    other_after (or_refuse (at_spot s.tree spot) refusal.NoEntry) _ (other_some _ refusal.NoEntry (λ h. cc)) (λ found.
    other_after (refuse_if (is_directory s.tree found.number) refusal.IsDir) _ (other_test _ refusal.IsDir (λ h. cc)) (λ _.
    other_after (refuse_if (is_busy g s found.number) refusal.Busy) _ (other_test _ refusal.Busy (λ h. cc)) (λ _. ok_other _))))

remove_dir_other : (g : Request) (s : State) (path : List ℕ) → IsOther (plan_remove_dir g s path)
unfolding plan_remove_dir
remove_dir_other g s path =
    other_after (names_of g.name_max path) _ (names_other g.name_max path) (λ names.
    other_after (refuse_if (is_top path) refusal.Busy) _ (other_test _ refusal.Busy (λ h. cc)) (λ _.
    other_after (walk s.tree names) _ (walk_other s.tree names) (λ spot.
    other_after (or_refuse (at_spot s.tree spot) refusal.NoEntry) _ (other_some _ refusal.NoEntry (λ h. cc)) (λ found.
    other_after (refuse_if (not (is_directory s.tree found.number)) refusal.NotDir) _ (other_test _ refusal.NotDir (λ h. cc)) (λ _.
    other_after (refuse_if (not (is_empty (slots_at s.tree found.number))) refusal.NotEmpty) _ (other_test _ refusal.NotEmpty (λ h. cc)) (λ _.
    other_after (refuse_if (is_open s.descriptors found.number) refusal.Busy) _ (other_test _ refusal.Busy (λ h. cc)) (λ _. ok_other _)))))))

open_other_at : (s : State) (h : ℕ) → IsOther (open_at s h)
open_other_at s h = other_some (descriptor_at s.descriptors h) refusal.BadDescriptor (λ k. cc)

file_other : (s : State) (h : ℕ) → IsOther (file_at s h)
file_other s h = other_after (open_at s h) _ (open_other_at s h) (λ d. other_after (refuse_if d.directory refusal.IsDir) _ (other_test _ refusal.IsDir (λ k. cc)) (λ _. ok_other _))

writable_other : (s : State) (h : ℕ) → IsOther (writable_at s h)
writable_other s h = other_after (file_at s h) _ (file_other s h) (λ d. other_after (refuse_if (not d.write) refusal.BadDescriptor) _ (other_test _ refusal.BadDescriptor (λ k. cc)) (λ _. ok_other _))

truncate_other : (g : Request) (s : State) (h size : ℕ) → IsOther (plan_truncate g s h size)
unfolding plan_truncate
truncate_other g s h size = other_after (writable_at s h) _ (writable_other s h) (λ d. other_after (refuse_if (nat_lt (max_size_of g) size) refusal.TooBig) _ (other_test _ refusal.TooBig (λ k. cc)) (λ _. ok_other _))

there_other : (g : Request) (s : State) (flags : OpenFlags) (n : ℕ) → IsOther (open_there g s flags n)
there_other g s flags n =
    other_after (refuse_if flags.exclusive refusal.Exists) _ (other_test _ refusal.Exists (λ h. cc)) (λ _.
    other_after (refuse_if (is_directory s.tree n) refusal.IsDir) _ (other_test _ refusal.IsDir (λ h. cc)) (λ _.
    other_after (refuse_if (is_full s.descriptors) refusal.TooManyOpen) _ (other_test _ refusal.TooManyOpen (λ h. cc)) (λ _. ok_other _)))

-- the walk leads to what is there
spot_is : (g : Request) (s : State) (path : List ℕ) (flags : OpenFlags) (spot : Spot) (found : Found) → spot_of g s.tree path ≡ Ok spot → at_spot s.tree spot ≡ Some found
    → (spot_of g s.tree path >>= λ x. open_spot g s flags x (at_spot s.tree x)) ≡ open_there g s flags found.number
spot_is g s path flags spot found at there = ap (λ (r : Result Spot Refusal). r >>= λ x. open_spot g s flags x (at_spot s.tree x)) at ∙ ap (open_spot g s flags spot) there

open_other : (g : Request) (s : State) (path : List ℕ) (flags : OpenFlags) (spot : Spot) (found : Found) → spot_of g s.tree path ≡ Ok spot → at_spot s.tree spot ≡ Some found → IsOther (plan_open g s path flags)
unfolding plan_open
open_other g s path flags spot found at there =
    other_after (refuse_if (are_bad_flags flags) refusal.Invalid) _ (other_test _ refusal.Invalid (λ h. cc)) (λ _.
    subst (λ r. IsOther r) (sym (spot_is g s path flags spot found at there)) (there_other g s flags found.number))

freeing_other : (g : Request) (s : State) (c : Asked) → OnlyFrees g s c → IsOther (plan g s c)
freeing_other g s (open_file path flags) frees = open_other g s path flags frees.0 frees.1 frees.2 frees.3
freeing_other g s (truncate h size) frees = truncate_other g s h size
freeing_other g s (unlink path) frees = unlink_other g s path
freeing_other g s (remove_dir path) frees = remove_dir_other g s path
freeing_other g s (close h) frees = absurd frees
freeing_other g s (read h count) frees = absurd frees
freeing_other g s (write h new) frees = absurd frees
freeing_other g s (fill h count byte) frees = absurd frees
freeing_other g s (seek h to) frees = absurd frees
freeing_other g s (fsync h) frees = absurd frees
freeing_other g s (link path to) frees = absurd frees
freeing_other g s (rename path to) frees = absurd frees
freeing_other g s (make_dir path) frees = absurd frees
freeing_other g s (open_dir path) frees = absurd frees
freeing_other g s (read_dir h) frees = absurd frees
freeing_other g s (rewind h) frees = absurd frees
freeing_other g s (stat path) frees = absurd frees
freeing_other g s (fstat h) frees = absurd frees
freeing_other g s space frees = absurd frees
freeing_other g s mask frees = absurd frees
freeing_other g s (set_mask events) frees = absurd frees
freeing_other g s transact frees = absurd frees

-- ---- their changes

-- nothing is reserved, and one chain is touched
record IsFreeing (g : Request) (e : Edit) : Type 0 where
  nothing : e.reserve ≡ 0
  one_chain : IsOneChain g e

abbrev FreesBy : Request → Option Edit → Type 0
FreesBy g None = Unit {0}
FreesBy g (Some e) = IsFreeing g e

abbrev FreesByPlan : Request → Plan → Type 0
FreesByPlan g p = FreesBy g p.edit

-- a name of what has no names in it
unlink_at_frees : (g : Request) (s : State) (path : List ℕ) (spot : Spot) (found : Found) → IsGeometry g → HasTrees g s → spot_of g s.tree path ≡ Ok spot → at_spot s.tree spot ≡ Some found
    → (is_directory s.tree found.number ≡ true → is_empty (slots_at s.tree found.number) ≡ true) → FreesByPlan g (unlink_at g s spot found)
unlink_at_frees g s path top found is has at there empty = tt
unlink_at_frees g s path (within d name) found is has at there empty =
    let f = is_found name (slots_at s.tree d) found there in
    let kind = in_directory g s.tree path d name at in
    let here = found_there g s.tree (within d name) found has.tree there in
    let leaf = is_leaf g s.tree found.number here empty in
    record {
      nothing = by_links (has_one_link g s.tree found.number);
      one_chain = unnamed_chain g s.tree d found f.entry (has_one_link g s.tree found.number) (some_slots g is) kind (directory_rules g s.tree d (base_of g s.tree has.tree) kind) f.there
          (slot_inside (slots_at s.tree d) found.slot f.entry f.there) (λ same. none_some f.entry (sym (leaf found.slot) ∙ ap (λ y. slot_at s.tree y found.slot) same ∙ f.there));
    }
  where
    by_links : (last : Bool) → (unnamed g s.tree d found last).reserve ≡ 0
    by_links true = refl
    by_links false = refl

unlink_frees : (g : Request) (s : State) (path : List ℕ) → IsGeometry g → HasTrees g s → Gives (FreesByPlan g) (plan_unlink g s path)
unfolding plan_unlink
unlink_frees g s path is has =
    gives_after _ (spot_of g s.tree path) _ (λ spot at.
    gives_after _ (or_refuse (at_spot s.tree spot) refusal.NoEntry) _ (λ found there.
    gives_after _ (refuse_if (is_directory s.tree found.number) refusal.IsDir) _ (λ u kind.
    gives_each _ (refuse_if (is_busy g s found.number) refusal.Busy) _ (λ _.
    gives_ok _ _ (unlink_at_frees g s path spot found is has at (is_some_of (at_spot s.tree spot) refusal.NoEntry found there) (λ yes. absurd (false≢true (sym (passes _ _ u kind) ∙ yes))))))))

remove_dir_frees : (g : Request) (s : State) (path : List ℕ) → IsGeometry g → HasTrees g s → Gives (FreesByPlan g) (plan_remove_dir g s path)
unfolding plan_remove_dir
remove_dir_frees g s path is has =
    gives_after _ (names_of g.name_max path) _ (λ names named.
    gives_each _ (refuse_if (is_top path) refusal.Busy) _ (λ _.
    gives_after _ (walk s.tree names) _ (λ spot at.
    gives_after _ (or_refuse (at_spot s.tree spot) refusal.NoEntry) _ (λ found there.
    gives_each _ (refuse_if (not (is_directory s.tree found.number)) refusal.NotDir) _ (λ _.
    gives_after _ (refuse_if (not (is_empty (slots_at s.tree found.number))) refusal.NotEmpty) _ (λ u empty.
    gives_each _ (refuse_if (is_open s.descriptors found.number) refusal.Busy) _ (λ _.
    gives_ok _ _ (unlink_at_frees g s path spot found is has (after_names g s.tree path names spot named at) (is_some_of (at_spot s.tree spot) refusal.NoEntry found there)
    (λ _. not_false (is_empty (slots_at s.tree found.number)) (passes _ _ u empty))))))))))

truncate_frees : (g : Request) (s : State) (h size : ℕ) → IsGeometry g → OnlyFrees g s (truncate h size) → Gives (FreesByPlan g) (plan_truncate g s h size)
unfolding plan_truncate
truncate_frees g s h size is shorter =
    gives_after _ (writable_at s h) _ (λ d at.
    gives_each _ (refuse_if (nat_lt (max_size_of g) size) refusal.TooBig) _ (λ _.
    gives_ok _ _ (record {
      nothing = ap (λ b. cond b 0 3) (le-leb size (length (content_of (node_at s.tree d.number))) (shorter d (writable_place s h d at).0));
      one_chain = cut_chain g s.tree d.number size (some_bytes g is);
    })))

there_frees : (g : Request) (s : State) (flags : OpenFlags) (n : ℕ) → Gives (FreesByPlan g) (open_there g s flags n)
there_frees g s flags n =
    gives_each _ (refuse_if flags.exclusive refusal.Exists) _ (λ _.
    gives_each _ (refuse_if (is_directory s.tree n) refusal.IsDir) _ (λ _.
    gives_each _ (refuse_if (is_full s.descriptors) refusal.TooManyOpen) _ (λ _.
    gives_ok _ _ (by_flag flags.truncate))))
  where
    by_flag : (cuts : Bool) → FreesByPlan g (open_plan cuts g s flags n)
    by_flag true = record { nothing = refl; one_chain = emptied_chain g s.tree n }
    by_flag false = tt

open_frees : (g : Request) (s : State) (path : List ℕ) (flags : OpenFlags) (spot : Spot) (found : Found) → spot_of g s.tree path ≡ Ok spot → at_spot s.tree spot ≡ Some found → Gives (FreesByPlan g) (plan_open g s path flags)
unfolding plan_open
open_frees g s path flags spot found at there =
    gives_each _ (refuse_if (are_bad_flags flags) refusal.Invalid) _ (λ _.
    subst (λ r. Gives (FreesByPlan g) r) (sym (spot_is g s path flags spot found at there)) (there_frees g s flags found.number))

each_frees : (g : Request) (s : State) (c : Asked) → IsGeometry g → HasTrees g s → OnlyFrees g s c → Gives (FreesByPlan g) (plan g s c)
each_frees g s (open_file path flags) is has frees = open_frees g s path flags frees.0 frees.1 frees.2 frees.3
each_frees g s (truncate h size) is has frees = truncate_frees g s h size is frees
each_frees g s (unlink path) is has frees = unlink_frees g s path is has
each_frees g s (remove_dir path) is has frees = remove_dir_frees g s path is has
each_frees g s (close h) is has frees = absurd frees
each_frees g s (read h count) is has frees = absurd frees
each_frees g s (write h new) is has frees = absurd frees
each_frees g s (fill h count byte) is has frees = absurd frees
each_frees g s (seek h to) is has frees = absurd frees
each_frees g s (fsync h) is has frees = absurd frees
each_frees g s (link path to) is has frees = absurd frees
each_frees g s (rename path to) is has frees = absurd frees
each_frees g s (make_dir path) is has frees = absurd frees
each_frees g s (open_dir path) is has frees = absurd frees
each_frees g s (read_dir h) is has frees = absurd frees
each_frees g s (rewind h) is has frees = absurd frees
each_frees g s (stat path) is has frees = absurd frees
each_frees g s (fstat h) is has frees = absurd frees
each_frees g s space is has frees = absurd frees
each_frees g s mask is has frees = absurd frees
each_frees g s (set_mask events) is has frees = absurd frees
each_frees g s transact is has frees = absurd frees

freeing : (g : Request) (s : State) (c : Asked) (p : Plan) (e : Edit) → IsGeometry g → HasTrees g s → OnlyFrees g s c → plan g s c ≡ Ok p → p.edit ≡ Some e → IsFreeing g e
freeing g s c p e is has frees was has_edit = subst (FreesBy g) has_edit ((each_frees g s c is has frees).holds p was)

-- ---- few positions

-- a change of such a command makes at most three positions dirty
pub freeing_dirty : (g : Request) (s : State) (c : Asked) (p : Plan) (e : Edit) → IsGeometry g → HasTrees g s → OnlyFrees g s c → plan g s c ≡ Ok p → p.edit ≡ Some e → count_of (dirty_of g s e ++ s.dirty) ≤ count_of s.dirty + 3
freeing_dirty g s c p e is has frees was has_edit = few_dirty g s e (freeing g s c p e is has frees was has_edit).one_chain

-- ---- never refused for want of room

-- after a point there is room
fits_then : (g : Request) (s : State) (e : Edit) → IsFreeing g e → LeavesRoom g s.tree → fits g (point_taken s) e ≡ true
fits_then g s e f room =
    let few = few_dirty g (point_taken s) e f.one_chain in
    let none = f.nothing in
    let empty : count_of [] ≡ 0 = refl in
    le-leb (in_use g s.tree (dirty_of g (point_taken s) e ++ []) + e.reserve) (allocable_of g) (omega arith)

-- where there is none now, a point frees blocks
gains : (g : Request) (s : State) (e : Edit) → IsFreeing g e → LeavesRoom g s.tree → event.has_event s.mask event.full ≡ true → fits g s e ≡ false → gains_by_point g s ≡ false → ⊥
gains g s e f room full tight stays =
    let few = few_dirty g s e f.one_chain in
    let none = f.nothing in
    let over = leb-false (in_use g s.committed (dirty_of g s e ++ s.dirty) + e.reserve) (allocable_of g) tight in
    ⊎_elim
    (λ off. false≢true (sym off ∙ full))
    (λ less. absurd (let more = ltb-false (count_of (tree_positions g s.tree)) (in_use g s.committed s.dirty) less in omega arith))
    (and_cases (event.has_event s.mask event.full) (nat_lt (count_of (tree_positions g s.tree)) (in_use g s.committed s.dirty)) stays)

ended_other : (point : Bool) (z : State) (reply : Reply) (points : List Tree) → (ended point z reply points).answer ≡ Err NoSpace → ⊥
ended_other true z reply points h = cc
ended_other false z reply points h = cc

err_is : (e : Refusal) (r : Result Reply Refusal) → r ≡ Err e → r ≡ Err NoSpace → e ≡ NoSpace
err_is e r one two = cc

pub freeing_has_room : (g : Request) (s : State) (c : Asked) → IsGeometry g → HasTrees g s → LeavesRoom g s.tree → event.has_event s.mask event.full ≡ true → OnlyFrees g s c → (step g s c).answer ≡ Err NoSpace → ⊥
unfolding step
freeing_has_room g s c is has room full frees = each_outcome g s (plan g s c) (λ (o : Outcome). o.answer ≡ Err NoSpace → ⊥) (record {
  by_plan = λ e was h. (freeing_other g s c frees).never (was ∙ ap Err (err_is e (Err e) refl h));
  without_edit = λ p was no_edit h. ended_other p.point (planned g s p) p.reply [] h;
  fitting = λ p e was has_edit fit h. ended_other p.point (planned g s p) p.reply [] h;
  full = λ p e was has_edit tight stays h. gains g s e (freeing g s c p e is has frees was has_edit) room full tight stays;
  fitting_then = λ p e was has_edit tight gain fit h. ended_other p.point (planned g (point_taken s) p) p.reply (s.tree ∷ []) h;
  full_then = λ p e was has_edit tight gain still h. false≢true (sym still ∙ fits_then g s e (freeing g s c p e is has frees was has_edit) room);
})
