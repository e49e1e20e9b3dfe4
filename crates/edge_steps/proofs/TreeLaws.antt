-- Each step leads to a state whose two trees are trees, and so does each run.
use Rattle.std.proofs.Common.{◌≡◌, ℕ, zero, suc, ◌<◌, Bool, true, false, cond, nat_lt, replicate, List, [], ◌∷◌, ◌++◌, Option, Some, None, Ok, refl, sym, ap, ◌∙◌, subst}
use Rattle.std.specs.List.{All, fold}
use Rattle.std.proofs.lemmas.List.Elements.{All-nil, All-cons, All-append, All-replicate, All-head, All-tail}
use Rattle.edge_base.specs.declared.geometry.Request.{Request}
use Rattle.edge_base.specs.layout.Places.{IsGeometry}
use Rattle.edge_base.specs.declared.refusal.Refusal.TheVariants as refusal
use Rattle.edge_base.specs.commands.Refusals.{refuse_if}
use Rattle.edge_base.specs.commands.Events.{greatest_mask}
use Rattle.edge_base.specs.commands.Descriptors.{Descriptor, descriptor_at, most_open}
use Rattle.edge_model.specs.Asked.{Asked, open_file, close, read, write, fill, seek, truncate, fsync, link, unlink, rename, make_dir, remove_dir, open_dir, read_dir, rewind, stat, fstat, space, mask, set_mask, transact, Reply}
use Rattle.edge_model.specs.Tree.{Tree}
use Rattle.edge_model.specs.Rules.{IsTree}
use Rattle.edge_model.specs.Walk.{at_spot, spot_of, found_number}
use Rattle.edge_model.specs.Open.{open_at}
use Rattle.edge_model.specs.State.{State, Plan, Edit, first_state, point_taken, closes_with_point, planned, edited, ended}
use Rattle.edge_model.specs.Run.{Run, run_of, opening, next_line, closed}
use Rattle.edge_model.specs.Step.{plan, step, plan_stat, plan_fstat, plan_set_mask}
use Rattle.edge_model.proofs.Plans.{Gives, gives_ok, gives_each}
use Rattle.edge_model.proofs.Outcomes.{each_state, each_outcome}
use Rattle.edge_model.specs.Bytes.{IsOfBytes, IsLineOfBytes}
use Rattle.edge_steps.specs.Rules.{HasTrees}
use Rattle.edge_steps.proofs.SlotLaws.{none_some}
use Rattle.edge_steps.proofs.OpenLaws.{AreFor}
use Rattle.edge_steps.proofs.PlanLaws.{IsSound, tree_then, open_sound, close_sound, read_sound, write_sound, seek_sound, truncate_sound, fsync_sound, open_dir_sound, read_dir_sound, rewind_sound}
use Rattle.edge_steps.proofs.NameLaws.{make_dir_sound, link_sound, unlink_sound, remove_dir_sound}
use Rattle.edge_steps.proofs.RenamePlans.{rename_sound}

-- ---- plans

stat_sound : (g : Request) (s : State) (path : List ℕ) → HasTrees g s → Gives (IsSound g s) (plan_stat g s path)
unfolding plan_stat
stat_sound g s path has =
    gives_each _ (spot_of g s.tree path) _ (λ spot.
    gives_each _ (found_number (at_spot s.tree spot)) _ (λ n.
    gives_ok _ _ (record { tree = has.tree; table = has.descriptors })))

fstat_sound : (g : Request) (s : State) (h : ℕ) → HasTrees g s → Gives (IsSound g s) (plan_fstat g s h)
unfolding plan_fstat
fstat_sound g s h has = gives_each _ (open_at s h) _ (λ d. gives_ok _ _ (record { tree = has.tree; table = has.descriptors }))

set_mask_sound : (g : Request) (s : State) (events : ℕ) → HasTrees g s → Gives (IsSound g s) (plan_set_mask s events)
unfolding plan_set_mask
set_mask_sound g s events has = gives_each _ (refuse_if (nat_lt greatest_mask events) refusal.Invalid) _ (λ _. gives_ok _ _ (record { tree = has.tree; table = has.descriptors }))

pub each_sound : (g : Request) (s : State) (c : Asked) → IsGeometry g → HasTrees g s → IsOfBytes c → Gives (IsSound g s) (plan g s c)
each_sound g s (open_file path flags) is has bytes = open_sound g s path flags is has bytes
each_sound g s (close h) is has bytes = close_sound g s h has
each_sound g s (read h count) is has bytes = read_sound g s h count has
each_sound g s (write h new) is has bytes = write_sound g s h new is has bytes
each_sound g s (fill h count byte) is has bytes = write_sound g s h (replicate count byte) is has (All-replicate (λ b. b < 256) count byte bytes)
each_sound g s (seek h to) is has bytes = seek_sound g s h to has
each_sound g s (truncate h size) is has bytes = truncate_sound g s h size is has
each_sound g s (fsync h) is has bytes = fsync_sound g s h has
each_sound g s (link path to) is has bytes = link_sound g s path to has bytes.1
each_sound g s (unlink path) is has bytes = unlink_sound g s path has
each_sound g s (rename path to) is has bytes = rename_sound g s path to is has bytes.1
each_sound g s (make_dir path) is has bytes = make_dir_sound g s path has bytes
each_sound g s (remove_dir path) is has bytes = remove_dir_sound g s path has
each_sound g s (open_dir path) is has bytes = open_dir_sound g s path has
each_sound g s (read_dir h) is has bytes = read_dir_sound g s h has
each_sound g s (rewind h) is has bytes = rewind_sound g s h has
each_sound g s (stat path) is has bytes = stat_sound g s path has
each_sound g s (fstat h) is has bytes = fstat_sound g s h has
each_sound g s space is has bytes = gives_ok _ _ (record { tree = has.tree; table = has.descriptors })
each_sound g s mask is has bytes = gives_ok _ _ (record { tree = has.tree; table = has.descriptors })
each_sound g s (set_mask events) is has bytes = set_mask_sound g s events has
each_sound g s transact is has bytes = gives_ok _ _ (record { tree = has.tree; table = has.descriptors })

-- ---- steps

pub edited_tree : (g : Request) (z : State) (edit : Option Edit) → (edited g z edit).tree ≡ tree_then z.tree edit
edited_tree g z None = refl
edited_tree g z (Some e) = refl

edited_committed : (g : Request) (z : State) (edit : Option Edit) → (edited g z edit).committed ≡ z.committed
edited_committed g z None = refl
edited_committed g z (Some e) = refl

-- where the point may have been taken before
planned_tree : (g : Request) (s z : State) (p : Plan) → z.tree ≡ s.tree → (planned g z p).tree ≡ tree_then s.tree p.edit
planned_tree g s z p same = edited_tree g z p.edit ∙ ap (λ t. tree_then t p.edit) same

pub point_trees : (g : Request) (s : State) → HasTrees g s → HasTrees g (point_taken s)
point_trees g s has = record { tree = has.tree; committed = has.tree; descriptors = has.descriptors }

planned_trees : (g : Request) (s z : State) (p : Plan) → IsSound g s p → z.tree ≡ s.tree → IsTree g z.committed → HasTrees g (planned g z p)
planned_trees g s z p sound same committed = record {
  tree = subst (IsTree g) (sym (planned_tree g s z p same)) sound.tree;
  committed = subst (IsTree g) (sym (edited_committed g z p.edit)) committed;
  descriptors = subst (λ t. AreFor t p.descriptors) (sym (planned_tree g s z p same)) sound.table;
}

pub step_trees : (g : Request) (s : State) (c : Asked) → IsGeometry g → IsOfBytes c → HasTrees g s → HasTrees g (step g s c).state
unfolding step
step_trees g s c is bytes has = each_state g s (plan g s c) (HasTrees g) (λ z k. point_trees g z k)
    (λ p was z same k. planned_trees g s z p ((each_sound g s c is has bytes).holds p was) same k.committed) has

-- ---- points

abbrev pub AreTrees : Request → List Tree → Type 0
AreTrees g trees = All (IsTree g) trees

one_more : (g : Request) (trees : List Tree) (t : Tree) → AreTrees g trees → IsTree g t → AreTrees g (trees ++ t ∷ [])
one_more g trees t all tree = All-append (IsTree g) trees (t ∷ []) all (All-cons (IsTree g) t [] tree (All-nil (IsTree g)))

ended_points : (g : Request) (point : Bool) (z : State) (reply : Reply) (points : List Tree) → IsTree g z.tree → AreTrees g points → AreTrees g (ended point z reply points).points
ended_points g true z reply points tree all = one_more g points z.tree all tree
ended_points g false z reply points tree all = all

pub step_points : (g : Request) (s : State) (c : Asked) → IsGeometry g → IsOfBytes c → HasTrees g s → All (IsTree g) (step g s c).points
unfolding step
step_points g s c is bytes has =
    let none = All-nil (IsTree g) in
    let one = All-cons (IsTree g) s.tree [] has.tree none in
    let then = λ (p : Plan) (was : plan g s c ≡ Ok p) (z : State) (same : z.tree ≡ s.tree). subst (IsTree g) (sym (planned_tree g s z p same)) ((each_sound g s c is has bytes).holds p was).tree in
    each_outcome g s (plan g s c) (λ o. AreTrees g o.points) (record {
      by_plan = λ e was. none;
      without_edit = λ p was no_edit. ended_points g p.point (planned g s p) p.reply [] (then p was s refl) none;
      fitting = λ p e was has_edit fit. ended_points g p.point (planned g s p) p.reply [] (then p was s refl) none;
      full = λ p e was has_edit tight gains_none. none;
      fitting_then = λ p e was has_edit tight gains fit. ended_points g p.point (planned g (point_taken s) p) p.reply (s.tree ∷ []) (then p was (point_taken s) refl) one;
      full_then = λ p e was has_edit tight gains still. one;
    })

-- ---- runs

none_open_at : (n h : ℕ) (d : Descriptor) → descriptor_at (replicate n None) h ≡ Some d → ⊥
none_open_at zero h d is = none_some d is
none_open_at (suc n) zero d is = none_some d is
none_open_at (suc n) (suc h) d is = none_open_at n h d is

pub first_trees : (g : Request) (t : Tree) → IsTree g t → HasTrees g (first_state t)
first_trees g t tree = record { tree = tree; committed = tree; descriptors = λ h d is. absurd (none_open_at most_open h d is) }

-- what lines have led to
pub record RunTrees (g : Request) (r : Run) : Type 0 where
  pub state : HasTrees g r.state
  pub trees : All (IsTree g) r.trees

line_trees : (g : Request) (r : Run) (line : Option Asked) → IsGeometry g → IsLineOfBytes line → RunTrees g r → RunTrees g (next_line g r line)
line_trees g r None is bytes h = record { state = h.state; trees = h.trees }
line_trees g r (Some c) is bytes h = record {
  state = step_trees g r.state c is bytes h.state;
  trees = All-append (IsTree g) r.trees (step g r.state c).points h.trees (step_points g r.state c is bytes h.state);
}

lines_trees : (g : Request) (r : Run) (lines : List (Option Asked)) → IsGeometry g → All IsLineOfBytes lines → RunTrees g r → RunTrees g (fold (next_line g) r lines)
lines_trees g r [] is bytes h = h
lines_trees g r (line ∷ lines) is bytes h = lines_trees g (next_line g r line) lines is (All-tail IsLineOfBytes line lines bytes) (line_trees g r line is (All-head IsLineOfBytes line lines bytes) h)

run_trees : (g : Request) (t : Tree) (lines : List (Option Asked)) → IsGeometry g → IsTree g t → All IsLineOfBytes lines → RunTrees g (run_of g t lines)
unfolding run_of
run_trees g t lines is tree bytes = lines_trees g (opening t) lines is bytes (record { state = first_trees g t tree; trees = All-cons (IsTree g) t [] tree (All-nil (IsTree g)) })

pub run_state : (g : Request) (t : Tree) (lines : List (Option Asked)) → IsGeometry g → All IsLineOfBytes lines → IsTree g t → HasTrees g (run_of g t lines).state
run_state g t lines is bytes tree = (run_trees g t lines is tree bytes).state

pub run_points : (g : Request) (t : Tree) (lines : List (Option Asked)) → IsGeometry g → All IsLineOfBytes lines → IsTree g t → All (IsTree g) (run_of g t lines).trees
run_points g t lines is bytes tree = (run_trees g t lines is tree bytes).trees

closing : (g : Request) (point : Bool) (s : State) (trees : List Tree) → HasTrees g s → AreTrees g trees → AreTrees g (trees ++ cond point (s.tree ∷ []) [])
closing g true s trees has all = one_more g trees s.tree all has.tree
closing g false s trees has all = All-append (IsTree g) trees [] all (All-nil (IsTree g))

pub closed_points : (g : Request) (t : Tree) (lines : List (Option Asked)) → IsGeometry g → All IsLineOfBytes lines → IsTree g t → All (IsTree g) (closed (run_of g t lines)).trees
closed_points g t lines is bytes tree = let r = run_trees g t lines is tree bytes in closing g (closes_with_point (run_of g t lines).state) (run_of g t lines).state (run_of g t lines).trees r.state r.trees
