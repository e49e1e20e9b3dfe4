-- Commands that change no tree.
use Rattle.std.proofs.Common.{◌≡◌, ℕ, Bool, true, false, List, [], ◌∷◌, ◌++◌, fold, Option, Some, None, Result, Ok, ◌⊎◌, inl, inr, refl, sym, ap, ◌∙◌, subst, append-nil, not}
use Rattle.std.specs.List.{list_all}
use Rattle.std.proofs.lemmas.Bool.{false≢true, and_parts}
use Rattle.edge_base.specs.declared.geometry.Request.{Request}
use Rattle.edge_base.specs.declared.refusal.Refusal.{Refusal}
use Rattle.edge_base.specs.declared.refusal.Refusal.TheVariants as refusal
use Rattle.edge_base.specs.commands.Refusals.{◌>>=◌, refuse_if}
use Rattle.edge_base.specs.commands.Descriptors.{Descriptor, is_full}
use Rattle.edge_model.specs.Asked.{Asked, open_file, close, read, write, fill, seek, truncate, fsync, link, unlink, rename, make_dir, remove_dir, open_dir, read_dir, rewind, stat, fstat, space, mask, set_mask, transact, Reply}
use Rattle.edge_model.specs.Tree.{Tree, is_directory}
use Rattle.edge_model.specs.State.{State, Edit, Plan, Outcome, keeps, edited, planned, ended, first_state}
use Rattle.edge_model.specs.Step.{step, plan, plan_stat, plan_fstat, plan_set_mask}
use Rattle.edge_model.specs.Walk.{spot_of, at_spot, found_number}
use Rattle.edge_model.specs.Open.{Filled, file_at, plan_close, plan_seek, plan_fsync, plan_open_dir, plan_read_dir, plan_rewind, read_dir_plan}
use Rattle.edge_model.specs.Files.{plan_read, read_plan}
use Rattle.edge_model.specs.Run.{Run, opening, next_line, run_of}
use Rattle.edge_model.specs.Laws.{reads_only, tells_only, line_tells_only, TakesNone, TakesOne}
use Rattle.edge_model.proofs.Outcomes.{each_outcome}
use Rattle.edge_model.proofs.Plans.{Gives, gives_each, gives_ok}

-- ---- plans

abbrev pub HasNoEdit : Plan → Type 0
HasNoEdit p = p.edit ≡ None

read_none : (s : State) (h : ℕ) (d : Descriptor) (content piece : List ℕ) → HasNoEdit (read_plan s h d content piece)
read_none s h d [] piece = refl
read_none s h d (byte ∷ rest) piece = refl

read_dir_none : (s : State) (h : ℕ) (d : Descriptor) (filled : Option Filled) → HasNoEdit (read_dir_plan s h d filled)
read_dir_none s h d None = refl
read_dir_none s h d (Some filled) = refl

each : {A : Type 0} (r : Result A Refusal) (f : A → Result Plan Refusal) → ((x : A) → Gives HasNoEdit (f x)) → Gives HasNoEdit (r >>= f)
each r f h = gives_each HasNoEdit r f h

none : (p : Plan) → HasNoEdit p → Gives HasNoEdit (Ok p)
none p h = gives_ok HasNoEdit p h

-- a command that only reads has no edit
pub no_edit : (g : Request) (s : State) (c : Asked) → reads_only c ≡ true → Gives HasNoEdit (plan g s c)
unfolding plan_close plan_read plan_seek plan_fsync plan_open_dir plan_read_dir plan_rewind plan_stat plan_fstat plan_set_mask
no_edit g s (close h) e = each _ _ (λ d. none _ refl)
no_edit g s (read h count) e = each (file_at s h) _ (λ d. each (refuse_if (not d.read) refusal.BadDescriptor) _ (λ _. none _ (read_none s h d _ _)))
no_edit g s (seek h to) e = each (file_at s h) _ (λ d. each (refuse_if _ refusal.Invalid) _ (λ _. none _ refl))
no_edit g s (fsync h) e = each _ _ (λ d. none _ refl)
no_edit g s (open_dir path) e = each (spot_of g s.tree path) _ (λ spot. each (found_number (at_spot s.tree spot)) _ (λ n. each (refuse_if (not (is_directory s.tree n)) refusal.NotDir) _ (λ _. each (refuse_if (is_full s.descriptors) refusal.TooManyOpen) _ (λ _. none _ refl))))
no_edit g s (read_dir h) e = each _ _ (λ d. none _ (read_dir_none s h d _))
no_edit g s (rewind h) e = each _ _ (λ d. none _ refl)
no_edit g s (stat path) e = each (spot_of g s.tree path) _ (λ spot. each (found_number (at_spot s.tree spot)) _ (λ n. none _ refl))
no_edit g s (fstat h) e = each _ _ (λ d. none _ refl)
no_edit g s space e = none _ refl
no_edit g s mask e = none _ refl
no_edit g s (set_mask events) e = each _ _ (λ _. none _ refl)
no_edit g s transact e = none _ refl
no_edit g s (open_file path flags) e = absurd (false≢true e)
no_edit g s (write h new) e = absurd (false≢true e)
no_edit g s (fill h count byte) e = absurd (false≢true e)
no_edit g s (truncate h size) e = absurd (false≢true e)
no_edit g s (link path to) e = absurd (false≢true e)
no_edit g s (unlink path) e = absurd (false≢true e)
no_edit g s (rename path to) e = absurd (false≢true e)
no_edit g s (make_dir path) e = absurd (false≢true e)
no_edit g s (remove_dir path) e = absurd (false≢true e)

-- ---- steps

abbrev Reads : State → Outcome → Type 0
Reads s o = (o.state.tree ≡ s.tree) × (TakesNone s o ⊎ TakesOne s o)

ended_reads : (g : Request) (s : State) (p : Plan) (o : Option Edit) → o ≡ None → (point : Bool)
    → Reads s (ended point (record (edited g s o) { descriptors = p.descriptors; mask = p.mask }) p.reply [])
ended_reads g s p o none point = subst (λ q. Reads s (ended point (record (edited g s q) { descriptors = p.descriptors; mask = p.mask }) p.reply [])) (sym none) (by_point point)
  where
    by_point : (point : Bool) → Reads s (ended point (record s { descriptors = p.descriptors; mask = p.mask }) p.reply [])
    by_point true = (refl, inr (refl, refl, refl))
    by_point false = (refl, inl (refl, refl, refl))

none_some : (e : Edit) (o : Option Edit) → o ≡ None → o ≡ Some e → ⊥
none_some e o none some = cc

-- the tree stays, and the rest but for a point
pub step_reads : (g : Request) (s : State) (c : Asked) → reads_only c ≡ true → ((step g s c).state.tree ≡ s.tree) × (TakesNone s (step g s c) ⊎ TakesOne s (step g s c))
unfolding step
step_reads g s c reads =
    let without = (no_edit g s c reads).holds in
    each_outcome g s (plan g s c) (Reads s) (record {
      by_plan = λ e was. (refl, inl (refl, refl, refl));
      without_edit = λ p was empty. ended_reads g s p p.edit empty p.point;
      fitting = λ p e was has fit. absurd (none_some e p.edit (without p was) has);
      full = λ p e was has tight gain. absurd (none_some e p.edit (without p was) has);
      fitting_then = λ p e was has tight gains fit. absurd (none_some e p.edit (without p was) has);
      full_then = λ p e was has tight gains still. absurd (none_some e p.edit (without p was) has);
    })

-- ---- steps that change nothing

abbrev Tells : State → Plan → Type 0
Tells s p = (reply : Reply) × (p ≡ keeps s reply)

told : (s : State) (reply : Reply) → Gives (Tells s) (Ok (keeps s reply))
told s reply = gives_ok (Tells s) (keeps s reply) (reply, refl)

tells : (g : Request) (s : State) (c : Asked) → tells_only c ≡ true → Gives (Tells s) (plan g s c)
unfolding plan_stat plan_fstat
tells g s (stat path) e = gives_each (Tells s) (spot_of g s.tree path) _ (λ spot. gives_each (Tells s) (found_number (at_spot s.tree spot)) _ (λ n. told s _))
tells g s (fstat h) e = gives_each (Tells s) _ _ (λ d. told s _)
tells g s space e = told s _
tells g s mask e = told s _
tells g s (close h) e = absurd (false≢true e)
tells g s (read h count) e = absurd (false≢true e)
tells g s (seek h to) e = absurd (false≢true e)
tells g s (fsync h) e = absurd (false≢true e)
tells g s (open_dir path) e = absurd (false≢true e)
tells g s (read_dir h) e = absurd (false≢true e)
tells g s (rewind h) e = absurd (false≢true e)
tells g s (set_mask events) e = absurd (false≢true e)
tells g s transact e = absurd (false≢true e)
tells g s (open_file path flags) e = absurd (false≢true e)
tells g s (write h new) e = absurd (false≢true e)
tells g s (fill h count byte) e = absurd (false≢true e)
tells g s (truncate h size) e = absurd (false≢true e)
tells g s (link path to) e = absurd (false≢true e)
tells g s (unlink path) e = absurd (false≢true e)
tells g s (rename path to) e = absurd (false≢true e)
tells g s (make_dir path) e = absurd (false≢true e)
tells g s (remove_dir path) e = absurd (false≢true e)

abbrev Unchanged : State → Outcome → Type 0
Unchanged s o = (o.state ≡ s) × (o.points ≡ [])

told_unchanged : (g : Request) (s : State) (p : Plan) → Tells s p → Unchanged s (ended p.point (planned g s p) p.reply [])
told_unchanged g s p t = subst (λ q. Unchanged s (ended q.point (planned g s q) q.reply [])) (sym t.1) (refl, refl)

told_no_edit : (s : State) (p : Plan) → Tells s p → p.edit ≡ None
told_no_edit s p t = ap (λ (q : Plan). q.edit) t.1

-- the state stays
pub step_tells : (g : Request) (s : State) (c : Asked) → tells_only c ≡ true → ((step g s c).state ≡ s) × ((step g s c).points ≡ [])
unfolding step
step_tells g s c only =
    let is_told = (tells g s c only).holds in
    each_outcome g s (plan g s c) (Unchanged s) (record {
      by_plan = λ e was. (refl, refl);
      without_edit = λ p was empty. told_unchanged g s p (is_told p was);
      fitting = λ p e was has fit. told_unchanged g s p (is_told p was);
      full = λ p e was has tight gain. (refl, refl);
      fitting_then = λ p e was has tight gains fit. absurd (none_some e p.edit (told_no_edit s p (is_told p was)) has);
      full_then = λ p e was has tight gains still. absurd (none_some e p.edit (told_no_edit s p (is_told p was)) has);
    })

-- ---- runs

line_tells : (g : Request) (r : Run) (line : Option Asked) → line_tells_only line ≡ true → ((next_line g r line).state ≡ r.state) × ((next_line g r line).trees ≡ r.trees)
line_tells g r None e = (refl, refl)
line_tells g r (Some c) e = let k = step_tells g r.state c e in (k.0, ap (λ points. r.trees ++ points) k.1 ∙ append-nil r.trees)

lines_tell : (g : Request) (r : Run) (lines : List (Option Asked)) → list_all line_tells_only lines ≡ true → ((fold (next_line g) r lines).state ≡ r.state) × ((fold (next_line g) r lines).trees ≡ r.trees)
lines_tell g r [] e = (refl, refl)
lines_tell g r (line ∷ lines) e =
    let both = and_parts (line_tells_only line) (list_all line_tells_only lines) e in
    let now = line_tells g r line both.0 in
    let later = lines_tell g (next_line g r line) lines both.1 in
    (later.0 ∙ now.0, later.1 ∙ now.1)

-- lines that spell no command, or one that changes nothing, leave the opening tree
pub run_tells : (g : Request) (t : Tree) (lines : List (Option Asked)) → list_all line_tells_only lines ≡ true → ((run_of g t lines).state ≡ first_state t) × ((run_of g t lines).trees ≡ t ∷ [])
unfolding run_of
run_tells g t lines e = lines_tell g (opening t) lines e
