-- What a rename plans, by what is moved where to.
use Rattle.std.proofs.Common.{◌≡◌, ◌∙◌, ℕ, ◌==◌, ◌&&◌, ◌||◌, not, Bool, true, false, cond, List, refl, sym, ap, subst, Option, Some, None}
use Rattle.std.specs.Prelude.{Result, Ok, Err}
use Rattle.std.proofs.lemmas.Bool.{or_parts, eqb-false}
use Rattle.edge_base.specs.commands.Descriptors.{Descriptors, is_open}
use Rattle.edge_base.specs.commands.Events as event
use Rattle.edge_base.specs.commands.Paths.{names_in, two_paths}
use Rattle.edge_base.specs.commands.Refusals.{◌>>=◌, refuse_if, or_refuse}
use Rattle.edge_base.specs.declared.geometry.Request.{Request}
use Rattle.edge_base.specs.declared.refusal.Refusal.{Refusal}
use Rattle.edge_base.specs.declared.refusal.Refusal.TheVariants as refusal
use Rattle.edge_model.specs.Asked.{done}
use Rattle.edge_model.specs.Named.{new_slot}
use Rattle.edge_model.specs.Names.{has_one_link, is_below, is_empty, plan_rename, rename_over, rename_same, rename_to}
use Rattle.edge_model.specs.Rules.{IsTree}
use Rattle.edge_model.specs.State.{State, Plan, changes}
use Rattle.edge_model.specs.Tree.{Tree, is_directory, slots_at}
use Rattle.edge_model.specs.Walk.{Spot, top, within, Found, at_spot, find_name, is_top, walk}
use Rattle.edge_model.proofs.Changes.{is_some_of, not_false, passes}
use Rattle.edge_model.proofs.Plans.{err_is_not_ok, ok_is}
use Rattle.edge_model.proofs.WalkLaws.{holder_is_directory}
use Rattle.edge_steps.proofs.SlotLaws.{none_some, some_same}
use Rattle.edge_steps.proofs.NameLaws.{other_false}
use Rattle.edge_steps.proofs.RenamePlans.{no_zero}
use Rattle.edge_steps.proofs.WalkLaws.{after_part, after_test, no_top}
use Rattle.edge_walk.specs.Ways.{goes_through}
use Rattle.edge_calls.specs.Renames.{Held, NameIn, Rename, held_at, held_of, name_at, name_for, paths_of, rename_in, rename_of, rename_onto, renamed_by, replaced_by}

-- ---- the plan

abbrev pub plan_for : Request → State → Option Rename → Plan
plan_for g s None = rename_same g s
plan_for g s (Some r) = changes s (renamed_by g s.tree r) event.rename done

module _ (g : Request) (s : State) where
  abbrev ds : Descriptors
  ds = s.descriptors

  module _ (df : ℕ) (from_name : List ℕ) (found : Found) (dt : ℕ) (target : List ℕ) where
    abbrev held : Held
    held = record { dir = df; slot = found.slot; number = found.number }

    abbrev name : NameIn
    name = record { dir = dt; name = target }

    over : (there : Found) → rename_over g s (within df from_name) found (within dt target) there
        ≡ ((replaced_by g s.tree ds found.number there.number >>= λ r. Ok (Some (let x : Rename = record { held = held; name = name; slot = there.slot; replaced = Some r } in x)))
        >>= λ r. Ok (plan_for g s r))
    over there = by (is_directory s.tree found.number && not (is_directory s.tree there.number)) (not (is_directory s.tree found.number) && is_directory s.tree there.number)
        (is_directory s.tree there.number && not (is_empty (slots_at s.tree there.number))) (has_one_link g s.tree there.number && is_open ds there.number)
      where
        move : Rename
        move = record { held = held; name = name; slot = there.slot; replaced = Some there.number }

        by : (a b c d : Bool)
            → (refuse_if a refusal.NotDir >>= λ _. refuse_if b refusal.IsDir >>= λ _. refuse_if c refusal.NotEmpty >>= λ _. refuse_if d refusal.Busy >>= λ _. Ok (plan_for g s (Some move)))
            ≡ (((refuse_if a refusal.NotDir >>= λ _. refuse_if b refusal.IsDir >>= λ _. refuse_if c refusal.NotEmpty >>= λ _. refuse_if d refusal.Busy >>= λ _. Ok there.number)
            >>= λ r. Ok (Some (let x : Rename = record { held = held; name = name; slot = there.slot; replaced = Some r } in x))) >>= λ r. Ok (plan_for g s r))
        by true b c d = refl
        by false true c d = refl
        by false false true d = refl
        by false false false true = refl
        by false false false false = refl

    onto : (there : Option Found) → rename_to g s (within df from_name) found (within dt target) there ≡ (rename_onto g s.tree ds held name there >>= λ r. Ok (plan_for g s r))
    onto None = by (new_slot g s.tree dt)
      where
        by : (r : Result ℕ Refusal)
            → (r >>= λ slot. Ok (plan_for g s (Some (let x : Rename = record { held = held; name = name; slot = slot; replaced = None } in x))))
            ≡ ((r >>= λ slot. Ok (Some (let x : Rename = record { held = held; name = name; slot = slot; replaced = None } in x))) >>= λ r. Ok (plan_for g s r))
        by (Ok slot) = refl
        by (Err e) = refl
    onto (Some there) = by (there.number == found.number)
      where
        by : (same : Bool)
            → cond same (Ok (rename_same g s)) (rename_over g s (within df from_name) found (within dt target) there)
            ≡ (cond same (Ok None) (replaced_by g s.tree ds found.number there.number >>= λ r. Ok (Some (let x : Rename = record { held = held; name = name; slot = there.slot; replaced = Some r } in x)))
            >>= λ r. Ok (plan_for g s r))
        by true = refl
        by false = over there

  module _ (path to : List ℕ) (tree : IsTree g s.tree) where
    never_top : (p : List ℕ) → is_top p ≡ false → walk s.tree (names_in p) ≡ Ok top → ⊥
    never_top p named at = no_zero g s.tree tree (holder_is_directory s.tree p top named at)

    -- from the walk of the second path on
    second : (df : ℕ) (from_name : List ℕ) (found : Found) → is_top to ≡ false
        → (walk s.tree (names_in to) >>= λ spot. refuse_if (is_directory s.tree found.number && is_below s.tree to found.number) refusal.Invalid
        >>= λ _. rename_to g s (within df from_name) found spot (at_spot s.tree spot))
        ≡ ((name_for s.tree (names_in to) found.number >>= λ n. rename_in g s.tree ds (record { dir = df; slot = found.slot; number = found.number }) n) >>= λ r. Ok (plan_for g s r))
    second df from_name found named = by (walk s.tree (names_in to)) refl
      where
        below : (dt : ℕ) (target : List ℕ) (b : Bool)
            → (refuse_if b refusal.Invalid >>= λ _. rename_to g s (within df from_name) found (within dt target) (find_name s.tree dt target))
            ≡ (((refuse_if b refusal.Invalid >>= λ _. name_at (within dt target))
            >>= λ n. rename_in g s.tree ds (record { dir = df; slot = found.slot; number = found.number }) n) >>= λ r. Ok (plan_for g s r))
        below dt target true = refl
        below dt target false = onto df from_name found dt target (find_name s.tree dt target)

        by : (r : Result Spot Refusal) → walk s.tree (names_in to) ≡ r
            → (r >>= λ spot. refuse_if (is_directory s.tree found.number && is_below s.tree to found.number) refusal.Invalid
            >>= λ _. rename_to g s (within df from_name) found spot (at_spot s.tree spot))
            ≡ (((r >>= λ spot. refuse_if (is_directory s.tree found.number && goes_through s.tree (names_in to) found.number) refusal.Invalid >>= λ _. name_at spot)
            >>= λ n. rename_in g s.tree ds (record { dir = df; slot = found.slot; number = found.number }) n) >>= λ r. Ok (plan_for g s r))
        by (Err e) is = refl
        by (Ok top) is = absurd (never_top to named is)
        by (Ok (within dt target)) is = below dt target (is_directory s.tree found.number && is_below s.tree to found.number)

    -- from that of the first
    first : is_top path ≡ false → is_top to ≡ false
        → (walk s.tree (names_in path) >>= λ from. or_refuse (at_spot s.tree from) refusal.NoEntry >>= λ found. walk s.tree (names_in to)
        >>= λ spot. refuse_if (is_directory s.tree found.number && is_below s.tree to found.number) refusal.Invalid >>= λ _. rename_to g s from found spot (at_spot s.tree spot))
        ≡ ((held_of s.tree (names_in path) >>= λ h. name_for s.tree (names_in to) h.number >>= λ n. rename_in g s.tree ds h n) >>= λ r. Ok (plan_for g s r))
    first named named_to = by (walk s.tree (names_in path)) refl
      where
        at : (df : ℕ) (from_name : List ℕ) (o : Option Found)
            → (or_refuse o refusal.NoEntry >>= λ found. walk s.tree (names_in to)
            >>= λ spot. refuse_if (is_directory s.tree found.number && is_below s.tree to found.number) refusal.Invalid
            >>= λ _. rename_to g s (within df from_name) found spot (at_spot s.tree spot))
            ≡ (((or_refuse o refusal.NoEntry >>= λ found. held_at (within df from_name) found) >>= λ h. name_for s.tree (names_in to) h.number
            >>= λ n. rename_in g s.tree ds h n) >>= λ r. Ok (plan_for g s r))
        at df from_name None = refl
        at df from_name (Some found) = second df from_name found named_to

        by : (r : Result Spot Refusal) → walk s.tree (names_in path) ≡ r
            → (r >>= λ from. or_refuse (at_spot s.tree from) refusal.NoEntry >>= λ found. walk s.tree (names_in to)
            >>= λ spot. refuse_if (is_directory s.tree found.number && is_below s.tree to found.number) refusal.Invalid
            >>= λ _. rename_to g s from found spot (at_spot s.tree spot))
            ≡ (((r >>= λ from. or_refuse (at_spot s.tree from) refusal.NoEntry >>= λ found. held_at from found) >>= λ h. name_for s.tree (names_in to) h.number
            >>= λ n. rename_in g s.tree ds h n) >>= λ r. Ok (plan_for g s r))
        by (Err e) is = refl
        by (Ok top) is = absurd (never_top path named is)
        by (Ok (within df from_name)) is = at df from_name (find_name s.tree df from_name)

    pub by_rename : plan_rename g s path to ≡ (rename_of g s.tree ds path to >>= λ r. Ok (plan_for g s r))
    unfolding plan_rename
    by_rename = by_paths (two_paths g.name_max path to)
      where
        walks : Result Plan Refusal
        walks = walk s.tree (names_in path) >>= λ from. or_refuse (at_spot s.tree from) refusal.NoEntry >>= λ found. walk s.tree (names_in to)
            >>= λ spot. refuse_if (is_directory s.tree found.number && is_below s.tree to found.number) refusal.Invalid >>= λ _. rename_to g s from found spot (at_spot s.tree spot)

        moves : Result (Option Rename) Refusal
        moves = held_of s.tree (names_in path) >>= λ h. name_for s.tree (names_in to) h.number >>= λ n. rename_in g s.tree ds h n

        by_top : (b : Bool) → (is_top path || is_top to) ≡ b
            → (refuse_if b refusal.Busy >>= λ _. walks) ≡ ((refuse_if b refusal.Busy >>= λ _. moves) >>= λ r. Ok (plan_for g s r))
        by_top true is = refl
        by_top false is = let both = or_parts (is_top path) (is_top to) is in first both.0 both.1

        by_paths : (r : Result (Unit {0}) Refusal)
            → (r >>= λ _. refuse_if (is_top path || is_top to) refusal.Busy >>= λ _. walks)
            ≡ (((r >>= λ _. refuse_if (is_top path || is_top to) refusal.Busy) >>= λ _. moves) >>= λ r. Ok (plan_for g s r))
        by_paths (Err e) = refl
        by_paths (Ok u) = by_top (is_top path || is_top to) refl

-- ---- what a move is, by the walks

-- what is at the new name: a slot for it, or another node than the one that is moved
abbrev pub IsPlacedAt : Request → Tree → Rename → Option ℕ → Type 0
IsPlacedAt g t r None = (find_name t r.name.dir r.name.name ≡ None) × (new_slot g t r.name.dir ≡ Ok r.slot)
IsPlacedAt g t r (Some n) = (find_name t r.name.dir r.name.name ≡ Some (record { slot = r.slot; number = n })) × (n ≡ r.held.number → ⊥)
    × (is_directory t n ≡ true → is_empty (slots_at t n) ≡ true)

pub record IsRenaming (g : Request) (t : Tree) (path to : List ℕ) (r : Rename) : Type 0 where
  pub old_name : List ℕ
  pub from : walk t (names_in path) ≡ Ok (within r.held.dir old_name)
  pub at : find_name t r.held.dir old_name ≡ Some (record { slot = r.held.slot; number = r.held.number })
  pub goes : walk t (names_in to) ≡ Ok (within r.name.dir r.name.name)
  pub outside : (is_directory t r.held.number && goes_through t (names_in to) r.held.number) ≡ false
  pub place : IsPlacedAt g t r r.replaced

module _ (g : Request) (t : Tree) (ds : Descriptors) where
  -- of what is moved
  was_held : (names : List (List ℕ)) (h : Held) → held_of t names ≡ Ok h
      → (old_name : List ℕ) × (walk t names ≡ Ok (within h.dir old_name)) × (find_name t h.dir old_name ≡ Some (record { slot = h.slot; number = h.number }))
  was_held names h is =
      let a = after_part (walk t names) (λ spot. or_refuse (at_spot t spot) refusal.NoEntry >>= λ found. held_at spot found) h is in
      let b = after_part (or_refuse (at_spot t a.0) refusal.NoEntry) (λ found. held_at a.0 found) h a.2 in
      by a.0 b.0 a.1 (is_some_of (at_spot t a.0) refusal.NoEntry b.0 b.1) b.2
    where
      by : (spot : Spot) (found : Found) → walk t names ≡ Ok spot → at_spot t spot ≡ Some found → held_at spot found ≡ Ok h
          → (old_name : List ℕ) × (walk t names ≡ Ok (within h.dir old_name)) × (find_name t h.dir old_name ≡ Some (record { slot = h.slot; number = h.number }))
      by top found at there e = absurd (err_is_not_ok refusal.Busy h (Err refusal.Busy) refl e)
      by (within d name) found at there e =
          let same = ok_is (let x : Held = record { dir = d; slot = found.slot; number = found.number } in x) h (held_at (within d name) found) refl e in (
            name,
            at ∙ ap (λ (x : Held). Ok (within x.dir name)) same,
            ap (λ (x : Held). find_name t x.dir name) (sym same) ∙ there ∙ ap (λ (x : Held). Some (let y : Found = record { slot = x.slot; number = x.number } in y)) same,
          )

  -- of the name that it is to have
  was_wanted : (names : List (List ℕ)) (n : ℕ) (name : NameIn) → name_for t names n ≡ Ok name
      → (walk t names ≡ Ok (within name.dir name.name)) × ((is_directory t n && goes_through t names n) ≡ false)
  was_wanted names n name is =
      let a = after_part (walk t names) (λ spot. refuse_if (is_directory t n && goes_through t names n) refusal.Invalid >>= λ _. name_at spot) name is in
      let b = after_test (is_directory t n && goes_through t names n) refusal.Invalid (name_at a.0) name a.2 in
      (by a.0 a.1 b.1, b.0)
    where
      by : (spot : Spot) → walk t names ≡ Ok spot → name_at spot ≡ Ok name → walk t names ≡ Ok (within name.dir name.name)
      by top at e = absurd (err_is_not_ok refusal.Busy name (Err refusal.Busy) refl e)
      by (within d x) at e =
          at ∙ ap (λ (y : NameIn). Ok (within y.dir y.name)) (ok_is (let y : NameIn = record { dir = d; name = x } in y) name (name_at (within d x)) refl e)

  -- of a node that is replaced
  was_replaced : (n r k : ℕ) → replaced_by g t ds n r ≡ Ok k → (r ≡ k) × (is_directory t r ≡ true → is_empty (slots_at t r) ≡ true)
  was_replaced n r k is =
      let a = after_test (is_directory t n && not (is_directory t r)) refusal.NotDir _ k is in
      let b = after_test (not (is_directory t n) && is_directory t r) refusal.IsDir _ k a.1 in
      let c = after_test (is_directory t r && not (is_empty (slots_at t r))) refusal.NotEmpty _ k b.1 in
      let d = after_test (has_one_link g t r && is_open ds r) refusal.Busy (Ok r) k c.1 in
      (ok_is r k (Ok r) refl d.1, λ kind. not_false (is_empty (slots_at t r)) (other_false (is_directory t r) (not (is_empty (slots_at t r))) c.0 kind))

  -- of what is there
  was_onto : (held : Held) (name : NameIn) (there : Option Found) → find_name t name.dir name.name ≡ there → (r : Rename) → rename_onto g t ds held name there ≡ Ok (Some r)
      → (held ≡ r.held) × (name ≡ r.name) × IsPlacedAt g t r r.replaced
  was_onto held name None there r is =
      let a = after_part (new_slot g t name.dir) (λ slot. Ok (Some (let x : Rename = record { held = held; name = name; slot = slot; replaced = None } in x))) (Some r) is in
      by a.0 a.1 r a.2
    where
      by : (slot : ℕ) → new_slot g t name.dir ≡ Ok slot → (r : Rename)
          → ◌≡◌ {A = Result (Option Rename) Refusal} (Ok (Some (let x : Rename = record { held = held; name = name; slot = slot; replaced = None } in x))) (Ok (Some r))
          → (held ≡ r.held) × (name ≡ r.name) × IsPlacedAt g t r r.replaced
      by slot room r e =
          let x : Rename = record { held = held; name = name; slot = slot; replaced = None } in
          subst (λ (y : Rename). (held ≡ y.held) × (name ≡ y.name) × IsPlacedAt g t y y.replaced) (some_same x r (ok_is (Some x) (Some r) (Ok (Some x)) refl e))
          (refl, refl, (there, room))
  was_onto held name (Some found) there r is = by (found.number == held.number) refl is
    where
      by : (same : Bool) → (found.number == held.number) ≡ same
          → cond same (Ok None) (replaced_by g t ds held.number found.number >>= λ k. Ok (Some (let x : Rename = record { held = held; name = name; slot = found.slot; replaced = Some k } in x)))
          ≡ Ok (Some r) → (held ≡ r.held) × (name ≡ r.name) × IsPlacedAt g t r r.replaced
      by true h e = absurd (none_some r (ok_is None (Some r) (Ok None) refl e))
      by false h e =
          let a = after_part (replaced_by g t ds held.number found.number)
          (λ k. Ok (Some (let x : Rename = record { held = held; name = name; slot = found.slot; replaced = Some k } in x))) (Some r) e in
          let b = was_replaced held.number found.number a.0 a.1 in
          let x : Rename = record { held = held; name = name; slot = found.slot; replaced = Some a.0 } in
          subst (λ (y : Rename). (held ≡ y.held) × (name ≡ y.name) × IsPlacedAt g t y y.replaced) (some_same x r (ok_is (Some x) (Some r) (Ok (Some x)) refl a.2)) (
            refl,
            refl,
            (
              there ∙ ap (λ (k : ℕ). Some (let y : Found = record { slot = found.slot; number = k } in y)) b.0,
              (λ same. eqb-false found.number held.number h (b.0 ∙ same)),
              subst (λ (k : ℕ). is_directory t k ≡ true → is_empty (slots_at t k) ≡ true) b.0 b.1,
            ),
          )

pub facts : (g : Request) (t : Tree) (ds : Descriptors) (path to : List ℕ) (r : Rename) → rename_of g t ds path to ≡ Ok (Some r) → IsRenaming g t path to r
facts g t ds path to r is =
    let a = after_part (paths_of g path to) (λ _. held_of t (names_in path) >>= λ h. name_for t (names_in to) h.number >>= λ n. rename_in g t ds h n) (Some r) is in
    let b = after_part (held_of t (names_in path)) (λ h. name_for t (names_in to) h.number >>= λ n. rename_in g t ds h n) (Some r) a.2 in
    let c = after_part (name_for t (names_in to) b.0.number) (λ n. rename_in g t ds b.0 n) (Some r) b.2 in
    let h = was_held g t ds (names_in path) b.0 b.1 in
    let w = was_wanted g t ds (names_in to) b.0.number c.0 c.1 in
    let d = was_onto g t ds b.0 c.0 (find_name t c.0.dir c.0.name) refl r c.2 in
    record {
      old_name = h.0;
      from = h.1 ∙ ap (λ (x : Held). Ok (within x.dir h.0)) d.0;
      at = ap (λ (x : Held). find_name t x.dir h.0) (sym d.0) ∙ h.2 ∙ ap (λ (x : Held). Some (let y : Found = record { slot = x.slot; number = x.number } in y)) d.0;
      goes = w.0 ∙ ap (λ (x : NameIn). Ok (within x.dir x.name)) d.1;
      outside = subst (λ (x : Held). (is_directory t x.number && goes_through t (names_in to) x.number) ≡ false) d.0 w.1;
      place = d.2;
    }
