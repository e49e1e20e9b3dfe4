-- The places of a pointer node cut one by one.
use Rattle.std.proofs.Common.{◌≡◌, ◌≢◌, ℕ, ◌+◌, ◌<◌, ◌≤◌, ◌&&◌, Bool, true, false, cond, leb, ltb, List, length, None, refl, sym, ap, ◌∙◌, arith, inl, inr}
use Rattle.std.specs.Prelude.{slice_index, slice_set}
use Rattle.std.proofs.lemmas.Bool.{cases_eq, eq-eqb, le-ltb}
use Rattle.std.proofs.lemmas.Bool.Decides.{nat_tests}
use Rattle.std.proofs.lemmas.List.{get_or-set_same, get_or-set_other}
use Rattle.edge_base.specs.declared.form.Form.{Form}
use Rattle.edge_base.specs.declared.form.Form.TheVariants.{Plain}
use Rattle.edge_base.specs.declared.geometry.Request.{Request}
use Rattle.edge_base.specs.layout.Places.{pointers_of}
use Rattle.edge_store.specs.Effects.{PointerSet}
use Rattle.edge_store.specs.Damages.{form_under}
use Rattle.edge_store.specs.View.{View, content, entries_in, is_owned_by, IsView}
use Rattle.edge_store.proofs.ViewLaws.{with_block_apart}
use Rattle.edge_moves.proofs.FactLaws.{full_node}
use Rattle.edge_shape.specs.Shape.{entries_at}
use Rattle.edge_shape.specs.Trees.{in_tree, IsSoundNode, IsSoundTree}
use Rattle.edge_shape.specs.Cutting.{CutPlaces}
use Rattle.edge_cut.specs.Dropped.{without}
use Rattle.edge_cut.proofs.DropLaws.{below_shallow}
use Rattle.edge_cut.proofs.SameLaws.{SameTree, in_tree-same}

module _ (g : Request) (v now : View) (form : Form) (owner b from k : ℕ) (so_far : CutPlaces v now form owner b from k) (view : IsView g now) (node : form ≢ Plain) (lower : from ≤ k) (low : k < pointers_of g)
    (sound : IsSoundNode g v form owner (IsSoundTree g v (form_under form) owner) b) where
  abbrev es : List ℕ
  es = entries_at v form b

  -- the pointer at hand is as it was
  pub read_here : slice_index (entries_at now form b) k ≡ slice_index es k
  read_here = so_far.pointer k ∙ ap (λ t. cond (leb from k && t) 0 (slice_index es k)) (le-ltb k k (omega arith)) ∙ ap (λ t. cond t 0 (slice_index es k)) (and_false (leb from k))
    where
      and_false : (t : Bool) → (t && false) ≡ false
      and_false true = refl
      and_false false = refl

  -- its tree too
  pub tree_here : slice_index es k ≢ 0 → SameTree v now (form_under form) (slice_index es k)
  tree_here there x some under = so_far.kept x (λ (e : x ≡ b). absurd (false_true (sym (sound.list.itself k low) ∙ ap (in_tree v (form_under form) (slice_index es k)) (sym e) ∙ under)))
      (λ j from_j before there_j. sound.list.apart j k before low there x some under)
    where
      false_true : false ≡ true → ⊥
      false_true e = cc

  in_range : (j : ℕ) → j ≢ k → (leb from j && ltb j (k + 1)) ≡ (leb from j && ltb j k)
  in_range j away = ap (λ t. leb from j && t) (by j away)
    where
      by : (j : ℕ) → j ≢ k → ltb j (k + 1) ≡ ltb j k
      by j away = grind (arith, nat_tests)

  within : (leb from k && ltb k (k + 1)) ≡ true
  within = grind (arith, nat_tests)

  -- a place without pointer
  pub place_absent : slice_index es k ≡ 0 → CutPlaces v now form owner b from (k + 1)
  place_absent absent = record {
    inodes = so_far.inodes;
    spot = so_far.spot;
    pointer = λ j. elim (cases_eq j k) [
      | inl e ↦ ap (slice_index (entries_at now form b)) e ∙ read_here ∙ absent ∙ sym (ap (λ t. cond t 0 (slice_index es j)) (ap (λ (m : ℕ). leb from m && ltb m (k + 1)) e ∙ within))
      | inr away ↦ so_far.pointer j ∙ ap (λ t. cond t 0 (slice_index es j)) (sym (in_range j away))
    ];
    dropped = λ j x from_j below_j there under. elim (cases_eq j k) [
      | inl e ↦ absurd (there (ap (slice_index es) e ∙ absent))
      | inr away ↦ so_far.dropped j x from_j (omega arith) there under
    ];
    kept = λ x apart none. so_far.kept x apart (λ j from_j before there. none j from_j (omega arith) there);
  }

  -- the tree at hand is dropped, and the pointer to it set to 0
  module _ (mid after : View) (there : slice_index es k ≢ 0) (dropped : mid ≡ without now (in_tree now (form_under form) (slice_index es k)))
      (set : PointerSet mid after form owner b k 0) where
    abbrev e : ℕ
    e = slice_index es k

    not_b : in_tree v (form_under form) e b ≡ false
    not_b = sound.list.itself k low

    same_tree : (x : ℕ) → in_tree now (form_under form) e x ≡ in_tree v (form_under form) e x
    same_tree x = in_tree-same v now (form_under form) e x (below_shallow form) there (tree_here there)

    mid_at : (x : ℕ) → mid.blocks x ≡ cond (in_tree v (form_under form) e x) None (now.blocks x)
    mid_at x = ap (λ (u : View). u.blocks x) dropped ∙ ap (λ t. cond t None (now.blocks x)) (same_tree x)

    mid_b : mid.blocks b ≡ now.blocks b
    mid_b = mid_at b ∙ ap (λ t. cond t None (now.blocks b)) not_b

    after_other : (x : ℕ) → x ≢ b → after.blocks x ≡ mid.blocks x
    after_other x away = ap (λ (u : View). u.blocks x) set.working ∙ with_block_apart mid b (after.blocks b) x away

    entries_after : entries_at after form b ≡ slice_set (entries_at now form b) k 0
    entries_after = ap entries_in set.content ∙ ap (λ o. slice_set (entries_in (content form o)) k 0) mid_b

    long : k < length (entries_at now form b)
    long = let all = full_node g now form owner b node view so_far.spot in omega arith

    pub place_cut : CutPlaces v after form owner b from (k + 1)
    place_cut = record {
      inodes = ap (λ (u : View). u.inodes) set.working ∙ ap (λ (u : View). u.inodes) dropped ∙ so_far.inodes;
      spot = ap (is_owned_by owner) set.content ∙ eq-eqb owner owner refl;
      pointer = λ j. elim (cases_eq j k) [
        | inl is ↦ ap (λ xs. slice_index xs j) entries_after ∙ ap (slice_index (slice_set (entries_at now form b) k 0)) is ∙ get_or-set_same (entries_at now form b) k 0 0 long ∙ sym (ap (λ t. cond t 0 (slice_index es j)) (ap (λ (m : ℕ). leb from m && ltb m (k + 1)) is ∙ within))
        | inr away ↦ ap (λ xs. slice_index xs j) entries_after ∙ get_or-set_other (entries_at now form b) k j 0 0 away ∙ so_far.pointer j ∙ ap (λ t. cond t 0 (slice_index es j)) (sym (in_range j away))
      ];
      dropped = λ j x from_j below_j there_j under. elim (cases_eq j k) [
        | inl is ↦
            let here = ap (λ (m : ℕ). in_tree v (form_under form) (slice_index es m) x) (sym is) ∙ under in
            after_other x (not_here k low x here) ∙ mid_at x ∙ ap (λ t. cond t None (now.blocks x)) here
        | inr away ↦ after_other x (not_here j (omega arith) x under) ∙ mid_at x ∙ gone (in_tree v (form_under form) e x) x (so_far.dropped j x from_j (omega arith) there_j under)
      ];
      kept = λ x apart none. after_other x apart ∙ mid_at x ∙ ap (λ t. cond t None (now.blocks x)) (none k lower (omega arith) there) ∙ so_far.kept x apart (λ j from_j before there_j. none j from_j (omega arith) there_j);
    }
      where
        false_true : false ≡ true → ⊥
        false_true e = cc

        not_here : (j : ℕ) → j < pointers_of g → (x : ℕ) → in_tree v (form_under form) (slice_index es j) x ≡ true → x ≢ b
        not_here j low_j x under is = false_true (sym (sound.list.itself j low_j) ∙ ap (in_tree v (form_under form) (slice_index es j)) (sym is) ∙ under)

        gone : (t : Bool) (x : ℕ) → now.blocks x ≡ None → cond t None (now.blocks x) ≡ None
        gone true x h = refl
        gone false x h = h
