-- What the steps of a cut come upon: ranges, pointer nodes made new, and sound trees.
use Rattle.std.proofs.Common.{◌≡◌, ◌≢◌, ℕ, ◌+◌, ◌-◌, ◌*◌, ◌<◌, ◌≤◌, ◌==◌, ◌&&◌, not, true, ltb, leb, List, refl, sym, ap, ◌∙◌, subst, arith, inl, inr}
use Rattle.std.specs.Prelude.{slice_index}
use Rattle.std.specs.List.{filter}
use Rattle.std.proofs.lemmas.Bool.{cases_lt, eq-eqb, and_from}
use Rattle.std.proofs.lemmas.Bool.Decides.{nat_tests}
use Rattle.std.proofs.Math.Nat.{mul-le-mul_right}
use Rattle.edge_base.specs.declared.form.Form.TheVariants.{Plain, Indirect, Double}
use Rattle.edge_base.specs.declared.geometry.Request.{Request}
use Rattle.edge_base.specs.layout.Places.{pointers_of}
use Rattle.edge_store.specs.View.{View, IsView, entries_of_inode}
use Rattle.edge_store.specs.Placed.{entry_at, pointer_at, double_block, indirect_block}
use Rattle.edge_moves.specs.Relinks.{number_under}
use Rattle.edge_shape.specs.Shape.{HasShape, entries_at, before, outside, HasBetween}
use Rattle.edge_shape.specs.Trees.{IsSoundTree}
use Rattle.edge_shape.specs.Cutting.{CutPlaces}
use Rattle.edge_moves.specs.Renewal.{EntryRenewed, PointerRenewed}
use Rattle.edge_moves.proofs.StepLaws.{pointer_is}
use Rattle.edge_shape.specs.Where.{first_in_entry}
use Rattle.edge_shape.proofs.ListLaws.{any_of, any-filter, filter-filter}
use Rattle.edge_shape.proofs.ShapeLaws.{indirect_pointer}
use Rattle.edge_shape.proofs.EntryCutLaws.{sound_at}
use Rattle.edge_shape.proofs.RangeLaws.{first-single, first-double}
use Rattle.edge_shape.proofs.LeftLaws.{some, in_node, in_double, node_left}
use Rattle.edge_shape.proofs.OwnLaws.{single_entry, double_entry, owns_entry, owns_pointer}

-- ---- ranges behind one another

pub two_ranges : (lo mid : ℕ) (indices : List ℕ) → lo ≤ mid → before mid (outside lo mid indices) ≡ before lo indices
two_ranges lo mid indices up =
    filter-filter (λ x. not (leb lo x && ltb x mid)) (λ x. ltb x mid) indices ∙ (λ i. filter (λ x. by x i) indices)
  where
    by : (x : ℕ) → (not (leb lo x && ltb x mid) && ltb x mid) ≡ ltb x lo
    by x = grind (arith, nat_tests)

pub three_ranges : (lo mid high : ℕ) (indices : List ℕ) → lo ≤ mid → mid ≤ high → before high (outside mid high (outside lo mid indices)) ≡ before lo indices
three_ranges lo mid high indices up more = two_ranges mid high (outside lo mid indices) more ∙ two_ranges lo mid indices up

-- the first index behind an indirect node, and behind a double-indirect one
one_row : (m w : ℕ) → (m + 1) * w ≡ m * w + w
one_row m w = grind arith

no_row : (m w : ℕ) → m ≡ 0 → m * w ≡ 0
no_row m w none = grind arith

module _ (g : Request) (positive : 0 < pointers_of g) where
  abbrev k : ℕ
  k = pointers_of g

  pub node_end : (j : ℕ) → number_under g Indirect j k ≡ number_under g Indirect (j + 1) 0
  node_end j = let next = one_row j k in omega arith

  pub top_end : (d : ℕ) → number_under g Indirect (number_under g Double d k) 0 ≡ number_under g Indirect (number_under g Double (d + 1) 0) 0
  top_end d = ap (λ (m : ℕ). g.direct + (m * k + 0)) (let next = one_row d k in let e : number_under g Double d k ≡ number_under g Double (d + 1) 0 = omega arith in e)

  pub single_end : (e : ℕ) → g.direct ≤ e → e < g.direct + g.indirect → first_in_entry g (e + 1) ≡ number_under g Indirect (e - g.direct) k
  single_end e past low = elim (cases_lt (e + 1) (g.direct + g.indirect)) [
    | inl more ↦ first-single g positive (e + 1) (omega arith) more ∙ ap (λ (m : ℕ). number_under g Indirect m 0) (let is : e + 1 - g.direct ≡ e - g.direct + 1 = omega arith in is) ∙ sym (node_end (e - g.direct))
    | inr last ↦
        first-double g positive (e + 1) last
        ∙ ap (λ (m : ℕ). number_under g Indirect m 0) (let none = no_row (e + 1 - g.direct - g.indirect) k (omega arith) in let is : number_under g Double (e + 1 - g.direct - g.indirect) 0 ≡ e - g.direct + 1 = omega arith in is)
        ∙ sym (node_end (e - g.direct))
  ]

  pub double_end : (e : ℕ) → g.direct + g.indirect ≤ e → first_in_entry g (e + 1) ≡ number_under g Indirect (number_under g Double (e - g.direct - g.indirect) k) 0
  double_end e past =
      first-double g positive (e + 1) (omega arith)
      ∙ ap (λ (m : ℕ). number_under g Indirect (number_under g Double m 0) 0) (let is : e + 1 - g.direct - g.indirect ≡ e - g.direct - g.indirect + 1 = omega arith in is)
      ∙ sym (top_end (e - g.direct - g.indirect))

  pub places_up : (d from upto : ℕ) → from ≤ upto → number_under g Indirect (number_under g Double d from) 0 ≤ number_under g Indirect (number_under g Double d upto) 0
  places_up d from upto h = let up : number_under g Double d from * k ≤ number_under g Double d upto * k = mul-le-mul_right k (let e : number_under g Double d from ≤ number_under g Double d upto = omega arith in e) in omega arith

-- ---- one pointer node

module _ (g : Request) (c v : View) (n : ℕ) (indices : List ℕ) (shape : HasShape g v n indices) where
  abbrev positive : 0 < pointers_of g
  positive = some g v n indices shape

  entry_by : (w : View) (e : ℕ) → w.inodes ≡ v.inodes → entry_at w n e ≡ entry_at v n e
  entry_by w e same = ap (λ (o : ℕ → _). slice_index (entries_of_inode (o n)) e) same

  -- an indirect node
  module _ (entry place : ℕ) (past : g.direct ≤ entry) (low : entry < g.direct + g.indirect) (most : place ≤ pointers_of g)
      (stays : HasBetween indices (number_under g Indirect (entry - g.direct) 0) (number_under g Indirect (entry - g.direct) place)) where
    pub node_there : entry_at v n entry ≢ 0
    node_there none = (in_node g v n indices shape (entry - g.direct) 0 place most stays).3 ((single_entry g v n entry past low).1 ∙ none)

    module _ (owned : View) (block : ℕ) (own : EntryRenewed g c v owned n entry block) (owned_view : IsView g owned) where
      made : HasShape g owned n indices × (entry_at owned n entry ≡ block)
      made = owns_entry g c v owned n indices shape entry block node_there own owned_view

      pub is_block : indirect_block g owned n (entry - g.direct) ≡ block
      is_block = (single_entry g owned n entry past low).1 ∙ made.1

      pub node_owned : HasShape g owned n indices
      node_owned = made.0

      pub node_sound : IsSoundTree g owned Indirect n block
      node_sound = subst (λ (b : ℕ). IsSoundTree g owned Indirect n b) is_block
          (sound_at g owned n indices made.0 Indirect (entry - g.direct) (in_node g owned n indices made.0 (entry - g.direct) 0 place most stays).3)

  -- a double-indirect node
  module _ (entry place : ℕ) (past : g.direct + g.indirect ≤ entry) (most : place ≤ pointers_of g)
      (stays : HasBetween indices (number_under g Indirect (number_under g Double (entry - g.direct - g.indirect) 0) 0) (number_under g Indirect (number_under g Double (entry - g.direct - g.indirect) place) 0)) where
    abbrev d : ℕ
    d = entry - g.direct - g.indirect

    pub top_there : entry_at v n entry ≢ 0
    top_there none = (in_double g v n indices shape d 0 place most stays).3 ((double_entry g v n entry past).1 ∙ none)

    module _ (owned : View) (block : ℕ) (own : EntryRenewed g c v owned n entry block) (owned_view : IsView g owned) where
      top_made : HasShape g owned n indices × (entry_at owned n entry ≡ block)
      top_made = owns_entry g c v owned n indices shape entry block top_there own owned_view

      pub is_top : double_block g owned n d ≡ block
      is_top = (double_entry g owned n entry past).1 ∙ top_made.1

      pub top_owned : HasShape g owned n indices
      top_owned = top_made.0

      pub top_sound : IsSoundTree g owned Double n block
      top_sound = subst (λ (b : ℕ). IsSoundTree g owned Double n b) is_top
          (sound_at g owned n indices top_made.0 Double d (in_double g owned n indices top_made.0 d 0 place most stays).3)

  -- an indirect node under a double-indirect one
  module _ (entry outer place : ℕ) (past : g.direct + g.indirect ≤ entry) (low : outer < pointers_of g) (most : place ≤ pointers_of g)
      (stays : HasBetween indices (number_under g Indirect (number_under g Double (entry - g.direct - g.indirect) outer) 0) (number_under g Indirect (number_under g Double (entry - g.direct - g.indirect) outer) place)) where
    abbrev dd : ℕ
    dd = entry - g.direct - g.indirect

    abbrev j : ℕ
    j = number_under g Double dd outer

    -- the index that stays is under the double-indirect node up to this place
    pub stays_top : HasBetween indices (number_under g Indirect (number_under g Double dd 0) 0) (number_under g Indirect (number_under g Double dd (outer + 1)) 0)
    stays_top =
        let up = places_up g positive dd 0 outer (omega arith) in
        let next = node_end g positive j in
        let is : number_under g Double dd (outer + 1) ≡ j + 1 = omega arith in
        let end : number_under g Indirect (number_under g Double dd (outer + 1)) 0 ≡ number_under g Indirect (j + 1) 0 = ap (λ (m : ℕ). number_under g Indirect m 0) is in
        let from : number_under g Indirect j 0 ≤ stays.0 = stays.2 in
        let upto : stays.0 < number_under g Indirect j place = stays.3 in
        (stays.0, stays.1, (let e : number_under g Indirect (number_under g Double dd 0) 0 ≤ stays.0 = omega arith in e), (let e : stays.0 < number_under g Indirect (number_under g Double dd (outer + 1)) 0 = omega arith in e))

    pub both_there : entry_at v n entry ≢ 0
    both_there = top_there entry (outer + 1) past (omega arith) stays_top

    module _ (one : View) (top : ℕ) (own_top : EntryRenewed g c v one n entry top) (one_view : IsView g one) where
      pub both_top : HasShape g one n indices
      both_top = top_owned entry (outer + 1) past (omega arith) stays_top one top own_top one_view

      pub top_is : double_block g one n dd ≡ top
      top_is = is_top entry (outer + 1) past (omega arith) stays_top one top own_top one_view

      under : double_block g one n dd ≢ 0
      under = (in_double g one n indices both_top dd 0 (outer + 1) (omega arith) stays_top).3

      pub pointer_there_top : slice_index (entries_at one Double top) outer ≢ 0
      pointer_there_top none =
          let node = (in_node g one n indices both_top j 0 place most stays).3 in
          node (sym (indirect_pointer g one n indices both_top dd under outer low) ∙ ap (λ (b : ℕ). slice_index (entries_at one Double b) outer) top_is ∙ none)

      pub outer_there : pointer_at one Double (double_block g one n dd) outer ≢ 0
      outer_there none = pointer_there_top (sym (ap (λ (b : ℕ). slice_index (entries_at one Double b) outer) top_is) ∙ sym (pointer_is one Double (double_block g one n dd) outer under) ∙ none)

      module _ (two : View) (node : ℕ) (own_node : PointerRenewed g c one two Double n top outer node) (two_view : IsView g two) where
        pub moved : HasShape g two n indices × (double_block g two n dd ≡ double_block g one n dd) × (indirect_block g two n j ≡ node)
        moved = owns_pointer g c one two n indices both_top Double dd outer node (λ (e : Double ≡ Plain). cc) low under
            outer_there (subst (λ (b : ℕ). PointerRenewed g c one two Double n b outer node) (sym top_is) own_node) two_view

        pub both_owned : HasShape g two n indices
        both_owned = moved.0

        pub both_node_sound : IsSoundTree g two Indirect n node
        both_node_sound = subst (λ (b : ℕ). IsSoundTree g two Indirect n b) moved.2 (sound_at g two n indices moved.0 Indirect j (in_node g two n indices moved.0 j 0 place most stays).3)

        abbrev rest : List ℕ
        rest = outside (number_under g Indirect j place) (number_under g Indirect j (pointers_of g)) indices

        module _ (three : View) (three_view : IsView g three) (cut : CutPlaces two three Indirect n node place (pointers_of g)) where
          pub both_node_trimmed : HasShape g three n rest
          both_node_trimmed = node_left g two n indices moved.0 three three_view j place most stays (subst (λ (b : ℕ). CutPlaces two three Indirect n b place (pointers_of g)) (sym moved.2) cut)

          pub top_still : double_block g three n dd ≡ top
          top_still = (double_entry g three n entry past).1 ∙ ap (λ (o : ℕ → _). slice_index (entries_of_inode (o n)) entry) cut.inodes ∙ sym (double_entry g two n entry past).1 ∙ moved.1 ∙ top_is

          pub stays_rest : HasBetween rest (number_under g Indirect (number_under g Double dd 0) 0) (number_under g Indirect (number_under g Double dd (outer + 1)) 0)
          unfolding stays_top
          stays_rest = (
            stays.0,
            any-filter (λ x. not (leb (number_under g Indirect j place) x && ltb x (number_under g Indirect j (pointers_of g)))) (λ x. x == stays.0) indices
                ∙ any_of (λ x. not (leb (number_under g Indirect j place) x && ltb x (number_under g Indirect j (pointers_of g))) && (x == stays.0)) indices stays.0 stays.1 (and_from _ _ (before_it stays.0 stays.3) (eq-eqb stays.0 stays.0 refl)),
            stays_top.2,
            stays_top.3,
          )
            where
              before_it : (x : ℕ) → x < number_under g Indirect j place → not (leb (number_under g Indirect j place) x && ltb x (number_under g Indirect j (pointers_of g))) ≡ true
              before_it x h = grind (arith, nat_tests)

          pub both_top_sound : IsSoundTree g three Double n top
          both_top_sound = subst (λ (b : ℕ). IsSoundTree g three Double n b) top_still
              (sound_at g three n rest both_node_trimmed Double dd (in_double g three n rest both_node_trimmed dd 0 (outer + 1) (omega arith) stays_rest).3)
