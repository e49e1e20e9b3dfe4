-- Where a cut at an index goes through, and that the indices that stay are those before it.
use Rattle.std.proofs.Common.{◌≡◌, ◌≢◌, ℕ, ◌+◌, ◌-◌, ◌*◌, ◌/◌, ◌%◌, ◌<◌, ◌≤◌, ◌==◌, ◌&&◌, ◌||◌, not, Bool, true, false, cond, ltb, List, refl, sym, ap, ◌∙◌, subst, arith, inl, inr}
use Rattle.std.specs.Prelude.{slice_index}
use Rattle.std.proofs.lemmas.Bool.{cases_lt, eqb-true, eqb-false, lt-ltb, le-ltb, cond-true, cond-false, or_right}
use Rattle.std.proofs.lemmas.Bool.Decides.{nat_tests}
use Rattle.std.proofs.lemmas.Nat.{mod_below}
use Rattle.std.proofs.Math.Nat.{div-lt_iff_lt-mul}
use Rattle.edge_base.specs.declared.form.Form.TheVariants.{Indirect, Double}
use Rattle.edge_base.specs.declared.geometry.Request.{Request}
use Rattle.edge_base.specs.declared.way.Way.TheVariants as way
use Rattle.edge_base.specs.layout.Places.{entries_of, pointers_of, max_blocks_of, way_of}
use Rattle.edge_store.specs.View.{View}
use Rattle.edge_store.specs.Placed.{entry_at, double_block, indirect_block}
use Rattle.edge_store.proofs.DigitLaws.{behind, indirect_below, table_below}
use Rattle.edge_moves.specs.Relinks.{number_under}
use Rattle.edge_shape.specs.declared.cut.Cut.{Cut}
use Rattle.edge_shape.specs.declared.cut.Cut.TheVariants.{Whole, Node, Top, Both}
use Rattle.edge_shape.specs.Shape.{HasShape, entries_at, HasBetween, SameBefore}
use Rattle.edge_shape.specs.Where.{some_in, through, cut_single, inner_kept, inner_cut, between_double, cut_double, cut_of_way, cut_at, first_in_entry, first_gone, GoesThrough, TakesFrom}
use Rattle.edge_shape.proofs.ListLaws.{some_in-some, some_in-found, true_false}
use Rattle.edge_moves.proofs.SlotLaws.{entries_fit}
use Rattle.edge_shape.proofs.ShapeLaws.{data_there, indirect_pointer, some_below}
use Rattle.edge_shape.proofs.LeaveLaws.{index_there, index_listed}
use Rattle.edge_shape.proofs.RangeLaws.{first-direct, first-single, first-double}
use Rattle.edge_shape.proofs.LeftLaws.{some, in_node, from_node, in_double, from_double}
use Rattle.edge_shape.proofs.OwnLaws.{single_entry, double_entry}
use Rattle.edge_shape.proofs.WithinLaws.{cut_at-below, cut_at-end}
use Rattle.edge_shape.proofs.CutLaws.{node_end, single_end, double_end, places_up}

-- ---- ranges without indices

-- none of the indices is in the range
abbrev IsClear : List ℕ → ℕ → ℕ → Type 0
IsClear indices from upto = HasBetween indices from upto → ⊥

join_clear : (indices : List ℕ) (lo mid high : ℕ) → IsClear indices lo mid → IsClear indices mid high → IsClear indices lo high
join_clear indices lo mid high one two between = elim (cases_lt between.0 mid) [
  | inl low ↦ one (between.0, between.1, between.2, low)
  | inr past ↦ two (between.0, between.1, past, between.3)
]

clear_up : (indices : List ℕ) (i k : ℕ) → i ≤ k → IsClear indices i k → SameBefore indices i k
clear_up indices i k up clear x member = elim (cases_lt x i) [
  | inl low ↦ lt-ltb x i low ∙ sym (lt-ltb x k (omega arith))
  | inr past ↦ elim (cases_lt x k) [
    | inl high ↦ absurd (clear (x, member, past, high))
    | inr after ↦ le-ltb x i past ∙ sym (le-ltb x k after)
  ]
]

clear_down : (indices : List ℕ) (i k : ℕ) → k ≤ i → IsClear indices k i → SameBefore indices i k
clear_down indices i k down clear x member = sym (clear_up indices k i down clear x member)

same_index : (indices : List ℕ) (i k : ℕ) → i ≡ k → SameBefore indices i k
same_index indices i k is x member = ap (ltb x) is

-- Where a cut goes through something of each pointer node stays, and what goes are the indices from i on.
pub record Finds (g : Request) (indices : List ℕ) (i : ℕ) (cut : Cut) : Type 0 where
  pub goes_through : GoesThrough g indices cut
  pub takes : TakesFrom g indices cut
  pub same : SameBefore indices i (first_gone g cut)

module _ (g : Request) (v : View) (n : ℕ) (indices : List ℕ) (shape : HasShape g v n indices) where
  abbrev k : ℕ
  k = pointers_of g

  positive : 0 < pointers_of g
  positive = some g v n indices shape

  none_of : (es : List ℕ) (from upto q : ℕ) → some_in es from upto ≡ false → from ≤ q → q < upto → slice_index es q ≢ 0 → ⊥
  none_of es from upto q none low high there = true_false (sym (some_in-some es from upto q low high there) ∙ none)

  -- ---- through a single indirect node

  module _ (entry place : ℕ) (past : g.direct ≤ entry) (low : entry < g.direct + g.indirect) (most : place < k) where
    abbrev j : ℕ
    j = entry - g.direct

    abbrev i : ℕ
    i = number_under g Indirect j place

    abbrev es : List ℕ
    es = entries_at v Indirect (entry_at v n entry)

    is_node : indirect_block g v n j ≡ entry_at v n entry
    is_node = (single_entry g v n entry past low).1

    start : first_in_entry g entry ≡ number_under g Indirect j 0
    start = first-single g positive entry past low

    end : first_in_entry g (entry + 1) ≡ number_under g Indirect j k
    end = single_end g positive entry past low

    within : entry + 1 ≤ entries_of g
    within = let all = entries_fit g shape.geometry in omega arith

    -- an index in a range of places has a pointer there
    pointer_in : (from upto : ℕ) → upto ≤ k → HasBetween indices (number_under g Indirect j from) (number_under g Indirect j upto) → (entry_at v n entry ≢ 0) × ((q : ℕ) × (from ≤ q) × (q < upto) × (slice_index es q ≢ 0))
    pointer_in from upto high between =
        let r = in_node g v n indices shape j from upto high between in
        ((λ none. r.3 (is_node ∙ none)), (r.0, r.1, r.2, λ none. r.4 (ap (λ (b : ℕ). slice_index (entries_at v Indirect b) r.0) is_node ∙ none)))

    clear_where : (from upto : ℕ) → upto ≤ k → some_in es from upto ≡ false → IsClear indices (number_under g Indirect j from) (number_under g Indirect j upto)
    clear_where from upto high none between = let r = (pointer_in from upto high between).1 in none_of es from upto r.0 none r.1 r.2 r.3

    goes_on : IsClear indices i (number_under g Indirect j k) → Finds g indices i (Whole (entry + 1))
    goes_on clear = record {
      goes_through = within;
      takes = tt;
      same = subst (SameBefore indices i) (sym end) (clear_up indices i (number_under g Indirect j k) (omega arith) clear);
    }

    goes_back : IsClear indices (number_under g Indirect j 0) i → Finds g indices i (Whole entry)
    goes_back clear = record {
      goes_through = (let all = within in omega arith);
      takes = tt;
      same = subst (SameBefore indices i) (sym start) (clear_down indices i (number_under g Indirect j 0) (omega arith) clear);
    }

    pub finds_single : Finds g indices i (cut_single g v n entry place)
    finds_single = by (place == 0) (entry_at v n entry == 0) (some_in es 0 place) (some_in es place k) refl refl refl refl
      where
        by : (first none kept cut : Bool) → (place == 0) ≡ first → (entry_at v n entry == 0) ≡ none → some_in es 0 place ≡ kept → some_in es place k ≡ cut
            → Finds g indices i (cond first (Whole entry) (cond none (Whole (entry + 1)) (through kept cut entry (Node entry place))))
        by true none kept cut f e s t = goes_back (λ between. let zero_place : place ≡ 0 = eqb-true place 0 f in let low_x : number_under g Indirect j 0 ≤ between.0 = between.2 in let high_x : between.0 < number_under g Indirect j place = between.3 in absurd (omega arith))
        by false true kept cut f e s t = goes_on (λ between. (pointer_in place k (omega arith) between).0 (eqb-true (entry_at v n entry) 0 e))
        by false false kept false f e s t = goes_on (clear_where place k (omega arith) t)
        by false false false true f e s t = goes_back (clear_where 0 place (omega arith) s)
        by false false true true f e s t =
            let there : indirect_block g v n j ≢ 0 = λ none. eqb-false (entry_at v n entry) 0 e (sym is_node ∙ none) in
            let pointer : (q : ℕ) → slice_index es q ≢ 0 → slice_index (entries_at v Indirect (indirect_block g v n j)) q ≢ 0 = λ q some_q none. some_q (ap (λ (b : ℕ). slice_index (entries_at v Indirect b) q) (sym is_node) ∙ none) in
            let before_it = some_in-found es 0 place s in
            let behind_it = some_in-found es place k t in
            record {
              goes_through = (past, low, (let m : place ≤ k = omega arith in m), from_node g v n indices shape j 0 place before_it.0 (omega arith) (omega arith) before_it.2 there (pointer before_it.0 before_it.3));
              takes = from_node g v n indices shape j place k behind_it.0 (omega arith) behind_it.1 behind_it.2 there (pointer behind_it.0 behind_it.3);
              same = same_index indices i i refl;
            }

  -- ---- through a double-indirect node

  module _ (entry outer place : ℕ) (past : g.direct + g.indirect ≤ entry) (within : entry < entries_of g) (outer_low : outer < k) (place_low : place < k) where
    abbrev d : ℕ
    d = entry - g.direct - g.indirect

    abbrev jj : ℕ
    jj = number_under g Double d outer

    abbrev ii : ℕ
    ii = number_under g Indirect jj place

    abbrev ts : List ℕ
    ts = entries_at v Double (entry_at v n entry)

    abbrev inner : ℕ
    inner = slice_index ts outer

    is_top : double_block g v n d ≡ entry_at v n entry
    is_top = (double_entry g v n entry past).1

    top_start : first_in_entry g entry ≡ number_under g Indirect (number_under g Double d 0) 0
    top_start = first-double g positive entry past

    top_stop : first_in_entry g (entry + 1) ≡ number_under g Indirect (number_under g Double d k) 0
    top_stop = double_end g positive entry past

    -- the first index behind the indirect node that the cut goes through
    behind_inner : number_under g Indirect jj k ≡ number_under g Indirect (number_under g Double d (outer + 1)) 0
    behind_inner = node_end g positive jj ∙ ap (λ (m : ℕ). number_under g Indirect m 0) (let is : jj + 1 ≡ number_under g Double d (outer + 1) = omega arith in is)

    from_start : number_under g Indirect (number_under g Double d 0) 0 ≤ number_under g Indirect jj 0
    from_start = places_up g positive d 0 outer (omega arith)

    upto_stop : number_under g Indirect (number_under g Double d (outer + 1)) 0 ≤ number_under g Indirect (number_under g Double d k) 0
    upto_stop = places_up g positive d (outer + 1) k (omega arith)

    -- an index in a range of places has a pointer there
    top_pointer_in : (from upto : ℕ) → upto ≤ k → HasBetween indices (number_under g Indirect (number_under g Double d from) 0) (number_under g Indirect (number_under g Double d upto) 0)
        → (entry_at v n entry ≢ 0) × ((s : ℕ) × (from ≤ s) × (s < upto) × (slice_index ts s ≢ 0))
    top_pointer_in from upto high between =
        let r = in_double g v n indices shape d from upto high between in
        ((λ none. r.3 (is_top ∙ none)), (r.0, r.1, r.2, λ none. r.4 (ap (λ (b : ℕ). slice_index (entries_at v Double b) r.0) is_top ∙ none)))

    clear_beside : (from upto : ℕ) → upto ≤ k → some_in ts from upto ≡ false → IsClear indices (number_under g Indirect (number_under g Double d from) 0) (number_under g Indirect (number_under g Double d upto) 0)
    clear_beside from upto high none between = let r = (top_pointer_in from upto high between).1 in none_of ts from upto r.0 none r.1 r.2 r.3

    stays_beside : (from upto : ℕ) → upto ≤ k → entry_at v n entry ≢ 0 → some_in ts from upto ≡ true → HasBetween indices (number_under g Indirect (number_under g Double d from) 0) (number_under g Indirect (number_under g Double d upto) 0)
    stays_beside from upto high there some_there =
        let r = some_in-found ts from upto some_there in
        from_double g v n indices shape d from upto r.0 high r.1 r.2 (λ none. there (sym is_top ∙ none)) (λ none. r.3 (ap (λ (b : ℕ). slice_index (entries_at v Double b) r.0) (sym is_top) ∙ none))

    module _ (there : entry_at v n entry ≢ 0) where
      is_inner : indirect_block g v n jj ≡ inner
      is_inner = sym (indirect_pointer g v n indices shape d (λ none. there (sym is_top ∙ none)) outer outer_low) ∙ ap (λ (b : ℕ). slice_index (entries_at v Double b) outer) is_top

      inner_pointer_in : (from upto : ℕ) → upto ≤ k → HasBetween indices (number_under g Indirect jj from) (number_under g Indirect jj upto) → (inner ≢ 0) × ((q : ℕ) × (from ≤ q) × (q < upto) × (slice_index (entries_at v Indirect inner) q ≢ 0))
      inner_pointer_in from upto high between =
          let r = in_node g v n indices shape jj from upto high between in
          ((λ none. r.3 (is_inner ∙ none)), (r.0, r.1, r.2, λ none. r.4 (ap (λ (b : ℕ). slice_index (entries_at v Indirect b) r.0) is_inner ∙ none)))

      clear_kept : inner_kept g v inner place ≡ false → IsClear indices (number_under g Indirect jj 0) ii
      clear_kept none between =
          let r = inner_pointer_in 0 place (omega arith) between in
          let q : r.1.0 < place = r.1.2 in
          true_false (sym (all (inner == 0) (place == 0) (some_in (entries_at v Indirect inner) 0 place) (apart inner r.0) (apart place (omega arith)) (some_in-some (entries_at v Indirect inner) 0 place r.1.0 r.1.1 r.1.2 r.1.3)) ∙ none)
        where
          apart : (b : ℕ) → b ≢ 0 → (b == 0) ≡ false
          apart b h = grind (arith, nat_tests)

          all : (s t u : Bool) → s ≡ false → t ≡ false → u ≡ true → (not s && not t && u) ≡ true
          all s t u a b h = λ i. not (a i) && not (b i) && h i

      clear_cut : inner_cut g v inner place ≡ false → IsClear indices ii (number_under g Indirect jj k)
      clear_cut none between =
          let r = inner_pointer_in place k (omega arith) between in
          true_false (sym (all (inner == 0) (place == 0) (some_in (entries_at v Indirect inner) place k) (apart inner r.0) (some_in-some (entries_at v Indirect inner) place k r.1.0 r.1.1 r.1.2 r.1.3)) ∙ none)
        where
          apart : (b : ℕ) → b ≢ 0 → (b == 0) ≡ false
          apart b h = grind (arith, nat_tests)

          all : (s t u : Bool) → s ≡ false → u ≡ true → (not s && (t || u)) ≡ true
          all s t u a h = (λ i. not (a i) && (t || h i)) ∙ or_right t true refl

      goes_inner : inner_cut g v inner place ≡ true → HasBetween indices ii (number_under g Indirect jj k)
      goes_inner cut = by (inner == 0) (place == 0) (some_in (entries_at v Indirect inner) place k) refl refl refl cut
        where
          by : (s t u : Bool) → (inner == 0) ≡ s → (place == 0) ≡ t → some_in (entries_at v Indirect inner) place k ≡ u → (not s && (t || u)) ≡ true → HasBetween indices ii (number_under g Indirect jj k)
          by true t u a b c h = absurd (let e : false ≡ true = h in cc)
          by false false false a b c h = absurd (let e : false ≡ true = h in cc)
          by false false true a b c h =
              let r = some_in-found (entries_at v Indirect inner) place k c in
              from_node g v n indices shape jj place k r.0 (omega arith) r.1 r.2 (λ none. eqb-false inner 0 a (sym is_inner ∙ none)) (λ none. r.3 (ap (λ (y : ℕ). slice_index (entries_at v Indirect y) r.0) (sym is_inner) ∙ none))
          by false true u a b c h =
              let r = some_below g v n indices shape jj (λ none. eqb-false inner 0 a (sym is_inner ∙ none)) in
              let first : place ≡ 0 = eqb-true place 0 b in
              let low : r.0 < k = r.1 in
              (number_under g Indirect jj r.0, index_listed g v n indices shape (number_under g Indirect jj r.0) r.2, (let e : ii ≤ number_under g Indirect jj r.0 = omega arith in e), (let e : number_under g Indirect jj r.0 < number_under g Indirect jj k = omega arith in e))

      stays_inner : inner_kept g v inner place ≡ true → HasBetween indices (number_under g Indirect jj 0) ii
      stays_inner kept =
          let parts = parts_of (inner == 0) (place == 0) (some_in (entries_at v Indirect inner) 0 place) kept in
          let r = some_in-found (entries_at v Indirect inner) 0 place parts.1 in
          from_node g v n indices shape jj 0 place r.0 (omega arith) (omega arith) r.2 (λ none. eqb-false inner 0 parts.0 (sym is_inner ∙ none))
          (λ none. r.3 (ap (λ (b : ℕ). slice_index (entries_at v Indirect b) r.0) (sym is_inner) ∙ none))
        where
          parts_of : (s t u : Bool) → (not s && not t && u) ≡ true → (s ≡ false) × (u ≡ true)
          parts_of false false u h = (refl, h)
          parts_of false true u h = absurd (let e : false ≡ true = h in cc)
          parts_of true t u h = absurd (let e : false ≡ true = h in cc)

    -- what goes of the double-indirect node
    from_behind : HasBetween indices (number_under g Indirect (number_under g Double d (outer + 1)) 0) (number_under g Indirect (number_under g Double d k) 0) → HasBetween indices (number_under g Indirect jj 0) (number_under g Indirect (number_under g Double d k) 0)
    from_behind goes = (goes.0, goes.1, (let low : number_under g Indirect (number_under g Double d (outer + 1)) 0 ≤ goes.0 = goes.2 in let next = behind_inner in let e : number_under g Indirect jj 0 ≤ goes.0 = omega arith in e), goes.3)

    from_inner : HasBetween indices ii (number_under g Indirect jj k) → HasBetween indices (number_under g Indirect jj 0) (number_under g Indirect (number_under g Double d k) 0)
    from_inner goes = (
      goes.0,
      goes.1,
      (let low : ii ≤ goes.0 = goes.2 in let e : number_under g Indirect jj 0 ≤ goes.0 = omega arith in e),
      (let high : goes.0 < number_under g Indirect jj k = goes.3 in let next = behind_inner in let stop = upto_stop in let e : goes.0 < number_under g Indirect (number_under g Double d k) 0 = omega arith in e),
    )

    top_goes_on : IsClear indices ii (number_under g Indirect (number_under g Double d k) 0) → Finds g indices ii (Whole (entry + 1))
    top_goes_on clear = record {
      goes_through = (let e : entry + 1 ≤ entries_of g = omega arith in e);
      takes = tt;
      same = subst (SameBefore indices ii) (sym top_stop) (clear_up indices ii (number_under g Indirect (number_under g Double d k) 0) (let stop = upto_stop in let next = behind_inner in omega arith) clear);
    }

    top_goes_back : IsClear indices (number_under g Indirect (number_under g Double d 0) 0) ii → Finds g indices ii (Whole entry)
    top_goes_back clear = record {
      goes_through = (let e : entry ≤ entries_of g = omega arith in e);
      takes = tt;
      same = subst (SameBefore indices ii) (sym top_start) (clear_down indices ii (number_under g Indirect (number_under g Double d 0) 0) (let start = from_start in omega arith) clear);
    }

    both_found : HasBetween indices (number_under g Indirect jj 0) ii → HasBetween indices ii (number_under g Indirect jj k) → Finds g indices ii (Both entry outer place)
    both_found stays goes = record {
      goes_through = (past, outer_low, (let m : place ≤ k = omega arith in m), stays);
      takes = goes;
      same = same_index indices ii ii refl;
    }

    after_inner : HasBetween indices (number_under g Indirect jj 0) ii → IsClear indices ii (number_under g Indirect jj k)
        → HasBetween indices (number_under g Indirect (number_under g Double d (outer + 1)) 0) (number_under g Indirect (number_under g Double d k) 0) → Finds g indices ii (Top entry (outer + 1))
    after_inner stays clear goes = record {
      goes_through = (
        past,
        (let m : outer + 1 ≤ k = omega arith in m),
        (
          stays.0,
          stays.1,
          (let low : number_under g Indirect jj 0 ≤ stays.0 = stays.2 in let start = from_start in let e : number_under g Indirect (number_under g Double d 0) 0 ≤ stays.0 = omega arith in e),
          (let high : stays.0 < ii = stays.3 in let next = behind_inner in let e : stays.0 < number_under g Indirect (number_under g Double d (outer + 1)) 0 = omega arith in e),
        ),
      );
      takes = goes;
      same = clear_up indices ii (number_under g Indirect (number_under g Double d (outer + 1)) 0) (let next = behind_inner in omega arith) (subst (IsClear indices ii) behind_inner clear);
    }

    before_inner : HasBetween indices (number_under g Indirect (number_under g Double d 0) 0) (number_under g Indirect jj 0) → IsClear indices (number_under g Indirect jj 0) ii
        → HasBetween indices (number_under g Indirect jj 0) (number_under g Indirect (number_under g Double d k) 0) → Finds g indices ii (Top entry outer)
    before_inner stays clear goes = record {
      goes_through = (past, (let m : outer ≤ k = omega arith in m), stays);
      takes = goes;
      same = clear_down indices ii (number_under g Indirect jj 0) (omega arith) clear;
    }

    pub finds_double : Finds g indices ii (cut_double g v n entry outer place)
    finds_double = by (entry_at v n entry == 0) refl
      where
        found : (there : entry_at v n entry ≢ 0) (lower kept higher cut : Bool) → some_in ts 0 outer ≡ lower → inner_kept g v inner place ≡ kept → some_in ts (outer + 1) k ≡ higher → inner_cut g v inner place ≡ cut
            → Finds g indices ii (through (lower || kept) (higher || cut) entry (between_double kept cut entry outer place))
        found there lower kept false false a b c e =
            top_goes_on (join_clear indices ii (number_under g Indirect jj k) (number_under g Indirect (number_under g Double d k) 0) (clear_cut there e) (subst (λ (m : ℕ). IsClear indices m (number_under g Indirect (number_under g Double d k) 0)) (sym behind_inner) (clear_beside (outer + 1) k (omega arith) c)))
        found there false false true cut a b c e = top_goes_back (join_clear indices (number_under g Indirect (number_under g Double d 0) 0) (number_under g Indirect jj 0) ii (clear_beside 0 outer (omega arith) a) (clear_kept there b))
        found there false false false true a b c e = top_goes_back (join_clear indices (number_under g Indirect (number_under g Double d 0) 0) (number_under g Indirect jj 0) ii (clear_beside 0 outer (omega arith) a) (clear_kept there b))
        found there true false true cut a b c e = before_inner (stays_beside 0 outer (omega arith) there a) (clear_kept there b) (from_behind (stays_beside (outer + 1) k (omega arith) there c))
        found there true false false true a b c e = before_inner (stays_beside 0 outer (omega arith) there a) (clear_kept there b) (from_inner (goes_inner there e))
        found there false true true true a b c e = both_found (stays_inner there b) (goes_inner there e)
        found there false true true false a b c e = after_inner (stays_inner there b) (clear_cut there e) (stays_beside (outer + 1) k (omega arith) there c)
        found there false true false true a b c e = both_found (stays_inner there b) (goes_inner there e)
        found there true true true true a b c e = both_found (stays_inner there b) (goes_inner there e)
        found there true true true false a b c e = after_inner (stays_inner there b) (clear_cut there e) (stays_beside (outer + 1) k (omega arith) there c)
        found there true true false true a b c e = both_found (stays_inner there b) (goes_inner there e)

        by : (none : Bool) → (entry_at v n entry == 0) ≡ none
            → Finds g indices ii (cond none (Whole (entry + 1)) (through (some_in ts 0 outer || inner_kept g v inner place) (some_in ts (outer + 1) k || inner_cut g v inner place) entry (between_double (inner_kept g v inner place) (inner_cut g v inner place) entry outer place)))
        by true e = top_goes_on (λ between. (top_pointer_in 0 k (omega arith) (
          between.0,
          between.1,
          (let low : ii ≤ between.0 = between.2 in let start = from_start in let h : number_under g Indirect (number_under g Double d 0) 0 ≤ between.0 = omega arith in h),
          between.3,
        )).0 (eqb-true (entry_at v n entry) 0 e))
        by false e = found (eqb-false (entry_at v n entry) 0 e) _ _ _ _ refl refl refl refl

  -- ---- by the way of the index

  finds_direct : (x : ℕ) → x < g.direct → x < max_blocks_of g → Finds g indices x (cut_at g v n x)
  finds_direct x low below_max =
      subst (Finds g indices x) (sym (cut_at-below g v n x below_max ∙ ap (cut_of_way g v n) (cond-true (ltb x g.direct) (way.Direct x) _ (lt-ltb x g.direct low))))
      (record { goes_through = (let all = entries_fit g shape.geometry in let e : x ≤ entries_of g = omega arith in e); takes = tt; same = same_index indices x (first_in_entry g x) (sym (first-direct g positive x low)) })

  div_mod : (m w : ℕ) → 0 < w → m ≡ m / w * w + m % w
  div_mod m w h = omega arith

  finds_in_single : (x : ℕ) → g.direct ≤ x → x - g.direct < g.indirect * k → x < max_blocks_of g → Finds g indices x (cut_at g v n x)
  finds_in_single x past low below_max =
      let row : ℕ = (x - g.direct) / k in
      let spot : ℕ = (x - g.direct) % k in
      let whole = div_mod (x - g.direct) k positive in
      let row_low : row < g.indirect = (div-lt_iff_lt-mul positive).1 low in
      let number : g.direct + row - g.direct ≡ row = omega arith in
      let is : number_under g Indirect (g.direct + row - g.direct) spot ≡ x = ap (λ (m : ℕ). number_under g Indirect m spot) number ∙ (let e : number_under g Indirect row spot ≡ x = omega arith in e) in
      subst (Finds g indices x) (sym (cut_at-below g v n x below_max ∙ ap (cut_of_way g v n) (cond-false (ltb x g.direct) (way.Direct x) _ (le-ltb x g.direct past) ∙ cond-true (ltb (x - g.direct) (g.indirect * k)) (way.Single (g.direct + row) spot) _ (lt-ltb (x - g.direct) (g.indirect * k) low))))
      (subst (λ (y : ℕ). Finds g indices y (cut_single g v n (g.direct + row) spot)) is
      (finds_single (g.direct + row) spot (omega arith) (omega arith) (mod_below (x - g.direct) k positive)))

  finds_in_double : (x : ℕ) → g.direct ≤ x → g.indirect * k ≤ x - g.direct → x < max_blocks_of g → Finds g indices x (cut_at g v n x)
  finds_in_double x past behind_single below_max =
      let row : ℕ = (x - g.direct) / k in
      let table : ℕ = (row - g.indirect) / k in
      let outer : ℕ = (row - g.indirect) % k in
      let spot : ℕ = (x - g.direct) % k in
      let b = behind (x - g.direct) g.indirect k positive behind_single in
      let row_from : g.indirect ≤ row = b.row_from in
      let whole = div_mod (x - g.direct) k positive in
      let rows = div_mod (row - g.indirect) k positive in
      let number : g.direct + g.indirect + table - g.direct - g.indirect ≡ table = omega arith in
      let node : number_under g Double table outer ≡ row = omega arith in
      let is : number_under g Indirect (number_under g Double (g.direct + g.indirect + table - g.direct - g.indirect) outer) spot ≡ x =
      ap (λ (m : ℕ). number_under g Indirect (number_under g Double m outer) spot) number ∙ ap (λ (m : ℕ). number_under g Indirect m spot) node ∙ (let e : number_under g Indirect row spot ≡ x = omega arith in e) in
      let row_low = indirect_below g.direct g.indirect (entries_of g - g.direct - g.indirect) k x below_max past in
      let table_low : table < entries_of g - g.direct - g.indirect = table_below g.indirect (entries_of g - g.direct - g.indirect) k row row_low row_from in
      let way_is : way_of g x ≡ way.Double (g.direct + g.indirect + table) outer spot =
      cond-false (ltb x g.direct) (way.Direct x) _ (le-ltb x g.direct past) ∙ cond-false (ltb (x - g.direct) (g.indirect * k)) (way.Single (g.direct + row) spot) _ (le-ltb (x - g.direct) (g.indirect * k) behind_single)
      ∙ (λ t. way.Double (g.direct + g.indirect + sym b.table t) (sym b.row t) (sym b.place t)) in
      subst (Finds g indices x) (sym (cut_at-below g v n x below_max ∙ ap (cut_of_way g v n) way_is))
      (subst (λ (y : ℕ). Finds g indices y (cut_double g v n (g.direct + g.indirect + table) outer spot)) is
      (finds_double (g.direct + g.indirect + table) outer spot (omega arith) (omega arith) (mod_below (row - g.indirect) k positive) (mod_below (x - g.direct) k positive)))

  finds_end : (x : ℕ) → max_blocks_of g ≤ x → Finds g indices x (cut_at g v n x)
  finds_end x past = subst (Finds g indices x) (sym (cut_at-end g v n x past)) (record {
    goes_through = (let e : entries_of g ≤ entries_of g = omega arith in e);
    takes = tt;
    same = λ y member. let low = data_there g v n indices shape y (index_there g v n indices shape y member) in
        lt-ltb y x (omega arith) ∙ sym (lt-ltb y (first_in_entry g (entries_of g)) (let is = last in omega arith));
  })
    where
      last : first_in_entry g (entries_of g) ≡ max_blocks_of g
      last = first-double g positive (entries_of g) (entries_fit g shape.geometry) ∙ rows g.direct g.indirect (entries_of g - g.direct - g.indirect) k
        where
          rows : (a b c w : ℕ) → a + ((b + (c * w + 0)) * w + 0) ≡ a + b * w + c * (w * w)
          rows a b c w = grind arith

  pub finds : (i : ℕ) → Finds g indices i (cut_at g v n i)
  finds x = elim (cases_lt x (max_blocks_of g)) [
    | inr past ↦ finds_end x past
    | inl below_max ↦ elim (cases_lt x g.direct) [
      | inl low ↦ finds_direct x low below_max
      | inr past ↦ elim (cases_lt (x - g.direct) (g.indirect * k)) [
        | inl low ↦ finds_in_single x past low below_max
        | inr behind_single ↦ finds_in_double x past behind_single below_max
      ]
    ]
  ]
