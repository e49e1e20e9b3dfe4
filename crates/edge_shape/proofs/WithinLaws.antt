-- The entries and places of a cut are within their nodes, whatever the view holds.
use Rattle.std.proofs.Common.{◌≡◌, ◌≢◌, ℕ, ◌+◌, ◌<◌, ◌≤◌, ◌==◌, ◌&&◌, ◌||◌, not, Bool, true, false, cond, refl, ◌∙◌, arith}
use Rattle.std.specs.Prelude.{slice_index}
use Rattle.std.proofs.lemmas.Bool.{eqb-false, eq-eqb, lt-ltb, le-ltb, cond-true, cond-false}
use Rattle.edge_base.specs.declared.form.Form.TheVariants.{Indirect, Double}
use Rattle.edge_base.specs.declared.geometry.Request.{Request}
use Rattle.edge_base.specs.declared.way.Way.{Way}
use Rattle.edge_base.specs.declared.way.Way.TheVariants as way
use Rattle.edge_base.specs.layout.Places.{entries_of, pointers_of, max_blocks_of, way_of, IsWithinNodes}
use Rattle.edge_store.specs.View.{View}
use Rattle.edge_store.specs.Placed.{entry_at}
use Rattle.edge_shape.specs.declared.cut.Cut.{Cut}
use Rattle.edge_shape.specs.declared.cut.Cut.TheVariants.{Whole, Node}
use Rattle.edge_shape.specs.Shape.{entries_at}
use Rattle.edge_shape.specs.Where.{some_in, through, cut_single, inner_kept, inner_cut, between_double, cut_double, cut_of_way, cut_at, IsWithin}

through_within : (g : Request) (v : View) (n entry : ℕ) (between : Cut) (kept cut : Bool) → entry < entries_of g → (kept ≡ true → cut ≡ true → IsWithin g v n between) → IsWithin g v n (through kept cut entry between)
through_within g v n entry between kept false low h = omega arith
through_within g v n entry between false true low h = omega arith
through_within g v n entry between true true low h = h refl refl

cut_single-within : (g : Request) (v : View) (n entry place : ℕ) → entry < entries_of g → place < pointers_of g → IsWithin g v n (cut_single g v n entry place)
cut_single-within g v n entry place low high = by (place == 0) (entry_at v n entry == 0) refl
  where
    by : (first none : Bool) → (entry_at v n entry == 0) ≡ none
        → IsWithin g v n (cond first (Whole entry) (cond none (Whole (entry + 1)) (through (some_in (entries_at v Indirect (entry_at v n entry)) 0 place) (some_in (entries_at v Indirect (entry_at v n entry)) place (pointers_of g)) entry (Node entry place))))
    by true none e = omega arith
    by false true e = omega arith
    by false false e = through_within g v n entry (Node entry place) _ _ low (λ kept cut. (low, high, eqb-false _ 0 e))

cut_double-within : (g : Request) (v : View) (n entry outer place : ℕ) → entry < entries_of g → outer < pointers_of g → place < pointers_of g → IsWithin g v n (cut_double g v n entry outer place)
cut_double-within g v n entry outer place low mid high = by (entry_at v n entry == 0) refl
  where
    between : (c : ℕ) (kept cut : Bool) → (kept ≡ true → c ≢ 0) → c ≡ slice_index (entries_at v Double (entry_at v n entry)) outer → entry_at v n entry ≢ 0
        → IsWithin g v n (between_double kept cut entry outer place)
    between c true true some is there = (low, mid, high, there, λ none. some refl (is ∙ none))
    between c true false some is there = (low, omega arith, there)
    between c false cut some is there = (low, omega arith, there)

    kept_there : (c : ℕ) → inner_kept g v c place ≡ true → c ≢ 0
    kept_there c kept none = absurd (first (c == 0) (not (place == 0)) (some_in (entries_at v Indirect c) 0 place) kept (eq-eqb c 0 none))
      where
        first : (s t u : Bool) → (not s && t && u) ≡ true → s ≡ true → ⊥
        first true t u h e = let f : false ≡ true = h in cc
        first false t u h e = let f : false ≡ true = e in cc

    by : (none : Bool) → (entry_at v n entry == 0) ≡ none
        → IsWithin g v n (cond none (Whole (entry + 1))
        (through (some_in (entries_at v Double (entry_at v n entry)) 0 outer || inner_kept g v (slice_index (entries_at v Double (entry_at v n entry)) outer) place)
        (some_in (entries_at v Double (entry_at v n entry)) (outer + 1) (pointers_of g) || inner_cut g v (slice_index (entries_at v Double (entry_at v n entry)) outer) place) entry
        (between_double (inner_kept g v (slice_index (entries_at v Double (entry_at v n entry)) outer) place) (inner_cut g v (slice_index (entries_at v Double (entry_at v n entry)) outer) place) entry outer place)))
    by true e = omega arith
    by false e = through_within g v n entry _ _ _ low (λ kept cut. between _ (inner_kept g v (slice_index (entries_at v Double (entry_at v n entry)) outer) place) (inner_cut g v (slice_index (entries_at v Double (entry_at v n entry)) outer) place) (kept_there _) refl (eqb-false _ 0 e))

pub cut_of_way-within : (g : Request) (v : View) (n : ℕ) (way : Way) → IsWithinNodes g way → IsWithin g v n (cut_of_way g v n way)
cut_of_way-within g v n (way.Direct entry) within = omega arith
cut_of_way-within g v n (way.Single entry place) within = cut_single-within g v n entry place within.0 within.1
cut_of_way-within g v n (way.Double entry outer place) within = cut_double-within g v n entry outer place within.0 within.1 within.2

pub cut_at-below : (g : Request) (v : View) (n i : ℕ) → i < max_blocks_of g → cut_at g v n i ≡ cut_of_way g v n (way_of g i)
unfolding cut_at
cut_at-below g v n i low = cond-true _ _ _ (lt-ltb i (max_blocks_of g) low)

pub cut_at-end : (g : Request) (v : View) (n i : ℕ) → max_blocks_of g ≤ i → cut_at g v n i ≡ Whole (entries_of g)
unfolding cut_at
cut_at-end g v n i past = cond-false _ _ _ (le-ltb i (max_blocks_of g) past)
