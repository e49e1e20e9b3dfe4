-- Which positions a change touches, which are there after it, and how its count falls with a step.
use Rattle.std.proofs.Common.{◌≡◌, ℕ, ◌+◌, ◌-◌, ◌/◌, ◌<◌, ◌==◌, ◌&&◌, ◌||◌, not, Bool, true, false, cond, ltb, List, [], ◌∷◌, ◌++◌, refl, sym, ap, ◌∙◌, subst, arith, inl, inr}
use Rattle.std.specs.List.{list_any, filter, range_with_len}
use Rattle.std.specs.Cmp.{both_ways}
use Rattle.std.proofs.lemmas.Bool.{cases_Bool, eqb-true, eq-eqb, and_parts, or_cases, ltb-false}
use Rattle.std.proofs.lemmas.List.Folds.{list_any-append}
use Rattle.edge_base.specs.declared.form.Form.{Form}
use Rattle.edge_base.specs.declared.form.Form.TheVariants.{Plain, Indirect, Double}
use Rattle.edge_base.specs.declared.geometry.Request.{Request}
use Rattle.edge_base.specs.layout.Places.{pointers_of, max_blocks_of}
use Rattle.edge_base.specs.tree.Chains.{is_on_chain}
use Rattle.edge_base.specs.tree.Positions.{Position, same_position, has, count_of, positions_of_form, double_at, chain, ancestors, all_ancestors, touched}
use Rattle.edge_base.proofs.ChainLaws.{has-positions_of}
use Rattle.edge_base.proofs.PositionLaws.{has-append, has-filter, has-flat_map, count_of-from_has, count_of-append_apart, same_position_Decides}
use Rattle.edge_store.specs.View.{View}
use Rattle.edge_store.specs.Fresh.{is_dirty, has_after, is_there_after, fresh_positions, fresh_count}
use Rattle.edge_store.proofs.DigitLaws.{table_below, indirect_below}
use Rattle.edge_moves.specs.Sound.{numbered}
use Rattle.edge_shape.proofs.AfterLaws.{position_found}
use Rattle.edge_shape.proofs.ListLaws.{any-filter, range_found, range_some}
use Rattle.edge_count.proofs.WriteLaws.{all_kept, one_chain}
use Rattle.edge_count.proofs.TouchLaws.{above_number}

-- ---- ancestors

ancestor_number : (g : Request) (x : ℕ) (form : Form) (k : ℕ) (p : Position) → has (ancestors g (numbered x form k)) p ≡ true → p.number ≡ x
ancestor_number g x Plain k p h = above_number g x k p h
ancestor_number g x Indirect k p h = by (ltb k g.indirect) h
  where
    by : (t : Bool) → has (cond t [] (double_at x ((k - g.indirect) / pointers_of g) ∷ [])) p ≡ true → p.number ≡ x
    by true h = absurd (let e : false ≡ true = h in cc)
    by false h = elim (or_cases (same_position p (double_at x ((k - g.indirect) / pointers_of g))) false h) [
      | inl here ↦ ap (λ (r : Position). r.number) ((same_position_Decides p (double_at x ((k - g.indirect) / pointers_of g))).0 here)
      | inr none ↦ absurd (let e : false ≡ true = none in cc)
    ]
ancestor_number g x Double k p h = absurd (let e : false ≡ true = h in cc)

pub chain_number : (g : Request) (n i : ℕ) (p : Position) → has (chain g n i) p ≡ true → p.number ≡ n
chain_number g n i p h = eqb-true p.number n (and_parts (p.number == n) _ (sym (one_chain g n i p) ∙ h)).0

-- a position on a chain is one that a node may have
pub on_chain_low : (g : Request) (form : Form) (k x : ℕ) → is_on_chain g form k x ≡ true → x < max_blocks_of g → k < positions_of_form g form
on_chain_low g Plain k x on low = let is = eqb-true x k on in omega arith
on_chain_low g Indirect k x on low =
    let parts = and_parts (not (ltb x g.direct)) _ on in
    let is = eqb-true _ k parts.1 in
    let row = indirect_below g.direct g.indirect _ _ x low (ltb-false x g.direct (off (ltb x g.direct) parts.0)) in omega arith
  where
    off : (t : Bool) → not t ≡ true → t ≡ false
    off true h = absurd (let e : false ≡ true = h in cc)
    off false h = refl
on_chain_low g Double k x on low =
    let parts = and_parts (not (ltb x g.direct)) _ on in
    let rest = and_parts (not (ltb _ g.indirect)) _ parts.1 in
    let is = eqb-true _ k rest.1 in
    let row = indirect_below g.direct g.indirect _ _ x low (ltb-false x g.direct (off (ltb x g.direct) parts.0)) in
    let table = table_below g.indirect _ _ _ row (ltb-false _ g.indirect (off _ rest.0)) in omega arith
  where
    off : (t : Bool) → not t ≡ true → t ≡ false
    off true h = absurd (let e : false ≡ true = h in cc)
    off false h = refl

-- ---- what a change touches, and what is there after it

pub range_same : (f h : ℕ → Bool) (a n : ℕ) → ((x : ℕ) → x < a + n → f x ≡ h x) → list_any f (range_with_len a n) ≡ list_any h (range_with_len a n)
range_same f h a n same = both_ways (list_any f (range_with_len a n)) (list_any h (range_with_len a n))
    (λ e. let r = range_found f a n e in range_some h a n r.0 r.1 r.2 (sym (same r.0 r.2) ∙ r.3))
    (λ e. let r = range_found h a n e in range_some f a n r.0 r.1 r.2 (same r.0 r.2 ∙ r.3))

module _ (g : Request) (c v : View) (writes removes : List Position) where
  abbrev pub above : List Position → Position → Bool
  above ps p = list_any (λ q. has (ancestors g q) p) ps

  abbrev pub touches : Position → Bool
  touches p = has (touched g (λ q. false) writes removes) p

  pub touches_is : (p : Position) → touches p ≡ (has writes p || (above removes p || above writes p))
  touches_is p =
      has-append writes (all_ancestors g (removes ++ filter (λ q. true) writes)) p
      ∙ (λ t. has writes p || has (all_ancestors g (removes ++ all_kept writes t)) p)
      ∙ (λ t. has writes p || (has-flat_map (ancestors g) (removes ++ writes) p ∙ list_any-append (λ q. has (ancestors g q) p) removes writes) t)

  -- whether an index under the position is there
  abbrev pub under : Position → ℕ → Bool
  under p x = has_after g c v writes removes p.number x && is_on_chain g p.form p.index x

  pub there_is : (p : Position) → is_there_after g c v writes removes p ≡ list_any (under p) (range_with_len 0 (max_blocks_of g))
  there_is p =
      has-positions_of g p.number (filter (has_after g c v writes removes p.number) (range_with_len 0 (max_blocks_of g))) p
      ∙ (λ t.
      eq-eqb p.number p.number refl t && any-filter (has_after g c v writes removes p.number) (is_on_chain g p.form p.index) (range_with_len 0 (max_blocks_of g)) t)

  pub there_by : (p : Position) → is_there_after g c v writes removes p ≡ true
      → (x : ℕ) × (x < max_blocks_of g) × (has_after g c v writes removes p.number x ≡ true) × (is_on_chain g p.form p.index x ≡ true)
  there_by p h =
      let r = range_found (under p) 0 (max_blocks_of g) (sym (there_is p) ∙ h) in
      let high : r.0 < 0 + max_blocks_of g = r.2 in
      let parts = and_parts (has_after g c v writes removes p.number r.0) (is_on_chain g p.form p.index r.0) r.3 in
      (r.0, (let low : r.0 < max_blocks_of g = omega arith in low), parts.0, parts.1)

  pub there_from : (p : Position) (x : ℕ) → x < max_blocks_of g → has_after g c v writes removes p.number x ≡ true → is_on_chain g p.form p.index x ≡ true
      → is_there_after g c v writes removes p ≡ true
  there_from p x low after on = there_is p ∙ range_some (under p) 0 (max_blocks_of g) x (omega arith) (omega arith) (λ t. after t && on t)

  -- the positions that are there have numbers that a node may have
  pub there_low : (p : Position) → is_there_after g c v writes removes p ≡ true → p.index < positions_of_form g p.form
  there_low p h = let r = there_by p h in on_chain_low g p.form p.index r.0 r.3 r.1

  above_by : (ps : List Position) (p : Position) → above ps p ≡ true → (q : Position) × (has ps q ≡ true) × (p.number ≡ q.number)
  above_by ps p h =
      let r = position_found (λ q. has (ancestors g q) p) ps h in
      (r.0, r.1, ancestor_number g r.0.number r.0.form r.0.index p r.2)

  -- what is touched is of the node of a position that is named
  pub touches_by : (P : ℕ → Type 0) → ((q : Position) → has writes q ≡ true → P q.number) → ((q : Position) → has removes q ≡ true → P q.number)
      → (p : Position) → touches p ≡ true → P p.number
  touches_by P in_writes in_removes p h = elim (or_cases (has writes p) (above removes p || above writes p) (sym (touches_is p) ∙ h)) [
    | inl here ↦ in_writes p here
    | inr over ↦ elim (or_cases (above removes p) (above writes p) over) [
      | inl gone ↦ let r = above_by removes p gone in subst P (sym r.2) (in_removes r.0 r.1)
      | inr added ↦ let r = above_by writes p added in subst P (sym r.2) (in_writes r.0 r.1)
    ]
  ]

-- ---- a step

-- A part of what is touched is counted in a list, and the rest by what is named then, in the view then.
module _ (g : Request) (c v w : View) (writes removes rest_writes rest_removes made : List Position) (part : Position → Bool)
    (made_is : (p : Position) → has made p ≡ (part p && (is_there_after g c v writes removes p && not (is_dirty g c v p))))
    (touched_is : (p : Position) → touches g c v writes removes p ≡ (part p || touches g c w rest_writes rest_removes p))
    (there : (p : Position) → touches g c w rest_writes rest_removes p ≡ true → is_there_after g c v writes removes p ≡ is_there_after g c w rest_writes rest_removes p)
    (fresh : (p : Position) → touches g c w rest_writes rest_removes p ≡ true → is_there_after g c v writes removes p ≡ true
    → not (is_dirty g c w p) ≡ (not (is_dirty g c v p) && not (part p))) where
  abbrev before : Position → Bool
  before q = is_there_after g c v writes removes q && not (is_dirty g c v q)

  abbrev after : Position → Bool
  after q = is_there_after g c w rest_writes rest_removes q && not (is_dirty g c w q)

  abbrev rest : List Position
  rest = fresh_positions g c w rest_writes rest_removes

  no_third : (a t n : Bool) → n ≡ false → (a && (t && n)) ≡ false
  no_third false t n e = refl
  no_third true false n e = refl
  no_third true true n e = e

  sum : (a t tv tw nv nw : Bool) → (t ≡ true → tv ≡ tw) → (t ≡ true → tv ≡ true → nw ≡ (nv && not a))
      → ((a || t) && (tv && nv)) ≡ ((a && (tv && nv)) || (t && (tw && nw)))
  sum false false tv tw nv nw th fr = refl
  sum false true false tw nv nw th fr = λ i. th refl i && nw
  sum false true true tw true nw th fr = sym (fr refl refl) ∙ (λ i. th refl i && nw)
  sum false true true tw false nw th fr = sym (fr refl refl) ∙ (λ i. th refl i && nw)
  sum true t true tw true nw th fr = refl
  sum true true true tw false nw th fr = sym (no_third true tw nw (fr refl refl))
  sum true false true tw false nw th fr = refl
  sum true true false tw nv nw th fr = λ i. th refl i && nw
  sum true false false tw nv nw th fr = refl

  apart : (p : Position) → has made p ≡ true → has rest p ≡ false
  apart p h =
      let one = and_parts (part p) (before p) (sym (made_is p) ∙ h) in
      let two = and_parts (is_there_after g c v writes removes p) (not (is_dirty g c v p)) one.1 in
      has-filter after (touched g (λ q. false) rest_writes rest_removes) p ∙ elim (cases_Bool (touches g c w rest_writes rest_removes p)) [
        | inl named ↦
            no_third (touches g c w rest_writes rest_removes p) (is_there_after g c w rest_writes rest_removes p) (not (is_dirty g c w p))
            (fresh p named two.0 ∙ off (not (is_dirty g c v p)) (part p) one.0)
        | inr other ↦ ap (λ t. t && after p) other
      ]
    where
      off : (n a : Bool) → a ≡ true → (n && not a) ≡ false
      off false a e = refl
      off true a e = ap not e

  pub step_count : fresh_count g c v writes removes ≡ count_of made + fresh_count g c w rest_writes rest_removes
  unfolding fresh_count
  step_count =
      count_of-from_has (fresh_positions g c v writes removes) (made ++ rest) (λ p.
      has-filter before (touched g (λ q. false) writes removes) p
      ∙ ap (λ t. t && before p) (touched_is p)
      ∙ sum (part p) (touches g c w rest_writes rest_removes p) (is_there_after g c v writes removes p) (is_there_after g c w rest_writes rest_removes p)
      (not (is_dirty g c v p)) (not (is_dirty g c w p)) (there p) (fresh p)
      ∙ sym (has-append made rest p ∙ (λ t. made_is p t || has-filter after (touched g (λ q. false) rest_writes rest_removes) p t)))
      ∙ count_of-append_apart made rest apart
