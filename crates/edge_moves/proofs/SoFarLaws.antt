-- Positions of a node renewed one after the other, each below those before.
use Rattle.std.proofs.Common.{◌≡◌, ◌≢◌, ◌⊎◌, ℕ, ◌+◌, ◌<◌, ◌&&◌, ◌||◌, not, Bool, true, false, cond, inl, inr, List, [], ◌∷◌, Option, Some, None, refl, sym, ap, ◌∙◌, subst, arith}
use Rattle.std.specs.Prelude.{is_some, count_by}
use Rattle.std.proofs.lemmas.Bool.{cases_eq, cases_Bool, and_parts, and_from, or_parts, or_left, or_right, cond-true, cond-false}
use Rattle.std.proofs.lemmas.List.Sums.{sum_by-cons}
use Rattle.edge_base.specs.declared.form.Form.{Form}
use Rattle.edge_base.specs.declared.geometry.Request.{Request}
use Rattle.edge_base.specs.tree.Positions.{Position, same_position, has, positions_of_form}
use Rattle.edge_base.proofs.PositionLaws.{same_position_Decides}
use Rattle.edge_store.specs.Effects.{IsFresh}
use Rattle.edge_store.specs.Fresh.{is_dirty}
use Rattle.edge_store.specs.Placed.{block_at}
use Rattle.edge_store.specs.View.{View, IsView, Block, content_at, is_used, is_new, free_now, head_of_inode}
use Rattle.edge_store.proofs.ViewLaws.{used_of, unused_zero}
use Rattle.edge_moves.specs.Sound.{numbered, IsSound, IsApart}
use Rattle.edge_moves.specs.Renewal.{held_by}
use Rattle.edge_moves.specs.Writable.{Came}
use Rattle.edge_moves.proofs.StepLaws.{hits, not_zero}

-- From v to w these positions of node n were made new.
pub record SoFar (g : Request) (c v w : View) (n : ℕ) (on : List Position) : Type 0 where
  pub sound : IsSound g w n
  pub apart : IsApart g w n
  pub view : IsView g w
  pub moved : (form : Form) (k : ℕ) → k < positions_of_form g form → has on (numbered n form k) ≡ false → block_at g w (numbered n form k) ≡ block_at g v (numbered n form k)
  pub holds : (form : Form) (k : ℕ) → k < positions_of_form g form → has on (numbered n form k) ≡ false → block_at g v (numbered n form k) ≢ 0
      → w.blocks (block_at g v (numbered n form k)) ≡ v.blocks (block_at g v (numbered n form k))
  pub is_fresh : (form : Form) (k : ℕ) → k < positions_of_form g form → has on (numbered n form k) ≡ true → is_new c w (block_at g w (numbered n form k)) ≡ true
  pub came : (form : Form) (k : ℕ) → k < positions_of_form g form → has on (numbered n form k) ≡ true
      → (block_at g w (numbered n form k) ≡ block_at g v (numbered n form k)) ⊎ Came c v w (block_at g v (numbered n form k)) (block_at g w (numbered n form k))
  pub others : (x : ℕ) → is_used v x ≡ true → ((form : Form) (k : ℕ) → k < positions_of_form g form → has on (numbered n form k) ≡ true → block_at g v (numbered n form k) ≢ x)
      → w.blocks x ≡ v.blocks x
  pub used : (x : ℕ) → is_used v x ≡ false → is_used w x ≡ true
      → (form : Form) × (k : ℕ) × (k < positions_of_form g form) × (has on (numbered n form k) ≡ true) × (block_at g w (numbered n form k) ≡ x)
  pub free : free_now g c w + count_by (λ p. not (is_dirty g c v p)) on ≡ free_now g c v
  pub inodes : (x : ℕ) → x ≢ n → w.inodes x ≡ v.inodes x
  pub head : head_of_inode (w.inodes n) ≡ head_of_inode (v.inodes n)

-- The block above the next position, if it is one of a pointer node.
pub record Above (g : Request) (v : View) (n : ℕ) (on : List Position) (top : ℕ) : Type 0 where
  pub form : Form
  pub k : ℕ
  pub low : k < positions_of_form g form
  pub listed : has on (numbered n form k) ≡ true
  pub is : block_at g v (numbered n form k) ≡ top

-- Block b took the place of the block at number m of a form, and block top says so.
pub record StepOf (g : Request) (c v w : View) (n : ℕ) (f : Form) (m b top : ℕ) : Type 0 where
  pub sound : IsSound g w n
  pub apart : IsApart g w n
  pub view : IsView g w
  pub blocks : (form : Form) (k : ℕ) → k < positions_of_form g form
      → block_at g w (numbered n form k) ≡ cond (same_position (numbered n form k) (numbered n f m)) b (block_at g v (numbered n form k))
  pub fresh : IsFresh g c v b
  pub was : is_new c v (block_at g v (numbered n f m)) ≡ false
  pub is_fresh : is_new c w b ≡ true
  pub content : content_at w f b ≡ held_by g v f n (block_at g v (numbered n f m))
  pub gone : w.blocks (block_at g v (numbered n f m)) ≡ None
  pub others : (x : ℕ) → x ≢ b → x ≢ block_at g v (numbered n f m) → x ≢ top → w.blocks x ≡ v.blocks x
  pub top_used : top ≢ 0 → is_used w top ≡ true
  pub free : free_now g c w + 1 ≡ free_now g c v
  pub inodes : (x : ℕ) → x ≢ n → w.inodes x ≡ v.inodes x
  pub head : head_of_inode (w.inodes n) ≡ head_of_inode (v.inodes n)

-- ---- options and tests

clash : {A : Type 0} {x : Option A} → is_some x ≡ true → x ≡ None → ⊥
clash used none = let f : true ≡ false = sym used ∙ ap is_some none in cc

differ : {t : Bool} → t ≡ true → t ≡ false → ⊥
differ is not_so = let f : true ≡ false = sym is ∙ not_so in cc

none_of : (o : Option Block) → is_some o ≡ false → o ≡ None
none_of None e = refl
none_of (Some x) e = absurd (let f : true ≡ false = e in cc)

new_used : (c v : View) (x : ℕ) → is_new c v x ≡ true → is_used v x ≡ true
new_used c v x h = (and_parts (is_used v x) (not (is_used c x)) h).0

new_there : (c v w : View) (x : ℕ) → is_new c v x ≡ true → is_used w x ≡ true → is_new c w x ≡ true
new_there c v w x h used = and_from (is_used w x) (not (is_used c x)) used (and_parts (is_used v x) (not (is_used c x)) h).1

old_kept : (c v : View) (x : ℕ) → is_new c v x ≡ false → is_used v x ≡ true → is_used c x ≡ true
old_kept c v x h used = by (is_used v x) (is_used c x) h used
  where
    by : (u t : Bool) → (u && not t) ≡ false → u ≡ true → t ≡ true
    by true true h used = refl
    by true false h used = absurd (let e : true ≡ false = h in cc)
    by false t h used = absurd (let e : false ≡ true = used in cc)

unused_not_new : (c v : View) (x : ℕ) → v.blocks x ≡ None → is_new c v x ≡ false
unused_not_new c v x none = λ i. is_some (none i) && not (is_used c x)

same_new : (c v w : View) (x : ℕ) → w.blocks x ≡ v.blocks x → is_new c w x ≡ is_new c v x
same_new c v w x same = λ i. is_some (same i) && not (is_used c x)

-- ---- nothing renewed yet

pub begin : (g : Request) (c v : View) (n : ℕ) → IsSound g v n → IsApart g v n → IsView g v → SoFar g c v v n []
begin g c v n sound apart view = record {
  sound = sound;
  apart = apart;
  view = view;
  moved = λ form k low out. refl;
  holds = λ form k low out there. refl;
  is_fresh = λ form k low h. absurd (let f : false ≡ true = h in cc);
  came = λ form k low h. absurd (let f : false ≡ true = h in cc);
  others = λ x used none. refl;
  used = λ x none used. absurd (differ used none);
  free = omega arith;
  inodes = λ x away. refl;
  head = refl;
}

-- ---- one more

module _ (g : Request) (c v m : View) (n : ℕ) (on : List Position) (sound_v : IsSound g v n) (view_v : IsView g v) (prior : SoFar g c v m n on)
    (f : Form) (m0 : ℕ) (low0 : m0 < positions_of_form g f) (out : has on (numbered n f m0) ≡ false) where
  abbrev p0 : Position
  p0 = numbered n f m0

  abbrev now : Form → ℕ → ℕ
  now form k = block_at g m (numbered n form k)

  abbrev was_at : Form → ℕ → ℕ
  was_at form k = block_at g v (numbered n form k)

  same_from : now f m0 ≡ was_at f m0
  same_from = prior.moved f m0 low0 out

  -- a position is the next one or not
  is_p0 : (form : Form) (k : ℕ) → same_position (numbered n form k) p0 ≡ true → numbered n form k ≡ p0
  is_p0 form k h = (same_position_Decides (numbered n form k) p0).0 h

  used_now : (form : Form) (k : ℕ) → k < positions_of_form g form → now form k ≢ 0 → is_used m (now form k) ≡ true
  used_now form k low there = used_of form (m.blocks (now form k)) n (prior.sound form k low there)

  used_was : (form : Form) (k : ℕ) → k < positions_of_form g form → was_at form k ≢ 0 → is_used v (was_at form k) ≡ true
  used_was form k low there = used_of form (v.blocks (was_at form k)) n (sound_v form k low there)

  some_now : (x : ℕ) → is_used m x ≡ true → x ≢ 0
  some_now x used none = clash (ap (is_used m) (sym none) ∙ used) (unused_zero g m prior.view)

  some_was : (x : ℕ) → is_used v x ≡ true → x ≢ 0
  some_was x used none = clash (ap (is_used v) (sym none) ∙ used) (unused_zero g v view_v)

  -- whether the next position's block was new is as at the start
  same_test : is_new c m (now f m0) ≡ is_new c v (was_at f m0)
  same_test = ap (is_new c m) same_from ∙ elim (cases_eq (was_at f m0) 0) [
    | inl none ↦ ap (is_new c m) none ∙ unused_not_new c m 0 (unused_zero g m prior.view) ∙ sym (ap (is_new c v) none ∙ unused_not_new c v 0 (unused_zero g v view_v))
    | inr there ↦ same_new c v m (was_at f m0) (prior.holds f m0 low0 out there)
  ]

  count : (t : Bool) → is_new c v (was_at f m0) ≡ t → count_by (λ p. not (is_dirty g c v p)) (p0 ∷ on) ≡ cond (not t) 1 0 + count_by (λ p. not (is_dirty g c v p)) on
  count t h = sum_by-cons (λ p. cond (not (is_dirty g c v p)) 1 0) p0 on ∙ ap (λ u. cond (not u) 1 0 + count_by (λ p. not (is_dirty g c v p)) on) h

  -- it was new already
  pub next_kept : is_new c m (now f m0) ≡ true → SoFar g c v m n (p0 ∷ on)
  next_kept new = record {
    sound = prior.sound;
    apart = prior.apart;
    view = prior.view;
    moved = λ form k low h. prior.moved form k low (or_parts (same_position (numbered n form k) p0) (has on (numbered n form k)) h).1;
    holds = λ form k low h. prior.holds form k low (or_parts (same_position (numbered n form k) p0) (has on (numbered n form k)) h).1;
    is_fresh = λ form k low h. elim (cases_Bool (same_position (numbered n form k) p0)) [
      | inl hit ↦ ap (λ (q : Position). is_new c m (block_at g m q)) (is_p0 form k hit) ∙ new
      | inr miss ↦ prior.is_fresh form k low (rest form k miss h)
    ];
    came = λ form k low h. elim (cases_Bool (same_position (numbered n form k) p0)) [
      | inl hit ↦ inl (ap (block_at g m) (is_p0 form k hit) ∙ same_from ∙ sym (ap (block_at g v) (is_p0 form k hit)))
      | inr miss ↦ prior.came form k low (rest form k miss h)
    ];
    others = λ x used none. prior.others x used (λ form k low h. none form k low (or_right (same_position (numbered n form k) p0) (has on (numbered n form k)) h));
    used = λ x none used. let r = prior.used x none used in (r.0, r.1, r.2, or_right (same_position (numbered n r.0 r.1) p0) (has on (numbered n r.0 r.1)) r.3, r.4);
    free = let e = count true (sym same_test ∙ new) in let f = prior.free in omega arith;
    inodes = prior.inodes;
    head = prior.head;
  }
    where
      rest : (form : Form) (k : ℕ) → same_position (numbered n form k) p0 ≡ false → (same_position (numbered n form k) p0 || has on (numbered n form k)) ≡ true → has on (numbered n form k) ≡ true
      rest form k miss h = sym (ap (λ t. t || has on (numbered n form k)) miss) ∙ h

  -- another block took its place
  module _ (w : View) (b top : ℕ) (step : StepOf g c m w n f m0 b top) (above : (top ≡ 0) ⊎ Above g m n on top) where
    b_some : b ≢ 0
    b_some = not_zero g b step.fresh.allocable

    hit_block : (form : Form) (k : ℕ) → k < positions_of_form g form → same_position (numbered n form k) p0 ≡ true → block_at g w (numbered n form k) ≡ b
    hit_block form k low h = step.blocks form k low ∙ cond-true (same_position (numbered n form k) p0) b (now form k) h

    miss_block : (form : Form) (k : ℕ) → k < positions_of_form g form → same_position (numbered n form k) p0 ≡ false → block_at g w (numbered n form k) ≡ now form k
    miss_block form k low h = step.blocks form k low ∙ cond-false (same_position (numbered n form k) p0) b (now form k) h

    rest_on : (form : Form) (k : ℕ) → same_position (numbered n form k) p0 ≡ false → (same_position (numbered n form k) p0 || has on (numbered n form k)) ≡ true → has on (numbered n form k) ≡ true
    rest_on form k miss h = sym (ap (λ t. t || has on (numbered n form k)) miss) ∙ h

    -- a block of another position is not the one that moved
    not_from : (form : Form) (k : ℕ) → k < positions_of_form g form → now form k ≢ 0 → same_position (numbered n form k) p0 ≡ false → now form k ≢ now f m0
    not_from form k low there miss same = differ (hits (numbered n form k) p0 (prior.apart form f k m0 low low0 there same)) miss

    top_used_now : top ≢ 0 → is_used m top ≡ true
    top_used_now some = elim above [
      | inl none ↦ absurd (some none)
      | inr a ↦ ap (is_used m) (sym a.is) ∙ new_used c m (now a.form a.k) (prior.is_fresh a.form a.k a.low a.listed)
    ]

    -- what neither moved nor says so
    stays : (x : ℕ) → is_used m x ≡ true → x ≢ now f m0 → x ≢ top → w.blocks x ≡ m.blocks x
    stays x used far away = step.others x (λ same. clash (ap (is_used m) (sym same) ∙ used) step.fresh.unused) far away

    not_top : (form : Form) (k : ℕ) → k < positions_of_form g form → now form k ≢ 0 → has on (numbered n form k) ≡ false → now form k ≢ top
    not_top form k low there miss same = elim above [
      | inl none ↦ there (same ∙ none)
      | inr a ↦ differ (subst (λ (q : Position). has on q ≡ true) (sym (prior.apart form a.form k a.k low a.low there (same ∙ sym a.is))) a.listed) miss
    ]

    b_fresh : v.blocks b ≡ None
    b_fresh = none_of (v.blocks b) (by (is_used v b) refl)
      where
        by : (t : Bool) → is_used v b ≡ t → t ≡ false
        by false e = refl
        by true e = absurd (clash (ap is_some (prior.others b e nowhere) ∙ e) step.fresh.unused)
          where
            nowhere : (form : Form) (k : ℕ) → k < positions_of_form g form → has on (numbered n form k) ≡ true → was_at form k ≢ b
            nowhere form k low h same = elim (prior.came form k low h) [
              | inl stayed ↦ clash (ap (is_used m) (sym (stayed ∙ same)) ∙ new_used c m (now form k) (prior.is_fresh form k low h)) step.fresh.unused
              | inr gone ↦ clash (ap (is_used c) (sym same) ∙ gone.was (λ none. b_some (sym same ∙ none))) step.fresh.uncommitted
            ]

    pub next_moved : SoFar g c v w n (p0 ∷ on)
    next_moved = record {
      sound = step.sound;
      apart = step.apart;
      view = step.view;
      moved = λ form k low h.
          let parts = or_parts (same_position (numbered n form k) p0) (has on (numbered n form k)) h in
          miss_block form k low parts.0 ∙ prior.moved form k low parts.1;
      holds = λ form k low h there.
          let parts = or_parts (same_position (numbered n form k) p0) (has on (numbered n form k)) h in
          let same = prior.moved form k low parts.1 in
          let some : now form k ≢ 0 = λ none. there (sym same ∙ none) in
          subst (λ (x : ℕ). w.blocks x ≡ m.blocks x) same (stays (now form k) (used_now form k low some) (not_from form k low some parts.0) (not_top form k low some parts.1))
          ∙ prior.holds form k low parts.1 there;
      is_fresh = λ form k low h. elim (cases_Bool (same_position (numbered n form k) p0)) [
        | inl hit ↦ ap (is_new c w) (hit_block form k low hit) ∙ step.is_fresh
        | inr miss ↦ ap (is_new c w) (miss_block form k low miss) ∙ still form k low miss (prior.is_fresh form k low (rest_on form k miss h))
      ];
      came = λ form k low h. elim (cases_Bool (same_position (numbered n form k) p0)) [
        | inl hit ↦ inr (came_here form k low hit)
        | inr miss ↦ came_there form k low miss (prior.came form k low (rest_on form k miss h))
      ];
      others = λ x used none.
          let before = prior.others x used (λ form k low h. none form k low (or_right (same_position (numbered n form k) p0) (has on (numbered n form k)) h)) in
          let far : x ≢ now f m0 = λ same. none f m0 low0 (or_left (same_position p0 p0) (has on p0) (hits p0 p0 refl)) (sym (same ∙ same_from)) in
          stays x (ap is_some before ∙ used) far (beside x used none) ∙ before;
      used = λ x none used. by_use x none used (is_used m x) refl;
      free = let e = count false (sym same_test ∙ step.was) in let f = prior.free in let s = step.free in omega arith;
      inodes = λ x away. step.inodes x away ∙ prior.inodes x away;
      head = step.head ∙ prior.head;
    }
      where
        still : (form : Form) (k : ℕ) → k < positions_of_form g form → same_position (numbered n form k) p0 ≡ false → is_new c m (now form k) ≡ true → is_new c w (now form k) ≡ true
        still form k low miss new =
            let used = new_used c m (now form k) new in
            let there = some_now (now form k) used in
            new_there c m w (now form k) new (elim (cases_eq (now form k) top) [
              | inl is ↦ ap (is_used w) is ∙ step.top_used (λ none. there (is ∙ none))
              | inr away ↦ ap is_some (stays (now form k) used (not_from form k low there miss) away) ∙ used
            ])

        came_here : (form : Form) (k : ℕ) → k < positions_of_form g form → same_position (numbered n form k) p0 ≡ true → Came c v w (was_at form k) (block_at g w (numbered n form k))
        came_here form k low hit =
            let from : was_at form k ≡ now f m0 = ap (block_at g v) (is_p0 form k hit) ∙ sym same_from in
            record {
              fresh = ap v.blocks (hit_block form k low hit) ∙ b_fresh;
              gone = ap w.blocks from ∙ step.gone;
              was = λ some. ap (is_used c) from ∙ old_kept c m (now f m0) step.was (used_now f m0 low0 (λ none. some (from ∙ none)));
            }

        came_there : (form : Form) (k : ℕ) → k < positions_of_form g form → same_position (numbered n form k) p0 ≡ false → (now form k ≡ was_at form k) ⊎ Came c v m (was_at form k) (now form k)
            → (block_at g w (numbered n form k) ≡ was_at form k) ⊎ Came c v w (was_at form k) (block_at g w (numbered n form k))
        came_there form k low miss (inl stayed) = inl (miss_block form k low miss ∙ stayed)
        came_there form k low miss (inr gone) = inr (record {
          fresh = ap v.blocks (miss_block form k low miss) ∙ gone.fresh;
          gone = still_gone (was_at form k) gone.gone gone.was;
          was = gone.was;
        })
          where
            still_gone : (x : ℕ) → m.blocks x ≡ None → (x ≢ 0 → is_used c x ≡ true) → w.blocks x ≡ None
            still_gone x none was = elim (cases_eq x 0) [
              | inl zero ↦ ap w.blocks zero ∙ unused_zero g w step.view
              | inr some ↦ elim (cases_eq x (now f m0)) [
                | inl is ↦ ap w.blocks is ∙ step.gone
                | inr far ↦ step.others x (λ same. clash (ap (is_used c) (sym same) ∙ was some) step.fresh.uncommitted) far
                    (λ same. clash (ap (is_used m) same ∙ top_used_now (λ zero. some (same ∙ zero))) none)
                    ∙ none
              ]
            ]

        beside : (x : ℕ) → is_used v x ≡ true
            → ((form : Form) (k : ℕ) → k < positions_of_form g form → (same_position (numbered n form k) p0 || has on (numbered n form k)) ≡ true → was_at form k ≢ x) → x ≢ top
        beside x used none same = elim above [
          | inl zero ↦ some_was x used (same ∙ zero)
          | inr a ↦ elim (prior.came a.form a.k a.low a.listed) [
            | inl stayed ↦ none a.form a.k a.low (or_right (same_position (numbered n a.form a.k) p0) (has on (numbered n a.form a.k)) a.listed) (sym stayed ∙ a.is ∙ sym same)
            | inr gone ↦ clash used (ap v.blocks (same ∙ sym a.is) ∙ gone.fresh)
          ]
        ]

        by_use : (x : ℕ) → is_used v x ≡ false → is_used w x ≡ true → (t : Bool) → is_used m x ≡ t
            → (form : Form) × (k : ℕ) × (k < positions_of_form g form) × ((same_position (numbered n form k) p0 || has on (numbered n form k)) ≡ true) × (block_at g w (numbered n form k) ≡ x)
        by_use x none used true there =
            let r = prior.used x none there in
            let miss : same_position (numbered n r.0 r.1) p0 ≡ false = elim (cases_Bool (same_position (numbered n r.0 r.1) p0)) [
              | inl hit ↦ absurd (differ (subst (λ (q : Position). has on q ≡ true) (is_p0 r.0 r.1 hit) r.3) out)
              | inr miss ↦ miss
            ] in (r.0, r.1, r.2, or_right (same_position (numbered n r.0 r.1) p0) (has on (numbered n r.0 r.1)) r.3, miss_block r.0 r.1 r.2 miss ∙ r.4)
        by_use x none used false there = elim (cases_eq x b) [
          | inl is ↦ (f, m0, low0, or_left (same_position p0 p0) (has on p0) (hits p0 p0 refl), hit_block f m0 low0 (hits p0 p0 refl) ∙ sym is)
          | inr far ↦ absurd (clash used (elim (cases_eq x 0) [
            | inl zero ↦ ap w.blocks zero ∙ unused_zero g w step.view
            | inr some ↦ elim (cases_eq x (now f m0)) [
              | inl moved ↦ ap w.blocks moved ∙ step.gone
              | inr away ↦ step.others x far away (λ same. differ (ap (is_used m) same ∙ top_used_now (λ zero. some (same ∙ zero))) there) ∙ none_of (m.blocks x) there
            ]
          ]))
        ]
