-- A node keeps its shape where some of its pointers are gone.
use Rattle.std.proofs.Common.{◌≡◌, ◌≢◌, ℕ, ◌+◌, ◌-◌, ◌*◌, ◌/◌, ◌%◌, ◌<◌, ◌≤◌, ◌==◌, ◌&&◌, ◌||◌, not, true, false, cond, eqb, ltb, List, refl, sym, ap, ◌∙◌, arith, inl, inr}
use Rattle.std.specs.List.{list_any}
use Rattle.std.proofs.lemmas.Bool.{cases_Bool, eq-eqb, or_from, le-ltb, cond-false, and_parts}
use Rattle.std.proofs.lemmas.Nat.{div-mul-add, mod-mul-add}
use Rattle.edge_base.specs.declared.form.Form.{Form}
use Rattle.edge_base.specs.declared.form.Form.TheVariants.{Plain, Indirect, Double}
use Rattle.edge_base.specs.declared.geometry.Request.{Request}
use Rattle.edge_base.specs.layout.Places.{pointers_of}
use Rattle.edge_base.specs.tree.Chains.{is_on_chain}
use Rattle.edge_base.specs.tree.Positions.{has, positions_of}
use Rattle.edge_base.proofs.ChainLaws.{has-positions_of}
use Rattle.edge_store.specs.View.{View, is_spot, is_whole, IsView}
use Rattle.edge_store.specs.Placed.{data_block, block_at}
use Rattle.edge_store.proofs.ViewLaws.{unused_zero}
use Rattle.edge_moves.specs.Relinks.{number_under}
use Rattle.edge_moves.specs.Sound.{numbered}
use Rattle.edge_shape.specs.Shape.{HasShape, IsLayout}
use Rattle.edge_shape.specs.Gone.{Pointers, gone_double, gone_indirect, gone_data, gone, left, Unlinks, Leaves, KeepsSpots}
use Rattle.edge_shape.proofs.ListLaws.{found, any_of, any-filter, true_false}
use Rattle.edge_shape.proofs.SpotLaws.{zero_no_spot}
use Rattle.edge_shape.proofs.LeadLaws.{shape_from_layout}
use Rattle.edge_shape.proofs.GoneLaws.{block_left, gone_below}
use Rattle.edge_shape.proofs.ShapeLaws.{in_range, listed, one_place}

-- ---- digits

module _ (g : Request) (taken : Pointers) where
  data_number : (j p : ℕ) → p < pointers_of g → (g.direct + (j * pointers_of g + p) - g.direct) / pointers_of g ≡ j
  data_number j p low = ap (λ (m : ℕ). m / pointers_of g) (let e : g.direct + (j * pointers_of g + p) - g.direct ≡ j * pointers_of g + p = omega arith in e) ∙ div-mul-add j (pointers_of g) p low

  data_place : (j p : ℕ) → p < pointers_of g → (g.direct + (j * pointers_of g + p) - g.direct) % pointers_of g ≡ p
  data_place j p low = ap (λ (m : ℕ). m % pointers_of g) (let e : g.direct + (j * pointers_of g + p) - g.direct ≡ j * pointers_of g + p = omega arith in e) ∙ mod-mul-add j (pointers_of g) p low

  indirect_number : (d s : ℕ) → s < pointers_of g → (g.indirect + (d * pointers_of g + s) - g.indirect) / pointers_of g ≡ d
  indirect_number d s low = ap (λ (m : ℕ). m / pointers_of g) (let e : g.indirect + (d * pointers_of g + s) - g.indirect ≡ d * pointers_of g + s = omega arith in e) ∙ div-mul-add d (pointers_of g) s low

  indirect_place : (d s : ℕ) → s < pointers_of g → (g.indirect + (d * pointers_of g + s) - g.indirect) % pointers_of g ≡ s
  indirect_place d s low = ap (λ (m : ℕ). m % pointers_of g) (let e : g.indirect + (d * pointers_of g + s) - g.indirect ≡ d * pointers_of g + s = omega arith in e) ∙ mod-mul-add d (pointers_of g) s low

  pub gone_data-down : (j p : ℕ) → p < pointers_of g → gone_data g taken (number_under g Indirect j p) ≡ (gone_indirect g taken j || taken.inner j p)
  gone_data-down j p low =
      cond-false (ltb (number_under g Indirect j p) g.direct) _ _ (le-ltb (number_under g Indirect j p) g.direct (omega arith))
      ∙ (λ i. gone_indirect g taken (data_number j p low i) || taken.inner (data_number j p low i) (data_place j p low i))

  pub gone_indirect-down : (d s : ℕ) → s < pointers_of g → gone_indirect g taken (number_under g Double d s) ≡ (gone_double g taken d || taken.outer d s)
  gone_indirect-down d s low =
      cond-false (ltb (number_under g Double d s) g.indirect) _ _ (le-ltb (number_under g Double d s) g.indirect (omega arith))
      ∙ (λ i. gone_double g taken (indirect_number d s low i) || taken.outer (indirect_number d s low i) (indirect_place d s low i))

  pub on_indirect : (j p : ℕ) → p < pointers_of g → is_on_chain g Indirect j (number_under g Indirect j p) ≡ true
  on_indirect j p low = λ i. not (le-ltb (number_under g Indirect j p) g.direct (past g.direct (j * pointers_of g + p)) i) && (ap (λ (m : ℕ). eqb m j) (data_number j p low) ∙ eq-eqb j j refl) i
    where
      past : (a m : ℕ) → a ≤ a + m
      past a m = omega arith

  pub on_double : (d s p : ℕ) → s < pointers_of g → p < pointers_of g → is_on_chain g Double d (g.direct + ((number_under g Double d s) * pointers_of g + p)) ≡ true
  on_double d s p low high =
      (λ i. not (le-ltb (g.direct + ((number_under g Double d s) * pointers_of g + p)) g.direct (past g.direct ((number_under g Double d s) * pointers_of g + p)) i)
      && (not (ltb (data_number (number_under g Double d s) p high i) g.indirect) && eqb ((data_number (number_under g Double d s) p high i - g.indirect) / pointers_of g) d))
      ∙ (λ i. not (le-ltb (number_under g Double d s) g.indirect (past g.indirect (d * pointers_of g + s)) i) && (ap (λ (m : ℕ). eqb m d) (indirect_number d s low) ∙ eq-eqb d d refl) i)
    where
      past : (a m : ℕ) → a ≤ a + m
      past a m = omega arith

-- ---- positions and indices of a node

module _ (g : Request) (v : View) (n : ℕ) (indices : List ℕ) (shape : HasShape g v n indices) where
  -- a position is that of an index under it
  pub position_of : (form : Form) (m i : ℕ) → list_any (λ x. x == i) indices ≡ true → is_on_chain g form m i ≡ true → has (positions_of g n indices) (numbered n form m) ≡ true
  position_of form m i member on = has-positions_of g n indices (numbered n form m) ∙ (λ t. eq-eqb n n refl t && any_of (is_on_chain g form m) indices i member on t)

  pub under_position : (form : Form) (m : ℕ) → has (positions_of g n indices) (numbered n form m) ≡ true → (i : ℕ) × (list_any (λ x. x == i) indices ≡ true) × (is_on_chain g form m i ≡ true)
  under_position form m h =
      let any = and_parts (n == n) (list_any (is_on_chain g form m) indices) (sym (has-positions_of g n indices (numbered n form m)) ∙ h) in
      found (is_on_chain g form m) indices any.1

  pub position_there : (form : Form) (m : ℕ) → has (positions_of g n indices) (numbered n form m) ≡ true → block_at g v (numbered n form m) ≢ 0
  position_there form m h none = zero_no_spot v form n (unused_zero g v shape.view) (ap (is_spot v form n) (sym none) ∙ shape.places.spots (numbered n form m) h)

  -- an index of the node is one with a data block
  pub index_there : (i : ℕ) → list_any (λ x. x == i) indices ≡ true → data_block g v n i ≢ 0
  index_there i member = position_there Plain i (position_of Plain i i member (eq-eqb i i refl))

  pub index_listed : (i : ℕ) → data_block g v n i ≢ 0 → list_any (λ x. x == i) indices ≡ true
  index_listed i there = (and_parts (n == n) (list_any (λ x. x == i) indices) (sym (has-positions_of g n indices (numbered n Plain i)) ∙ listed g v n indices shape Plain i there)).1

-- ---- what is left has the shape of a node

module _ (g : Request) (v w : View) (n : ℕ) (indices : List ℕ) (shape : HasShape g v n indices) (taken : Pointers) (un : Unlinks g v w n taken) (leaves : Leaves g v n taken)
    (view : IsView g w) (inode : is_whole (w.inodes n) ≡ true) (spots : KeepsSpots g v w n taken) where
  abbrev rest : List ℕ
  rest = left g taken indices

  -- the blocks that are left
  abbrev to : Form → ℕ → ℕ
  to form m = cond (gone g taken form m) 0 (block_at g v (numbered n form m))

  kept_to : (form : Form) (m : ℕ) → gone g taken form m ≡ false → to form m ≡ block_at g v (numbered n form m)
  kept_to form m kept = ap (λ t. cond t 0 (block_at g v (numbered n form m))) kept

  there_then : (form : Form) (m : ℕ) → to form m ≢ 0 → (gone g taken form m ≡ false) × (block_at g v (numbered n form m) ≢ 0)
  there_then form m there = elim (cases_Bool (gone g taken form m)) [
    | inl lost ↦ absurd (there (ap (λ t. cond t 0 (block_at g v (numbered n form m))) lost))
    | inr kept ↦ (kept, λ none. there (kept_to form m kept ∙ none))
  ]

  -- each position that is left has an index under it that is
  some_left : (form : Form) (m : ℕ) → gone g taken form m ≡ false → block_at g v (numbered n form m) ≢ 0
      → (i : ℕ) × (list_any (λ x. x == i) indices ≡ true) × (is_on_chain g form m i ≡ true) × (gone_data g taken i ≡ false)
  some_left Plain m kept there = (m, index_listed g v n indices shape m there, eq-eqb m m refl, kept)
  some_left Indirect m kept there =
      let r = leaves.inner m kept there in
      (number_under g Indirect m r.0, index_listed g v n indices shape (number_under g Indirect m r.0) r.2, on_indirect g taken m r.0 r.1, gone_data-down g taken m r.0 r.1 ∙ or_from _ _ kept r.3)
  some_left Double m kept there =
      let s = leaves.outer m kept there in
      let j = number_under g Double m s.0 in
      let kept_j : gone_indirect g taken j ≡ false = gone_indirect-down g taken m s.0 s.1 ∙ or_from _ _ kept s.3 in
      let r = leaves.inner j kept_j s.2 in
      (number_under g Indirect j r.0, index_listed g v n indices shape (number_under g Indirect j r.0) r.2, on_double g taken m s.0 r.0 s.1 r.1, gone_data-down g taken j r.0 r.1 ∙ or_from _ _ kept_j r.3)

  has_rest : (form : Form) (m i : ℕ) → list_any (λ x. x == i) indices ≡ true → is_on_chain g form m i ≡ true → gone_data g taken i ≡ false → has (positions_of g n rest) (numbered n form m) ≡ true
  has_rest form m i member on kept =
      has-positions_of g n rest (numbered n form m)
      ∙ (λ t. eq-eqb n n refl t && any-filter (λ x. not (gone_data g taken x)) (is_on_chain g form m) indices t)
      ∙ any_of (λ x. not (gone_data g taken x) && is_on_chain g form m x) indices i member (λ t. not (kept t) && on t)

  from_rest : (form : Form) (m : ℕ) → has (positions_of g n rest) (numbered n form m) ≡ true → (has (positions_of g n indices) (numbered n form m) ≡ true) × (gone g taken form m ≡ false)
  from_rest form m h =
      let any = and_parts (n == n) (list_any (is_on_chain g form m) rest) (sym (has-positions_of g n rest (numbered n form m)) ∙ h) in
      let f = found (λ x. not (gone_data g taken x) && is_on_chain g form m x) indices (sym (any-filter (λ x. not (gone_data g taken x)) (is_on_chain g form m) indices) ∙ any.1) in
      let parts = and_parts (not (gone_data g taken f.0)) (is_on_chain g form m f.0) f.2 in (
        position_of g v n indices shape form m f.0 f.1 parts.1,
        elim (cases_Bool (gone g taken form m)) [
          | inl lost ↦ absurd (true_false (sym parts.0 ∙ ap not (gone_below g taken form m f.0 parts.1 lost)))
          | inr kept ↦ kept
        ],
      )

  layout_left : IsLayout g w n rest to
  layout_left = record {
    within = λ form m h. in_range g v n indices shape form m (position_there g v n indices shape form m (from_rest form m h).0);
    there = λ form m h. let r = from_rest form m h in λ none. position_there g v n indices shape form m r.0 (sym (kept_to form m r.1) ∙ none);
    listed = λ form m low there. let t = there_then form m there in let r = some_left form m t.0 t.1 in has_rest form m r.0 r.1 r.2 r.3;
    spots = λ form m h. let r = from_rest form m h in ap (is_spot w form n) (kept_to form m r.1) ∙ spots form m r.1 (position_there g v n indices shape form m r.0);
    apart = λ form other m l h other_h same.
        let r = from_rest form m h in
        let u = from_rest other l other_h in
        one_place g v n indices shape form other m l (position_there g v n indices shape form m r.0) (sym (kept_to form m r.1) ∙ same ∙ kept_to other l u.1);
  }

  -- what is left stays where it is
  pub block_stays : (form : Form) (m : ℕ) → has (positions_of g n rest) (numbered n form m) ≡ true → block_at g w (numbered n form m) ≡ block_at g v (numbered n form m)
  block_stays form m h = block_left g v w n taken un form m ∙ kept_to form m (from_rest form m h).1

  pub kept_where : (form : Form) (m : ℕ) → has (positions_of g n rest) (numbered n form m) ≡ true → gone g taken form m ≡ false
  kept_where form m h = (from_rest form m h).1

  -- what is not left is gone
  pub gone_where : (form : Form) (m : ℕ) → has (positions_of g n indices) (numbered n form m) ≡ true → has (positions_of g n rest) (numbered n form m) ≡ false → gone g taken form m ≡ true
  gone_where form m h none = elim (cases_Bool (gone g taken form m)) [
    | inl lost ↦ lost
    | inr kept ↦ let r = some_left form m kept (position_there g v n indices shape form m h) in absurd (true_false (sym (has_rest form m r.0 r.1 r.2 r.3) ∙ none))
  ]

  pub shape_left : HasShape g w n rest
  shape_left = shape_from_layout g w n rest to shape.geometry view inode (λ form m low. block_left g v w n taken un form m) layout_left
