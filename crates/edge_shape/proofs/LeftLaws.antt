-- What is left of a node whose pointers are cut, as ranges of indices.
use Rattle.std.proofs.Common.{◌≡◌, ◌≢◌, ℕ, ◌+◌, ◌-◌, ◌*◌, ◌/◌, ◌%◌, ◌<◌, ◌≤◌, ◌==◌, not, true, ltb, List, sym, ap, ◌∙◌, subst, arith, inl, inr}
use Rattle.std.specs.Prelude.{slice_index}
use Rattle.std.specs.List.{list_any, filter}
use Rattle.std.proofs.lemmas.Bool.{cases_lt, lt-ltb, le-ltb, cond-true, cond-false}
use Rattle.std.proofs.Math.Nat.{mul-le-mul_right}
use Rattle.edge_base.specs.declared.form.Form.TheVariants.{Indirect, Double}
use Rattle.edge_base.specs.declared.geometry.Request.{Request}
use Rattle.edge_base.specs.layout.Places.{entries_of, pointers_of}
use Rattle.edge_store.specs.View.{View, IsView, is_whole}
use Rattle.edge_store.specs.Placed.{entry_at, double_block, indirect_block, data_block}
use Rattle.edge_moves.specs.Relinks.{number_under}
use Rattle.edge_shape.specs.Shape.{HasShape, entries_at, before, outside, HasBetween}
use Rattle.edge_shape.specs.Gone.{gone_data, left, entry_places}
use Rattle.edge_shape.specs.Cutting.{CutPlaces}
use Rattle.edge_shape.specs.Where.{first_in_entry}
use Rattle.edge_shape.proofs.ListLaws.{filter-members}
use Rattle.edge_moves.proofs.SlotLaws.{some_pointers_fit}
use Rattle.edge_shape.proofs.SpotLaws.{pointer_there}
use Rattle.edge_shape.proofs.ShapeLaws.{entry_there, data_above, data_down, indirect_down, data_pointer, indirect_pointer, some_below}
use Rattle.edge_shape.proofs.LeaveLaws.{index_there, index_listed}
use Rattle.edge_shape.proofs.IndirectCutLaws.{indirect_cut}
use Rattle.edge_shape.proofs.RangeLaws.{from_row, below_row, gone-indirect_places, kept-entry_places, root, root-direct, root-single, root-double}

module _ (g : Request) (v : View) (n : ℕ) (indices : List ℕ) (shape : HasShape g v n indices) where
  abbrev k : ℕ
  k = pointers_of g

  pub some : 0 < pointers_of g
  some = some_pointers_fit g shape.geometry

  zero_le : (m : ℕ) → 0 ≤ m
  zero_le m = omega arith

  -- ---- indices and the pointers above them

  -- an index in a range of places of an indirect node has a pointer there
  pub in_node : (j from upto : ℕ) → upto ≤ k → HasBetween indices (number_under g Indirect j from) (number_under g Indirect j upto)
      → (q : ℕ) × (from ≤ q) × (q < upto) × (indirect_block g v n j ≢ 0) × (slice_index (entries_at v Indirect (indirect_block g v n j)) q ≢ 0)
  in_node j from upto most between =
      let x = between.0 in
      let low : g.direct + (j * k + from) ≤ x = between.2 in
      let high : x < g.direct + (j * k + upto) = between.3 in
      let q : ℕ = x - (g.direct + j * k) in
      let is : number_under g Indirect j q ≡ x = omega arith in
      let q_low : q < k = omega arith in
      let there : data_block g v n (number_under g Indirect j q) ≢ 0 = subst (λ (y : ℕ). data_block g v n y ≢ 0) (sym is) (index_there g v n indices shape x between.1) in
      let node : indirect_block g v n j ≢ 0 = pointer_there v Indirect (indirect_block g v n j) q (λ none. there (data_down g v n indices shape j q q_low ∙ none)) in
      (q, (let e : from ≤ q = omega arith in e), (let e : q < upto = omega arith in e), node, λ none. there (sym (data_pointer g v n indices shape j node q q_low) ∙ none))

  pub from_node : (j from upto q : ℕ) → upto ≤ k → from ≤ q → q < upto → indirect_block g v n j ≢ 0 → slice_index (entries_at v Indirect (indirect_block g v n j)) q ≢ 0
      → HasBetween indices (number_under g Indirect j from) (number_under g Indirect j upto)
  from_node j from upto q most low high node there = (
    number_under g Indirect j q,
    index_listed g v n indices shape (number_under g Indirect j q) (λ none. there (data_pointer g v n indices shape j node q (omega arith) ∙ none)),
    (let e : number_under g Indirect j from ≤ number_under g Indirect j q = omega arith in e),
    (let e : number_under g Indirect j q < number_under g Indirect j upto = omega arith in e),
  )

  -- one in a range of places of a double-indirect node too
  pub in_double : (d from upto : ℕ) → upto ≤ k → HasBetween indices (number_under g Indirect (number_under g Double d from) 0) (number_under g Indirect (number_under g Double d upto) 0)
      → (s : ℕ) × (from ≤ s) × (s < upto) × (double_block g v n d ≢ 0) × (slice_index (entries_at v Double (double_block g v n d)) s ≢ 0)
  in_double d from upto most between =
      let x = between.0 in
      let low : g.direct + (number_under g Double d from * k + 0) ≤ x = between.2 in
      let high : x < g.direct + (number_under g Double d upto * k + 0) = between.3 in
      let past : g.direct ≤ x = omega (arith, zero_le (number_under g Double d from * k)) in
      let r : ℕ = (x - g.direct) / k in
      let r_low : g.indirect + (d * k + from) ≤ r = from_row g.direct k some (number_under g Double d from) x past (let e : g.direct + number_under g Double d from * k ≤ x = omega arith in e) in
      let r_high : r < g.indirect + (d * k + upto) = below_row g.direct k some (number_under g Double d upto) x past (let e : x < g.direct + number_under g Double d upto * k = omega arith in e) in
      let s : ℕ = r - (g.indirect + d * k) in
      let is : number_under g Double d s ≡ r = omega arith in
      let s_low : s < k = omega arith in
      let there : indirect_block g v n (number_under g Double d s) ≢ 0 = subst (λ (y : ℕ). indirect_block g v n y ≢ 0) (sym is) (data_above g v n indices shape x past (index_there g v n indices shape x between.1)) in
      let node : double_block g v n d ≢ 0 = pointer_there v Double (double_block g v n d) s (λ none. there (indirect_down g v n indices shape d s s_low ∙ none)) in
      (s, (let e : from ≤ s = omega arith in e), (let e : s < upto = omega arith in e), node, λ none. there (sym (indirect_pointer g v n indices shape d node s s_low) ∙ none))

  pub from_double : (d from upto s : ℕ) → upto ≤ k → from ≤ s → s < upto → double_block g v n d ≢ 0 → slice_index (entries_at v Double (double_block g v n d)) s ≢ 0
      → HasBetween indices (number_under g Indirect (number_under g Double d from) 0) (number_under g Indirect (number_under g Double d upto) 0)
  from_double d from upto s most low high node there =
      let r = some_below g v n indices shape (number_under g Double d s) (λ none. there (indirect_pointer g v n indices shape d node s (omega arith) ∙ none)) in
      let place : r.0 < k = r.1 in
      let up : number_under g Double d from * k ≤ number_under g Double d s * k = mul-le-mul_right k (let e : number_under g Double d from ≤ number_under g Double d s = omega arith in e) in
      let next : (number_under g Double d s + 1) * k ≤ number_under g Double d upto * k = mul-le-mul_right k (let e : number_under g Double d s + 1 ≤ number_under g Double d upto = omega arith in e) in
      let one : (number_under g Double d s + 1) * k ≡ number_under g Double d s * k + k = one_row (number_under g Double d s) k in (
        number_under g Indirect (number_under g Double d s) r.0,
        index_listed g v n indices shape (number_under g Indirect (number_under g Double d s) r.0) r.2,
        (let e : number_under g Indirect (number_under g Double d from) 0 ≤ number_under g Indirect (number_under g Double d s) r.0 = omega arith in e),
        (let e : number_under g Indirect (number_under g Double d s) r.0 < number_under g Indirect (number_under g Double d upto) 0 = omega arith in e),
      )
    where
      one_row : (m w : ℕ) → (m + 1) * w ≡ m * w + w
      one_row m w = grind arith

  -- the entry above an index of the node is one of the inode
  pub root_there : (x : ℕ) → list_any (λ y. y == x) indices ≡ true → root g some x < entries_of g
  unfolding data_block indirect_block double_block
  root_there x member =
      let there = index_there g v n indices shape x member in
      elim (cases_lt x g.direct) [
        | inl low ↦ subst (λ (e : ℕ). e < entries_of g) (sym (root-direct g some x low)) (entry_there g v n indices shape x (λ none. there (cond-true (ltb x g.direct) _ _ (lt-ltb x g.direct low) ∙ none)))
        | inr past ↦
            let above = data_above g v n indices shape x past there in
            let row : ℕ = (x - g.direct) / k in
            elim (cases_lt row g.indirect) [
              | inl single ↦ subst (λ (e : ℕ). e < entries_of g) (sym (root-single g some x past single))
                  (entry_there g v n indices shape (g.direct + row) (λ none. above (cond-true (ltb row g.indirect) _ _ (lt-ltb row g.indirect single) ∙ none)))
              | inr double ↦ subst (λ (e : ℕ). e < entries_of g) (sym (root-double g some x past double))
                  (entry_there g v n indices shape (g.direct + g.indirect + (row - g.indirect) / k)
                  (pointer_there v Double (entry_at v n (g.direct + g.indirect + (row - g.indirect) / k)) ((row - g.indirect) % k)
                  (λ none. above (cond-false (ltb row g.indirect) _ _ (le-ltb row g.indirect double) ∙ none))))
            ]
      ]

  pub left-entry_places : (e : ℕ) → left g (entry_places e (entries_of g)) indices ≡ before (first_in_entry g e) indices
  left-entry_places e =
      filter-members (λ x. not (gone_data g (entry_places e (entries_of g)) x)) (λ x. ltb x (first_in_entry g e)) indices (λ x member. kept-entry_places g some e (entries_of g) x (root_there x member))

  -- ---- an indirect node cut

  module _ (w : View) (view : IsView g w) where
    -- an indirect node is cut from a place on, and something before it stays
    pub node_left : (j from : ℕ) → from ≤ k → HasBetween indices (number_under g Indirect j 0) (number_under g Indirect j from) → CutPlaces v w Indirect n (indirect_block g v n j) from k
        → HasShape g w n (outside (number_under g Indirect j from) (number_under g Indirect j k) indices)
    node_left j from most stays cut =
        let r = in_node j 0 from most stays in
        subst (HasShape g w n) (λ i. filter (λ x. not (gone-indirect_places g some j from k x (omega arith) i)) indices)
        (indirect_cut g v w n indices shape j from r.3 cut (r.0, r.2, (let q : r.0 < from = r.2 in let e : r.0 < k = omega arith in e), r.4) view
        (ap is_whole (ap (λ (o : ℕ → _). o n) cut.inodes) ∙ shape.inode))
