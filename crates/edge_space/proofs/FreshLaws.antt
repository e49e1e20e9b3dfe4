-- Fresh positions counted along entries, places and rows.
use Rattle.std.proofs.Common.{◌≡◌, ℕ, ◌+◌, ◌-◌, ◌*◌, ◌<◌, ◌≤◌, not, Bool, true, false, cond, ltb, refl, sym, ap, ◌∙◌, arith}
use Rattle.std.specs.Prelude.{max, min}
use Rattle.std.specs.List.{count_by, range_with_len}
use Rattle.std.proofs.lemmas.Bool.{lt-ltb, cond-true}
use Rattle.edge_base.specs.declared.form.Form.TheVariants.{Plain, Indirect, Double}
use Rattle.edge_base.specs.declared.geometry.Request.{Request}
use Rattle.edge_base.specs.layout.Places.{pointers_of}
use Rattle.edge_base.specs.tree.Positions.{positions_of_form}
use Rattle.edge_store.specs.Fresh.{is_dirty}
use Rattle.edge_store.specs.Placed.{entry_at, pointer_at, data_block, indirect_block, double_block}
use Rattle.edge_store.specs.View.{View, is_new}
use Rattle.edge_moves.specs.Relinks.{number_under}
use Rattle.edge_moves.specs.Renewal.{cost}
use Rattle.edge_moves.specs.Sound.{numbered}
use Rattle.edge_moves.proofs.SelfLaws.{self_relinks}
use Rattle.edge_count.specs.Runs.{first_row}
use Rattle.edge_space.specs.Counts.{fresh_of_form}
use Rattle.edge_space.proofs.CountLaws.{count-append, count-one, count-more, count-alike}
use Rattle.edge_space.proofs.RowLaws.{reach, IsRowOf, row_adds}

-- what making a block new takes counts it where it is not new
counts_one : (t : Bool) → ◌≡◌ {A = ℕ} (cond t 0 1) (cond (not t) 1 0)
counts_one true = refl
counts_one false = refl

-- one block more, of entries or of places
pub one_more : (c v : View) (block : ℕ → ℕ) (a k fresh taken : ℕ) → a ≤ k → fresh ≡ count_by (λ e. not (is_new c v (block e))) (range_with_len a (k - a)) → taken ≡ cost c v (block k)
    → fresh + taken ≡ count_by (λ e. not (is_new c v (block e))) (range_with_len a (k + 1 - a))
one_more c v block a k fresh taken low so this =
    let more = count-more (λ e. not (is_new c v (block e))) a (k - a) k (let e : a + (k - a) ≡ k = omega arith in e) in
    let flip = counts_one (is_new c v (block k)) in
    (λ i. so i + (this ∙ flip) i) ∙ sym more ∙ ap (λ (m : ℕ). count_by (λ e. not (is_new c v (block e))) (range_with_len a m)) (let e : k - a + 1 ≡ k + 1 - a = omega arith in e)

module _ (g : Request) (c v : View) (n : ℕ) where
  -- ---- by entries

  direct_at : (i : ℕ) → i < g.direct → data_block g v n i ≡ entry_at v n i
  unfolding data_block
  direct_at i low = cond-true (ltb i g.direct) _ _ (lt-ltb i g.direct low)

  pub direct_fresh : (first count : ℕ) → first + count ≤ g.direct
      → fresh_of_form g c v n Plain first count ≡ count_by (λ e. not (is_new c v (entry_at v n e))) (range_with_len first count)
  direct_fresh first count low =
      count-alike (λ k. not (is_dirty g c v (numbered n Plain k))) (λ e. not (is_new c v (entry_at v n e))) first first count (λ k below. ap (λ (b : ℕ). not (is_new c v b)) (direct_at (first + k) (omega arith)))

  pub double_fresh : (first count : ℕ)
      → fresh_of_form g c v n Double first count ≡ count_by (λ e. not (is_new c v (entry_at v n e))) (range_with_len (g.direct + g.indirect + first) count)
  unfolding double_block
  double_fresh first count =
      count-alike (λ k. not (is_dirty g c v (numbered n Double k))) (λ e. not (is_new c v (entry_at v n e))) first (g.direct + g.indirect + first) count
      (λ k below. ap (λ (e : ℕ). not (is_new c v (entry_at v n e))) (let e : g.direct + g.indirect + (first + k) ≡ g.direct + g.indirect + first + k = omega arith in e))

  -- ---- by places

  pub node_fresh : (row : ℕ) → cost c v (indirect_block g v n row) ≡ fresh_of_form g c v n Indirect row 1
  node_fresh row = counts_one (is_new c v (indirect_block g v n row)) ∙ sym (count-one (λ k. not (is_dirty g c v (numbered n Indirect k))) row)

  pub places_fresh : (row first count : ℕ) → row < positions_of_form g Indirect → first + count ≤ pointers_of g
      → fresh_of_form g c v n Plain (number_under g Indirect row first) count
      ≡ count_by (λ p. not (is_new c v (pointer_at v Indirect (indirect_block g v n row) p))) (range_with_len first count)
  places_fresh row first count in_range low =
      count-alike (λ k. not (is_dirty g c v (numbered n Plain k))) (λ p. not (is_new c v (pointer_at v Indirect (indirect_block g v n row) p))) (number_under g Indirect row first) first count
      (λ k below. ap (λ (i : ℕ). not (is_new c v (data_block g v n i))) (let e : g.direct + (row * pointers_of g + first) + k ≡ g.direct + (row * pointers_of g + (first + k)) = omega arith in e)
      ∙ sym (ap (λ (b : ℕ). not (is_new c v b)) ((self_relinks g v n).pointers Indirect row (first + k) (λ e. absurd (cc)) in_range (omega arith))))

  -- ---- by rows

  -- what is counted of the rows before one, in a run of data blocks
  abbrev pub of_rows : ℕ → ℕ → ℕ → ℕ
  of_rows lo len row =
      fresh_of_form g c v n Indirect (first_row g.direct (pointers_of g) lo) (row - first_row g.direct (pointers_of g) lo)
      + fresh_of_form g c v n Plain (max lo g.direct) (reach g.direct (pointers_of g) lo (lo + len) row - max lo g.direct)

  pub row_more : (lo len row first many fresh taken : ℕ) → first_row g.direct (pointers_of g) lo ≤ row → IsRowOf g.direct (pointers_of g) lo len row
      → first ≡ lo - (g.direct + row * pointers_of g) → first + many ≡ min (lo + len - (g.direct + row * pointers_of g)) (pointers_of g)
      → fresh ≡ of_rows lo len row
      → taken ≡ fresh_of_form g c v n Indirect row 1 + fresh_of_form g c v n Plain (number_under g Indirect row first) many
      → fresh + taken ≡ of_rows lo len (row + 1)
  row_more lo len row first many fresh taken from is begin end so this =
      let a = g.direct in
      let k = pointers_of g in
      let start = max lo a in
      let done = reach a k lo (lo + len) row - start in
      let rows = first_row a k lo in
      let adds = row_adds a k lo len row first many is begin end in
      let nodes : fresh_of_form g c v n Indirect rows (row + 1 - rows) ≡ fresh_of_form g c v n Indirect rows (row - rows) + fresh_of_form g c v n Indirect row 1 =
      ap (fresh_of_form g c v n Indirect rows) (let e : row + 1 - rows ≡ row - rows + 1 = omega arith in e)
      ∙ count-append (λ k. not (is_dirty g c v (numbered n Indirect k))) rows (row - rows) 1
      ∙ ap (λ (m : ℕ). fresh_of_form g c v n Indirect rows (row - rows) + fresh_of_form g c v n Indirect m 1) (let e : rows + (row - rows) ≡ row = omega arith in e) in
      let blocks : fresh_of_form g c v n Plain start (reach a k lo (lo + len) (row + 1) - start) ≡ fresh_of_form g c v n Plain start done + fresh_of_form g c v n Plain (number_under g Indirect row first) many =
      ap (fresh_of_form g c v n Plain start) adds.upto
      ∙ count-append (λ k. not (is_dirty g c v (numbered n Plain k))) start done many
      ∙ ap (λ (m : ℕ). fresh_of_form g c v n Plain start done + fresh_of_form g c v n Plain m many) adds.from in
      omega arith

  -- ---- the run

  -- the data blocks of a run are the direct ones and those behind
  pub split_run : (lo len : ℕ) → fresh_of_form g c v n Plain lo len
      ≡ fresh_of_form g c v n Plain (min lo g.direct) (min len (g.direct - lo)) + fresh_of_form g c v n Plain (max lo g.direct) (lo + len - max lo g.direct)
  split_run lo len =
      let a = g.direct in
      let test = λ (k : ℕ). not (is_dirty g c v (numbered n Plain k)) in
      let m = min len (a - lo) in
      let r = lo + len - max lo a in
      ap (fresh_of_form g c v n Plain lo) (let e : len ≡ m + r = omega arith in e)
      ∙ count-append test lo m r
      ∙ (λ i. count-alike test test lo (min lo a) m (λ k below. ap test (let e : lo + k ≡ min lo a + k = omega arith in e)) i
      + count-alike test test (lo + m) (max lo a) r (λ k below. ap test (let e : lo + m + k ≡ max lo a + k = omega arith in e)) i)
