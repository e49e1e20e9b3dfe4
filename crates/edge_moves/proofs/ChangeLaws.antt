-- A data block made writable, as a change at its node.
use Rattle.std.proofs.Common.{◌≡◌, ◌≢◌, ℕ, ◌<◌, ◌==◌, ◌&&◌, ◌||◌, not, Bool, true, false, cond, is_some, List, [], ◌∷◌, replicate, ◌⊎◌, inl, inr, ⊎_elim, refl, sym, ap, ◌∙◌, subst, eq-eqb}
use Rattle.std.proofs.lemmas.Bool.{false≢true, cases_eq, cases_Bool, or_left, or_right, ne_eqb}
use Rattle.edge_base.specs.declared.form.Form.TheVariants.{Plain}
use Rattle.edge_base.specs.declared.geometry.Request.{Request}
use Rattle.edge_base.specs.layout.Places.{max_blocks_of}
use Rattle.edge_base.specs.tree.Positions.{Position, data_at, has, chain, positions_of}
use Rattle.edge_base.proofs.ChainLaws.{has-positions_of-number}
use Rattle.edge_base.proofs.PositionLaws.{has-append}
use Rattle.edge_store.specs.Changed.{has_index, IsBlockOf, IsNoBlockOf, NodeChanged, NodeDirtied, KeepsContents}
use Rattle.edge_store.specs.Fresh.{is_dirty}
use Rattle.edge_store.specs.Placed.{block_at, data_block, HasPlaces}
use Rattle.edge_store.specs.View.{View, IsView, bytes, content, content_at, empty_content, is_new, is_used}
use Rattle.edge_store.proofs.ChangedLaws.{block_or_none, data_there, touches, touched_chain, touches_one}
use Rattle.edge_store.proofs.NodeEffects.{chain_low, data_on_chain, index_of}
use Rattle.edge_store.proofs.ViewLaws.{unused_zero}
use Rattle.edge_moves.specs.Renewal.{held_by}
use Rattle.edge_moves.specs.Writable.{IsMadeWritable, Came}

module _ (g : Request) (c v w : View) (n i : ℕ) (indices : List ℕ) (view : IsView g v) (low : i < max_blocks_of g) (places : HasPlaces g v n indices) (made : IsMadeWritable g c v w n i indices) where
  on_all : (p : Position) → has (chain g n i) p ≡ true → has (positions_of g n (i ∷ indices)) p ≡ true
  on_all p h = has-append (chain g n i) (positions_of g n indices) p ∙ or_left (has (chain g n i) p) (has (positions_of g n indices) p) h

  old_all : (p : Position) → has (positions_of g n indices) p ≡ true → has (positions_of g n (i ∷ indices)) p ≡ true
  old_all p h = has-append (chain g n i) (positions_of g n indices) p ∙ or_right (has (chain g n i) p) (has (positions_of g n indices) p) h

  was_old : (p : Position) → has (positions_of g n (i ∷ indices)) p ≡ true → has (chain g n i) p ≡ false → has (positions_of g n indices) p ≡ true
  was_old p h out = sym (ap (λ b. b || has (positions_of g n indices) p) out) ∙ sym (has-append (chain g n i) (positions_of g n indices) p) ∙ h

  none_used : (b : ℕ) → b ≡ 0 → is_used v b ≡ false
  none_used b none = ap (is_used v) none ∙ ap is_some (unused_zero g v view)

  -- a position that the chain adds had no block
  absent : (p : Position) → has (chain g n i) p ≡ true → has (positions_of g n indices) p ≡ false → is_used v (block_at g v p) ≡ false
  absent p on out = ⊎_elim
      (λ (none : block_at g v p ≡ 0). none_used (block_at g v p) none)
      (λ (some : block_at g v p ≡ 0 → ⊥). absurd (false≢true (sym out ∙ (places.places p (has-positions_of-number g n (i ∷ indices) p (on_all p on)) (chain_low g n i p low on)).0 some)))
      (cases_eq (block_at g v p) 0)

  kept : (p : Position) → has (chain g n i) p ≡ true → block_at g w p ≡ block_at g v p → (is_used v (block_at g w p) ≡ false) ⊎ IsBlockOf g v n indices (block_at g w p)
  kept p on same = ⊎_elim
      (λ (there : has (positions_of g n indices) p ≡ true). inr (record { position = p; is_there = there; block = sym same }))
      (λ (out : has (positions_of g n indices) p ≡ false). inl (ap (is_used v) same ∙ absent p on out))
      (cases_Bool (has (positions_of g n indices) p))

  own_now : (b : ℕ) → is_used w b ≡ true → IsBlockOf g v n indices b → IsBlockOf g w n (i ∷ indices) b
  own_now b used own = ⊎_elim
      (λ (on : has (chain g n i) own.position ≡ true). ⊎_elim
      (λ (same : block_at g w own.position ≡ block_at g v own.position). record { position = own.position; is_there = on_all own.position on; block = same ∙ own.block })
      (λ (came : Came c v w (block_at g v own.position) (block_at g w own.position)). absurd (false≢true (sym (ap is_some came.gone) ∙ ap (is_used w) own.block ∙ used)))
      (made.came own.position on))
      (λ (out : has (chain g n i) own.position ≡ false). record { position = own.position; is_there = old_all own.position own.is_there; block = made.stays own.position own.is_there out ∙ own.block })
      (cases_Bool (has (chain g n i) own.position))

  pub writable_changed : NodeChanged g v w n indices (i ∷ indices)
  writable_changed = record {
    were = places;
    places = made.places;
    once = made.once;
    inodes = made.inodes;
    blocks = λ b used none. made.others b used (λ p on e. ⊎_elim
        (λ (there : has (positions_of g n indices) p ≡ true). none p there e)
        (λ (out : has (positions_of g n indices) p ≡ false). false≢true (sym (absent p on out) ∙ ap (is_used v) e ∙ used))
        (cases_Bool (has (positions_of g n indices) p)));
    taken = λ p h. ⊎_elim
        (λ (on : has (chain g n i) p ≡ true). ⊎_elim
        (λ (same : block_at g w p ≡ block_at g v p). kept p on same)
        (λ (came : Came c v w (block_at g v p) (block_at g w p)). inl (ap is_some came.fresh))
        (made.came p on))
        (λ (out : has (chain g n i) p ≡ false). let there = was_old p h out in inr (record { position = p; is_there = there; block = sym (made.stays p there out) }))
        (cases_Bool (has (chain g n i) p));
    left = λ b used. ⊎_elim
        (λ (was : is_used v b ≡ true). ⊎_elim
        (λ (own : IsBlockOf g v n indices b). inl (own_now b used own))
        (λ (none : IsNoBlockOf g v n indices b). inr (was, none))
        (block_or_none g v n indices b))
        (λ (unused : is_used v b ≡ false). let r = made.used b unused used in inl (record { position = r.0; is_there = on_all r.0 r.1; block = r.2 }))
        (cases_Bool (is_used v b));
  }

  -- ---- what is dirty

  or_false : (b : Bool) → (b || false) ≡ b
  or_false true = refl
  or_false false = refl

  here : has_index (i ∷ []) i ≡ true
  here = ap (λ b. b || false) (eq-eqb i i refl)

  pub writable_dirty : NodeDirtied g c v w n indices (i ∷ indices) (i ∷ []) []
  writable_dirty = record {
    dirty = λ p h. ⊎_elim
        (λ (on : has (chain g n i) p ≡ true).
        made.dirty p on ∙ sym (or_right (has (positions_of g n indices) p && is_dirty g c v p) (touches g n (i ∷ []) [] p) (touched_chain g n (i ∷ []) [] i p here on)))
        (λ (out : has (chain g n i) p ≡ false).
        let there = was_old p h out in
        ap (is_new c w) (made.stays p there out)
        ∙ ap (λ used. used && not (is_used c (block_at g v p))) (ap is_some (made.holds p there out))
        ∙ sym (ap (λ b. (has (positions_of g n indices) p && is_dirty g c v p) || b) (touches_one g n i p ∙ out)
        ∙ or_false (has (positions_of g n indices) p && is_dirty g c v p) ∙ ap (λ b. b && is_dirty g c v p) there))
        (cases_Bool (has (chain g n i) p));
    added = λ k there absent. sym (ap (λ b. (i == k) || b) absent) ∙ there;
  }

  -- ---- what the data blocks hold

  held : (b : ℕ) → b ≢ 0 → held_by g v Plain n b ≡ content_at v Plain b
  held b some = ap (λ t. cond t (empty_content g Plain n) (content_at v Plain b)) (ne_eqb b 0 some)

  held_none : (b : ℕ) → b ≡ 0 → held_by g v Plain n b ≡ empty_content g Plain n
  held_none b none = ap (λ t. cond t (empty_content g Plain n) (content_at v Plain b)) (eq-eqb b 0 none)

  pub writable_contents : KeepsContents g v w n indices
  writable_contents k there = ⊎_elim
      (λ (same : k ≡ i). subst (λ (x : ℕ). content_at w Plain (data_block g w n x) ≡ content_at v Plain (data_block g v n x)) (sym same)
      (made.content ∙ held (data_block g v n i) ((places.places (data_at n i) refl low).1 (data_there g n indices i (ap (has_index indices) (sym same) ∙ there)))))
      (λ (other : k ≡ i → ⊥).
      let at = data_there g n indices k there in
      let out = data_on_chain g n i k other in
      ap (content_at w Plain) (made.stays (data_at n k) at out) ∙ ap (content Plain) (made.holds (data_at n k) at out))
      (cases_eq k i)

  pub writable_zeros : has_index indices i ≡ false → content_at w Plain (data_block g w n i) ≡ bytes (replicate g.block_size 0)
  writable_zeros none = made.content ∙ held_none (data_block g v n i) (⊎_elim
      (λ (zero : data_block g v n i ≡ 0). zero)
      (λ (some : data_block g v n i ≡ 0 → ⊥). absurd (false≢true (sym none ∙ index_of g n indices i ((places.places (data_at n i) refl low).0 some))))
      (cases_eq (data_block g v n i) 0))
