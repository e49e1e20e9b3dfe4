-- Data blocks of a node made new, as a change at the node.
use Rattle.std.proofs.Common.{◌≡◌, ℕ, ◌<◌, ◌&&◌, ◌||◌, ◌==◌, not, Bool, true, false, is_some, List, [], ◌∷◌, ◌++◌, map, filter, ◌⊎◌, inl, inr, refl, sym, ap, ◌∙◌}
use Rattle.std.proofs.lemmas.Bool.{false≢true, cases_eq, cases_Bool, or_left, or_right}
use Rattle.std.proofs.lemmas.List.Folds.{list_any-append}
use Rattle.edge_base.specs.declared.form.Form.TheVariants.{Plain}
use Rattle.edge_base.specs.declared.geometry.Request.{Request}
use Rattle.edge_base.specs.tree.Positions.{Position, same_position, data_at, has, above_data, all_ancestors, chain, positions_of, positions_of_form}
use Rattle.edge_base.proofs.ChainLaws.{has-positions_of-number}
use Rattle.edge_base.proofs.PositionLaws.{has-append}
use Rattle.edge_store.specs.Changed.{has_index, IsBlockOf, IsNoBlockOf, NodeChanged, NodeDirtied}
use Rattle.edge_store.specs.Fresh.{is_dirty}
use Rattle.edge_store.specs.Placed.{block_at, data_block, HasPlaces}
use Rattle.edge_store.specs.View.{View, IsView, content, content_at, is_new, is_used}
use Rattle.edge_store.proofs.ChangedLaws.{block_or_none, data_there, touches}
use Rattle.edge_store.proofs.NodeEffects.{index_of}
use Rattle.edge_store.proofs.ViewLaws.{unused_zero}
use Rattle.edge_moves.specs.Writable.{Came}
use Rattle.edge_file.specs.Rewritten.{IsRewritten}
use Rattle.edge_file.proofs.RangeLaws.{positions_both}

-- ---- what writes touch

pub all_kept : (ps : List Position) → filter (λ p. not false) ps ≡ ps
all_kept [] = refl
all_kept (p ∷ ps) = ap (λ qs. p ∷ qs) (all_kept ps)

module _ (g : Request) (n : ℕ) where
  pub chains : (xs : List ℕ) (p : Position) → (has (map (data_at n) xs) p || has (all_ancestors g (map (data_at n) xs)) p) ≡ has (positions_of g n xs) p
  chains [] p = refl
  chains (x ∷ xs) p =
      ap (λ t. (same_position p (data_at n x) || has (map (data_at n) xs) p) || t) (has-append (above_data g n x) (all_ancestors g (map (data_at n) xs)) p)
      ∙ turned (same_position p (data_at n x)) (has (map (data_at n) xs) p) (has (above_data g n x) p) (has (all_ancestors g (map (data_at n) xs)) p)
      ∙ ap (λ t. (same_position p (data_at n x) || has (above_data g n x) p) || t) (chains xs p)
      ∙ sym (has-append (chain g n x) (positions_of g n xs) p)
    where
      turned : (a b d e : Bool) → ((a || b) || (d || e)) ≡ ((a || d) || (b || e))
      turned true b d e = refl
      turned false true true e = refl
      turned false true false e = refl
      turned false false d e = refl

  -- a write touches the chains of its data blocks
  pub touches_writes : (xs : List ℕ) (p : Position) → touches g n xs [] p ≡ has (positions_of g n xs) p
  touches_writes xs p =
      has-append (map (data_at n) xs) (all_ancestors g ([] ++ filter (λ q. not false) (map (data_at n) xs))) p
      ∙ ap (λ qs. has (map (data_at n) xs) p || has (all_ancestors g qs) p) (all_kept (map (data_at n) xs))
      ∙ chains xs p

module _ (g : Request) (c v w : View) (n : ℕ) (touched indices : List ℕ) (view : IsView g v) (low : (p : Position) → has (positions_of g n touched) p ≡ true → p.index < positions_of_form g p.form)
    (places : HasPlaces g v n indices) (made : IsRewritten g c v w n touched indices) where
  abbrev in_touched : Position → Bool
  in_touched p = has (positions_of g n touched) p

  abbrev was_there : Position → Bool
  was_there p = has (positions_of g n indices) p

  both : (p : Position) → has (positions_of g n (touched ++ indices)) p ≡ (in_touched p || was_there p)
  both p = positions_both g n touched indices p

  on_all : (p : Position) → in_touched p ≡ true → has (positions_of g n (touched ++ indices)) p ≡ true
  on_all p h = both p ∙ or_left (in_touched p) (was_there p) h

  old_all : (p : Position) → was_there p ≡ true → has (positions_of g n (touched ++ indices)) p ≡ true
  old_all p h = both p ∙ or_right (in_touched p) (was_there p) h

  was_old : (p : Position) → has (positions_of g n (touched ++ indices)) p ≡ true → in_touched p ≡ false → was_there p ≡ true
  was_old p h out = sym (ap (λ t. t || was_there p) out) ∙ sym (both p) ∙ h

  -- a position that a write adds had no block
  absent : (p : Position) → in_touched p ≡ true → was_there p ≡ false → is_used v (block_at g v p) ≡ false
  absent p on out = elim (cases_eq (block_at g v p) 0) [
    | inl none ↦ ap (is_used v) none ∙ ap is_some (unused_zero g v view)
    | inr some ↦ absurd (false≢true (sym out ∙ (places.places p (has-positions_of-number g n touched p on) (low p on)).0 some))
  ]

  kept : (p : Position) → in_touched p ≡ true → block_at g w p ≡ block_at g v p → (is_used v (block_at g w p) ≡ false) ⊎ IsBlockOf g v n indices (block_at g w p)
  kept p on same = elim (cases_Bool (was_there p)) [
    | inl there ↦ inr (record { position = p; is_there = there; block = sym same })
    | inr out ↦ inl (ap (is_used v) same ∙ absent p on out)
  ]

  own_now : (b : ℕ) → is_used w b ≡ true → IsBlockOf g v n indices b → IsBlockOf g w n (touched ++ indices) b
  own_now b used own = elim (cases_Bool (in_touched own.position)) [
    | inl on ↦ by on (made.came own.position on)
    | inr out ↦ record { position = own.position; is_there = old_all own.position own.is_there; block = made.stays own.position own.is_there out ∙ own.block }
  ]
    where
      by : in_touched own.position ≡ true → ((block_at g w own.position ≡ block_at g v own.position) ⊎ Came c v w (block_at g v own.position) (block_at g w own.position))
          → IsBlockOf g w n (touched ++ indices) b
      by on (inl same) = record { position = own.position; is_there = on_all own.position on; block = same ∙ own.block }
      by on (inr came) = absurd (false≢true (sym (ap is_some came.gone) ∙ ap (is_used w) own.block ∙ used))

  pub rewritten_changed : NodeChanged g v w n indices (touched ++ indices)
  rewritten_changed = record {
    were = places;
    places = made.places;
    once = made.once;
    inodes = made.inodes;
    blocks = λ b used none. made.others b used (λ p on e. elim (cases_Bool (was_there p)) [
      | inl there ↦ none p there e
      | inr out ↦ false≢true (sym (absent p on out) ∙ ap (is_used v) e ∙ used)
    ]);
    taken = λ p h. elim (cases_Bool (in_touched p)) [
      | inl on ↦ taken_by p on (made.came p on)
      | inr out ↦ let there = was_old p h out in inr (record { position = p; is_there = there; block = sym (made.stays p there out) })
    ];
    left = λ b used. elim (cases_Bool (is_used v b)) [
      | inl was ↦ left_by b used was (block_or_none g v n indices b)
      | inr unused ↦ let r = made.used b unused used in inl (record { position = r.0; is_there = on_all r.0 r.1; block = r.2 })
    ];
  }
    where
      taken_by : (p : Position) → in_touched p ≡ true → ((block_at g w p ≡ block_at g v p) ⊎ Came c v w (block_at g v p) (block_at g w p))
          → (is_used v (block_at g w p) ≡ false) ⊎ IsBlockOf g v n indices (block_at g w p)
      taken_by p on (inl same) = kept p on same
      taken_by p on (inr came) = inl (ap is_some came.fresh)

      left_by : (b : ℕ) → is_used w b ≡ true → is_used v b ≡ true → (IsBlockOf g v n indices b ⊎ IsNoBlockOf g v n indices b)
          → IsBlockOf g w n (touched ++ indices) b ⊎ ((is_used v b ≡ true) × IsNoBlockOf g v n indices b)
      left_by b used was (inl own) = inl (own_now b used own)
      left_by b used was (inr none) = inr (was, none)

  -- ---- what is dirty

  or_false : (b : Bool) → (b || false) ≡ b
  or_false true = refl
  or_false false = refl

  pub rewritten_dirty : NodeDirtied g c v w n indices (touched ++ indices) touched []
  rewritten_dirty = record {
    dirty = λ p h. elim (cases_Bool (in_touched p)) [
      | inl on ↦ made.dirty p on ∙ sym (or_right (was_there p && is_dirty g c v p) (touches g n touched [] p) (touches_writes g n touched p ∙ on))
      | inr out ↦
          let there = was_old p h out in
          ap (is_new c w) (made.stays p there out)
          ∙ ap (λ used. used && not (is_used c (block_at g v p))) (ap is_some (made.holds p there out))
          ∙ sym (ap (λ t. (was_there p && is_dirty g c v p) || t) (touches_writes g n touched p ∙ out)
          ∙ or_false (was_there p && is_dirty g c v p) ∙ ap (λ t. t && is_dirty g c v p) there)
    ];
    added = λ k there none. by k (has_index touched k) (has_index indices k) (sym (list_any-append (λ x. x == k) touched indices) ∙ there) none;
  }
    where
      by : (k : ℕ) (a b : Bool) → (a || b) ≡ true → b ≡ false → a ≡ true
      by k true b h none = refl
      by k false b h none = absurd (false≢true (sym none ∙ h))

  -- ---- what the others hold

  pub rewritten_contents : (i : ℕ) → has_index indices i ≡ true → has_index touched i ≡ false → content_at w Plain (data_block g w n i) ≡ content_at v Plain (data_block g v n i)
  rewritten_contents i there none =
      let at = data_there g n indices i there in
      let out : in_touched (data_at n i) ≡ false = not_touched i none in
      ap (content_at w Plain) (made.stays (data_at n i) at out) ∙ ap (content Plain) (made.holds (data_at n i) at out)
    where
      not_touched : (i : ℕ) → has_index touched i ≡ false → in_touched (data_at n i) ≡ false
      not_touched i none = elim (cases_Bool (in_touched (data_at n i))) [
        | inl on ↦ absurd (false≢true (sym none ∙ index_of g n touched i on))
        | inr out ↦ out
      ]
