-- What changes of a tree make dirty, one after another, and the dirty positions of the state after a change.
use Rattle.std.proofs.Common.{◌≡◌, ℕ, ◌&&◌, ◌||◌, not, Bool, true, false, List, [], ◌++◌, filter, ⊎_elim, refl, sym, ap, ◌∙◌, subst}
use Rattle.std.proofs.lemmas.Bool.{false≢true, cases_Bool, or_cases, or_left, or_right}
use Rattle.edge_base.specs.declared.geometry.Request.{Request}
use Rattle.edge_base.specs.tree.Positions.{Position, data_at, has, ancestors, all_ancestors, touched}
use Rattle.edge_base.proofs.PositionLaws.{has-append, has-filter}
use Rattle.edge_store.specs.Fresh.{is_dirty}
use Rattle.edge_store.specs.View.{View, is_new}
use Rattle.edge_store.specs.Placed.{block_at}
use Rattle.edge_store.proofs.ChangedLaws.{same_truth}
use Rattle.edge_model.specs.Laws.{IsDirtyUpwards}
use Rattle.edge_model.specs.State.{State, Edit, dirty_of}
use Rattle.edge_model.specs.Tree.{Tree, tree_positions}
use Rattle.edge_model.proofs.Members.{IsAmong, among, is_had, among_append, among_left, among_right, among_filter, from_filter, among_flat_map, from_flat_map}
use Rattle.edge_model.proofs.Ways.{is_on, is_there}
use Rattle.edge_model.proofs.DirtyLaws.{block_there, there_by_block}
use Rattle.edge_steps.proofs.FreshLaws.{touched_more, touched_clean}
use Rattle.edge_stands.specs.Dirtied.{TreeDirtied}
use Rattle.edge_stands.specs.Stands.{IsTied}

-- ---- what is touched, as if nothing were dirty

module _ (g : Request) where
  abbrev pub touches : List Position → List Position → Position → Bool
  touches writes removes p = has (touched g (λ q. false) writes removes) p

  -- a position is touched that is written, or above one that is written or removed
  data Touch (writes removes : List Position) (p : Position) : Type 0 where
    written : IsAmong writes p → Touch writes removes p
    above_written : (q : Position) → IsAmong writes q → IsAmong (ancestors g q) p → Touch writes removes p
    above_removed : (q : Position) → IsAmong removes q → IsAmong (ancestors g q) p → Touch writes removes p

  touch : (writes removes : List Position) (p : Position) → touches writes removes p ≡ true → Touch writes removes p
  touch writes removes p h = ⊎_elim
      (λ w. written w)
      (λ a.
      let r = from_flat_map (ancestors g) (removes ++ filter (λ q. not false) writes) p a in
      ⊎_elim
      (λ removed. above_removed r.0 removed r.2)
      (λ kept. above_written r.0 (from_filter (λ q. not false) writes r.0 kept).0 r.2)
      (among_append removes (filter (λ q. not false) writes) r.0 r.1))
      (among_append writes (all_ancestors g (removes ++ filter (λ q. not false) writes)) p (among (touched g (λ q. false) writes removes) p h))

  touched_by : (writes removes : List Position) (p : Position) → Touch writes removes p → touches writes removes p ≡ true
  touched_by writes removes p (written w) = is_had (touched g (λ q. false) writes removes) p (among_left writes (all_ancestors g (removes ++ filter (λ q. not false) writes)) p w)
  touched_by writes removes p (above_written q w up) = is_had (touched g (λ q. false) writes removes) p
      (among_right writes (all_ancestors g (removes ++ filter (λ q. not false) writes)) p (among_flat_map (ancestors g) (removes ++ filter (λ q. not false) writes) q p
      (among_right removes (filter (λ q. not false) writes) q (among_filter (λ q. not false) writes q w refl)) up))
  touched_by writes removes p (above_removed q r up) = is_had (touched g (λ q. false) writes removes) p
      (among_right writes (all_ancestors g (removes ++ filter (λ q. not false) writes)) p (among_flat_map (ancestors g) (removes ++ filter (λ q. not false) writes) q p
      (among_left removes (filter (λ q. not false) writes) q r) up))

  -- more positions written and removed touch more
  touch_more : (ws rs xs ys : List Position) (p : Position) → ((q : Position) → has ws q ≡ true → has xs q ≡ true) → ((q : Position) → has rs q ≡ true → has ys q ≡ true) → touches ws rs p ≡ true → touches xs ys p ≡ true
  touch_more ws rs xs ys p writes removes h = touched_by xs ys p (by (touch ws rs p h))
    where
      by : Touch ws rs p → Touch xs ys p
      by (written w) = written (among xs p (writes p (is_had ws p w)))
      by (above_written q w up) = above_written q (among xs q (writes q (is_had ws q w))) up
      by (above_removed q r up) = above_removed q (among ys q (removes q (is_had rs q r))) up

  in_left : (ws xs : List Position) (q : Position) → has ws q ≡ true → has (ws ++ xs) q ≡ true
  in_left ws xs q h = has-append ws xs q ∙ or_left (has ws q) (has xs q) h

  in_right : (ws xs : List Position) (q : Position) → has xs q ≡ true → has (ws ++ xs) q ≡ true
  in_right ws xs q h = has-append ws xs q ∙ or_right (has ws q) (has xs q) h

  touch_split : (ws rs xs ys : List Position) (p : Position) → Touch (ws ++ xs) (rs ++ ys) p → (touches ws rs p || touches xs ys p) ≡ true
  touch_split ws rs xs ys p (written w) = ⊎_elim
      (λ k. or_left (touches ws rs p) (touches xs ys p) (touched_by ws rs p (written k)))
      (λ k. or_right (touches ws rs p) (touches xs ys p) (touched_by xs ys p (written k)))
      (among_append ws xs p w)
  touch_split ws rs xs ys p (above_written q w up) = ⊎_elim
      (λ k. or_left (touches ws rs p) (touches xs ys p) (touched_by ws rs p (above_written q k up)))
      (λ k. or_right (touches ws rs p) (touches xs ys p) (touched_by xs ys p (above_written q k up)))
      (among_append ws xs q w)
  touch_split ws rs xs ys p (above_removed q r up) = ⊎_elim
      (λ k. or_left (touches ws rs p) (touches xs ys p) (touched_by ws rs p (above_removed q k up)))
      (λ k. or_right (touches ws rs p) (touches xs ys p) (touched_by xs ys p (above_removed q k up)))
      (among_append rs ys q r)

  touches_both : (ws rs xs ys : List Position) (p : Position) → touches (ws ++ xs) (rs ++ ys) p ≡ (touches ws rs p || touches xs ys p)
  touches_both ws rs xs ys p = same_truth (touches (ws ++ xs) (rs ++ ys) p) (touches ws rs p || touches xs ys p)
      (λ h. touch_split ws rs xs ys p (touch (ws ++ xs) (rs ++ ys) p h))
      (λ h. ⊎_elim
      (λ one. touch_more ws rs (ws ++ xs) (rs ++ ys) p (in_left ws xs) (in_left rs ys) one)
      (λ two. touch_more xs ys (ws ++ xs) (rs ++ ys) p (in_right ws xs) (in_right rs ys) two)
      (or_cases (touches ws rs p) (touches xs ys p) h))

  -- ---- a position that a tree has got

  -- of a data block that was not there
  chain_touched : (t u : Tree) (writes removes : List Position) → ((n i : ℕ) → has (tree_positions g u) (data_at n i) ≡ true → has (tree_positions g t) (data_at n i) ≡ false → has writes (data_at n i) ≡ true)
      → (p : Position) → has (tree_positions g u) p ≡ true → has (tree_positions g t) p ≡ false → touches writes removes p ≡ true
  chain_touched t u writes removes added p now out =
      let on = is_on g u p (among (tree_positions g u) p now) in
      ⊎_elim
      (λ there.
      let b = block_there g t on.number on.index there in
      absurd (false≢true (sym out ∙ is_had (tree_positions g t) p (is_there g t p (record { number = on.number; index = on.index; is_number = b.0; is_block = b.1; on_chain = on.on_chain })))))
      (λ new.
      let written_at = among writes (data_at on.number on.index) (added on.number on.index (there_by_block g u on.number on.index on.is_number on.is_block) new) in
      touched_by writes removes p (⊎_elim
      (λ e. written (subst (IsAmong writes) (sym e) written_at))
      (λ over. above_written (data_at on.number on.index) written_at over)
      on.on_chain))
      (cases_Bool (has (tree_positions g t) (data_at on.number on.index)))

-- ---- one change after another

module _ (g : Request) (c v w u : View) (r s t : Tree) (ws rs xs ys : List Position) (one : TreeDirtied g c v w r s ws rs) (two : TreeDirtied g c w u s t xs ys) where
  joined : (x a b : Bool) → ((x || a) || b) ≡ (x || (a || b))
  joined true a b = refl
  joined false a b = refl

  dirty_then : (p : Position) → has (tree_positions g t) p ≡ true → (there : Bool) → has (tree_positions g s) p ≡ there
      → ((there && is_dirty g c w p) || touches g xs ys p) ≡ ((has (tree_positions g r) p && is_dirty g c v p) || (touches g ws rs p || touches g xs ys p))
  dirty_then p h true is = ap (λ b. b || touches g xs ys p) (one.dirty p is) ∙ joined (has (tree_positions g r) p && is_dirty g c v p) (touches g ws rs p) (touches g xs ys p)
  dirty_then p h false out =
      let touch_it = chain_touched g s t xs ys two.added p h out in
      touch_it ∙ sym (or_right (has (tree_positions g r) p && is_dirty g c v p) (touches g ws rs p || touches g xs ys p) (or_right (touches g ws rs p) (touches g xs ys p) touch_it))

  pub tree_twice : TreeDirtied g c v u r t (ws ++ xs) (rs ++ ys)
  tree_twice = record {
    dirty = λ p h.
        two.dirty p h ∙ dirty_then p h (has (tree_positions g s) p) refl
        ∙ ap (λ b. (has (tree_positions g r) p && is_dirty g c v p) || b) (sym (touches_both g ws rs xs ys p));
    added = λ n i there out. ⊎_elim
        (λ (between : has (tree_positions g s) (data_at n i) ≡ true). in_left g ws xs (data_at n i) (one.added n i between out))
        (λ (absent : has (tree_positions g s) (data_at n i) ≡ false). in_right g ws xs (data_at n i) (two.added n i there absent))
        (cases_Bool (has (tree_positions g s) (data_at n i)));
  }

-- lists with the same positions say the same
pub tree_same : (g : Request) (c v w : View) (t u : Tree) (ws rs xs ys : List Position) → ((p : Position) → has ws p ≡ has xs p) → ((p : Position) → has rs p ≡ has ys p) → TreeDirtied g c v w t u ws rs → TreeDirtied g c v w t u xs ys
tree_same g c v w t u ws rs xs ys writes removes d = record {
  dirty = λ p h. d.dirty p h ∙ ap (λ b. (has (tree_positions g t) p && is_dirty g c v p) || b) (same_truth (touches g ws rs p) (touches g xs ys p)
      (touch_more g ws rs xs ys p (λ q k. sym (writes q) ∙ k) (λ q k. sym (removes q) ∙ k))
      (touch_more g xs ys ws rs p (λ q k. writes q ∙ k) (λ q k. removes q ∙ k)));
  added = λ n i there out. sym (writes (data_at n i)) ∙ d.added n i there out;
}

pub tree_stays : (g : Request) (c v : View) (t : Tree) → TreeDirtied g c v v t t [] []
tree_stays g c v t = record {
  dirty = λ p h. sym (ap (λ b. (b && is_dirty g c v p) || false) h ∙ or_false (is_dirty g c v p));
  added = λ n i there out. absurd (false≢true (sym out ∙ there));
}
  where
    or_false : (x : Bool) → (x || false) ≡ x
    or_false true = refl
    or_false false = refl

-- ---- the dirty positions of the state

module _ (g : Request) (c v w : View) (s : State) (e : Edit) (tied : IsTied g c v s.tree s.dirty) (upwards : IsDirtyUpwards g s) (d : TreeDirtied g c v w s.tree e.tree e.writes e.removes) where
  abbrev told : Position → Bool
  told p = has (touched g (has s.dirty) e.writes e.removes) p

  -- what is touched and was not dirty is so whatever counts as dirty
  touched_alike : (p : Position) → (has s.dirty p || told p) ≡ (has s.dirty p || touches g e.writes e.removes p)
  touched_alike p = by (has s.dirty p) refl
    where
      by : (b : Bool) → has s.dirty p ≡ b → (b || told p) ≡ (b || touches g e.writes e.removes p)
      by true is = refl
      by false clean = same_truth (told p) (touches g e.writes e.removes p)
          (λ h. is_had (touched g (λ q. false) e.writes e.removes) p (touched_more g (has s.dirty) e.writes e.removes p (among (touched g (has s.dirty) e.writes e.removes) p h)))
          (λ h. is_had (touched g (has s.dirty) e.writes e.removes) p (touched_clean g s e.writes e.removes p upwards clean (among (touched g (λ q. false) e.writes e.removes) p h)))

  after_is : (p : Position) → has (dirty_of g s e) p ≡ ((has s.dirty p || told p) && has (tree_positions g e.tree) p)
  after_is p = has-filter (has (tree_positions g e.tree)) (s.dirty ++ touched g (has s.dirty) e.writes e.removes) p ∙ ap (λ b. b && has (tree_positions g e.tree) p) (has-append s.dirty (touched g (has s.dirty) e.writes e.removes) p)

  no_more : (b : Bool) → (b && false) ≡ false
  no_more true = refl
  no_more false = refl

  all_of : (b : Bool) → (b && true) ≡ b
  all_of true = refl
  all_of false = refl

  pub then_tied : IsTied g c w e.tree (dirty_of g s e)
  then_tied p = after_is p ∙ by (has (tree_positions g e.tree) p) refl
    where
      by : (there : Bool) → has (tree_positions g e.tree) p ≡ there → ((has s.dirty p || told p) && there) ≡ (there && is_new c w (block_at g w p))
      by true is = all_of (has s.dirty p || told p) ∙ touched_alike p ∙ ap (λ b. b || touches g e.writes e.removes p) (tied p) ∙ sym (d.dirty p is)
      by false out = no_more (has s.dirty p || told p)
