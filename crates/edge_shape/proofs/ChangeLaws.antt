-- A cut, as a change at its node.
use Rattle.std.proofs.Common.{◌≡◌, ◌≢◌, ℕ, ◌<◌, ◌≤◌, ◌==◌, ◌&&◌, ◌||◌, Bool, true, false, cond, is_some, List, [], ◌∷◌, filter, ◌⊎◌, inl, inr, ⊎_elim, Option, Some, None, refl, sym, ap, ◌∙◌, subst, arith, eqb-true, eq-eqb}
use Rattle.std.specs.Prelude.{nat_le, nat_lt}
use Rattle.std.specs.List.{list_any}
use Rattle.std.proofs.lemmas.Bool.{false≢true, cases_Bool, or_cases, or_left, or_right, and_parts, and_from, leb-true, ltb-true}
use Rattle.edge_base.specs.declared.form.Form.{Form}
use Rattle.edge_base.specs.declared.form.Form.TheVariants.{Plain}
use Rattle.edge_base.specs.declared.geometry.Request.{Request}
use Rattle.edge_base.specs.tree.Chains.{is_on_chain}
use Rattle.edge_base.specs.tree.Positions.{Position, data_at, same_position, has, above_data, chain, positions_of}
use Rattle.edge_base.proofs.PositionLaws.{same_position_Decides}
use Rattle.edge_base.proofs.ChainLaws.{has-positions_of, has-positions_of-number}
use Rattle.edge_store.specs.Changed.{has_index, IsBlockOf, IsNoBlockOf, NodeChanged, NodeDirtied, KeepsContents}
use Rattle.edge_store.specs.Fresh.{is_dirty}
use Rattle.edge_store.specs.Placed.{block_at}
use Rattle.edge_store.specs.View.{View, Block, content, content_at, is_used}
use Rattle.edge_store.proofs.ChangedLaws.{same_truth, block_or_none, chain_of, on_chain, touches, touches_removed, any_some, some_any}
use Rattle.edge_store.proofs.NodeEffects.{index_of}
use Rattle.edge_store.proofs.ViewLaws.{entries_of_whole}
use Rattle.edge_moves.specs.Sound.{numbered}
use Rattle.edge_moves.specs.Writable.{Came}
use Rattle.edge_moves.proofs.RangeLaws.{there_in_range}
use Rattle.edge_moves.proofs.SlotLaws.{entries_fit, some_pointers_fit}
use Rattle.edge_shape.specs.Cut.{is_split, IsCut}
use Rattle.edge_shape.specs.Shape.{HasShape, before}

-- the indices from i on
abbrev pub from_on : ℕ → List ℕ → List ℕ
from_on i indices = filter (λ x. nat_le i x) indices

-- ---- members of a part of a list

kept_step : (kept : Bool) (test keep : ℕ → Bool) (x : ℕ) (xs : List ℕ) → list_any test (filter keep xs) ≡ list_any (λ y. keep y && test y) xs
    → list_any test (cond kept (x ∷ filter keep xs) (filter keep xs)) ≡ ((kept && test x) || list_any (λ y. keep y && test y) xs)
kept_step true test keep x xs h = ap (λ t. test x || t) h
kept_step false test keep x xs h = h

kept_any : (test keep : ℕ → Bool) (xs : List ℕ) → list_any test (filter keep xs) ≡ list_any (λ x. keep x && test x) xs
kept_any test keep [] = refl
kept_any test keep (x ∷ xs) = kept_step (keep x) test keep x xs (kept_any test keep xs)

module _ (i : ℕ) (indices : List ℕ) where
  part_of : (keep : ℕ → Bool) (k : ℕ) → has_index (filter keep indices) k ≡ true → (keep k ≡ true) × (has_index indices k ≡ true)
  part_of keep k h =
      let r = any_some (λ x. keep x && (x == k)) indices (sym (kept_any (λ x. x == k) keep indices) ∙ h) in
      let both = and_parts (keep r.0) (r.0 == k) r.2 in
      let same = eqb-true r.0 k both.1 in
      (ap keep (sym same) ∙ both.0, ap (has_index indices) (sym same) ∙ r.1)

  is_part : (keep : ℕ → Bool) (k : ℕ) → keep k ≡ true → has_index indices k ≡ true → has_index (filter keep indices) k ≡ true
  is_part keep k kept there = kept_any (λ x. x == k) keep indices ∙ some_any (λ x. keep x && (x == k)) indices k there (and_from (keep k) (k == k) kept (eq-eqb k k refl))

-- ---- positions by number and form

module _ (g : Request) (n : ℕ) where
  at_n : (p : Position) → p.number ≡ n → numbered n p.form p.index ≡ p
  at_n p e = λ t. record { number = sym e t; form = p.form; index = p.index }

  or_false : (b : Bool) → (b || false) ≡ b
  or_false true = refl
  or_false false = refl

  -- a position of the node is on a chain where its form and its index say so
  chain_is : (x : ℕ) (p : Position) → p.number ≡ n → has (chain g n x) p ≡ is_on_chain g p.form p.index x
  chain_is x p number = same_truth (has (chain g n x) p) (is_on_chain g p.form p.index x)
      (λ on. (and_parts (p.number == n) (is_on_chain g p.form p.index x) (ap (λ b. (p.number == n) && b) (sym (or_false (is_on_chain g p.form p.index x))) ∙ sym (has-positions_of g n (x ∷ []) p) ∙ on_chain g n (x ∷ []) p x (here x) on)).1)
      (λ is.
      let h = has-positions_of g n (x ∷ []) p ∙ and_from (p.number == n) (is_on_chain g p.form p.index x || false) (eq-eqb p.number n number) (or_left (is_on_chain g p.form p.index x) false is) in
      let r = chain_of g n (x ∷ []) p h in
      subst (λ (k : ℕ). has (chain g n k) p ≡ true) (only x r.0 r.1) r.2)
    where
      here : (x : ℕ) → has_index (x ∷ []) x ≡ true
      here x = or_left (x == x) false (eq-eqb x x refl)

      only : (x k : ℕ) → has_index (x ∷ []) k ≡ true → k ≡ x
      only x k h = sym (eqb-true x k (sym (or_false (x == k)) ∙ h))

none_is : (o : Option Block) → is_some o ≡ false → o ≡ None
none_is None h = refl
none_is (Some x) h = absurd (let wrong : true ≡ false = h in cc)

module _ (g : Request) (c v w : View) (n i : ℕ) (indices : List ℕ) (shape : HasShape g v n indices) (cut : IsCut g c v w n i indices) where
  was_index : (k : ℕ) → has_index (before i indices) k ≡ true → (nat_lt k i ≡ true) × (has_index indices k ≡ true)
  was_index k h = part_of i indices (λ x. nat_lt x i) k h

  was_there : (p : Position) → has (positions_of g n (before i indices)) p ≡ true → has (positions_of g n indices) p ≡ true
  was_there p h = let r = chain_of g n (before i indices) p h in on_chain g n indices p r.0 (was_index r.0 r.1).1 r.2

  by_number : (xs : List ℕ) (p : Position) → has (positions_of g n xs) p ≡ true → numbered n p.form p.index ≡ p
  by_number xs p h = at_n g n p (has-positions_of-number g n xs p h)

  -- a position of the node that has a block is one of its positions
  placed_there : (form : Form) (m : ℕ) → block_at g v (numbered n form m) ≢ 0 → has (positions_of g n indices) (numbered n form m) ≡ true
  placed_there form m some =
      let low = there_in_range g v n (entries_fit g shape.geometry) (some_pointers_fit g shape.geometry) (entries_of_whole g v n shape.view shape.inode) form m some in
      (shape.places.places (numbered n form m) refl low).0 some

  came_to : (p : Position) → has (positions_of g n (before i indices)) p ≡ true → (block_at g w p ≡ block_at g v p) ⊎ Came c v w (block_at g v p) (block_at g w p)
  came_to p h =
      let is = by_number (before i indices) p h in
      subst (λ (q : Position). (block_at g w q ≡ block_at g v q) ⊎ Came c v w (block_at g v q) (block_at g w q)) is (cut.came p.form p.index (ap (has (positions_of g n (before i indices))) is ∙ h))

  gone : (p : Position) → has (positions_of g n indices) p ≡ true → has (positions_of g n (before i indices)) p ≡ false → w.blocks (block_at g v p) ≡ None
  gone p h out =
      let is = by_number indices p h in
      subst (λ (q : Position). w.blocks (block_at g v q) ≡ None) is (cut.dropped p.form p.index (ap (has (positions_of g n indices)) is ∙ h) (ap (has (positions_of g n (before i indices))) is ∙ out))

  own_now : (b : ℕ) → is_used w b ≡ true → IsBlockOf g v n indices b → IsBlockOf g w n (before i indices) b
  own_now b used own = ⊎_elim
      (λ (there : has (positions_of g n (before i indices)) own.position ≡ true). ⊎_elim
      (λ (same : block_at g w own.position ≡ block_at g v own.position). record { position = own.position; is_there = there; block = same ∙ own.block })
      (λ (came : Came c v w (block_at g v own.position) (block_at g w own.position)). absurd (false≢true (sym (ap is_some came.gone) ∙ ap (is_used w) own.block ∙ used)))
      (came_to own.position there))
      (λ (out : has (positions_of g n (before i indices)) own.position ≡ false). absurd (false≢true (sym (ap is_some (gone own.position own.is_there out)) ∙ ap (is_used w) own.block ∙ used)))
      (cases_Bool (has (positions_of g n (before i indices)) own.position))

  pub cut_changed : NodeChanged g v w n indices (before i indices)
  cut_changed = record {
    were = shape.places;
    places = cut.shape.places;
    once = cut.shape.once;
    inodes = cut.inodes;
    blocks = λ b used none. cut.others b used (λ form m some e. none (numbered n form m) (placed_there form m some) e);
    taken = λ p h. ⊎_elim
        (λ (same : block_at g w p ≡ block_at g v p). inr (record { position = p; is_there = was_there p h; block = sym same }))
        (λ (came : Came c v w (block_at g v p) (block_at g w p)). inl (ap is_some came.fresh))
        (came_to p h);
    left = λ b used. ⊎_elim
        (λ (was : is_used v b ≡ true). ⊎_elim
        (λ (own : IsBlockOf g v n indices b). inl (own_now b used own))
        (λ (none : IsNoBlockOf g v n indices b). inr (was, none))
        (block_or_none g v n indices b))
        (λ (unused : is_used v b ≡ false).
        let r = cut.used b used (none_is (v.blocks b) unused) in
        inl (record { position = numbered n r.0 r.1; is_there = r.2; block = r.3 }))
        (cases_Bool (is_used v b));
  }

  -- ---- what is dirty

  -- a position that is left is split where it is above an index that goes
  split_is : (p : Position) → has (positions_of g n (before i indices)) p ≡ true → is_split g i indices p.form p.index ≡ touches g n [] (from_on i indices) p
  split_is p h = same_truth (is_split g i indices p.form p.index) (touches g n [] (from_on i indices) p)
      (λ split.
      let both = and_parts (list_any (λ x. nat_le i x && is_on_chain g p.form p.index x) indices) (list_any (λ x. nat_lt x i && is_on_chain g p.form p.index x) indices) split in
      let r = any_some (λ x. nat_le i x && is_on_chain g p.form p.index x) indices both.0 in
      let parts = and_parts (nat_le i r.0) (is_on_chain g p.form p.index r.0) r.2 in
      touches_removed g n (from_on i indices) p ∙ some_any (λ x. has (above_data g n x) p) (from_on i indices) r.0 (is_part i indices (λ x. nat_le i x) r.0 parts.0 r.1) (over r.0 parts.0 (chain_is g n r.0 p number ∙ parts.1)))
      (λ touched.
      let r = any_some (λ x. has (above_data g n x) p) (from_on i indices) (sym (touches_removed g n (from_on i indices) p) ∙ touched) in
      let parts = part_of i indices (λ x. nat_le i x) r.0 r.1 in
      and_from (list_any (λ x. nat_le i x && is_on_chain g p.form p.index x) indices) (list_any (λ x. nat_lt x i && is_on_chain g p.form p.index x) indices)
      (some_any (λ x. nat_le i x && is_on_chain g p.form p.index x) indices r.0 parts.1 (and_from (nat_le i r.0) (is_on_chain g p.form p.index r.0) parts.0
      (sym (chain_is g n r.0 p number) ∙ or_right (same_position p (data_at n r.0)) (has (above_data g n r.0) p) r.2)))
      left_under)
    where
      number : p.number ≡ n
      number = has-positions_of-number g n (before i indices) p h

      left_under : list_any (λ x. nat_lt x i && is_on_chain g p.form p.index x) indices ≡ true
      left_under =
          let r = chain_of g n (before i indices) p h in
          let parts = was_index r.0 r.1 in
          some_any (λ x. nat_lt x i && is_on_chain g p.form p.index x) indices r.0 parts.1 (and_from (nat_lt r.0 i) (is_on_chain g p.form p.index r.0) parts.0 (sym (chain_is g n r.0 p number) ∙ r.2))

      -- it is no data block that goes, and so it is above it
      over : (x : ℕ) → nat_le i x ≡ true → has (chain g n x) p ≡ true → has (above_data g n x) p ≡ true
      over x from on = ⊎_elim
          (λ here.
          let is : p ≡ data_at n x = (same_position_Decides p (data_at n x)).0 here in
          let left = was_index x (index_of g n (before i indices) x (ap (has (positions_of g n (before i indices))) (sym is) ∙ h)) in
          absurd (apart x (leb-true i x from) (ltb-true x i left.0)))
          (λ above. above)
          (or_cases (same_position p (data_at n x)) (has (above_data g n x) p) on)
        where
          apart : (x : ℕ) → i ≤ x → x < i → ⊥
          apart x low high = omega arith

  pub cut_dirtied : NodeDirtied g c v w n indices (before i indices) [] (from_on i indices)
  cut_dirtied = record {
    dirty = λ p h.
        let is = by_number (before i indices) p h in
        subst (λ (q : Position). is_dirty g c w q ≡ (is_dirty g c v q || is_split g i indices p.form p.index)) is (cut.dirty p.form p.index (ap (has (positions_of g n (before i indices))) is ∙ h))
        ∙ ap (λ b. is_dirty g c v p || b) (split_is p h)
        ∙ sym (ap (λ b. (b && is_dirty g c v p) || touches g n [] (from_on i indices) p) (was_there p h));
    added = λ k there absent. absurd (false≢true (sym absent ∙ (was_index k there).1));
  }

  pub cut_contents : KeepsContents g v w n (before i indices)
  cut_contents k there = ap (content_at w Plain) (cut.blocks k there) ∙ ap (content Plain) (cut.bytes k there)
