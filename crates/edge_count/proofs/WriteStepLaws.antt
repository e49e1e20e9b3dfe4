-- A data block made writable, or new in any other way, takes the positions of its chain from the count of a change.
use Rattle.std.proofs.Common.{◌≡◌, ◌≢◌, ◌⊎◌, ℕ, ◌+◌, ◌<◌, ◌==◌, ◌&&◌, ◌||◌, not, Bool, true, false, List, ◌∷◌, refl, sym, ap, ◌∙◌, subst, arith, inl, inr}
use Rattle.std.specs.Prelude.{is_some}
use Rattle.std.specs.List.{list_any, filter}
use Rattle.std.proofs.lemmas.Bool.{cases_eq, cases_Bool, eqb-true, eq-eqb, and_parts, and_from, or_left, or_right}
use Rattle.std.proofs.lemmas.Bool.Decides.{nat_tests}
use Rattle.edge_base.specs.declared.form.Form.{Form}
use Rattle.edge_base.specs.declared.form.Form.TheVariants.{Plain}
use Rattle.edge_base.specs.declared.geometry.Request.{Request}
use Rattle.edge_base.specs.layout.Places.{max_blocks_of}
use Rattle.edge_base.specs.tree.Chains.{is_on_chain}
use Rattle.edge_base.specs.tree.Positions.{Position, same_position, data_at, above_data, chain, has, positions_of, positions_of_form}
use Rattle.edge_base.proofs.PositionLaws.{has-append, has-filter, same_position_equiv, same_position_Decides}
use Rattle.edge_store.specs.View.{View, IsView, is_used, is_new, free_now}
use Rattle.edge_store.specs.Placed.{data_block, block_at}
use Rattle.edge_store.specs.Fresh.{is_dirty, has_after, is_there_after, fresh_count}
use Rattle.edge_store.proofs.ViewLaws.{unused_zero}
use Rattle.edge_moves.specs.Sound.{numbered}
use Rattle.edge_moves.specs.Writable.{IsMadeWritable, fresh_on_chain}
use Rattle.edge_shape.specs.Shape.{HasShape}
use Rattle.edge_shape.proofs.MovedLaws.{made_shape}
use Rattle.edge_shape.proofs.ListLaws.{is_false}
use Rattle.edge_count.specs.Frames.{KeepsBlocks, AreOfOrKept}
use Rattle.edge_count.proofs.WriteLaws.{one_chain}
use Rattle.edge_count.proofs.FreshLaws.{range_same, above, touches, touches_is, under, there_is, there_from, there_low, touches_by, step_count}
use Rattle.edge_count.proofs.ChainLaws.{chain_count}
use Rattle.edge_count.proofs.KeptLaws.{kept_dirty, absent_is}

-- ---- a chain is a part of what a change makes dirty

module _ (g : Request) (c v : View) (n i : ℕ) (low : i < max_blocks_of g) (writes removes : List Position) (stays : has removes (data_at n i) ≡ false) where
  abbrev all : List Position
  all = data_at n i ∷ writes

  pub chain_there : (p : Position) → has (chain g n i) p ≡ true → is_there_after g c v all removes p ≡ true
  chain_there p h =
      let parts = and_parts (p.number == n) (is_on_chain g p.form p.index i) (sym (one_chain g n i p) ∙ h) in
      let same : p.number ≡ n = eqb-true p.number n parts.0 in
      there_from g c v all removes p i low
      (or_left (has all (data_at p.number i)) _ (subst (λ (m : ℕ). has all (data_at m i) ≡ true) (sym same) (or_left (same_position (data_at n i) (data_at n i)) (has writes (data_at n i)) (same_position_equiv.refl (data_at n i))))) parts.1

  pub chain_touched : (p : Position) → touches g c v all removes p ≡ (has (chain g n i) p || touches g c v writes removes p)
  chain_touched p =
      touches_is g c v all removes p
      ∙ order (same_position p (data_at n i)) (has writes p) (above g c v writes removes removes p) (has (above_data g n i) p)
      (above g c v writes removes writes p)
      ∙ sym (ap (λ t. has (chain g n i) p || t) (touches_is g c v writes removes p))
    where
      order : (s x r u y : Bool) → ((s || x) || (r || (u || y))) ≡ ((s || u) || (x || (r || y)))
      order s x r u y = grind (arith, nat_tests)

  pub chain_fresh : (p : Position)
      → has (filter (λ q. not (is_dirty g c v q)) (chain g n i)) p ≡ (has (chain g n i) p && (is_there_after g c v all removes p && not (is_dirty g c v p)))
  chain_fresh p =
      has-filter (λ q. not (is_dirty g c v q)) (chain g n i) p
      ∙ with_there (has (chain g n i) p) (is_there_after g c v all removes p) (not (is_dirty g c v p)) (chain_there p)
    where
      with_there : (a t f : Bool) → (a ≡ true → t ≡ true) → (a && f) ≡ (a && (t && f))
      with_there false t f h = refl
      with_there true t f h = λ j. sym (h refl) j && f

-- ---- the step

-- Node n, which had these data blocks, has data block i besides, and each position on the chain of that is new. Each other position of the
-- node is new where it was.
pub record RenewsChain (g : Request) (c v w : View) (n i : ℕ) (indices : List ℕ) : Type 0 where
  pub shape : HasShape g w n (i ∷ indices)
  pub dirty : (p : Position) → has (chain g n i) p ≡ true → is_dirty g c w p ≡ true
  pub stays : (p : Position) → has (positions_of g n indices) p ≡ true → has (chain g n i) p ≡ false → is_dirty g c w p ≡ is_dirty g c v p
  -- the free blocks fall by the positions of the chain that were not new
  pub free : free_now g c w + fresh_on_chain g c v n i ≡ free_now g c v

-- So it is where the data block is made writable.
pub writable_renews : (g : Request) (c v w : View) (n i : ℕ) (indices : List ℕ) → HasShape g v n indices → IsView g w → IsMadeWritable g c v w n i indices
    → RenewsChain g c v w n i indices
writable_renews g c v w n i indices shape view made = record {
  shape = made_shape g c v w n i indices shape view made;
  dirty = made.dirty;
  stays = λ p listed off. ap (is_new c w) (made.stays p listed off) ∙ ap (λ o. is_some o && not (is_used c (block_at g v p))) (made.holds p listed off);
  free = made.free;
}

module _ (g : Request) (c v w : View) (n i : ℕ) (indices : List ℕ) (shape : HasShape g v n indices) (low : i < max_blocks_of g)
    (renews : RenewsChain g c v w n i indices)
    (writes removes : List Position) (of_writes : AreOfOrKept g v w n writes) (of_removes : AreOfOrKept g v w n removes)
    (stays : has removes (data_at n i) ≡ false) where
  abbrev first : List Position
  first = data_at n i ∷ writes

  -- ---- which data blocks are there after the whole change

  written : has_after g c w writes removes n i ≡ true
  written = or_right (has writes (data_at n i)) (not (data_block g w n i == 0) && not (has removes (data_at n i)))
      (and_from _ _ (ap not (absent_is g w n (i ∷ indices) renews.shape i) ∙ twice (list_any (λ k. k == i) (i ∷ indices)) (or_left (i == i) (list_any (λ k. k == i) indices) (eq-eqb i i refl))) (ap not stays))
    where
      twice : (t : Bool) → t ≡ true → not (not t) ≡ true
      twice true h = refl
      twice false h = h

  same_at : (x : ℕ) → has_after g c v first removes n x ≡ has_after g c w writes removes n x
  same_at x = elim (cases_eq x i) [
    | inl is ↦
        ap (has_after g c v first removes n) is
        ∙ or_left (has first (data_at n i)) _
        (or_left (same_position (data_at n i) (data_at n i)) (has writes (data_at n i)) (same_position_equiv.refl (data_at n i)))
        ∙ sym (ap (has_after g c w writes removes n) is ∙ written)
    | inr away ↦ λ t. (other away t || has writes (data_at n x)) || (not (absent away t) && not (has removes (data_at n x)))
  ]
    where
      other : x ≢ i → same_position (data_at n x) (data_at n i) ≡ false
      other away = is_false _ (λ h. away (ap (λ (r : Position). r.index) ((same_position_Decides (data_at n x) (data_at n i)).0 h)))

      absent : x ≢ i → (data_block g v n x == 0) ≡ (data_block g w n x == 0)
      absent away =
          absent_is g v n indices shape x
          ∙ sym
          (absent_is g w n (i ∷ indices) renews.shape x ∙ ap (λ t. not (t || list_any (λ k. k == x) indices)) (is_false (i == x) (λ h. away (sym (eqb-true i x h)))))

  same_here : (m x : ℕ) → m ≡ n → has_after g c v first removes m x ≡ has_after g c w writes removes m x
  same_here m x here = ap (λ (k : ℕ). has_after g c v first removes k x) here ∙ same_at x ∙ ap (λ (k : ℕ). has_after g c w writes removes k x) (sym here)

  same_after : (m x : ℕ) → (m ≡ n) ⊎ KeepsBlocks g v w m → x < max_blocks_of g → has_after g c v first removes m x ≡ has_after g c w writes removes m x
  same_after m x (inl here) low_x = same_here m x here
  same_after m x (inr kept) low_x = elim (cases_eq m n) [
    | inl here ↦ same_here m x here
    | inr away ↦
        let off : same_position (data_at m x) (data_at n i) ≡ false =
        is_false _ (λ h. away (ap (λ (r : Position). r.number) ((same_position_Decides (data_at m x) (data_at n i)).0 h))) in
        λ t. (off t || has writes (data_at m x)) || (not (sym (kept.places Plain x low_x) t == 0) && not (has removes (data_at m x)))
  ]

  -- ---- a position that is touched

  of_node : (p : Position) → touches g c w writes removes p ≡ true → (p.number ≡ n) ⊎ KeepsBlocks g v w p.number
  of_node p named = touches_by g c w writes removes (λ (m : ℕ). (m ≡ n) ⊎ KeepsBlocks g v w m) of_writes of_removes p named

  same_there : (p : Position) → touches g c w writes removes p ≡ true → is_there_after g c v first removes p ≡ is_there_after g c w writes removes p
  same_there p h =
      there_is g c v first removes p
      ∙ range_same (under g c v first removes p) (under g c w writes removes p) 0 (max_blocks_of g)
      (λ x below.
      ap (λ t. t && is_on_chain g p.form p.index x) (same_after p.number x (of_node p h) (let high : x < 0 + max_blocks_of g = below in let e : x < max_blocks_of g = omega arith in e)))
      ∙ sym (there_is g c w writes removes p)

  -- off the chain what is dirty of the node stays dirty, and no more
  off_chain : (form : Form) (k : ℕ) → k < positions_of_form g form → has (chain g n i) (numbered n form k) ≡ false
      → is_dirty g c w (numbered n form k) ≡ is_dirty g c v (numbered n form k)
  off_chain form k low_k off = elim (cases_Bool (has (positions_of g n indices) (numbered n form k))) [
    | inl listed ↦ renews.stays (numbered n form k) listed off
    | inr none ↦ never w renews.shape.view (block_at g w (numbered n form k)) (zero_w none) ∙ sym (never v shape.view (block_at g v (numbered n form k)) (zero_v none))
  ]
    where
      never : (u : View) → IsView g u → (b : ℕ) → b ≡ 0 → is_new c u b ≡ false
      never u view_u b zero = ap (is_new c u) zero ∙ ap (λ o. is_some o && not (is_used c 0)) (unused_zero g u view_u)

      zero_v : has (positions_of g n indices) (numbered n form k) ≡ false → block_at g v (numbered n form k) ≡ 0
      zero_v none = elim (cases_eq (block_at g v (numbered n form k)) 0) [
        | inl zero ↦ zero
        | inr there ↦ absurd (let e : true ≡ false = sym ((shape.places.places (numbered n form k) (λ t. n) low_k).0 there) ∙ none in cc)
      ]

      zero_w : has (positions_of g n indices) (numbered n form k) ≡ false → block_at g w (numbered n form k) ≡ 0
      zero_w none = elim (cases_eq (block_at g w (numbered n form k)) 0) [
        | inl zero ↦ zero
        | inr there ↦
            absurd
            (let e : true ≡ false = sym ((renews.shape.places.places (numbered n form k) (λ t. n) low_k).0 there) ∙ has-append (chain g n i) (positions_of g n indices) (numbered n form k) ∙ (λ t. off t || none t) in cc)
      ]

  still_fresh : (p : Position) → touches g c w writes removes p ≡ true → is_there_after g c v first removes p ≡ true
      → not (is_dirty g c w p) ≡ (not (is_dirty g c v p) && not (has (chain g n i) p))
  still_fresh p h there = elim (cases_Bool (has (chain g n i) p)) [
    | inl on ↦ ap not (renews.dirty p on) ∙ sym (none_left (not (is_dirty g c v p)) (has (chain g n i) p) on)
    | inr off ↦ ap not (same off) ∙ sym (all_left (not (is_dirty g c v p)) (has (chain g n i) p) off)
  ]
    where
      none_left : (f a : Bool) → a ≡ true → (f && not a) ≡ false
      none_left false a e = refl
      none_left true a e = ap not e

      all_left : (f a : Bool) → a ≡ false → (f && not a) ≡ f
      all_left false a e = refl
      all_left true a e = ap not e

      low_p : p.index < positions_of_form g p.form
      low_p = there_low g c v first removes p there

      same : has (chain g n i) p ≡ false → is_dirty g c w p ≡ is_dirty g c v p
      same off = elim (of_node p h) [
        | inr kept ↦ kept_dirty g c v w p kept low_p
        | inl here ↦
            subst
            (λ (m : ℕ).
            has (chain g n i) (numbered m p.form p.index) ≡ false → is_dirty g c w (numbered m p.form p.index) ≡ is_dirty g c v (numbered m p.form p.index))
            (sym here) (off_chain p.form p.index low_p) off
      ]

  -- The count of the change is that of the chain, and that of the rest afterwards.
  pub renewed_step : fresh_count g c v first removes ≡ fresh_on_chain g c v n i + fresh_count g c w writes removes
  renewed_step =
      step_count g c v w first removes writes removes (filter (λ p. not (is_dirty g c v p)) (chain g n i)) (has (chain g n i))
      (chain_fresh g c v n i low writes removes stays) (chain_touched g c v n i low writes removes stays) same_there still_fresh
      ∙ ap (λ (m : ℕ). m + fresh_count g c w writes removes) (sym (chain_count g c v n i))

pub write_step : (g : Request) (c v w : View) (n i : ℕ) (indices : List ℕ) → HasShape g v n indices → IsView g w → i < max_blocks_of g
    → IsMadeWritable g c v w n i indices → (writes removes : List Position)
    → AreOfOrKept g v w n writes → AreOfOrKept g v w n removes → has removes (data_at n i) ≡ false
    → fresh_count g c v (data_at n i ∷ writes) removes ≡ fresh_on_chain g c v n i + fresh_count g c w writes removes
write_step g c v w n i indices shape view low made = renewed_step g c v w n i indices shape low (writable_renews g c v w n i indices shape view made)
