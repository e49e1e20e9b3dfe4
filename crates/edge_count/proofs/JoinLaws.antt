-- Parts of a change that are counted together.
use Rattle.std.proofs.Common.{◌≡◌, ◌≢◌, ℕ, ◌+◌, ◌<◌, ◌≤◌, ◌==◌, ◌&&◌, ◌||◌, not, Bool, true, false, cond, List, [], ◌∷◌, ◌++◌, map, refl, sym, ap, ◌∙◌, subst, arith, inl, inr}
use Rattle.std.specs.Prelude.{nat_le}
use Rattle.std.specs.List.{list_any, filter}
use Rattle.std.specs.Cmp.{both_ways}
use Rattle.std.proofs.lemmas.Bool.{cases_eq, cases_Bool, eq-eqb, and_parts, and_from, or_cases, or_left, or_right, leb-true, le-leb}
use Rattle.std.proofs.lemmas.Bool.Decides.{nat_tests}
use Rattle.std.proofs.lemmas.List.Folds.{list_any-append}
use Rattle.edge_base.specs.declared.form.Form.TheVariants.{Plain}
use Rattle.edge_base.specs.declared.geometry.Request.{Request}
use Rattle.edge_base.specs.layout.Places.{max_blocks_of}
use Rattle.edge_base.specs.tree.Chains.{is_on_chain}
use Rattle.edge_base.specs.tree.Positions.{Position, same_position, data_at, chain, has, count_of, ancestors, touched}
use Rattle.edge_base.proofs.PositionLaws.{has-append, has-filter, count_of-from_has, count_of-le_from_has, count_of-append, count_of-filter_both, same_position_Decides}
use Rattle.edge_store.specs.View.{View, IsView, free_now}
use Rattle.edge_store.specs.Placed.{data_block}
use Rattle.edge_store.specs.Fresh.{is_dirty, has_after, is_there_after, fresh_positions, fresh_count}
use Rattle.edge_moves.specs.Sound.{numbered}
use Rattle.edge_moves.specs.Writable.{IsMadeWritable, fresh_on_chain}
use Rattle.edge_shape.specs.Shape.{HasShape, before}
use Rattle.edge_shape.specs.Cut.{is_split, IsCut}
use Rattle.edge_shape.specs.Where.{cut_need}
use Rattle.edge_shape.proofs.AfterLaws.{position_found}
use Rattle.edge_shape.proofs.ListLaws.{found, any_of, any-filter, is_false, true_false}
use Rattle.edge_count.specs.Cuts.{removed}
use Rattle.edge_count.specs.Frames.{KeepsBlocks, AreKept, AreOfOrKept, AreElsewhere, AreAmong}
use Rattle.edge_count.proofs.WriteLaws.{any_map, one_chain, append_none}
use Rattle.edge_count.proofs.TouchLaws.{touched_number}
use Rattle.edge_count.proofs.NeedLaws.{fresh_cut, touched_split}
use Rattle.edge_count.proofs.RoomLaws.{free_now-need}
use Rattle.edge_count.proofs.FreshLaws.{chain_number, range_same, above, touches, touches_is, under, there_is, there_by, there_low, touches_by, step_count}
use Rattle.edge_count.proofs.ChainLaws.{chain_count}
use Rattle.edge_count.proofs.KeptLaws.{kept_dirty, absent_is}
use Rattle.edge_count.proofs.WriteStepLaws.{RenewsChain, chain_there, chain_touched, chain_fresh, renewed_step, writable_renews}
use Rattle.edge_count.proofs.CutStepLaws.{removed_number, cut_step}

zero_first : (m : ℕ) → 0 + m ≡ m
zero_first m = omega arith

-- ---- what is removed from an index on

removed_is : (n i : ℕ) (indices : List ℕ) (x : ℕ) → has (removed n i indices) (data_at n x) ≡ (list_any (λ k. k == x) indices && nat_le i x)
removed_is n i indices x =
    any_map (same_position (data_at n x)) (data_at n) (filter (λ y. nat_le i y) indices)
    ∙ any-filter (λ y. nat_le i y) (λ y. same_position (data_at n x) (data_at n y)) indices
    ∙ both_ways _ _
    (λ h.
    let f = found (λ y. nat_le i y && same_position (data_at n x) (data_at n y)) indices h in
    let parts = and_parts (nat_le i f.0) (same_position (data_at n x) (data_at n f.0)) f.2 in
    let is : x ≡ f.0 = ap (λ (r : Position). r.index) ((same_position_Decides (data_at n x) (data_at n f.0)).0 parts.1) in
    and_from _ _ (subst (λ (m : ℕ). list_any (λ k. k == m) indices ≡ true) (sym is) f.1) (subst (λ (m : ℕ). nat_le i m ≡ true) (sym is) parts.0))
    (λ h.
    let parts = and_parts (list_any (λ k. k == x) indices) (nat_le i x) h in
    any_of (λ y. nat_le i y && same_position (data_at n x) (data_at n y)) indices x parts.0 (and_from _ _ parts.1 ((same_position_Decides (data_at n x) (data_at n x)).1 refl)))

-- ---- each step has room

module _ (g : Request) (c v : View) (n i : ℕ) (low : i < max_blocks_of g) (writes removes : List Position) (stays : has removes (data_at n i) ≡ false) where
  -- What a chain needs is a part of what the whole change needs.
  pub chain_part : fresh_on_chain g c v n i ≤ fresh_count g c v (data_at n i ∷ writes) removes
  unfolding fresh_count
  chain_part =
      subst (λ (m : ℕ). m ≤ count_of (fresh_positions g c v (data_at n i ∷ writes) removes)) (sym (chain_count g c v n i))
      (count_of-le_from_has (filter (λ q. not (is_dirty g c v q)) (chain g n i)) (fresh_positions g c v (data_at n i ∷ writes) removes) (λ p h.
      let parts = and_parts (has (chain g n i) p) (not (is_dirty g c v p)) (sym (has-filter (λ q. not (is_dirty g c v q)) (chain g n i) p) ∙ h) in
      has-filter (λ q. is_there_after g c v (data_at n i ∷ writes) removes q && not (is_dirty g c v q))
      (touched g (λ q. false) (data_at n i ∷ writes) removes) p
      ∙ and_from _ _ (chain_touched g c v n i low writes removes stays p ∙ or_left (has (chain g n i) p) (touches g c v writes removes p) parts.0)
      (and_from _ _ (chain_there g c v n i low writes removes stays p parts.0) parts.1)))

pub renewed_rest : (g : Request) (c v w : View) (n i reserve : ℕ) (indices : List ℕ) (writes removes : List Position) → HasShape g v n indices
    → i < max_blocks_of g → RenewsChain g c v w n i indices
    → AreOfOrKept g v w n writes → AreOfOrKept g v w n removes → has removes (data_at n i) ≡ false
    → fresh_count g c v (data_at n i ∷ writes) removes + reserve ≤ free_now g c v → fresh_count g c w writes removes + reserve ≤ free_now g c w
renewed_rest g c v w n i reserve indices writes removes shape low renews of_writes of_removes stays fits =
    let step = renewed_step g c v w n i indices shape low renews writes removes of_writes of_removes stays in
    let free = renews.free in omega arith

pub write_rest : (g : Request) (c v w : View) (n i reserve : ℕ) (indices : List ℕ) (writes removes : List Position) → HasShape g v n indices → IsView g w
    → i < max_blocks_of g → IsMadeWritable g c v w n i indices
    → AreOfOrKept g v w n writes → AreOfOrKept g v w n removes → has removes (data_at n i) ≡ false
    → fresh_count g c v (data_at n i ∷ writes) removes + reserve ≤ free_now g c v → fresh_count g c w writes removes + reserve ≤ free_now g c w
write_rest g c v w n i reserve indices writes removes shape view low made =
    renewed_rest g c v w n i reserve indices writes removes shape low (writable_renews g c v w n i indices shape view made)

pub cut_rest : (g : Request) (c v w : View) (n i reserve : ℕ) (indices : List ℕ) (writes removes : List Position) → HasShape g v n indices
    → IsCut g c v w n i indices
    → AreOfOrKept g v w n writes → AreAmong n (before i indices) writes → AreKept g v w removes → AreElsewhere n removes
    → fresh_count g c v writes (removed n i indices ++ removes) + reserve ≤ free_now g c v → fresh_count g c w writes removes + reserve ≤ free_now g c w
cut_rest g c v w n i reserve indices writes removes shape cut of_writes among of_removes elsewhere fits =
    let step = cut_step g c v w n i indices shape cut writes removes of_writes among of_removes elsewhere in
    let free = free_now-need g c v w n indices shape i cut in omega arith

-- ---- the count is of what is named, however it is listed

any_has : (test : Position → Bool) (ps : List Position) (q : Position) → has ps q ≡ true → test q ≡ true → list_any test ps ≡ true
any_has test [] q h t = h
any_has test (p ∷ ps) q h t = elim (or_cases (same_position q p) (has ps q) h) [
  | inl here ↦ or_left (test p) (list_any test ps) (ap test (sym ((same_position_Decides q p).0 here)) ∙ t)
  | inr rest ↦ or_right (test p) (list_any test ps) (any_has test ps q rest t)
]

any_same : (test : Position → Bool) (ps qs : List Position) → ((p : Position) → has ps p ≡ has qs p) → list_any test ps ≡ list_any test qs
any_same test ps qs same = both_ways (list_any test ps) (list_any test qs)
    (λ h. let f = position_found test ps h in any_has test qs f.0 (sym (same f.0) ∙ f.1) f.2)
    (λ h. let f = position_found test qs h in any_has test ps f.0 (same f.0 ∙ f.1) f.2)

pub same_named : (g : Request) (c v : View) (ws xs rs ss : List Position) → ((p : Position) → has ws p ≡ has xs p) → ((p : Position) → has rs p ≡ has ss p)
    → fresh_count g c v ws rs ≡ fresh_count g c v xs ss
unfolding fresh_count
same_named g c v ws xs rs ss same_w same_r =
    count_of-from_has (fresh_positions g c v ws rs) (fresh_positions g c v xs ss) (λ p.
    has-filter (λ q. is_there_after g c v ws rs q && not (is_dirty g c v q)) (touched g (λ q. false) ws rs) p
    ∙ (λ t. touch p t && (there p t && not (is_dirty g c v p)))
    ∙ sym (has-filter (λ q. is_there_after g c v xs ss q && not (is_dirty g c v q)) (touched g (λ q. false) xs ss) p))
  where
    touch : (p : Position) → touches g c v ws rs p ≡ touches g c v xs ss p
    touch p =
        touches_is g c v ws rs p
        ∙ (λ t. same_w p t || (any_same (λ q. has (ancestors g q) p) rs ss same_r t || any_same (λ q. has (ancestors g q) p) ws xs same_w t))
        ∙ sym (touches_is g c v xs ss p)

    there : (p : Position) → is_there_after g c v ws rs p ≡ is_there_after g c v xs ss p
    there p = there_is g c v ws rs p
        ∙ range_same (under g c v ws rs p) (under g c v xs ss p) 0 (max_blocks_of g)
        (λ x below t.
        (same_w (data_at p.number x) t || (not (data_block g v p.number x == 0) && not (same_r (data_at p.number x) t))) && is_on_chain g p.form p.index x)
        ∙ sym (there_is g c v xs ss p)

-- ---- where all that is named keeps its blocks

module _ (g : Request) (c v w : View) (writes removes : List Position) (of_writes : AreKept g v w writes) (of_removes : AreKept g v w removes) where
  abbrev Kept : ℕ → Type 0
  Kept m = KeepsBlocks g v w m

  kept_there : (p : Position) → touches g c w writes removes p ≡ true → is_there_after g c v writes removes p ≡ is_there_after g c w writes removes p
  kept_there p named =
      let kept = touches_by g c w writes removes Kept of_writes of_removes p named in
      there_is g c v writes removes p
      ∙ range_same (under g c v writes removes p) (under g c w writes removes p) 0 (max_blocks_of g) (λ x below.
      let high : x < 0 + max_blocks_of g = below in
      let low : x < max_blocks_of g = omega arith in
      λ t.
      (has writes (data_at p.number x) || (not (sym (kept.places Plain x low) t == 0) && not (has removes (data_at p.number x)))) && is_on_chain g p.form p.index x)
      ∙ sym (there_is g c w writes removes p)

  pub kept_count : fresh_count g c w writes removes ≡ fresh_count g c v writes removes
  kept_count = sym (step_count g c v w writes removes writes removes [] (λ p. false) (λ p. refl) (λ p. refl) kept_there
      (λ p named there.
      ap not (kept_dirty g c v w p (touches_by g c w writes removes Kept of_writes of_removes p named) (there_low g c v writes removes p there))
      ∙ all (not (is_dirty g c v p)))
      ∙ zero_first (fresh_count g c w writes removes))
    where
      all : (t : Bool) → t ≡ (t && true)
      all true = refl
      all false = refl

-- ---- a node that goes whole

pub all_removed : (n : ℕ) (indices : List ℕ) → removed n 0 indices ≡ map (data_at n) indices
all_removed n indices = ap (map (data_at n)) (all indices)
  where
    zero_le : (m : ℕ) → 0 ≤ m
    zero_le m = omega arith

    all : (xs : List ℕ) → filter (λ x. nat_le 0 x) xs ≡ xs
    all [] = refl
    all (x ∷ xs) = (λ t. cond (le-leb 0 x (zero_le x) t) (x ∷ filter (λ y. nat_le 0 y) xs) (filter (λ y. nat_le 0 y) xs)) ∙ ap (λ ys. x ∷ ys) (all xs)

module _ (g : Request) (c v : View) (n : ℕ) (indices : List ℕ) (shape : HasShape g v n indices) where
  abbrev gone : List Position
  gone = removed n 0 indices

  module _ (writes removes : List Position) (away_writes : AreElsewhere n writes) (away_removes : AreElsewhere n removes) where
    abbrev every : List Position
    every = gone ++ removes

    abbrev over : Position → Bool
    over p = touches g c v [] gone p

    -- none of the node's data blocks is there afterwards
    none_left : (x : ℕ) → has_after g c v writes every n x ≡ false
    none_left x =
        (λ t.
        is_false (has writes (data_at n x)) (λ h. away_writes (data_at n x) h refl) t || (not (absent_is g v n indices shape x t) && not (has-append gone removes (data_at n x) t)))
        ∙ (λ t. not (not (list_any (λ k. k == x) indices)) && not (removed_is n 0 indices x t || has removes (data_at n x)))
        ∙ none (list_any (λ k. k == x) indices) (nat_le 0 x) (has removes (data_at n x)) (le-leb 0 x (zero_le x))
      where
        zero_le : (m : ℕ) → 0 ≤ m
        zero_le m = omega arith

        none : (m l r : Bool) → l ≡ true → (not (not m) && not ((m && l) || r)) ≡ false
        none true l r h = λ t. not (h t || r)
        none false l r h = refl

    not_there : (p : Position) → over p ≡ true → is_there_after g c v writes every p ≡ false
    not_there p h = is_false _ (λ there.
        let r = there_by g c v writes every p there in
        let number = touched_number g c v n 0 indices shape p h in
        true_false (sym (subst (λ (m : ℕ). has_after g c v writes every m r.0 ≡ true) number r.2) ∙ none_left r.0))

    other_number : (p : Position) → touches g c v writes removes p ≡ true → p.number ≢ n
    other_number p named = touches_by g c v writes removes (λ (m : ℕ). m ≢ n) away_writes away_removes p named

    same_there : (p : Position) → touches g c v writes removes p ≡ true → is_there_after g c v writes every p ≡ is_there_after g c v writes removes p
    same_there p named =
        there_is g c v writes every p
        ∙ range_same (under g c v writes every p) (under g c v writes removes p) 0 (max_blocks_of g) (λ x below.
        ap (λ t. (has writes (data_at p.number x) || (not (data_block g v p.number x == 0) && not t)) && is_on_chain g p.form p.index x)
        (has-append gone removes (data_at p.number x) ∙ (λ t. removed_number n 0 indices p.number x (other_number p named) t || has removes (data_at p.number x))))
        ∙ sym (there_is g c v writes removes p)

    over_touches : (p : Position) → touches g c v writes every p ≡ (over p || touches g c v writes removes p)
    over_touches p =
        touches_is g c v writes every p
        ∙ (λ t. has writes p || (list_any-append (λ q. has (ancestors g q) p) gone removes t || above g c v writes every writes p))
        ∙ order (has writes p) (above g c v writes removes gone p) (above g c v writes removes removes p) (above g c v writes removes writes p)
        ∙ (λ t. sym (touches_is g c v [] gone p) t || sym (touches_is g c v writes removes p) t)
      where
        order : (s a r y : Bool) → (s || ((a || r) || y)) ≡ ((false || (a || false)) || (s || (r || y)))
        order s a r y = grind (arith, nat_tests)

    pub whole_besides : fresh_count g c v writes every ≡ fresh_count g c v writes removes
    whole_besides =
        step_count g c v v writes every writes removes [] over
        (λ p. elim (cases_Bool (over p)) [
          | inl on ↦ sym (no_more (over p) (is_there_after g c v writes every p) (not (is_dirty g c v p)) (not_there p on))
          | inr off ↦ sym (ap (λ t. t && (is_there_after g c v writes every p && not (is_dirty g c v p))) off)
        ])
        over_touches same_there
        (λ p named there.
        all_left (not (is_dirty g c v p)) (over p) (is_false (over p) (λ h. other_number p named (touched_number g c v n 0 indices shape p h))))
        ∙ zero_first (fresh_count g c v writes removes)
      where
        no_more : (a t f : Bool) → t ≡ false → (a && (t && f)) ≡ false
        no_more true t f h = λ j. h j && f
        no_more false t f h = refl

        all_left : (f a : Bool) → a ≡ false → f ≡ (f && not a)
        all_left false a e = refl
        all_left true a e = sym (ap not e)

  nothing_named : fresh_count g c v [] [] ≡ 0
  unfolding fresh_count
  nothing_named = refl

  pub whole_alone : fresh_count g c v [] gone ≡ 0
  whole_alone =
      same_named g c v [] [] gone (gone ++ []) (λ p. refl) (λ p. ap (λ ps. has ps p) (sym (append_none gone)))
      ∙ whole_besides [] [] (λ p h. absurd (true_false (sym h))) (λ p h. absurd (true_false (sym h)))
      ∙ nothing_named

-- ---- a write and a cut

-- of two different nodes
module _ (g : Request) (c v : View) (n m k i : ℕ) (indices : List ℕ) (shape : HasShape g v m indices) (away : n ≢ m) (low : k < max_blocks_of g) where
  abbrev cut_away : List Position
  cut_away = removed m i indices

  stays_away : has cut_away (data_at n k) ≡ false
  stays_away = removed_number m i indices n k away

  cut_number : (p : Position) → touches g c v [] cut_away p ≡ true → p.number ≢ n
  cut_number p named here = away (sym here ∙ touched_number g c v m i indices shape p named)

  there_away : (p : Position) → touches g c v [] cut_away p ≡ true → is_there_after g c v (data_at n k ∷ []) cut_away p ≡ is_there_after g c v [] cut_away p
  there_away p named =
      there_is g c v (data_at n k ∷ []) cut_away p
      ∙ range_same (under g c v (data_at n k ∷ []) cut_away p) (under g c v [] cut_away p) 0 (max_blocks_of g) (λ x below.
      ap (λ t. ((t || false) || (not (data_block g v p.number x == 0) && not (has cut_away (data_at p.number x)))) && is_on_chain g p.form p.index x)
      (is_false (same_position (data_at p.number x) (data_at n k)) (λ h. cut_number p named (ap (λ (r : Position). r.number) ((same_position_Decides (data_at p.number x) (data_at n k)).0 h)))))
      ∙ sym (there_is g c v [] cut_away p)

  pub write_and_cut_apart : fresh_count g c v (data_at n k ∷ []) cut_away ≡ fresh_on_chain g c v n k + cut_need g c v m i
  write_and_cut_apart =
      step_count g c v v (data_at n k ∷ []) cut_away [] cut_away (filter (λ q. not (is_dirty g c v q)) (chain g n k)) (has (chain g n k))
      (chain_fresh g c v n k low [] cut_away stays_away) (chain_touched g c v n k low [] cut_away stays_away) there_away
      (λ p named there.
      all_left (not (is_dirty g c v p)) (has (chain g n k) p) (is_false (has (chain g n k) p) (λ h. cut_number p named (chain_number g n k p h))))
      ∙ (λ t. sym (chain_count g c v n k) t + fresh_cut g c v m i indices shape t)
    where
      all_left : (f a : Bool) → a ≡ false → f ≡ (f && not a)
      all_left false a e = refl
      all_left true a e = sym (ap not e)

-- of one node, the write before the cut
module _ (g : Request) (c v : View) (n k i : ℕ) (indices : List ℕ) (shape : HasShape g v n indices) (before_cut : k < i) (low : k < max_blocks_of g) where
  abbrev cut_here : List Position
  cut_here = removed n i indices

  abbrev on_chain : List Position
  on_chain = filter (λ q. not (is_dirty g c v q)) (chain g n k)

  abbrev on_cut : List Position
  on_cut = fresh_positions g c v [] cut_here

  abbrev shared : List Position
  shared = filter (λ p. is_split g i indices p.form p.index && not (is_dirty g c v p)) (chain g n k)

  stays_here : has cut_here (data_at n k) ≡ false
  stays_here =
      removed_is n i indices k
      ∙ is_false (list_any (λ x. x == k) indices && nat_le i k)
      (λ h. let high = leb-true i k (and_parts (list_any (λ x. x == k) indices) (nat_le i k) h).1 in absurd (omega arith))

  -- off the chain the write changes nothing
  off_there : (p : Position) → has (chain g n k) p ≡ false → touches g c v [] cut_here p ≡ true
      → is_there_after g c v (data_at n k ∷ []) cut_here p ≡ is_there_after g c v [] cut_here p
  off_there p off named =
      let number = touched_number g c v n i indices shape p named in
      there_is g c v (data_at n k ∷ []) cut_here p
      ∙ range_same (under g c v (data_at n k ∷ []) cut_here p) (under g c v [] cut_here p) 0 (max_blocks_of g) (λ x below. elim (cases_eq x k) [
        | inl is ↦
            let no : is_on_chain g p.form p.index x ≡ false =
            ap (is_on_chain g p.form p.index) is ∙ sym (ap (λ t. t && is_on_chain g p.form p.index k) (eq-eqb p.number n number)) ∙ sym (one_chain g n k p)
            ∙ off in
            none_on (has_after g c v (data_at n k ∷ []) cut_here p.number x) (is_on_chain g p.form p.index x) no
            ∙ sym (none_on (has_after g c v [] cut_here p.number x) (is_on_chain g p.form p.index x) no)
        | inr other ↦
            ap (λ t. ((t || false) || (not (data_block g v p.number x == 0) && not (has cut_here (data_at p.number x)))) && is_on_chain g p.form p.index x)
            (is_false (same_position (data_at p.number x) (data_at n k)) (λ h. other (ap (λ (r : Position). r.index) ((same_position_Decides (data_at p.number x) (data_at n k)).0 h))))
      ])
      ∙ sym (there_is g c v [] cut_here p)
    where
      none_on : (a o : Bool) → o ≡ false → (a && o) ≡ false
      none_on true o h = h
      none_on false o h = refl

  all_is : fresh_count g c v (data_at n k ∷ []) cut_here ≡ count_of (on_chain ++ on_cut)
  unfolding fresh_count
  all_is = count_of-from_has (fresh_positions g c v (data_at n k ∷ []) cut_here) (on_chain ++ on_cut) (λ p.
      has-filter (λ q. is_there_after g c v (data_at n k ∷ []) cut_here q && not (is_dirty g c v q)) (touched g (λ q. false) (data_at n k ∷ []) cut_here) p
      ∙ ap (λ t. t && (is_there_after g c v (data_at n k ∷ []) cut_here p && not (is_dirty g c v p))) (chain_touched g c v n k low [] cut_here stays_here p)
      ∙ by (has (chain g n k) p) (touches g c v [] cut_here p) (is_there_after g c v (data_at n k ∷ []) cut_here p) (is_there_after g c v [] cut_here p)
      (not (is_dirty g c v p))
      (chain_there g c v n k low [] cut_here stays_here p) (off_there p)
      ∙ sym (has-append on_chain on_cut p ∙ (λ t. has-filter (λ q. not (is_dirty g c v q)) (chain g n k) p t || has-filter (λ q. is_there_after g c v [] cut_here q && not (is_dirty g c v q)) (touched g (λ q. false) [] cut_here) p t)))
    where
      by : (a t tv t0 f : Bool) → (a ≡ true → tv ≡ true) → (a ≡ false → t ≡ true → tv ≡ t0) → ((a || t) && (tv && f)) ≡ ((a && f) || (t && (t0 && f)))
      by true t tv t0 true on off = λ j. on refl j && true
      by true true tv true false on off = λ j. on refl j && false
      by true true tv false false on off = λ j. on refl j && false
      by true false tv t0 false on off = λ j. on refl j && false
      by false true tv t0 f on off = λ j. off refl refl j && f
      by false false tv t0 f on off = refl

  -- what both name
  both_named : count_of (filter (λ p. has on_cut p) on_chain) ≡ count_of shared
  both_named = count_of-from_has (filter (λ p. has on_cut p) on_chain) shared (λ p.
      has-filter (λ q. has on_cut q) on_chain p
      ∙ (λ t.
      has-filter (λ q. not (is_dirty g c v q)) (chain g n k) p t && has-filter (λ q. is_there_after g c v [] cut_here q && not (is_dirty g c v q)) (touched g (λ q. false) [] cut_here) p t)
      ∙ by (has (chain g n k) p) (touches g c v [] cut_here p) (is_there_after g c v [] cut_here p) (is_split g i indices p.form p.index)
      (not (is_dirty g c v p)) (split_at p)
      ∙ sym (has-filter (λ q. is_split g i indices q.form q.index && not (is_dirty g c v q)) (chain g n k) p))
    where
      split_at : (p : Position) → has (chain g n k) p ≡ true
          → (touches g c v [] cut_here p && is_there_after g c v [] cut_here p) ≡ is_split g i indices p.form p.index
      split_at p on =
          subst
          (λ (m : ℕ).
          (touches g c v [] cut_here (numbered m p.form p.index) && is_there_after g c v [] cut_here (numbered m p.form p.index))
          ≡ is_split g i indices p.form p.index)
          (sym (chain_number g n k p on)) (touched_split g c v n i indices shape p.form p.index)

      by : (a t t0 s f : Bool) → (a ≡ true → (t && t0) ≡ s) → ((a && f) && (t && (t0 && f))) ≡ (a && (s && f))
      by false t t0 s f e = refl
      by true true true s true e = λ j. e refl j && true
      by true true true s false e = sym (none s)
        where
          none : (u : Bool) → (u && false) ≡ false
          none true = refl
          none false = refl
      by true true false s f e = (λ j. f && false) ∙ last f ∙ (λ j. e refl j && f)
        where
          last : (u : Bool) → (u && false) ≡ false
          last true = refl
          last false = refl
      by true false t0 s f e = last f ∙ (λ j. e refl j && f)
        where
          last : (u : Bool) → (u && false) ≡ false
          last true = refl
          last false = refl

  pub write_and_cut : fresh_count g c v (data_at n k ∷ []) cut_here + count_of shared ≡ fresh_on_chain g c v n k + cut_need g c v n i
  unfolding fresh_count
  write_and_cut =
      let one = all_is in
      let two = count_of-append on_chain on_cut in
      let three = count_of-filter_both (λ p. has on_cut p) on_chain in
      let four = both_named in
      let five = chain_count g c v n k in
      let six = fresh_cut g c v n i indices shape in
      omega (arith, one, two, three, four, five, six)
