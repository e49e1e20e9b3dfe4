-- Two chains of a node, and a chain beside a cut, counted together.
use Rattle.std.proofs.Common.{◌≡◌, ◌≢◌, ◌∙◌, ℕ, ◌+◌, ◌-◌, ◌/◌, ◌<◌, ◌≤◌, ◌==◌, ◌&&◌, not, Bool, true, false, cond, List, [], ◌∷◌, refl, sym, ap, subst, zero-add, arith}
use Rattle.std.specs.Prelude.{nat_le, nat_lt}
use Rattle.std.specs.Cmp.{both_ways}
use Rattle.std.specs.List.{list_any, filter, count_by}
use Rattle.std.proofs.lemmas.Bool.{and_from, and_parts, eq-eqb, eqb-true, le-leb, leb-true, lt-ltb}
use Rattle.std.proofs.lemmas.Bool.Decides.{nat_tests}
use Rattle.std.proofs.lemmas.List.Sums.{sum_by-cons}
use Rattle.edge_base.specs.declared.form.Form.{Form}
use Rattle.edge_base.specs.declared.form.Form.TheVariants.{Plain, Indirect, Double}
use Rattle.edge_base.specs.declared.geometry.Request.{Request}
use Rattle.edge_base.specs.layout.Places.{max_blocks_of, pointers_of}
use Rattle.edge_base.specs.tree.Chains.{is_on_chain}
use Rattle.edge_base.specs.tree.Positions.{Position, same_position, data_at, indirect_at, double_at, chain, has, count_of}
use Rattle.edge_store.specs.Changed.{has_index}
use Rattle.edge_store.specs.Fresh.{is_dirty, fresh_count}
use Rattle.edge_store.specs.View.{View}
use Rattle.edge_moves.proofs.SlotLaws.{some_pointers_fit}
use Rattle.edge_moves.specs.Writable.{fresh_on_chain}
use Rattle.edge_shape.specs.Cut.{is_split}
use Rattle.edge_shape.specs.Shape.{HasShape}
use Rattle.edge_shape.specs.Where.{cut_need}
use Rattle.edge_shape.proofs.ListLaws.{any-filter, any_of, found, is_false}
use Rattle.edge_count.specs.Beside.{fresh_beside, row_of, table_of}
use Rattle.edge_count.specs.Cuts.{removed}
use Rattle.edge_count.proofs.ChainLaws.{chain_once, count_once, fresh_on_chain-count}
use Rattle.edge_count.proofs.JoinLaws.{same_named, write_and_cut}
use Rattle.edge_count.proofs.RunLaws.{div_mono}
use Rattle.edge_count.proofs.WriteLaws.{any_map, fresh_two, one_chain}

-- ---- a chain, position by position

-- how many of three pass, of which the second is there where s is false, and the third where t is, too
abbrev pub of_three : Bool → Bool → Bool → Bool → Bool → ℕ
of_three s t x y z = cond x 1 0 + cond s 0 (cond y 1 0 + cond t 0 (cond z 1 0))

three-alike : (s t x y z a b e : Bool) → x ≡ a → (s ≡ false → y ≡ b) → (s ≡ false → t ≡ false → z ≡ e) → of_three s t x y z ≡ of_three s t a b e
three-alike true t x y z a b e one two three = λ i. cond (one i) 1 0 + 0
three-alike false true x y z a b e one two three = λ i. cond (one i) 1 0 + (cond (two refl i) 1 0 + 0)
three-alike false false x y z a b e one two three = λ i. cond (one i) 1 0 + (cond (two refl i) 1 0 + cond (three refl refl i) 1 0)

module _ (g : Request) (n i : ℕ) where
  abbrev row : ℕ
  row = row_of g i

  abbrev table : ℕ
  table = table_of g i

  pub chain_three : (test : Position → Bool)
      → count_by test (chain g n i) ≡ of_three (nat_lt i g.direct) (nat_lt row g.indirect) (test (data_at n i)) (test (indirect_at n row)) (test (double_at n table))
  chain_three test = by (nat_lt i g.direct) (nat_lt row g.indirect)
    where
      one : (p : Position) (ps : List Position) → count_by test (p ∷ ps) ≡ cond (test p) 1 0 + count_by test ps
      one p ps = sum_by-cons (λ q. cond (test q) 1 0) p ps

      by : (s t : Bool) → count_by test (data_at n i ∷ cond s [] (indirect_at n row ∷ cond t [] (double_at n table ∷ [])))
          ≡ of_three s t (test (data_at n i)) (test (indirect_at n row)) (test (double_at n table))
      by true t = one (data_at n i) []
      by false true = one (data_at n i) (indirect_at n row ∷ []) ∙ ap (λ (m : ℕ). cond (test (data_at n i)) 1 0 + m) (one (indirect_at n row) [])
      by false false =
          one (data_at n i) (indirect_at n row ∷ double_at n table ∷ [])
          ∙ ap (λ (m : ℕ). cond (test (data_at n i)) 1 0 + m)
          (one (indirect_at n row) (double_at n table ∷ []) ∙ ap (λ (m : ℕ). cond (test (indirect_at n row)) 1 0 + m) (zero-add (cond (test (double_at n table)) 1 0)))

  -- what is on a chain, of its own positions
  own : (x y : Bool) → x ≡ false → y ≡ true → (not x && y) ≡ true
  own x y e h = λ j. not (e j) && h j

  pub on_data : is_on_chain g Plain i i ≡ true
  on_data = eq-eqb i i refl

  pub on_indirect : nat_lt i g.direct ≡ false → is_on_chain g Indirect row i ≡ true
  on_indirect s = own (nat_lt i g.direct) (row == row) s (eq-eqb row row refl)

  pub on_double : nat_lt i g.direct ≡ false → nat_lt row g.indirect ≡ false → is_on_chain g Double table i ≡ true
  on_double s t = own (nat_lt i g.direct) (not (nat_lt row g.indirect) && (table == table)) s (own (nat_lt row g.indirect) (table == table) t (eq-eqb table table refl))

-- ---- two chains

module _ (g : Request) (c v : View) (n i k : ℕ) where
  abbrev fresh : Position → Bool
  fresh p = not (is_dirty g c v p)

  -- the positions that are not on the other chain, as a set
  beside_set : count_of (filter (λ p. fresh p && not (has (chain g n k) p)) (chain g n i)) ≡ fresh_beside g c v n i k
  beside_set =
      sym (count_once (λ p. fresh p && not (has (chain g n k) p)) (chain g n i) (chain_once g n i))
      ∙ chain_three g n i (λ p. fresh p && not (has (chain g n k) p))
      ∙ three-alike (nat_lt i g.direct) (nat_lt (row g n i) g.indirect) _ _ _ _ _ _ (same (data_at n i) refl) (λ s. same (indirect_at n (row g n i)) refl) (λ s t. same (double_at n (table g n i)) refl)
      ∙ sym (chain_three g n i (λ p. fresh p && not (is_on_chain g p.form p.index k)))
    where
      same : (p : Position) → p.number ≡ n → (fresh p && not (has (chain g n k) p)) ≡ (fresh p && not (is_on_chain g p.form p.index k))
      same p number = ap (λ t. fresh p && not t) (one_chain g n k p ∙ ap (λ t. t && is_on_chain g p.form p.index k) (eq-eqb p.number n number))

  pub two_chains : i < max_blocks_of g → k < max_blocks_of g → fresh_count g c v (data_at n i ∷ data_at n k ∷ []) [] ≡ fresh_beside g c v n i k + fresh_on_chain g c v n k
  two_chains low high = fresh_two g c v n i n k low high ∙ (λ t. beside_set t + fresh_on_chain-count g c v n k high t)

  -- ---- a chain beside a cut behind it

  abbrev rank : ℕ → ℕ
  rank x = (x - g.direct) / pointers_of g

  abbrev under : ℕ → ℕ
  under r = (r - g.indirect) / pointers_of g

  pub chain_beside_cut : (indices : List ℕ) → HasShape g v n indices → i < k → i < max_blocks_of g → has_index indices i ≡ true → has_index indices k ≡ true
      → fresh_count g c v (data_at n i ∷ []) (removed n k indices) ≡ fresh_beside g c v n i k + cut_need g c v n k
  chain_beside_cut indices shape before low has_i has_k =
      let both = write_and_cut g c v n i k indices shape before low in
      let set = sym (count_once (λ p. is_split g k indices p.form p.index && fresh p) (chain g n i) (chain_once g n i)) in
      let parts = split_parts in
      omega (arith, both, set, parts)
    where
      some : 0 < pointers_of g
      some = some_pointers_fit g shape.geometry

      still : (a b d : ℕ) → a ≤ b → not (nat_lt a d) ≡ true → not (nat_lt b d) ≡ true
      still a b d low h = grind (arith, nat_tests)

      past_direct : not (nat_lt i g.direct) ≡ true → not (nat_lt k g.direct) ≡ true
      past_direct h = still i k g.direct (omega (arith, before)) h

      same_rank : (m : ℕ) → rank i ≡ m → (x : ℕ) → k ≤ x → rank x ≡ m → rank k ≡ m
      same_rank m one x late two =
          let up = div_mono (pointers_of g) (i - g.direct) (k - g.direct) some (omega (arith, before)) in
          let down = div_mono (pointers_of g) (k - g.direct) (x - g.direct) some (omega (arith, late)) in
          omega (arith, one, two, up, down)

      -- a position above i and above a later one is above those between
      between : (form : Form) (m x : ℕ) → k ≤ x → is_on_chain g form m i ≡ true → is_on_chain g form m x ≡ true → is_on_chain g form m k ≡ true
      between Plain m x late on_i on_x =
          let one : i ≡ m = eqb-true i m on_i in
          let two : x ≡ m = eqb-true x m on_x in
          absurd (omega (arith, one, two, late, before))
      between Indirect m x late on_i on_x =
          let one = and_parts (not (nat_lt i g.direct)) (rank i == m) on_i in
          let two = and_parts (not (nat_lt x g.direct)) (rank x == m) on_x in
          and_from (not (nat_lt k g.direct)) (rank k == m) (past_direct one.0)
          (eq-eqb (rank k) m (same_rank m (eqb-true (rank i) m one.1) x late (eqb-true (rank x) m two.1)))
      between Double m x late on_i on_x =
          let one = and_parts (not (nat_lt i g.direct)) (not (nat_lt (rank i) g.indirect) && (under (rank i) == m)) on_i in
          let one_in = and_parts (not (nat_lt (rank i) g.indirect)) (under (rank i) == m) one.1 in
          let two = and_parts (not (nat_lt x g.direct)) (not (nat_lt (rank x) g.indirect) && (under (rank x) == m)) on_x in
          let two_in = and_parts (not (nat_lt (rank x) g.indirect)) (under (rank x) == m) two.1 in
          let up = div_mono (pointers_of g) (i - g.direct) (k - g.direct) some (omega (arith, before)) in
          let down = div_mono (pointers_of g) (k - g.direct) (x - g.direct) some (omega (arith, late)) in
          let up_in = div_mono (pointers_of g) (rank i - g.indirect) (rank k - g.indirect) some (omega (arith, up)) in
          let down_in = div_mono (pointers_of g) (rank k - g.indirect) (rank x - g.indirect) some (omega (arith, down)) in
          let is_one : under (rank i) ≡ m = eqb-true (under (rank i)) m one_in.1 in
          let is_two : under (rank x) ≡ m = eqb-true (under (rank x)) m two_in.1 in
          let is : under (rank k) ≡ m = omega (arith, is_one, is_two, up_in, down_in) in
          and_from (not (nat_lt k g.direct)) (not (nat_lt (rank k) g.indirect) && (under (rank k) == m)) (past_direct one.0)
          (and_from (not (nat_lt (rank k) g.indirect)) (under (rank k) == m) (still (rank i) (rank k) g.indirect up one_in.0) (eq-eqb (under (rank k)) m is))

      split_is : (form : Form) (m : ℕ) → is_on_chain g form m i ≡ true → is_split g k indices form m ≡ is_on_chain g form m k
      split_is form m on_i = both_ways (is_split g k indices form m) (is_on_chain g form m k)
          (λ h.
          let parts = and_parts (list_any (λ x. nat_le k x && is_on_chain g form m x) indices) (list_any (λ x. nat_lt x k && is_on_chain g form m x) indices) h in
          let f = found (λ x. nat_le k x && is_on_chain g form m x) indices parts.0 in
          let at = and_parts (nat_le k f.0) (is_on_chain g form m f.0) f.2 in
          between form m f.0 (leb-true k f.0 at.0) on_i at.1)
          (λ on_k.
          and_from (list_any (λ x. nat_le k x && is_on_chain g form m x) indices) (list_any (λ x. nat_lt x k && is_on_chain g form m x) indices)
          (any_of (λ x. nat_le k x && is_on_chain g form m x) indices k has_k (and_from (nat_le k k) (is_on_chain g form m k) (le-leb k k (omega arith)) on_k))
          (any_of (λ x. nat_lt x k && is_on_chain g form m x) indices i has_i (and_from (nat_lt i k) (is_on_chain g form m i) (lt-ltb i k before) on_i)))

      split : Position → Bool
      split p = is_split g k indices p.form p.index

      on : Position → Bool
      on p = is_on_chain g p.form p.index k

      -- those that are split are those on the other chain
      alike : count_by (λ p. split p && fresh p) (chain g n i) ≡ count_by (λ p. on p && fresh p) (chain g n i)
      alike =
          chain_three g n i (λ p. split p && fresh p)
          ∙ three-alike (nat_lt i g.direct) (nat_lt (row g n i) g.indirect) _ _ _ _ _ _ (same Plain i (on_data g n i)) (λ s. same Indirect (row g n i) (on_indirect g n i s))
          (λ s t. same Double (table g n i) (on_double g n i s t))
          ∙ sym (chain_three g n i (λ p. on p && fresh p))
        where
          same : (form : Form) (m : ℕ) → is_on_chain g form m i ≡ true
              → (is_split g k indices form m && fresh (record { number = n; form = form; index = m })) ≡ (is_on_chain g form m k && fresh (record { number = n; form = form; index = m }))
          same form m on_i = ap (λ t. t && fresh (record { number = n; form = form; index = m })) (split_is form m on_i)

      parted : (s t x y z a b e : Bool) → of_three s t x y z ≡ of_three s t (x && not a) (y && not b) (z && not e) + of_three s t (a && x) (b && y) (e && z)
      parted s t x y z a b e =
          by s t
        where
          half : (x a : Bool) → cond x 1 0 ≡ cond (x && not a) 1 0 + cond (a && x) 1 0
          half true true = refl
          half true false = refl
          half false true = refl
          half false false = refl

          by : (s t : Bool) → of_three s t x y z ≡ of_three s t (x && not a) (y && not b) (z && not e) + of_three s t (a && x) (b && y) (e && z)
          by true t = let one = half x a in omega (arith, one)
          by false true = let one = half x a in let two = half y b in omega (arith, one, two)
          by false false = let one = half x a in let two = half y b in let three = half z e in omega (arith, one, two, three)

      split_parts : fresh_on_chain g c v n i ≡ fresh_beside g c v n i k + count_by (λ p. split p && fresh p) (chain g n i)
      split_parts =
          chain_three g n i fresh
          ∙ parted (nat_lt i g.direct) (nat_lt (row g n i) g.indirect) (fresh (data_at n i)) (fresh (indirect_at n (row g n i))) (fresh (double_at n (table g n i)))
          (on (data_at n i)) (on (indirect_at n (row g n i))) (on (double_at n (table g n i)))
          ∙ (λ j. sym (chain_three g n i (λ p. fresh p && not (on p))) j + (sym (chain_three g n i (λ p. on p && fresh p)) ∙ sym alike) j)

-- ---- by where the blocks lie

module _ (g : Request) (c v : View) (n i k : ℕ) where
  abbrev cost_at : Position → ℕ
  cost_at p = cond (not (is_dirty g c v p)) 1 0

  -- the positions of the second chain
  abbrev also : Position → Bool
  also p = is_on_chain g p.form p.index k

  three_beside : fresh_beside g c v n i k ≡ of_three (nat_lt i g.direct) (nat_lt (row g n i) g.indirect)
      (not (is_dirty g c v (data_at n i)) && not (also (data_at n i)))
      (not (is_dirty g c v (indirect_at n (row g n i))) && not (also (indirect_at n (row g n i))))
      (not (is_dirty g c v (double_at n (table g n i))) && not (also (double_at n (table g n i))))
  three_beside = chain_three g n i (λ p. not (is_dirty g c v p) && not (also p))

  off : (x a : Bool) → a ≡ true → (x && not a) ≡ false
  off true a h = ap not h
  off false a h = refl

  all : (x a : Bool) → a ≡ false → (x && not a) ≡ x
  all true a h = ap not h
  all false a h = refl

  differs : i ≢ k → also (data_at n i) ≡ false
  differs apart = by (k == i) (λ h. apart (sym (eqb-true k i h)))
    where
      by : (t : Bool) → (t ≡ true → ⊥) → t ≡ false
      by true h = absurd (h refl)
      by false h = refl

  pub beside_itself : i ≡ k → fresh_beside g c v n i k ≡ 0
  beside_itself is = three_beside ∙ three-alike (nat_lt i g.direct) (nat_lt (row g n i) g.indirect) _ _ _ false false false
      (off _ _ (on_here Plain i (on_data g n i))) (λ s. off _ _ (on_here Indirect (row g n i) (on_indirect g n i s))) (λ s t. off _ _ (on_here Double (table g n i) (on_double g n i s t)))
      ∙ none (nat_lt i g.direct) (nat_lt (row g n i) g.indirect)
    where
      on_here : (form : Form) (m : ℕ) → is_on_chain g form m i ≡ true → is_on_chain g form m k ≡ true
      on_here form m h = ap (is_on_chain g form m) (sym is) ∙ h

      none : (s t : Bool) → of_three s t false false false ≡ 0
      none true t = refl
      none false true = refl
      none false false = refl

  below : (x d : ℕ) → d ≤ x → nat_lt x d ≡ false
  below x d low = grind (arith, nat_tests)

  not_below : (x d : ℕ) → nat_lt x d ≡ false → d ≤ x
  not_below x d h = grind (arith, nat_tests)

  above_too : (x d : ℕ) → not (nat_lt x d) ≡ true → d ≤ x
  above_too x d h = grind (arith, nat_tests)

  -- where the pointer nodes above i are above k, too
  also_row : g.direct ≤ k → row g n i ≡ row g n k → also (indirect_at n (row g n i)) ≡ true
  also_row past_k same = own g n i (nat_lt k g.direct) (row g n k == row g n i) (below k g.direct past_k) (eq-eqb (row g n k) (row g n i) (sym same))

  also_table : g.direct ≤ k → g.indirect ≤ row g n k → table g n i ≡ table g n k → also (double_at n (table g n i)) ≡ true
  also_table past_k past_row_k same =
      own g n i (nat_lt k g.direct) (not (nat_lt (row g n k) g.indirect) && (table g n k == table g n i)) (below k g.direct past_k)
      (own g n i (nat_lt (row g n k) g.indirect) (table g n k == table g n i) (below (row g n k) g.indirect past_row_k) (eq-eqb (table g n k) (table g n i) (sym same)))

  -- and where they are not
  no_row : (g.direct ≤ k → row g n i ≢ row g n k) → also (indirect_at n (row g n i)) ≡ false
  no_row rows = is_false (also (indirect_at n (row g n i))) (λ h.
      let parts = and_parts (not (nat_lt k g.direct)) (row g n k == row g n i) h in
      rows (above_too k g.direct parts.0) (sym (eqb-true (row g n k) (row g n i) parts.1)))

  no_table : (g.direct ≤ k → g.indirect ≤ row g n k → table g n i ≢ table g n k) → also (double_at n (table g n i)) ≡ false
  no_table tables = is_false (also (double_at n (table g n i))) (λ h.
      let parts = and_parts (not (nat_lt k g.direct)) (not (nat_lt (row g n k) g.indirect) && (table g n k == table g n i)) h in
      let inner = and_parts (not (nat_lt (row g n k) g.indirect)) (table g n k == table g n i) parts.1 in
      tables (above_too k g.direct parts.0) (above_too (row g n k) g.indirect inner.0) (sym (eqb-true (table g n k) (table g n i) inner.1)))

  -- of two blocks below one indirect node the first alone
  pub beside_in_row : i ≢ k → g.direct ≤ k → row g n i ≡ row g n k → fresh_beside g c v n i k ≡ cost_at (data_at n i)
  beside_in_row apart past_k same = three_beside ∙ three-alike (nat_lt i g.direct) (nat_lt (row g n i) g.indirect) _ _ _ (not (is_dirty g c v (data_at n i))) false false
      (all _ _ (differs apart)) (λ s. off _ _ (also_row past_k same))
      (λ s t. off _ _ (also_table past_k (subst (λ (m : ℕ). g.indirect ≤ m) same (not_below (row g n i) g.indirect t)) (ap (λ (m : ℕ). (m - g.indirect) / pointers_of g) same)))
      ∙ alone (nat_lt i g.direct) (nat_lt (row g n i) g.indirect) (not (is_dirty g c v (data_at n i)))
    where
      alone : (s t x : Bool) → of_three s t x false false ≡ cond x 1 0
      alone true t x = omega arith
      alone false true x = omega arith
      alone false false x = omega arith

  -- of two below one double-indirect node the first and its indirect node
  pub beside_in_table : g.direct ≤ i → g.direct ≤ k → row g n i ≢ row g n k → g.indirect ≤ row g n i → g.indirect ≤ row g n k → table g n i ≡ table g n k
      → fresh_beside g c v n i k + cost_at (double_at n (table g n i)) ≡ fresh_on_chain g c v n i
  beside_in_table past_i past_k rows past_row past_row_k same =
      let two = three_beside ∙ three-alike (nat_lt i g.direct) (nat_lt (row g n i) g.indirect) _ _ _ x y false
      (all _ _ (differs (λ is. rows (ap (row g n) is)))) (λ s. all _ _ (no_row (λ past. rows))) (λ s t. off _ _ (also_table past_k past_row_k same)) in
      let three = chain_three g n i (λ p. not (is_dirty g c v p)) in
      let both = with_table (nat_lt i g.direct) (nat_lt (row g n i) g.indirect) x y z (below i g.direct past_i) (below (row g n i) g.indirect past_row) in
      omega (arith, two, three, both)
    where
      x : Bool
      x = not (is_dirty g c v (data_at n i))

      y : Bool
      y = not (is_dirty g c v (indirect_at n (row g n i)))

      z : Bool
      z = not (is_dirty g c v (double_at n (table g n i)))

      with_table : (s t x y z : Bool) → s ≡ false → t ≡ false → of_three s t x y false + cond z 1 0 ≡ of_three s t x y z
      with_table true t x y z e f = absurd (cc)
      with_table false true x y z e f = absurd (cc)
      with_table false false x y z e f = omega arith

  -- of others all
  pub beside_apart : i ≢ k → (g.direct ≤ i → g.direct ≤ k → row g n i ≢ row g n k) → (g.direct ≤ i → g.direct ≤ k → g.indirect ≤ row g n i → g.indirect ≤ row g n k → table g n i ≢ table g n k)
      → fresh_beside g c v n i k ≡ fresh_on_chain g c v n i
  beside_apart apart rows tables = three_beside
      ∙ three-alike (nat_lt i g.direct) (nat_lt (row g n i) g.indirect) _ _ _ (not (is_dirty g c v (data_at n i))) (not (is_dirty g c v (indirect_at n (row g n i)))) (not (is_dirty g c v (double_at n (table g n i))))
      (all _ _ (differs apart)) (λ s. all _ _ (no_row (rows (not_below i g.direct s))))
      (λ s t. all _ _ (no_table (λ past past_row. tables (not_below i g.direct s) past (not_below (row g n i) g.indirect t) past_row)))
      ∙ sym (chain_three g n i (λ p. not (is_dirty g c v p)))

-- whether a position is dirty, told as a number
pub cost_is : (b : Bool) → ◌≡◌ {A = ℕ} (cond (not b) 1 0) (cond b 0 1)
cost_is true = refl
cost_is false = refl

-- ---- chains of two nodes

pub chains_apart : (g : Request) (c v : View) (n m i k : ℕ) → n ≢ m → i < max_blocks_of g → k < max_blocks_of g
    → fresh_count g c v (data_at n i ∷ data_at m k ∷ []) [] ≡ fresh_on_chain g c v n i + fresh_on_chain g c v m k
chains_apart g c v n m i k apart low high = fresh_two g c v n i m k low high ∙ (λ t. all_set t + fresh_on_chain-count g c v m k high t)
  where
    none : (p : Position) → p.number ≡ n → has (chain g m k) p ≡ false
    none p number = is_false (has (chain g m k) p) (λ h.
        let parts = and_parts (p.number == m) (is_on_chain g p.form p.index k) (sym (one_chain g m k p) ∙ h) in
        apart (sym number ∙ eqb-true p.number m parts.0))

    same : (p : Position) → p.number ≡ n → (not (is_dirty g c v p) && not (has (chain g m k) p)) ≡ not (is_dirty g c v p)
    same p number = by (not (is_dirty g c v p)) (has (chain g m k) p) (none p number)
      where
        by : (x a : Bool) → a ≡ false → (x && not a) ≡ x
        by true a h = ap not h
        by false a h = refl

    all_set : count_of (filter (λ p. not (is_dirty g c v p) && not (has (chain g m k) p)) (chain g n i)) ≡ fresh_on_chain g c v n i
    all_set =
        sym (count_once (λ p. not (is_dirty g c v p) && not (has (chain g m k) p)) (chain g n i) (chain_once g n i))
        ∙ chain_three g n i (λ p. not (is_dirty g c v p) && not (has (chain g m k) p))
        ∙ three-alike (nat_lt i g.direct) (nat_lt (row g n i) g.indirect) _ _ _ _ _ _ (same (data_at n i) refl) (λ s. same (indirect_at n (row g n i)) refl) (λ s t. same (double_at n (table g n i)) refl)
        ∙ sym (chain_three g n i (λ p. not (is_dirty g c v p)))

-- ---- nothing that is cut off

pub none_removed : (n i : ℕ) (indices : List ℕ) → ((x : ℕ) → has_index indices x ≡ true → x < i) → (p : Position) → has (removed n i indices) p ≡ has [] p
none_removed n i indices early p = is_false (has (removed n i indices) p) (λ h.
    let f = found (λ x. nat_le i x && same_position p (data_at n x)) indices
    (sym (any-filter (λ x. nat_le i x) (λ x. same_position p (data_at n x)) indices) ∙ sym (any_map (same_position p) (data_at n) (filter (λ x. nat_le i x) indices)) ∙ h) in
    let late = leb-true i f.0 (and_parts (nat_le i f.0) (same_position p (data_at n f.0)) f.2).0 in
    let low = early f.0 f.1 in
    omega (arith, late, low))

pub nothing_cut : (g : Request) (c v : View) (n i : ℕ) (writes : List Position) (indices : List ℕ) → ((x : ℕ) → has_index indices x ≡ true → x < i)
    → fresh_count g c v writes (removed n i indices) ≡ fresh_count g c v writes []
nothing_cut g c v n i writes indices early = same_named g c v writes writes (removed n i indices) [] (λ p. refl) (none_removed n i indices early)
