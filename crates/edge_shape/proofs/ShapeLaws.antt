-- What a node of a shape has one level down, and that its trees are sound.
use Rattle.std.proofs.Common.{◌≡◌, ◌≢◌, ◌⊎◌, ℕ, suc, ◌+◌, ◌-◌, ◌*◌, ◌/◌, ◌%◌, ◌<◌, ◌≤◌, ◌==◌, ◌&&◌, not, Bool, true, false, eqb, ltb, List, length, refl, sym, ap, ◌∙◌, subst, arith, inl, inr}
use Rattle.std.specs.Prelude.{slice_index}
use Rattle.std.specs.List.{list_any}
use Rattle.std.proofs.lemmas.Bool.{cases_eq, cases_lt, eqb-true, eq-eqb, or_cases, or_left, or_right, le-ltb, ltb-false, and_parts, cond-false}
use Rattle.std.proofs.lemmas.List.{get_or_past}
use Rattle.std.proofs.lemmas.Nat.{div-mul-add, mod-mul-add, mod_below}
use Rattle.std.proofs.Math.Nat.{div-lt_iff_lt-mul, mul-le-mul_right}
use Rattle.edge_base.specs.declared.form.Form.{Form}
use Rattle.edge_base.specs.declared.form.Form.TheVariants.{Plain, Indirect, Double}
use Rattle.edge_base.specs.declared.geometry.Request.{Request}
use Rattle.edge_base.specs.layout.Places.{entries_of, pointers_of, max_blocks_of}
use Rattle.edge_base.specs.tree.Chains.{is_on_chain}
use Rattle.edge_base.specs.tree.Positions.{Position, has, positions_of, positions_of_form}
use Rattle.edge_base.proofs.ChainLaws.{has-positions_of}
use Rattle.edge_store.specs.View.{View, is_spot, is_link}
use Rattle.edge_store.specs.Placed.{entry_at, pointer_at, double_block, indirect_block, data_block, block_at}
use Rattle.edge_store.proofs.ViewLaws.{unused_zero, entries_of_whole}
use Rattle.edge_moves.specs.Relinks.{number_under}
use Rattle.edge_moves.specs.Sound.{numbered}
use Rattle.edge_shape.specs.Shape.{HasShape, entries_at}
use Rattle.edge_shape.specs.Trees.{in_indirect, IsSoundTree}
use Rattle.edge_shape.proofs.ListLaws.{found, any_of, any_index, list_there, is_false, apart_false, some_true}
use Rattle.edge_moves.proofs.SlotLaws.{entries_fit, some_pointers_fit}
use Rattle.edge_moves.proofs.FactLaws.{full_node}
use Rattle.edge_moves.proofs.RangeLaws.{there_in_range}
use Rattle.edge_moves.proofs.StepLaws.{pointer_is}
use Rattle.edge_shape.proofs.SpotLaws.{used_spot, tree_of_zero, pointer_there}

module _ (g : Request) (v : View) (n : ℕ) (indices : List ℕ) (shape : HasShape g v n indices) where
  abbrev k : ℕ
  k = pointers_of g

  abbrev doubles : ℕ
  doubles = entries_of g - g.direct - g.indirect

  -- ---- what is there is within the numbers of a node

  pub entry_there : (e : ℕ) → entry_at v n e ≢ 0 → e < entries_of g
  entry_there e there = elim (cases_lt e (entries_of g)) [
    | inl low ↦ low
    | inr past ↦ let all = entries_of_whole g v n shape.view shape.inode in absurd (there (get_or_past _ e 0 (omega arith)))
  ]

  pub in_range : (form : Form) (m : ℕ) → block_at g v (numbered n form m) ≢ 0 → m < positions_of_form g form
  in_range form m there = there_in_range g v n (entries_fit g shape.geometry) (some_pointers_fit g shape.geometry) (entries_of_whole g v n shape.view shape.inode) form m there

  double_there : (d : ℕ) → double_block g v n d ≢ 0 → d < doubles
  double_there d there = in_range Double d there

  indirect_there : (j : ℕ) → indirect_block g v n j ≢ 0 → j < g.indirect + doubles * k
  indirect_there j there = in_range Indirect j there

  pub data_there : (i : ℕ) → data_block g v n i ≢ 0 → i < max_blocks_of g
  data_there i there = in_range Plain i there

  pub listed : (form : Form) (m : ℕ) → block_at g v (numbered n form m) ≢ 0 → has (positions_of g n indices) (numbered n form m) ≡ true
  listed form m there = (shape.places.places (numbered n form m) (λ t. n) (in_range form m there)).0 there

  pub spot_at : (form : Form) (m : ℕ) → block_at g v (numbered n form m) ≢ 0 → is_spot v form n (block_at g v (numbered n form m)) ≡ true
  spot_at form m there = shape.places.spots (numbered n form m) (listed form m there)

  pub one_place : (form other : Form) (m l : ℕ) → block_at g v (numbered n form m) ≢ 0 → block_at g v (numbered n form m) ≡ block_at g v (numbered n other l) → numbered n form m ≡ numbered n other l
  one_place form other m l there same = shape.once (numbered n form m) (numbered n other l) (listed form m there) (listed other l (λ none. there (same ∙ none))) same

  pub link_at : (form : Form) (m : ℕ) → is_link g (block_at g v (numbered n form m)) ≡ true
  link_at form m = elim (cases_eq (block_at g v (numbered n form m)) 0) [
    | inl none ↦ or_left _ _ (eq-eqb _ 0 none)
    | inr there ↦ or_right (block_at g v (numbered n form m) == 0) _ (shape.view.allocable _ (used_spot v form n _ (spot_at form m there)))
  ]

  -- ---- one level down

  behind : (a m : ℕ) → a + m - a ≡ m
  behind a m = omega arith

  pub data_down : (j p : ℕ) → p < k → data_block g v n (number_under g Indirect j p) ≡ pointer_at v Indirect (indirect_block g v n j) p
  unfolding data_block
  data_down j p low =
      let less = behind g.direct (j * k + p) in
      cond-false (ltb (number_under g Indirect j p) g.direct) _ _ (le-ltb (number_under g Indirect j p) g.direct (omega arith))
      ∙ (λ i. pointer_at v Indirect (indirect_block g v n ((ap (λ (m : ℕ). m / k) less ∙ div-mul-add j k p low) i)) ((ap (λ (m : ℕ). m % k) less ∙ mod-mul-add j k p low) i))

  pub indirect_down : (d s : ℕ) → s < k → indirect_block g v n (number_under g Double d s) ≡ pointer_at v Double (double_block g v n d) s
  unfolding indirect_block
  indirect_down d s low =
      let less = behind g.indirect (d * k + s) in
      cond-false (ltb (number_under g Double d s) g.indirect) _ _ (le-ltb (number_under g Double d s) g.indirect (omega arith))
      ∙ (λ i. pointer_at v Double (double_block g v n ((ap (λ (m : ℕ). m / k) less ∙ div-mul-add d k s low) i)) ((ap (λ (m : ℕ). m % k) less ∙ mod-mul-add d k s low) i))

  pub data_number : (j l p q : ℕ) → p < k → q < k → number_under g Indirect j p ≡ number_under g Indirect l q → (j ≡ l) × (p ≡ q)
  data_number j l p q low high same =
      let rows : j * k + p ≡ l * k + q = omega arith in
      (sym (div-mul-add j k p low) ∙ ap (λ (m : ℕ). m / k) rows ∙ div-mul-add l k q high, sym (mod-mul-add j k p low) ∙ ap (λ (m : ℕ). m % k) rows ∙ mod-mul-add l k q high)

  pub indirect_number : (d e s t : ℕ) → s < k → t < k → number_under g Double d s ≡ number_under g Double e t → (d ≡ e) × (s ≡ t)
  indirect_number d e s t low high same =
      let rows : d * k + s ≡ e * k + t = omega arith in
      (sym (div-mul-add d k s low) ∙ ap (λ (m : ℕ). m / k) rows ∙ div-mul-add e k t high, sym (mod-mul-add d k s low) ∙ ap (λ (m : ℕ). m % k) rows ∙ mod-mul-add e k t high)

  -- ---- the pointers of an indirect node

  module _ (j : ℕ) (there : indirect_block g v n j ≢ 0) where
    abbrev b : ℕ
    b = indirect_block g v n j

    abbrev es : List ℕ
    es = entries_at v Indirect b

    pub long_indirect : length es ≡ k
    long_indirect = full_node g v Indirect n b (λ (e : Indirect ≡ Plain). cc) shape.view (spot_at Indirect j there)

    pub data_pointer : (p : ℕ) → p < k → slice_index es p ≡ data_block g v n (number_under g Indirect j p)
    data_pointer p low = sym (data_down j p low ∙ pointer_is v Indirect b p there)

    -- what hangs under it
    pub under_indirect : (x : ℕ) → in_indirect v b x ≡ true → (x ≡ b) ⊎ ((p : ℕ) × (p < k) × (data_block g v n (number_under g Indirect j p) ≡ x))
    under_indirect x h = elim (or_cases (x == b) (list_any (λ c. x == c) es) h) [
      | inl here ↦ inl (eqb-true x b here)
      | inr rest ↦
          let r = any_index x es rest in
          let low : r.0 < k = let before : r.0 < length es = r.1 in let all = long_indirect in omega arith in
          inr (r.0, low, sym (data_pointer r.0 low) ∙ r.2)
    ]

    -- the places of an indirect node are those of different data blocks, and it is none of them
    data_apart : (p q : ℕ) → p < k → q < k → slice_index es p ≢ 0 → slice_index es p ≡ slice_index es q → p ≡ q
    data_apart p q low high some same =
        let one = data_pointer p low in
        let two = data_pointer q high in
        let place = one_place Plain Plain (number_under g Indirect j p) (number_under g Indirect j q) (λ none. some (one ∙ none)) (sym one ∙ same ∙ two) in
        (data_number j j p q low high (ap (λ (r : Position). r.index) place)).1

    not_itself : (p : ℕ) → p < k → slice_index es p ≢ b
    not_itself p low same =
        let one = data_pointer p low in
        let place = one_place Indirect Plain j (number_under g Indirect j p) there (sym same ∙ one) in
        form_apart (ap (λ (r : Position). r.form) place)
      where
        form_apart : Indirect ≢ Plain
        form_apart e = cc

    pub sound_indirect : (p : ℕ) → p < k → data_block g v n (number_under g Indirect j p) ≢ 0 → IsSoundTree g v Indirect n b
    sound_indirect p low some = record {
      spot = spot_at Indirect j there;
      list = record {
        some = list_there (λ c. not (c == 0)) es p (let all = long_indirect in omega arith) (some_true (slice_index es p) (λ none. some (sym (data_pointer p low) ∙ none)));
        link = λ q high. ap (is_link g) (data_pointer q high) ∙ link_at Plain (number_under g Indirect j q);
        children = λ q high some_q. ap (is_spot v Plain n) (data_pointer q high) ∙ spot_at Plain (number_under g Indirect j q) (λ none. some_q (data_pointer q high ∙ none));
        apart = λ q r before high some_r x far under. apart_false x (slice_index es q) (λ is. let even = data_apart r q high (omega arith) some_r (sym (eqb-true x (slice_index es r) under) ∙ is) in omega arith);
        itself = λ q high. apart_false b (slice_index es q) (λ is. not_itself q high (sym is));
      };
    }

  -- ---- a pointer node has something under it

  pub chain_data : (j i : ℕ) → is_on_chain g Indirect j i ≡ true → (g.direct ≤ i) × ((i - g.direct) / k ≡ j)
  chain_data j i on = by (ltb i g.direct) refl on
    where
      by : (t : Bool) → ltb i g.direct ≡ t → (not t && eqb ((i - g.direct) / k) j) ≡ true → (g.direct ≤ i) × ((i - g.direct) / k ≡ j)
      by true e h = absurd (let f : false ≡ true = h in cc)
      by false e h = (ltb-false i g.direct e, eqb-true _ j h)

  pub some_below : (j : ℕ) → indirect_block g v n j ≢ 0 → (p : ℕ) × (p < k) × (data_block g v n (number_under g Indirect j p) ≢ 0)
  some_below j there =
      let h = listed Indirect j there in
      let any = and_parts (n == n) (list_any (is_on_chain g Indirect j) indices) (sym (has-positions_of g n indices (numbered n Indirect j)) ∙ h) in
      let f = found (is_on_chain g Indirect j) indices any.1 in
      let on = chain_data j f.0 f.2 in
      let low = mod_below (f.0 - g.direct) k (some_pointers_fit g shape.geometry) in
      let whole : f.0 - g.direct ≡ (f.0 - g.direct) / k * k + (f.0 - g.direct) % k = div_mod (f.0 - g.direct) k (some_pointers_fit g shape.geometry) in
      let past : g.direct ≤ f.0 = on.0 in
      let row : (f.0 - g.direct) / k * k ≡ j * k = ap (λ (m : ℕ). m * k) on.1 in
      let is : f.0 ≡ number_under g Indirect j ((f.0 - g.direct) % k) = omega arith in
      let before : f.0 < max_blocks_of g = index_below j f.0 (indirect_there j there) low on.0 is in
      let listed_data : has (positions_of g n indices) (numbered n Plain f.0) ≡ true =
      has-positions_of g n indices (numbered n Plain f.0) ∙ (λ t. eq-eqb n n refl t && any_of (is_on_chain g Plain f.0) indices f.0 f.1 (eq-eqb f.0 f.0 refl) t) in
      ((f.0 - g.direct) % k, low, subst (λ (m : ℕ). data_block g v n m ≢ 0) is ((shape.places.places (numbered n Plain f.0) (λ t. n) before).1 listed_data))
    where
      div_mod : (m w : ℕ) → 0 < w → m ≡ m / w * w + m % w
      div_mod m w h = omega arith

      index_below : (j i : ℕ) → j < g.indirect + doubles * k → (i - g.direct) % k < k → g.direct ≤ i → i ≡ number_under g Indirect j ((i - g.direct) % k) → i < max_blocks_of g
      index_below j i row low past is =
          let next : suc j * k ≤ (g.indirect + doubles * k) * k = mul-le-mul_right k (let l : suc j ≤ g.indirect + doubles * k = omega arith in l) in
          let rows : (g.indirect + doubles * k) * k ≡ g.indirect * k + doubles * (k * k) = grind arith in
          let one : suc j * k ≡ j * k + k = grind arith in
          omega arith

  pub chain_double : (d i : ℕ) → is_on_chain g Double d i ≡ true → (g.direct ≤ i) × (g.indirect ≤ (i - g.direct) / k) × (((i - g.direct) / k - g.indirect) / k ≡ d)
  chain_double d i on = by (ltb i g.direct) (ltb ((i - g.direct) / k) g.indirect) refl refl on
    where
      by : (t u : Bool) → ltb i g.direct ≡ t → ltb ((i - g.direct) / k) g.indirect ≡ u → (not t && (not u && eqb (((i - g.direct) / k - g.indirect) / k) d)) ≡ true
          → (g.direct ≤ i) × (g.indirect ≤ (i - g.direct) / k) × (((i - g.direct) / k - g.indirect) / k ≡ d)
      by true u e f h = absurd (let c : false ≡ true = h in cc)
      by false true e f h = absurd (let c : false ≡ true = h in cc)
      by false false e f h = (ltb-false i g.direct e, ltb-false ((i - g.direct) / k) g.indirect f, eqb-true _ d h)

  pub data_above : (i : ℕ) → g.direct ≤ i → data_block g v n i ≢ 0 → indirect_block g v n ((i - g.direct) / k) ≢ 0
  unfolding data_block
  data_above i past some = pointer_there v Indirect (indirect_block g v n ((i - g.direct) / k)) ((i - g.direct) % k)
      (λ none. some (cond-false (ltb i g.direct) (entry_at v n i) (pointer_at v Indirect (indirect_block g v n ((i - g.direct) / k)) ((i - g.direct) % k)) (le-ltb i g.direct past) ∙ none))

  pub some_node_below : (d : ℕ) → double_block g v n d ≢ 0 → (s : ℕ) × (s < k) × (indirect_block g v n (number_under g Double d s) ≢ 0)
  some_node_below d there =
      let h = listed Double d there in
      let any = and_parts (n == n) (list_any (is_on_chain g Double d) indices) (sym (has-positions_of g n indices (numbered n Double d)) ∙ h) in
      let f = found (is_on_chain g Double d) indices any.1 in
      let on = chain_double d f.0 f.2 in
      let row = (f.0 - g.direct) / k in
      let low = mod_below (row - g.indirect) k (some_pointers_fit g shape.geometry) in
      let table : row - g.indirect < doubles * k = (div-lt_iff_lt-mul (some_pointers_fit g shape.geometry)).0 (subst (λ (m : ℕ). m < doubles) (sym on.2) (double_there d there)) in
      let from : g.indirect ≤ row = on.1 in
      let rows : row < g.indirect + doubles * k = omega arith in
      let behind_direct : f.0 - g.direct < (g.indirect + doubles * k) * k = (div-lt_iff_lt-mul (some_pointers_fit g shape.geometry)).0 rows in
      let all : (g.indirect + doubles * k) * k ≡ g.indirect * k + doubles * (k * k) = all_rows in
      let past : g.direct ≤ f.0 = on.0 in
      let before : f.0 < max_blocks_of g = omega arith in
      let listed_data : has (positions_of g n indices) (numbered n Plain f.0) ≡ true =
      has-positions_of g n indices (numbered n Plain f.0) ∙ (λ t. eq-eqb n n refl t && any_of (is_on_chain g Plain f.0) indices f.0 f.1 (eq-eqb f.0 f.0 refl) t) in
      let some = data_above f.0 past ((shape.places.places (numbered n Plain f.0) (λ t. n) before).1 listed_data) in
      let whole : row - g.indirect ≡ (row - g.indirect) / k * k + (row - g.indirect) % k = div_mod (row - g.indirect) k (some_pointers_fit g shape.geometry) in
      let same : (row - g.indirect) / k * k ≡ d * k = ap (λ (m : ℕ). m * k) on.2 in
      let is : row ≡ number_under g Double d ((row - g.indirect) % k) = omega arith in
      ((row - g.indirect) % k, low, subst (λ (m : ℕ). indirect_block g v n m ≢ 0) is some)
    where
      div_mod : (m w : ℕ) → 0 < w → m ≡ m / w * w + m % w
      div_mod m w h = omega arith

      all_rows : (g.indirect + doubles * k) * k ≡ g.indirect * k + doubles * (k * k)
      all_rows = grind arith

  -- ---- the pointers of a double-indirect node

  module _ (d : ℕ) (there : double_block g v n d ≢ 0) where
    abbrev t : ℕ
    t = double_block g v n d

    abbrev ts : List ℕ
    ts = entries_at v Double t

    pub long_double : length ts ≡ k
    long_double = full_node g v Double n t (λ (e : Double ≡ Plain). cc) shape.view (spot_at Double d there)

    pub indirect_pointer : (s : ℕ) → s < k → slice_index ts s ≡ indirect_block g v n (number_under g Double d s)
    indirect_pointer s low = sym (indirect_down d s low ∙ pointer_is v Double t s there)

    -- what hangs under one of its pointers
    pub under_pointer : (s x : ℕ) → s < k → slice_index ts s ≢ 0 → in_indirect v (slice_index ts s) x ≡ true
        → (x ≡ indirect_block g v n (number_under g Double d s)) ⊎ ((p : ℕ) × (p < k) × (data_block g v n (number_under g Indirect (number_under g Double d s) p) ≡ x))
    under_pointer s x low some h =
        let is = indirect_pointer s low in
        under_indirect (number_under g Double d s) (λ none. some (is ∙ none)) x (subst (λ (c : ℕ). in_indirect v c x ≡ true) is h)

    forms : (form other : Form) (m l : ℕ) → form ≢ other → numbered n form m ≢ numbered n other l
    forms form other m l apart e = apart (ap (λ (r : Position). r.form) e)

    plain_indirect : Plain ≢ Indirect
    plain_indirect e = cc

    indirect_plain : Indirect ≢ Plain
    indirect_plain e = cc

    indirect_double : Indirect ≢ Double
    indirect_double e = cc

    plain_double : Plain ≢ Double
    plain_double e = cc

    number_of : (m l : ℕ) (form : Form) → numbered n form m ≡ numbered n form l → m ≡ l
    number_of m l form e = ap (λ (r : Position). r.index) e

    -- two places with a block in common are one
    same_pointer : (r q x : ℕ) → r < k → q < k → x ≢ 0 → slice_index ts r ≢ 0 → slice_index ts q ≢ 0 → in_indirect v (slice_index ts r) x ≡ true → in_indirect v (slice_index ts q) x ≡ true → r ≡ q
    same_pointer r q x low high far some_r some_q under_r under_q =
        elim (under_pointer r x low some_r under_r) [
          | inl one ↦ elim (under_pointer q x high some_q under_q) [
            | inl two ↦
                let place = one_place Indirect Indirect (number_under g Double d r) (number_under g Double d q) (λ none. far (one ∙ none)) (sym one ∙ two) in
                (indirect_number d d r q low high (number_of _ _ Indirect place)).1
            | inr two ↦ absurd (forms Indirect Plain _ _ indirect_plain (one_place Indirect Plain (number_under g Double d r) (number_under g Indirect (number_under g Double d q) two.0) (λ none. far (one ∙ none)) (sym one ∙ sym two.2)))
          ]
          | inr one ↦ elim (under_pointer q x high some_q under_q) [
            | inl two ↦ absurd (forms Indirect Plain _ _ indirect_plain (one_place Indirect Plain (number_under g Double d q) (number_under g Indirect (number_under g Double d r) one.0) (λ none. far (two ∙ none)) (sym two ∙ sym one.2)))
            | inr two ↦
                let place = one_place Plain Plain (number_under g Indirect (number_under g Double d r) one.0) (number_under g Indirect (number_under g Double d q) two.0) (λ none. far (sym one.2 ∙ none)) (one.2 ∙ sym two.2) in
                let row = (data_number (number_under g Double d r) (number_under g Double d q) one.0 two.0 one.1 two.1 (number_of _ _ Plain place)).0 in
                (indirect_number d d r q low high row).1
          ]
        ]

    top_not_under : (s : ℕ) → s < k → slice_index ts s ≢ 0 → in_indirect v (slice_index ts s) t ≡ true → ⊥
    top_not_under s low some under = elim (under_pointer s t low some under) [
      | inl one ↦ forms Indirect Double _ _ indirect_double (one_place Indirect Double (number_under g Double d s) d (λ none. there (one ∙ none)) (sym one))
      | inr one ↦ forms Plain Double _ _ plain_double (one_place Plain Double (number_under g Indirect (number_under g Double d s) one.0) d (λ none. there (sym one.2 ∙ none)) one.2)
    ]

    none_under_zero : (c x : ℕ) → c ≡ 0 → x ≢ 0 → in_indirect v c x ≡ false
    none_under_zero c x none far = ap (λ (b : ℕ). in_indirect v b x) none ∙ tree_of_zero v Indirect x (unused_zero g v shape.view) (λ (e : Indirect ≡ Double). indirect_double e) ∙ apart_false x 0 far

    pub sound_double : (s : ℕ) → s < k → slice_index ts s ≢ 0 → IsSoundTree g v Double n t
    sound_double s low some = record {
      spot = spot_at Double d there;
      list = record {
        some = list_there (λ c. not (c == 0)) ts s (let all = long_double in omega arith) (some_true (slice_index ts s) some);
        link = λ q high. ap (is_link g) (indirect_pointer q high) ∙ link_at Indirect (number_under g Double d q);
        children = λ q high some_q.
            let is = indirect_pointer q high in
            let below_q = some_below (number_under g Double d q) (λ none. some_q (is ∙ none)) in
            subst (λ (c : ℕ). IsSoundTree g v Indirect n c) (sym is) (sound_indirect (number_under g Double d q) (λ none. some_q (is ∙ none)) below_q.0 below_q.1 below_q.2);
        apart = λ r q before high some_q x far under. elim (cases_eq (slice_index ts r) 0) [
          | inl none ↦ none_under_zero (slice_index ts r) x none far
          | inr some_r ↦ is_false (in_indirect v (slice_index ts r) x) (λ under_r. let even = same_pointer r q x (omega arith) high far some_r some_q under_r under in omega arith)
        ];
        itself = λ q high. elim (cases_eq (slice_index ts q) 0) [
          | inl none ↦ none_under_zero (slice_index ts q) t none there
          | inr some_q ↦ is_false (in_indirect v (slice_index ts q) t) (λ under. top_not_under q high some_q under)
        ];
      };
    }
