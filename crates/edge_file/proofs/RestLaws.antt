-- A node that is cut behind its first bytes.
use Rattle.std.proofs.Common.{◌≡◌, ◌≢◌, ℕ, ◌+◌, ◌-◌, ◌*◌, ◌/◌, ◌%◌, ◌<◌, ◌≤◌, ◌==◌, ◌&&◌, ◌||◌, not, Bool, true, false, cond, inl, inr, List, [], ◌∷◌, ◌++◌, length, filter, refl, sym, ap, ◌∙◌, subst, arith}
use Rattle.std.specs.Prelude.{replicate, slice_index, nat_le, nat_lt}
use Rattle.std.specs.List.{list_any}
use Rattle.std.proofs.lemmas.Bool.{cases_Bool, cases_eq, cases_lt, both_ways, and_parts, and_from, eqb-true, le-leb, lt-ltb, ltb-true, cond-true, cond-false, false_from_ne_true, or_cases, not-true}
use Rattle.std.proofs.lemmas.Bool.Decides.{nat_tests}
use Rattle.std.proofs.lemmas.List.{get_or-replicate, length-replicate}
use Rattle.std.proofs.lemmas.Nat.{div-add-mod'}
use Rattle.std.proofs.Math.Nat.{mod-lt, mul-le-mul_right}
use Rattle.edge_base.specs.declared.form.Form.TheVariants.{Plain}
use Rattle.edge_base.specs.declared.geometry.Request.{Request}
use Rattle.edge_base.specs.layout.Places.{max_size_of}
use Rattle.edge_base.specs.tree.Chains.{is_on_chain}
use Rattle.edge_base.specs.tree.Positions.{Position, data_at, has, count_of, chain, positions_of}
use Rattle.edge_base.specs.tree.Slots.{pieces}
use Rattle.edge_base.proofs.ChainLaws.{has-positions_of}
use Rattle.edge_base.proofs.PositionLaws.{has-filter, count_of-le_from_has}
use Rattle.edge_store.specs.Fresh.{is_dirty, fresh_count}
use Rattle.edge_store.specs.Placed.{data_block}
use Rattle.edge_store.specs.View.{View, IsView, bytes_in, content, is_whole, free_now}
use Rattle.edge_store.proofs.ChangedLaws.{same_places, same_once}
use Rattle.edge_store.proofs.ViewLaws.{unused_zero}
use Rattle.edge_moves.specs.Writable.{fresh_on_chain}
use Rattle.edge_moves.proofs.SlotLaws.{some_pointers_fit}
use Rattle.edge_shape.specs.Cut.{IsCut}
use Rattle.edge_shape.specs.Shape.{HasShape, before}
use Rattle.edge_shape.specs.Where.{cut_need}
use Rattle.edge_shape.proofs.LeaveLaws.{index_there, index_listed}
use Rattle.edge_shape.proofs.ListLaws.{found, any_of}
use Rattle.edge_shape.proofs.ShapeLaws.{data_there}
use Rattle.edge_count.specs.Cuts.{removed}
use Rattle.edge_count.proofs.CutStepLaws.{before_is, cut_part}
use Rattle.edge_count.proofs.SizeLaws.{fresh_size-chain}
use Rattle.edge_count.proofs.WriteLaws.{append_none}
use Rattle.edge_file.specs.Bytes.{byte_of, blocks_under}
use Rattle.edge_file.specs.Rewritten.{IsRewritten, IsWritten, fresh_on}
use Rattle.edge_file.specs.Shortened.{has_rest, rest_of, block_of_rest, shortening_need, IsShortened}
use Rattle.edge_file.proofs.BlockLaws.{alone, fresh_on-chain}
use Rattle.edge_file.proofs.JoinLaws.{fresh_on-alike, rewritten-alike}
use Rattle.edge_file.proofs.PieceLaws.{full_pieces, part_pieces}
use Rattle.edge_file.proofs.RangeLaws.{lists, lists-append, rows_apart, block_alone}
use Rattle.edge_file.proofs.StepLaws.{some_bytes}
use Rattle.edge_file.proofs.TrimLaws.{trimmed_both, room_both}
use Rattle.edge_file.proofs.WriteLaws.{none_under}

not_zero : (b : ℕ) → not (b == 0) ≡ true → b ≢ 0
not_zero b h e = grind (arith, nat_tests)

zero_not : (b : ℕ) → b ≢ 0 → not (b == 0) ≡ true
zero_not b there = grind (arith, nat_tests)

-- ---- whether there are bytes behind a size

pub rest_none : (g : Request) (v : View) (n size : ℕ) → size % g.block_size ≡ 0 → has_rest g v n size ≡ false
rest_none g v n size none = ap (λ (x : ℕ). not (x == 0) && not (data_block g v n (size / g.block_size) == 0)) none

pub rest_absent : (g : Request) (v : View) (n size : ℕ) → data_block g v n (size / g.block_size) ≡ 0 → has_rest g v n size ≡ false
rest_absent g v n size absent = ap (λ (b : ℕ). not (size % g.block_size == 0) && not (b == 0)) absent ∙ by (not (size % g.block_size == 0))
  where
    by : (t : Bool) → (t && false) ≡ false
    by true = refl
    by false = refl

pub rest_there : (g : Request) (v : View) (n size : ℕ) → size % g.block_size ≢ 0 → data_block g v n (size / g.block_size) ≢ 0 → has_rest g v n size ≡ true
rest_there g v n size part there =
    and_from (not (size % g.block_size == 0)) (not (data_block g v n (size / g.block_size) == 0)) (zero_not (size % g.block_size) part) (zero_not (data_block g v n (size / g.block_size)) there)

-- ---- the blocks of bytes before and behind a size

-- a byte before the size is in one of those blocks
in_front : (b size k : ℕ) → 0 < b → k < size → k / b < pieces b size
in_front b size k some front = elim (cases_eq (size % b) 0) [
  | inl none ↦
      let is = full_pieces b size some none in
      let low : k / b < size / b = by_full (k / b) (size / b) (k % b) (div-add-mod' k b) (div-add-mod' size b) none in
      omega (arith, is, low)
  | inr there ↦
      let is = part_pieces b size some there in
      let low : k / b < size / b + 1 = by_part (k / b) (size / b) (k % b) (size % b) (div-add-mod' k b) (div-add-mod' size b) (mod-lt size some) in
      omega (arith, is, low)
]
  where
    by_full : (x q y : ℕ) → x * b + y ≡ k → q * b + size % b ≡ size → size % b ≡ 0 → x < q
    by_full x q y split all none = elim (cases_lt x q) [
      | inl low ↦ low
      | inr high ↦ let up : q * b ≤ x * b = mul-le-mul_right b high in absurd (let f : ⊥ = omega (arith, split, all, none, up, front) in f)
    ]

    by_part : (x q y r : ℕ) → x * b + y ≡ k → q * b + r ≡ size → r < b → x < q + 1
    by_part x q y r split all short = elim (cases_lt x (q + 1)) [
      | inl low ↦ low
      | inr high ↦ let up : q * b + b ≤ x * b = rows_apart x q b (omega arith) in absurd (let f : ⊥ = omega (arith, split, all, short, up, front) in f)
    ]

-- one behind it that is in one of them is in the last, which is not full
record Behind (b size k : ℕ) : Type 0 where
  pub part : size % b ≢ 0
  pub last : k / b ≡ size / b
  pub near : k < size + (b - size % b)

behind : (b size k : ℕ) → 0 < b → size ≤ k → k / b < pieces b size → Behind b size k
behind b size k some far low = elim (cases_eq (size % b) 0) [
  | inl none ↦ absurd (by_full (k / b) (size / b) (k % b) (div-add-mod' k b) (div-add-mod' size b) (mod-lt k some) none (subst (λ (m : ℕ). k / b < m) (full_pieces b size some none) low))
  | inr there ↦
      let is = by_part (k / b) (size / b) (k % b) (size % b) (div-add-mod' k b) (div-add-mod' size b) (mod-lt k some) (subst (λ (m : ℕ). k / b < m) (part_pieces b size some there) low) in
      record { part = there; last = is; near = by_near (k / b) (size / b) (k % b) (size % b) is (div-add-mod' k b) (div-add-mod' size b) (mod-lt k some) (mod-lt size some) }
]
  where
    by_full : (x q y : ℕ) → x * b + y ≡ k → q * b + size % b ≡ size → y < b → size % b ≡ 0 → x < q → ⊥
    by_full x q y split all short none less = let up : x * b + b ≤ q * b = rows_apart q x b less in omega (arith, split, all, short, none, up, far)

    by_part : (x q y r : ℕ) → x * b + y ≡ k → q * b + r ≡ size → y < b → x < q + 1 → x ≡ q
    by_part x q y r split all short less = elim (cases_lt x q) [
      | inl before ↦ let up : x * b + b ≤ q * b = rows_apart q x b before in absurd (let f : ⊥ = omega (arith, split, all, short, up, far) in f)
      | inr from ↦ omega arith
    ]

    by_near : (x q y r : ℕ) → x ≡ q → x * b + y ≡ k → q * b + r ≡ size → y < b → r < b → k < size + (b - r)
    by_near x q y r is split all short less = let same : x * b ≡ q * b = ap (λ (m : ℕ). m * b) is in omega (arith, split, all, short, less, same)

-- ---- bytes of absent blocks

absent_byte : (g : Request) (u : View) (n k : ℕ) → IsView g u → data_block g u n (k / g.block_size) ≡ 0 → byte_of g u n k ≡ 0
unfolding byte_of
absent_byte g u n k view absent = ap (λ o. slice_index (bytes_in (content Plain o)) (k % g.block_size)) (ap u.blocks absent ∙ unused_zero g u view)

same_byte : (g : Request) (u w : View) (n k : ℕ) → data_block g w n (k / g.block_size) ≡ data_block g u n (k / g.block_size)
    → w.blocks (data_block g u n (k / g.block_size)) ≡ u.blocks (data_block g u n (k / g.block_size)) → byte_of g w n k ≡ byte_of g u n k
unfolding byte_of
same_byte g u w n k place held = ap (λ o. slice_index (bytes_in (content Plain o)) (k % g.block_size)) (ap w.blocks place ∙ held)

-- positions of data blocks that are all listed
positions_within : (g : Request) (n : ℕ) (xs ys : List ℕ) → ((x : ℕ) → lists xs x ≡ true → lists ys x ≡ true) → (p : Position) → has (positions_of g n xs) p ≡ true → has (positions_of g n ys) p ≡ true
positions_within g n xs ys within p h =
    let on = and_parts (p.number == n) (list_any (is_on_chain g p.form p.index) xs) (sym (has-positions_of g n xs p) ∙ h) in
    let f = found (is_on_chain g p.form p.index) xs on.1 in
    has-positions_of g n ys p ∙ and_from (p.number == n) (list_any (is_on_chain g p.form p.index) ys) on.0 (any_of (is_on_chain g p.form p.index) ys f.0 (within f.0 f.1) f.2)

-- nothing is needed for no block
fresh_none : (g : Request) (c v : View) (n : ℕ) → fresh_on g c v n [] ≡ 0
unfolding fresh_on
fresh_none g c v n = refl

-- ---- the block in which zeros are written

module _ (g : Request) (v : View) (n size : ℕ) (indices : List ℕ) (shape : HasShape g v n indices) where
  abbrev j : ℕ
  j = size / g.block_size

  abbrev i : ℕ
  i = pieces g.block_size size

  abbrev r : ℕ
  r = size % g.block_size

  abbrev touched : List ℕ
  touched = block_of_rest g v n size

  abbrev zeros : List ℕ
  zeros = replicate (rest_of g v n size) 0

  long_zeros : length zeros ≡ rest_of g v n size
  long_zeros = length-replicate (rest_of g v n size) 0

  some : 0 < g.block_size
  some = some_bytes g (some_pointers_fit g shape.geometry)

  part_of : has_rest g v n size ≡ true → r ≢ 0
  part_of h = not_zero r (and_parts (not (r == 0)) (not (data_block g v n j == 0)) h).0

  there_of : has_rest g v n size ≡ true → data_block g v n j ≢ 0
  there_of h = not_zero (data_block g v n j) (and_parts (not (r == 0)) (not (data_block g v n j == 0)) h).1

  next_of : has_rest g v n size ≡ true → i ≡ j + 1
  next_of h = part_pieces g.block_size size some (part_of h)

  -- it is one of those that are left
  touched_left : (x : ℕ) → lists touched x ≡ true → lists (before i indices) x ≡ true
  touched_left x = by (has_rest g v n size) refl
    where
      by : (t : Bool) → has_rest g v n size ≡ t → lists (cond t (j ∷ []) []) x ≡ true → lists (before i indices) x ≡ true
      by false e h = absurd (let f : false ≡ true = h in cc)
      by true e h = elim (or_cases (j == x) false h) [
        | inr none ↦ absurd (let f : false ≡ true = none in cc)
        | inl same ↦
            let is : j ≡ x = eqb-true j x same in
            let next = next_of e in
            before_is i x indices ∙ and_from (lists indices x) (nat_lt x i) (subst (λ (m : ℕ). lists indices m ≡ true) is (index_listed g v n indices shape j (there_of e))) (lt-ltb x i (omega (arith, is, next)))
      ]

  touched_listed : (x : ℕ) → lists touched x ≡ true → lists indices x ≡ true
  touched_listed x h = (and_parts (lists indices x) (nat_lt x i) (sym (before_is i x indices) ∙ touched_left x h)).0

  -- it has the bytes behind the size
  under_rest : (x : ℕ) → lists (blocks_under g size (rest_of g v n size)) x ≡ lists touched x
  under_rest x = by (has_rest g v n size) refl
    where
      by : (t : Bool) → has_rest g v n size ≡ t → lists (blocks_under g size (cond t (g.block_size - r) 0)) x ≡ lists (cond t (j ∷ []) []) x
      by false e = sym (none_under g size x)
      by true e =
          let less = mod-lt size some in
          let alone : lists (j ∷ []) x ≡ lists (blocks_under g (j * g.block_size + r) (g.block_size - r)) x =
          block_alone g j r (g.block_size - r) (data_there g v n indices shape j (there_of e)) (omega arith) (omega arith) x in
          sym (alone ∙ ap (λ (m : ℕ). lists (blocks_under g m (g.block_size - r)) x) (div-add-mod' size g.block_size))

  under_zeros : (x : ℕ) → lists (blocks_under g size (length zeros)) x ≡ lists touched x
  under_zeros x = ap (λ (m : ℕ). lists (blocks_under g size m) x) long_zeros ∙ under_rest x

  all_listed : (x : ℕ) → lists (blocks_under g size (length zeros) ++ indices) x ≡ lists indices x
  all_listed x =
      lists-append (blocks_under g size (length zeros)) indices x
      ∙ ap (λ t. t || lists indices x) (under_zeros x) ∙ by (lists touched x) (lists indices x) (touched_listed x)
    where
      by : (s t : Bool) → (s ≡ true → t ≡ true) → (s || t) ≡ t
      by true t h = sym (h refl)
      by false t h = refl

  -- what writing there needs is no more than was told
  pub fresh_touched : (c : View) → fresh_on g c v n touched ≤ shortening_need g c v n size
  fresh_touched c = by (has_rest g v n size)
    where
      by : (t : Bool) → fresh_on g c v n (cond t (j ∷ []) []) ≤ cond t (fresh_on_chain g c v n j) (cut_need g c v n i)
      by true = let is = fresh_on-chain g c v n j in omega (arith, is)
      by false = let none = fresh_none g c v n in omega (arith, none)

  pub fresh_rest : (c : View) → fresh_on g c v n (blocks_under g size (rest_of g v n size)) ≤ shortening_need g c v n size
  fresh_rest c = let is = fresh_on-alike g c v v n (blocks_under g size (rest_of g v n size)) touched [] under_rest in let most = fresh_touched c in omega (arith, is, most)

  -- ---- zeros are written there

  module _ (c m : View) (view_m : IsView g m) (is_m : is_whole (m.inodes n) ≡ true) (first : IsWritten g c v m n size zeros indices)
      (stays : has_rest g v n size ≡ false → m ≡ v) where
    pub shape_m : HasShape g m n indices
    shape_m = record {
      geometry = shape.geometry;
      view = view_m;
      inode = is_m;
      places = same_places g m n (blocks_under g size (length zeros) ++ indices) indices all_listed first.rewritten.places;
      once = same_once g m n (blocks_under g size (length zeros) ++ indices) indices all_listed first.rewritten.once;
    }

    renewed : IsRewritten g c v m n touched indices
    renewed = rewritten-alike g c v m n (blocks_under g size (length zeros)) touched indices under_zeros first.rewritten

    -- all of its chain is new then, so that the cut needs nothing
    no_need : has_rest g v n size ≡ true → cut_need g c m n i ≤ 0
    no_need e =
        let next = next_of e in
        let low = data_there g v n indices shape j (there_of e) in
        let last : i - 1 ≡ j = omega (arith, next) in
        let need : cut_need g c m n i ≤ fresh_count g c m (data_at n (i - 1) ∷ []) (removed n i indices) =
        subst (λ ps. cut_need g c m n i ≤ fresh_count g c m (data_at n (i - 1) ∷ []) ps) (append_none (removed n i indices))
        (cut_part g c m n i indices shape_m (data_at n (i - 1) ∷ []) [] (λ p h. absurd (let f : false ≡ true = h in cc))) in
        let is = fresh_size-chain g c m n i indices shape_m (omega (arith, next)) (omega (arith, next, low)) in
        let none : count_of (filter (λ p. not (is_dirty g c m p)) (chain g n (i - 1))) ≤ count_of [] =
        count_of-le_from_has (filter (λ p. not (is_dirty g c m p)) (chain g n (i - 1))) [] (λ p h.
        let q = and_parts (has (chain g n (i - 1)) p) (not (is_dirty g c m p)) (sym (has-filter (λ p. not (is_dirty g c m p)) (chain g n (i - 1)) p) ∙ h) in
        absurd (both_ways (is_dirty g c m p) (not-true (is_dirty g c m p) q.1) (renewed.dirty p (on_touched e p (ap (λ (x : ℕ). has (chain g n x) p) (sym last) ∙ q.0))))) in
        let zero : count_of [] ≡ 0 = refl in
        omega (arith, need, is, none, zero)
      where
        on_touched : has_rest g v n size ≡ true → (p : Position) → has (chain g n j) p ≡ true → has (positions_of g n touched) p ≡ true
        on_touched e p h = ap (λ t. has (positions_of g n (cond t (j ∷ []) [])) p) e ∙ alone g n j p ∙ h

    -- what both need is what was told
    need_both : fresh_on g c v n touched + cut_need g c m n i ≤ shortening_need g c v n size
    need_both = elim (cases_Bool (has_rest g v n size)) [
      | inl e ↦ let none = no_need e in let most = fresh_touched c in omega (arith, none, most)
      | inr e ↦ by (stays e) e
    ]
      where
        by : m ≡ v → has_rest g v n size ≡ false → fresh_on g c v n touched + cut_need g c m n i ≤ shortening_need g c v n size
        by same e =
            let a : fresh_on g c v n touched ≡ fresh_on g c v n [] = ap (λ t. fresh_on g c v n (cond t (j ∷ []) [])) e in
            let b : cut_need g c m n i ≡ cut_need g c v n i = ap (λ u. cut_need g c u n i) same in
            let d : shortening_need g c v n size ≡ cut_need g c v n i = ap (λ t. cond t (fresh_on_chain g c v n j) (cut_need g c v n i)) e in
            let none = fresh_none g c v n in
            omega (arith, a, b, d, none)

    -- the cut has its room
    pub room_left : shortening_need g c v n size ≤ free_now g c v → cut_need g c m n i ≤ free_now g c m
    room_left room = let spent = renewed.free in let both = need_both in omega (arith, room, spent, both)

    -- ---- and then it is cut

    module _ (w : View) (second : IsCut g c m w n i indices) where
      zeros_at : (k : ℕ) → k < max_size_of g → nat_lt k size ≡ false → lists (before i indices) (k / g.block_size) ≡ true → byte_of g m n k ≡ 0
      zeros_at k low far member =
          let left = and_parts (lists indices (k / g.block_size)) (nat_lt (k / g.block_size) i) (sym (before_is i (k / g.block_size) indices) ∙ member) in
          let from : size ≤ k = grind (arith, nat_tests) in
          let is = behind g.block_size size k some from (ltb-true (k / g.block_size) i left.1) in
          let there : data_block g v n j ≢ 0 = index_there g v n indices shape j (subst (λ (x : ℕ). lists indices x ≡ true) is.last left.0) in
          let e : has_rest g v n size ≡ true = and_from (not (r == 0)) (not (data_block g v n j == 0)) (zero_not r is.part) (zero_not (data_block g v n j) there) in
          let long : length zeros ≡ g.block_size - r = long_zeros ∙ ap (λ t. cond t (g.block_size - r) 0) e in
          first.bytes k low
          ∙ cond-true (nat_le size k && nat_lt k (size + length zeros)) _ _
          (and_from (nat_le size k) (nat_lt k (size + length zeros)) (le-leb size k from) (lt-ltb k (size + length zeros) (let near = is.near in omega (arith, long, near))))
          ∙ get_or-replicate (rest_of g v n size) (k - size) 0 0 (let near = is.near in let all = long_zeros in omega (arith, long, all, near, from))

      bytes_now : (k : ℕ) → k < max_size_of g → byte_of g w n k ≡ cond (nat_lt k size) (byte_of g v n k) 0
      bytes_now k low = elim (cases_Bool (lists (before i indices) (k / g.block_size))) [
        | inl member ↦ same_byte g m w n k (second.blocks (k / g.block_size) member) (second.bytes (k / g.block_size) member) ∙ elim (cases_Bool (nat_lt k size)) [
          | inl front ↦
              first.bytes k low
              ∙ cond-false (nat_le size k && nat_lt k (size + length zeros)) _ _ (grind (arith, nat_tests))
              ∙ sym (cond-true (nat_lt k size) (byte_of g v n k) 0 front)
          | inr far ↦ zeros_at k low far member ∙ sym (cond-false (nat_lt k size) (byte_of g v n k) 0 far)
        ]
        | inr none ↦
            absent_byte g w n k second.shape.view (absent w (before i indices) second.shape (k / g.block_size) none) ∙ elim (cases_Bool (nat_lt k size)) [
              | inl front ↦
                  sym (absent_byte g v n k shape.view (absent v indices shape (k / g.block_size)
                  (false_from_ne_true (lists indices (k / g.block_size)) (λ h. both_ways (lists (before i indices) (k / g.block_size)) none
                  (before_is i (k / g.block_size) indices ∙ and_from (lists indices (k / g.block_size)) (nat_lt (k / g.block_size) i) h (lt-ltb (k / g.block_size) i (in_front g.block_size size k some (ltb-true k size front))))))))
                  ∙ sym (cond-true (nat_lt k size) (byte_of g v n k) 0 front)
              | inr far ↦ sym (cond-false (nat_lt k size) (byte_of g v n k) 0 far)
            ]
      ]
        where
          absent : (u : View) (xs : List ℕ) → HasShape g u n xs → (x : ℕ) → lists xs x ≡ false → data_block g u n x ≡ 0
          absent u xs has_shape x none = elim (cases_eq (data_block g u n x) 0) [
            | inl zero ↦ zero
            | inr there ↦ absurd (both_ways (lists xs x) none (index_listed g u n xs has_shape x there))
          ]

      pub shortened_both : IsShortened g c v w n size indices
      shortened_both = record {
        trimmed = trimmed_both g c v m w n i touched indices shape shape_m renewed second (positions_within g n touched (before i indices) touched_left);
        bytes = bytes_now;
        room =
            let both = room_both g c v m w n i touched indices shape shape_m renewed second (positions_within g n touched (before i indices) touched_left) in
            let need = need_both in
            omega (arith, both, need);
      }
