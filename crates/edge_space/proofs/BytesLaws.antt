-- The data blocks that bytes lie in: a run, and the fresh positions of writing them.
use Rattle.std.proofs.Common.{◌≡◌, ℕ, ◌+◌, ◌-◌, ◌*◌, ◌/◌, ◌==◌, ◌<◌, ◌≤◌, ◌&&◌, not, Bool, true, List, [], ◌∷◌, map, refl, sym, ap, ◌∙◌, subst, arith}
use Rattle.std.specs.Prelude.{nat_le, nat_lt, filter, flat_map}
use Rattle.std.specs.Cmp.{both_ways}
use Rattle.std.specs.List.{list_any, range_with_len}
use Rattle.std.proofs.lemmas.Bool.{and_parts, and_from, lt-ltb, le-leb, ltb-true, leb-true}
use Rattle.std.proofs.lemmas.Bool.Decides.{nat_tests}
use Rattle.std.proofs.Math.Nat.{mul-le-mul_right, div-mul-le_self, lt-div-mul-add, le-div_iff_mul-le, div-lt_iff_lt-mul}
use Rattle.edge_base.specs.declared.form.Form.TheVariants.{Plain}
use Rattle.edge_base.specs.declared.geometry.Request.{Request}
use Rattle.edge_base.specs.layout.Places.{pointers_of, max_blocks_of, max_size_of}
use Rattle.edge_base.specs.tree.Positions.{Position, data_at, ancestors, chain, has, positions_of, same_position}
use Rattle.edge_base.proofs.CountLaws.{is_member-range}
use Rattle.edge_base.proofs.PositionLaws.{has-filter, has-flat_map, count_of-from_has, same_position_Decides}
use Rattle.edge_store.specs.Fresh.{is_dirty, fresh_count}
use Rattle.edge_store.specs.View.{View}
use Rattle.edge_shape.proofs.ListLaws.{found}
use Rattle.edge_count.proofs.WriteLaws.{any_map, fresh_writes, fresh_run}
use Rattle.edge_count.proofs.JoinLaws.{same_named}
use Rattle.edge_file.specs.Bytes.{is_under, blocks_under}
use Rattle.edge_file.specs.Rewritten.{fresh_on}
use Rattle.edge_file.proofs.RangeLaws.{lists, any_alike, lists_under}
use Rattle.edge_space.specs.Counts.{fresh_of_run}

-- ---- numbers

-- block i, of b bytes, has one of the bytes exactly where it is from the first block on and not past the last
in_blocks : (b at len m i first count : ℕ) → 0 < b → 0 < len → at + len ≤ m * b → first ≡ at / b → first + count ≡ (at + len - 1) / b + 1
    → (nat_lt i m && (nat_lt 0 len && nat_lt at (i * b + b) && nat_lt (i * b) (at + len))) ≡ (nat_le first i && nat_lt i (first + count))
in_blocks b at len m i first count some_b some end is_first is_end = both_ways _ _ to back
  where
    to : (nat_lt i m && (nat_lt 0 len && nat_lt at (i * b + b) && nat_lt (i * b) (at + len))) ≡ true → (nat_le first i && nat_lt i (first + count)) ≡ true
    to h =
        let p = parts (nat_lt i m) (nat_lt 0 len) (nat_lt at (i * b + b)) (nat_lt (i * b) (at + len)) h in
        let low : at < i * b + b = ltb-true at (i * b + b) p.0 in
        let high : i * b < at + len = ltb-true (i * b) (at + len) p.1 in
        let next : (i + 1) * b ≡ i * b + b = grind arith in
        let begins : at / b < i + 1 = (div-lt_iff_lt-mul some_b).1 (let e : at < (i + 1) * b = omega arith in e) in
        let ends : i ≤ (at + len - 1) / b = (le-div_iff_mul-le some_b).1 (let e : i * b ≤ at + len - 1 = omega arith in e) in
        and_from (nat_le first i) (nat_lt i (first + count)) (le-leb first i (omega arith)) (lt-ltb i (first + count) (omega arith))
      where
        parts : (x y z w : Bool) → (x && (y && z && w)) ≡ true → (z ≡ true) × (w ≡ true)
        parts x y z w h = (grind (arith, nat_tests), grind (arith, nat_tests))

    back : (nat_le first i && nat_lt i (first + count)) ≡ true → (nat_lt i m && (nat_lt 0 len && nat_lt at (i * b + b) && nat_lt (i * b) (at + len))) ≡ true
    back h =
        let p = and_parts (nat_le first i) (nat_lt i (first + count)) h in
        let low : first ≤ i = leb-true first i p.0 in
        let high : i < first + count = ltb-true i (first + count) p.1 in
        let begin : at < at / b * b + b = lt-div-mul-add some_b in
        let from : at / b * b ≤ i * b = mul-le-mul_right b (let e : at / b ≤ i = omega arith in e) in
        let upto : i * b ≤ (at + len - 1) / b * b = mul-le-mul_right b (let e : i ≤ (at + len - 1) / b = omega arith in e) in
        let last = div-mul-le_self (at + len - 1) b in
        let within : (at + len - 1) / b < m = (div-lt_iff_lt-mul some_b).1 (let e : at + len - 1 < m * b = omega arith in e) in
        all (nat_lt i m) (nat_lt 0 len) (nat_lt at (i * b + b)) (nat_lt (i * b) (at + len)) (lt-ltb i m (omega arith)) (lt-ltb 0 len some) (lt-ltb at (i * b + b) (omega arith)) (lt-ltb (i * b) (at + len) (omega arith))
      where
        all : (x y z w : Bool) → x ≡ true → y ≡ true → z ≡ true → w ≡ true → (x && (y && z && w)) ≡ true
        all x y z w one two three four = grind (arith, nat_tests)

-- ---- the run

module _ (g : Request) (n at len first count : ℕ) (some_b : 0 < g.block_size) (some : 0 < len) (end : at + len ≤ max_size_of g)
    (is_first : first ≡ at / g.block_size) (is_end : first + count ≡ (at + len - 1) / g.block_size + 1) where
  same_blocks : (i : ℕ) → lists (blocks_under g at len) i ≡ lists (range_with_len first count) i
  same_blocks i = lists_under g at len i ∙ in_blocks g.block_size at len (max_blocks_of g) i first count some_b some end is_first is_end ∙ sym ((λ t. list_any (λ k. swap k i t) (range_with_len first count)) ∙ is_member-range first count i)
    where
      swap : (k i : ℕ) → (k == i) ≡ (i == k)
      swap k i = grind (arith, nat_tests)

  pub bytes_run : (p : Position) → has (map (data_at n) (blocks_under g at len)) p ≡ has (map (data_at n) (range_with_len first count)) p
  bytes_run p =
      any_map (same_position p) (data_at n) (blocks_under g at len)
      ∙ any_alike (λ x. same_position p (data_at n x)) (blocks_under g at len) (range_with_len first count) same_blocks
      ∙ sym (any_map (same_position p) (data_at n) (range_with_len first count))

  pub fresh_bytes : (c v : View) → first + count ≤ max_blocks_of g → 0 < pointers_of g → fresh_count g c v (map (data_at n) (blocks_under g at len)) [] ≡ fresh_of_run g c v n first count
  fresh_bytes c v low some_k = same_named g c v (map (data_at n) (blocks_under g at len)) (map (data_at n) (range_with_len first count)) [] [] bytes_run (λ p. refl) ∙ fresh_run g c v n first count low some_k

-- ---- room

module _ (g : Request) (c v : View) (n at len : ℕ) where
  abbrev under : List ℕ
  under = blocks_under g at len

  abbrev writes : List Position
  writes = map (data_at n) under

  abbrev fresh : Position → Bool
  fresh p = not (is_dirty g c v p)

  plain : (p : Position) → has writes p ≡ true → (p.form ≡ Plain) × (p.index < max_blocks_of g)
  plain p h =
      let f = found (λ x. same_position p (data_at n x)) under (sym (any_map (same_position p) (data_at n) under) ∙ h) in
      let is : p ≡ data_at n f.0 = (same_position_Decides p (data_at n f.0)).0 f.2 in
      let low = and_parts (nat_lt f.0 (max_blocks_of g)) (is_under g at len f.0) (sym (lists_under g at len f.0) ∙ f.1) in
      (ap (λ (r : Position). r.form) is, subst (λ (m : ℕ). m < max_blocks_of g) (sym (ap (λ (r : Position). r.index) is)) (ltb-true f.0 (max_blocks_of g) low.0))

  -- the fresh positions of bytes are those that writing them makes new
  pub room_bytes : fresh_count g c v writes [] ≡ fresh_on g c v n under
  unfolding fresh_on
  room_bytes =
      fresh_writes g c v writes plain
      ∙ count_of-from_has (filter fresh (flat_map (λ p. p ∷ ancestors g p) writes)) (filter fresh (positions_of g n under)) (λ p.
      has-filter fresh (flat_map (λ q. q ∷ ancestors g q) writes) p
      ∙ (λ t. (has-flat_map (λ q. q ∷ ancestors g q) writes p ∙ any_map (λ q. has (q ∷ ancestors g q) p) (data_at n) under ∙ sym (has-flat_map (chain g n) under p)) t && fresh p)
      ∙ sym (has-filter fresh (positions_of g n under) p))
