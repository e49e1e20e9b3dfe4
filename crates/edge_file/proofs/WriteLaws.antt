-- Bytes written behind others.
use Rattle.std.proofs.Common.{◌≡◌, ℕ, ◌+◌, ◌-◌, ◌*◌, ◌<◌, ◌≤◌, ◌&&◌, not, true, false, cond, inl, inr, List, [], ◌++◌, length, filter, length-append, refl, sym, ap, ◌∙◌, subst, arith}
use Rattle.std.specs.Prelude.{slice_index, nat_eq, nat_le, nat_lt}
use Rattle.std.specs.List.{list_any}
use Rattle.std.proofs.lemmas.Bool.{cases_lt, and_parts, and_from, and_right, cond-true, cond-false}
use Rattle.std.proofs.lemmas.Bool.Decides.{nat_tests}
use Rattle.std.proofs.lemmas.List.{get_or-append_right}
use Rattle.std.proofs.Math.ListN.{get_or-append}
use Rattle.edge_base.specs.declared.geometry.Request.{Request}
use Rattle.edge_base.specs.layout.Places.{entries_of, pointers_of, max_blocks_of}
use Rattle.edge_base.specs.tree.Chains.{is_on_chain}
use Rattle.edge_base.specs.tree.Positions.{Position, has, positions_of}
use Rattle.edge_base.proofs.ChainLaws.{has-positions_of}
use Rattle.edge_base.proofs.PositionLaws.{has-filter, count_of-le_from_has}
use Rattle.edge_store.specs.Fresh.{is_dirty}
use Rattle.edge_store.specs.Placed.{HasPlaces, IsOnce}
use Rattle.edge_store.specs.View.{View, IsView, is_whole, free_now}
use Rattle.edge_shape.proofs.ListLaws.{found, any_of}
use Rattle.edge_file.specs.Bytes.{byte_of, with_bytes, is_under, blocks_under}
use Rattle.edge_file.specs.Rewritten.{IsRewritten, IsWritten, fresh_on}
use Rattle.edge_file.proofs.JoinLaws.{fresh_on-alike, fresh_on-both, rewritten-alike, rewritten-both}
use Rattle.edge_file.proofs.RangeLaws.{lists, lists_under, blocks_both, under_in_range}

-- ---- bytes

with_bytes-none : (old : ℕ → ℕ) (at k : ℕ) → old k ≡ with_bytes old at [] k
with_bytes-none old at k = sym (cond-false (nat_le at k && nat_lt k (at + 0)) (slice_index [] (k - at)) (old k) (grind (arith, nat_tests)))

pub with_bytes-more : (old : ℕ → ℕ) (at : ℕ) (a b : List ℕ) (k : ℕ) → with_bytes (with_bytes old at a) (at + length a) b k ≡ with_bytes old at (a ++ b) k
with_bytes-more old at a b k = by (length a) (length b) (length (a ++ b)) refl refl (length-append a b)
  where
    by : (la lb lc : ℕ) → length a ≡ la → length b ≡ lb → lc ≡ length a + length b
        → cond (nat_le (at + la) k && nat_lt k (at + la + lb)) (slice_index b (k - (at + la))) (cond (nat_le at k && nat_lt k (at + la)) (slice_index a (k - at)) (old k))
        ≡ cond (nat_le at k && nat_lt k (at + lc)) (slice_index (a ++ b) (k - at)) (old k)
    by la lb lc ea eb ec = elim (cases_lt k at) [
      | inl before ↦
          cond-false (nat_le (at + la) k && nat_lt k (at + la + lb)) _ _ (grind (arith, nat_tests))
          ∙ cond-false (nat_le at k && nat_lt k (at + la)) _ _ (grind (arith, nat_tests))
          ∙ sym (cond-false (nat_le at k && nat_lt k (at + lc)) _ _ (grind (arith, nat_tests)))
      | inr from ↦ elim (cases_lt k (at + la)) [
        | inl first ↦
            cond-false (nat_le (at + la) k && nat_lt k (at + la + lb)) _ _ (grind (arith, nat_tests))
            ∙ cond-true (nat_le at k && nat_lt k (at + la)) _ _ (grind (arith, nat_tests))
            ∙ sym (get_or-append a b 0 (k - at) (omega arith))
            ∙ sym (cond-true (nat_le at k && nat_lt k (at + lc)) _ _ (grind (arith, nat_tests)))
        | inr behind ↦ elim (cases_lt k (at + la + lb)) [
          | inl second ↦
              cond-true (nat_le (at + la) k && nat_lt k (at + la + lb)) _ _ (grind (arith, nat_tests))
              ∙ ap (slice_index b) (let e : k - (at + la) ≡ k - at - la = omega arith in e)
              ∙ sym (get_or-append_right a b la (k - at) 0 ea (omega arith))
              ∙ sym (cond-true (nat_le at k && nat_lt k (at + lc)) _ _ (grind (arith, nat_tests)))
          | inr past ↦
              cond-false (nat_le (at + la) k && nat_lt k (at + la + lb)) _ _ (grind (arith, nat_tests))
              ∙ cond-false (nat_le at k && nat_lt k (at + la)) _ _ (grind (arith, nat_tests))
              ∙ sym (cond-false (nat_le at k && nat_lt k (at + lc)) _ _ (grind (arith, nat_tests)))
        ]
      ]
    ]

-- ---- nothing written yet

pub none_under : (g : Request) (at i : ℕ) → lists [] i ≡ lists (blocks_under g at 0) i
none_under g at i = sym (lists_under g at 0 i ∙ and_right (nat_lt i (max_blocks_of g)) (is_under g at 0 i) refl)

none_rewritten : (g : Request) (c v : View) (n : ℕ) (indices : List ℕ) → HasPlaces g v n indices → IsOnce g v n indices → IsRewritten g c v v n [] indices
unfolding fresh_on
none_rewritten g c v n indices places once = record {
  places = places;
  once = once;
  dirty = λ p h. absurd (let e : false ≡ true = h in cc);
  came = λ p h. inl refl;
  stays = λ p h out. refl;
  holds = λ p h out. refl;
  inodes = λ m apart. refl;
  others = λ b used apart. refl;
  used = λ b none used. absurd (let e : false ≡ true = sym none ∙ used in cc);
  free = omega arith;
}

pub none_written : (g : Request) (c v : View) (n at : ℕ) (indices : List ℕ) → HasPlaces g v n indices → IsOnce g v n indices → IsWritten g c v v n at [] indices
none_written g c v n at indices places once = record {
  rewritten = rewritten-alike g c v v n [] (blocks_under g at 0) indices (none_under g at) (none_rewritten g c v n indices places once);
  bytes = λ k low. with_bytes-none (byte_of g v n) at k;
}

-- ---- a shorter range

wide : (at x size len rest : ℕ) → len ≤ rest → (nat_lt 0 len && nat_lt at (x + size) && nat_lt x (at + len)) ≡ true → (nat_lt 0 rest && nat_lt at (x + size) && nat_lt x (at + rest)) ≡ true
wide at x size len rest fewer h = grind (arith, nat_tests)

module _ (g : Request) (c m : View) (n at len rest : ℕ) (fewer : len ≤ rest) where
  longer : (i : ℕ) → lists (blocks_under g at len) i ≡ true → lists (blocks_under g at rest) i ≡ true
  longer i h =
      let p = and_parts (nat_lt i (max_blocks_of g)) (is_under g at len i) (sym (lists_under g at len i) ∙ h) in
      lists_under g at rest i ∙ and_from (nat_lt i (max_blocks_of g)) (is_under g at rest i) p.0 (wide at (i * g.block_size) g.block_size len rest fewer p.1)

  longer_position : (p : Position) → has (positions_of g n (blocks_under g at len)) p ≡ true → has (positions_of g n (blocks_under g at rest)) p ≡ true
  longer_position p h =
      let on = and_parts (nat_eq p.number n) (list_any (is_on_chain g p.form p.index) (blocks_under g at len)) (sym (has-positions_of g n (blocks_under g at len) p) ∙ h) in
      let r = found (is_on_chain g p.form p.index) (blocks_under g at len) on.1 in
      has-positions_of g n (blocks_under g at rest) p
      ∙ and_from (nat_eq p.number n) (list_any (is_on_chain g p.form p.index) (blocks_under g at rest)) on.0 (any_of (is_on_chain g p.form p.index) (blocks_under g at rest) r.0 (longer r.0 r.1) r.2)

  fewer_fresh : fresh_on g c m n (blocks_under g at len) ≤ fresh_on g c m n (blocks_under g at rest)
  unfolding fresh_on
  fewer_fresh = count_of-le_from_has (filter (λ p. not (is_dirty g c m p)) (positions_of g n (blocks_under g at len))) (filter (λ p. not (is_dirty g c m p)) (positions_of g n (blocks_under g at rest)))
      (λ p h.
      let q = and_parts (has (positions_of g n (blocks_under g at len)) p) (not (is_dirty g c m p)) (sym (has-filter (λ p. not (is_dirty g c m p)) (positions_of g n (blocks_under g at len)) p) ∙ h) in
      has-filter (λ p. not (is_dirty g c m p)) (positions_of g n (blocks_under g at rest)) p
      ∙ and_from (has (positions_of g n (blocks_under g at rest)) p) (not (is_dirty g c m p)) (longer_position p q.0) q.1)

-- ---- more is written

module _ (g : Request) (c v m : View) (n at : ℕ) (a : List ℕ) (indices : List ℕ) (fits : g.direct + g.indirect ≤ entries_of g) (some : 0 < pointers_of g) (size : 0 < g.block_size)
    (view_v : IsView g v) (view_m : IsView g m) (is_v : is_whole (v.inodes n) ≡ true) (is_m : is_whole (m.inodes n) ≡ true)
    (places : HasPlaces g v n indices) (first : IsWritten g c v m n at a indices) where
  pub more_written : (w : View) (b : List ℕ) → IsView g w → IsWritten g c m w n (at + length a) b (blocks_under g at (length a) ++ indices) → IsWritten g c v w n at (a ++ b) indices
  more_written w b view_w second = record {
    rewritten = subst (λ (len : ℕ). IsRewritten g c v w n (blocks_under g at len) indices) (sym (length-append a b))
        (rewritten-alike g c v w n (blocks_under g (at + length a) (length b) ++ blocks_under g at (length a)) (blocks_under g at (length a + length b)) indices (blocks_both g at (length a) (length b) size)
        (rewritten-both g c v m n (blocks_under g at (length a)) (blocks_under g (at + length a) (length b)) indices fits some view_v view_m is_v is_m places first.rewritten (under_in_range g n (at + length a) (length b)) w view_w second.rewritten));
    bytes = λ k low.
        second.bytes k low
        ∙ ap (cond (nat_le (at + length a) k && nat_lt k (at + length a + length b)) (slice_index b (k - (at + length a)))) (first.bytes k low)
        ∙ with_bytes-more (byte_of g v n) at a b k;
  }

  -- what the rest needs is left
  pub room_left : (rest len : ℕ) → len ≤ rest → fresh_on g c v n (blocks_under g at (length a + rest)) ≤ free_now g c v → fresh_on g c m n (blocks_under g (at + length a) len) ≤ free_now g c m
  room_left rest len fewer room =
      let split : fresh_on g c v n (blocks_under g at (length a + rest)) ≡ fresh_on g c m n (blocks_under g (at + length a) rest) + fresh_on g c v n (blocks_under g at (length a)) =
      sym (fresh_on-alike g c v v n (blocks_under g (at + length a) rest ++ blocks_under g at (length a)) (blocks_under g at (length a + rest)) indices (blocks_both g at (length a) rest size))
      ∙ fresh_on-both g c v m n (blocks_under g at (length a)) (blocks_under g (at + length a) rest) indices fits some view_v view_m is_v is_m places first.rewritten (under_in_range g n (at + length a) rest) in
      let spent = first.rewritten.free in
      let less = fewer_fresh g c m n (at + length a) len rest fewer in
      omega (arith, split, spent, less)
