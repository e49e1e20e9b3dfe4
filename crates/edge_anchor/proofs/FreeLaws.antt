-- Blocks that an anchor does not need.
use Rattle.std.proofs.Common.{◌≡◌, ◌≢◌, ⊎_elim, ℕ, ◌+◌, ◌*◌, ◌<◌, ◌≤◌, Bool, true, false, not, refl, ap, arith}
use Rattle.edge_base.specs.layout.Bytes.{bit_in}
use Rattle.edge_base.specs.layout.Places.{imap_nodes_of, imap_place_of}
use Rattle.edge_base.specs.layout.Sizes.{place_of}
use Rattle.edge_disk.specs.Disk.{Origin}
use Rattle.edge_anchor.specs.Anchor.{Anchor, HasBit, IsOn, LeadsTo, to_master, to_node, to_used, Needs, geometry_of, spare_of}
use Rattle.edge_anchor.proofs.HangLaws.{place_low, spare_low}
use Rattle.edge_anchor.proofs.PlaceLaws.{low_place}

module _ (origin : Origin) (a : Anchor) (on : IsOn origin a) where
  far_spare : (b : ℕ) → 3 ≤ b → b ≢ spare_of a
  far_spare b from e = let low = spare_low origin a on in omega arith

  -- ---- a block that is not used

  unused_led : (b : ℕ) → HasBit (geometry_of a) b → a.used b ≡ false → LeadsTo a b → ⊥
  unused_led b has off (to_master e) = let from = has.from in omega arith
  unused_led b has off (to_node i below e) = let from = has.from in let low = low_place (bit_in 0 a.roots i) in omega arith
  unused_led b has off (to_used bit used) = cc (off, used)

  pub unused_free : (b : ℕ) → HasBit (geometry_of a) b → a.used b ≡ false → (Needs a b → ⊥) × (b ≢ spare_of a)
  unused_free b has off =
      let from = has.from in
      let low = place_low origin a on in
      (⊎_elim (λ (e : b ≡ a.place). omega arith) (unused_led b has off), far_spare b (omega arith))

  -- ---- the place of an imap node that is not live

  abbrev pub not_live : ℕ → ℕ
  not_live i = imap_place_of (geometry_of a) i (not (bit_in 0 a.roots i))

  same_pair : (i j s t : ℕ) → s ≤ 1 → t ≤ 1 → 2 * i + s ≡ 2 * j + t → j ≡ i
  same_pair i j s t low_s low_t e = omega arith

  never_both : (t : Bool) → place_of (not t) ≢ place_of t
  never_both true e = omega arith
  never_both false e = omega arith

  not_live_led : (i b : ℕ) → i < imap_nodes_of (geometry_of a) → b ≡ not_live i → LeadsTo a b → ⊥
  not_live_led i b below is (to_master e) = omega arith
  not_live_led i b below is (to_node j inside e) =
      let bit = bit_in 0 a.roots in
      let pair : j ≡ i = same_pair i j (place_of (not (bit i))) (place_of (bit j)) (low_place (not (bit i))) (low_place (bit j)) (omega arith) in
      let same : place_of (bit j) ≡ place_of (bit i) = ap (λ (k : ℕ). place_of (bit_in 0 a.roots k)) pair in
      never_both (bit i) (omega arith)
  not_live_led i b below is (to_used bit used) = let from = bit.from in let low = low_place (not (bit_in 0 a.roots i)) in omega arith

  pub not_live_free : (i : ℕ) → i < imap_nodes_of (geometry_of a) → (Needs a (not_live i) → ⊥) × (not_live i ≢ spare_of a)
  not_live_free i below =
      let low = place_low origin a on in
      (⊎_elim (λ (e : not_live i ≡ a.place). omega arith) (not_live_led i (not_live i) below refl), far_spare (not_live i) (omega arith))
