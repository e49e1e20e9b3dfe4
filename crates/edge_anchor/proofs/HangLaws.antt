-- What hangs on a metaroot does so wherever the blocks that it leads to are the same.
use Rattle.std.proofs.Common.{◌≡◌, ◌≢◌, ◌⊎◌, inl, inr, ⊎_elim, ℕ, zero, suc, ◌+◌, ◌<◌, ◌≤◌, ◌||◌, not, Bool, true, false, List, length, drop, refl, ap, ◌∙◌, arith}
use Rattle.std.specs.List.{list_any, range_with_len}
use Rattle.std.proofs.lemmas.Bool.{cases_eq, cases_lt}
use Rattle.edge_base.specs.declared.geometry.Request.{Request}
use Rattle.edge_base.specs.layout.Bitmap.{live_place}
use Rattle.edge_base.specs.layout.Bytes.{bit_in}
use Rattle.edge_base.specs.layout.Places.{IsGeometry, IsWithinLimits, imap_nodes_of}
use Rattle.edge_base.specs.layout.Spelling.{master_in, SpellsNoNode}
use Rattle.edge_nodes.proofs.GeometryLaws.{limits}
use Rattle.edge_nodes.proofs.MetarootLaws.{spelled_metaroot}
use Rattle.edge_disk.specs.Disk.{Origin}
use Rattle.edge_image.specs.Image.{spells_imap, has_bad_imap}
use Rattle.edge_image.proofs.GeometryLaws.{master_geometry}
use Rattle.edge_anchor.specs.Anchor.{Anchor, HangsOn, IsOn, LeadsTo, to_master, to_node, to_used, Needs, Loses, geometry_of, spare_of}
use Rattle.edge_anchor.proofs.PlaceLaws.{low_place, has_room}
use Rattle.edge_anchor.proofs.ViewLaws.{used_same}

-- ---- the geometry

pub is_geometry : (a : Anchor) (s : ℕ → List ℕ) → HangsOn a s → IsGeometry (geometry_of a)
is_geometry a s hangs = master_geometry (s 0) a.master hangs.master

pub within_limits : (a : Anchor) (s : ℕ → List ℕ) → HangsOn a s → IsWithinLimits (geometry_of a)
within_limits a s hangs = limits (geometry_of a) (is_geometry a s hangs)

-- ---- imap nodes

any_none : (p : ℕ → Bool) (a n : ℕ) → ((i : ℕ) → a ≤ i → i < a + n → p i ≡ false) → list_any p (range_with_len a n) ≡ false
any_none p a zero none = refl
any_none p a (suc n) none =
    let first = none a (omega arith) (omega arith) in
    let rest = any_none p (a + 1) n (λ i from below. none i (omega arith) (omega arith)) in
    λ t. first t || rest t

both_false : (x y : Bool) → (x || y) ≡ false → (x ≡ false) × (y ≡ false)
both_false true y e = absurd (cc)
both_false false y e = (refl, e)

none_of : (p : ℕ → Bool) (a n : ℕ) → list_any p (range_with_len a n) ≡ false → (i : ℕ) → a ≤ i → i < a + n → p i ≡ false
none_of p a zero e i from below = absurd (omega arith)
none_of p a (suc n) e i from below =
    let parts = both_false (p a) (list_any p (range_with_len (a + 1) n)) e in
    ⊎_elim (λ (here : i ≡ a). ap p here ∙ parts.0) (λ (later : a + 1 ≤ i). none_of p (a + 1) n parts.1 i later (omega arith)) (split a i from)
  where
    after : (a i : ℕ) → a ≤ i → i ≢ a → a + 1 ≤ i
    after a i from far = elim (cases_lt a i) [ inl less ↦ omega arith | inr most ↦ absurd (far (omega arith)) ]

    split : (a i : ℕ) → a ≤ i → (i ≡ a) ⊎ (a + 1 ≤ i)
    split a i from = elim (cases_eq i a) [ inl e ↦ inl e | inr far ↦ inr (after a i from far) ]

is_true : (b : Bool) → not b ≡ false → b ≡ true
is_true true e = refl
is_true false e = absurd (cc)

pub no_bad_imap : (g : Request) (roots : List ℕ) (s : ℕ → List ℕ) → ((i : ℕ) → i < imap_nodes_of g → spells_imap g i (s (live_place g roots i)) ≡ true)
    → has_bad_imap g roots s ≡ false
no_bad_imap g roots s good = any_none (λ i. not (spells_imap g i (s (live_place g roots i)))) 0 (imap_nodes_of g)
    (λ i from below. ap not (good i (omega arith)))

pub each_imap : (g : Request) (roots : List ℕ) (s : ℕ → List ℕ) → has_bad_imap g roots s ≡ false → (i : ℕ) → i < imap_nodes_of g
    → spells_imap g i (s (live_place g roots i)) ≡ true
each_imap g roots s none i below = is_true (spells_imap g i (s (live_place g roots i)))
    (none_of (λ i. not (spells_imap g i (s (live_place g roots i)))) 0 (imap_nodes_of g) none i (omega arith) (omega arith))

-- ---- what hangs on it

pub hangs_same : (a : Anchor) (s t : ℕ → List ℕ) → ((k : ℕ) → LeadsTo a k → t k ≡ s k) → HangsOn a s → HangsOn a t
hangs_same a s t same hangs =
    let g = geometry_of a in
    let at_node : (i : ℕ) → i < imap_nodes_of g → t (live_place g a.roots i) ≡ s (live_place g a.roots i)
    = λ i below. same (live_place g a.roots i) (to_node i below refl) in
    record {
      master = ap master_in (same 0 (to_master refl)) ∙ hangs.master;
      nodes = λ i below. ap (spells_imap g i) (at_node i below) ∙ hangs.nodes i below;
      bits = λ b has. used_same g a.roots s t (within_limits a s hangs) at_node b has ∙ hangs.bits b has;
      free_blocks = hangs.free_blocks;
      free_inodes = hangs.free_inodes;
    }

-- a block that spells no node loses to the metaroot
pub no_node_loses : (a : Anchor) (c : List ℕ) → IsGeometry (geometry_of a) → length c ≡ (geometry_of a).block_size → SpellsNoNode c → Loses a c
no_node_loses a c geometry len none r e = absurd (none.no_metaroot (geometry_of a) r (drop 32 c) geometry (spelled_metaroot (geometry_of a) c r len e))

-- ---- its blocks are those of the disk

module _ (origin : Origin) (a : Anchor) (on : IsOn origin a) where
  pub place_low : (0 < a.place) × (a.place < 3)
  place_low = ⊎_elim (λ (e : a.place ≡ 1). (omega arith, omega arith)) (λ (e : a.place ≡ 2). (omega arith, omega arith)) on.place

  pub spare_low : (0 < spare_of a) × (spare_of a < 3)
  spare_low = ⊎_elim (λ (e : a.place ≡ 1). (omega arith, omega arith)) (λ (e : a.place ≡ 2). (omega arith, omega arith)) on.place

  pub spare_far : (spare_of a ≡ a.place) → ⊥
  spare_far f = ⊎_elim (λ (e : a.place ≡ 1). omega arith) (λ (e : a.place ≡ 2). omega arith) on.place

  module _ (bounds : IsWithinLimits (geometry_of a)) where
    pub low_there : (k : ℕ) → k < 3 → k < origin.blocks
    low_there k low = let room = has_room (geometry_of a) bounds in let blocks = on.blocks in omega arith

    pub led_there : (k : ℕ) → LeadsTo a k → k < origin.blocks
    led_there k (to_master e) = low_there k (omega arith)
    led_there k (to_node i below e) =
        let low = low_place (bit_in 0 a.roots i) in
        let room = has_room (geometry_of a) bounds in
        let blocks = on.blocks in
        omega arith
    led_there k (to_used has used) = let below = has.below in let blocks = on.blocks in omega arith

    pub needed_there : (k : ℕ) → Needs a k → k < origin.blocks
    needed_there k = ⊎_elim (λ (e : k ≡ a.place). let low = place_low in low_there k (omega arith)) (led_there k)

-- the metaroots' blocks are none that an anchor leads to
pub root_apart : (a : Anchor) (p : ℕ) → 0 < p → p < 3 → LeadsTo a p → ⊥
root_apart a p some low (to_master e) = omega arith
root_apart a p some low (to_node i below e) = omega arith
root_apart a p some low (to_used has used) = let from = has.from in omega arith
