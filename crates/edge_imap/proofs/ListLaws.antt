-- What two contents, and the counts, say of the lists.
use Rattle.std.proofs.Common.{◌≡◌, ◌≢◌, ℕ, zero, suc, ◌+◌, ◌-◌, ◌<◌, ◌≤◌, ◌&&◌, not, Bool, true, false, List, Option, Some, None, refl, ap, arith}
use Rattle.std.specs.List.{count_by, range_with_len}
use Rattle.edge_base.specs.declared.geometry.Request.{Request}
use Rattle.edge_base.specs.layout.Bitmap.{bit_under, used_under, live_place}
use Rattle.edge_base.specs.layout.Bytes.{bit_in}
use Rattle.edge_base.specs.layout.Places.{is_inline_of, imap_nodes_of, table_start_of, first_allocable_of, allocable_of, IsWithinLimits}
use Rattle.edge_base.specs.layout.Sizes.{place_of}
use Rattle.edge_alloc.specs.declared.Counts.{Counts}
use Rattle.edge_imap.specs.Bitmaps.{Bitmaps, IsTied, SameNodes, spare_place, node_of, bits_of, first_bit, committed_use, working_use, is_free_bit}
use Rattle.edge_imap.specs.Search.{Finds, IsWithin}
use Rattle.edge_imap.proofs.BitLaws.{long_blocks, node_below, bit_under-same}
use Rattle.edge_imap.proofs.CountLaws.{count-alike, count-cons, count-split, one}

-- the live nodes under the bits of a root have the same bytes
pub live_same : (g : Request) (roots : List ℕ) (old new : ℕ → List ℕ) → IsWithinLimits g → ((j : ℕ) → j < imap_nodes_of g → new (live_place g roots j) ≡ old (live_place g roots j))
    → (bit : ℕ) → bit < bits_of g → bit_under g roots new bit ≡ bit_under g roots old bit
live_same g roots old new limits same bit low = bit_under-same g roots old new bit (λ external. same (node_of g bit) (node_below g bit (long_blocks g.block_size limits.block_size) external low))

-- all places of nodes have
pub use_same : (g : Request) (roots : List ℕ) (old new : ℕ → List ℕ) → IsWithinLimits g → SameNodes g old new → (b : ℕ) → b < g.blocks → used_under g roots new b ≡ used_under g roots old b
use_same g roots old new limits same b low = live_same g roots old new limits (λ j below. same j (bit_in 0 roots j) below) (b - table_start_of g) (omega (arith, low, limits.room))

place_low : (t : Bool) → place_of t ≤ 1
place_low true = omega arith
place_low false = omega arith

pub spare_behind : (g : Request) (roots : List ℕ) (j : ℕ) → 3 ≤ spare_place g roots j
spare_behind g roots j = omega arith

pub spare_before : (g : Request) (roots : List ℕ) (bit : ℕ) → IsWithinLimits g → is_inline_of g ≡ false → bit < bits_of g → spare_place g roots (node_of g bit) < table_start_of g
spare_before g roots bit limits external low = omega (arith, node_below g bit (long_blocks g.block_size limits.block_size) external low, place_low (not (bit_in 0 roots (node_of g bit))))

both_not : (a : Bool) → (not a && not a) ≡ not a
both_not true = refl
both_not false = refl

pub counts_working : (m : Bitmaps) (content : ℕ → List ℕ) → IsTied m content
    → m.counts.free + m.counts.almost ≡ count_by (λ b. not (working_use m content b)) (range_with_len (first_allocable_of m.geometry) (allocable_of m.geometry))
counts_working m content t =
    let w = working_use m content in
    let split = count-split (committed_use m content) w (first_allocable_of m.geometry) (allocable_of m.geometry) in
    let alike = count-alike (λ b. not (w b)) (λ b. not (w b) && not (w b)) (first_allocable_of m.geometry) (allocable_of m.geometry) (λ k on lt. both_not (w k)) in
    omega (arith, ap (λ (x : Counts). x.free) t.counts, ap (λ (x : Counts). x.almost) t.counts, split, alike)

-- a number of a range that passes
abbrev Passes : (ℕ → Bool) → ℕ → ℕ → Type 0
Passes p a n = (k : ℕ) × (a ≤ k) × (k < a + n) × (p k ≡ true)

-- where some are counted, one passes
count_more : (p : ℕ → Bool) (a n : ℕ) → (0 < count_by p (range_with_len (a + 1) n) → Passes p (a + 1) n) → 0 < count_by p (range_with_len a (suc n)) → (t : Bool) → p a ≡ t → Passes p a (suc n)
count_more p a n rest some true is = (a, omega arith, omega arith, is)
count_more p a n rest some false is =
    let none : one (p a) ≡ 0 = ap one is in
    let found = rest (omega (arith, some, none, count-cons p a (range_with_len (a + 1) n))) in
    (found.0, omega (arith, found.1), omega (arith, found.2), found.3)

count_some : (p : ℕ → Bool) (a n : ℕ) → 0 < count_by p (range_with_len a n) → Passes p a n
count_some p a zero some = absurd (omega (arith, some))
count_some p a (suc n) some = count_more p a n (count_some p (a + 1) n) some (p a) refl

pub free_bit : (m : Bitmaps) (content : ℕ → List ℕ) → IsTied m content → 0 < m.counts.free → (bit : ℕ) × IsWithin (first_bit m.geometry) (bits_of m.geometry) bit × (is_free_bit m content bit ≡ true)
free_bit m content t some =
    let found = count_some (λ b. not (committed_use m content b) && not (working_use m content b)) (first_allocable_of m.geometry) (allocable_of m.geometry) (omega (arith, some, ap (λ (x : Counts). x.free) t.counts)) in
    (found.0 - table_start_of m.geometry, (omega (arith, found.1), omega (arith, found.1, found.2)), found.3)

pub free_is_found : (m : Bitmaps) (content : ℕ → List ℕ) → IsTied m content → 0 < m.counts.free → (from : ℕ) (found : Option ℕ) → Finds (is_free_bit m content) (first_bit m.geometry) (bits_of m.geometry) from found → found ≢ None
free_is_found m content t some from (Some i) finds = λ e. cc e
free_is_found m content t some from None finds = λ e.
    let bit = free_bit m content t some in
    cc (finds bit.0 (bit.1.0) (bit.1.1), bit.2)
