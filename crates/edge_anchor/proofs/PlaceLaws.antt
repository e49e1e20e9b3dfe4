-- Places that have a bit, and counts over them.
use Rattle.std.proofs.Common.{◌≡◌, ℕ, ◌+◌, ◌<◌, ◌≤◌, ◌&&◌, not, Bool, true, false, ap, arith}
use Rattle.std.specs.Prelude.{nat_le, nat_lt}
use Rattle.std.proofs.lemmas.Bool.{and_parts, leb-true, ltb-true}
use Rattle.edge_base.specs.declared.geometry.Request.{Request}
use Rattle.edge_base.specs.layout.Places.{IsWithinLimits, inode_place_of, first_allocable_of, allocable_of}
use Rattle.edge_base.specs.layout.Sizes.{place_of}
use Rattle.edge_store.specs.View.{is_allocable, is_number}
use Rattle.edge_image.specs.Image.{is_unused, is_free, free_blocks_of, free_inodes_of}
use Rattle.edge_image.proofs.AlikeLaws.{count_alike}
use Rattle.edge_anchor.specs.Anchor.{HasBit}

pub low_place : (second : Bool) → place_of second ≤ 1
low_place true = omega arith
low_place false = omega arith

module _ (g : Request) (limits : IsWithinLimits g) where
  pub has_room : first_allocable_of g + 3 ≤ g.blocks
  has_room = let room = limits.room in omega arith

  pub number_within : (n : ℕ) → is_number g n ≡ true → (2 ≤ n) × (n < 2 + g.inodes)
  number_within n is = let parts = and_parts (nat_le 2 n) (nat_lt n (2 + g.inodes)) is in (leb-true 2 n parts.0, ltb-true n (2 + g.inodes) parts.1)

  pub allocable_within : (b : ℕ) → is_allocable g b ≡ true → (first_allocable_of g ≤ b) × (b < g.blocks)
  allocable_within b is =
      let parts = and_parts (nat_le (first_allocable_of g) b) (nat_lt b (first_allocable_of g + allocable_of g)) is in
      let from = leb-true (first_allocable_of g) b parts.0 in
      let below = ltb-true b (first_allocable_of g + allocable_of g) parts.1 in
      let room = limits.room in
      (from, omega arith)

  pub place_has_bit : (n : ℕ) (second : Bool) → is_number g n ≡ true → HasBit g (inode_place_of g n second)
  place_has_bit n second is =
      let within = number_within n is in
      let low = low_place second in
      let room = has_room in
      record { from = omega arith; below = omega arith }

  pub block_has_bit : (b : ℕ) → is_allocable g b ≡ true → HasBit g b
  block_has_bit b is = let within = allocable_within b is in record { from = omega arith; below = within.1 }

  -- ---- counts

  module _ (used now : ℕ → Bool) (same : (b : ℕ) → HasBit g b → now b ≡ used b) where
    pub free_blocks_same : free_blocks_of g now ≡ free_blocks_of g used
    free_blocks_same = count_alike (is_unused now) (is_unused used) (first_allocable_of g) (allocable_of g) (λ b from below.
        ap not (same b (let room = limits.room in record { from = omega arith; below = omega arith })))

    pub free_inodes_same : free_inodes_of g now ≡ free_inodes_of g used
    free_inodes_same = count_alike (is_free g now) (is_free g used) 2 g.inodes (λ n from below.
        let room = has_room in
        let first = same (inode_place_of g n false) (record { from = omega arith; below = omega arith }) in
        let second = same (inode_place_of g n true) (record { from = omega arith; below = omega arith }) in
        λ t. not (first t) && not (second t))
