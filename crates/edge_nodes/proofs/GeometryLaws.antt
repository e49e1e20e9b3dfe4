-- A request that breaks no limit keeps each of them.
use Rattle.std.proofs.Common.{◌≡◌, ℕ, ◌+◌, ◌-◌, ◌*◌, ◌/◌, ◌%◌, ◌<◌, ◌≤◌, ◌==◌, ◌||◌, ◌⊎◌, inl, inr, Bool, true, false, not, cond, Option, Some, None, ap, subst, sym, refl, arith}
use Rattle.std.specs.Prelude.{nat_lt}
use Rattle.std.proofs.lemmas.Bool.Decides.{nat_tests}
use Rattle.edge_base.specs.declared.geometry.BadGeometry.{BadGeometry}
use Rattle.edge_base.specs.declared.geometry.BadGeometry.TheVariants.{BlockSize, Blocks, Inodes, NameMax, Pointers, Room}
use Rattle.edge_base.specs.declared.geometry.Request.{Request}
use Rattle.edge_base.specs.layout.Sizes.{is_block_size}
use Rattle.edge_base.specs.layout.Places.{IsGeometry, IsWithinLimits, bad_geometry, entries_of, allocable_of}

kept : (broken : Bool) (limit : BadGeometry) (rest : Option BadGeometry) → cond broken (Some limit) rest ≡ None → (broken ≡ false) × (rest ≡ None)
kept false limit rest e = (refl, e)
kept true limit rest e = absurd (cc)

is_true : (b : Bool) → not b ≡ false → b ≡ true
is_true true e = refl
is_true false e = absurd (cc)

at_most : (most n : ℕ) → nat_lt most n ≡ false → n ≤ most
at_most most n e = grind (arith, nat_tests)

at_least : (least n : ℕ) → nat_lt n least ≡ false → least ≤ n
at_least least n e = grind (arith, nat_tests)

some_at_most : (n most all : ℕ) → ((n == 0) || nat_lt most all) ≡ false → (1 ≤ n) × (all ≤ most)
some_at_most n most all e = grind (arith, nat_tests)

name_sizes : (n rest : ℕ) → (nat_lt n 12 || nat_lt 252 n || not (rest == 0)) ≡ false → (12 ≤ n) × (n ≤ 252) × (rest ≡ 0)
name_sizes n rest e = grind (arith, nat_tests)

pub limits : (g : Request) → IsGeometry g → IsWithinLimits g
unfolding bad_geometry
limits g e =
    let size = kept (not (is_block_size g.block_size)) BlockSize _ e in
    let blocks = kept (nat_lt 4194304 g.blocks) Blocks _ size.1 in
    let inodes = kept ((g.inodes == 0) || nat_lt 65536 g.inodes) Inodes _ blocks.1 in
    let names = kept (nat_lt g.name_max 12 || nat_lt 252 g.name_max || not (g.name_max % 4 == 0)) NameMax _ inodes.1 in
    let pointers = kept ((g.direct == 0) || nat_lt (entries_of g) (g.direct + g.indirect)) Pointers _ names.1 in
    let room = kept (nat_lt (allocable_of g) 3) Room _ pointers.1 in
    let some_inode = some_at_most g.inodes 65536 g.inodes inodes.0 in
    let name = name_sizes g.name_max (g.name_max % 4) names.0 in
    let direct = some_at_most g.direct (entries_of g) (g.direct + g.indirect) pointers.0 in
    record {
      block_size = is_true _ size.0;
      blocks = at_most 4194304 g.blocks blocks.0;
      some_inode = some_inode.0;
      inodes = some_inode.1;
      name_min = name.0;
      name_max = name.1;
      name_four = name.2;
      some_direct = direct.0;
      pointers = direct.1;
      room = at_least 3 (allocable_of g) room.0;
    }

-- a block is not too short for a node's header, and holds whole numbers of four bytes behind the first 32 and the first 20
pub record IsBlockLong (n : ℕ) : Type 0 where
  pub least : 512 ≤ n
  pub most : n ≤ 4096
  pub whole : 32 + 4 * ((n - 32) / 4) ≡ n
  pub pointers : 20 + 4 * ((n - 20) / 4) ≡ n

four_sizes : (n : ℕ) → is_block_size n ≡ true → (n ≡ 512) ⊎ (n ≡ 1024) ⊎ (n ≡ 2048) ⊎ (n ≡ 4096)
four_sizes n e = grind (arith, nat_tests)

pub block_long : (n : ℕ) → is_block_size n ≡ true → IsBlockLong n
block_long n e = elim (four_sizes n e) [
  | inl a ↦ record { least = omega arith; most = omega arith; whole = omega arith; pointers = omega arith }
  | inr b ↦ elim b [
    | inl c ↦ record { least = omega arith; most = omega arith; whole = omega arith; pointers = omega arith }
    | inr d ↦ elim d [
      | inl f ↦ record { least = omega arith; most = omega arith; whole = omega arith; pointers = omega arith }
      | inr h ↦ record { least = omega arith; most = omega arith; whole = omega arith; pointers = omega arith }
    ]
  ]
]

pub some_blocks : (g : Request) → IsGeometry g → 3 ≤ g.blocks
some_blocks g e = let room = (limits g e).room in omega arith

pub geometry_long : (g : Request) → IsGeometry g → IsBlockLong g.block_size
geometry_long g e = block_long g.block_size (limits g e).block_size

-- the numbers that a master holds in few bytes
pub record ShortFields (r : Request) : Type 0 where
  pub block_size : is_block_size r.block_size ≡ true
  pub name_max : r.name_max < 65536
  pub direct : r.direct < 65536
  pub indirect : r.indirect < 65536

pub short_fields : (g r : Request) → r ≡ g → IsGeometry g → ShortFields r
short_fields g r same e =
    let l = limits g e in
    let long = block_long g.block_size l.block_size in
    let name = l.name_max in
    let pointers = l.pointers in
    subst ShortFields (sym same) (record {
      block_size = l.block_size;
      name_max = omega arith;
      direct = let most = long.most in omega arith;
      indirect = let most = long.most in omega arith;
    })
