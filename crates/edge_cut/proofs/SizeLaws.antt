-- How many entries an inode and a pointer node have at most.
use Rattle.std.proofs.Common.{◌≡◌, ◌<◌, ◌≤◌, ◌^◌, ℕ, Bool, not, true, false, cond, Option, Some, None, refl, arith}
use Rattle.std.proofs.lemmas.Bool.Decides.{nat_tests}
use Rattle.edge_base.specs.declared.geometry.BadGeometry.{BadGeometry}
use Rattle.edge_base.specs.declared.geometry.BadGeometry.TheVariants.{BlockSize}
use Rattle.edge_base.specs.declared.geometry.Request.{Request}
use Rattle.edge_base.specs.layout.Sizes.{is_block_size}
use Rattle.edge_base.specs.layout.Places.{IsGeometry, bad_geometry, entries_of, pointers_of}

first : (a : Bool) (y : Option BadGeometry) → cond a (Some BlockSize) y ≡ None → a ≡ false
first true y h = absurd (cc)
first false y h = refl

size_most : (g : Request) → IsGeometry g → g.block_size ≤ 4096
unfolding bad_geometry
size_most g h = by g.block_size (first (not (is_block_size g.block_size)) _ h)
  where
    by : (n : ℕ) → not (is_block_size n) ≡ false → n ≤ 4096
    by n e = grind (arith, nat_tests)

pub entries_most : (g : Request) → IsGeometry g → entries_of g < 2 ^ 16
entries_most g h = let most = size_most g h in omega (arith, most)

pub pointers_most : (g : Request) → IsGeometry g → pointers_of g < 2 ^ 16
pointers_most g h = let most = size_most g h in omega (arith, most)
