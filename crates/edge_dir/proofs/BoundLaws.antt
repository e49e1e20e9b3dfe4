-- Which slots and numbers calls answer, over any store.
use Rattle.std.proofs.Common.{◌≡◌, ◌∙◌, ℕ, ◌+◌, ◌*◌, ◌/◌, ◌<◌, ◌≤◌, List, [], ◌∷◌, length, true, Option, Some, None, ap, arith}
use Rattle.std.proofs.lemmas.Bool.{false≢true}
use Rattle.std.proofs.lemmas.Nat.{div-mul-add}
use Rattle.std.proofs.Math.Nat.{mul-le-mul_right}
use Rattle.edge_base.specs.declared.geometry.Request.{Request}
use Rattle.edge_base.specs.layout.Places.{max_blocks_of}
use Rattle.edge_base.specs.tree.Slots.{is_name, slots_in_block}
use Rattle.edge_slots.specs.Block.{IsLastFilled, Seeks}
use Rattle.edge_slots.specs.declared.block.Search.{Search}
use Rattle.edge_slots.specs.declared.block.Search.TheVariants.{Found, Missing}
use Rattle.edge_dir.specs.Bounds.{IsBelow, IsNamedWithin, IsSaidWithin, IsSaidWithinAt, IsSearchWithin, max_slots_of}
use Rattle.edge_dir.specs.Directory.{earlier, free_in}

-- what a search of a block finds
pub seek_within : (g : Request) (block name : List ℕ) (found : Search) → Seeks g block name found → IsSearchWithin g found
seek_within g block name (Found slot number) named = (named.in_range, named.entry.allowed.from, named.entry.allowed.below)
seek_within g block name (Missing (Some free)) missing = missing.first_empty.in_range
seek_within g block name (Missing None) missing = tt

-- a slot of data block i
module _ (g : Request) (i in_block k slot : ℕ) (low : i < max_blocks_of g) (width : in_block ≡ slots_in_block g) (inner : k < slots_in_block g) (is : slot ≡ i * in_block + k) where
  is_at : slot ≡ i * slots_in_block g + k
  is_at = is ∙ ap (λ (x : ℕ). i * x + k) width

  pub block_within : slot / slots_in_block g < max_blocks_of g
  block_within = let same : slot / slots_in_block g ≡ i = ap (λ (x : ℕ). x / slots_in_block g) is_at ∙ div-mul-add i (slots_in_block g) k inner in omega (arith, same, low)

  pub slot_within_all : slot < max_slots_of g
  slot_within_all =
      let rows = mul-le-mul_right {m = i + 1} {n = max_blocks_of g} (slots_in_block g) (omega (arith, low)) in
      let row : (i + 1) * slots_in_block g ≡ i * slots_in_block g + slots_in_block g = grind arith in
      omega (arith, rows, row, is_at, inner)

  pub named_within : (number : ℕ) → 3 ≤ number → number < 2 + g.inodes → IsNamedWithin g slot number
  named_within number from below = record { block = block_within; from = from; below = below }

-- the slot behind so many data blocks
pub end_within : (g : Request) (blocks in_block slot : ℕ) → blocks ≤ max_blocks_of g → in_block ≡ slots_in_block g → slot ≡ blocks * in_block + 0 → slot ≤ max_slots_of g
end_within g blocks in_block slot most width is =
    let rows = mul-le-mul_right {m = blocks} {n = max_blocks_of g} (slots_in_block g) most in
    let at : slot ≡ blocks * slots_in_block g + 0 = is ∙ ap (λ (x : ℕ). blocks * x + 0) width in
    omega (arith, rows, at)

pub earlier_within : (g : Request) (i in_block : ℕ) (free here : Option ℕ) → i < max_blocks_of g → in_block ≡ slots_in_block g → IsBelow (max_slots_of g) free → IsBelow (slots_in_block g) here
    → IsBelow (max_slots_of g) (earlier free (i * in_block) here)
earlier_within g i in_block (Some k) here low width before within = before
earlier_within g i in_block None (Some k) low width before within = slot_within_all g i in_block k (i * in_block + k) low width within (let e : i * in_block + k ≡ i * in_block + k = omega arith in e)
earlier_within g i in_block None None low width before within = tt

pub free_within : (g : Request) (found : Search) (k : ℕ) → IsSearchWithin g found → free_in found ≡ Some k → k < slots_in_block g
free_within g (Found slot number) k within is = absurd (let e : None ≡ Some k = is in cc)
free_within g (Missing None) k within is = absurd (let e : None ≡ Some k = is in cc)
free_within g (Missing (Some j)) k within is = let same : j ≡ k = (let e : Some j ≡ Some k = is in cc) in omega (arith, within, same)

pub last_below : (g : Request) (block : List ℕ) (below : ℕ) (last : Option ℕ) → IsLastFilled g block below last → IsBelow below last
last_below g block below (Some k) is = is.in_range
last_below g block below None is = tt

-- ---- an entry

pub some_name : (g : Request) (name : List ℕ) → is_name g name ≡ true → 1 ≤ length name
some_name g [] is = absurd (false≢true is)
some_name g (b ∷ name) is = omega arith

pub said_within_at : (g : Request) (k : ℕ) (list : List ℕ) (entry : Option (ℕ × ℕ)) → k / slots_in_block g < max_blocks_of g → IsSaidWithin g list entry → IsSaidWithinAt g k list entry
said_within_at g k list (Some entry) low is = (low, is)
said_within_at g k list None low is = tt
