-- Which blocks are used. The bytes of a metaroot's bitmap have a bit for each block, or one for each pair of imap nodes, which tells
-- the live node: the second where it is set. Content is what blocks hold: those of an image, or what a cache gives.
use Rattle.std.specs.Prelude.{ℕ, ◌-◌, ◌/◌, ◌%◌, Bool, if◌then◌else◌, List}
use Rattle.edge_base.specs.declared.geometry.Request.{Request}
use Rattle.edge_base.specs.layout.Bytes.{bit_in}
use Rattle.edge_base.specs.layout.Places.{is_inline_of, imap_place_of, table_start_of}
use Rattle.edge_base.specs.layout.Sizes.{node_bits}

-- the block of the live node of pair i
abbrev pub live_place : Request → List ℕ → ℕ → ℕ
live_place g roots i = imap_place_of g i (bit_in 0 roots i)

-- bit i of the bitmap
abbrev pub bit_under : Request → List ℕ → (ℕ → List ℕ) → ℕ → Bool
bit_under g roots content i =
    if is_inline_of g then bit_in 0 roots i else bit_in 16 (content (live_place g roots (i / node_bits g.block_size))) (i % node_bits g.block_size)

-- whether a block is used, from the inode table on: the bitmap begins with its first block
abbrev pub used_under : Request → List ℕ → (ℕ → List ℕ) → ℕ → Bool
used_under g roots content b = bit_under g roots content (b - table_start_of g)
