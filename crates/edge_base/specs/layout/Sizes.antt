-- Sizes of blocks and of bitmaps.
use Rattle.std.specs.Prelude.{ℕ, ◌+◌, ◌-◌, ◌*◌, ◌/◌, Bool, ◌==◌, ◌||◌, nat_le, if◌then◌else◌}

abbrev pub is_block_size : ℕ → Bool
is_block_size n = (n == 512) || (n == 1024) || (n == 2048) || (n == 4096)

-- whether a metaroot has a bit for each block from 3 on
abbrev pub fits_inline : ℕ → ℕ → Bool
fits_inline block_size blocks = nat_le (blocks - 3) (8 * (block_size - 32))

-- the bits that an imap node holds
abbrev pub node_bits : ℕ → ℕ
node_bits block_size = 8 * (block_size - 16)

-- the pairs of imap nodes: `pairs_of_imap_nodes` says that they are the fewest that have a bit for each block behind them
abbrev pub pairs_for : ℕ → ℕ → ℕ
pairs_for block_size blocks = if fits_inline block_size blocks then 0 else (blocks - 3 + node_bits block_size + 1) / (node_bits block_size + 2)

-- 0 for the first place of a pair, 1 for the second
abbrev pub place_of : Bool → ℕ
place_of second = if second then 1 else 0
