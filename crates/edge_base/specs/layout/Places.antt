-- Where things lie on the image of a geometry.
use Rattle.std.specs.Prelude.{◌≡◌, ℕ, ◌+◌, ◌-◌, ◌*◌, ◌/◌, ◌%◌, ◌<◌, ◌≤◌, Bool, ◌==◌, ◌||◌, not, nat_lt, if◌then◌else◌, Option, Some, None, IsTrue}
use Rattle.edge_base.specs.layout.Sizes.{is_block_size, fits_inline, node_bits, pairs_for, place_of}
use Rattle.edge_base.specs.declared.geometry.BadGeometry.{BadGeometry}
use Rattle.edge_base.specs.declared.geometry.BadGeometry.TheVariants.{BlockSize, Blocks, Inodes, NameMax, Pointers, Room}
use Rattle.edge_base.specs.declared.geometry.Request.{Request}
use Rattle.edge_base.specs.declared.way.Way.{Way}
use Rattle.edge_base.specs.declared.way.Way.TheVariants.{Direct, Single, Double}

-- the entries of an inode
abbrev pub entries_of : Request → ℕ
entries_of g = (g.block_size - 32) / 4

-- the entries of a pointer node
abbrev pub pointers_of : Request → ℕ
pointers_of g = (g.block_size - 20) / 4

-- whether the bitmap of used blocks lies in the metaroot
abbrev pub is_inline_of : Request → Bool
is_inline_of g = fits_inline g.block_size g.blocks

-- the pairs of imap nodes, none where the bitmap is inline
abbrev pub imap_nodes_of : Request → ℕ
imap_nodes_of g = pairs_for g.block_size g.blocks

-- k imap nodes have a bit for each block behind them
abbrev pub HaveRoom : Request → ℕ → Type 0
HaveRoom g k = g.blocks - 3 - 2 * k ≤ k * node_bits g.block_size

abbrev pub imap_place_of : Request → ℕ → Bool → ℕ
imap_place_of g node second = 3 + 2 * node + place_of second

-- the first block of the inode table
abbrev pub table_start_of : Request → ℕ
table_start_of g = 3 + 2 * imap_nodes_of g

abbrev pub inode_place_of : Request → ℕ → Bool → ℕ
inode_place_of g number second = table_start_of g + 2 * (number - 2) + place_of second

abbrev pub first_allocable_of : Request → ℕ
first_allocable_of g = table_start_of g + 2 * g.inodes

-- the number of allocable blocks
abbrev pub allocable_of : Request → ℕ
allocable_of g = g.blocks - first_allocable_of g

-- the greatest number of data blocks of a file
abbrev pub max_blocks_of : Request → ℕ
max_blocks_of g = g.direct + g.indirect * pointers_of g + (entries_of g - g.direct - g.indirect) * (pointers_of g * pointers_of g)

-- the way to data block i
abbrev pub way_of : Request → ℕ → Way
way_of g i =
    let single = i - g.direct in
    let double = single - g.indirect * pointers_of g in
    if nat_lt i g.direct then Direct i
    else if nat_lt single (g.indirect * pointers_of g) then Single (g.direct + single / pointers_of g) (single % pointers_of g)
    else Double (g.direct + g.indirect + double / (pointers_of g * pointers_of g))
    (double % (pointers_of g * pointers_of g) / pointers_of g) (double % pointers_of g)

-- The entry and the places of a way lie within their nodes.
abbrev pub IsWithinNodes : Request → Way → Type 0
IsWithinNodes g (Direct entry) = entry < entries_of g
IsWithinNodes g (Single entry place) = (entry < entries_of g) × (place < pointers_of g)
IsWithinNodes g (Double entry outer place) = (entry < entries_of g) × (outer < pointers_of g) × (place < pointers_of g)

abbrev pub max_size_of : Request → ℕ
max_size_of g = max_blocks_of g * g.block_size

-- the bits of the metaroot's bitmap: one for each block from 3 on, or one for each pair of imap nodes
abbrev pub root_bits_of : Request → ℕ
root_bits_of g = if is_inline_of g then g.blocks - 3 else imap_nodes_of g

-- The first limit that a request breaks.
unfoldable pub bad_geometry : Request → Option BadGeometry
bad_geometry g =
    if not (is_block_size g.block_size) then Some BlockSize
    else if nat_lt 4194304 g.blocks then Some Blocks
    else if (g.inodes == 0) || nat_lt 65536 g.inodes then Some Inodes
    else if nat_lt g.name_max 12 || nat_lt 252 g.name_max || not (g.name_max % 4 == 0) then Some NameMax
    else if (g.direct == 0) || nat_lt (entries_of g) (g.direct + g.indirect) then Some Pointers
    else if nat_lt (allocable_of g) 3 then Some Room
    else None

-- A request within the limits.
abbrev pub IsGeometry : Request → Type 0
IsGeometry g = bad_geometry g ≡ None

-- the same limits one by one
pub record IsWithinLimits (g : Request) : Type 0 where
  pub block_size : IsTrue (is_block_size g.block_size)
  pub blocks : g.blocks ≤ 4194304
  pub some_inode : 1 ≤ g.inodes
  pub inodes : g.inodes ≤ 65536
  pub name_min : 12 ≤ g.name_max
  pub name_max : g.name_max ≤ 252
  pub name_four : g.name_max % 4 ≡ 0
  pub some_direct : 1 ≤ g.direct
  pub pointers : g.direct + g.indirect ≤ entries_of g
  pub room : 3 ≤ allocable_of g
