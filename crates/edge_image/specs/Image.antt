-- What an image says: its live metaroot, which blocks are used, and the reasons why it is not mounted.
use Rattle.std.specs.Prelude.{ℕ, ◌^◌, ◌==◌, ◌&&◌, not, Bool, true, false, nat_lt, if◌then◌else◌, count_by, List, drop, Option, Some, None, Result, Ok, Err, is_ok}
use Rattle.std.specs.List.{list_any, range_with_len}
use Rattle.edge_base.specs.declared.geometry.Request.{Request}
use Rattle.edge_base.specs.declared.node.Head.{Head}
use Rattle.edge_base.specs.declared.node.Master.{Master}
use Rattle.edge_base.specs.declared.node.Metaroot.{Metaroot}
use Rattle.edge_base.specs.declared.node.NodeFault.{NodeFault}
use Rattle.edge_base.specs.declared.damage.Damage.{Damage}
use Rattle.edge_base.specs.declared.damage.DamageKind.TheVariants as kinds
use Rattle.edge_base.specs.layout.Bitmap.{live_place, used_under}
use Rattle.edge_base.specs.layout.Places.{imap_nodes_of, inode_place_of, first_allocable_of, allocable_of}
use Rattle.edge_base.specs.layout.Spelling.{master_in, metaroot_in, imap_in, inode_in}
use Rattle.edge_disk.specs.Image.{Image}
use Rattle.edge_store.specs.View.{kind_of_fault}

-- ---- the live metaroot

-- a metaroot and the block that spells it, 1 or 2
pub record Live : Type 0 where
  pub place : ℕ
  pub root : Metaroot

-- the one with the greater sequence number, and block 1 where they are equal
abbrev pub greater : Metaroot → Metaroot → Live
greater one two = if nat_lt one.sequence two.sequence then record { place = 2; root = two } else record { place = 1; root = one }

-- of what the blocks 1 and 2 spell
abbrev pub live_among : Result Metaroot NodeFault → Result Metaroot NodeFault → Option Live
live_among (Ok one) (Ok two) = Some (greater one two)
live_among (Ok one) (Err fault) = Some (record { place = 1; root = one })
live_among (Err fault) (Ok two) = Some (record { place = 2; root = two })
live_among (Err fault) (Err other) = None

abbrev pub live_of : Request → Image → Option Live
live_of g image = live_among (metaroot_in g (image.block 1)) (metaroot_in g (image.block 2))

-- ---- used blocks

-- the bytes of the bitmap in a live metaroot
abbrev pub roots_in : Image → Live → List ℕ
roots_in image live = drop 32 (image.block live.place)

-- the blocks that a live metaroot says are used, by its own bits or by those of the live imap nodes
abbrev pub used_in : Request → Image → Live → ℕ → Bool
used_in g image live = used_under g (roots_in image live) image.block

-- the place of a number's inode where exactly one of its two places is used
abbrev pub used_place : Request → (ℕ → Bool) → ℕ → Option ℕ
used_place g used number = one_of (used (inode_place_of g number false)) (used (inode_place_of g number true))
  where
    one_of : Bool → Bool → Option ℕ
    one_of true false = Some (inode_place_of g number false)
    one_of false true = Some (inode_place_of g number true)
    one_of true true = None
    one_of false false = None

abbrev pub is_unused : (ℕ → Bool) → ℕ → Bool
is_unused used b = not (used b)

-- the allocable blocks whose bit is clear
abbrev pub free_blocks_of : Request → (ℕ → Bool) → ℕ
free_blocks_of g used = count_by (is_unused used) (range_with_len (first_allocable_of g) (allocable_of g))

-- whether neither place of a number is used
abbrev pub is_free : Request → (ℕ → Bool) → ℕ → Bool
is_free g used number = not (used (inode_place_of g number false)) && not (used (inode_place_of g number true))

-- the inode numbers with both places' bits clear
abbrev pub free_inodes_of : Request → (ℕ → Bool) → ℕ
free_inodes_of g used = count_by (is_free g used) (range_with_len 2 g.inodes)

-- ---- reasons

-- whether a block spells imap node i
abbrev pub spells_imap : Request → ℕ → List ℕ → Bool
spells_imap g i b = is_ok (imap_in g i b)

-- whether a live imap node spells none; content is what blocks hold
abbrev pub has_bad_imap : Request → List ℕ → (ℕ → List ℕ) → Bool
has_bad_imap g roots content = list_any (λ i. not (spells_imap g i (content (live_place g roots i)))) (range_with_len 0 (imap_nodes_of g))

-- whether the two counts of a metaroot are those of its bitmap
abbrev pub counts_hold : Request → Metaroot → (ℕ → Bool) → Bool
counts_hold g root used = (root.free_blocks == free_blocks_of g used) && (root.free_inodes == free_inodes_of g used)

-- the reasons in the counts of a live metaroot, from its fields and the used blocks
abbrev pub reason_of_counts : Request → Metaroot → (ℕ → Bool) → Option ℕ
reason_of_counts g root used =
    if not (counts_hold g root used) then Some 7
    else if nat_lt (free_blocks_of g used) 3 then Some 8
    else None

abbrev pub reason_of_live : Request → Image → Option Live → Option ℕ
reason_of_live g image None = Some 4
reason_of_live g image (Some live) =
    if nat_lt (2 ^ 63) live.root.sequence then Some 5
    else if has_bad_imap g (roots_in image live) image.block then Some 6
    else reason_of_counts g live.root (used_in g image live)

abbrev pub reason_of_master : Image → Result Master NodeFault → Option ℕ
reason_of_master image (Err fault) = Some 1
reason_of_master image (Ok master) =
    if not (master.geometry.block_size == image.block_size) then Some 2
    else if nat_lt image.blocks master.geometry.blocks then Some 3
    else reason_of_live master.geometry image (live_of master.geometry image)

-- The first reason why an image is not mounted, in the order of docs/COMMANDS.md.
unfoldable pub reason_of : Image → Option ℕ
reason_of image = if nat_lt image.blocks 3 then Some 1 else reason_of_master image (master_in (image.block 0))

-- ---- inodes

-- the number of the root directory
abbrev pub root_number : ℕ
root_number = 2

-- the head that a block spells, or the damage of that block
abbrev pub head_told : ℕ → Result Head NodeFault → Result Head Damage
head_told place (Ok head) = Ok head
head_told place (Err fault) = Err (record { block = place; kind = kind_of_fault fault })

-- The place of a number's inode, where exactly one of its two places is used.
abbrev pub place_of : Request → (ℕ → Bool) → ℕ → Result ℕ Damage
place_of g used number = by_use (used (inode_place_of g number false)) (used (inode_place_of g number true))
  where
    by_use : Bool → Bool → Result ℕ Damage
    by_use true false = Ok (inode_place_of g number false)
    by_use false true = Ok (inode_place_of g number true)
    by_use true true = Err (record { block = inode_place_of g number false; kind = kinds.TwoPlaces })
    by_use false false = Err (record { block = inode_place_of g number false; kind = kinds.NotUsed })

abbrev pub head_by : Image → Result ℕ Damage → Result Head Damage
head_by image (Ok place) = head_told place (inode_in (image.block place))
head_by image (Err damage) = Err damage

-- the head of a number's inode, or the damage that is met where it is read
abbrev pub head_of : Request → Image → (ℕ → Bool) → ℕ → Result Head Damage
head_of g image used number = head_by image (place_of g used number)
