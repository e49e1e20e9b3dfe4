-- Spelling: which bytes of a block say which record. A field is stated by the number that its bytes read as.
-- docs/FORMAT.md has the same tables in words.
use Rattle.std.specs.Prelude.{◌≡◌, ℕ, ◌+◌, ◌-◌, ◌*◌, ◌<◌, ◌≤◌, ◌==◌, ◌||◌, ◌&&◌, not, is_some, nat_le, nat_lt, min, Bool, false, if◌then◌else◌, List, drop, length, slice_index, Result, Ok, Err}
use Rattle.edge_base.specs.declared.geometry.Request.{Request}
use Rattle.edge_base.specs.declared.node.Head.{Head}
use Rattle.edge_base.specs.declared.node.Master.{Master}
use Rattle.edge_base.specs.declared.node.Metaroot.{Metaroot}
use Rattle.edge_base.specs.declared.node.NodeType.{NodeType}
use Rattle.edge_base.specs.declared.node.NodeType.TheVariants.{File, Directory}
use Rattle.edge_base.specs.declared.node.NodeFault.{NodeFault}
use Rattle.edge_base.specs.declared.node.NodeFault.TheVariants.{WrongSignature, WrongWord, WrongField}
use Rattle.edge_base.specs.layout.Places.{IsGeometry, bad_geometry, entries_of, pointers_of, imap_nodes_of, table_start_of, root_bits_of}
use Rattle.edge_base.specs.layout.Sizes.{node_bits}
use Rattle.edge_base.specs.layout.Word.{check_word_of}
use Rattle.edge_base.specs.layout.Bytes.{number_at, numbers_at, signature_in, is_zero, bit_in, clear_from}

-- ---- the header of every node

-- The block begins with the signature, its check word is that of the bytes from 8 on, and it carries the sequence number.
pub record IsNode (signature sequence : ℕ) (b : List ℕ) : Type 0 where
  pub signature_is : signature_in b ≡ signature
  pub word_is : number_at 4 4 b ≡ check_word_of (drop 8 b)
  pub sequence_is : number_at 8 8 b ≡ sequence

-- MAST, META, IMAP, INOD, INDI and DBLI
abbrev pub master_signature : ℕ
master_signature = 0x4d415354

abbrev pub metaroot_signature : ℕ
metaroot_signature = 0x4d455441

abbrev pub imap_signature : ℕ
imap_signature = 0x494d4150

abbrev pub inode_signature : ℕ
inode_signature = 0x494e4f44

abbrev pub pointer_signature : Bool → ℕ
pointer_signature double = if double then 0x44424c49 else 0x494e4449

-- ---- master

-- the block size of a logarithm, and 0 outside 9 to 12
abbrev pub size_of_log : ℕ → ℕ
size_of_log n = if n == 9 then 512 else if n == 10 then 1024 else if n == 11 then 2048 else if n == 12 then 4096 else 0

pub record SpellsMaster (m : Master) (b : List ℕ) : Type 0 where
  pub node : IsNode master_signature 0 b
  pub version : number_at 16 4 b ≡ 1
  pub reserved : number_at 20 8 b ≡ 0
  pub time : number_at 28 4 b ≡ m.time
  pub inodes : number_at 32 4 b ≡ m.geometry.inodes
  pub blocks : number_at 36 4 b ≡ m.geometry.blocks
  pub name_max : number_at 40 2 b ≡ m.geometry.name_max
  pub direct : number_at 42 2 b ≡ m.geometry.direct
  pub indirect : number_at 44 2 b ≡ m.geometry.indirect
  pub block_size : size_of_log (number_at 46 1 b) ≡ m.geometry.block_size
  pub geometry : IsGeometry m.geometry
  pub flags : number_at 47 1 b ≡ 1
  pub rest : (k : ℕ) → 48 ≤ k → slice_index b k ≡ 0

-- the geometry that the fields say
unfoldable pub request_in : List ℕ → Request
request_in b = record {
  block_size = size_of_log (number_at 46 1 b);
  blocks = number_at 36 4 b;
  inodes = number_at 32 4 b;
  name_max = number_at 40 2 b;
  direct = number_at 42 2 b;
  indirect = number_at 44 2 b;
}

-- The master that a block spells, or the first field in rising order that breaks its rule.
unfoldable pub master_in : List ℕ → Result Master NodeFault
master_in b =
    if not (signature_in b == master_signature) then Err WrongSignature
    else if not (number_at 4 4 b == check_word_of (drop 8 b)) then Err WrongWord
    else if not (number_at 8 8 b == 0) then Err (WrongField 8)
    else if not (number_at 16 4 b == 1) then Err (WrongField 16)
    else if not (number_at 20 8 b == 0) then Err (WrongField 20)
    else if is_some (bad_geometry (request_in b)) then Err (WrongField 32)
    else if not (number_at 47 1 b == 1) then Err (WrongField 47)
    else if not (is_zero 48 (length b) b) then Err (WrongField 48)
    else Ok (record { geometry = request_in b; time = number_at 28 4 b })

-- ---- metaroot

-- bits are the bytes of the bitmap
pub record SpellsMetaroot (g : Request) (r : Metaroot) (bits b : List ℕ) : Type 0 where
  pub len : length b ≡ g.block_size
  pub node : IsNode metaroot_signature r.sequence b
  pub free_blocks : number_at 16 4 b ≡ r.free_blocks
  pub free_inodes : number_at 20 4 b ≡ r.free_inodes
  pub next : number_at 24 4 b ≡ r.next
  pub reserved : number_at 28 4 b ≡ 0
  pub bitmap : drop 32 b ≡ bits
  pub unused : (i : ℕ) → root_bits_of g ≤ i → i < 8 * (length b - 32) → bit_in 32 b i ≡ false

-- the fields of a metaroot, whether or not the block spells one
unfoldable pub metaroot_fields : List ℕ → Metaroot
metaroot_fields b = record { sequence = number_at 8 8 b; free_blocks = number_at 16 4 b; free_inodes = number_at 20 4 b; next = number_at 24 4 b }

-- The metaroot that a block spells, or the first field in rising order that breaks its rule.
unfoldable pub metaroot_in : Request → List ℕ → Result Metaroot NodeFault
metaroot_in g b =
    if not (signature_in b == metaroot_signature) then Err WrongSignature
    else if not (number_at 4 4 b == check_word_of (drop 8 b)) then Err WrongWord
    else if not (number_at 28 4 b == 0) then Err (WrongField 28)
    else if not (clear_from (root_bits_of g) 32 b) then Err (WrongField 32)
    else Ok (metaroot_fields b)

-- ---- imap node

-- the bits that imap node i holds
abbrev pub bits_of_node : Request → ℕ → ℕ
bits_of_node g i = min (node_bits g.block_size) (g.blocks - table_start_of g - i * node_bits g.block_size)

pub record SpellsImap (g : Request) (i sequence : ℕ) (bits b : List ℕ) : Type 0 where
  pub len : length b ≡ g.block_size
  pub in_range : i < imap_nodes_of g
  pub node : IsNode imap_signature sequence b
  pub bitmap : drop 16 b ≡ bits
  pub unused : (k : ℕ) → bits_of_node g i ≤ k → k < 8 * (length b - 16) → bit_in 16 b k ≡ false

-- The sequence number of imap node i that a block spells, or the first field in rising order that breaks its rule.
unfoldable pub imap_in : Request → ℕ → List ℕ → Result ℕ NodeFault
imap_in g i b =
    if not (signature_in b == imap_signature) then Err WrongSignature
    else if not (number_at 4 4 b == check_word_of (drop 8 b)) then Err WrongWord
    else if not (clear_from (bits_of_node g i) 16 b) then Err (WrongField 16)
    else Ok (number_at 8 8 b)

-- ---- inode

abbrev pub number_of_kind : NodeType → ℕ
number_of_kind File = 1
number_of_kind Directory = 2

pub record SpellsInode (g : Request) (sequence : ℕ) (head : Head) (entries b : List ℕ) : Type 0 where
  pub len : length b ≡ g.block_size
  pub node : IsNode inode_signature sequence b
  pub size : number_at 16 8 b ≡ head.size
  pub mode : number_at 24 2 b ≡ number_of_kind head.kind
  pub links : number_at 26 2 b ≡ head.links
  pub some_link : 1 ≤ head.links
  pub parent : number_at 28 4 b ≡ head.parent
  pub no_parent : head.kind ≡ File → head.parent ≡ 0
  pub entries_are : numbers_at 32 (entries_of g) b ≡ entries

-- the fields of an inode's head, whether or not the block spells one
unfoldable pub head_fields : List ℕ → Head
head_fields b = record {
  size = number_at 16 8 b;
  kind = if number_at 24 2 b == 1 then File else Directory;
  links = number_at 26 2 b;
  parent = number_at 28 4 b;
}

-- The head of the inode that a block spells, or the first field in rising order that breaks its rule.
unfoldable pub inode_in : List ℕ → Result Head NodeFault
inode_in b =
    if not (signature_in b == inode_signature) then Err WrongSignature
    else if not (number_at 4 4 b == check_word_of (drop 8 b)) then Err WrongWord
    else if not ((number_at 24 2 b == 1) || (number_at 24 2 b == 2)) then Err (WrongField 24)
    else if number_at 26 2 b == 0 then Err (WrongField 26)
    else if (number_at 24 2 b == 1) && not (number_at 28 4 b == 0) then Err (WrongField 28)
    else Ok (head_fields b)

-- ---- pointer node

-- an indirect node, or a double-indirect one
pub record SpellsPointer (g : Request) (double : Bool) (sequence owner : ℕ) (entries b : List ℕ) : Type 0 where
  pub len : length b ≡ g.block_size
  pub node : IsNode (pointer_signature double) sequence b
  pub owner_is : number_at 16 4 b ≡ owner
  pub owner_from : 2 ≤ owner
  pub owner_below : owner < 2 + g.inodes
  pub entries_are : numbers_at 20 (pointers_of g) b ≡ entries

-- what a pointer node says: the number of the inode that has it, and where it leads
pub record PointerNode : Type 0 where
  pub owner : ℕ
  pub entries : List ℕ

-- whether a pointer node may have this owner
abbrev pub is_owner : Request → ℕ → Bool
is_owner g owner = nat_le 2 owner && nat_lt owner (2 + g.inodes)

-- the fields of a pointer node, whether or not the block spells one
unfoldable pub pointer_fields : Request → List ℕ → PointerNode
pointer_fields g b = record { owner = number_at 16 4 b; entries = numbers_at 20 (pointers_of g) b }

-- The pointer node that a block spells, or the first field in rising order that breaks its rule.
unfoldable pub pointer_in : Request → Bool → List ℕ → Result PointerNode NodeFault
pointer_in g double b =
    if not (signature_in b == pointer_signature double) then Err WrongSignature
    else if not (number_at 4 4 b == check_word_of (drop 8 b)) then Err WrongWord
    else if not (is_owner g (number_at 16 4 b)) then Err (WrongField 16)
    else Ok (pointer_fields g b)

-- ---- none of them

-- The block spells no node, under whatever geometry it is read.
pub record SpellsNoNode (b : List ℕ) : Type 0 where
  pub no_master : (m : Master) → SpellsMaster m b → ⊥
  pub no_metaroot : (g : Request) (r : Metaroot) (bits : List ℕ) → IsGeometry g → SpellsMetaroot g r bits b → ⊥
  pub no_imap : (g : Request) (i sequence : ℕ) (bits : List ℕ) → IsGeometry g → SpellsImap g i sequence bits b → ⊥
  pub no_inode : (g : Request) (sequence : ℕ) (head : Head) (entries : List ℕ) → IsGeometry g → SpellsInode g sequence head entries b → ⊥
  pub no_pointer : (g : Request) (double : Bool) (sequence owner : ℕ) (entries : List ℕ) → IsGeometry g → SpellsPointer g double sequence owner entries b → ⊥
