-- A view: the inodes by number, and the used allocable blocks with what they hold.
use Rattle.std.specs.Prelude.{◌≡◌, ℕ, length, ◌+◌, ◌==◌, ◌&&◌, ◌||◌, not, Bool, true, false, nat_le, nat_lt, nat_eq, is_some, is_none, slice_set, count_by, List, [], replicate, Option, Some, None, Result, Ok, Err}
use Rattle.std.specs.List.{range_with_len}
use Rattle.std.specs.Map.{update}
use Rattle.edge_base.specs.declared.damage.Damage.{Damage}
use Rattle.edge_base.specs.declared.damage.DamageKind.{DamageKind}
use Rattle.edge_base.specs.declared.damage.DamageKind.TheVariants as kinds
use Rattle.edge_base.specs.declared.form.Form.{Form}
use Rattle.edge_base.specs.declared.form.Form.TheVariants.{Plain, Indirect, Double}
use Rattle.edge_base.specs.declared.geometry.Request.{Request}
use Rattle.edge_base.specs.declared.node.Head.{Head}
use Rattle.edge_base.specs.declared.node.NodeFault.{NodeFault}
use Rattle.edge_base.specs.declared.node.NodeFault.TheVariants as faults
use Rattle.edge_base.specs.declared.node.NodeType.{NodeType}
use Rattle.edge_base.specs.declared.node.NodeType.TheVariants.{File, Directory}
use Rattle.edge_base.specs.layout.Places.{entries_of, pointers_of, inode_place_of, first_allocable_of, allocable_of}
use Rattle.edge_base.specs.layout.Spelling.{PointerNode}

-- what a number has: a head and its entries, or an inode that cannot be read, with the damage that a reader meets
pub data Inode : Type 0 where
  whole : Head → List ℕ → Inode
  broken : Damage → Inode

-- a used block: its bytes, and the pointer node that they spell under each form, or why they spell none
pub record Block : Type 0 where
  pub bytes : List ℕ
  pub indirect : Result PointerNode NodeFault
  pub double : Result PointerNode NodeFault

-- a number without an inode and a block that is not used have None
pub record View : Type 0 where
  pub inodes : ℕ → Option Inode
  pub blocks : ℕ → Option Block

-- a view with nothing in it
abbrev pub no_view : View
no_view = record { inodes = λ n. None; blocks = λ b. None }

-- ---- numbers and blocks that a geometry has

-- whether a node may have this number
abbrev pub is_number : Request → ℕ → Bool
is_number g n = nat_le 2 n && nat_lt n (2 + g.inodes)

abbrev pub is_allocable : Request → ℕ → Bool
is_allocable g b = nat_le (first_allocable_of g) b && nat_lt b (first_allocable_of g + allocable_of g)

-- whether a pointer is absent or leads to an allocable block
abbrev pub is_link : Request → ℕ → Bool
is_link g b = (b == 0) || is_allocable g b

-- ---- a block read under a form

-- bytes under Plain, else the pointer node, or why the block spells none; unused blocks hold nothing
pub data Content : Type 0 where
  bytes : List ℕ → Content
  pointers : Result PointerNode NodeFault → Content
  unused : Content

abbrev pub content : Form → Option Block → Content
content form None = unused
content Plain (Some block) = bytes block.bytes
content Indirect (Some block) = pointers block.indirect
content Double (Some block) = pointers block.double

abbrev pub content_at : View → Form → ℕ → Content
content_at v form b = content form (v.blocks b)

-- the entries of a pointer node; none where there is no such node
abbrev pub entries_in : Content → List ℕ
entries_in (bytes list) = []
entries_in (pointers (Ok node)) = node.entries
entries_in (pointers (Err fault)) = []
entries_in unused = []

-- the bytes of a block that is read as bytes
abbrev pub bytes_in : Content → List ℕ
bytes_in (bytes list) = list
bytes_in (pointers node) = []
bytes_in unused = []

-- whether it is a pointer node of this owner, or bytes, which have no owner
abbrev pub is_owned_by : ℕ → Content → Bool
is_owned_by owner (bytes list) = true
is_owned_by owner (pointers (Ok node)) = node.owner == owner
is_owned_by owner (pointers (Err fault)) = false
is_owned_by owner unused = false

abbrev pub is_used : View → ℕ → Bool
is_used v b = is_some (v.blocks b)

-- whether the block is used and has the form and the owner
abbrev pub is_spot : View → Form → ℕ → ℕ → Bool
is_spot v form owner b = is_owned_by owner (content_at v form b)

-- a block of the form with nothing in it
abbrev pub empty_content : Request → Form → ℕ → Content
empty_content g Plain owner = bytes (replicate g.block_size 0)
empty_content g Indirect owner = pointers (Ok (record { owner = owner; entries = replicate (pointers_of g) 0 }))
empty_content g Double owner = pointers (Ok (record { owner = owner; entries = replicate (pointers_of g) 0 }))

-- ---- inodes

abbrev pub entries_of_inode : Option Inode → List ℕ
entries_of_inode (Some (whole head entries)) = entries
entries_of_inode (Some (broken damage)) = []
entries_of_inode None = []

abbrev pub head_of_inode : Option Inode → Option Head
head_of_inode (Some (whole head entries)) = Some head
head_of_inode (Some (broken damage)) = None
head_of_inode None = None

abbrev pub is_whole : Option Inode → Bool
is_whole (Some (whole head entries)) = true
is_whole (Some (broken damage)) = false
is_whole None = false

-- an inode with another head; one that cannot be read stays
abbrev pub with_head : Option Inode → Head → Option Inode
with_head (Some (whole old entries)) head = Some (whole head entries)
with_head (Some (broken damage)) head = Some (broken damage)
with_head None head = None

-- an inode with another pointer in an entry; one that cannot be read stays
abbrev pub with_entry : Option Inode → ℕ → ℕ → Option Inode
with_entry (Some (whole head entries)) e to = Some (whole head (slice_set entries e to))
with_entry (Some (broken damage)) e to = Some (broken damage)
with_entry None e to = None

-- an inode whose entries are all absent
abbrev pub empty_inode : Request → Head → Inode
empty_inode g head = whole head (replicate (entries_of g) 0)

-- ---- what holds of every view

-- whether an inode may have the head: it has a link, and a file has parent 0
abbrev pub is_head : Head → Bool
is_head head = nat_le 1 head.links && (is_directory head.kind || (head.parent == 0))
  where
    is_directory : NodeType → Bool
    is_directory File = false
    is_directory Directory = true

abbrev pub is_head_or_none : Option Head → Bool
is_head_or_none (Some head) = is_head head
is_head_or_none None = true

-- the kind of damage that a fault of a node is
abbrev pub kind_of_fault : NodeFault → DamageKind
kind_of_fault faults.WrongSignature = kinds.WrongSignature
kind_of_fault faults.WrongWord = kinds.WrongWord
kind_of_fault (faults.WrongField at) = kinds.WrongField

-- What may be wrong with the inode of number n: one of its places spells none, or both are used.
pub data IsInodeDamage (g : Request) (n : ℕ) : Damage → Type 0 where
  unreadable : (second : Bool) (fault : NodeFault)
      → IsInodeDamage g n (record { block = inode_place_of g n second; kind = kind_of_fault fault })
  two_places : IsInodeDamage g n (record { block = inode_place_of g n false; kind = kinds.TwoPlaces })

-- What each view of a geometry has.
pub record IsView (g : Request) (v : View) : Type 0 where
  -- a number with an inode is one that a node may have
  pub numbers : (n : ℕ) → is_some (v.inodes n) ≡ true → is_number g n ≡ true
  -- a whole inode has all its entries, and a head that an inode may have
  pub full_inodes : (n : ℕ) (head : Head) (entries : List ℕ) → v.inodes n ≡ Some (whole head entries) → length entries ≡ entries_of g
  pub heads : (n : ℕ) (head : Head) (entries : List ℕ) → v.inodes n ≡ Some (whole head entries) → is_head head ≡ true
  -- a broken one is damaged at its own places
  pub broken_inodes : (n : ℕ) (damage : Damage) → v.inodes n ≡ Some (broken damage) → IsInodeDamage g n damage
  -- a used block is allocable and has the block size, and a pointer node has all its pointers
  pub allocable : (b : ℕ) → is_used v b ≡ true → is_allocable g b ≡ true
  pub full_blocks : (b : ℕ) (block : Block) → v.blocks b ≡ Some block → length block.bytes ≡ g.block_size
  pub full_nodes : (form : Form) (b : ℕ) (node : PointerNode) → content_at v form b ≡ pointers (Ok node) → length node.entries ≡ pointers_of g

-- ---- changes

abbrev pub with_inode : View → ℕ → Option Inode → View
with_inode v n inode = record v { inodes = update nat_eq v.inodes n inode }

abbrev pub with_block : View → ℕ → Option Block → View
with_block v b block = record v { blocks = update nat_eq v.blocks b block }

-- ---- room

-- how many allocable blocks pass a test
abbrev pub count_allocable : Request → (ℕ → Bool) → ℕ
count_allocable g test = count_by test (range_with_len (first_allocable_of g) (allocable_of g))

-- the allocable blocks in neither view
abbrev pub is_free : View → View → ℕ → Bool
is_free committed working b = not (is_used committed b) && not (is_used working b)

unfoldable pub free_now : Request → View → View → ℕ
free_now g committed working = count_allocable g (is_free committed working)

-- the allocable blocks that the view does not use
unfoldable pub free_after : Request → View → ℕ
free_after g working = count_allocable g (λ b. not (is_used working b))

-- the numbers that have no inode
unfoldable pub free_inodes : Request → View → ℕ
free_inodes g working = count_by (λ n. is_none (working.inodes n)) (range_with_len 2 g.inodes)

-- in the working view and not in the committed one
abbrev pub is_new : View → View → ℕ → Bool
is_new committed working b = is_used working b && not (is_used committed b)
