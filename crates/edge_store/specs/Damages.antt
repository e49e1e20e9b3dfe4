-- Damage: what is wrong with a block of a view. The kinds are those of `DamageKind`, which has them in words.
use Rattle.std.specs.Prelude.{◌≡◌, ◌≢◌, ◌⊎◌, ◌<◌, ◌≤◌, ℕ, ◌+◌, ◌*◌, ◌%◌, ◌==◌, true, false, nat_lt, if◌then◌else◌, List, slice_index, slice_range, Contains, Option, Some, None, Ok, Err}
use Rattle.edge_base.specs.declared.damage.Damage.{Damage}
use Rattle.edge_base.specs.declared.damage.DamageKind.{DamageKind}
use Rattle.edge_base.specs.declared.damage.DamageKind.TheVariants as kinds
use Rattle.edge_base.specs.declared.form.Form.{Form}
use Rattle.edge_base.specs.declared.form.Form.TheVariants.{Plain, Indirect, Double}
use Rattle.edge_base.specs.declared.geometry.Request.{Request}
use Rattle.edge_base.specs.declared.node.Head.{Head}
use Rattle.edge_base.specs.declared.node.NodeType.TheVariants.{Directory}
use Rattle.edge_base.specs.layout.Places.{entries_of, pointers_of, inode_place_of, max_blocks_of, max_size_of, way_of}
use Rattle.edge_base.specs.layout.Spelling.{PointerNode}
use Rattle.edge_base.specs.tree.NodeRules.{IsEntry}
use Rattle.edge_base.specs.tree.Slots.{Entry, pieces, slots_in_block, slot_bytes}
use Rattle.edge_store.specs.View.{View, Inode, whole, broken, Content, bytes, pointers, unused, content_at, entries_of_inode, is_allocable, is_spot, is_link, is_number, is_whole, kind_of_fault, free_now}
use Rattle.edge_store.specs.Placed.{entry_at, pointer_at, data_block, nodes_on}

-- ---- what is met in reading

-- the damage of block b, which has this content, where it is read as one of the owner's
abbrev pub damage_in : ℕ → ℕ → Content → Option Damage
damage_in b owner (bytes list) = None
damage_in b owner (pointers (Ok node)) = if node.owner == owner then None else Some (record { block = b; kind = kinds.WrongOwner })
damage_in b owner (pointers (Err fault)) = Some (record { block = b; kind = kind_of_fault fault })
damage_in b owner unused = Some (record { block = b; kind = kinds.NotUsed })

-- the damage of a block that is read under a form, as one of the owner's
abbrev pub damage_at : View → Form → ℕ → ℕ → Option Damage
damage_at v form owner b = damage_in b owner (content_at v form b)

-- the damage of an inode
abbrev pub damage_of_inode : Option Inode → Option Damage
damage_of_inode (Some (whole head entries)) = None
damage_of_inode (Some (broken damage)) = Some damage
damage_of_inode None = None

-- ---- links

-- what an entry of an inode leads to
abbrev pub form_of_entry : Request → ℕ → Form
form_of_entry g e = if nat_lt e g.direct then Plain else if nat_lt e (g.direct + g.indirect) then Indirect else Double

-- what a pointer node of a form leads to
abbrev pub form_under : Form → Form
form_under Double = Indirect
form_under Indirect = Plain
form_under Plain = Plain

-- A pointer of node n leads to the block, which is to be read under the form: an entry of its inode, or a place of one of its pointer
-- nodes that is itself linked, used, and of this owner.
pub data IsLinked (g : Request) (v : View) (n : ℕ) : Form → ℕ → Type 0 where
  by_entry : (e : ℕ) → e < entries_of g → IsLinked g v n (form_of_entry g e) (entry_at v n e)
  by_place : (form : Form) (b i : ℕ) → form ≢ Plain → IsLinked g v n form b → is_spot v form n b ≡ true → i < pointers_of g
      → IsLinked g v n (form_under form) (pointer_at v form b i)

-- Block b has these pointers of node n: it is the place of its inode, or one of its pointer nodes.
pub data HasPointers (g : Request) (places : ℕ → ℕ) (v : View) (n : ℕ) : ℕ → List ℕ → Type 0 where
  in_inode : (head : Head) (entries : List ℕ) → v.inodes n ≡ Some (whole head entries) → HasPointers g places v n (places n) entries
  in_node : (form : Form) (b : ℕ) (node : PointerNode) → form ≢ Plain → IsLinked g v n form b
      → content_at v form b ≡ pointers (Ok node) → node.owner ≡ n → HasPointers g places v n b node.entries

-- Block b is the place of the inode of node n, or a pointer node above its data block i.
abbrev pub IsAbove : Request → (ℕ → ℕ) → View → ℕ → ℕ → ℕ → Type 0
IsAbove g places v n i b = (b ≡ places n) ⊎ ((b ≢ 0) × Contains (nodes_on v (entries_of_inode (v.inodes n)) (way_of g i)) b)

-- ---- the kinds

-- A wrong signature, a wrong check word, a wrong field, two places: an inode that cannot be read.
pub record IsBrokenInode (v : View) (damage : Damage) : Type 0 where
  pub number : ℕ
  pub inode : v.inodes number ≡ Some (broken damage)

-- A wrong signature, a wrong check word, a wrong field, a wrong owner, not used: an allocable block that a pointer leads to, and that is
-- not used or spells no pointer node of its form and owner.
pub record IsMisread (g : Request) (v : View) (damage : Damage) : Type 0 where
  pub allocable : is_allocable g damage.block ≡ true
  pub number : ℕ
  pub form : Form
  pub linked : IsLinked g v number form damage.block
  pub met : damage_at v form number damage.block ≡ Some damage

-- A wrong pointer: one outside the allocable blocks.
pub record HasWrongPointer (g : Request) (places : ℕ → ℕ) (v : View) (b : ℕ) : Type 0 where
  pub number : ℕ
  pub list : List ℕ
  pub has : HasPointers g places v number b list
  pub place : ℕ
  pub wrong : is_link g (slice_index list place) ≡ false

-- A directory has these bytes as a data block, which is block b.
pub record IsDirectoryBlock (g : Request) (v : View) (b : ℕ) (list : List ℕ) : Type 0 where
  pub number : ℕ
  pub head : Head
  pub entries : List ℕ
  pub inode : v.inodes number ≡ Some (whole head entries)
  pub kind : head.kind ≡ Directory
  pub index : ℕ
  pub in_range : index < max_blocks_of g
  pub block : data_block g v number index ≡ b
  pub content : content_at v Plain b ≡ bytes list

-- the bytes of slot k of a block
abbrev pub slot_in : Request → List ℕ → ℕ → List ℕ
slot_in g list k = slice_range list (k * (4 + g.name_max)) (k * (4 + g.name_max) + (4 + g.name_max))

-- Something names the number: it is the root's, or a directory's slot names it, or an inode has it as its parent.
pub data IsNamed (g : Request) (v : View) : ℕ → Type 0 where
  as_root : IsNamed g v 2
  by_slot : (b : ℕ) (list : List ℕ) → IsDirectoryBlock g v b list → (k : ℕ) → k < slots_in_block g
      → (e : Entry) → slot_in g list k ≡ slot_bytes g (Some e) → IsNamed g v e.number
  as_parent : (n : ℕ) (head : Head) (entries : List ℕ) → v.inodes n ≡ Some (whole head entries) → IsNamed g v head.parent

-- Not used: the first place of a number that is named and has no inode.
pub record IsNamedWithout (g : Request) (v : View) (b : ℕ) : Type 0 where
  pub number : ℕ
  pub named : IsNamed g v number
  pub in_range : is_number g number ≡ true
  pub absent : v.inodes number ≡ None
  pub place : b ≡ inode_place_of g number false

-- A wrong slot: one of a directory that is neither empty nor filled as it may be.
pub record HasWrongSlot (g : Request) (v : View) (b : ℕ) : Type 0 where
  pub list : List ℕ
  pub directory : IsDirectoryBlock g v b list
  pub slot : ℕ
  pub in_range : slot < slots_in_block g
  pub not_empty : slot_in g list slot ≢ slot_bytes g None
  pub no_entry : (e : Entry) → IsEntry g e → slot_in g list slot ≢ slot_bytes g (Some e)

-- Node n, which has this head, breaks the shape of a file or a directory, and that is seen in block b: the size is too great; a directory's
-- size is no multiple of the block size; a data block is past the end; a directory lacks a block; a pointer node has no pointer.
pub data BreaksShape (g : Request) (places : ℕ → ℕ) (v : View) (n : ℕ) (head : Head) : ℕ → Type 0 where
  too_great : max_size_of g < head.size → BreaksShape g places v n head (places n)
  uneven : head.kind ≡ Directory → head.size % g.block_size ≢ 0 → BreaksShape g places v n head (places n)
  past_end : (i b : ℕ) → i < max_blocks_of g → pieces g.block_size head.size ≤ i → data_block g v n i ≢ 0
      → IsAbove g places v n i b → BreaksShape g places v n head b
  absent : (i b : ℕ) → head.kind ≡ Directory → i < max_blocks_of g → i < pieces g.block_size head.size → data_block g v n i ≡ 0
      → IsAbove g places v n i b → BreaksShape g places v n head b
  no_pointer : (form : Form) (b : ℕ) (node : PointerNode) → form ≢ Plain → IsLinked g v n form b
      → content_at v form b ≡ pointers (Ok node) → ((i : ℕ) → slice_index node.entries i ≡ 0) → BreaksShape g places v n head b

-- A wrong shape: a block of a node in which it is seen.
pub record HasWrongShape (g : Request) (places : ℕ → ℕ) (v : View) (b : ℕ) : Type 0 where
  pub number : ℕ
  pub head : Head
  pub entries : List ℕ
  pub inode : v.inodes number ≡ Some (whole head entries)
  pub breaks : BreaksShape g places v number head b

-- Tangled: the place of an inode, while fewer than three blocks are free.
pub record IsTangled (g : Request) (places : ℕ → ℕ) (committed v : View) (b : ℕ) : Type 0 where
  pub number : ℕ
  pub inode : is_whole (v.inodes number) ≡ true
  pub place : b ≡ places number
  pub few : free_now g committed v < 3

-- by the kind, what is wrong with the block of the damage
abbrev pub Holds : Request → (ℕ → ℕ) → View → View → Damage → DamageKind → Type 0
Holds g places committed v damage kinds.WrongSignature = IsBrokenInode v damage ⊎ IsMisread g v damage
Holds g places committed v damage kinds.WrongWord = IsBrokenInode v damage ⊎ IsMisread g v damage
Holds g places committed v damage kinds.WrongField = IsBrokenInode v damage ⊎ IsMisread g v damage
Holds g places committed v damage kinds.WrongOwner = IsMisread g v damage
Holds g places committed v damage kinds.WrongPointer = HasWrongPointer g places v damage.block
Holds g places committed v damage kinds.NotUsed = IsMisread g v damage ⊎ IsNamedWithout g v damage.block
Holds g places committed v damage kinds.TwoPlaces = IsBrokenInode v damage
Holds g places committed v damage kinds.WrongSlot = HasWrongSlot g v damage.block
Holds g places committed v damage kinds.WrongShape = HasWrongShape g places v damage.block
Holds g places committed v damage kinds.Tangled = IsTangled g places committed v damage.block

-- The damage is there, in a working view with the places of its inodes, over a committed one.
abbrev pub IsDamage : Request → (ℕ → ℕ) → View → View → Damage → Type 0
IsDamage g places committed v damage = Holds g places committed v damage damage.kind
