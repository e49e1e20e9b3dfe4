-- What calls over a directory ask and answer where the views are told. s is a store as a call begins.
use Rattle.std.specs.Prelude.{◌≡◌, ◌<◌, ◌+◌, ℕ, List, length, take, slice_range, slice_index_or, Option, Some, None, Result}
use Rattle.edge_base.specs.commands.Descriptors.{first_empty}
use Rattle.edge_base.specs.declared.form.Form.TheVariants.{Plain}
use Rattle.edge_base.specs.declared.geometry.Request.{Request}
use Rattle.edge_base.specs.declared.node.Head.{Head}
use Rattle.edge_base.specs.declared.node.NodeType.TheVariants.{Directory}
use Rattle.edge_base.specs.layout.Places.{max_blocks_of}
use Rattle.edge_base.specs.tree.Nodes.{directory}
use Rattle.edge_base.specs.tree.Slots.{Entry, Slots, pieces}
use Rattle.edge_store.specs.declared.fault.StoreFault.{StoreFault}
use Rattle.edge_store.specs.Calls.{NeverDamaged}
use Rattle.edge_store.specs.Placed.{data_block, HasNode}
use Rattle.edge_store.specs.State.{StoreState, Told}
use Rattle.edge_store.specs.View.{View, bytes, content_at, head_of_inode}
use Rattle.edge_store.specs.Damages.{slot_in}
use Rattle.edge_slots.specs.Slot.{HasEntry, IsEmpty, entry_of}
use Rattle.edge_slots.specs.Block.{Seeks, IsLastFilled}
use Rattle.edge_slots.specs.declared.block.Search.{Search}
use Rattle.edge_slots.specs.declared.block.Search.TheVariants.{Found, Missing}
use Rattle.edge_dir.specs.declared.look.Found as look
use Rattle.edge_dir.specs.declared.look.Place.{Place}
use Rattle.edge_dir.specs.declared.look.Place.TheVariants.{Taken, Free}

-- ---- a directory

-- node d of the working view is a directory
abbrev pub IsDirectoryNode : StoreState → ℕ → Type 0
IsDirectoryNode s d = Told s → (head : Head) × (head_of_inode (s.working.inodes d) ≡ Some head) × (head.kind ≡ Directory)

-- where node d is a directory that keeps its rules, this holds of its slots
abbrev pub OnSlots : StoreState → ℕ → (Slots → Type 0) → Type 0
OnSlots s d Holds = Told s → (slots : Slots) (parent : ℕ) → HasNode s.origin.request s.working d (directory slots parent) → Holds slots

-- nothing is told of a directory that keeps its rules
abbrev pub NeverOnDirectory : {T : Type 0} → StoreState → ℕ → Result T StoreFault → Type 0
NeverOnDirectory s d result = OnSlots s d (λ slots. NeverDamaged result)

-- ---- answers

-- slot k, None where it is empty or past the last
abbrev pub slot_of : Slots → ℕ → Option Entry
slot_of slots k = slice_index_or slots k None

-- no slot has the name
abbrev pub HasNoName : Slots → List ℕ → Type 0
HasNoName slots name = (k number : ℕ) → slot_of slots k ≡ Some (entry_of name number) → ⊥

-- the slot that has the name, with its number; None where none has it
abbrev pub IsFoundIn : Slots → List ℕ → Option look.Found → Type 0
IsFoundIn slots name (Some found) = slot_of slots found.slot ≡ Some (entry_of name found.number)
IsFoundIn slots name None = HasNoName slots name

-- the slot that has the name, or else the first empty one, which may be a new one at the end
abbrev pub IsPlaceIn : Slots → List ℕ → Place → Type 0
IsPlaceIn slots name (Taken found) = slot_of slots found.slot ≡ Some (entry_of name found.number)
IsPlaceIn slots name (Free slot) = HasNoName slots name × (slot ≡ first_empty slots)

-- the first of two empty slots, the second of which is counted from a slot on
abbrev pub earlier : Option ℕ → ℕ → Option ℕ → Option ℕ
earlier (Some slot) first here = Some slot
earlier None first (Some slot) = Some (first + slot)
earlier None first None = None

-- the empty slot that a search found
abbrev pub free_in : Search → Option ℕ
free_in (Found slot number) = None
free_in (Missing free) = free

-- the number and the length of the name in slot k, whose bytes were put first into a list; None where the slot has no name
abbrev pub IsEntryIn : Slots → ℕ → List ℕ → Option (ℕ × ℕ) → Type 0
IsEntryIn slots k list (Some entry) = (slot_of slots k ≡ Some (entry_of (take entry.1 list) entry.0)) × (length (take entry.1 list) ≡ entry.1)
IsEntryIn slots k list None = slot_of slots k ≡ None

-- ---- blocks

-- node d is a directory and has data block i below its end, absent or not
abbrev pub IsBelowEnd : StoreState → ℕ → ℕ → Type 0
IsBelowEnd s d i = Told s → (head : Head) × (head_of_inode (s.working.inodes d) ≡ Some head) × (head.kind ≡ Directory)
    × (i < pieces s.origin.request.block_size head.size)

-- so many data blocks of node d lie below its end, which is a directory
abbrev pub AreBlocksOf : StoreState → ℕ → ℕ → Type 0
AreBlocksOf s d count = Told s → (head : Head) × (head_of_inode (s.working.inodes d) ≡ Some head) × (head.kind ≡ Directory)
    × (count ≡ pieces s.origin.request.block_size head.size)

-- Node d, a directory, lacks a data block below its end.
pub record LacksBlock (g : Request) (v : View) (d : ℕ) : Type 0 where
  pub head : Head
  pub is_head : head_of_inode (v.inodes d) ≡ Some head
  pub kind : head.kind ≡ Directory
  pub index : ℕ
  pub in_range : index < max_blocks_of g
  pub below : index < pieces g.block_size head.size
  pub absent : data_block g v d index ≡ 0

-- Block b is data block i of node d, and holds these bytes.
pub record IsBlockOf (g : Request) (v : View) (d i : ℕ) (list : List ℕ) (b : ℕ) : Type 0 where
  pub block : data_block g v d i ≡ b
  pub content : content_at v Plain b ≡ bytes list

-- bytes of data block i of node d from a place on, and which block it is
abbrev pub ReadsPart : StoreState → ℕ → ℕ → ℕ → List ℕ → ℕ → Type 0
ReadsPart s d i at part b = Told s → (list : List ℕ) × IsBlockOf s.origin.request s.working d i list b × (length list ≡ s.origin.request.block_size)
    × (part ≡ slice_range list at (at + length part))

-- the slots of data block i of node d were looked through for a name
abbrev pub SeeksIn : StoreState → ℕ → ℕ → List ℕ → Search → Type 0
SeeksIn s d i name found = Told s → (list : List ℕ) × (content_at s.working Plain (data_block s.origin.request s.working d i) ≡ bytes list)
    × Seeks s.origin.request list name found

-- the last filled slot below a bound of data block i of node d
abbrev pub IsLastIn : StoreState → ℕ → ℕ → ℕ → Option ℕ → Type 0
IsLastIn s d i below last = Told s → (list : List ℕ) × (content_at s.working Plain (data_block s.origin.request s.working d i) ≡ bytes list)
    × IsLastFilled s.origin.request list below last

-- the number and the length of the name in a slot, whose bytes were put first into a list; None where it is empty
abbrev pub SaysEntry : Request → List ℕ → List ℕ → Option (ℕ × ℕ) → Type 0
SaysEntry g slot list (Some entry) = HasEntry g slot (take entry.1 list) entry.0 × (length (take entry.1 list) ≡ entry.1)
SaysEntry g slot list None = IsEmpty g slot

-- the same of slot k of data block i of node d
abbrev pub IsEntryOfBlock : StoreState → ℕ → ℕ → ℕ → List ℕ → Option (ℕ × ℕ) → Type 0
IsEntryOfBlock s d i k name entry = Told s → (list : List ℕ) × (content_at s.working Plain (data_block s.origin.request s.working d i) ≡ bytes list)
    × SaysEntry s.origin.request (slot_in s.origin.request list k) name entry
