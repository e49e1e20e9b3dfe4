-- What the slots of a node of a view have, whether or not it is a directory that keeps its rules. s is a store as a call begins.
use Rattle.std.specs.Prelude.{◌≡◌, ◌≢◌, ◌<◌, ◌≤◌, ◌+◌, ◌-◌, ◌*◌, ◌/◌, ◌%◌, ◌==◌, ℕ, Bool, List, length, take, IfSome, Option, Some, None}
use Rattle.edge_base.specs.declared.form.Form.TheVariants.{Plain}
use Rattle.edge_base.specs.declared.geometry.Request.{Request}
use Rattle.edge_base.specs.tree.NodeRules.{IsEntry}
use Rattle.edge_base.specs.tree.Slots.{Entry, pieces, slot_bytes, slots_in_block}
use Rattle.edge_store.specs.Damages.{slot_in}
use Rattle.edge_store.specs.Placed.{data_block}
use Rattle.edge_store.specs.State.{StoreState, Told}
use Rattle.edge_store.specs.View.{View, bytes, content_at}
use Rattle.edge_slots.specs.Slot.{entry_of}
use Rattle.edge_file.specs.Bytes.{size_at}
use Rattle.edge_dir.specs.declared.look.Found.{Found}
use Rattle.edge_dir.specs.declared.look.Place.{Place}
use Rattle.edge_dir.specs.declared.look.Place.TheVariants.{Taken, Free}

-- ---- one slot

-- Slot k of node d, which lies in a data block that is there, is empty or has an entry that a slot may have.
pub record HasSlot (g : Request) (v : View) (d k : ℕ) (slot : Option Entry) : Type 0 where
  pub list : List ℕ
  pub content : content_at v Plain (data_block g v d (k / slots_in_block g)) ≡ bytes list
  pub spelled : slot_in g list (k % slots_in_block g) ≡ slot_bytes g slot
  pub allowed : IfSome slot (IsEntry g)

-- slot k is filled
abbrev pub IsFilledAt : Request → View → ℕ → ℕ → Type 0
IsFilledAt g v d k = (e : Entry) × HasSlot g v d k (Some e)

-- slot k is empty, or has an entry with another name
abbrev pub IsOtherAt : Request → View → ℕ → List ℕ → ℕ → Type 0
IsOtherAt g v d name k = (slot : Option Entry) × HasSlot g v d k slot × ((number : ℕ) → slot ≢ Some (entry_of name number))

-- ---- all slots

-- how many data blocks node d has up to its end, and how many slots they have
abbrev pub blocks_below_end : Request → View → ℕ → ℕ
blocks_below_end g v d = pieces g.block_size (size_at v d)

abbrev pub slots_below_end : Request → View → ℕ → ℕ
slots_below_end g v d = blocks_below_end g v d * slots_in_block g

-- none of the first so many slots has the name
abbrev pub LacksBefore : Request → View → ℕ → List ℕ → ℕ → Type 0
LacksBefore g v d name count = (j : ℕ) → j < count → IsOtherAt g v d name j

-- each of the first so many slots is filled
abbrev pub AreFilledBefore : Request → View → ℕ → ℕ → Type 0
AreFilledBefore g v d count = (j : ℕ) → j < count → IsFilledAt g v d j

-- Slot k is the first one that has the name, with this number.
pub record IsFirstNamedAt (g : Request) (v : View) (d : ℕ) (name : List ℕ) (k number : ℕ) : Type 0 where
  pub in_range : k < slots_below_end g v d
  pub here : HasSlot g v d k (Some (entry_of name number))
  pub before : LacksBefore g v d name k

-- Slot k is the first one that is empty, or the one behind the last data block where none is.
pub record IsFirstFreeAt (g : Request) (v : View) (d k : ℕ) : Type 0 where
  pub most : k ≤ slots_below_end g v d
  pub here : k < slots_below_end g v d → HasSlot g v d k None
  pub before : AreFilledBefore g v d k

-- So many slots are there up to the last one that is filled, if the last data block has one, and else up to that block.
pub record AreSlotsUpTo (g : Request) (v : View) (d count : ℕ) : Type 0 where
  pub least : (blocks_below_end g v d - 1) * slots_in_block g ≤ count
  pub most : count ≤ slots_below_end g v d
  pub last : (k : ℕ) → count ≡ k + 1 → (blocks_below_end g v d - 1) * slots_in_block g ≤ k → IsFilledAt g v d k
  pub behind : (j : ℕ) → count ≤ j → j < slots_below_end g v d → HasSlot g v d j None

-- ---- what calls answer

abbrev pub CountsSlots : StoreState → ℕ → ℕ → Type 0
CountsSlots s d count = Told s → AreSlotsUpTo s.origin.request s.working d count

-- whether no data block is below the end
abbrev pub SeesNoBlock : StoreState → ℕ → Bool → Type 0
SeesNoBlock s d none = Told s → none ≡ (blocks_below_end s.origin.request s.working d == 0)

abbrev pub SeesFree : StoreState → ℕ → ℕ → Type 0
SeesFree s d slot = Told s → IsFirstFreeAt s.origin.request s.working d slot

abbrev pub SeesName : StoreState → ℕ → List ℕ → Option Found → Type 0
SeesName s d name (Some found) = Told s → IsFirstNamedAt s.origin.request s.working d name found.slot found.number
SeesName s d name None = Told s → LacksBefore s.origin.request s.working d name (slots_below_end s.origin.request s.working d)

abbrev pub SeesPlace : StoreState → ℕ → List ℕ → Place → Type 0
SeesPlace s d name (Taken found) = Told s → IsFirstNamedAt s.origin.request s.working d name found.slot found.number
SeesPlace s d name (Free slot) = Told s → LacksBefore s.origin.request s.working d name (slots_below_end s.origin.request s.working d)
    × IsFirstFreeAt s.origin.request s.working d slot

-- the number and the length of the name in slot k, whose bytes were put first into a list
abbrev pub SeesEntry : StoreState → ℕ → ℕ → List ℕ → Option (ℕ × ℕ) → Type 0
SeesEntry s d k list (Some entry) = Told s → (k < slots_below_end s.origin.request s.working d)
    × HasSlot s.origin.request s.working d k (Some (entry_of (take entry.1 list) entry.0)) × (length (take entry.1 list) ≡ entry.1)
SeesEntry s d k list None = Told s → k < slots_below_end s.origin.request s.working d → HasSlot s.origin.request s.working d k None
