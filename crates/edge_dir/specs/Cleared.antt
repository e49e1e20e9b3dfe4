-- What clearing a slot of a directory does, where the views are told.
use Rattle.std.specs.Prelude.{◌≡◌, ◌≢◌, ◌⊎◌, ◌<◌, ◌≤◌, ◌+◌, ◌-◌, ◌*◌, ◌/◌, ℕ, Bool, true, false, nat_lt, if◌then◌else◌, List, [], ◌∷◌, length, replicate, Some, None, Result}
use Rattle.std.specs.List.{range_with_len}
use Rattle.edge_base.specs.declared.form.Form.TheVariants.{Plain}
use Rattle.edge_base.specs.declared.geometry.Request.{Request}
use Rattle.edge_base.specs.declared.node.Head.{Head}
use Rattle.edge_base.specs.declared.node.NodeType.TheVariants.{Directory}
use Rattle.edge_base.specs.tree.NodeRules.{IsDirectory}
use Rattle.edge_base.specs.tree.Nodes.{directory}
use Rattle.edge_base.specs.tree.Slots.{Slots, pieces, slot_blocks, slots_in_block, trimmed}
use Rattle.edge_store.specs.declared.fault.StoreFault.{StoreFault}
use Rattle.edge_store.specs.Calls.{NeverDamaged}
use Rattle.edge_store.specs.Damages.{slot_in}
use Rattle.edge_store.specs.Placed.{data_block, HasNode}
use Rattle.edge_store.specs.State.{StoreState, Told}
use Rattle.edge_store.specs.View.{View, bytes, content_at, free_now, head_of_inode}
use Rattle.edge_shape.specs.Where.{cut_need}
use Rattle.edge_tree.specs.Own.{IsNodeShaped, UntangledIf}
use Rattle.edge_cut.specs.Cuts.{RoomForCutAt}
use Rattle.edge_slots.specs.Slot.{IsEmpty}
use Rattle.edge_slots.specs.Block.{IsFilled}
use Rattle.edge_file.specs.Bytes.{blocks_under}
use Rattle.edge_file.specs.Rewritten.{fresh_on}
use Rattle.edge_file.specs.Writing.{LengthensTo, RoomForBytes, SetsSize, ShortensTo, WritesBytes}
use Rattle.edge_dir.specs.Directory.{OnSlots}
use Rattle.edge_dir.specs.Looked.{HasSlot, IsFilledAt, blocks_below_end, slots_below_end}
use Rattle.edge_dir.specs.Written.{GrowsToBlock, IsSetTo, SlotsChanged, place_of_slot}

-- ---- which blocks are left

-- whether a slot of a block besides slot k is filled
abbrev pub HasFilledBut : Request → List ℕ → ℕ → Bool → Type 0
HasFilledBut g list k true = (j : ℕ) × (j < slots_in_block g) × (j ≢ k) × IsFilled g (slot_in g list j)
HasFilledBut g list k false = (j : ℕ) → j < slots_in_block g → j ≢ k → IsEmpty g (slot_in g list j)

-- the same of data block i of node d
abbrev pub SeesFilledBut : StoreState → ℕ → ℕ → ℕ → Bool → Type 0
SeesFilledBut s d i k other = Told s → (list : List ℕ) × (content_at s.working Plain (data_block s.origin.request s.working d i) ≡ bytes list)
    × HasFilledBut s.origin.request list k other

-- Of the first so many data blocks of node d those are left up to the last one that has a filled slot.
pub record AreBlocksLeft (g : Request) (v : View) (d count left : ℕ) : Type 0 where
  pub most : left ≤ count
  pub last : (i : ℕ) → left ≡ i + 1 → (j : ℕ) × (j < slots_in_block g) × IsFilledAt g v d (i * slots_in_block g + j)
  pub behind : (j : ℕ) → left * slots_in_block g ≤ j → j < count * slots_in_block g → HasSlot g v d j None

abbrev pub SeesBlocksLeft : StoreState → ℕ → ℕ → ℕ → Type 0
SeesBlocksLeft s d count left = Told s → AreBlocksLeft s.origin.request s.working d count left

-- So many blocks a directory that keeps its rules has when a slot is cleared, and empty slots at the end are cut off.
abbrev pub LeavesBlocks : StoreState → ℕ → ℕ → ℕ → Type 0
LeavesBlocks s d k left = OnSlots s d (λ slots. (after : Slots) → trimmed after ≡ after → k < length slots → IsSetTo slots after k None
    → left ≡ slot_blocks s.origin.request after)

-- Slot k, which is filled, is empty, and empty slots at the end are cut off, with the blocks that have no slot then; the other slots stay,
-- if the directory keeps its rules before and after. Either the slot's block is written, or blocks are removed.
abbrev pub ClearsSlot : StoreState → StoreState → ℕ → ℕ → Type 0
ClearsSlot old new d k = Told old → (slots after : Slots) (parent : ℕ)
    → HasNode old.origin.request old.working d (directory slots parent) → IsDirectory old.origin.request after → k < length slots → IsSetTo slots after k None
    → SlotsChanged old.origin.request old.committed old.working new.working d slots after parent
    (if nat_lt (k / slots_in_block old.origin.request) (slot_blocks old.origin.request after) then k / slots_in_block old.origin.request ∷ [] else [])
    (range_with_len (slot_blocks old.origin.request after) (slot_blocks old.origin.request slots - slot_blocks old.origin.request after))

-- the same where the slot's block is left
abbrev pub EmptiesSlot : StoreState → StoreState → ℕ → ℕ → Type 0
EmptiesSlot old new d k = Told old → (slots after : Slots) (parent : ℕ)
    → HasNode old.origin.request old.working d (directory slots parent) → IsDirectory old.origin.request after → k < length slots → IsSetTo slots after k None
    → k / slots_in_block old.origin.request < slot_blocks old.origin.request after
    → SlotsChanged old.origin.request old.committed old.working new.working d slots after parent (k / slots_in_block old.origin.request ∷ []) []

-- and where so many blocks are left, and that of the slot is not
abbrev pub CutsSlots : StoreState → StoreState → ℕ → ℕ → Type 0
CutsSlots old new d left = Told old → (slots after : Slots) (parent k : ℕ)
    → HasNode old.origin.request old.working d (directory slots parent) → IsDirectory old.origin.request after → k < length slots → IsSetTo slots after k None
    → left ≡ slot_blocks old.origin.request after → left ≤ k / slots_in_block old.origin.request
    → SlotsChanged old.origin.request old.committed old.working new.working d slots after parent []
    (range_with_len (slot_blocks old.origin.request after) (slot_blocks old.origin.request slots - slot_blocks old.origin.request after))

-- ---- room

-- how many free blocks it takes to clear slot k of a directory that has these slots then
abbrev pub clearing_need : StoreState → ℕ → ℕ → Slots → ℕ
clearing_need s d k after = let g = s.origin.request in
    if nat_lt (k / slots_in_block g) (slot_blocks g after) then fresh_on g s.committed s.working d (blocks_under g (place_of_slot g k) (4 + g.name_max))
    else cut_need g s.committed s.working d (slot_blocks g after)

-- nothing is told of a directory that keeps its rules before and after, where so many are free
abbrev pub NeverWithRoomToClear : {T : Type 0} → StoreState → ℕ → ℕ → Result T StoreFault → Type 0
NeverWithRoomToClear s d k result = OnSlots s d (λ slots. (after : Slots) → IsDirectory s.origin.request after → k < length slots → IsSetTo slots after k None
    → clearing_need s d k after ≤ free_now s.origin.request s.committed s.working → NeverDamaged result)

-- no tangled node is told of one that has the shape of a node, where as many are free as zeros in slot k need, and each cut before its block
abbrev pub UntangledWithRoomToClear : {T : Type 0} → StoreState → ℕ → ℕ → Result T StoreFault → Type 0
UntangledWithRoomToClear s d k result = UntangledIf s
    (IsNodeShaped s d × RoomForBytes s d (place_of_slot s.origin.request k) (4 + s.origin.request.name_max)
    × ((left : ℕ) → left ≤ k / slots_in_block s.origin.request → RoomForCutAt s d left)) result

-- ---- on every view

-- The data blocks of node d behind the first so many, up to its end, have no filled slot but slot k.
pub record DropsNoOther (g : Request) (v : View) (d k left : ℕ) : Type 0 where
  pub most : left ≤ blocks_below_end g v d
  pub empty : (j : ℕ) → left * slots_in_block g ≤ j → j < slots_below_end g v d → j ≢ k → HasSlot g v d j None

abbrev pub LosesNoOther : StoreState → ℕ → ℕ → ℕ → Type 0
LosesNoOther s d k left = Told s → DropsNoOther s.origin.request s.working d k left

-- Node d ends behind its first data blocks, so many.
pub record EndsBehind (old new : StoreState) (d left : ℕ) : Type 0 where
  pub size : SetsSize old new d (left * old.origin.request.block_size)
  pub shortens : ShortensTo old new d (left * old.origin.request.block_size)
  pub lengthens : LengthensTo old new d (left * old.origin.request.block_size)

-- Node d ends behind so many of its data blocks, none of them that of slot k.
pub record EndsBefore (old new : StoreState) (d k left : ℕ) : Type 0 where
  pub before : left ≤ k / slots_in_block old.origin.request
  pub loses : LosesNoOther old d k left
  pub ends : EndsBehind old new d left

-- Zeros are written into slot k of node d, or it ends before that slot's block, whatever its slots are.
abbrev pub EmptiesOrEnds : StoreState → StoreState → ℕ → ℕ → Type 0
EmptiesOrEnds old new d k =
    (WritesBytes old new d (place_of_slot old.origin.request k) (replicate (4 + old.origin.request.name_max) 0) × GrowsToBlock old new d k)
    ⊎ ((left : ℕ) × EndsBefore old new d k left)

-- node d is a directory, and has so many data blocks below its end, or more
abbrev pub AreBelowEnd : StoreState → ℕ → ℕ → Type 0
AreBelowEnd s d count = Told s → (head : Head) × (head_of_inode (s.working.inodes d) ≡ Some head) × (head.kind ≡ Directory)
    × (count ≤ pieces s.origin.request.block_size head.size)
