-- What the slots of one block of a directory say.
use Rattle.std.specs.Prelude.{◌≢◌, ◌⊎◌, ◌<◌, ℕ, List, Option, Some, None}
use Rattle.edge_base.specs.declared.geometry.Request.{Request}
use Rattle.edge_base.specs.tree.Slots.{slots_in_block}
use Rattle.edge_store.specs.Damages.{slot_in}
use Rattle.edge_slots.specs.Slot.{HasEntry, IsEmpty, IsWrong}
use Rattle.edge_slots.specs.declared.block.Search.{Search}
use Rattle.edge_slots.specs.declared.block.Search.TheVariants.{Found, Missing}

-- the slot has an entry
abbrev pub IsFilled : Request → List ℕ → Type 0
IsFilled g bytes = (name : List ℕ) × (number : ℕ) × HasEntry g bytes name number

-- the slot is empty, or has an entry with another name
abbrev pub IsOther : Request → List ℕ → List ℕ → Type 0
IsOther g name bytes = IsEmpty g bytes ⊎ ((other : List ℕ) × (number : ℕ) × HasEntry g bytes other number × (other ≢ name))

-- none of the first so many slots is wrong or has the name
abbrev pub Lacks : Request → List ℕ → ℕ → List ℕ → Type 0
Lacks g block count name = (j : ℕ) → j < count → IsOther g name (slot_in g block j)

-- each of the first so many slots is filled
abbrev pub IsFilledBefore : Request → List ℕ → ℕ → Type 0
IsFilledBefore g block count = (j : ℕ) → j < count → IsFilled g (slot_in g block j)

-- Slot k is the first one of a block that is empty.
pub record IsFirstEmpty (g : Request) (block : List ℕ) (k : ℕ) : Type 0 where
  pub in_range : k < slots_in_block g
  pub empty : IsEmpty g (slot_in g block k)
  pub before : IsFilledBefore g block k

-- the first empty slot, or that there is none
abbrev pub IsFree : Request → List ℕ → Option ℕ → Type 0
IsFree g block (Some k) = IsFirstEmpty g block k
IsFree g block None = IsFilledBefore g block (slots_in_block g)

-- Slot k is the first one of a block that has the name, with this number.
pub record IsFirstNamed (g : Request) (block name : List ℕ) (k number : ℕ) : Type 0 where
  pub in_range : k < slots_in_block g
  pub entry : HasEntry g (slot_in g block k) name number
  pub before : Lacks g block k name

-- No slot of a block has the name, and this is the first empty one.
pub record IsMissing (g : Request) (block name : List ℕ) (free : Option ℕ) : Type 0 where
  pub lacks : Lacks g block (slots_in_block g) name
  pub first_empty : IsFree g block free

abbrev pub Seeks : Request → List ℕ → List ℕ → Search → Type 0
Seeks g block name (Found slot number) = IsFirstNamed g block name slot number
Seeks g block name (Missing free) = IsMissing g block name free

-- Slot k is the last one below a bound that is filled.
pub record IsLastBelow (g : Request) (block : List ℕ) (below k : ℕ) : Type 0 where
  pub in_range : k < below
  pub filled : IsFilled g (slot_in g block k)
  pub behind : (j : ℕ) → k < j → j < below → IsEmpty g (slot_in g block j)

-- the last filled slot below a bound, or that there is none
abbrev pub IsLastFilled : Request → List ℕ → ℕ → Option ℕ → Type 0
IsLastFilled g block below (Some k) = IsLastBelow g block below k
IsLastFilled g block below None = (j : ℕ) → j < below → IsEmpty g (slot_in g block j)

-- Some slot of a block is neither empty nor filled as it may be.
pub record HasWrong (g : Request) (block : List ℕ) : Type 0 where
  pub slot : ℕ
  pub in_range : slot < slots_in_block g
  pub wrong : IsWrong g (slot_in g block slot)
