-- What the steps of calls that change blocks do to the working view.
use Rattle.std.specs.Prelude.{◌≡◌, ◌≢◌, ℕ, Bool, true, false, List, Some, Ok, Err, IsTrue, if◌then◌else◌, is_some}
use Rattle.edge_base.specs.declared.form.Form.{Form}
use Rattle.edge_base.specs.declared.form.Form.TheVariants.{Plain, Indirect, Double}
use Rattle.edge_base.specs.declared.geometry.Request.{Request}
use Rattle.edge_base.specs.declared.node.NodeFault.TheVariants.{WrongSignature}
use Rattle.edge_base.specs.layout.Spelling.{PointerNode, pointer_in}
use Rattle.edge_cache.specs.Blocks.{word_holds_in}
use Rattle.edge_disk.specs.declared.disk.Disk.{Ghosts}
use Rattle.edge_image.specs.View.{block_told}
use Rattle.edge_store.specs.Effects.{IsFresh, SpellsNoOther}
use Rattle.edge_store.specs.State.{StoreState, Told}
use Rattle.edge_store.specs.declared.spot.Spot.{Spot}
use Rattle.edge_store.specs.View.{Block, Content, View, content, content_at, empty_content, is_spot, pointers, with_block}
use Rattle.edge_point.specs.Changing.{committed_of, working_of}
use Rattle.edge_point.specs.declared.parts.Parts.{Parts}

-- neither list uses the block
pub record IsUnused {D : Type 0} (g : Ghosts D) (p : Parts D) (b : ℕ) : Type 0 where
  pub committed : committed_of g p b ≡ false
  pub working : working_of g p b ≡ false

-- neither view uses the block, where they are told
abbrev pub IsFreeIn : StoreState → ℕ → Type 0
IsFreeIn s b = Told s → IsFresh s.origin.request s.committed s.working b

-- The view uses the block or does not, and is else as it was.
pub record UseSet (v w : View) (b : ℕ) (used : Bool) : Type 0 where
  pub working : w ≡ with_block v b (w.blocks b)
  pub here : is_some (w.blocks b) ≡ used

abbrev pub SetsUse : StoreState → StoreState → ℕ → Bool → Type 0
SetsUse old new b used = Told old → UseSet old.working new.working b used

-- A used block has the bytes that are made of its old ones, and the view is else as it was.
pub record BlockPut (g : Request) (v w : View) (b : ℕ) (make : List ℕ → List ℕ) : Type 0 where
  pub working : w ≡ with_block v b (w.blocks b)
  pub was : (block : Block) → v.blocks b ≡ Some block → block ≡ block_told g block.bytes
  pub bytes : (block : Block) → v.blocks b ≡ Some block → w.blocks b ≡ Some (block_told g (make block.bytes))

abbrev pub PutsBlock : StoreState → StoreState → ℕ → (List ℕ → List ℕ) → Type 0
PutsBlock old new b make = Told old → BlockPut old.origin.request old.working new.working b make

-- a used block has its check word
abbrev pub HasWord : StoreState → ℕ → Type 0
HasWord s b = Told s → (block : Block) → s.working.blocks b ≡ Some block → IsTrue (word_holds_in block.bytes)

-- what the bytes of a block are under a form
abbrev pub content_of : Request → Form → List ℕ → Content
content_of g form bytes = content form (Some (block_told g bytes))

-- The bytes are a block of the form with nothing in it.
pub record IsEmptyAs (g : Request) (form : Form) (owner : ℕ) (bytes : List ℕ) : Type 0 where
  pub content : content_of g form bytes ≡ empty_content g form owner
  pub spells_no_other : (other : Form) → other ≢ Plain → other ≢ form → content_of g other bytes ≡ pointers (Err WrongSignature)

-- A block has nothing in it, and the view is else as it was.
pub record BlockEmptied (g : Request) (v w : View) (form : Form) (owner b : ℕ) : Type 0 where
  pub working : w ≡ with_block v b (w.blocks b)
  pub content : content_at w form b ≡ empty_content g form owner
  pub spells_no_other : SpellsNoOther w form b

abbrev pub EmptiesBlock : StoreState → StoreState → Form → ℕ → ℕ → Type 0
EmptiesBlock old new form owner b = Told old → BlockEmptied old.origin.request old.working new.working form owner b

-- the form of a pointer node
abbrev pub form_of : Bool → Form
form_of double = if double then Double else Indirect

-- Bytes are a copy of others: the same, or the same pointer node of each kind.
pub record IsCopy (g : Request) (node : Bool) (from to : List ℕ) : Type 0 where
  pub plain : node ≡ false → to ≡ from
  pub spelled : node ≡ true → (double : Bool) (spells : PointerNode) → pointer_in g double from ≡ Ok spells → (kind : Bool)
      → pointer_in g kind to ≡ pointer_in g kind from

-- A block has a copy of these bytes, and the view is else as it was.
pub record CopyPut (g : Request) (v w : View) (b : ℕ) (node : Bool) (from : List ℕ) : Type 0 where
  pub working : w ≡ with_block v b (w.blocks b)
  pub to : List ℕ
  pub copy : IsCopy g node from to
  pub bytes : is_some (v.blocks b) ≡ true → w.blocks b ≡ Some (block_told g to)

abbrev pub PutsCopy : StoreState → StoreState → ℕ → Bool → List ℕ → Type 0
PutsCopy old new b node from = Told old → CopyPut old.origin.request old.working new.working b node from

-- a used block has these bytes
abbrev pub HoldsBytes : StoreState → ℕ → List ℕ → Type 0
HoldsBytes s b bytes = Told s → is_some (s.working.blocks b) ≡ true → s.working.blocks b ≡ Some (block_told s.origin.request bytes)

-- the block is used and has its form and owner
abbrev pub HoldsSpot : StoreState → Spot → Type 0
HoldsSpot s spot = Told s → is_spot s.working spot.form spot.owner spot.block ≡ true

-- whether a block of the form is a pointer node
abbrev pub is_node : Form → Bool
is_node Plain = false
is_node Indirect = true
is_node Double = true
