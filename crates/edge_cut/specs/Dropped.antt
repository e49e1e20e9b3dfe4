-- Blocks taken out of a view, and links that last while that is done.
use Rattle.std.specs.Prelude.{◌≡◌, ◌≢◌, ◌<◌, ◌≤◌, ◌==◌, ℕ, not, Bool, true, if◌then◌else◌, slice_index, None}
use Rattle.std.specs.List.{list_any}
use Rattle.edge_base.specs.declared.form.Form.{Form}
use Rattle.edge_base.specs.declared.form.Form.TheVariants.{Plain, Indirect, Double}
use Rattle.edge_base.specs.declared.geometry.Request.{Request}
use Rattle.edge_base.specs.layout.Places.{entries_of}
use Rattle.edge_store.specs.Damages.{IsLinked, form_of_entry}
use Rattle.edge_store.specs.Placed.{entry_at}
use Rattle.edge_store.specs.View.{View, content_at, entries_in, is_allocable, is_spot, is_whole}

-- a view that does not use some blocks
abbrev pub without : View → (ℕ → Bool) → View
without v gone = record v { blocks = λ b. if gone b then None else v.blocks b }

-- An entry of node n leads to the block, as to one of the form.
pub record IsAtEntry (g : Request) (v : View) (n : ℕ) (form : Form) (b : ℕ) : Type 0 where
  pub entry : ℕ
  pub low : entry < entries_of g
  pub is_form : form_of_entry g entry ≡ form
  pub block : entry_at v n entry ≡ b

-- The block is linked in each view that has the same inodes and the same block top.
abbrev pub StaysLinked : Request → View → ℕ → ℕ → Form → ℕ → Type 0
StaysLinked g v n top form b = (w : View) → w.inodes ≡ v.inodes → w.blocks top ≡ v.blocks top → IsLinked g w n form b

-- the block above the blocks that a block of a form leads to, which has to stay while they are dropped: it, where it is double-indirect
abbrev pub top_below : Form → ℕ → ℕ → ℕ
top_below Double b top = b
top_below Indirect b top = top
top_below Plain b top = top

-- A block that a pointer of a node leads to is not used.
pub record IsLost (g : Request) (v : View) (b : ℕ) : Type 0 where
  pub number : ℕ
  pub form : Form
  pub allocable : is_allocable g b ≡ true
  pub linked : IsLinked g v number form b
  pub unused : v.blocks b ≡ None

-- A pointer node of node n has no pointer.
pub record IsHollow (g : Request) (v : View) (n : ℕ) (form : Form) (b : ℕ) : Type 0 where
  pub inode : is_whole (v.inodes n) ≡ true
  pub is_node : form ≢ Plain
  pub linked : IsLinked g v n form b
  pub spot : is_spot v form n b ≡ true
  pub none : (i : ℕ) → slice_index (entries_in (content_at v form b)) i ≡ 0

-- ---- pointers that are there

-- whether a block that is read as a pointer node has a pointer
abbrev pub has_pointer : View → Form → ℕ → Bool
has_pointer v form b = list_any (λ c. not (c == 0)) (entries_in (content_at v form b))

-- Each pointer node that hangs under a block, itself among them, has a pointer.
abbrev pub IsFull : View → Form → ℕ → Type 0
IsFull v Plain b = Unit {0}
IsFull v Indirect b = has_pointer v Indirect b ≡ true
IsFull v Double b = (has_pointer v Double b ≡ true)
    × ((k : ℕ) → slice_index (entries_in (content_at v Double b)) k ≢ 0 → has_pointer v Indirect (slice_index (entries_in (content_at v Double b)) k) ≡ true)

-- The same of all that hangs under the entries of node n from one on.
abbrev pub IsFullInode : Request → View → ℕ → ℕ → Type 0
IsFullInode g v n from = (e : ℕ) → from ≤ e → e < entries_of g → entry_at v n e ≢ 0 → IsFull v (form_of_entry g e) (entry_at v n e)
