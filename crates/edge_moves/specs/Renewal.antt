-- Blocks of a node made new: v is the working view before, w the one after, and c the committed view.
use Rattle.std.specs.Prelude.{◌≡◌, ◌≢◌, ◌⊎◌, ◌+◌, ◌==◌, ◌<◌, ℕ, true, false, if◌then◌else◌, None}
use Rattle.edge_base.specs.declared.form.Form.{Form}
use Rattle.edge_base.specs.declared.form.Form.TheVariants.{Plain, Indirect, Double}
use Rattle.edge_base.specs.declared.geometry.Request.{Request}
use Rattle.edge_base.specs.declared.way.Way.{Way}
use Rattle.edge_base.specs.declared.way.Way.TheVariants as way
use Rattle.edge_base.specs.layout.Places.{entries_of, pointers_of}
use Rattle.edge_store.specs.Damages.{form_of_entry, form_under}
use Rattle.edge_store.specs.Effects.{IsFresh, EntrySet, PointerSet}
use Rattle.edge_store.specs.Placed.{entry_at, pointer_at}
use Rattle.edge_store.specs.View.{View, IsView, Content, content_at, empty_content, is_new, free_now, head_of_inode}

-- what a block holds, and an empty one where it is absent
abbrev pub held_by : Request → View → Form → ℕ → ℕ → Content
held_by g v form owner b = if b == 0 then empty_content g form owner else content_at v form b

-- what making a block new takes from the free blocks
abbrev pub cost : View → View → ℕ → ℕ
cost c v b = if is_new c v b then 0 else 1

-- The block is new, and nothing has changed.
pub record IsKept (c v w : View) (from b : ℕ) : Type 0 where
  pub same : b ≡ from
  pub is_new : is_new c v from ≡ true
  pub view : w ≡ v

-- Block b, which neither view used, takes the place of block from, which was not new or is absent: it holds the same, and that one is
-- not used any more.
pub record IsMoved (g : Request) (c v w : View) (form : Form) (owner from b : ℕ) : Type 0 where
  pub fresh : IsFresh g c v b
  pub apart : b ≢ from
  pub was : is_new c v from ≡ false
  pub content : content_at w form b ≡ held_by g v form owner from
  pub is_new : is_new c w b ≡ true
  pub others : (k : ℕ) → k ≢ b → k ≢ from → w.blocks k ≡ v.blocks k
  pub gone : w.blocks from ≡ None
  pub inodes : w.inodes ≡ v.inodes
  pub free : free_now g c w + 1 ≡ free_now g c v

abbrev pub IsRenewed : Request → View → View → View → Form → ℕ → ℕ → ℕ → Type 0
IsRenewed g c v w form owner from b = IsKept c v w from b ⊎ IsMoved g c v w form owner from b

-- The block of an entry moved, and then the entry was set.
pub record EntryMoved (g : Request) (c v w : View) (n e b : ℕ) : Type 0 where
  pub between : View
  pub moved : IsMoved g c v between (form_of_entry g e) n (entry_at v n e) b
  pub set : EntrySet between w n e b

abbrev pub EntryRenewed : Request → View → View → View → ℕ → ℕ → ℕ → Type 0
EntryRenewed g c v w n e b = IsKept c v w (entry_at v n e) b ⊎ EntryMoved g c v w n e b

-- The block in a place of a pointer node moved, and then the pointer was set.
pub record PointerMoved (g : Request) (c v w : View) (form : Form) (n top i b : ℕ) : Type 0 where
  pub between : View
  pub moved : IsMoved g c v between (form_under form) n (pointer_at v form top i) b
  pub set : PointerSet between w form n top i b

abbrev pub PointerRenewed : Request → View → View → View → Form → ℕ → ℕ → ℕ → ℕ → Type 0
PointerRenewed g c v w form n top i b = IsKept c v w (pointer_at v form top i) b ⊎ PointerMoved g c v w form n top i b

-- The pointer node of an entry was made new, and then the block in a place of it.
pub record UnderRenewed (g : Request) (c v w : View) (n e place b : ℕ) : Type 0 where
  pub top : ℕ
  pub between : View
  pub view : IsView g between
  pub entry : EntryRenewed g c v between n e top
  pub pointer : PointerRenewed g c between w (form_of_entry g e) n top place b

-- The blocks on a way to a data block were made new, from the entry on; the last is block b.
pub data WayRenewed (g : Request) (c v w : View) (n : ℕ) : Way → ℕ → Type 0 where
  direct : (e b : ℕ) → e < entries_of g → form_of_entry g e ≡ Plain → EntryRenewed g c v w n e b → WayRenewed g c v w n (way.Direct e) b
  single : (e place top b : ℕ) (m : View) → IsView g m → e < entries_of g → place < pointers_of g → form_of_entry g e ≡ Indirect → EntryRenewed g c v m n e top
      → PointerRenewed g c m w Indirect n top place b → WayRenewed g c v w n (way.Single e place) b
  double : (e outer place top node b : ℕ) (m l : View) → IsView g m → IsView g l → e < entries_of g → outer < pointers_of g → place < pointers_of g
      → form_of_entry g e ≡ Double → EntryRenewed g c v m n e top
      → PointerRenewed g c m l Double n top outer node → PointerRenewed g c l w Indirect n node place b → WayRenewed g c v w n (way.Double e outer place) b

-- Number n keeps its head, and the others their inodes.
pub record SameHeads (v w : View) (n : ℕ) : Type 0 where
  pub others : (x : ℕ) → x ≢ n → w.inodes x ≡ v.inodes x
  pub head : head_of_inode (w.inodes n) ≡ head_of_inode (v.inodes n)
