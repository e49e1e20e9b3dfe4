-- What calls do to views. v is the working view before a call and w the one after it, and c is the committed view.
use Rattle.std.specs.Prelude.{◌≡◌, ◌≢◌, ◌<◌, ℕ, ◌+◌, true, List, length, ◌++◌, take, drop, slice_set, Option, Some, None, Ok, Err}
use Rattle.edge_base.specs.declared.form.Form.{Form}
use Rattle.edge_base.specs.declared.form.Form.TheVariants.{Plain}
use Rattle.edge_base.specs.declared.geometry.Request.{Request}
use Rattle.edge_base.specs.declared.node.Head.{Head}
use Rattle.edge_base.specs.declared.node.NodeFault.TheVariants.{WrongSignature}
use Rattle.edge_store.specs.View.{View, bytes, pointers, content_at, bytes_in, entries_in, empty_content, empty_inode, head_of_inode, is_allocable, is_number, with_block, with_head, with_entry, with_inode}

-- ---- inodes

-- What is told of a number whose inode is not broken: its head, and None exactly where it has no inode.
pub record IsHeadAt (v : View) (n : ℕ) (found : Option Head) : Type 0 where
  pub head : found ≡ head_of_inode (v.inodes n)
  pub absent : found ≡ None → v.inodes n ≡ None

-- number n has another head, and its entries are as they were
abbrev pub HeadSet : View → View → ℕ → Head → Type 0
HeadSet v w n head = w ≡ with_inode v n (with_head (v.inodes n) head)

-- an entry of number n leads elsewhere
abbrev pub EntrySet : View → View → ℕ → ℕ → ℕ → Type 0
EntrySet v w n e to = w ≡ with_inode v n (with_entry (v.inodes n) e to)

-- Number n has no inode, and each lesser one has.
pub record IsLeastFree (g : Request) (v : View) (n : ℕ) : Type 0 where
  pub number : is_number g n ≡ true
  pub absent : v.inodes n ≡ None
  pub least : (k : ℕ) → is_number g k ≡ true → k < n → v.inodes k ≢ None

-- The least number without an inode has one with this head and no entries. Where each number has an inode there is none, and all stays.
abbrev pub InodeMade : Request → View → View → Head → Option ℕ → Type 0
InodeMade g v w head (Some n) = IsLeastFree g v n × (w ≡ with_inode v n (Some (empty_inode g head)))
InodeMade g v w head None = ((n : ℕ) → is_number g n ≡ true → v.inodes n ≢ None) × (w ≡ v)

-- the number has no inode any more
abbrev pub InodeDropped : View → View → ℕ → Type 0
InodeDropped v w n = w ≡ with_inode v n None

-- ---- blocks

-- Neither view uses the block.
pub record IsFresh (g : Request) (c v : View) (b : ℕ) : Type 0 where
  pub allocable : is_allocable g b ≡ true
  pub unused : v.blocks b ≡ None
  pub uncommitted : c.blocks b ≡ None

-- Under another form than this one the block spells no pointer node.
abbrev pub SpellsNoOther : View → Form → ℕ → Type 0
SpellsNoOther w form b = (other : Form) → other ≢ Plain → other ≢ form → content_at w other b ≡ pointers (Err WrongSignature)

-- It was taken, with nothing in it.
pub record Taken (g : Request) (c v w : View) (form : Form) (owner b : ℕ) : Type 0 where
  pub fresh : IsFresh g c v b
  pub working : w ≡ with_block v b (w.blocks b)
  pub content : content_at w form b ≡ empty_content g form owner
  pub spells_no_other : SpellsNoOther w form b

-- It was taken with the content of another, which the working view uses no more.
pub record Copied (g : Request) (c v w : View) (form : Form) (from b : ℕ) : Type 0 where
  pub fresh : IsFresh g c v b
  pub working : w ≡ with_block (with_block v b (w.blocks b)) from None
  pub content : content_at w form b ≡ content_at v form from
  pub spells_the_same : (other : Form) → other ≢ Plain → content_at w other b ≡ content_at v other from

-- the block is not used any more
abbrev pub BlockDropped : View → View → ℕ → Type 0
BlockDropped v w b = w ≡ with_block v b None

-- A pointer of a pointer node leads elsewhere. Its owner and its other pointers are as they were.
pub record PointerSet (v w : View) (form : Form) (owner b i to : ℕ) : Type 0 where
  pub working : w ≡ with_block v b (w.blocks b)
  pub content : content_at w form b ≡ pointers (Ok (record {
    owner = owner;
    entries = slice_set (entries_in (content_at v form b)) i to;
  }))
  pub spells_no_other : SpellsNoOther w form b

-- bytes with others from a place on
abbrev pub put_in : List ℕ → ℕ → List ℕ → List ℕ
put_in old at new = take at old ++ new ++ drop (at + length new) old

-- A range of a block has other bytes.
pub record BytesSet (v w : View) (b at : ℕ) (new : List ℕ) : Type 0 where
  pub working : w ≡ with_block v b (w.blocks b)
  pub content : content_at w Plain b ≡ bytes (put_in (bytes_in (content_at v Plain b)) at new)
