-- What blocks hold that were made new. v is the working view before, w the one after, and c the committed view; u is the view as it would be
-- if the last block that took the place of another held what that one did.
use Rattle.std.specs.Prelude.{◌≡◌, ◌≢◌, ℕ, List}
use Rattle.edge_base.specs.declared.form.Form.{Form}
use Rattle.edge_base.specs.declared.form.Form.TheVariants.{Plain}
use Rattle.edge_base.specs.declared.geometry.Request.{Request}
use Rattle.edge_base.specs.declared.way.Way.{Way}
use Rattle.edge_store.specs.declared.spot.Spot.{Spot}
use Rattle.edge_store.specs.Damages.{form_of_entry, form_under}
use Rattle.edge_store.specs.Placed.{entry_at, pointer_at, data_block, follow, HasPlaces, IsOnce}
use Rattle.edge_store.specs.State.{StoreState, Told}
use Rattle.edge_store.specs.View.{View, IsView, content_at, empty_content, entries_of_inode}
use Rattle.edge_moves.specs.Sound.{IsSound, IsApart}
use Rattle.edge_moves.specs.Renewal.{IsRenewed, EntryRenewed, PointerRenewed, UnderRenewed, WayRenewed}
use Rattle.edge_moves.specs.Writable.{IsMadeWritable}
use Rattle.edge_tree.specs.declared.own.Renewal.{Renewal}
use Rattle.edge_tree.specs.declared.own.Renewal.TheVariants.{Same, Blank}

-- ---- blocks

-- Views u and w differ at most in what block b holds, which came in the place of block from.
pub record IsFilled (g : Request) (renewal : Renewal) (u w : View) (form : Form) (owner from b : ℕ) : Type 0 where
  pub view : IsView g u
  pub inodes : w.inodes ≡ u.inodes
  pub others : (k : ℕ) → k ≢ b → w.blocks k ≡ u.blocks k
  -- a block that stayed holds what it held, and so does each where that is asked; another has nothing in it
  pub stays : b ≡ from → w ≡ u
  pub same : renewal ≡ Same → w ≡ u
  pub empty : renewal ≡ Blank → b ≢ from → content_at w form b ≡ empty_content g form owner

-- A block was made new, and what it holds is told.
pub record BlockFilled (g : Request) (c v w : View) (form : Form) (owner from : ℕ) (renewal : Renewal) (b : ℕ) : Type 0 where
  pub between : View
  pub renewed : IsRenewed g c v between form owner from b
  pub filled : IsFilled g renewal between w form owner from b

-- The same of the block of an entry, of that in a place of a pointer node, and of that below the entry's.
pub record EntryFilled (g : Request) (c v w : View) (n e : ℕ) (renewal : Renewal) (b : ℕ) : Type 0 where
  pub between : View
  pub renewed : EntryRenewed g c v between n e b
  pub filled : IsFilled g renewal between w (form_of_entry g e) n (entry_at v n e) b

pub record PointerFilled (g : Request) (c v w : View) (form : Form) (n top i : ℕ) (renewal : Renewal) (b : ℕ) : Type 0 where
  pub between : View
  pub renewed : PointerRenewed g c v between form n top i b
  pub filled : IsFilled g renewal between w (form_under form) n (pointer_at v form top i) b

pub record UnderFilled (g : Request) (c v w : View) (n e place : ℕ) (renewal : Renewal) (b : ℕ) : Type 0 where
  pub between : View
  pub renewed : UnderRenewed g c v between n e place b
  pub filled : IsFilled g renewal between w (form_under (form_of_entry g e)) n (pointer_at v (form_of_entry g e) (entry_at v n e) place) b

-- The blocks on a way were made new, and the last came in the place of block from.
pub record WayFilled (g : Request) (c v w : View) (n : ℕ) (on : Way) (renewal : Renewal) (b : ℕ) : Type 0 where
  pub between : View
  pub renewed : WayRenewed g c v between n on b
  pub from : ℕ
  -- that to which the way led, where no block is on it twice
  pub led : IsSound g v n → IsApart g v n → from ≡ follow v (entries_of_inode (v.inodes n)) on
  pub filled : IsFilled g renewal between w Plain n from b

-- Data block i of node n, which has these data blocks, was made new.
pub record IsMadeNew (g : Request) (c v w : View) (n i : ℕ) (indices : List ℕ) (renewal : Renewal) (b : ℕ) : Type 0 where
  pub between : View
  pub made : IsMadeWritable g c v between n i indices
  pub block : data_block g between n i ≡ b
  pub filled : IsFilled g renewal between w Plain n (data_block g v n i) b

-- Node n, which has these data blocks, has block b as data block i, to be written whole.
pub record IsMadeOverwritable (g : Request) (c v w : View) (n i : ℕ) (indices : List ℕ) (b : ℕ) : Type 0 where
  -- the view is as it would be if the data block had been made writable, but for what it holds
  pub between : View
  pub view : IsView g between
  pub made : IsMadeWritable g c v between n i indices
  pub block : data_block g between n i ≡ b
  pub inodes : w.inodes ≡ between.inodes
  pub others : (k : ℕ) → k ≢ b → w.blocks k ≡ between.blocks k
  -- in its place it holds what it held, and in another one zeros alone
  pub stays : b ≡ data_block g v n i → w ≡ between
  pub empty : b ≢ data_block g v n i → content_at w Plain b ≡ empty_content g Plain n

-- ---- calls

abbrev pub FillsBlock : StoreState → StoreState → Spot → Renewal → ℕ → Type 0
FillsBlock old new spot renewal b = Told old
    → BlockFilled old.origin.request old.committed old.working new.working spot.form spot.owner spot.block renewal b

abbrev pub FillsEntry : StoreState → StoreState → ℕ → ℕ → Renewal → ℕ → Type 0
FillsEntry old new n e renewal b = Told old → EntryFilled old.origin.request old.committed old.working new.working n e renewal b

abbrev pub FillsPointer : StoreState → StoreState → Spot → ℕ → Renewal → ℕ → Type 0
FillsPointer old new at i renewal b = Told old
    → PointerFilled old.origin.request old.committed old.working new.working at.form at.owner at.block i renewal b

abbrev pub FillsUnder : StoreState → StoreState → ℕ → ℕ → ℕ → Renewal → ℕ → Type 0
FillsUnder old new n e place renewal b = Told old → UnderFilled old.origin.request old.committed old.working new.working n e place renewal b

abbrev pub FillsWay : StoreState → StoreState → ℕ → Way → Renewal → ℕ → Type 0
FillsWay old new n on renewal b = Told old → WayFilled old.origin.request old.committed old.working new.working n on renewal b

abbrev pub MakesNew : StoreState → StoreState → ℕ → ℕ → Renewal → ℕ → Type 0
MakesNew old new n i renewal b = Told old → (indices : List ℕ)
    → HasPlaces old.origin.request old.working n indices → IsOnce old.origin.request old.working n indices
    → IsMadeNew old.origin.request old.committed old.working new.working n i indices renewal b

-- Data block i of node n is block b, to be written whole, if the node had the shape of a node.
abbrev pub MakesOverwritable : StoreState → StoreState → ℕ → ℕ → ℕ → Type 0
MakesOverwritable old new n i b = Told old → (indices : List ℕ)
    → HasPlaces old.origin.request old.working n indices → IsOnce old.origin.request old.working n indices
    → IsMadeOverwritable old.origin.request old.committed old.working new.working n i indices b
