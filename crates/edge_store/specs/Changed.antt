-- What a change at one node does to a view: v is the view before, w the one after, and c the committed one. A number without an inode
-- has no data blocks.
use Rattle.std.specs.Prelude.{◌≡◌, ◌≢◌, ◌⊎◌, ◌&&◌, ◌||◌, ℕ, ◌==◌, Bool, true, false, List, map}
use Rattle.std.specs.List.{list_any}
use Rattle.edge_base.specs.declared.form.Form.TheVariants.{Plain}
use Rattle.edge_base.specs.declared.geometry.Request.{Request}
use Rattle.edge_base.specs.tree.Positions.{Position, data_at, has, positions_of, touched}
use Rattle.edge_store.specs.Fresh.{is_dirty}
use Rattle.edge_store.specs.Placed.{block_at, data_block, HasPlaces, IsOnce}
use Rattle.edge_store.specs.View.{View, content_at, is_used}

-- whether an index is among some
abbrev pub has_index : List ℕ → ℕ → Bool
has_index indices i = list_any (λ k. k == i) indices

-- they have the same members
abbrev pub SameMembers : List ℕ → List ℕ → Type 0
SameMembers xs ys = (i : ℕ) → has_index xs i ≡ has_index ys i

-- a block of node n, which has these data blocks
pub record IsBlockOf (g : Request) (v : View) (n : ℕ) (indices : List ℕ) (b : ℕ) : Type 0 where
  pub position : Position
  pub is_there : has (positions_of g n indices) position ≡ true
  pub block : block_at g v position ≡ b

-- no block of it
abbrev pub IsNoBlockOf : Request → View → ℕ → List ℕ → ℕ → Type 0
IsNoBlockOf g v n indices b = (p : Position) → has (positions_of g n indices) p ≡ true → block_at g v p ≢ b

-- From v to w node n, which had the old data blocks, has come to have the new ones. No other node has changed.
pub record NodeChanged (g : Request) (v w : View) (n : ℕ) (old new : List ℕ) : Type 0 where
  -- its blocks were where the old data blocks need them
  pub were : HasPlaces g v n old
  -- they are where the new ones need them, and each at one position
  pub places : HasPlaces g w n new
  pub once : IsOnce g w n new
  -- other inodes, and all used blocks but those that it had, are as they were
  pub inodes : (x : ℕ) → x ≢ n → w.inodes x ≡ v.inodes x
  pub blocks : (b : ℕ) → is_used v b ≡ true → IsNoBlockOf g v n old b → w.blocks b ≡ v.blocks b
  -- what it took: each of its blocks was not used, or was its own
  pub taken : (p : Position) → has (positions_of g n new) p ≡ true
      → (is_used v (block_at g w p) ≡ false) ⊎ IsBlockOf g v n old (block_at g w p)
  -- what it left is not used any more: a used block is its own, or was used and not its own
  pub left : (b : ℕ) → is_used w b ≡ true → IsBlockOf g w n new b ⊎ ((is_used v b ≡ true) × IsNoBlockOf g v n old b)

-- From v to w node n, which had the old data blocks and has the new ones, was changed in these ways: data blocks of it were written or
-- added, and others removed. It is said beside NodeChanged, by which the node had these data blocks and has those.
pub record NodeDirtied (g : Request) (c v w : View) (n : ℕ) (old new writes removes : List ℕ) : Type 0 where
  -- of its positions those are dirty that were, and those that such a change touches
  pub dirty : (p : Position) → has (positions_of g n new) p ≡ true
      → is_dirty g c w p
      ≡ ((has (positions_of g n old) p && is_dirty g c v p) || has (touched g (λ q. false) (map (data_at n) writes) (map (data_at n) removes)) p)
  -- a data block that it had not is one that was added
  pub added : (i : ℕ) → has_index new i ≡ true → has_index old i ≡ false → has_index writes i ≡ true

-- Each of these data blocks of node n holds what it held.
abbrev pub KeepsContents : Request → View → View → ℕ → List ℕ → Type 0
KeepsContents g v w n indices = (i : ℕ) → has_index indices i ≡ true → content_at w Plain (data_block g w n i) ≡ content_at v Plain (data_block g v n i)
