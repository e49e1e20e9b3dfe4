-- A data block of a node made writable: v is the working view before, w the one after, and c the committed view.
use Rattle.std.specs.Prelude.{◌≡◌, ◌≢◌, ◌⊎◌, ◌+◌, ℕ, not, true, false, List, ◌∷◌, count_by, None}
use Rattle.edge_base.specs.declared.form.Form.TheVariants.{Plain}
use Rattle.edge_base.specs.declared.geometry.Request.{Request}
use Rattle.edge_base.specs.tree.Positions.{Position, has, chain, positions_of}
use Rattle.edge_store.specs.Fresh.{is_dirty}
use Rattle.edge_store.specs.Placed.{block_at, data_block, HasPlaces, IsOnce}
use Rattle.edge_store.specs.View.{View, content_at, is_used, free_now, head_of_inode}
use Rattle.edge_moves.specs.Renewal.{held_by}

-- the positions of the chain of data block i whose blocks are absent, or of the last point
abbrev pub fresh_on_chain : Request → View → View → ℕ → ℕ → ℕ
fresh_on_chain g c v n i = count_by (λ p. not (is_dirty g c v p)) (chain g n i)

-- Block b, which was not used, took the place of block from, which is not used any more. The last point uses that one, if there is one.
pub record Came (c v w : View) (from b : ℕ) : Type 0 where
  pub fresh : v.blocks b ≡ None
  pub gone : w.blocks from ≡ None
  pub was : from ≢ 0 → is_used c from ≡ true

-- Node n, which has these data blocks, has data block i to be written.
pub record IsMadeWritable (g : Request) (c v w : View) (n i : ℕ) (indices : List ℕ) : Type 0 where
  -- it keeps its head, and has data block i besides the others, and the pointer nodes that they need, each block once
  pub head : head_of_inode (w.inodes n) ≡ head_of_inode (v.inodes n)
  pub places : HasPlaces g w n (i ∷ indices)
  pub once : IsOnce g w n (i ∷ indices)
  -- the data block holds what it held, and zeros alone where it was absent
  pub content : content_at w Plain (data_block g w n i) ≡ held_by g v Plain n (data_block g v n i)
  -- each position of its chain is new, in the block that it had, or in one that was not used
  pub dirty : (p : Position) → has (chain g n i) p ≡ true → is_dirty g c w p ≡ true
  pub came : (p : Position) → has (chain g n i) p ≡ true → (block_at g w p ≡ block_at g v p) ⊎ Came c v w (block_at g v p) (block_at g w p)
  -- each other position keeps its block, and the block what it holds
  pub stays : (p : Position) → has (positions_of g n indices) p ≡ true → has (chain g n i) p ≡ false → block_at g w p ≡ block_at g v p
  pub holds : (p : Position) → has (positions_of g n indices) p ≡ true → has (chain g n i) p ≡ false → w.blocks (block_at g v p) ≡ v.blocks (block_at g v p)
  -- other inodes and other used blocks stay, and what is used besides is on the chain
  pub inodes : (m : ℕ) → m ≢ n → w.inodes m ≡ v.inodes m
  pub others : (b : ℕ) → is_used v b ≡ true → ((p : Position) → has (chain g n i) p ≡ true → block_at g v p ≢ b) → w.blocks b ≡ v.blocks b
  pub used : (b : ℕ) → is_used v b ≡ false → is_used w b ≡ true → (p : Position) × (has (chain g n i) p ≡ true) × (block_at g w p ≡ b)
  -- the free blocks fall by the positions of the chain that were not new
  pub free : free_now g c w + fresh_on_chain g c v n i ≡ free_now g c v
