-- Data blocks of a node made new and written: v is the working view before, w the one after, and c the committed view.
use Rattle.std.specs.Prelude.{◌≡◌, ◌≢◌, ◌⊎◌, ◌+◌, ◌<◌, ℕ, not, true, false, List, ◌++◌, length, filter}
use Rattle.edge_base.specs.declared.geometry.Request.{Request}
use Rattle.edge_base.specs.layout.Places.{max_size_of}
use Rattle.edge_base.specs.tree.Positions.{Position, has, count_of, positions_of}
use Rattle.edge_store.specs.Fresh.{is_dirty}
use Rattle.edge_store.specs.Placed.{block_at, HasPlaces, IsOnce}
use Rattle.edge_store.specs.View.{View, is_used, free_now}
use Rattle.edge_moves.specs.Writable.{Came}
use Rattle.edge_file.specs.Bytes.{byte_of, with_bytes, blocks_under}

-- how many positions on the chains of these data blocks are not dirty
unfoldable pub fresh_on : Request → View → View → ℕ → List ℕ → ℕ
fresh_on g c v n touched = count_of (filter (λ p. not (is_dirty g c v p)) (positions_of g n touched))

-- Node n, which has the data blocks `indices`, has those of `touched` made new, whatever is written in them.
pub record IsRewritten (g : Request) (c v w : View) (n : ℕ) (touched indices : List ℕ) : Type 0 where
  -- it has the touched data blocks besides, and the pointer nodes that they need, each block once
  pub places : HasPlaces g w n (touched ++ indices)
  pub once : IsOnce g w n (touched ++ indices)
  -- each position on the chain of a touched one is new, in the block that it had, or in one that was not used
  pub dirty : (p : Position) → has (positions_of g n touched) p ≡ true → is_dirty g c w p ≡ true
  pub came : (p : Position) → has (positions_of g n touched) p ≡ true
      → (block_at g w p ≡ block_at g v p) ⊎ Came c v w (block_at g v p) (block_at g w p)
  -- each other position keeps its block, and the block what it holds
  pub stays : (p : Position) → has (positions_of g n indices) p ≡ true → has (positions_of g n touched) p ≡ false
      → block_at g w p ≡ block_at g v p
  pub holds : (p : Position) → has (positions_of g n indices) p ≡ true → has (positions_of g n touched) p ≡ false
      → w.blocks (block_at g v p) ≡ v.blocks (block_at g v p)
  -- other inodes and other used blocks stay, and what is used besides is on a chain
  pub inodes : (m : ℕ) → m ≢ n → w.inodes m ≡ v.inodes m
  pub others : (b : ℕ) → is_used v b ≡ true
      → ((p : Position) → has (positions_of g n touched) p ≡ true → block_at g v p ≢ b) → w.blocks b ≡ v.blocks b
  pub used : (b : ℕ) → is_used v b ≡ false → is_used w b ≡ true
      → (p : Position) × (has (positions_of g n touched) p ≡ true) × (block_at g w p ≡ b)
  -- the free blocks fall by the positions on the chains that were not new
  pub free : free_now g c w + fresh_on g c v n touched ≡ free_now g c v

-- Bytes of node n are others from a place on, and each other byte is as it was.
pub record IsWritten (g : Request) (c v w : View) (n at : ℕ) (new indices : List ℕ) : Type 0 where
  pub rewritten : IsRewritten g c v w n (blocks_under g at (length new)) indices
  pub bytes : (k : ℕ) → k < max_size_of g → byte_of g w n k ≡ with_bytes (byte_of g v n) at new k
