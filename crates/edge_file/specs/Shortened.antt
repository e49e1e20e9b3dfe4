-- A node that is made shorter: v is the working view before, w the one after, and c the committed view.
use Rattle.std.specs.Prelude.{◌≡◌, ◌≢◌, ◌⊎◌, ◌+◌, ◌-◌, ◌/◌, ◌%◌, ◌<◌, ◌≤◌, ◌==◌, ◌&&◌, ◌||◌, ℕ, not, Bool, true, false, nat_lt, if◌then◌else◌, List, [], ◌∷◌, None}
use Rattle.std.specs.List.{list_any}
use Rattle.edge_base.specs.declared.form.Form.{Form}
use Rattle.edge_base.specs.declared.form.Form.TheVariants.{Plain}
use Rattle.edge_base.specs.declared.geometry.Request.{Request}
use Rattle.edge_base.specs.layout.Places.{max_size_of}
use Rattle.edge_base.specs.tree.Positions.{has, count_of, positions_of}
use Rattle.edge_base.specs.tree.Slots.{pieces}
use Rattle.edge_store.specs.Fresh.{is_dirty}
use Rattle.edge_store.specs.Placed.{block_at, data_block}
use Rattle.edge_store.specs.View.{View, is_used, free_now, free_after}
use Rattle.edge_moves.specs.Sound.{numbered}
use Rattle.edge_moves.specs.Writable.{Came, fresh_on_chain}
use Rattle.edge_shape.specs.Cut.{is_split}
use Rattle.edge_shape.specs.Shape.{HasShape, before}
use Rattle.edge_shape.specs.Where.{cut_need}
use Rattle.edge_file.specs.Bytes.{byte_of}

-- whether a position becomes dirty where these data blocks are made new and the others are cut off from i on
abbrev pub is_renewed : Request → ℕ → ℕ → List ℕ → List ℕ → Form → ℕ → Bool
is_renewed g n i touched indices form m = has (positions_of g n touched) (numbered n form m) || is_split g i indices form m

-- Node n, which has the data blocks `indices`, has those of `touched` made new, whatever is written in them, and is cut at index i.
pub record IsTrimmed (g : Request) (c v w : View) (n i : ℕ) (touched indices : List ℕ) : Type 0 where
  -- it has the data blocks before i, and the pointer nodes that they need, each block once
  pub shape : HasShape g w n (before i indices)
  -- those of them that are not touched hold what they held
  pub holds : (k : ℕ) → list_any (λ x. x == k) (before i indices) ≡ true → has (positions_of g n touched) (numbered n Plain k) ≡ false
      → w.blocks (data_block g v n k) ≡ v.blocks (data_block g v n k)
  -- of the positions that are left those become dirty that are on the chain of a touched one or are split, and no others move
  pub dirty : (form : Form) (m : ℕ) → has (positions_of g n (before i indices)) (numbered n form m) ≡ true
      → is_dirty g c w (numbered n form m) ≡ (is_dirty g c v (numbered n form m) || is_renewed g n i touched indices form m)
  pub moved : (form : Form) (m : ℕ) → has (positions_of g n (before i indices)) (numbered n form m) ≡ true
      → is_renewed g n i touched indices form m ≡ false → block_at g w (numbered n form m) ≡ block_at g v (numbered n form m)
  -- what moves comes to a block that was not used, and leaves its old one, which the last point uses
  pub came : (form : Form) (m : ℕ) → has (positions_of g n (before i indices)) (numbered n form m) ≡ true
      → (block_at g w (numbered n form m) ≡ block_at g v (numbered n form m)) ⊎ Came c v w (block_at g v (numbered n form m)) (block_at g w (numbered n form m))
  -- blocks of positions that are gone are not used any more
  pub dropped : (form : Form) (m : ℕ) → has (positions_of g n indices) (numbered n form m) ≡ true
      → has (positions_of g n (before i indices)) (numbered n form m) ≡ false → w.blocks (block_at g v (numbered n form m)) ≡ None
  -- other inodes and other used blocks stay, and what is used besides is one of the node's
  pub inodes : (m : ℕ) → m ≢ n → w.inodes m ≡ v.inodes m
  pub others : (b : ℕ) → is_used v b ≡ true → ((form : Form) (m : ℕ) → block_at g v (numbered n form m) ≢ 0 → block_at g v (numbered n form m) ≢ b)
      → w.blocks b ≡ v.blocks b
  pub used : (b : ℕ) → is_used w b ≡ true → v.blocks b ≡ None
      → (form : Form) × (m : ℕ) × (has (positions_of g n (before i indices)) (numbered n form m) ≡ true) × (block_at g w (numbered n form m) ≡ b)
  -- as many blocks more are free after the next point as positions are gone
  pub after : free_after g v + count_of (positions_of g n indices) ≡ free_after g w + count_of (positions_of g n (before i indices))

-- ---- by a size

-- whether a node that is to have a size has a data block in which bytes stand behind that
abbrev pub has_rest : Request → View → ℕ → ℕ → Bool
has_rest g v n size = not (size % g.block_size == 0) && not (data_block g v n (size / g.block_size) == 0)

-- how many they are, and that block, if there is one
abbrev pub rest_of : Request → View → ℕ → ℕ → ℕ
rest_of g v n size = if has_rest g v n size then g.block_size - size % g.block_size else 0

abbrev pub block_of_rest : Request → View → ℕ → ℕ → List ℕ
block_of_rest g v n size = if has_rest g v n size then size / g.block_size ∷ [] else []

-- How many free blocks shortening needs: where a block with such bytes is written, what its chain needs, and the cut adds nothing; else
-- what the cut needs.
abbrev pub shortening_need : Request → View → View → ℕ → ℕ → ℕ
shortening_need g c v n size = if has_rest g v n size then fresh_on_chain g c v n (size / g.block_size) else cut_need g c v n (pieces g.block_size size)

-- Node n, which has the data blocks `indices`, is cut behind its first bytes, so many as the size.
pub record IsShortened (g : Request) (c v w : View) (n size : ℕ) (indices : List ℕ) : Type 0 where
  pub trimmed : IsTrimmed g c v w n (pieces g.block_size size) (block_of_rest g v n size) indices
  -- the bytes before the size are as they were, and those behind it are zeros
  pub bytes : (k : ℕ) → k < max_size_of g → byte_of g w n k ≡ (if nat_lt k size then byte_of g v n k else 0)
  -- no more of the blocks that are free now are taken than are needed
  pub room : free_now g c v ≤ free_now g c w + shortening_need g c v n size
