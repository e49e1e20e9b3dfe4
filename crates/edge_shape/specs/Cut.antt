-- What a cut makes of a node: the statement.
use Rattle.std.specs.Prelude.{◌≡◌, ◌≢◌, ◌⊎◌, ℕ, ◌+◌, ◌==◌, ◌&&◌, ◌||◌, Bool, true, false, nat_le, nat_lt, List, None}
use Rattle.std.specs.List.{list_any}
use Rattle.edge_base.specs.declared.form.Form.{Form}
use Rattle.edge_base.specs.declared.geometry.Request.{Request}
use Rattle.edge_base.specs.tree.Chains.{is_on_chain}
use Rattle.edge_base.specs.tree.Positions.{has, count_of, positions_of}
use Rattle.edge_store.specs.View.{View, head_of_inode, is_used, free_after}
use Rattle.edge_store.specs.Placed.{data_block, block_at}
use Rattle.edge_store.specs.Fresh.{is_dirty}
use Rattle.edge_moves.specs.Sound.{numbered}
use Rattle.edge_moves.specs.Writable.{Came}
use Rattle.edge_shape.specs.Shape.{HasShape, before}

-- Whether a cut at index i splits the position of a form and a number: of the indices under it one is from i on, and one before i.
abbrev pub is_split : Request → ℕ → List ℕ → Form → ℕ → Bool
is_split g i indices form m =
    list_any (λ x. nat_le i x && is_on_chain g form m x) indices && list_any (λ x. nat_lt x i && is_on_chain g form m x) indices

-- From v to w node n, which has these data blocks, is cut at index i. c is the committed view.
pub record IsCut (g : Request) (c v w : View) (n i : ℕ) (indices : List ℕ) : Type 0 where
  -- it keeps its head, and has the data blocks before i, and the pointer nodes that they need, each block once
  pub head : head_of_inode (w.inodes n) ≡ head_of_inode (v.inodes n)
  pub shape : HasShape g w n (before i indices)
  -- these data blocks stay where they are, with their bytes
  pub blocks : (k : ℕ) → list_any (λ x. x == k) (before i indices) ≡ true → data_block g w n k ≡ data_block g v n k
  pub bytes : (k : ℕ) → list_any (λ x. x == k) (before i indices) ≡ true → w.blocks (data_block g v n k) ≡ v.blocks (data_block g v n k)
  -- of the positions that are left those that are split become dirty, and no others move
  pub dirty : (form : Form) (m : ℕ) → has (positions_of g n (before i indices)) (numbered n form m) ≡ true
      → is_dirty g c w (numbered n form m) ≡ (is_dirty g c v (numbered n form m) || is_split g i indices form m)
  pub moved : (form : Form) (m : ℕ) → has (positions_of g n (before i indices)) (numbered n form m) ≡ true → is_split g i indices form m ≡ false
      → block_at g w (numbered n form m) ≡ block_at g v (numbered n form m)
  -- what moves comes to a block that was not used, and leaves its old one, which the last point uses
  pub came : (form : Form) (m : ℕ) → has (positions_of g n (before i indices)) (numbered n form m) ≡ true
      → (block_at g w (numbered n form m) ≡ block_at g v (numbered n form m)) ⊎ Came c v w (block_at g v (numbered n form m)) (block_at g w (numbered n form m))
  -- blocks of positions that are gone are not used any more
  pub dropped : (form : Form) (m : ℕ) → has (positions_of g n indices) (numbered n form m) ≡ true
      → has (positions_of g n (before i indices)) (numbered n form m) ≡ false → w.blocks (block_at g v (numbered n form m)) ≡ None
  -- other inodes and other used blocks stay, and what is used besides is one of the node's
  pub inodes : (m : ℕ) → m ≢ n → w.inodes m ≡ v.inodes m
  pub others : (b : ℕ) → is_used v b ≡ true → ((form : Form) (m : ℕ) → block_at g v (numbered n form m) ≢ 0 → block_at g v (numbered n form m) ≢ b)
      → w.blocks b ≡ v.blocks b
  pub used : (b : ℕ) → is_used w b ≡ true → v.blocks b ≡ None
      → (form : Form) × (m : ℕ) × (has (positions_of g n (before i indices)) (numbered n form m) ≡ true) × (block_at g w (numbered n form m) ≡ b)
  -- as many blocks more are free after the next point as positions are gone
  pub after : free_after g v + count_of (positions_of g n indices) ≡ free_after g w + count_of (positions_of g n (before i indices))
