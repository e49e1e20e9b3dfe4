-- What a change of a view has to keep for the blocks of a node to stay where they are.
use Rattle.std.specs.Prelude.{◌≡◌, ◌≢◌, ◌<◌, ℕ, true}
use Rattle.edge_base.specs.declared.form.Form.TheVariants.{Indirect, Double}
use Rattle.edge_base.specs.declared.geometry.Request.{Request}
use Rattle.edge_base.specs.tree.Positions.{Position, has, ancestors, positions_of_form}
use Rattle.edge_store.specs.View.{View, content_at, entries_of_inode}
use Rattle.edge_store.specs.Placed.{block_at, indirect_block, double_block}

-- From v to w the inode of a position keeps its entries, and each pointer node above the position what it says.
pub record KeepsChain (g : Request) (v w : View) (p : Position) : Type 0 where
  pub entries : entries_of_inode (w.inodes p.number) ≡ entries_of_inode (v.inodes p.number)
  pub nodes : (q : Position) → has (ancestors g p) q ≡ true → block_at g v q ≢ 0
      → content_at w q.form (block_at g v q) ≡ content_at v q.form (block_at g v q)

-- From v to w the inode of node n keeps its entries, and each of its pointer nodes what it says.
pub record KeepsPointers (g : Request) (v w : View) (n : ℕ) : Type 0 where
  pub entries : entries_of_inode (w.inodes n) ≡ entries_of_inode (v.inodes n)
  pub indirect : (j : ℕ) → j < positions_of_form g Indirect → indirect_block g v n j ≢ 0
      → content_at w Indirect (indirect_block g v n j) ≡ content_at v Indirect (indirect_block g v n j)
  pub double : (d : ℕ) → d < positions_of_form g Double → double_block g v n d ≢ 0
      → content_at w Double (double_block g v n d) ≡ content_at v Double (double_block g v n d)

-- The block is no pointer node of node n.
pub record IsNoNodeOf (g : Request) (v : View) (n b : ℕ) : Type 0 where
  pub indirect : (j : ℕ) → j < positions_of_form g Indirect → indirect_block g v n j ≢ b
  pub double : (d : ℕ) → d < positions_of_form g Double → double_block g v n d ≢ b
