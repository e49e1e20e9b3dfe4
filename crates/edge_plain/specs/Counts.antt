-- What the numbers that a store in memory keeps say of its views.
use Rattle.std.specs.Prelude.{◌≡◌, ◌≢◌, ◌≤◌, ◌<◌, ℕ, true, false, None}
use Rattle.edge_base.specs.declared.geometry.Request.{Request}
use Rattle.edge_base.specs.layout.Places.{first_allocable_of}
use Rattle.edge_store.specs.View.{View, is_free, is_number, free_now, free_after, free_inodes}

-- Of a committed view c and a working view v, how many blocks are free now and after the next point, and how many numbers have no inode;
-- and a block and a number below which none is free.
pub record IsCounted (g : Request) (c v : View) (now after numbers first_block first_number : ℕ) : Type 0 where
  pub now_is : now ≡ free_now g c v
  pub after_is : after ≡ free_after g v
  pub numbers_is : numbers ≡ free_inodes g v
  pub block_from : first_allocable_of g ≤ first_block
  pub blocks_below : (k : ℕ) → first_allocable_of g ≤ k → k < first_block → is_free c v k ≡ false
  pub number_from : 2 ≤ first_number
  pub numbers_below : (k : ℕ) → is_number g k ≡ true → k < first_number → v.inodes k ≢ None
