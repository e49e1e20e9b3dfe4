-- The fresh positions of a change: those that it makes dirty and that are not dirty yet.
use Rattle.std.specs.Prelude.{◌==◌, ◌&&◌, ◌||◌, not, ℕ, Bool, false, List, filter}
use Rattle.std.specs.List.{range_with_len}
use Rattle.edge_base.specs.declared.geometry.Request.{Request}
use Rattle.edge_base.specs.layout.Places.{max_blocks_of}
use Rattle.edge_base.specs.tree.Positions.{Position, data_at, has, count_of, positions_of, touched}
use Rattle.edge_store.specs.View.{View, is_new}
use Rattle.edge_store.specs.Placed.{block_at, data_block}

-- A position is dirty where its block is in the working view and not in the committed one.
abbrev pub is_dirty : Request → View → View → Position → Bool
is_dirty g committed working p = is_new committed working (block_at g working p)

-- The data positions that a change writes or adds, and those that it removes.
module _ (g : Request) (committed working : View) (writes removes : List Position) where
  -- whether node n has data block i after the change
  abbrev pub has_after : ℕ → ℕ → Bool
  has_after n i = has writes (data_at n i) || (not (data_block g working n i == 0) && not (has removes (data_at n i)))

  -- whether the position is there after the change
  abbrev pub is_there_after : Position → Bool
  is_there_after p = has (positions_of g p.number (filter (has_after p.number) (range_with_len 0 (max_blocks_of g)))) p

  -- Of the data positions that are written or added, and the ancestors of these and of the removed ones, those that are there after the
  -- change and are not dirty.
  abbrev pub fresh_positions : List Position
  fresh_positions = filter (λ p. is_there_after p && not (is_dirty g committed working p)) (touched g (λ p. false) writes removes)

  -- how many
  unfoldable pub fresh_count : ℕ
  fresh_count = count_of fresh_positions
