-- Images, and which of them a cut of the power may leave.
use Rattle.std.specs.Prelude.{◌≡◌, ◌⊎◌, ◌<◌, ◌+◌, ◌*◌, ◌/◌, ℕ, List, length, slice_range}
use Rattle.edge_base.specs.layout.Spelling.{SpellsNoNode}
use Rattle.edge_disk.specs.Disk.{Origin}

-- Blocks of bytes. What stands behind the last block means nothing.
pub record Image : Type 0 where
  pub blocks : ℕ
  pub block_size : ℕ
  pub block : ℕ → List ℕ

-- the image that reads of a disk give
abbrev pub shown_image : Origin → (ℕ → List ℕ) → Image
shown_image origin shown = record { blocks = origin.blocks; block_size = origin.block_size; block = shown }

-- blocks of n bytes that stand end to end, as an image
abbrev pub image_in : ℕ → List ℕ → Image
image_in n bytes = record { blocks = length bytes / n; block_size = n; block = λ b. slice_range bytes (b * n) (b * n + n) }

-- An image is permitted if each block with one candidate holds it. A block with several may hold any bytes.
pub record IsPermitted (origin : Origin) (may_hold : ℕ → List ℕ → Type 0) (is_sure : ℕ → Type 0) (image : Image) : Type 0 where
  pub blocks : image.blocks ≡ origin.blocks
  pub block_size : image.block_size ≡ origin.block_size
  pub whole : (b : ℕ) → b < origin.blocks → length (image.block b) ≡ origin.block_size
  pub only : (b : ℕ) → b < origin.blocks → is_sure b → may_hold b (image.block b)

-- A permitted image is plain if besides each of the blocks 0, 1 and 2 holds one of its candidates, or bytes that spell no node.
abbrev pub IsPlain : Origin → (ℕ → List ℕ → Type 0) → Image → Type 0
IsPlain origin may_hold image = (b : ℕ) → b < 3 → b < origin.blocks → may_hold b (image.block b) ⊎ SpellsNoNode (image.block b)
