-- What the words ask for.
use Rattle.std.specs.Prelude.{◌≡◌, ◌≢◌, ◌⊎◌, ◌<◌, ℕ, List, None}
use Rattle.edge_base.specs.declared.geometry.Request.{Request}
use Rattle.edge_base.specs.layout.Places.{bad_geometry}
use Rattle.edge_words.specs.Words.{Word}
use Rattle.edge_words.specs.Orders.{Wanted, Run, Format, Spells, block_size_of}

-- the words spell `run`
pub record AsksRun (words : List Word) : Type 0 where
  pub image : Word
  pub block_size : ℕ
  pub spells : Spells words (Run image block_size)

-- the words spell `format` with this geometry
pub record AsksFormat (words : List Word) (g : Request) : Type 0 where
  pub image : Word
  pub spells : Spells words (Format image g)

-- the words spell nothing
abbrev pub AsksNothing : List Word → Type 0
AsksNothing words = (wanted : Wanted) → Spells words wanted → ⊥

-- A geometry that breaks a limit, or has more blocks than the disk.
abbrev pub IsUnfit : Request → ℕ → Type 0
IsUnfit g blocks = (bad_geometry g ≢ None) ⊎ (blocks < g.blocks)

-- the disk has the block size that the words ask for
abbrev pub HaveBlockSize : List Word → ℕ → Type 0
HaveBlockSize words size = (wanted : Wanted) → Spells words wanted → size ≡ block_size_of wanted
