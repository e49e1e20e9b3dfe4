-- What a cut may leave of a disk that is being formatted.
use Rattle.std.specs.Prelude.{◌≢◌, ◌⊎◌, ℕ, Ok}
use Rattle.edge_base.specs.declared.geometry.Request.{Request}
use Rattle.edge_base.specs.declared.node.Master.{Master}
use Rattle.edge_base.specs.layout.Spelling.{master_in}
use Rattle.edge_disk.specs.Image.{Image}
use Rattle.edge_image.specs.Opens.{IsAlike}
use Rattle.edge_image.specs.Formatted.{OpensFresh}

-- block 0 spells no master
abbrev pub HasNoMaster : Image → Type 0
HasNoMaster image = (m : Master) → master_in (image.block 0) ≢ Ok m

-- the old image, or no volume, or a fresh one
abbrev pub IsOldOrFresh : Image → Request → ℕ → Image → Type 0
IsOldOrFresh old g time image = IsAlike old image ⊎ HasNoMaster image ⊎ OpensFresh g time image
