-- The live metaroot, found in the blocks 1 and 2.
use Rattle.std.specs.Prelude.{◌≡◌, ◌<◌, ◌≤◌, ℕ, ◌==◌, if◌then◌else◌, List, drop, Option, Some, None}
use Rattle.edge_base.specs.declared.geometry.Request.{Request}
use Rattle.edge_base.specs.layout.Spelling.{SpellsMetaroot}
use Rattle.edge_image.specs.Image.{Live}
use Rattle.edge_mount.specs.declared.live.LiveRoot.{LiveRoot}

-- the bytes of the block that spells the live metaroot, from those of the blocks 1 and 2
abbrev pub live_bytes : Live → List ℕ → List ℕ → List ℕ
live_bytes live one two = if live.place == 1 then one else two

-- the live metaroot was found, and its bytes stand here
abbrev pub FindsLive : Option Live → List ℕ → List ℕ → Option LiveRoot → List ℕ → Type 0
FindsLive None one two found bytes = found ≡ None
FindsLive (Some live) one two found bytes = (found ≡ Some (record { place = live.place; root = live.root })) × (bytes ≡ live_bytes live one two)

-- a metaroot lies in block 1 or 2, and these are its bytes
pub record FoundRoot (g : Request) (bytes : List ℕ) (found : LiveRoot) : Type 0 where
  pub first : 1 ≤ found.place
  pub place : found.place < 3
  pub spelled : SpellsMetaroot g found.root (drop 32 bytes) bytes
