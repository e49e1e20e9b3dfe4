-- A disk as one value, the images that it gives, and what calls leave of it.
use Rattle.std.specs.Prelude.{◌≡◌, ◌<◌, ℕ, List, IsTrue}
use Rattle.edge_base.specs.outside.Below.{SameBelow}
use Rattle.edge_disk.specs.Disk.{DiskState}
use Rattle.edge_disk.specs.Image.{Image, shown_image, IsPermitted, IsPlain}
use Rattle.edge_disk.specs.declared.disk.Disk.{Ghosts}

-- what a disk means, by the members of its trait
abbrev pub disk_of : {D : Type 0} → Ghosts D → D → DiskState
disk_of g d = record { origin = g.origin d; shown = g.shown d; may_hold = g.may_hold d; is_sure = g.is_sure d; faults = g.faults d }

-- ---- images

-- the image that reads give
abbrev pub shown_by : DiskState → Image
shown_by disk = shown_image disk.origin disk.shown

-- so is each image that a cut of the power may leave
abbrev pub EachCut : DiskState → (Image → Type 0) → Type 0
EachCut disk P = (image : Image) → IsPermitted disk.origin disk.may_hold disk.is_sure image → IsPlain disk.origin disk.may_hold image → P image

-- so is each of these, and each that holds bytes in the blocks 0 to 2 that no write gave and that spell a node
abbrev pub EachPermitted : DiskState → (Image → Type 0) → Type 0
EachPermitted disk P = (image : Image) → IsPermitted disk.origin disk.may_hold disk.is_sure image → P image

-- ---- what a disk is to be like

-- The disk tells what reads give and what a cut may leave, and has had no fault.
pub record IsTold (disk : DiskState) : Type 0 where
  pub shows : IsTrue disk.origin.shows
  pub keeps : IsTrue disk.origin.keeps
  pub no_fault : disk.faults ≡ 0

-- And each of its blocks has one candidate.
pub record IsSettled (disk : DiskState) : Type 0 where
  pub told : IsTold disk
  pub sure : (b : ℕ) → b < disk.origin.blocks → disk.is_sure b

-- ---- what calls leave

-- No call has changed the disk but for its count of faults.
pub record IsUntouched (before after : DiskState) : Type 0 where
  pub origin : after.origin ≡ before.origin
  pub shown : after.shown ≡ before.shown
  pub candidates : SameBelow before.may_hold after.may_hold before.is_sure after.is_sure

-- The blocks that are meant show what they did and have no new candidate, and where they were sure they are.
pub record Keeps (IsMeant : ℕ → Type 0) (before after : DiskState) : Type 0 where
  pub shown : (b : ℕ) → IsMeant b → after.shown b ≡ before.shown b
  pub adds_none : (b : ℕ) (c : List ℕ) → IsMeant b → after.may_hold b c → before.may_hold b c
  pub sure : (b : ℕ) → IsMeant b → before.is_sure b → after.is_sure b
