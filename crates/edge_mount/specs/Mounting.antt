-- What mounting finds, and why it gives up.
use Rattle.std.specs.Prelude.{◌≡◌, ◌≢◌, ◌≤◌, ◌^◌, ℕ, Bool, nat_lt, if◌then◌else◌, List, Option, Some, Result, Err, OnOk, IsTrue}
use Rattle.edge_base.specs.declared.geometry.Request.{Request}
use Rattle.edge_base.specs.declared.node.Metaroot.{Metaroot}
use Rattle.edge_base.specs.layout.Bitmap.{used_under}
use Rattle.edge_base.specs.outside.Faults.{Rose}
use Rattle.edge_cache.specs.Cached.{Cached}
use Rattle.edge_cache.specs.Calls.{content_in}
use Rattle.edge_disk.specs.Image.{Image, shown_image}
use Rattle.edge_disk.specs.declared.disk.Disk.{Ghosts}
use Rattle.edge_image.specs.Image.{Live, free_blocks_of, free_inodes_of, has_bad_imap, reason_of_counts}
use Rattle.edge_mount.specs.declared.fault.MountFault.{MountFault}
use Rattle.edge_mount.specs.declared.fault.MountFault.TheVariants.{Device, NotVolume, Memory}

-- a live metaroot, by its place and its fields
abbrev pub live_at : ℕ → Metaroot → Live
live_at place root = record { place = place; root = root }

-- the reasons in a live metaroot, from its fields, the bytes of its bitmap and what blocks hold
abbrev pub reason_under : Request → Metaroot → List ℕ → (ℕ → List ℕ) → Option ℕ
reason_under g root roots content =
    if nat_lt (2 ^ 63) root.sequence then Some 5
    else if has_bad_imap g roots content then Some 6
    else reason_of_counts g root (used_under g roots content)

-- The counts of a metaroot are those of its bitmap, and there is room.
pub record HasCounts (g : Request) (root : Metaroot) (used : ℕ → Bool) : Type 0 where
  pub free_blocks : root.free_blocks ≡ free_blocks_of g used
  pub free_inodes : root.free_inodes ≡ free_inodes_of g used
  pub room : 3 ≤ root.free_blocks

module _ {D : Type 0} (g : Ghosts D) where
  -- the image that reads through a cache give
  abbrev pub image_of : Cached D → Image
  image_of c = shown_image (g.origin c.disk) (content_in g c)

  -- Device comes where the disk's count of faults rose, and a reason where each block that it takes was read, and it is the first.
  pub record TellsMount {T : Type 0} (reason : Option ℕ) (old new : Cached D) (result : Result T MountFault) : Type 0 where
    pub later : g.faults old.disk ≤ g.faults new.disk
    pub passed : OnOk result (g.faults new.disk ≡ g.faults old.disk)
    pub device : result ≡ Err Device → Rose (g.faults old.disk) (g.faults new.disk)
    -- memory is taken before anything is read
    pub memory : result ≢ Err Memory
    pub read : (r : ℕ) → result ≡ Err (NotVolume r) → g.faults new.disk ≡ g.faults old.disk
    pub first : (r : ℕ) → result ≡ Err (NotVolume r) → IsTrue (g.origin old.disk).shows → reason ≡ Some r
