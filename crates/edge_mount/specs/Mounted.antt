-- What a mount gives, and what it leaves where it gives nothing.
use Rattle.std.specs.Prelude.{◌≡◌, ◌<◌, ◌≤◌, ◌^◌, length, Some, IsTrue}
use Rattle.edge_base.specs.outside.Faults.{Rose}
use Rattle.edge_cache.specs.Cached.{Cached, IsClean}
use Rattle.edge_cache.specs.Calls.{content_in}
use Rattle.edge_disk.specs.State.{IsUntouched, disk_of, shown_by}
use Rattle.edge_disk.specs.declared.disk.Disk.{Ghosts}
use Rattle.edge_image.specs.Image.{reason_of, roots_in}
use Rattle.edge_image.specs.Ready.{IsMountable}
use Rattle.edge_imap.specs.Bitmaps.{IsFit, IsTied}
use Rattle.edge_mount.specs.Mounting.{image_of, live_at}
use Rattle.edge_mount.specs.declared.fault.MountFault.{MountFault}
use Rattle.edge_mount.specs.declared.fault.MountFault.TheVariants.{Device, NotVolume, Memory}
use Rattle.edge_mount.specs.declared.volume.Mounted.{Mounted}
use Rattle.edge_mount.specs.declared.volume.Volume.{Volume}

module _ {D : Type 0} (g : Ghosts D) where
  -- the volume that the blocks of a cache hold
  pub record Finds (old new : Cached D) (v : Volume) : Type 0 where
    pub fits : IsFit v.master.geometry (g.origin old.disk)
    pub first : 1 ≤ v.place
    pub place : v.place < 3
    pub sequence : v.root.sequence ≤ 2 ^ 63
    pub geometry : v.imap.geometry ≡ v.master.geometry
    pub settled : v.imap.committed ≡ v.imap.working
    pub mountable : IsTrue (g.origin old.disk).shows → IsMountable (image_of g old) v.master (live_at v.place v.root)
    pub roots : IsTrue (g.origin old.disk).shows → v.imap.working ≡ roots_in (image_of g old) (live_at v.place v.root)
    pub tied : IsTrue (g.origin old.disk).shows → IsTied v.imap (content_in g new)

  -- The volume of a disk is mounted. The disk was only read, and nothing waits to be written to it.
  pub record Mounts (disk : D) (m : Mounted D) : Type 0 where
    pub untouched : IsUntouched (disk_of g disk) (disk_of g m.cache.disk)
    pub no_fault : g.faults m.cache.disk ≡ g.faults disk
    pub clean : IsClean m.cache.held
    pub block : length m.block.items ≡ m.master.geometry.block_size
    pub fits : IsFit m.master.geometry (g.origin disk)
    pub first : 1 ≤ m.place
    pub place : m.place < 3
    pub sequence : m.root.sequence ≤ 2 ^ 63
    pub geometry : m.imap.geometry ≡ m.master.geometry
    -- the last point is that of the live metaroot, and nothing has changed since
    pub settled : m.imap.committed ≡ m.imap.working
    pub mountable : IsTrue (g.origin disk).shows → IsMountable (shown_by (disk_of g disk)) m.master (live_at m.place m.root)
    pub roots : IsTrue (g.origin disk).shows → m.imap.working ≡ roots_in (shown_by (disk_of g disk)) (live_at m.place m.root)
    pub tied : IsTrue (g.origin disk).shows → IsTied m.imap (g.shown disk)

  -- why a disk is not mounted: its count of faults rose, or this is the first reason of its image
  abbrev pub WhyNot : D → D → MountFault → Type 0
  WhyNot disk back Device = Rose (g.faults disk) (g.faults back)
  WhyNot disk back (NotVolume reason) = (g.faults back ≡ g.faults disk) × (IsTrue (g.origin disk).shows → reason_of (shown_by (disk_of g disk)) ≡ Some reason)
  WhyNot disk back Memory = back ≡ disk

  -- The disk comes back as it was, but for its count of faults.
  pub record Refuses (disk back : D) (fault : MountFault) : Type 0 where
    pub untouched : IsUntouched (disk_of g disk) (disk_of g back)
    pub why : WhyNot disk back fault
