-- A store over a disk as it is mounted.
use Rattle.std.specs.Prelude.{◌≡◌, true, false, None, IsTrue}
use Rattle.edge_cache.specs.Cached.{IsClean}
use Rattle.edge_disk.specs.State.{IsSettled, IsUntouched, disk_of, shown_by}
use Rattle.edge_disk.specs.declared.disk.Disk.{Ghosts}
use Rattle.edge_image.specs.Ready.{IsMountable}
use Rattle.edge_image.specs.View.{view_of}
use Rattle.edge_mount.specs.Mounting.{live_at}
use Rattle.edge_mount.specs.declared.volume.Mounted.{Mounted}
use Rattle.edge_store.specs.State.{IsMade}
use Rattle.edge_point.specs.Seen.{IsGuarded, last_view, state_of}
use Rattle.edge_point.specs.declared.parts.Parts.{Parts}

-- the parts of a volume that was just mounted
abbrev pub parts_at : {D : Type 0} → Mounted D → Parts D
parts_at m = record {
  cache = m.cache;
  imap = m.imap;
  master = m.master;
  place = m.place;
  root = m.root;
  points = 0;
  numbers = m.root.free_inodes;
  next = m.root.next;
  live = true;
  torn = false;
  damage = None;
  block = m.block;
}

-- The volume of a disk is mounted: the disk was only read, and nothing waits to be written to it.
pub record MountsPoint {D : Type 0} (g : Ghosts D) (disk : D) (p : Parts D) : Type 0 where
  pub untouched : IsUntouched (disk_of g disk) (disk_of g p.cache.disk)
  pub no_fault : g.faults p.cache.disk ≡ g.faults disk
  pub clean : IsClean p.cache.held
  pub made : IsMade (state_of g p)
  -- it has the master and the live metaroot of the image, and its view
  pub volume : IsTrue (g.origin disk).shows → IsMountable (shown_by (disk_of g disk)) p.master (live_at p.place p.root)
  pub view : IsTrue (g.origin disk).shows → last_view g p ≡ view_of p.master.geometry (shown_by (disk_of g disk)) (live_at p.place p.root)
  -- where each block had one candidate, and the disk had had no fault, a cut leaves what is promised
  pub guarded : IsSettled (disk_of g disk) → IsGuarded g p
