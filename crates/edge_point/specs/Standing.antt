-- What holds of every store over a disk.
use Rattle.std.specs.Prelude.{◌≡◌, ◌≤◌, ◌<◌, ◌+◌, ◌^◌, ℕ, Bool, true, false, length, None, IsTrue}
use Rattle.edge_base.specs.layout.Bitmap.{used_under}
use Rattle.edge_base.specs.layout.Places.{IsGeometry, inode_place_of}
use Rattle.edge_cache.specs.Calls.{content_in}
use Rattle.edge_disk.specs.declared.disk.Disk.{Ghosts}
use Rattle.edge_image.specs.Image.{free_inodes_of}
use Rattle.edge_imap.specs.Bitmaps.{IsFit, IsTied}
use Rattle.edge_store.specs.View.{is_allocable, is_number}
use Rattle.edge_anchor.specs.Medium.{IsCommitted, medium_of, shown_alone}
use Rattle.edge_point.specs.declared.parts.Parts.{Parts}
use Rattle.edge_point.specs.Seen.{anchor_of}

module _ {D : Type 0} (g : Ghosts D) where
  -- What is shown has the last point, and the bitmap belongs to what the cache gives.
  pub record IsTold (p : Parts D) : Type 0 where
    pub committed : IsCommitted (anchor_of g p) (shown_alone (medium_of g p.cache))
    pub tied : IsTied p.imap (content_in g p.cache)
    -- the count of numbers without an inode is that of the working list
    pub numbers : p.numbers ≡ free_inodes_of p.master.geometry (used_under p.master.geometry p.imap.working (content_in g p.cache))
    -- what is read of an allocable block is a whole block
    pub whole : (b : ℕ) → is_allocable p.master.geometry b ≡ true → length (content_in g p.cache b) ≡ p.master.geometry.block_size
    -- A number both of whose places the last point uses keeps both: its inode is damaged, and no call changes it.
    pub both_stay : (n : ℕ) → is_number p.master.geometry n ≡ true
        → used_under p.master.geometry p.imap.committed (content_in g p.cache) (inode_place_of p.master.geometry n false) ≡ true
        → used_under p.master.geometry p.imap.committed (content_in g p.cache) (inode_place_of p.master.geometry n true) ≡ true
        → (second : Bool) → used_under p.master.geometry p.imap.working (content_in g p.cache) (inode_place_of p.master.geometry n second) ≡ true

  pub record IsPoint (p : Parts D) : Type 0 where
    pub fits : IsFit p.master.geometry (g.origin p.cache.disk)
    pub geometry : IsGeometry p.master.geometry
    pub imap : p.imap.geometry ≡ p.master.geometry
    pub block : length p.block.items ≡ p.master.geometry.block_size
    pub first : 1 ≤ p.place
    pub place : p.place < 3
    pub points : p.points ≤ p.root.sequence
    pub sequence : p.root.sequence ≤ 2 ^ 63 + p.points
    -- a live store has no point under way, and no damage
    pub untorn : p.live ≡ true → p.torn ≡ false
    pub undamaged : p.live ≡ true → p.damage ≡ None
    -- up to the first fault, where what blocks hold is told
    pub told : p.live ≡ true → IsTrue (g.origin p.cache.disk).shows → IsTold p
