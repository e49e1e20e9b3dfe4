-- What a point asks of the last one, and what a cut inside it leaves.
use Rattle.std.specs.Prelude.{◌≡◌, ◌⊎◌, ◌+◌, ℕ, List}
use Rattle.edge_base.specs.declared.node.Metaroot.{Metaroot}
use Rattle.edge_base.specs.layout.Bitmap.{used_under}
use Rattle.edge_cache.specs.Cached.{Cached}
use Rattle.edge_cache.specs.Calls.{content_in}
use Rattle.edge_disk.specs.Image.{Image}
use Rattle.edge_disk.specs.declared.disk.Disk.{Ghosts}
use Rattle.edge_image.specs.Image.{free_inodes_of}
use Rattle.edge_imap.specs.Bitmaps.{Bitmaps, IsTied, working_use}
use Rattle.edge_anchor.specs.Anchor.{Anchor, HangsOn, IsOn, geometry_of, spare_of, view_at}
use Rattle.edge_anchor.specs.Opens.{OpensAs}

-- the anchor of the point after a, with this metaroot and these bytes of a bitmap, over what blocks hold
abbrev pub next_of : Anchor → Metaroot → List ℕ → (ℕ → List ℕ) → Anchor
next_of a root roots content = record { master = a.master; place = spare_of a; root = root; roots = roots; used = used_under (geometry_of a) roots content }

-- A metaroot and its bitmap may follow those of anchor a: with the next sequence number, and leading to what the cache holds.
pub record MayFollow {D : Type 0} (g : Ghosts D) (a : Anchor) (root : Metaroot) (roots : List ℕ) (c : Cached D) : Type 0 where
  pub on : IsOn (g.origin c.disk) a
  pub sequence : root.sequence ≡ a.root.sequence + 1
  pub hangs : HangsOn (next_of a root roots (content_in g c)) (content_in g c)

-- The metaroot of the next point of a bitmap: with the next sequence number and the counts of its working list, over what blocks hold.
pub record IsNextRoot (a : Anchor) (m : Bitmaps) (content : ℕ → List ℕ) (root : Metaroot) : Type 0 where
  pub sequence : root.sequence ≡ a.root.sequence + 1
  pub free_blocks : root.free_blocks ≡ m.counts.free + m.counts.almost
  pub free_inodes : root.free_inodes ≡ free_inodes_of (geometry_of a) (working_use m content)

-- A point from anchor a may be taken of a cache and its bitmap, with this metaroot in this block.
pub record MayCommit {D : Type 0} (g : Ghosts D) (a : Anchor) (place : ℕ) (root : Metaroot) (m : Bitmaps) (c : Cached D) : Type 0 where
  pub on : IsOn (g.origin c.disk) a
  pub geometry : geometry_of a ≡ m.geometry
  pub spare : spare_of a ≡ place
  pub tied : IsTied m (content_in g c)
  pub next : IsNextRoot a m (content_in g c) root

-- The working list became that of the last point.
pub record Settles (old new : Bitmaps) : Type 0 where
  pub geometry : new.geometry ≡ old.geometry
  pub committed : new.committed ≡ old.working
  pub working : new.working ≡ old.working
  pub tied : (content : ℕ → List ℕ) → IsTied old content → IsTied new content

-- The image opens by the one anchor or by the other, with its view of what blocks held.
abbrev pub OpensAsEither : Anchor → Anchor → (ℕ → List ℕ) → Image → Type 0
OpensAsEither a b content image = OpensAs a (view_at a content) image ⊎ OpensAs b (view_at b content) image
