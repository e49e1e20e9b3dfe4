-- What a store over a disk means, as a store.
use Rattle.std.specs.Prelude.{◌≡◌, ◌⊎◌, ℕ, ◌-◌, ◌&&◌, Bool, true, false, if◌then◌else◌, List, [], ◌∷◌, Some, None, IsTrue}
use Rattle.edge_base.specs.declared.geometry.Request.{Request}
use Rattle.edge_base.specs.layout.Bitmap.{used_under}
use Rattle.edge_base.specs.layout.Places.{inode_place_of}
use Rattle.edge_base.specs.outside.Below.{Origin}
use Rattle.edge_cache.specs.Calls.{content_in}
use Rattle.edge_disk.specs.Disk.{Origin as DiskOrigin}
use Rattle.edge_disk.specs.Image.{Image}
use Rattle.edge_disk.specs.State.{EachCut, disk_of}
use Rattle.edge_disk.specs.declared.disk.Disk.{Ghosts}
use Rattle.edge_image.specs.View.{view_over}
use Rattle.edge_store.specs.State.{StoreState}
use Rattle.edge_store.specs.View.{View, is_number, no_view}
use Rattle.edge_anchor.specs.Anchor.{Anchor, IsNext}
use Rattle.edge_anchor.specs.Medium.{IsCommitted, medium_of}
use Rattle.edge_anchor.specs.Opens.{OpensAs}
use Rattle.edge_point.specs.declared.parts.Parts.{Parts}

-- a view, where what blocks hold is told
abbrev pub view_told : Bool → View → View
view_told tells v = if tells then v else no_view

-- whether of two places the second alone is used
abbrev pub second_alone : Bool → Bool → Bool
second_alone true second = false
second_alone false second = second

-- The place of a number's inode: the second where the second alone is used, and else the first.
abbrev pub place_under : Request → (ℕ → Bool) → ℕ → ℕ
place_under g used n = inode_place_of g n (is_number g n && second_alone (used (inode_place_of g n false)) (used (inode_place_of g n true)))

-- the sequence number of the last point
abbrev pub sequence_of : {D : Type 0} → Parts D → ℕ
sequence_of p = p.root.sequence

-- what the disk below was made with, as numbers
abbrev pub made_with : DiskOrigin → List ℕ
made_with o = o.blocks ∷ o.block_size ∷ (if o.keeps then 1 else 0) ∷ o.others

module _ {D : Type 0} (g : Ghosts D) where
  -- the metaroot of the last point, with what it says over what the disk shows
  abbrev pub anchor_of : Parts D → Anchor
  anchor_of p = record {
    master = p.master;
    place = p.place;
    root = p.root;
    roots = p.imap.committed;
    used = used_under p.master.geometry p.imap.committed (g.shown p.cache.disk);
  }

  -- the view of the last point, over what the disk shows, and that of the next one, over what the cache gives
  abbrev pub last_view : Parts D → View
  last_view p = view_over p.master.geometry (used_under p.master.geometry p.imap.committed (g.shown p.cache.disk)) (g.shown p.cache.disk)

  abbrev pub next_view : Parts D → View
  next_view p = view_over p.master.geometry (used_under p.master.geometry p.imap.working (content_in g p.cache)) (content_in g p.cache)

  -- the place of each inode
  abbrev pub places_of : Parts D → ℕ → ℕ
  places_of p = place_under p.master.geometry (used_under p.master.geometry p.imap.working (content_in g p.cache))

  -- what a cut may leave: the last point, or the one under way
  abbrev pub IsLeft : Parts D → Image → Type 0
  IsLeft p image = OpensAs (anchor_of p) (last_view p) image
      ⊎ ((p.torn ≡ true) × ((b : Anchor) × IsNext (anchor_of p) b × OpensAs b (next_view p) image))

  -- The disk tells what it shows and the candidates, and a cut leaves what is promised. A mount gives this where each block had one
  -- candidate and the disk had had no fault, and no call takes it away.
  pub record IsGuarded (p : Parts D) : Type 0 where
    pub shows : IsTrue (g.origin p.cache.disk).shows
    pub keeps : IsTrue (g.origin p.cache.disk).keeps
    pub no_fault : p.live ≡ true → g.faults p.cache.disk ≡ 0
    pub committed : p.live ≡ true → IsCommitted (anchor_of p) (medium_of g p.cache)
    -- whatever failed
    pub cut : EachCut (disk_of g p.cache.disk) (IsLeft p)

  -- what it was made with: the geometry, the sequence number that was read, the time of the master, and what the disk was made with
  abbrev pub origin_of : Parts D → Origin
  origin_of p = record {
    request = p.master.geometry;
    tells = (g.origin p.cache.disk).shows;
    others = (p.root.sequence - p.points) ∷ p.master.time ∷ made_with (g.origin p.cache.disk);
  }

  abbrev pub state_of : Parts D → StoreState
  state_of p =
      let tells = (g.origin p.cache.disk).shows in
      record {
        origin = origin_of p;
        live = p.live;
        committed = view_told tells (last_view p);
        working = view_told tells (next_view p);
        under_way = if p.torn then Some (view_told tells (next_view p)) else None;
        places = λ n. if tells then places_of p n else inode_place_of p.master.geometry n false;
        points = p.points;
        faults = g.faults p.cache.disk;
        damage = p.damage;
        guarded = IsGuarded p;
      }
