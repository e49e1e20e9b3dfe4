-- A volume that was just mounted stands, and is guarded where nothing else may be found on its disk.
use Rattle.std.proofs.Common.{◌≡◌, inl, ℕ, ◌<◌, Bool, true, false, List, length, refl, sym, ap, ◌∙◌, subst, arith}
use Rattle.std.specs.Prelude.{IsTrue}
use Rattle.edge_base.specs.layout.Bitmap.{used_under}
use Rattle.edge_base.specs.layout.Places.{IsGeometry, inode_place_of}
use Rattle.edge_cache.specs.Calls.{content_in}
use Rattle.edge_cache.specs.Given.{or_shown}
use Rattle.edge_disk.specs.Disk.{Origin}
use Rattle.edge_disk.specs.Image.{Image, shown_image}
use Rattle.edge_disk.specs.State.{IsSettled, disk_of, shown_by}
use Rattle.edge_disk.specs.declared.disk.Disk.{Ghosts}
use Rattle.edge_image.specs.Image.{Live, free_inodes_of, roots_in, used_in}
use Rattle.edge_image.specs.Ready.{IsMountable}
use Rattle.edge_image.specs.View.{view_of, view_over}
use Rattle.edge_imap.specs.Bitmaps.{IsFit, IsTied}
use Rattle.edge_mount.specs.Mounted.{Mounts}
use Rattle.edge_mount.specs.Mounting.{live_at}
use Rattle.edge_mount.specs.declared.volume.Mounted.{Mounted}
use Rattle.edge_store.specs.View.{is_allocable}
use Rattle.edge_anchor.specs.Anchor.{Anchor, IsOn, anchor_in}
use Rattle.edge_anchor.specs.Medium.{IsCommitted, medium_of, shown_alone}
use Rattle.edge_anchor.proofs.CutLaws.{SureIsShown, committed_alone}
use Rattle.edge_anchor.proofs.MountLaws.{mounted_committed, mounted_on}
use Rattle.edge_anchor.proofs.PlaceLaws.{allocable_within}
use Rattle.edge_nodes.proofs.GeometryLaws.{limits}
use Rattle.edge_point.specs.Mounted.{MountsPoint, parts_at}
use Rattle.edge_point.specs.Seen.{IsGuarded, anchor_of, last_view, state_of, view_told}
use Rattle.edge_point.specs.Standing.{IsPoint, IsTold}

elim_bool : (P : Bool → Type 0) → P true → P false → (t : Bool) → P t
elim_bool P on off true = on
elim_bool P on off false = off

module _ {D : Type 0} (g : Ghosts D) (disk : D) (m : Mounted D) (is : Mounts g disk m) where
  content_shown : content_in g m.cache ≡ g.shown m.cache.disk
  content_shown = λ t k. or_shown (is.clean k t) (g.shown m.cache.disk k)

  image_same : shown_by (disk_of g m.cache.disk) ≡ shown_by (disk_of g disk)
  image_same = λ t. shown_image (is.untouched.origin t) (is.untouched.shown t)

  abbrev live : Live
  live = live_at m.place m.root

  abbrev with_roots : List ℕ → Anchor
  with_roots roots = record {
    master = m.master;
    place = m.place;
    root = m.root;
    roots = roots;
    used = used_under m.master.geometry roots (g.shown m.cache.disk);
  }

  there : IsTrue (g.origin m.cache.disk).shows → IsTrue (g.origin disk).shows
  there shows = subst (λ (o : Origin). IsTrue o.shows) is.untouched.origin shows

  volume_there : IsTrue (g.origin disk).shows → IsMountable (shown_by (disk_of g m.cache.disk)) m.master live
  volume_there shows = subst (λ (i : Image). IsMountable i m.master live) (sym image_same) (is.mountable shows)

  roots_there : IsTrue (g.origin disk).shows → m.imap.committed ≡ roots_in (shown_by (disk_of g m.cache.disk)) live
  roots_there shows = is.settled ∙ is.roots shows ∙ ap (λ (i : Image). roots_in i live) (sym image_same)

  -- the anchor that the image has is the store's
  same_anchor : IsTrue (g.origin disk).shows → anchor_in (shown_by (disk_of g m.cache.disk)) m.master live ≡ anchor_of g (parts_at m)
  same_anchor shows = ap with_roots (sym (roots_there shows))

  shown_committed : IsTrue (g.origin disk).shows → IsCommitted (anchor_of g (parts_at m)) (shown_alone (medium_of g m.cache))
  shown_committed shows = subst (λ (a : Anchor). IsCommitted a (shown_alone (medium_of g m.cache))) (same_anchor shows)
      (mounted_committed (shown_alone (medium_of g m.cache)) m.master live (volume_there shows) (λ i bytes sure e. e) (λ i below. tt) is.clean)

  tied_there : IsTrue (g.origin disk).shows → IsTied m.imap (content_in g m.cache)
  tied_there shows = subst (λ (s : ℕ → List ℕ). IsTied m.imap s) (sym is.untouched.shown ∙ sym content_shown) (is.tied shows)

  numbers_there : IsTrue (g.origin disk).shows
      → m.root.free_inodes ≡ free_inodes_of m.master.geometry (used_under m.master.geometry m.imap.working (content_in g m.cache))
  numbers_there shows = (volume_there shows).free_inodes
      ∙ (λ t. free_inodes_of m.master.geometry (used_under m.master.geometry ((sym (roots_there shows) ∙ is.settled) t) (sym content_shown t)))

  abbrev HasWhole : Type 0
  HasWhole = (b : ℕ) → IsTrue (g.origin m.cache.disk).shows → b < (g.origin m.cache.disk).blocks
      → length (g.shown m.cache.disk b) ≡ (g.origin m.cache.disk).block_size

  module _ (geometry : IsGeometry m.master.geometry) (whole : HasWhole) where
    fits_there : IsFit m.master.geometry (g.origin m.cache.disk)
    fits_there = subst (λ (o : Origin). IsFit m.master.geometry o) (sym is.untouched.origin) is.fits

    whole_there : IsTrue (g.origin m.cache.disk).shows → (b : ℕ) → is_allocable m.master.geometry b ≡ true
        → length (content_in g m.cache b) ≡ m.master.geometry.block_size
    whole_there shows b may =
        let fits = fits_there in
        let within = allocable_within m.master.geometry (limits m.master.geometry geometry) b may in
        ap (λ (s : ℕ → List ℕ). length (s b)) content_shown ∙ whole b shows (omega (arith, within.1, fits.blocks)) ∙ fits.size

    told_there : IsTrue (g.origin m.cache.disk).shows → IsTold g (parts_at m)
    told_there shows = record {
      committed = shown_committed (there shows);
      tied = tied_there (there shows);
      numbers = numbers_there (there shows);
      whole = whole_there shows;
      both_stay = λ n number first second. elim_bool
          (λ t. used_under m.master.geometry m.imap.working (content_in g m.cache) (inode_place_of m.master.geometry n t) ≡ true)
          (ap (λ (r : List ℕ). used_under m.master.geometry r (content_in g m.cache) (inode_place_of m.master.geometry n true)) (sym is.settled) ∙ second)
          (ap (λ (r : List ℕ). used_under m.master.geometry r (content_in g m.cache) (inode_place_of m.master.geometry n false)) (sym is.settled) ∙ first);
    }

    pub mounted_point : IsPoint g (parts_at m)
    mounted_point =
        let sequence = is.sequence in
        record {
          fits = fits_there;
          geometry = geometry;
          imap = is.geometry;
          block = is.block;
          first = is.first;
          place = is.place;
          points = omega arith;
          sequence = omega arith;
          untorn = λ live. refl;
          undamaged = λ live. refl;
          told = λ live shows. told_there shows;
        }

  module _ (law : SureIsShown (medium_of g m.cache)) (settled : IsSettled (disk_of g disk)) where
    shows : IsTrue (g.origin disk).shows
    shows = settled.told.shows

    all_sure : (k : ℕ) → k < (g.origin m.cache.disk).blocks → g.is_sure m.cache.disk k
    all_sure k below = is.untouched.candidates.sure_stays k (settled.sure k (subst (λ (o : Origin). k < o.blocks) is.untouched.origin below))

    last_committed : IsCommitted (anchor_of g (parts_at m)) (medium_of g m.cache)
    last_committed = subst (λ (a : Anchor). IsCommitted a (medium_of g m.cache)) (same_anchor shows)
        (mounted_committed (medium_of g m.cache) m.master live (volume_there shows) law all_sure is.clean)

    last_on : IsOn (g.origin m.cache.disk) (anchor_of g (parts_at m))
    last_on = subst (IsOn (g.origin m.cache.disk)) (same_anchor shows) (mounted_on (medium_of g m.cache) m.master live (volume_there shows))

    mounted_guarded : IsGuarded g (parts_at m)
    mounted_guarded = record {
      shows = subst (λ (o : Origin). IsTrue o.shows) (sym is.untouched.origin) shows;
      keeps = subst (λ (o : Origin). IsTrue o.keeps) (sym is.untouched.origin) settled.told.keeps;
      no_fault = λ live. is.no_fault ∙ settled.told.no_fault;
      committed = λ live. last_committed;
      cut = λ image permitted plain. inl (committed_alone (medium_of g m.cache) law image permitted plain (anchor_of g (parts_at m)) last_on last_committed);
    }

  view_there : IsTrue (g.origin disk).shows → last_view g (parts_at m) ≡ view_of m.master.geometry (shown_by (disk_of g disk)) live
  unfolding view_of
  view_there shows =
      (λ t. view_over m.master.geometry (used_under m.master.geometry (roots_there shows t) (g.shown m.cache.disk)) (g.shown m.cache.disk))
      ∙ (λ t. view_over m.master.geometry (used_in m.master.geometry (image_same t) live) (image_same t).block)

  nothing_changed : (state_of g (parts_at m)).working ≡ (state_of g (parts_at m)).committed
  nothing_changed = λ t. view_told (g.origin m.cache.disk).shows
      (view_over m.master.geometry (used_under m.master.geometry (sym is.settled t) (content_shown t)) (content_shown t))

  pub mounts_point : SureIsShown (medium_of g m.cache) → MountsPoint g disk (parts_at m)
  mounts_point law = record {
    untouched = is.untouched;
    no_fault = is.no_fault;
    clean = is.clean;
    made = record { live = refl; points = refl; unchanged = nothing_changed; undamaged = refl };
    volume = is.mountable;
    view = view_there;
    guarded = mounted_guarded law;
  }
