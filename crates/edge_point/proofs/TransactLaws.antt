-- A point of a store: what stands after it, and after one that a fault cut short.
use Rattle.std.proofs.Common.{◌≡◌, inl, inr, ⊎_elim, ℕ, ◌+◌, ◌-◌, ◌<◌, ◌≤◌, ◌^◌, ◌&&◌, Bool, true, false, not, List, length, refl, sym, ap, ◌∙◌, subst, arith}
use Rattle.std.specs.Prelude.{IsTrue}
use Rattle.edge_base.specs.declared.geometry.Request.{Request}
use Rattle.edge_base.specs.declared.node.Metaroot.{Metaroot}
use Rattle.edge_base.specs.layout.Bitmap.{live_place, used_under}
use Rattle.edge_base.specs.layout.Sizes.{is_block_size}
use Rattle.edge_base.specs.layout.Places.{IsGeometry, IsWithinLimits, first_allocable_of, allocable_of, inode_place_of}
use Rattle.edge_cache.specs.Cached.{IsClean}
use Rattle.edge_cache.specs.Calls.{content_in, KeepsOthers}
use Rattle.edge_cache.specs.Given.{or_shown}
use Rattle.edge_disk.specs.State.{EachCut, disk_of}
use Rattle.edge_disk.specs.declared.disk.Disk.{Ghosts}
use Rattle.edge_image.specs.Image.{free_inodes_of}
use Rattle.edge_image.specs.View.{view_over}
use Rattle.edge_imap.specs.Bitmaps.{SameNodes, working_use}
use Rattle.edge_imap.proofs.BitLaws.{long_blocks}
use Rattle.edge_imap.proofs.CountLaws.{count-few}
use Rattle.edge_imap.proofs.ListLaws.{counts_working, use_same}
use Rattle.edge_imap.proofs.TieLaws.{tie_stays}
use Rattle.edge_nodes.proofs.GeometryLaws.{limits}
use Rattle.edge_store.specs.View.{View, is_number}
use Rattle.edge_anchor.specs.Anchor.{Anchor, HasBit, to_node, to_used, Needs, view_at}
use Rattle.edge_anchor.specs.Medium.{Follows, IsCommitted, medium_of, shown_alone}
use Rattle.edge_anchor.specs.Opens.{OpensAs}
use Rattle.edge_anchor.proofs.HangLaws.{spare_far, spare_low, root_apart}
use Rattle.edge_anchor.proofs.KeepLaws.{shown_kept, shown_follows}
use Rattle.edge_anchor.proofs.PlaceLaws.{allocable_within, free_inodes_same, place_has_bit}
use Rattle.edge_anchor.proofs.ViewLaws.{used_same, view_stays}
use Rattle.edge_phase.specs.Phases.{MayCommit, OpensAsEither, Settles, next_of}
use Rattle.edge_point.specs.Seen.{IsLeft, anchor_of, last_view, next_view, place_under, places_of, second_alone}
use Rattle.edge_phase.specs.Spared.{as_told, block_given}
use Rattle.edge_point.specs.Standing.{IsPoint, IsTold}
use Rattle.edge_point.specs.Steps.{KeepsRest}
use Rattle.edge_point.specs.declared.parts.Parts.{Parts}
use Rattle.edge_phase.proofs.SparedLaws.{told_committed}
use Rattle.edge_point.proofs.StandsLaws.{point_on}

elim_bool : (P : Bool → Type 0) → P true → P false → (t : Bool) → P t
elim_bool P on off true = on
elim_bool P on off false = off

pub place_same : (g : Request) (used now : ℕ → Bool) (n : ℕ)
    → (is_number g n ≡ true → (second : Bool) → now (inode_place_of g n second) ≡ used (inode_place_of g n second)) → place_under g now n ≡ place_under g used n
place_same g used now n same = elim (is_number g n) as
    (λ x. is_number g n ≡ x → inode_place_of g n (x && second_alone (now (inode_place_of g n false)) (now (inode_place_of g n true)))
    ≡ inode_place_of g n (x && second_alone (used (inode_place_of g n false)) (used (inode_place_of g n true)))) [
      | true ↦ λ e t. inode_place_of g n (second_alone (same e false t) (same e true t))
      | false ↦ λ e. refl
    ] refl

module _ {D : Type 0} (g : Ghosts D) where
  -- the parts of p, with the cache, the bitmap and the room of q
  abbrev pub joined : Parts D → Parts D → Parts D
  joined p q = record {
    cache = q.cache;
    imap = q.imap;
    master = p.master;
    place = p.place;
    root = p.root;
    points = p.points;
    numbers = p.numbers;
    next = p.next;
    live = p.live;
    torn = p.torn;
    damage = p.damage;
    block = q.block;
  }

  -- and with the point that was taken
  abbrev pub taken : Parts D → Parts D → Metaroot → Parts D
  taken p q root = record {
    cache = q.cache;
    imap = q.imap;
    master = p.master;
    place = 3 - p.place;
    root = root;
    points = p.points + 1;
    numbers = p.numbers;
    next = p.next;
    live = p.live;
    torn = p.torn;
    damage = p.damage;
    block = q.block;
  }

  -- or with one that a fault cut short
  abbrev pub torn : Parts D → Parts D → Parts D
  torn p q = record {
    cache = q.cache;
    imap = q.imap;
    master = p.master;
    place = p.place;
    root = p.root;
    points = p.points;
    numbers = p.numbers;
    next = p.next;
    live = false;
    torn = true;
    damage = p.damage;
    block = q.block;
  }

  pub joined_is : (p q : Parts D) → KeepsRest p q → joined p q ≡ q
  joined_is p q rest = λ t. record {
    cache = q.cache;
    imap = q.imap;
    master = sym rest.master t;
    place = sym rest.place t;
    root = sym rest.root t;
    points = sym rest.points t;
    numbers = sym rest.numbers t;
    next = sym rest.next t;
    live = sym rest.live t;
    torn = sym rest.torn t;
    damage = sym rest.damage t;
    block = q.block;
  }

  module _ (p : Parts D) (is : IsPoint g p) (live : p.live ≡ true) where
    abbrev request : Request
    request = p.master.geometry

    bounds : IsWithinLimits request
    bounds = limits request is.geometry

    -- ---- it may be taken

    pub few_free : IsTrue (g.origin p.cache.disk).shows → p.imap.counts.free + p.imap.counts.almost < 2 ^ 32
    few_free shows =
        let told = is.told live shows in
        let most = count-few (λ b. not (working_use p.imap (content_in g p.cache) b)) (first_allocable_of p.imap.geometry) (allocable_of p.imap.geometry) in
        let sum = counts_working p.imap (content_in g p.cache) told.tied in
        let small = (limits p.imap.geometry (subst (λ (r : Request). IsGeometry r) (sym is.imap) is.geometry)).blocks in
        omega arith

    pub may_commit : (root : Metaroot) → IsTrue (g.origin p.cache.disk).shows → root.sequence ≡ p.root.sequence + 1
        → (p.imap.counts.free + p.imap.counts.almost < 2 ^ 32 → root.free_blocks ≡ p.imap.counts.free + p.imap.counts.almost)
        → root.free_inodes ≡ p.numbers → MayCommit g (anchor_of g p) (3 - p.place) root p.imap p.cache
    may_commit root shows sequence free numbers =
        let told = is.told live shows in
        record {
          on = point_on g p is;
          geometry = sym is.imap;
          spare = refl;
          tied = told.tied;
          next = record {
            sequence = sequence;
            free_blocks = free (few_free shows);
            free_inodes = numbers ∙ told.numbers
                ∙ ap (λ (r : Request). free_inodes_of request (used_under r p.imap.working (content_in g p.cache))) (sym is.imap);
          };
        }

    -- ---- what stays of what blocks hold

    module _ (q : Parts D) (shows : IsTrue (g.origin p.cache.disk).shows) (contents : KeepsOthers g (3 - p.place) p.cache q.cache) where
      same : (k : ℕ) → 3 ≤ k → content_in g q.cache k ≡ content_in g p.cache k
      same k far = contents shows k (λ e. let first = is.first in omega arith)

      same_nodes : SameNodes request (content_in g p.cache) (content_in g q.cache)
      same_nodes j second below = same _ (omega arith)

      same_use : (roots : List ℕ) (b : ℕ) → b < request.blocks
          → used_under request roots (content_in g q.cache) b ≡ used_under request roots (content_in g p.cache) b
      same_use roots = use_same request roots (content_in g p.cache) (content_in g q.cache) bounds same_nodes

      far_bit : (b : ℕ) → HasBit request b → 3 ≤ b
      far_bit b has = let from = has.from in omega arith

      -- the working view
      next_stays : view_over request (used_under request p.imap.working (content_in g q.cache)) (content_in g q.cache) ≡ next_view g p
      next_stays = view_stays request (used_under request p.imap.working (content_in g p.cache)) (used_under request p.imap.working (content_in g q.cache))
          (content_in g p.cache) (content_in g q.cache) bounds
          (λ b has. record { same_use = same_use p.imap.working b has.below; bytes = λ used. same b (far_bit b has) })

      places_stay : (n : ℕ) → place_under request (used_under request p.imap.working (content_in g q.cache)) n ≡ places_of g p n
      places_stay n = place_same request (used_under request p.imap.working (content_in g p.cache)) (used_under request p.imap.working (content_in g q.cache)) n
          (λ number second. same_use p.imap.working _ (place_has_bit request bounds n second number).below)

      -- ---- after it

      module _ (root : Metaroot) (settles : Settles p.imap q.imap) (clean : IsClean q.cache.held) where
        content_shown : content_in g q.cache ≡ g.shown q.cache.disk
        content_shown = λ t k. or_shown (clean k t) (g.shown q.cache.disk k)

        pub last_is_next : last_view g (taken p q root) ≡ next_view g p
        last_is_next = (λ t. view_over request (used_under request (settles.committed t) (sym content_shown t)) (sym content_shown t)) ∙ next_stays

        pub next_is_next : next_view g (taken p q root) ≡ next_view g p
        next_is_next = (λ t. view_over request (used_under request (settles.working t) (content_in g q.cache)) (content_in g q.cache)) ∙ next_stays

        pub places_next : (n : ℕ) → places_of g (taken p q root) n ≡ places_of g p n
        places_next n = ap (λ (r : List ℕ). place_under request (used_under request r (content_in g q.cache)) n) settles.working ∙ places_stay n

        abbrev next : Anchor
        next = next_of (anchor_of g p) root p.imap.working (content_in g p.cache)

        same_anchor : as_told next (g.shown q.cache.disk) ≡ anchor_of g (taken p q root)
        same_anchor = λ t. record {
          master = p.master;
          place = 3 - p.place;
          root = root;
          roots = sym settles.committed t;
          used = used_under request (sym settles.committed t) (g.shown q.cache.disk);
        }

        pub taken_told : IsCommitted next (shown_alone (medium_of g q.cache)) → IsTold g (taken p q root)
        taken_told shown =
            let told = is.told live shows in
            let equal : q.imap.committed ≡ q.imap.working = settles.committed ∙ sym settles.working in
            let there : SameNodes p.imap.geometry (content_in g p.cache) (content_in g q.cache)
            = subst (λ (r : Request). SameNodes r (content_in g p.cache) (content_in g q.cache)) (sym is.imap) same_nodes in
            let size = subst (λ (r : Request). IsTrue (is_block_size r.block_size)) (sym is.imap) bounds.block_size in
            record {
              committed = subst (λ (a : Anchor). IsCommitted a (shown_alone (medium_of g q.cache))) same_anchor
                  (told_committed next (shown_alone (medium_of g q.cache)) shown);
              tied = settles.tied (content_in g q.cache) (tie_stays p.imap (content_in g p.cache) (content_in g q.cache)
                  (long_blocks p.imap.geometry.block_size size) there told.tied);
              numbers = told.numbers
                  ∙ sym (free_inodes_same request bounds (used_under request p.imap.working (content_in g p.cache)) (used_under request p.imap.working (content_in g q.cache))
                  (λ b has. same_use p.imap.working b has.below))
                  ∙ ap (λ (r : List ℕ). free_inodes_of request (used_under request r (content_in g q.cache))) (sym settles.working);
              whole = λ b may. ap length (same b (let within = (allocable_within request bounds b may).0 in omega arith)) ∙ told.whole b may;
              both_stay = λ n number first second. elim_bool
                  (λ t. used_under request q.imap.working (content_in g q.cache) (inode_place_of request n t) ≡ true)
                  (ap (λ (r : List ℕ). used_under request r (content_in g q.cache) (inode_place_of request n true)) (sym equal) ∙ second)
                  (ap (λ (r : List ℕ). used_under request r (content_in g q.cache) (inode_place_of request n false)) (sym equal) ∙ first);
            }

        pub taken_committed : IsCommitted next (medium_of g q.cache) → IsCommitted (anchor_of g (taken p q root)) (medium_of g q.cache)
        taken_committed committed = subst (λ (a : Anchor). IsCommitted a (medium_of g q.cache)) same_anchor (told_committed next (medium_of g q.cache) committed)

      -- ---- where a fault cut it short

      module _ (unsettled : q.imap ≡ p.imap) (follows : Follows (block_given (3 - p.place)) (medium_of g p.cache) (medium_of g q.cache)) where
        abbrev last : Anchor
        last = anchor_of g p

        committed : IsCommitted last (shown_alone (medium_of g p.cache))
        committed = (is.told live shows).committed

        kept : (k : ℕ) → Needs last k → g.shown q.cache.disk k ≡ g.shown p.cache.disk k
        kept = shown_kept (block_given (3 - p.place)) (shown_alone (medium_of g p.cache)) (shown_alone (medium_of g q.cache))
            (shown_follows (block_given (3 - p.place)) (medium_of g p.cache) (medium_of g q.cache) follows)
            (Needs last) (λ k c given needs. spare_needed (subst (Needs last) given needs)) committed.needed
          where
            spare_needed : Needs last (3 - p.place) → ⊥
            spare_needed =
                let on = point_on g p is in
                let low = spare_low (g.origin p.cache.disk) last on in
                ⊎_elim (spare_far (g.origin p.cache.disk) last on) (root_apart last (3 - p.place) low.0 low.1)

        pub last_stays_torn : last_view g (torn p q) ≡ last_view g p
        last_stays_torn =
            (λ t. view_over request (used_under request (unsettled t).committed (g.shown q.cache.disk)) (g.shown q.cache.disk))
            ∙ view_stays request last.used (used_under request p.imap.committed (g.shown q.cache.disk)) (g.shown p.cache.disk) (g.shown q.cache.disk) bounds
            (λ b has. record {
              same_use = used_same request p.imap.committed (g.shown p.cache.disk) (g.shown q.cache.disk) bounds
                  (λ i below. kept (live_place request p.imap.committed i) (inr (to_node i below refl))) b has;
              bytes = λ used. kept b (inr (to_used has used));
            })

        pub next_stays_torn : next_view g (torn p q) ≡ next_view g p
        next_stays_torn = (λ t. view_over request (used_under request (unsettled t).working (content_in g q.cache)) (content_in g q.cache)) ∙ next_stays

        held_view : view_at last (content_in g p.cache) ≡ last_view g p
        held_view = view_stays request last.used last.used (g.shown p.cache.disk) (content_in g p.cache) bounds
            (λ b has. record { same_use = refl; bytes = λ used. ap (λ w. or_shown w (g.shown p.cache.disk b)) (committed.needed.idle b (inr (to_used has used))) })

        pub torn_cut : (root : Metaroot) → root.sequence ≡ p.root.sequence + 1
            → EachCut (disk_of g q.cache.disk) (OpensAsEither last (next_of last root p.imap.working (content_in g p.cache)) (content_in g p.cache))
            → EachCut (disk_of g q.cache.disk) (IsLeft g (torn p q))
        torn_cut root sequence either image permitted plain = ⊎_elim before inside (either image permitted plain)
          where
            before : OpensAs last (view_at last (content_in g p.cache)) image → IsLeft g (torn p q) image
            before o = inl (record {
              blocks = o.blocks;
              master = o.master;
              size = o.size;
              fits = o.fits;
              live = o.live;
              imap_nodes = o.imap_nodes;
              free_blocks = o.free_blocks;
              free_inodes = o.free_inodes;
              view = o.view ∙ held_view ∙ sym last_stays_torn;
            })

            inside : OpensAs (next_of last root p.imap.working (content_in g p.cache)) (next_view g p) image → IsLeft g (torn p q) image
            inside o = inr (
              refl,
              (
                next_of last root p.imap.working (content_in g p.cache),
                record { master = refl; place = refl; sequence = sequence },
                subst (λ (v : View). OpensAs (next_of last root p.imap.working (content_in g p.cache)) v image) (sym next_stays_torn) o,
              ),
            )
