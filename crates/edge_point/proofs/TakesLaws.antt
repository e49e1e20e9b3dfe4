-- What a call of `transact` leaves of the state of a store.
use Rattle.std.proofs.Common.{◌≡◌, inl, ◌+◌, ◌-◌, ◌≤◌, Bool, true, false, [], ◌∷◌, Some, None, refl, sym, ap, ◌∙◌, subst, arith}
use Rattle.std.specs.Prelude.{IsTrue, Ok, Err, if◌then◌else◌}
use Rattle.edge_base.specs.declared.node.Metaroot.{Metaroot}
use Rattle.edge_base.specs.layout.Places.{inode_place_of}
use Rattle.edge_base.specs.outside.Faults.{Because, Rose}
use Rattle.edge_cache.specs.Cached.{IsClean}
use Rattle.edge_cache.specs.Calls.{content_in, KeepsOthers}
use Rattle.edge_disk.specs.Disk.{Origin}
use Rattle.edge_disk.specs.State.{EachCut, disk_of, IsTold as IsDiskTold}
use Rattle.edge_disk.specs.declared.disk.Disk.{Ghosts}
use Rattle.edge_imap.specs.Bitmaps.{IsFit}
use Rattle.edge_store.specs.Calls.{Called, TakesPoint, damage_of}
use Rattle.edge_store.specs.View.{View, no_view}
use Rattle.edge_store.specs.declared.fault.StoreFault.{StoreFault}
use Rattle.edge_store.specs.declared.fault.StoreFault.TheVariants.{Device}
use Rattle.edge_anchor.specs.Anchor.{Anchor}
use Rattle.edge_anchor.specs.Medium.{Follows, IsCommitted, medium_of, shown_alone}
use Rattle.edge_anchor.proofs.CutLaws.{SureIsShown, committed_alone}
use Rattle.edge_phase.specs.Phases.{MayCommit, OpensAsEither, Settles, next_of}
use Rattle.edge_point.specs.Seen.{IsGuarded, anchor_of, last_view, made_with, next_view, places_of, state_of}
use Rattle.edge_phase.specs.Spared.{block_given}
use Rattle.edge_point.specs.Standing.{IsPoint}
use Rattle.edge_point.specs.Steps.{KeepsRest}
use Rattle.edge_point.specs.declared.parts.Parts.{Parts}
use Rattle.edge_point.proofs.StandsLaws.{point_on}
use Rattle.edge_point.proofs.TransactLaws.{taken, torn, last_is_next, last_stays_torn, next_is_next, next_stays_torn, places_next, taken_committed, taken_told, torn_cut}

-- values that are told alike
pub if_same : {A : Type 0} (x y : Bool) (v w o : A) → x ≡ y → (y ≡ true → v ≡ w) → (if x then v else o) ≡ (if y then w else o)
if_same x y v w o e same = ap (λ z. if z then v else o) e
    ∙ elim y as (λ z. (z ≡ true → v ≡ w) → (if z then v else o) ≡ (if z then w else o)) [ true ↦ λ f. f refl | false ↦ λ f. refl ] same

pub untorn_none : (t : Bool) (v w : View) → t ≡ false → (if t then Some v else None) ≡ (if t then Some w else None)
untorn_none true v w e = absurd (cc)
untorn_none false v w e = refl

module _ {D : Type 0} (g : Ghosts D) (p q : Parts D) (is : IsPoint g p) (live : p.live ≡ true) (root : Metaroot) (rest : KeepsRest p q)
    (origin : g.origin q.cache.disk ≡ g.origin p.cache.disk) (sequence : root.sequence ≡ p.root.sequence + 1)
    (may : IsTrue (g.origin p.cache.disk).shows → MayCommit g (anchor_of g p) (3 - p.place) root p.imap p.cache)
    (contents : KeepsOthers g (3 - p.place) p.cache q.cache) where
  abbrev last : Anchor
  last = anchor_of g p

  abbrev next : Anchor
  next = next_of (anchor_of g p) root p.imap.working (content_in g p.cache)

  tells : (g.origin q.cache.disk).shows ≡ (g.origin p.cache.disk).shows
  tells = ap (λ (o : Origin). o.shows) origin

  shows_before : IsTrue (g.origin q.cache.disk).shows → IsTrue (g.origin p.cache.disk).shows
  shows_before = subst (λ (o : Origin). IsTrue o.shows) origin

  disk_told : IsGuarded g p → IsDiskTold (disk_of g p.cache.disk)
  disk_told guard = record { shows = guard.shows; keeps = guard.keeps; no_fault = guard.no_fault live }

  -- ---- after Ok

  module _ (settles : Settles p.imap q.imap) (clean : IsClean q.cache.held) (passed : g.faults q.cache.disk ≡ g.faults p.cache.disk)
      (shown : IsTrue (g.origin p.cache.disk).shows → IsCommitted next (shown_alone (medium_of g q.cache)))
      (committed : IsDiskTold (disk_of g p.cache.disk) → IsCommitted last (medium_of g p.cache) → IsCommitted next (medium_of g q.cache))
      (law : SureIsShown (medium_of g q.cache)) where
    pub taken_point : IsPoint g (taken g p q root)
    taken_point =
        let first = is.first in
        let place = is.place in
        let points = is.points in
        let most = is.sequence in
        record {
          fits = subst (λ (o : Origin). IsFit p.master.geometry o) (sym origin) is.fits;
          geometry = is.geometry;
          imap = settles.geometry ∙ is.imap;
          block = rest.block ∙ is.block;
          first = omega arith;
          place = omega arith;
          points = omega arith;
          sequence = omega arith;
          untorn = is.untorn;
          undamaged = is.undamaged;
          told = λ l tells. taken_told g p is live q (shows_before tells) contents root settles clean (shown (shows_before tells));
        }

    taken_guarded : IsGuarded g p → IsGuarded g (taken g p q root)
    taken_guarded guard =
        let stands = taken_committed g p is live q guard.shows contents root settles clean (committed (disk_told guard) (guard.committed live)) in
        record {
          shows = subst (λ (o : Origin). IsTrue o.shows) (sym origin) guard.shows;
          keeps = subst (λ (o : Origin). IsTrue o.keeps) (sym origin) guard.keeps;
          no_fault = λ l. passed ∙ guard.no_fault live;
          committed = λ l. stands;
          cut = λ image permitted plain. inl (committed_alone (medium_of g q.cache) law image permitted plain (anchor_of g (taken g p q root))
              (point_on g (taken g p q root) taken_point) stands);
        }

    pub taken_called : {T : Type 0} (v : T) → Called (state_of g p) (state_of g (taken g p q root)) (Ok v)
    taken_called v =
        let points = is.points in
        let others : root.sequence - (p.points + 1) ≡ p.root.sequence - p.points = omega arith in
        record {
          origin = λ t. record { request = p.master.geometry; tells = tells t; others = others t ∷ p.master.time ∷ made_with (origin t) };
          live = live;
          cause = record { later = omega (arith, passed); passed = (passed, refl); failed = λ fault h. absurd (cc h) };
          guarded = taken_guarded;
        }

    pub taken_takes : {T : Type 0} (v : T) → TakesPoint (state_of g p) (state_of g (taken g p q root)) (Ok v)
    taken_takes v = record {
      committed = if_same _ _ (last_view g (taken g p q root)) (next_view g p) no_view tells (λ s. last_is_next g p is live q s contents root settles clean);
      points = refl;
      working = record {
        working = if_same _ _ (next_view g (taken g p q root)) (next_view g p) no_view tells (λ s. next_is_next g p is live q s contents root settles clean);
        places = λ t n. if_same _ _ (places_of g (taken g p q root) n) (places_of g p n) (inode_place_of p.master.geometry n false) tells
            (λ s. places_next g p is live q s contents root settles clean n) t;
      };
      none_under_way = untorn_none p.torn _ _ (is.untorn live);
      failed_committed = tt;
      failed_points = tt;
      failed_under_way = tt;
    }

  -- ---- after a fault

  abbrev LeavesEither : Type 0
  LeavesEither = IsDiskTold (disk_of g p.cache.disk) → IsCommitted last (medium_of g p.cache)
      → EachCut (disk_of g q.cache.disk) (OpensAsEither last next (content_in g p.cache))

  abbrev FollowsBlock : Type 0
  FollowsBlock = IsTrue (g.origin p.cache.disk).shows → Follows (block_given (3 - p.place)) (medium_of g p.cache) (medium_of g q.cache)

  module _ (unsettled : q.imap ≡ p.imap) (rose : Rose (g.faults p.cache.disk) (g.faults q.cache.disk)) (later : g.faults p.cache.disk ≤ g.faults q.cache.disk)
      (follows : FollowsBlock) (cut : LeavesEither) where
    pub torn_point : IsPoint g (torn g p q)
    torn_point = record {
      fits = subst (λ (o : Origin). IsFit p.master.geometry o) (sym origin) is.fits;
      geometry = is.geometry;
      imap = ap (λ m. m.geometry) unsettled ∙ is.imap;
      block = rest.block ∙ is.block;
      first = is.first;
      place = is.place;
      points = is.points;
      sequence = is.sequence;
      untorn = λ l. absurd (cc l);
      undamaged = λ l. absurd (cc l);
      told = λ l. absurd (cc l);
    }

    torn_guarded : IsGuarded g p → IsGuarded g (torn g p q)
    torn_guarded guard = record {
      shows = subst (λ (o : Origin). IsTrue o.shows) (sym origin) guard.shows;
      keeps = subst (λ (o : Origin). IsTrue o.keeps) (sym origin) guard.keeps;
      no_fault = λ l. absurd (cc l);
      committed = λ l. absurd (cc l);
      cut = torn_cut g p is live q guard.shows contents unsettled (follows guard.shows) root sequence (cut (disk_told guard) (guard.committed live));
    }

    pub torn_called : {T : Type 0} → Called {T = T} (state_of g p) (state_of g (torn g p q)) (Err Device)
    torn_called = record {
      origin = λ t. record { request = p.master.geometry; tells = tells t; others = (p.root.sequence - p.points) ∷ p.master.time ∷ made_with (origin t) };
      live = refl;
      cause = record {
        later = later;
        passed = tt;
        failed = λ fault h. let e : Device ≡ fault = cc h in
            subst (λ (f : StoreFault). Because (g.faults p.cache.disk) (g.faults q.cache.disk) p.damage p.damage (damage_of f)) e (rose, refl);
      };
      guarded = torn_guarded;
    }

    pub torn_takes : {T : Type 0} → TakesPoint {T = T} (state_of g p) (state_of g (torn g p q)) (Err Device)
    torn_takes = record {
      committed = tt;
      points = tt;
      working = tt;
      none_under_way = tt;
      failed_committed = if_same _ _ (last_view g (torn g p q)) (last_view g p) no_view tells
          (λ s. last_stays_torn g p is live q s contents unsettled (follows s));
      failed_points = refl;
      failed_under_way = ap Some (if_same _ _ (next_view g (torn g p q)) (next_view g p) no_view tells
          (λ s. next_stays_torn g p is live q s contents unsettled (follows s)));
    }
