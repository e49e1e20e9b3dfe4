-- Calls that change the working view keep the last point, and all that holds of a store.
use Rattle.std.proofs.Common.{◌≡◌, inl, inr, ℕ, ◌-◌, ◌≤◌, Bool, true, false, [], ◌∷◌, Option, None, refl, sym, ap, ◌∙◌, subst, arith}
use Rattle.std.specs.Prelude.{IsTrue, Ok, Err}
use Rattle.edge_base.specs.declared.damage.Damage.{Damage}
use Rattle.edge_base.specs.declared.geometry.Request.{Request}
use Rattle.edge_base.specs.layout.Bitmap.{live_place, used_under}
use Rattle.edge_base.specs.layout.Places.{IsWithinLimits}
use Rattle.edge_base.specs.outside.Faults.{Because}
use Rattle.edge_cache.specs.Cached.{Cached}
use Rattle.edge_cache.specs.Calls.{content_in}
use Rattle.edge_cache.specs.Given.{or_shown}
use Rattle.edge_disk.specs.Disk.{Origin}
use Rattle.edge_disk.specs.declared.disk.Disk.{Ghosts}
use Rattle.edge_imap.specs.Bitmaps.{Bitmaps, IsFit, IsTied, bitmaps}
use Rattle.edge_store.specs.Calls.{Called, KeepsPoint, damage_of}
use Rattle.edge_store.specs.View.{no_view}
use Rattle.edge_store.specs.declared.fault.StoreFault.{StoreFault}
use Rattle.edge_anchor.specs.Anchor.{Anchor, HasBit, geometry_of, to_node}
use Rattle.edge_anchor.specs.Medium.{Follows, IsCommitted, medium_of, shown_alone}
use Rattle.edge_anchor.proofs.CutLaws.{SureIsShown, committed_alone}
use Rattle.edge_anchor.proofs.KeepLaws.{shown_follows}
use Rattle.edge_anchor.proofs.ViewLaws.{used_same}
use Rattle.edge_point.specs.Changing.{Changes, HasWorking, TakesStep}
use Rattle.edge_point.specs.Ended.{damage_after, ended}
use Rattle.edge_point.specs.Seen.{IsGuarded, anchor_of, made_with, last_view, state_of}
use Rattle.edge_phase.specs.Spared.{Spares}
use Rattle.edge_point.specs.Standing.{IsPoint, IsTold}
use Rattle.edge_point.specs.declared.parts.Parts.{Parts}
use Rattle.edge_phase.proofs.SparedLaws.{last_stays, last_view as view_stays}
use Rattle.edge_point.proofs.StandsLaws.{point_on}
use Rattle.edge_point.proofs.TakesLaws.{if_same, untorn_none}

-- ---- the list of the last point

-- what it tells over what a cache gives, it tells over what is shown
pub list_shown : {D : Type 0} (g : Ghosts D) (c : Cached D) (a : Anchor) → IsWithinLimits (geometry_of a) → IsCommitted a (shown_alone (medium_of g c)) → (k : ℕ) → HasBit (geometry_of a) k
    → used_under (geometry_of a) a.roots (content_in g c) k ≡ used_under (geometry_of a) a.roots (g.shown c.disk) k
list_shown g c a bounds is k has = used_same (geometry_of a) a.roots (g.shown c.disk) (content_in g c) bounds
    (λ i below. ap (λ w. or_shown w (g.shown c.disk (live_place (geometry_of a) a.roots i))) (is.needed.idle _ (inr (to_node i below refl)))) k has

module _ {D : Type 0} (g : Ghosts D) where
  -- the parts of p with what steps up to q changed, live or not, and with this damage
  abbrev pub changed : Parts D → Parts D → Bool → Option Damage → Parts D
  changed p q live damage = record {
    cache = q.cache;
    imap = bitmaps p.imap.geometry p.imap.committed q.imap.working q.imap.counts;
    master = p.master;
    place = p.place;
    root = p.root;
    points = p.points;
    numbers = q.numbers;
    next = q.next;
    live = live;
    torn = p.torn;
    damage = damage;
    block = q.block;
  }

  module _ (IsSuch : ℕ → Type 0) (p q : Parts D) (c : Changes g IsSuch p q) where
    imap_is : bitmaps p.imap.geometry p.imap.committed q.imap.working q.imap.counts ≡ q.imap
    imap_is = λ t. bitmaps (sym c.geometry t) (sym c.committed t) q.imap.working q.imap.counts

    changed_as : (l : Bool) (d : Option Damage) → changed p q l d ≡ record {
      cache = q.cache;
      imap = q.imap;
      master = q.master;
      place = q.place;
      root = q.root;
      points = q.points;
      numbers = q.numbers;
      next = q.next;
      live = l;
      torn = q.torn;
      damage = d;
      block = q.block;
    }
    changed_as l d = λ t. record {
      cache = q.cache;
      imap = imap_is t;
      master = sym c.master t;
      place = sym c.place t;
      root = sym c.root t;
      points = sym c.points t;
      numbers = q.numbers;
      next = q.next;
      live = l;
      torn = sym c.torn t;
      damage = d;
      block = q.block;
    }

    changed_is : changed p q p.live p.damage ≡ q
    changed_is = (λ t. changed p q (sym c.live t) (sym c.damage t)) ∙ changed_as q.live q.damage

    changed_ends : (d : Option Damage) → changed p q false d ≡ ended q d
    changed_ends d = changed_as false d

    module _ (is : IsPoint g p) (live : p.live ≡ true) where
      abbrev request : Request
      request = p.master.geometry

      abbrev last : Anchor
      last = anchor_of g p

      tells : (g.origin q.cache.disk).shows ≡ (g.origin p.cache.disk).shows
      tells = ap (λ (o : Origin). o.shows) c.origin

      pub shows_before : IsTrue (g.origin q.cache.disk).shows → IsTrue (g.origin p.cache.disk).shows
      shows_before = subst (λ (o : Origin). IsTrue o.shows) c.origin

      pub follows_shown : IsTrue (g.origin p.cache.disk).shows → Follows (Spares last) (shown_alone (medium_of g p.cache)) (shown_alone (medium_of g q.cache))
      follows_shown shows = shown_follows (Spares last) (medium_of g p.cache) (medium_of g q.cache) (c.spares shows)

      -- ---- the last point

      last_same : IsTrue (g.origin p.cache.disk).shows → (l : Bool) (d : Option Damage) → last_view g (changed p q l d) ≡ last_view g p
      last_same shows l d = view_stays last (shown_alone (medium_of g p.cache)) (shown_alone (medium_of g q.cache)) (follows_shown shows)
          (is.told live shows).committed

      pub last_shown : IsTrue (g.origin p.cache.disk).shows → (l : Bool) (d : Option Damage)
          → IsCommitted (anchor_of g (changed p q l d)) (shown_alone (medium_of g q.cache))
      last_shown shows l d = last_stays last (shown_alone (medium_of g p.cache)) (shown_alone (medium_of g q.cache)) (follows_shown shows)
          (is.told live shows).committed

      changed_keeps : (l : Bool) (d : Option Damage) → KeepsPoint (state_of g p) (state_of g (changed p q l d))
      changed_keeps l d = record {
        committed = if_same _ _ (last_view g (changed p q l d)) (last_view g p) no_view tells (λ s. last_same s l d);
        points = refl;
        under_way = untorn_none p.torn _ _ (is.untorn live);
      }

      -- ---- what holds of the store

      changed_told : IsTrue (g.origin p.cache.disk).shows → (l : Bool) (d : Option Damage) → HasWorking g (changed p q l d) → IsTold g (changed p q l d)
      changed_told shows l d works = record {
        committed = last_shown shows l d;
        tied = subst (λ (m : Bitmaps). IsTied m (content_in g q.cache)) (sym imap_is) (c.tied shows);
        numbers = works.numbers;
        whole = works.whole;
        both_stay = works.both_stay;
      }

      changed_point : (l : Bool) (d : Option Damage) → (l ≡ true → d ≡ None)
          → (l ≡ true → IsTrue (g.origin p.cache.disk).shows → HasWorking g (changed p q l d)) → IsPoint g (changed p q l d)
      changed_point l d undamaged works = record {
        fits = subst (λ (o : Origin). IsFit request o) (sym c.origin) is.fits;
        geometry = is.geometry;
        imap = is.imap;
        block = c.block ∙ is.block;
        first = is.first;
        place = is.place;
        points = is.points;
        sequence = is.sequence;
        untorn = λ h. is.untorn live;
        undamaged = undamaged;
        told = λ h shows. let before = shows_before shows in changed_told before l d (works h before);
      }

      changed_guarded : (l : Bool) (d : Option Damage) → IsPoint g (changed p q l d) → SureIsShown (medium_of g q.cache)
          → (l ≡ true → g.faults q.cache.disk ≡ g.faults p.cache.disk) → IsGuarded g p → IsGuarded g (changed p q l d)
      changed_guarded l d point law passed guard =
          let stands = last_stays last (medium_of g p.cache) (medium_of g q.cache) (c.spares guard.shows) (guard.committed live) in
          record {
            shows = subst (λ (o : Origin). IsTrue o.shows) (sym c.origin) guard.shows;
            keeps = subst (λ (o : Origin). IsTrue o.keeps) (sym c.origin) guard.keeps;
            no_fault = λ h. passed h ∙ guard.no_fault live;
            committed = λ h. stands;
            cut = λ image permitted plain. inl (committed_alone (medium_of g q.cache) law image permitted plain (anchor_of g (changed p q l d))
                (point_on g (changed p q l d) point) stands);
          }

      changed_called : {T : Type 0} (v : T) → IsPoint g (changed p q p.live p.damage) → SureIsShown (medium_of g q.cache)
          → g.faults q.cache.disk ≡ g.faults p.cache.disk → Called (state_of g p) (state_of g (changed p q p.live p.damage)) (Ok v)
      changed_called v point law passed = record {
        origin = λ t. record { request = request; tells = tells t; others = (p.root.sequence - p.points) ∷ p.master.time ∷ made_with (c.origin t) };
        live = live;
        cause = record { later = omega (arith, passed); passed = (passed, refl); failed = λ fault h. absurd (cc h) };
        guarded = changed_guarded p.live p.damage point law (λ h. passed);
      }

      changed_failed : {T : Type 0} (fault : StoreFault) (d : Option Damage) → SureIsShown (medium_of g q.cache)
          → g.faults p.cache.disk ≤ g.faults q.cache.disk → Because (g.faults p.cache.disk) (g.faults q.cache.disk) p.damage d (damage_of fault)
          → Called {T = T} (state_of g p) (state_of g (changed p q false d)) (Err fault)
      changed_failed fault d law later because = record {
        origin = λ t. record { request = request; tells = tells t; others = (p.root.sequence - p.points) ∷ p.master.time ∷ made_with (c.origin t) };
        live = refl;
        cause = record {
          later = later;
          passed = tt;
          failed = λ f h. let e : fault ≡ f = cc h in
              subst (λ (x : StoreFault). Because (g.faults p.cache.disk) (g.faults q.cache.disk) p.damage d (damage_of x)) e because;
        };
        guarded = changed_guarded false d (changed_point false d (λ h. absurd (cc h)) (λ h. absurd (cc h))) law (λ h. absurd (cc h));
      }

  -- ---- the answers of a call

  module _ (IsSuch : ℕ → Type 0) (p q : Parts D) (is : IsPoint g p) (live : p.live ≡ true) where
    -- after Ok
    pub passes_point : Changes g IsSuch p q → (IsTrue (g.origin p.cache.disk).shows → HasWorking g q) → IsPoint g q
    passes_point c works = subst (IsPoint g) (changed_is IsSuch p q c) (changed_point IsSuch p q c is live p.live p.damage is.undamaged
        (λ h shows. subst (HasWorking g) (sym (changed_is IsSuch p q c)) (works shows)))

    pub passes_keeps : Changes g IsSuch p q → KeepsPoint (state_of g p) (state_of g q)
    passes_keeps c = subst (λ (x : Parts D). KeepsPoint (state_of g p) (state_of g x)) (changed_is IsSuch p q c)
        (changed_keeps IsSuch p q c is live p.live p.damage)

    pub passes_called : {T : Type 0} (v : T) → TakesStep g IsSuch p q (Ok v) → IsPoint g q → SureIsShown (medium_of g q.cache) → Called (state_of g p) (state_of g q) (Ok v)
    passes_called v step point law =
        let same = changed_is IsSuch p q step.changes in
        subst (λ (x : Parts D). Called (state_of g p) (state_of g x) (Ok v)) same
        (changed_called IsSuch p q step.changes is live v (subst (IsPoint g) (sym same) point) law step.cause.passed.0)

    -- after a fault, which ends the store
    pub fails_point : (d : Option Damage) → Changes g IsSuch p q → IsPoint g (ended q d)
    fails_point d c = subst (IsPoint g) (changed_ends IsSuch p q c d)
        (changed_point IsSuch p q c is live false d (λ h. absurd (cc h)) (λ h. absurd (cc h)))

    pub fails_keeps : (d : Option Damage) → Changes g IsSuch p q → KeepsPoint (state_of g p) (state_of g (ended q d))
    fails_keeps d c = subst (λ (x : Parts D). KeepsPoint (state_of g p) (state_of g x)) (changed_ends IsSuch p q c d)
        (changed_keeps IsSuch p q c is live false d)

    pub fails_called : {T : Type 0} (fault : StoreFault) → TakesStep g {T = T} IsSuch p q (Err fault) → SureIsShown (medium_of g q.cache)
        → Called {T = T} (state_of g p) (state_of g (ended q (damage_after q.damage fault))) (Err fault)
    fails_called {T} fault step law =
        let c = step.changes in
        let same = changed_ends IsSuch p q c (damage_after p.damage fault) ∙ (λ t. ended q (damage_after (sym c.damage t) fault)) in
        subst (λ (x : Parts D). Called {T = T} (state_of g p) (state_of g x) (Err fault)) same
        (changed_failed IsSuch p q c is live fault (damage_after p.damage fault) law step.cause.later (step.cause.failed fault refl))
