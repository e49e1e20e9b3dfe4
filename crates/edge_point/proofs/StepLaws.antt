-- The steps of calls that change the working view, alone and one after another.
use Rattle.std.proofs.Common.{◌≡◌, ◌≢◌, inl, inr, ⊎_elim, ℕ, ◌+◌, ◌<◌, ◌≤◌, Bool, true, false, List, Option, refl, sym, ap, ◌∙◌, subst, arith}
use Rattle.std.specs.Prelude.{IsTrue, Result, Ok, Err}
use Rattle.edge_base.specs.declared.damage.Damage.{Damage}
use Rattle.edge_base.specs.declared.geometry.Request.{Request}
use Rattle.edge_base.specs.layout.Bitmap.{used_under}
use Rattle.edge_base.specs.layout.Places.{IsWithinLimits, imap_nodes_of, is_inline_of, table_start_of}
use Rattle.edge_base.specs.outside.Faults.{Because, TellsCause}
use Rattle.edge_cache.specs.Cached.{Cached}
use Rattle.edge_cache.specs.Calls.{OnlyChanges, content_in}
use Rattle.edge_disk.specs.Disk.{Origin}
use Rattle.edge_disk.specs.declared.disk.Disk.{Ghosts}
use Rattle.edge_imap.specs.Bitmaps.{Bitmaps, IsTied, SameNodes, bits_of, node_of, spare_place}
use Rattle.edge_imap.specs.Reading.{OnlyReads, Sets, TellsWhy}
use Rattle.edge_imap.specs.declared.fault.ImapFault.{ImapFault}
use Rattle.edge_imap.proofs.BitLaws.{long_blocks}
use Rattle.edge_imap.proofs.ListLaws.{spare_before}
use Rattle.edge_imap.proofs.TieLaws.{node_inside, tie_stays}
use Rattle.edge_mount.proofs.TellsLaws.{content_same}
use Rattle.edge_nodes.proofs.GeometryLaws.{limits}
use Rattle.edge_store.specs.Calls.{damage_of}
use Rattle.edge_store.specs.declared.fault.StoreFault.{StoreFault}
use Rattle.edge_anchor.specs.Anchor.{Anchor, HangsOn, HasBit, Needs, spare_of}
use Rattle.edge_anchor.specs.Medium.{Follows, medium_of, none_given, shown_alone}
use Rattle.edge_anchor.proofs.FreeLaws.{not_live_free, unused_free}
use Rattle.edge_anchor.proofs.KeepLaws.{follows_more, gives_follow, shown_follows}
use Rattle.edge_anchor.proofs.PlaceLaws.{low_place}
use Rattle.edge_anchor.proofs.ViewLaws.{used_same}
use Rattle.edge_point.specs.Changing.{Changes, TakesStep, committed_of, working_of}
use Rattle.edge_point.specs.Ended.{damage_after, of_imap}
use Rattle.edge_point.specs.Finding.{Sees, kept_after}
use Rattle.edge_point.specs.Seen.{anchor_of}
use Rattle.edge_phase.specs.Spared.{Spares, as_told}
use Rattle.edge_point.specs.Standing.{IsPoint}
use Rattle.edge_point.specs.Steps.{KeepsRest}
use Rattle.edge_point.specs.declared.parts.Parts.{Parts}
use Rattle.edge_point.proofs.ChangeLaws.{list_shown}
use Rattle.edge_point.proofs.EndedLaws.{imap_because}
use Rattle.edge_phase.proofs.SparedLaws.{block_spares, follows_then, led_told, spared_committed, write_follows}
use Rattle.edge_point.proofs.StandsLaws.{point_on}

-- the same parts over another cache and another bitmap
abbrev pub over : {D : Type 0} → Parts D → Bitmaps → Cached D → Parts D
over p m c = record {
  cache = c;
  imap = m;
  master = p.master;
  place = p.place;
  root = p.root;
  points = p.points;
  numbers = p.numbers;
  next = p.next;
  live = p.live;
  torn = p.torn;
  damage = p.damage;
  block = p.block;
}

pub rest_over : {D : Type 0} (p : Parts D) (m : Bitmaps) (c : Cached D) → KeepsRest p (over p m c)
rest_over p m c =
    record { master = refl; place = refl; root = refl; points = refl; numbers = refl; next = refl; live = refl; torn = refl; damage = refl; block = refl }

-- the same parts with another count of free numbers
abbrev pub counted : {D : Type 0} → Parts D → ℕ → Parts D
counted p numbers = record {
  cache = p.cache;
  imap = p.imap;
  master = p.master;
  place = p.place;
  root = p.root;
  points = p.points;
  numbers = numbers;
  next = p.next;
  live = p.live;
  torn = p.torn;
  damage = p.damage;
  block = p.block;
}

module _ {D : Type 0} (g : Ghosts D) where
  pub changes_counted : (IsSuch : ℕ → Type 0) (p q : Parts D) (numbers : ℕ) → Changes g IsSuch p q → Changes g IsSuch p (counted q numbers)
  changes_counted IsSuch p q numbers c = record {
    master = c.master;
    place = c.place;
    root = c.root;
    points = c.points;
    live = c.live;
    torn = c.torn;
    damage = c.damage;
    block = c.block;
    geometry = c.geometry;
    committed = c.committed;
    origin = c.origin;
    spares = c.spares;
    tied = c.tied;
    used = c.used;
    contents = c.contents;
  }

  pub step_counted : {T : Type 0} (IsSuch : ℕ → Type 0) (p q : Parts D) (numbers : ℕ) (r : Result T StoreFault) → TakesStep g IsSuch p q r
      → TakesStep g IsSuch p (counted q numbers) r
  step_counted IsSuch p q numbers r step = record { changes = changes_counted IsSuch p q numbers step.changes; cause = step.cause }

  -- ---- no change

  pub changes_none : (IsSuch : ℕ → Type 0) (p q : Parts D) → KeepsRest p q → q.imap ≡ p.imap → OnlyReads g p.cache q.cache
      → (IsTrue (g.origin p.cache.disk).shows → IsTied p.imap (content_in g p.cache)) → Changes g IsSuch p q
  changes_none IsSuch p q rest imap reads tied = record {
    master = rest.master;
    place = rest.place;
    root = rest.root;
    points = rest.points;
    live = rest.live;
    torn = rest.torn;
    damage = rest.damage;
    block = rest.block;
    geometry = ap (λ (m : Bitmaps). m.geometry) imap;
    committed = ap (λ (m : Bitmaps). m.committed) imap;
    origin = reads.origin;
    spares = λ shows. follows_more none_given (Spares (anchor_of g p)) (medium_of g p.cache) (medium_of g q.cache) (λ k c given. absurd given)
        (gives_follow (medium_of g p.cache) (medium_of g q.cache) reads.gives);
    tied = λ shows. subst (λ (m : Bitmaps). IsTied m (content_in g q.cache)) (sym imap)
        (subst (λ (c : ℕ → List ℕ). IsTied p.imap c) (sym (content_same g p.cache q.cache reads shows)) (tied shows));
    used = λ shows k has far. λ t. used_under (rest.master t).geometry (imap t).working (content_same g p.cache q.cache reads shows t) k;
    contents = λ shows k has far. reads.contents shows k;
  }

  -- a step that reads alone
  pub step_sees : {T : Type 0} (IsSuch : ℕ → Type 0) (p q : Parts D) (r : Result T StoreFault) → IsPoint g p → p.live ≡ true → Sees g p q r → TakesStep g IsSuch p q r
  step_sees IsSuch p q r is live sees = record {
    changes = changes_none IsSuch p q sees.rest sees.imap sees.reads (λ shows. (is.told live shows).tied);
    cause = sees.cause;
  }

  -- ---- one after another

  pub changes_more : (IsSuch IsMore : ℕ → Type 0) (p q : Parts D) → ((k : ℕ) → IsSuch k → IsMore k) → Changes g IsSuch p q → Changes g IsMore p q
  changes_more IsSuch IsMore p q more c = record {
    master = c.master;
    place = c.place;
    root = c.root;
    points = c.points;
    live = c.live;
    torn = c.torn;
    damage = c.damage;
    block = c.block;
    geometry = c.geometry;
    committed = c.committed;
    origin = c.origin;
    spares = c.spares;
    tied = c.tied;
    used = λ shows k has far. c.used shows k has (λ such. far (more k such));
    contents = λ shows k has far. c.contents shows k has (λ such. far (more k such));
  }

  module _ (IsSuch : ℕ → Type 0) (p m q : Parts D) (is : IsPoint g p) (live : p.live ≡ true) (a : Changes g IsSuch p m) (b : Changes g IsSuch m q) where
    abbrev last : Anchor
    last = anchor_of g p

    abbrev middle : Anchor
    middle = anchor_of g m

    middle_is : as_told last (g.shown m.cache.disk) ≡ middle
    middle_is = λ t. record {
      master = sym a.master t;
      place = sym a.place t;
      root = sym a.root t;
      roots = sym a.committed t;
      used = used_under (sym a.master t).geometry (sym a.committed t) (g.shown m.cache.disk);
    }

    shows_then : IsTrue (g.origin p.cache.disk).shows → IsTrue (g.origin m.cache.disk).shows
    shows_then = subst (λ (o : Origin). IsTrue o.shows) (sym a.origin)

    still_hangs : IsTrue (g.origin p.cache.disk).shows → HangsOn last (g.shown m.cache.disk)
    still_hangs shows = (spared_committed last (shown_alone (medium_of g p.cache)) (shown_alone (medium_of g m.cache))
        (shown_follows (Spares last) (medium_of g p.cache) (medium_of g m.cache) (a.spares shows)) (is.told live shows).committed).hangs

    spares_back : IsTrue (g.origin p.cache.disk).shows → (k : ℕ) (c : List ℕ) → Spares middle k c → Spares last k c
    spares_back shows k c spares =
        let at = subst (λ (x : Anchor). Spares x k c) (sym middle_is) spares in
        ((λ needs. at.0 (⊎_elim (λ e. inl e) (λ led. inr (led_told last (g.shown m.cache.disk) (still_hangs shows) k led)) needs)), at.1, at.2)

    pub changes_after : Changes g IsSuch p q
    changes_after = record {
      master = b.master ∙ a.master;
      place = b.place ∙ a.place;
      root = b.root ∙ a.root;
      points = b.points ∙ a.points;
      live = b.live ∙ a.live;
      torn = b.torn ∙ a.torn;
      damage = b.damage ∙ a.damage;
      block = b.block ∙ a.block;
      geometry = b.geometry ∙ a.geometry;
      committed = b.committed ∙ a.committed;
      origin = b.origin ∙ a.origin;
      spares = λ shows. follows_then (Spares last) (medium_of g p.cache) (medium_of g m.cache) (medium_of g q.cache) (a.spares shows)
          (follows_more (Spares middle) (Spares last) (medium_of g m.cache) (medium_of g q.cache) (spares_back shows) (b.spares (shows_then shows)));
      tied = λ shows. b.tied (shows_then shows);
      used = λ shows k has far. b.used (shows_then shows) k (subst (λ (x : Request). HasBit x k) (λ t. (sym a.master t).geometry) has) far ∙ a.used shows k has far;
      contents = λ shows k has far. b.contents (shows_then shows) k (subst (λ (x : Request). HasBit x k) (λ t. (sym a.master t).geometry) has) far
          ∙ a.contents shows k has far;
    }

  pub step_after : {S T : Type 0} (IsSuch : ℕ → Type 0) (p m q : Parts D) (v : S) (r : Result T StoreFault) → IsPoint g p → p.live ≡ true
      → TakesStep g IsSuch p m (Ok v) → TakesStep g IsSuch m q r → TakesStep g IsSuch p q r
  step_after IsSuch p m q v r is live a b = record {
    changes = changes_after IsSuch p m q is live a.changes b.changes;
    cause = subst (λ (n : ℕ). TellsCause damage_of r n (g.faults q.cache.disk) p.damage (kept_after p.damage r)) a.cause.passed.0
        (subst (λ (d : Option Damage). TellsCause damage_of r (g.faults m.cache.disk) (g.faults q.cache.disk) d (kept_after d r)) a.changes.damage b.cause);
  }

  pub step_more : {T : Type 0} (IsSuch IsMore : ℕ → Type 0) (p q : Parts D) (r : Result T StoreFault) → ((k : ℕ) → IsSuch k → IsMore k)
      → TakesStep g IsSuch p q r → TakesStep g IsMore p q r
  step_more IsSuch IsMore p q r more step = record { changes = changes_more IsSuch IsMore p q more step.changes; cause = step.cause }

  -- ---- causes

  pub step_passed : {T : Type 0} (IsSuch : ℕ → Type 0) (p q : Parts D) (v : T) → Changes g IsSuch p q → g.faults q.cache.disk ≡ g.faults p.cache.disk
      → TakesStep g IsSuch p q (Ok v)
  step_passed IsSuch p q v c passed = record {
    changes = c;
    cause = record { later = omega (arith, passed); passed = (passed, refl); failed = λ x h. absurd (cc h) };
  }

  pub step_failed : {T : Type 0} (IsSuch : ℕ → Type 0) (p q : Parts D) (fault : StoreFault) → Changes g IsSuch p q → g.faults p.cache.disk ≤ g.faults q.cache.disk
      → Because (g.faults p.cache.disk) (g.faults q.cache.disk) p.damage (damage_after p.damage fault) (damage_of fault) → TakesStep g {T = T} IsSuch p q (Err fault)
  step_failed IsSuch p q fault c later because = record {
    changes = c;
    cause = record {
      later = later;
      passed = tt;
      failed = λ x h. let e : fault ≡ x = cc h in
          subst (λ (y : StoreFault). Because (g.faults p.cache.disk) (g.faults q.cache.disk) p.damage (damage_after p.damage fault) (damage_of y)) e because;
    };
  }

  -- a fault of the bitmap
  pub step_imap : {S T : Type 0} (IsSuch P : ℕ → Type 0) (p q : Parts D) (s : Result S ImapFault) (fault : ImapFault) → Changes g IsSuch p q
      → TellsWhy g P p.cache q.cache s → s ≡ Err fault → TakesStep g {T = T} IsSuch p q (Err (of_imap fault))
  step_imap IsSuch P p q s fault c why is =
      step_failed IsSuch p q (of_imap fault) c why.later (imap_because g P p.cache q.cache s fault p.damage why is)

  -- a fault is passed on
  pub step_as : {S T : Type 0} (IsSuch : ℕ → Type 0) (p q : Parts D) (s : Result S StoreFault) (r : Result T StoreFault) (f : StoreFault) → TakesStep g IsSuch p q s
      → s ≡ Err f → r ≡ Err f → TakesStep g IsSuch p q r
  step_as IsSuch p q s r f step was is =
      let at = subst (TakesStep g IsSuch p q) was step in
      subst (TakesStep g IsSuch p q) (sym is) (step_failed IsSuch p q f at.changes at.cause.later (at.cause.failed f refl))

  -- ---- steps that change

  module _ (IsSuch : ℕ → Type 0) (p q : Parts D) (is : IsPoint g p) (live : p.live ≡ true) (rest : KeepsRest p q) where
    abbrev request : Request
    request = p.master.geometry

    abbrev point : Anchor
    point = anchor_of g p

    abbrev bounds : IsWithinLimits request
    bounds = limits request is.geometry

    -- a write of a block that the last point does not use
    module _ (b : ℕ) (has : HasBit request b) (such : IsSuch b) (imap : q.imap ≡ p.imap) (origin : g.origin q.cache.disk ≡ g.origin p.cache.disk)
        (only : OnlyChanges g b p.cache q.cache) (unused : IsTrue (g.origin p.cache.disk).shows → committed_of g p b ≡ false) where
      unused_shown : IsTrue (g.origin p.cache.disk).shows → point.used b ≡ false
      unused_shown shows = sym (list_shown g p.cache point bounds (is.told live shows).committed b has) ∙ unused shows

      same_nodes : IsTrue (g.origin p.cache.disk).shows → SameNodes p.imap.geometry (content_in g p.cache) (content_in g q.cache)
      same_nodes shows j second below = only.contents shows _ (λ e.
          let from = has.from in
          let low = low_place second in
          let inside : j < imap_nodes_of request = subst (λ (x : Request). j < imap_nodes_of x) is.imap below in
          omega (arith, e))

      pub wrote_used : IsTrue (g.origin p.cache.disk).shows → (k : ℕ) → HasBit request k → working_of g q k ≡ working_of g p k
      wrote_used shows k bit = (λ t. used_under (rest.master t).geometry (imap t).working (content_in g q.cache) k)
          ∙ used_same request p.imap.working (content_in g p.cache) (content_in g q.cache) bounds
          (λ i below. same_nodes shows i _ (subst (λ (x : Request). i < imap_nodes_of x) (sym is.imap) below)) k bit

      pub changes_write : Changes g IsSuch p q
      changes_write = record {
        master = rest.master;
        place = rest.place;
        root = rest.root;
        points = rest.points;
        live = rest.live;
        torn = rest.torn;
        damage = rest.damage;
        block = rest.block;
        geometry = ap (λ (m : Bitmaps). m.geometry) imap;
        committed = ap (λ (m : Bitmaps). m.committed) imap;
        origin = origin;
        spares = λ shows. let free = unused_free (g.origin p.cache.disk) point (point_on g p is) b has (unused_shown shows) in
            block_spares point b (medium_of g p.cache) (medium_of g q.cache) free.0 free.1 has.below (write_follows (medium_of g p.cache) (medium_of g q.cache) b only.gives);
        tied = λ shows. subst (λ (m : Bitmaps). IsTied m (content_in g q.cache)) (sym imap)
            (tie_stays p.imap (content_in g p.cache) (content_in g q.cache) (long_blocks p.imap.geometry.block_size (subst (λ (x : Request). IsWithinLimits x) (sym is.imap) bounds).block_size)
            (same_nodes shows) (is.told live shows).tied);
        used = λ shows k bit far. wrote_used shows k bit;
        contents = λ shows k bit far. only.contents shows k (λ e. far (subst IsSuch (sym e) such));
      }

    -- a change of the working list
    module _ (sequence bit : ℕ) (value : Bool) (within : bit < bits_of request) (such : IsSuch (table_start_of request + bit))
        (geometry : q.imap.geometry ≡ p.imap.geometry) (committed : q.imap.committed ≡ p.imap.committed)
        (origin : g.origin q.cache.disk ≡ g.origin p.cache.disk)
        (sets : Sets g sequence bit value p.imap q.imap p.cache q.cache)
        (inline : is_inline_of p.imap.geometry ≡ true → q.cache ≡ p.cache)
        (tied : IsTrue (g.origin p.cache.disk).shows → IsTied q.imap (content_in g q.cache)) where
      free_at : (x : Request) → x ≡ request → is_inline_of x ≡ false → bit < bits_of x
          → (Needs point (spare_place x p.imap.committed (node_of x bit)) → ⊥) × (spare_place x p.imap.committed (node_of x bit) ≢ spare_of point)
      free_at x e = subst (λ (y : Request). is_inline_of y ≡ false → bit < bits_of y
          → (Needs point (spare_place y p.imap.committed (node_of y bit)) → ⊥) × (spare_place y p.imap.committed (node_of y bit) ≢ spare_of point)) (sym e)
          (λ external inside. not_live_free (g.origin p.cache.disk) point (point_on g p is) (node_of request bit) (node_inside request bit bounds external inside))

      before : (x : Request) → x ≡ request → is_inline_of x ≡ false → bit < bits_of x → spare_place x p.imap.committed (node_of x bit) < table_start_of request
      before x e = subst (λ (y : Request). is_inline_of y ≡ false → bit < bits_of y → spare_place y p.imap.committed (node_of y bit) < table_start_of request) (sym e)
          (λ external inside. spare_before request p.imap.committed bit bounds external inside)

      inside : bit < bits_of p.imap.geometry
      inside = subst (λ (x : Request). bit < bits_of x) (sym is.imap) within

      set_spares : (t : Bool) → is_inline_of p.imap.geometry ≡ t → Follows (Spares point) (medium_of g p.cache) (medium_of g q.cache)
      set_spares true e = subst (λ (x : Cached D). Follows (Spares point) (medium_of g p.cache) (medium_of g x)) (sym (inline e))
          (record { waits = λ k x h. inl h; shown = λ k. inl refl; adds = λ k x h. inl h; sure = λ k never h. h })
      set_spares false e =
          let free = free_at p.imap.geometry is.imap e inside in
          let low = before p.imap.geometry is.imap e inside in
          block_spares point _ (medium_of g p.cache) (medium_of g q.cache) free.0 free.1 (omega (arith, low, bounds.room)) (write_follows (medium_of g p.cache) (medium_of g q.cache) _ (sets.writes e).gives)

      set_contents : (t : Bool) → is_inline_of p.imap.geometry ≡ t → IsTrue (g.origin p.cache.disk).shows → (k : ℕ) → HasBit request k
          → content_in g q.cache k ≡ content_in g p.cache k
      set_contents true e shows k has = ap (λ (x : Cached D). content_in g x k) (inline e)
      set_contents false e shows k has = (sets.writes e).contents shows k (λ same.
          let low = before p.imap.geometry is.imap e inside in
          let from = has.from in
          omega (arith, same))

      geometry_now : q.imap.geometry ≡ q.master.geometry
      geometry_now = geometry ∙ is.imap ∙ (λ t. (sym rest.master t).geometry)

      start : table_start_of p.imap.geometry ≡ table_start_of request
      start = ap table_start_of is.imap

      pub changes_set : Changes g IsSuch p q
      changes_set = record {
        master = rest.master;
        place = rest.place;
        root = rest.root;
        points = rest.points;
        live = rest.live;
        torn = rest.torn;
        damage = rest.damage;
        block = rest.block;
        geometry = geometry;
        committed = committed;
        origin = origin;
        spares = λ shows. set_spares (is_inline_of p.imap.geometry) refl;
        tied = tied;
        used = λ shows k has far. (λ t. used_under (sym geometry_now t) q.imap.working (content_in g q.cache) k)
            ∙ (sets.working shows).others k (let from = has.from in omega (arith, start)) (λ e. far (subst IsSuch (sym (e ∙ (λ t. start t + bit))) such))
            ∙ (λ t. used_under (is.imap t) p.imap.working (content_in g p.cache) k);
        contents = λ shows k has far. set_contents (is_inline_of p.imap.geometry) refl shows k has;
      }

      pub set_here : IsTrue (g.origin p.cache.disk).shows → working_of g q (table_start_of request + bit) ≡ value
      set_here shows = (λ t. used_under (sym geometry_now t) q.imap.working (content_in g q.cache) (sym start t + bit)) ∙ (sets.working shows).here

      pub set_same : IsTrue (g.origin p.cache.disk).shows → (k : ℕ) → HasBit request k → content_in g q.cache k ≡ content_in g p.cache k
      set_same shows = set_contents (is_inline_of p.imap.geometry) refl shows
