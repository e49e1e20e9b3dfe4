-- Calls that only read keep the state of a store, and all that holds of it.
use Rattle.std.proofs.Common.{◌≡◌, inl, ℕ, ◌-◌, ◌≤◌, Bool, true, false, List, [], ◌∷◌, length, Option, Some, None, refl, sym, ap, ◌∙◌, subst, arith}
use Rattle.std.specs.Prelude.{IsTrue, Ok, Err, if◌then◌else◌}
use Rattle.edge_base.specs.declared.damage.Damage.{Damage}
use Rattle.edge_base.specs.declared.geometry.Request.{Request}
use Rattle.edge_base.specs.layout.Bitmap.{used_under}
use Rattle.edge_base.specs.layout.Places.{inode_place_of}
use Rattle.edge_base.specs.outside.Faults.{Because}
use Rattle.edge_disk.specs.Disk.{Origin}
use Rattle.edge_disk.specs.declared.disk.Disk.{Ghosts}
use Rattle.edge_image.specs.Image.{free_inodes_of}
use Rattle.edge_image.specs.View.{view_over}
use Rattle.edge_imap.specs.Bitmaps.{IsFit, IsTied}
use Rattle.edge_imap.specs.Reading.{OnlyReads}
use Rattle.edge_mount.proofs.TellsLaws.{content_same}
use Rattle.edge_store.specs.Calls.{Called, KeepsPoint, KeepsWorking, damage_of}
use Rattle.edge_store.specs.View.{View, no_view}
use Rattle.edge_store.specs.declared.fault.StoreFault.{StoreFault}
use Rattle.edge_anchor.specs.Anchor.{Anchor}
use Rattle.edge_anchor.specs.Medium.{Follows, medium_of, none_given, shown_alone}
use Rattle.edge_anchor.proofs.CutLaws.{SureIsShown, committed_alone}
use Rattle.edge_anchor.proofs.KeepLaws.{follows_more, gives_follow, shown_follows}
use Rattle.edge_point.specs.Seen.{IsGuarded, anchor_of, made_with, last_view, next_view, place_under, places_of, state_of}
use Rattle.edge_phase.specs.Spared.{Spares}
use Rattle.edge_point.specs.Standing.{IsPoint, IsTold}
use Rattle.edge_point.specs.Steps.{KeepsRest}
use Rattle.edge_point.specs.declared.parts.Parts.{Parts}
use Rattle.edge_phase.proofs.SparedLaws.{last_stays, last_view as view_stays}
use Rattle.edge_point.proofs.StandsLaws.{point_on}
use Rattle.edge_point.proofs.TakesLaws.{if_same}

module _ {D : Type 0} (g : Ghosts D) where
  -- the parts of p with the cache and the room of q, live or not, and with this damage
  abbrev pub seen : Parts D → Parts D → Bool → Option Damage → Parts D
  seen p q live damage = record {
    cache = q.cache;
    imap = p.imap;
    master = p.master;
    place = p.place;
    root = p.root;
    points = p.points;
    numbers = p.numbers;
    next = p.next;
    live = live;
    torn = p.torn;
    damage = damage;
    block = q.block;
  }

  pub seen_is : (p q : Parts D) → KeepsRest p q → q.imap ≡ p.imap → seen p q p.live p.damage ≡ q
  seen_is p q rest imap = λ t. record {
    cache = q.cache;
    imap = sym imap t;
    master = sym rest.master t;
    place = sym rest.place t;
    root = sym rest.root t;
    points = sym rest.points t;
    numbers = sym rest.numbers t;
    next = sym rest.next t;
    live = sym rest.live t;
    torn = sym rest.torn t;
    damage = sym rest.damage t;
    block = q.block;
  }

  module _ (p q : Parts D) (is : IsPoint g p) (live : p.live ≡ true) (reads : OnlyReads g p.cache q.cache) where
    abbrev request : Request
    request = p.master.geometry

    abbrev last : Anchor
    last = anchor_of g p

    tells : (g.origin q.cache.disk).shows ≡ (g.origin p.cache.disk).shows
    tells = ap (λ (o : Origin). o.shows) reads.origin

    shows_before : IsTrue (g.origin q.cache.disk).shows → IsTrue (g.origin p.cache.disk).shows
    shows_before = subst (λ (o : Origin). IsTrue o.shows) reads.origin

    follows : Follows (Spares last) (medium_of g p.cache) (medium_of g q.cache)
    follows = follows_more none_given (Spares last) (medium_of g p.cache) (medium_of g q.cache) (λ k c given. absurd given)
        (gives_follow (medium_of g p.cache) (medium_of g q.cache) reads.gives)

    follows_shown : Follows (Spares last) (shown_alone (medium_of g p.cache)) (shown_alone (medium_of g q.cache))
    follows_shown = shown_follows (Spares last) (medium_of g p.cache) (medium_of g q.cache) follows

    -- ---- the views

    last_same : IsTrue (g.origin p.cache.disk).shows → (l : Bool) (d : Option Damage) → last_view g (seen p q l d) ≡ last_view g p
    last_same shows l d = view_stays last (shown_alone (medium_of g p.cache)) (shown_alone (medium_of g q.cache)) follows_shown (is.told live shows).committed

    next_same : IsTrue (g.origin p.cache.disk).shows → (l : Bool) (d : Option Damage) → next_view g (seen p q l d) ≡ next_view g p
    next_same shows l d =
        let e = content_same g p.cache q.cache reads shows in
        λ t. view_over request (used_under request p.imap.working (e t)) (e t)

    places_same : IsTrue (g.origin p.cache.disk).shows → (l : Bool) (d : Option Damage) (n : ℕ) → places_of g (seen p q l d) n ≡ places_of g p n
    places_same shows l d n = ap (λ (c : ℕ → List ℕ). place_under request (used_under request p.imap.working c) n) (content_same g p.cache q.cache reads shows)

    pub seen_keeps : (l : Bool) (d : Option Damage) → KeepsPoint (state_of g p) (state_of g (seen p q l d))
    seen_keeps l d = record {
      committed = if_same _ _ (last_view g (seen p q l d)) (last_view g p) no_view tells (λ s. last_same s l d);
      points = refl;
      under_way = under p.torn (if_same _ _ (next_view g (seen p q l d)) (next_view g p) no_view tells (λ s. next_same s l d));
    }
      where
        under : (t : Bool) {v w : View} → v ≡ w → (if t then Some v else None) ≡ (if t then Some w else None)
        under t e = ap (λ (x : View). if t then Some x else None) e

    pub seen_works : (l : Bool) (d : Option Damage) → KeepsWorking (state_of g p) (state_of g (seen p q l d))
    seen_works l d = record {
      working = if_same _ _ (next_view g (seen p q l d)) (next_view g p) no_view tells (λ s. next_same s l d);
      places = λ t n. if_same _ _ (places_of g (seen p q l d) n) (places_of g p n) (inode_place_of request n false) tells (λ s. places_same s l d n) t;
    }

    -- ---- what holds of it

    seen_told : IsTrue (g.origin p.cache.disk).shows → (l : Bool) (d : Option Damage) → IsTold g (seen p q l d)
    seen_told shows l d =
        let told = is.told live shows in
        let e = content_same g p.cache q.cache reads shows in
        record {
          committed = last_stays last (shown_alone (medium_of g p.cache)) (shown_alone (medium_of g q.cache)) follows_shown told.committed;
          tied = subst (λ (c : ℕ → List ℕ). IsTied p.imap c) (sym e) told.tied;
          numbers = told.numbers ∙ ap (λ (c : ℕ → List ℕ). free_inodes_of request (used_under request p.imap.working c)) (sym e);
          whole = λ b may. ap (λ (c : ℕ → List ℕ). length (c b)) e ∙ told.whole b may;
          both_stay = λ n number one two second. ap (λ (c : ℕ → List ℕ). used_under request p.imap.working c (inode_place_of request n second)) e
              ∙ told.both_stay n number (ap (λ (c : ℕ → List ℕ). used_under request p.imap.committed c (inode_place_of request n false)) (sym e) ∙ one)
              (ap (λ (c : ℕ → List ℕ). used_under request p.imap.committed c (inode_place_of request n true)) (sym e) ∙ two) second;
        }

    module _ (block : length q.block.items ≡ length p.block.items) (l : Bool) (d : Option Damage) (undamaged : l ≡ true → d ≡ None) where
      pub seen_point : IsPoint g (seen p q l d)
      seen_point = record {
        fits = subst (λ (o : Origin). IsFit request o) (sym reads.origin) is.fits;
        geometry = is.geometry;
        imap = is.imap;
        block = block ∙ is.block;
        first = is.first;
        place = is.place;
        points = is.points;
        sequence = is.sequence;
        untorn = λ h. is.untorn live;
        undamaged = undamaged;
        told = λ h shows. seen_told (shows_before shows) l d;
      }

      pub seen_guarded : SureIsShown (medium_of g q.cache) → (l ≡ true → g.faults q.cache.disk ≡ g.faults p.cache.disk) → IsGuarded g p
          → IsGuarded g (seen p q l d)
      seen_guarded law passed guard =
          let stands = last_stays last (medium_of g p.cache) (medium_of g q.cache) follows (guard.committed live) in
          record {
            shows = subst (λ (o : Origin). IsTrue o.shows) (sym reads.origin) guard.shows;
            keeps = subst (λ (o : Origin). IsTrue o.keeps) (sym reads.origin) guard.keeps;
            no_fault = λ h. passed h ∙ guard.no_fault live;
            committed = λ h. stands;
            cut = λ image permitted plain. inl (committed_alone (medium_of g q.cache) law image permitted plain (anchor_of g (seen p q l d))
                (point_on g (seen p q l d) seen_point) stands);
          }

    pub seen_called : {T : Type 0} (v : T) → length q.block.items ≡ length p.block.items → SureIsShown (medium_of g q.cache)
        → g.faults q.cache.disk ≡ g.faults p.cache.disk → Called (state_of g p) (state_of g (seen p q p.live p.damage)) (Ok v)
    seen_called v block law passed = record {
      origin = λ t. record { request = request; tells = tells t; others = (p.root.sequence - p.points) ∷ p.master.time ∷ made_with (reads.origin t) };
      live = live;
      cause = record { later = omega (arith, passed); passed = (passed, refl); failed = λ fault h. absurd (cc h) };
      guarded = seen_guarded block p.live p.damage is.undamaged law (λ h. passed);
    }

    pub seen_failed : {T : Type 0} (fault : StoreFault) (d : Option Damage) → length q.block.items ≡ length p.block.items → SureIsShown (medium_of g q.cache)
        → g.faults p.cache.disk ≤ g.faults q.cache.disk → Because (g.faults p.cache.disk) (g.faults q.cache.disk) p.damage d (damage_of fault)
        → Called {T = T} (state_of g p) (state_of g (seen p q false d)) (Err fault)
    seen_failed fault d block law later because = record {
      origin = λ t. record { request = request; tells = tells t; others = (p.root.sequence - p.points) ∷ p.master.time ∷ made_with (reads.origin t) };
      live = refl;
      cause = record {
        later = later;
        passed = tt;
        failed = λ f h. let e : fault ≡ f = cc h in
            subst (λ (x : StoreFault). Because (g.faults p.cache.disk) (g.faults q.cache.disk) p.damage d (damage_of x)) e because;
      };
      guarded = seen_guarded block false d (λ h. absurd (cc h)) law (λ h. absurd (cc h));
    }
