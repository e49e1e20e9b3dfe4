-- A store that a fault of its bitmap ended, and what the states of blocks tell.
use Rattle.std.proofs.Common.{◌≡◌, ℕ, ◌&&◌, Bool, true, false, not, cond, List, Option, Some, None, Err, refl, sym, ap, ◌∙◌, inr}
use Rattle.std.specs.Prelude.{Result, IsTrue, is_some}
use Rattle.edge_base.specs.declared.damage.Damage.{Damage}
use Rattle.edge_base.specs.declared.geometry.Request.{Request}
use Rattle.edge_base.specs.layout.Bitmap.{live_place, used_under}
use Rattle.edge_base.specs.outside.Faults.{Because}
use Rattle.edge_cache.specs.Cached.{Cached}
use Rattle.edge_cache.specs.Calls.{content_in}
use Rattle.edge_cache.specs.Given.{or_shown}
use Rattle.edge_disk.specs.declared.disk.Disk.{Ghosts}
use Rattle.edge_image.specs.View.{block_told, view_over}
use Rattle.edge_imap.specs.Bitmaps.{state_of as block_state_of}
use Rattle.edge_imap.specs.Reading.{NeverDamaged, TellsWhy}
use Rattle.edge_imap.specs.declared.fault.BlockState.{BlockState}
use Rattle.edge_imap.specs.declared.fault.ImapFault.{ImapFault}
use Rattle.edge_imap.specs.declared.fault.ImapFault.TheVariants as imap
use Rattle.edge_nodes.proofs.GeometryLaws.{limits}
use Rattle.edge_store.specs.Calls.{damage_of}
use Rattle.edge_store.specs.View.{View, is_allocable, is_new, is_used}
use Rattle.edge_store.specs.declared.fault.StoreFault.TheVariants.{Damaged}
use Rattle.edge_anchor.specs.Anchor.{to_node}
use Rattle.edge_anchor.proofs.PlaceLaws.{block_has_bit}
use Rattle.edge_anchor.proofs.ViewLaws.{used_same}
use Rattle.edge_point.specs.Ended.{damage_after, ended, is_committed_by, is_new_by, of_imap}
use Rattle.edge_point.specs.Seen.{IsGuarded, last_view, next_view, state_of, view_told}
use Rattle.edge_point.specs.Standing.{IsPoint}
use Rattle.edge_point.specs.declared.parts.Parts.{Parts}

-- ---- faults

module _ {D : Type 0} (g : Ghosts D) where
  pub ended_point : (p : Parts D) (d : Option Damage) → IsPoint g p → IsPoint g (ended p d)
  ended_point p d is = record {
    fits = is.fits;
    geometry = is.geometry;
    imap = is.imap;
    block = is.block;
    first = is.first;
    place = is.place;
    points = is.points;
    sequence = is.sequence;
    untorn = λ l. absurd (cc l);
    undamaged = λ l. absurd (cc l);
    told = λ l. absurd (cc l);
  }

  pub ended_guarded : (p : Parts D) (d : Option Damage) → IsGuarded g p → IsGuarded g (ended p d)
  ended_guarded p d guard = record {
    shows = guard.shows;
    keeps = guard.keeps;
    no_fault = λ l. absurd (cc l);
    committed = λ l. absurd (cc l);
    cut = guard.cut;
  }

  pub imap_because : {S : Type 0} (P : ℕ → Type 0) (old new : Cached D) (s : Result S ImapFault) (fault : ImapFault) (kept : Option Damage)
      → TellsWhy g P old new s → s ≡ Err fault
      → Because (g.faults old.disk) (g.faults new.disk) kept (damage_after kept (of_imap fault)) (damage_of (of_imap fault))
  imap_because P old new s imap.Device kept why is = (why.device is, refl)
  imap_because P old new s (imap.Damaged d) kept why is = ((why.damaged d is).faults, refl)

pub imap_never : {S : Type 0} (s : Result S ImapFault) (fault : ImapFault) (d : Damage) → s ≡ Err fault → NeverDamaged s → of_imap fault ≡ Damaged d → ⊥
imap_never s imap.Device d is never e = cc e
imap_never s (imap.Damaged x) d is never e = never x is

-- ---- the states of blocks

pub new_by : (c w : Bool) → is_new_by (block_state_of c w) ≡ (w && not c)
new_by true true = refl
new_by true false = refl
new_by false true = refl
new_by false false = refl

pub committed_by : (c w : Bool) → is_committed_by (block_state_of c w) ≡ c
committed_by true true = refl
committed_by true false = refl
committed_by false true = refl
committed_by false false = refl

used_over : (g : Request) (used : ℕ → Bool) (content : ℕ → List ℕ) (b : ℕ) → is_allocable g b ≡ true → is_used (view_over g used content) b ≡ used b
used_over g used content b may = ap (λ t. is_some (cond (t && used b) (Some (block_told g (content b))) None)) may ∙ by_use (used b)
  where
    by_use : (t : Bool) → is_some (cond t (Some (block_told g (content b))) None) ≡ t
    by_use true = refl
    by_use false = refl

module _ {D : Type 0} (g : Ghosts D) (p : Parts D) (is : IsPoint g p) (live : p.live ≡ true) (shows : IsTrue (g.origin p.cache.disk).shows)
    (b : ℕ) (may : is_allocable p.master.geometry b ≡ true) where
  abbrev request : Request
  request = p.master.geometry

  -- what the bitmap of the last point tells over what the cache gives, it tells over what is shown
  last_use : used_under request p.imap.committed (content_in g p.cache) b ≡ used_under request p.imap.committed (g.shown p.cache.disk) b
  last_use =
      let bounds = limits request is.geometry in
      let told = is.told live shows in
      used_same request p.imap.committed (g.shown p.cache.disk) (content_in g p.cache) bounds
      (λ i below. ap (λ w. or_shown w (g.shown p.cache.disk (live_place request p.imap.committed i))) (told.committed.needed.idle _ (inr (to_node i below refl))))
      b (block_has_bit request bounds b may)

  told_used : (v : View) → is_used (view_told (g.origin p.cache.disk).shows v) b ≡ is_used v b
  told_used v = ap (λ t. is_used (view_told t v) b) shows

  -- the use of a block is that of the two views
  pub last_told : used_under request p.imap.committed (content_in g p.cache) b ≡ is_used (state_of g p).committed b
  last_told = last_use ∙ sym (used_over request (used_under request p.imap.committed (g.shown p.cache.disk)) (g.shown p.cache.disk) b may)
      ∙ sym (told_used (last_view g p))

  pub next_told : used_under request p.imap.working (content_in g p.cache) b ≡ is_used (state_of g p).working b
  next_told = sym (used_over request (used_under request p.imap.working (content_in g p.cache)) (content_in g p.cache) b may) ∙ sym (told_used (next_view g p))

  pub told_new : (s : BlockState)
      → s ≡ block_state_of (used_under request p.imap.committed (content_in g p.cache) b) (used_under request p.imap.working (content_in g p.cache) b)
      → is_new_by s ≡ is_new (state_of g p).committed (state_of g p).working b
  told_new s e = ap is_new_by e ∙ new_by _ _ ∙ (λ t. next_told t && not (last_told t))
