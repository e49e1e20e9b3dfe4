-- What follows from what holds of every store.
use Rattle.std.proofs.Common.{◌≡◌, ◌⊎◌, inl, inr, ℕ, ◌<◌, ◌≤◌, true, sym, arith}
use Rattle.std.specs.Prelude.{IsTrue}
use Rattle.std.proofs.lemmas.Bool.{cases_eq}
use Rattle.edge_disk.specs.State.{disk_of, shown_by}
use Rattle.edge_disk.specs.declared.disk.Disk.{Ghosts}
use Rattle.edge_anchor.specs.Anchor.{IsOn}
use Rattle.edge_anchor.specs.Medium.{medium_of}
use Rattle.edge_anchor.specs.Opens.{OpensAs}
use Rattle.edge_anchor.proofs.CutLaws.{shown_opens}
use Rattle.edge_point.specs.Seen.{anchor_of, last_view}
use Rattle.edge_point.specs.Standing.{IsPoint}
use Rattle.edge_point.specs.declared.parts.Parts.{Parts}

one_or_two : (place : ℕ) → 1 ≤ place → place < 3 → (place ≡ 1) ⊎ (place ≡ 2)
one_or_two place first below = elim (cases_eq place 1) [ inl one ↦ inl one | inr far ↦ inr (omega arith) ]

module _ {D : Type 0} (g : Ghosts D) (p : Parts D) (is : IsPoint g p) where
  pub point_on : IsOn (g.origin p.cache.disk) (anchor_of g p)
  point_on = record { size = sym is.fits.size; blocks = is.fits.blocks; place = one_or_two p.place is.first is.place }

  -- the shown image has the last point
  pub point_shown : p.live ≡ true → IsTrue (g.origin p.cache.disk).shows → OpensAs (anchor_of g p) (last_view g p) (shown_by (disk_of g p.cache.disk))
  point_shown live shows = shown_opens (medium_of g p.cache) (anchor_of g p) point_on (is.told live shows).committed
