use Rattle.std.proofs.Common.{◌≡◌, ◌∙◌, ◌+◌, ◌-◌, ℕ, false, Option, Some, Err, refl, sym, ap, subst, arith}
use Rattle.std.specs.Prelude.{Result}
use Rattle.edge_cache.specs.Calls.{content_in}
use Rattle.edge_image.specs.Image.{free_inodes_of}
use Rattle.edge_store.specs.Calls.{Called, KeepsPoint}
use Rattle.edge_store.specs.declared.fault.StoreFault.{StoreFault}
use Rattle.edge_point.specs.Changing.{IsPlaceFor, working_of}
use Rattle.edge_point.specs.Ended.{damage_after}
use Rattle.edge_point.specs.Seen.{state_of}
use Rattle.edge_point.specs.Standing.{IsPoint}
use Rattle.edge_point.specs.declared.parts.Parts.{Parts}
use Rattle.edge_point.proofs.ChangeLaws.{fails_called, fails_keeps, fails_point, passes_called, passes_keeps, passes_point}
use Rattle.edge_point.proofs.FoundLaws.{called_ok}
use Rattle.edge_point.proofs.NumberLaws.{one_less}
use Rattle.edge_point.proofs.PlacedLaws.{free_both, not_free}
use Rattle.edge_point.proofs.SetLaws.{is_written}
use Rattle.edge_point.proofs.StepLaws.{counted, step_as, step_counted}
use Rattle.edge_point.proofs.WorkingLaws.{has_working_inode, keeps_places_but, working_inode}
use Rattle.edge_point.proofs.make.make_inode.Goals as goal

-- ---- after Ok

-- the count of free numbers, one of which is taken
counts_down : (numbers free left less : ℕ) → numbers ≡ free → left + 1 ≡ free → less ≡ numbers - 1 → less ≡ left
counts_down numbers free left less same one is = omega (arith, same, one, is)

pub returns-in-Ok-clause-stands : goal.returns-in-Ok-clause-stands
returns-in-Ok-clause-stands g c =
    let d = g.D.Disk in
    let p = c.args.p.now in
    let q = c.add_inode.new.p in
    let n = c.args.n in
    let r = p.master.geometry in
    let is = c.requires.stands in
    let live = c.requires.live in
    let x = counted q c.saturating_sub-p.result in
    let step = step_counted d (IsPlaceFor r n) p q c.saturating_sub-p.result _ c.in-Ok.ensures.step in
    let stands : IsPoint d x = passes_point d (IsPlaceFor r n) p x is live step.changes (λ shows.
    has_working_inode d (IsPlaceFor r n) p x is live step.changes n c.requires.number (λ k such. such) shows
    (λ one two. cc ((is.told live shows).both_stay n c.requires.number one two false, free_both r (working_of d p) n (c.requires.free shows) false))
    (counts_down q.numbers (free_inodes_of r (working_of d p)) (free_inodes_of r (working_of d x)) c.saturating_sub-p.result
    (c.add_inode.ensures.numbers ∙ (is.told live shows).numbers)
    (one_less d (IsPlaceFor r n) p x is live step.changes n c.requires.number (λ k such. such) shows (c.requires.free shows)
    (not_free r (working_of d x) n (c.in-Ok.ensures.put shows).second (c.in-Ok.ensures.put shows).lies.here)) c.saturating_sub-p.ensures)) in
    stands

pub returns-in-Ok-clause-called : goal.returns-in-Ok-clause-called
returns-in-Ok-clause-called g c =
    let d = g.D.Disk in
    let p = c.args.p.now in
    let q = c.add_inode.new.p in
    let n = c.args.n in
    let r = p.master.geometry in
    let is = c.requires.stands in
    let live = c.requires.live in
    let x = counted q c.saturating_sub-p.result in
    let step = step_counted d (IsPlaceFor r n) p q c.saturating_sub-p.result _ c.in-Ok.ensures.step in
    let stands : IsPoint d x = passes_point d (IsPlaceFor r n) p x is live step.changes (λ shows.
    has_working_inode d (IsPlaceFor r n) p x is live step.changes n c.requires.number (λ k such. such) shows
    (λ one two. cc ((is.told live shows).both_stay n c.requires.number one two false, free_both r (working_of d p) n (c.requires.free shows) false))
    (counts_down q.numbers (free_inodes_of r (working_of d p)) (free_inodes_of r (working_of d x)) c.saturating_sub-p.result
    (c.add_inode.ensures.numbers ∙ (is.told live shows).numbers)
    (one_less d (IsPlaceFor r n) p x is live step.changes n c.requires.number (λ k such. such) shows (c.requires.free shows)
    (not_free r (working_of d x) n (c.in-Ok.ensures.put shows).second (c.in-Ok.ensures.put shows).lies.here)) c.saturating_sub-p.ensures)) in
    called_ok (state_of d p) (state_of d x) tt (Some n) (passes_called d (IsPlaceFor r n) p x is live tt step stands (g.met.D.Disk.sure_is_shown x.cache.disk))

pub returns-in-Ok-clause-point : goal.returns-in-Ok-clause-point
returns-in-Ok-clause-point g c =
    let d = g.D.Disk in
    let p = c.args.p.now in
    let q = c.add_inode.new.p in
    let n = c.args.n in
    let r = p.master.geometry in
    let is = c.requires.stands in
    let live = c.requires.live in
    let x = counted q c.saturating_sub-p.result in
    let step = step_counted d (IsPlaceFor r n) p q c.saturating_sub-p.result _ c.in-Ok.ensures.step in
    passes_keeps d (IsPlaceFor r n) p x is live step.changes

pub returns-in-Ok-clause-places : goal.returns-in-Ok-clause-places
returns-in-Ok-clause-places g c =
    let d = g.D.Disk in
    let p = c.args.p.now in
    let q = c.add_inode.new.p in
    let n = c.args.n in
    let r = p.master.geometry in
    let is = c.requires.stands in
    let live = c.requires.live in
    let x = counted q c.saturating_sub-p.result in
    let step = step_counted d (IsPlaceFor r n) p q c.saturating_sub-p.result _ c.in-Ok.ensures.step in
    keeps_places_but d (IsPlaceFor r n) p x is live step.changes n c.requires.number (λ k such. such)

pub returns-in-Ok-clause-written : goal.returns-in-Ok-clause-written
returns-in-Ok-clause-written g c = λ told.
    let d = g.D.Disk in
    let p = c.args.p.now in
    let q = c.add_inode.new.p in
    let n = c.args.n in
    let r = p.master.geometry in
    let is = c.requires.stands in
    let live = c.requires.live in
    let x = counted q c.saturating_sub-p.result in
    let step = step_counted d (IsPlaceFor r n) p q c.saturating_sub-p.result _ c.in-Ok.ensures.step in
    is_written r (working_of d x) (content_in d x.cache) n p.block.items (state_of d p).working (state_of d x).working c.requires.number
    (c.in-Ok.ensures.put told) (working_inode d (IsPlaceFor r n) p x is live step.changes n c.requires.number (λ k such. such) told)

-- ---- after a fault

abbrev failed : StoreFault → Result (Option ℕ) StoreFault
failed fault = Err fault

pub returns-in-Err-clause-stands : goal.returns-in-Err-clause-stands
returns-in-Err-clause-stands g c =
    let d = g.D.Disk in
    let p = c.args.p.now in
    let q = c.add_inode.new.p in
    let n = c.args.n in
    let r = p.master.geometry in
    let is = c.requires.stands in
    let live = c.requires.live in
    let fault = c.in-Err.fault in
    let step = step_as d (IsPlaceFor r n) p q c.add_inode.result (failed fault) fault c.add_inode.ensures.step c.in-Err.is refl in
    subst (IsPoint d) (sym c.end_with.ensures.ended) (fails_point d (IsPlaceFor r n) p q is live (damage_after q.damage fault) step.changes)

pub returns-in-Err-clause-called : goal.returns-in-Err-clause-called
returns-in-Err-clause-called g c =
    let d = g.D.Disk in
    let p = c.args.p.now in
    let q = c.add_inode.new.p in
    let n = c.args.n in
    let r = p.master.geometry in
    let is = c.requires.stands in
    let live = c.requires.live in
    let fault = c.in-Err.fault in
    let step = step_as d (IsPlaceFor r n) p q c.add_inode.result (failed fault) fault c.add_inode.ensures.step c.in-Err.is refl in
    subst (λ (f : StoreFault). Called {T = Option ℕ} (state_of d p) (state_of d c.end_with.new.p) (Err f)) (sym c.end_with.ensures.answer)
    (subst (λ (y : Parts g.row.D.Denot). Called {T = Option ℕ} (state_of d p) (state_of d y) (Err fault)) (sym c.end_with.ensures.ended)
    (fails_called d (IsPlaceFor r n) p q is live fault step (g.met.D.Disk.sure_is_shown q.cache.disk)))

pub returns-in-Err-clause-point : goal.returns-in-Err-clause-point
returns-in-Err-clause-point g c =
    let d = g.D.Disk in
    let p = c.args.p.now in
    let q = c.add_inode.new.p in
    let n = c.args.n in
    let r = p.master.geometry in
    let is = c.requires.stands in
    let live = c.requires.live in
    let fault = c.in-Err.fault in
    let step = step_as d (IsPlaceFor r n) p q c.add_inode.result (failed fault) fault c.add_inode.ensures.step c.in-Err.is refl in
    subst (λ (y : Parts g.row.D.Denot). KeepsPoint (state_of d p) (state_of d y)) (sym c.end_with.ensures.ended)
    (fails_keeps d (IsPlaceFor r n) p q is live (damage_after q.damage fault) step.changes)

pub returns-in-Err-clause-undamaged : goal.returns-in-Err-clause-undamaged
returns-in-Err-clause-undamaged g c = λ told damage h.
    c.add_inode.ensures.undamaged told damage (c.in-Err.is ∙ ap (λ (f : StoreFault). as_unit f) (sym c.end_with.ensures.answer ∙ cc h))
  where
    as_unit : StoreFault → Result (Unit {0}) StoreFault
    as_unit f = Err f
