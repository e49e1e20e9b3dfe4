use Rattle.std.proofs.Common.{◌≡◌, ◌∙◌, ◌+◌, ◌≤◌, ℕ, Bool, true, false, not, min, Err, sym, ap, subst, arith}
use Rattle.std.specs.Prelude.{IsTrue}
use Rattle.edge_base.specs.layout.Places.{inode_place_of}
use Rattle.edge_cache.specs.Calls.{content_in}
use Rattle.edge_image.specs.Image.{free_inodes_of}
use Rattle.edge_nodes.proofs.GeometryLaws.{limits}
use Rattle.edge_store.specs.Calls.{Called, KeepsPoint, NeverDamaged}
use Rattle.edge_store.specs.View.{with_inode}
use Rattle.edge_store.specs.declared.fault.StoreFault.{StoreFault}
use Rattle.edge_anchor.specs.Anchor.{HasBit}
use Rattle.edge_anchor.proofs.PlacedLaws.{inode_absent}
use Rattle.edge_anchor.proofs.PlaceLaws.{place_has_bit}
use Rattle.edge_point.specs.Changing.{IsBlock, IsPlaceFor, working_of}
use Rattle.edge_point.specs.Ended.{damage_after}
use Rattle.edge_point.specs.Seen.{state_of}
use Rattle.edge_point.specs.Standing.{IsPoint}
use Rattle.edge_point.specs.declared.parts.Parts.{Parts}
use Rattle.edge_point.proofs.ChangeLaws.{fails_called, fails_keeps, fails_point, passes_called, passes_keeps, passes_point}
use Rattle.edge_point.proofs.NumberLaws.{few_numbers, one_more}
use Rattle.edge_point.proofs.PlacedLaws.{at_place, both_free, neither, not_free, other_apart}
use Rattle.edge_point.proofs.StepLaws.{counted, step_counted, step_more}
use Rattle.edge_point.proofs.WorkingLaws.{has_working_inode, keeps_places_but, working_inode}
use Rattle.edge_point.proofs.make.clear_inode.Goals as goal

pub mark-requires-clause-block : goal.mark-requires-clause-block
mark-requires-clause-block g c =
    let r = c.args.p.now.master.geometry in
    subst (HasBit r) (sym c.inode_place-place.ensures.place) (place_has_bit r (limits r c.requires.stands.geometry) c.args.n c.args.second c.requires.number)

-- ---- after Ok

-- the count of free numbers has room for one more
counts_up : (numbers free inodes sum : ℕ) → numbers ≡ free → free ≤ inodes → inodes ≤ 65536 → sum ≡ min (numbers + 1) 4294967295 → sum ≡ free + 1
counts_up numbers free inodes sum same few most is = omega (arith, same, few, most, is)

pub returns-in-Ok-clause-stands : goal.returns-in-Ok-clause-stands
returns-in-Ok-clause-stands g c =
    let d = g.D.Disk in
    let p = c.args.p.now in
    let q = c.mark.new.p in
    let n = c.args.n in
    let r = p.master.geometry in
    let is = c.requires.stands in
    let live = c.requires.live in
    let place = c.inode_place-place.result in
    let at = at_place r n place c.args.second c.inode_place-place.ensures.place in
    let x = counted q c.saturating_add-p.result in
    let step = step_counted d (IsPlaceFor r n) p q c.saturating_add-p.result _ (step_more d (IsBlock place) (IsPlaceFor r n) p q _ at c.in-Ok.ensures.step) in
    let none : IsTrue (d.origin p.cache.disk).shows → (s : Bool) → working_of d x (inode_place_of r n s) ≡ false = λ shows s.
    neither r (working_of d x) n c.args.second s (ap (working_of d x) (sym c.inode_place-place.ensures.place) ∙ c.in-Ok.ensures.used shows)
    (c.mark.ensures.step.changes.used shows (inode_place_of r n (not c.args.second)) (place_has_bit r (limits r is.geometry) n (not c.args.second) c.requires.number)
    (λ e. other_apart r n c.args.second (e ∙ c.inode_place-place.ensures.place)) ∙ (c.requires.lies shows).not_there) in
    let most = limits r is.geometry in
    let stands : IsPoint d x = passes_point d (IsPlaceFor r n) p x is live step.changes (λ shows.
    has_working_inode d (IsPlaceFor r n) p x is live step.changes n c.requires.number (λ k such. such) shows
    (λ one two. cc ((is.told live shows).both_stay n c.requires.number one two (not c.args.second), (c.requires.lies shows).not_there))
    (counts_up q.numbers (free_inodes_of r (working_of d p)) r.inodes c.saturating_add-p.result (c.mark.ensures.numbers ∙ (is.told live shows).numbers)
    (few_numbers r (working_of d p)) most.inodes c.saturating_add-p.ensures
    ∙ sym (one_more d (IsPlaceFor r n) p x is live step.changes n c.requires.number (λ k such. such) shows
    (not_free r (working_of d p) n c.args.second (c.requires.lies shows).here)
    (both_free r (working_of d x) n (none shows false) (none shows true))))) in
    stands

pub returns-in-Ok-clause-called : goal.returns-in-Ok-clause-called
returns-in-Ok-clause-called g c =
    let d = g.D.Disk in
    let p = c.args.p.now in
    let q = c.mark.new.p in
    let n = c.args.n in
    let r = p.master.geometry in
    let is = c.requires.stands in
    let live = c.requires.live in
    let place = c.inode_place-place.result in
    let at = at_place r n place c.args.second c.inode_place-place.ensures.place in
    let x = counted q c.saturating_add-p.result in
    let step = step_counted d (IsPlaceFor r n) p q c.saturating_add-p.result _ (step_more d (IsBlock place) (IsPlaceFor r n) p q _ at c.in-Ok.ensures.step) in
    let none : IsTrue (d.origin p.cache.disk).shows → (s : Bool) → working_of d x (inode_place_of r n s) ≡ false = λ shows s.
    neither r (working_of d x) n c.args.second s (ap (working_of d x) (sym c.inode_place-place.ensures.place) ∙ c.in-Ok.ensures.used shows)
    (c.mark.ensures.step.changes.used shows (inode_place_of r n (not c.args.second)) (place_has_bit r (limits r is.geometry) n (not c.args.second) c.requires.number)
    (λ e. other_apart r n c.args.second (e ∙ c.inode_place-place.ensures.place)) ∙ (c.requires.lies shows).not_there) in
    let most = limits r is.geometry in
    let stands : IsPoint d x = passes_point d (IsPlaceFor r n) p x is live step.changes (λ shows.
    has_working_inode d (IsPlaceFor r n) p x is live step.changes n c.requires.number (λ k such. such) shows
    (λ one two. cc ((is.told live shows).both_stay n c.requires.number one two (not c.args.second), (c.requires.lies shows).not_there))
    (counts_up q.numbers (free_inodes_of r (working_of d p)) r.inodes c.saturating_add-p.result (c.mark.ensures.numbers ∙ (is.told live shows).numbers)
    (few_numbers r (working_of d p)) most.inodes c.saturating_add-p.ensures
    ∙ sym (one_more d (IsPlaceFor r n) p x is live step.changes n c.requires.number (λ k such. such) shows
    (not_free r (working_of d p) n c.args.second (c.requires.lies shows).here)
    (both_free r (working_of d x) n (none shows false) (none shows true))))) in
    passes_called d (IsPlaceFor r n) p x is live _ step stands (g.met.D.Disk.sure_is_shown x.cache.disk)

pub returns-in-Ok-clause-point : goal.returns-in-Ok-clause-point
returns-in-Ok-clause-point g c =
    let d = g.D.Disk in
    let p = c.args.p.now in
    let q = c.mark.new.p in
    let n = c.args.n in
    let r = p.master.geometry in
    let is = c.requires.stands in
    let live = c.requires.live in
    let place = c.inode_place-place.result in
    let at = at_place r n place c.args.second c.inode_place-place.ensures.place in
    let x = counted q c.saturating_add-p.result in
    let step = step_counted d (IsPlaceFor r n) p q c.saturating_add-p.result _ (step_more d (IsBlock place) (IsPlaceFor r n) p q _ at c.in-Ok.ensures.step) in
    passes_keeps d (IsPlaceFor r n) p x is live step.changes

pub returns-in-Ok-clause-places : goal.returns-in-Ok-clause-places
returns-in-Ok-clause-places g c =
    let d = g.D.Disk in
    let p = c.args.p.now in
    let q = c.mark.new.p in
    let n = c.args.n in
    let r = p.master.geometry in
    let is = c.requires.stands in
    let live = c.requires.live in
    let place = c.inode_place-place.result in
    let at = at_place r n place c.args.second c.inode_place-place.ensures.place in
    let x = counted q c.saturating_add-p.result in
    let step = step_counted d (IsPlaceFor r n) p q c.saturating_add-p.result _ (step_more d (IsBlock place) (IsPlaceFor r n) p q _ at c.in-Ok.ensures.step) in
    keeps_places_but d (IsPlaceFor r n) p x is live step.changes n c.requires.number (λ k such. such)

pub returns-in-Ok-clause-dropped : goal.returns-in-Ok-clause-dropped
returns-in-Ok-clause-dropped g c = λ told.
    let d = g.D.Disk in
    let p = c.args.p.now in
    let q = c.mark.new.p in
    let n = c.args.n in
    let r = p.master.geometry in
    let is = c.requires.stands in
    let live = c.requires.live in
    let place = c.inode_place-place.result in
    let at = at_place r n place c.args.second c.inode_place-place.ensures.place in
    let x = counted q c.saturating_add-p.result in
    let step = step_counted d (IsPlaceFor r n) p q c.saturating_add-p.result _ (step_more d (IsBlock place) (IsPlaceFor r n) p q _ at c.in-Ok.ensures.step) in
    let none : IsTrue (d.origin p.cache.disk).shows → (s : Bool) → working_of d x (inode_place_of r n s) ≡ false = λ shows s.
    neither r (working_of d x) n c.args.second s (ap (working_of d x) (sym c.inode_place-place.ensures.place) ∙ c.in-Ok.ensures.used shows)
    (c.mark.ensures.step.changes.used shows (inode_place_of r n (not c.args.second)) (place_has_bit r (limits r is.geometry) n (not c.args.second) c.requires.number)
    (λ e. other_apart r n c.args.second (e ∙ c.inode_place-place.ensures.place)) ∙ (c.requires.lies shows).not_there) in
    working_inode d (IsPlaceFor r n) p x is live step.changes n c.requires.number (λ k such. such) told
    ∙ ap (with_inode (state_of d p).working n) (inode_absent r (working_of d x) (content_in d x.cache) n (none told false) (none told true))

-- ---- after a fault

pub returns-in-Err-clause-stands : goal.returns-in-Err-clause-stands
returns-in-Err-clause-stands g c =
    let d = g.D.Disk in
    let p = c.args.p.now in
    let q = c.mark.new.p in
    let n = c.args.n in
    let r = p.master.geometry in
    let is = c.requires.stands in
    let live = c.requires.live in
    let place = c.inode_place-place.result in
    let at = at_place r n place c.args.second c.inode_place-place.ensures.place in
    let fault = c.in-Err.fault in
    let step = step_more d (IsBlock place) (IsPlaceFor r n) p q _ at c.in-Err.ensures.step in
    subst (IsPoint d) (sym c.end_with.ensures.ended) (fails_point d (IsPlaceFor r n) p q is live (damage_after q.damage fault) step.changes)

pub returns-in-Err-clause-called : goal.returns-in-Err-clause-called
returns-in-Err-clause-called g c =
    let d = g.D.Disk in
    let p = c.args.p.now in
    let q = c.mark.new.p in
    let n = c.args.n in
    let r = p.master.geometry in
    let is = c.requires.stands in
    let live = c.requires.live in
    let place = c.inode_place-place.result in
    let at = at_place r n place c.args.second c.inode_place-place.ensures.place in
    let fault = c.in-Err.fault in
    let step = step_more d (IsBlock place) (IsPlaceFor r n) p q _ at c.in-Err.ensures.step in
    subst (λ (f : StoreFault). Called {T = Unit {0}} (state_of d p) (state_of d c.end_with.new.p) (Err f)) (sym c.end_with.ensures.answer)
    (subst (λ (y : Parts g.row.D.Denot). Called {T = Unit {0}} (state_of d p) (state_of d y) (Err fault)) (sym c.end_with.ensures.ended)
    (fails_called d (IsPlaceFor r n) p q is live fault step (g.met.D.Disk.sure_is_shown q.cache.disk)))

pub returns-in-Err-clause-point : goal.returns-in-Err-clause-point
returns-in-Err-clause-point g c =
    let d = g.D.Disk in
    let p = c.args.p.now in
    let q = c.mark.new.p in
    let n = c.args.n in
    let r = p.master.geometry in
    let is = c.requires.stands in
    let live = c.requires.live in
    let place = c.inode_place-place.result in
    let at = at_place r n place c.args.second c.inode_place-place.ensures.place in
    let fault = c.in-Err.fault in
    let step = step_more d (IsBlock place) (IsPlaceFor r n) p q _ at c.in-Err.ensures.step in
    subst (λ (y : Parts g.row.D.Denot). KeepsPoint (state_of d p) (state_of d y)) (sym c.end_with.ensures.ended)
    (fails_keeps d (IsPlaceFor r n) p q is live (damage_after q.damage fault) step.changes)

pub returns-in-Err-clause-undamaged : goal.returns-in-Err-clause-undamaged
returns-in-Err-clause-undamaged g c = λ told.
    subst (λ (f : StoreFault). NeverDamaged {T = Unit {0}} (Err f)) (sym c.end_with.ensures.answer) (c.in-Err.ensures.undamaged told)
