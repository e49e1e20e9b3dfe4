use Rattle.std.proofs.Common.{Err, sym, subst}
use Rattle.edge_cache.specs.Calls.{content_in}
use Rattle.edge_store.specs.Calls.{Called, KeepsPoint, NeverDamaged}
use Rattle.edge_store.specs.declared.fault.StoreFault.{StoreFault}
use Rattle.edge_point.specs.Changing.{IsPlaceFor, working_of}
use Rattle.edge_point.specs.Ended.{damage_after}
use Rattle.edge_point.specs.Seen.{state_of}
use Rattle.edge_point.specs.Standing.{IsPoint}
use Rattle.edge_point.specs.declared.parts.Parts.{Parts}
use Rattle.edge_point.proofs.ChangeLaws.{fails_called, fails_keeps, fails_point, passes_called, passes_keeps}
use Rattle.edge_point.proofs.SetLaws.{is_written}
use Rattle.edge_point.proofs.WorkingLaws.{keeps_places_but, working_inode}
use Rattle.edge_point.proofs.change.write_inode.Goals as goal

pub returns-in-Ok-clause-called : goal.returns-in-Ok-clause-called
returns-in-Ok-clause-called g c =
    let d = g.D.Disk in
    let p = c.args.p.now in
    let q = c.put_inode.new.p in
    passes_called d (IsPlaceFor p.master.geometry c.args.n) p q c.requires.stands c.requires.live _ c.in-Ok.ensures.step c.in-Ok.ensures.stands
    (g.met.D.Disk.sure_is_shown q.cache.disk)

pub returns-in-Ok-clause-point : goal.returns-in-Ok-clause-point
returns-in-Ok-clause-point g c =
    let p = c.args.p.now in
    passes_keeps g.D.Disk (IsPlaceFor p.master.geometry c.args.n) p c.put_inode.new.p c.requires.stands c.requires.live c.put_inode.ensures.step.changes

pub returns-in-Ok-clause-places : goal.returns-in-Ok-clause-places
returns-in-Ok-clause-places g c =
    let p = c.args.p.now in
    keeps_places_but g.D.Disk (IsPlaceFor p.master.geometry c.args.n) p c.put_inode.new.p c.requires.stands c.requires.live c.put_inode.ensures.step.changes
    c.args.n c.requires.number (λ k such. such)

pub returns-in-Ok-clause-written : goal.returns-in-Ok-clause-written
returns-in-Ok-clause-written g c = λ told.
    let d = g.D.Disk in
    let p = c.args.p.now in
    let q = c.put_inode.new.p in
    let r = p.master.geometry in
    is_written r (working_of d q) (content_in d q.cache) c.args.n p.block.items (state_of d p).working (state_of d q).working c.requires.number
    (c.in-Ok.ensures.put told)
    (working_inode d (IsPlaceFor r c.args.n) p q c.requires.stands c.requires.live c.put_inode.ensures.step.changes c.args.n c.requires.number (λ k such. such) told)

pub returns-in-Err-clause-stands : goal.returns-in-Err-clause-stands
returns-in-Err-clause-stands g c =
    let p = c.args.p.now in
    let q = c.put_inode.new.p in
    subst (IsPoint g.D.Disk) (sym c.end_with.ensures.ended)
    (fails_point g.D.Disk (IsPlaceFor p.master.geometry c.args.n) p q c.requires.stands c.requires.live (damage_after q.damage c.in-Err.fault) c.put_inode.ensures.step.changes)

pub returns-in-Err-clause-called : goal.returns-in-Err-clause-called
returns-in-Err-clause-called g c =
    let d = g.D.Disk in
    let p = c.args.p.now in
    let q = c.put_inode.new.p in
    subst (λ (f : StoreFault). Called {T = Unit {0}} (state_of d p) (state_of d c.end_with.new.p) (Err f)) (sym c.end_with.ensures.answer)
    (subst (λ (x : Parts g.row.D.Denot). Called {T = Unit {0}} (state_of d p) (state_of d x) (Err c.in-Err.fault)) (sym c.end_with.ensures.ended)
    (fails_called d (IsPlaceFor p.master.geometry c.args.n) p q c.requires.stands c.requires.live c.in-Err.fault c.in-Err.ensures.step
    (g.met.D.Disk.sure_is_shown q.cache.disk)))

pub returns-in-Err-clause-point : goal.returns-in-Err-clause-point
returns-in-Err-clause-point g c =
    let d = g.D.Disk in
    let p = c.args.p.now in
    let q = c.put_inode.new.p in
    subst (λ (x : Parts g.row.D.Denot). KeepsPoint (state_of d p) (state_of d x)) (sym c.end_with.ensures.ended)
    (fails_keeps d (IsPlaceFor p.master.geometry c.args.n) p q c.requires.stands c.requires.live (damage_after q.damage c.in-Err.fault) c.put_inode.ensures.step.changes)

pub returns-in-Err-clause-undamaged : goal.returns-in-Err-clause-undamaged
returns-in-Err-clause-undamaged g c = λ told.
    subst (λ (f : StoreFault). NeverDamaged {T = Unit {0}} (Err f)) (sym c.end_with.ensures.answer) (c.in-Err.ensures.undamaged told)
