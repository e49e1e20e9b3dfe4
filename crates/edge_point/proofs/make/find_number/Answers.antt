use Rattle.std.proofs.Common.{◌≡◌, ℕ, Option, Ok, Err, false, refl, sym, ap, ◌∙◌, subst}
use Rattle.edge_store.specs.Calls.{Called, KeepsPoint, KeepsWorking, NeverDamaged}
use Rattle.edge_store.specs.declared.fault.StoreFault.{StoreFault}
use Rattle.edge_point.specs.Ended.{damage_after, ended}
use Rattle.edge_point.specs.Seen.{state_of}
use Rattle.edge_point.specs.Standing.{IsPoint}
use Rattle.edge_point.specs.declared.parts.Parts.{Parts}
use Rattle.edge_point.proofs.FindLaws.{sees_geometry, sees_point}
use Rattle.edge_point.proofs.FirstLaws.{first_free}
use Rattle.edge_point.proofs.ReadLaws.{seen_called, seen_failed, seen_is, seen_keeps, seen_point, seen_works}
use Rattle.edge_point.proofs.make.find_number.Goals as goal

pub returns-in-Ok-clause-stands : goal.returns-in-Ok-clause-stands
returns-in-Ok-clause-stands g c =
    let d = g.D.Disk in
    let p = c.args.p.now in
    let q = c.seek_number.new.p in
    let is = c.requires.stands in
    let live = c.requires.live in
    let sees = c.seek_number.ensures.sees in
    sees_point d p q c.seek_number.result sees is live

pub returns-in-Ok-clause-geometry : goal.returns-in-Ok-clause-geometry
returns-in-Ok-clause-geometry g c =
    let d = g.D.Disk in
    let p = c.args.p.now in
    let q = c.seek_number.new.p in
    let is = c.requires.stands in
    let live = c.requires.live in
    let sees = c.seek_number.ensures.sees in
    sees_geometry d p q c.seek_number.result sees

pub returns-in-Ok-clause-called : goal.returns-in-Ok-clause-called
returns-in-Ok-clause-called g c =
    let d = g.D.Disk in
    let p = c.args.p.now in
    let q = c.seek_number.new.p in
    let is = c.requires.stands in
    let live = c.requires.live in
    let sees = c.seek_number.ensures.sees in
    let same = seen_is d p q sees.rest sees.imap in
    subst (λ (x : Parts g.row.D.Denot). Called (state_of d p) (state_of d x) (Ok c.in-Ok.found)) same
    (seen_called d p q is live sees.reads c.in-Ok.found sees.rest.block (g.met.D.Disk.sure_is_shown q.cache.disk) c.in-Ok.ensures.sees.cause.passed.0)

pub returns-in-Ok-clause-point : goal.returns-in-Ok-clause-point
returns-in-Ok-clause-point g c =
    let d = g.D.Disk in
    let p = c.args.p.now in
    let q = c.seek_number.new.p in
    let is = c.requires.stands in
    let live = c.requires.live in
    let sees = c.seek_number.ensures.sees in
    let same = seen_is d p q sees.rest sees.imap in
    subst (λ (x : Parts g.row.D.Denot). KeepsPoint (state_of d p) (state_of d x)) same (seen_keeps d p q is live sees.reads p.live p.damage)

pub returns-in-Ok-clause-working : goal.returns-in-Ok-clause-working
returns-in-Ok-clause-working g c =
    let d = g.D.Disk in
    let p = c.args.p.now in
    let q = c.seek_number.new.p in
    let is = c.requires.stands in
    let live = c.requires.live in
    let sees = c.seek_number.ensures.sees in
    let same = seen_is d p q sees.rest sees.imap in
    subst (λ (x : Parts g.row.D.Denot). KeepsWorking (state_of d p) (state_of d x)) same (seen_works d p q is live sees.reads p.live p.damage)

pub returns-in-Err-clause-stands : goal.returns-in-Err-clause-stands
returns-in-Err-clause-stands g c =
    let d = g.D.Disk in
    let p = c.args.p.now in
    let q = c.seek_number.new.p in
    let is = c.requires.stands in
    let live = c.requires.live in
    let sees = c.seek_number.ensures.sees in
    let fault = c.in-Err.fault in
    let damage = damage_after p.damage fault in
    let same = seen_is d p q sees.rest sees.imap in
    let there = ap (λ (x : Parts g.row.D.Denot). ended x (damage_after x.damage fault)) same ∙ sym c.end_with.ensures.ended in
    subst (IsPoint d) there (seen_point d p q is live sees.reads sees.rest.block false damage (λ h. absurd (cc h)))

pub returns-in-Err-clause-geometry : goal.returns-in-Err-clause-geometry
returns-in-Err-clause-geometry g c =
    let d = g.D.Disk in
    let p = c.args.p.now in
    let q = c.seek_number.new.p in
    let is = c.requires.stands in
    let live = c.requires.live in
    let sees = c.seek_number.ensures.sees in
    let fault = c.in-Err.fault in
    let damage = damage_after p.damage fault in
    let same = seen_is d p q sees.rest sees.imap in
    let there = ap (λ (x : Parts g.row.D.Denot). ended x (damage_after x.damage fault)) same ∙ sym c.end_with.ensures.ended in
    subst (λ (x : Parts g.row.D.Denot). x.master.geometry ≡ p.master.geometry) there refl

pub returns-in-Err-clause-called : goal.returns-in-Err-clause-called
returns-in-Err-clause-called g c =
    let d = g.D.Disk in
    let p = c.args.p.now in
    let q = c.seek_number.new.p in
    let is = c.requires.stands in
    let live = c.requires.live in
    let sees = c.seek_number.ensures.sees in
    let fault = c.in-Err.fault in
    let damage = damage_after p.damage fault in
    let same = seen_is d p q sees.rest sees.imap in
    let there = ap (λ (x : Parts g.row.D.Denot). ended x (damage_after x.damage fault)) same ∙ sym c.end_with.ensures.ended in
    subst (λ (r : StoreFault). Called {T = Option ℕ} (state_of d p) (state_of d c.end_with.new.p) (Err r)) (sym c.end_with.ensures.answer)
    (subst (λ (x : Parts g.row.D.Denot). Called {T = Option ℕ} (state_of d p) (state_of d x) (Err fault)) there
    (seen_failed d p q is live sees.reads fault damage sees.rest.block (g.met.D.Disk.sure_is_shown q.cache.disk) sees.cause.later
    (c.in-Err.ensures.sees.cause.failed fault refl)))

pub returns-in-Err-clause-point : goal.returns-in-Err-clause-point
returns-in-Err-clause-point g c =
    let d = g.D.Disk in
    let p = c.args.p.now in
    let q = c.seek_number.new.p in
    let is = c.requires.stands in
    let live = c.requires.live in
    let sees = c.seek_number.ensures.sees in
    let fault = c.in-Err.fault in
    let damage = damage_after p.damage fault in
    let same = seen_is d p q sees.rest sees.imap in
    let there = ap (λ (x : Parts g.row.D.Denot). ended x (damage_after x.damage fault)) same ∙ sym c.end_with.ensures.ended in
    subst (λ (x : Parts g.row.D.Denot). KeepsPoint (state_of d p) (state_of d x)) there (seen_keeps d p q is live sees.reads false damage)

pub returns-in-Err-clause-working : goal.returns-in-Err-clause-working
returns-in-Err-clause-working g c =
    let d = g.D.Disk in
    let p = c.args.p.now in
    let q = c.seek_number.new.p in
    let is = c.requires.stands in
    let live = c.requires.live in
    let sees = c.seek_number.ensures.sees in
    let fault = c.in-Err.fault in
    let damage = damage_after p.damage fault in
    let same = seen_is d p q sees.rest sees.imap in
    let there = ap (λ (x : Parts g.row.D.Denot). ended x (damage_after x.damage fault)) same ∙ sym c.end_with.ensures.ended in
    subst (λ (x : Parts g.row.D.Denot). KeepsWorking (state_of d p) (state_of d x)) there (seen_works d p q is live sees.reads false damage)

pub returns-in-Ok-clause-found : goal.returns-in-Ok-clause-found
returns-in-Ok-clause-found g c = λ told.
    first_free g.D.Disk c.args.p.now c.requires.stands c.requires.live told c.in-Ok.found (c.in-Ok.ensures.found told)

pub returns-in-Err-clause-undamaged : goal.returns-in-Err-clause-undamaged
returns-in-Err-clause-undamaged g c = λ told.
    subst (λ (f : StoreFault). NeverDamaged {T = Option ℕ} (Err f)) (sym c.end_with.ensures.answer) (c.in-Err.ensures.sound told)
