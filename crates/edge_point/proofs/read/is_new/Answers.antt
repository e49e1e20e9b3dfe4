use Rattle.std.proofs.Common.{◌≡◌, Bool, false, Ok, Err, refl, sym, ap, ◌∙◌, subst}
use Rattle.std.specs.Prelude.{Result}
use Rattle.edge_base.specs.outside.Below.{SameBelow}
use Rattle.edge_store.specs.Calls.{Called, KeepsPoint, KeepsWorking}
use Rattle.edge_store.specs.declared.fault.StoreFault.{StoreFault}
use Rattle.edge_store.specs.declared.fault.StoreFault.TheVariants.{Damaged}
use Rattle.edge_nodes.proofs.GeometryLaws.{limits}
use Rattle.edge_anchor.proofs.PlaceLaws.{block_has_bit}
use Rattle.edge_point.specs.Ended.{damage_after, ended, of_imap}
use Rattle.edge_point.specs.Seen.{state_of}
use Rattle.edge_point.specs.Standing.{IsPoint}
use Rattle.edge_point.specs.declared.parts.Parts.{Parts}
use Rattle.edge_point.proofs.EndedLaws.{imap_because, imap_never, told_new}
use Rattle.edge_point.proofs.ReadLaws.{seen_called, seen_failed, seen_is, seen_keeps, seen_point, seen_works}
use Rattle.edge_point.proofs.read.is_new.Goals as goal

pub block_state-requires-clause-block : goal.block_state-requires-clause-block
block_state-requires-clause-block g c =
    let r = c.args.p.now.master.geometry in
    block_has_bit r (limits r c.requires.stands.geometry) c.args.b c.requires.block

same_fault : (r : Result Bool StoreFault) (a b : StoreFault) → r ≡ Err a → r ≡ Err b → a ≡ b
same_fault r a b first second = cc

pub returns-in-Ok-clause-stands : goal.returns-in-Ok-clause-stands
returns-in-Ok-clause-stands g c =
    let d = g.D.Disk in
    let p = c.args.p.now in
    let q = c.block_state.new.p in
    let is = c.requires.stands in
    let live = c.requires.live in
    let all = c.block_state.ensures in
    let same = seen_is d p q all.rest all.imap in
    subst (IsPoint d) same (seen_point d p q is live all.reads all.rest.block p.live p.damage is.undamaged)

pub returns-in-Ok-clause-called : goal.returns-in-Ok-clause-called
returns-in-Ok-clause-called g c =
    let d = g.D.Disk in
    let p = c.args.p.now in
    let q = c.block_state.new.p in
    let is = c.requires.stands in
    let live = c.requires.live in
    let all = c.block_state.ensures in
    let same = seen_is d p q all.rest all.imap in
    subst (λ (x : Parts g.row.D.Denot). Called (state_of d p) (state_of d x) (Ok c.is_new_state.result)) same
    (seen_called d p q is live all.reads c.is_new_state.result all.rest.block (g.met.D.Disk.sure_is_shown q.cache.disk) c.in-Ok.ensures.cause.passed)

pub returns-in-Ok-clause-point : goal.returns-in-Ok-clause-point
returns-in-Ok-clause-point g c =
    let d = g.D.Disk in
    let p = c.args.p.now in
    let q = c.block_state.new.p in
    let is = c.requires.stands in
    let live = c.requires.live in
    let all = c.block_state.ensures in
    let same = seen_is d p q all.rest all.imap in
    subst (λ (x : Parts g.row.D.Denot). KeepsPoint (state_of d p) (state_of d x)) same (seen_keeps d p q is live all.reads p.live p.damage)

pub returns-in-Ok-clause-reads : goal.returns-in-Ok-clause-reads
returns-in-Ok-clause-reads g c =
    let d = g.D.Disk in
    let p = c.args.p.now in
    let q = c.block_state.new.p in
    let is = c.requires.stands in
    let live = c.requires.live in
    let all = c.block_state.ensures in
    let same = seen_is d p q all.rest all.imap in
    subst (λ (x : Parts g.row.D.Denot). KeepsWorking (state_of d p) (state_of d x)) same (seen_works d p q is live all.reads p.live p.damage)

pub returns-in-Ok-clause-below : goal.returns-in-Ok-clause-below
returns-in-Ok-clause-below g c =
    λ clean. (c.block_state.ensures.reads.clean clean).candidates

pub returns-in-Ok-clause-clean : goal.returns-in-Ok-clause-clean
returns-in-Ok-clause-clean g c =
    λ clean. (c.block_state.ensures.reads.clean clean).clean

pub returns-in-Ok-clause-is_new : goal.returns-in-Ok-clause-is_new
returns-in-Ok-clause-is_new g c =
    let d = g.D.Disk in
    let p = c.args.p.now in
    let q = c.block_state.new.p in
    let is = c.requires.stands in
    let live = c.requires.live in
    let all = c.block_state.ensures in
    let same = seen_is d p q all.rest all.imap in
    λ told. c.is_new_state.ensures ∙ told_new d p is live told c.args.b c.requires.block c.in-Ok.state (c.in-Ok.ensures.state told)

pub returns-in-Err-clause-stands : goal.returns-in-Err-clause-stands
returns-in-Err-clause-stands g c =
    let d = g.D.Disk in
    let p = c.args.p.now in
    let q = c.block_state.new.p in
    let is = c.requires.stands in
    let live = c.requires.live in
    let all = c.block_state.ensures in
    let same = seen_is d p q all.rest all.imap in
    let fault = of_imap c.in-Err.fault in
    let damage = damage_after p.damage fault in
    let there = ap (λ (x : Parts g.row.D.Denot). ended x (damage_after x.damage fault)) same ∙ sym c.end_by.ensures.ended in
    subst (IsPoint d) there (seen_point d p q is live all.reads all.rest.block false damage (λ h. absurd (cc h)))

pub returns-in-Err-clause-called : goal.returns-in-Err-clause-called
returns-in-Err-clause-called g c =
    let d = g.D.Disk in
    let p = c.args.p.now in
    let q = c.block_state.new.p in
    let is = c.requires.stands in
    let live = c.requires.live in
    let all = c.block_state.ensures in
    let same = seen_is d p q all.rest all.imap in
    let fault = of_imap c.in-Err.fault in
    let damage = damage_after p.damage fault in
    let there = ap (λ (x : Parts g.row.D.Denot). ended x (damage_after x.damage fault)) same ∙ sym c.end_by.ensures.ended in
    subst (λ (r : StoreFault). Called {T = Bool} (state_of d p) (state_of d c.end_by.new.p) (Err r)) (sym c.end_by.ensures.answer)
    (subst (λ (x : Parts g.row.D.Denot). Called {T = Bool} (state_of d p) (state_of d x) (Err fault)) there
    (seen_failed d p q is live all.reads fault damage all.rest.block (g.met.D.Disk.sure_is_shown q.cache.disk) all.cause.later
    (imap_because d _ p.cache q.cache c.block_state.result c.in-Err.fault p.damage all.cause c.in-Err.is)))

pub returns-in-Err-clause-point : goal.returns-in-Err-clause-point
returns-in-Err-clause-point g c =
    let d = g.D.Disk in
    let p = c.args.p.now in
    let q = c.block_state.new.p in
    let is = c.requires.stands in
    let live = c.requires.live in
    let all = c.block_state.ensures in
    let same = seen_is d p q all.rest all.imap in
    let fault = of_imap c.in-Err.fault in
    let damage = damage_after p.damage fault in
    let there = ap (λ (x : Parts g.row.D.Denot). ended x (damage_after x.damage fault)) same ∙ sym c.end_by.ensures.ended in
    subst (λ (x : Parts g.row.D.Denot). KeepsPoint (state_of d p) (state_of d x)) there (seen_keeps d p q is live all.reads false damage)

pub returns-in-Err-clause-below : goal.returns-in-Err-clause-below
returns-in-Err-clause-below g c =
    let d = g.D.Disk in
    let p = c.args.p.now in
    let q = c.block_state.new.p in
    let is = c.requires.stands in
    let live = c.requires.live in
    let all = c.block_state.ensures in
    let same = seen_is d p q all.rest all.imap in
    let fault = of_imap c.in-Err.fault in
    let damage = damage_after p.damage fault in
    let there = ap (λ (x : Parts g.row.D.Denot). ended x (damage_after x.damage fault)) same ∙ sym c.end_by.ensures.ended in
    λ clean. subst (λ (x : Parts g.row.D.Denot). SameBelow (d.may_hold p.cache.disk) (d.may_hold x.cache.disk) (d.is_sure p.cache.disk) (d.is_sure x.cache.disk)) there
    (all.reads.clean clean).candidates

pub returns-in-Err-clause-undamaged : goal.returns-in-Err-clause-undamaged
returns-in-Err-clause-undamaged g c =
    let d = g.D.Disk in
    let p = c.args.p.now in
    let q = c.block_state.new.p in
    let is = c.requires.stands in
    let live = c.requires.live in
    let all = c.block_state.ensures in
    let same = seen_is d p q all.rest all.imap in
    λ told x h. imap_never c.block_state.result c.in-Err.fault x c.in-Err.is (all.sound told (is.told live told).tied) (sym c.end_by.ensures.answer ∙ same_fault (Err c.end_by.result) c.end_by.result (Damaged x) refl h)
