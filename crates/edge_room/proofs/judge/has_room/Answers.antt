use Rattle.std.proofs.Common.{◌∙◌, sym, ap, subst}
use Rattle.std.specs.Prelude.{Ok, Err}
use Rattle.std.proofs.lemmas.Result.{err_from_is_err_and}
use Rattle.edge_model.specs.State.{judged}
use Rattle.edge_volume.specs.Stopped.{fault_in}
use Rattle.edge_volume.specs.Parts.{Comes}
use Rattle.edge_volume.proofs.FaultLaws.{ends_of_call}
use Rattle.edge_room.proofs.JudgeLaws.{there_still, judged_fault, at_once, at_once_fits, never, never_fits, point_fault, once_more, once_more_looks, once_more_fits}
use Rattle.edge_room.proofs.judge.has_room.Goals as goal

pub returns-in_err-fits-clause-judged : goal.returns-in_err-fits-clause-judged
returns-in_err-fits-clause-judged g c z command p =
    let a = g.S.Store.state c.args.s.now in
    let m = g.S.Store.state c.fits.new.s in
    let told = c.in_err-fits.ensures in
    let e = err_from_is_err_and c.from_residual.result c.from_residual.ensures.1 in
    let j = judged a.origin.request z p.done.edit in
    subst (λ r. Comes (fault_in r) a m z j.state j.points) (sym (e.1 ∙ ap Err e.2))
    (judged_fault a m c.args.full c.args.change.now c.args.reserve z j.state command j.points c.in_err-fits.field-0.0 p c.requires.there told.undamaged (ends_of_call a m (Err c.in_err-fits.field-0.0) told.called told.damage) told.point)

pub returns-then-branch-clause-judged : goal.returns-then-branch-clause-judged
returns-then-branch-clause-judged g c z command p =
    let a = g.S.Store.state c.args.s.now in
    let m = g.S.Store.state c.fits.new.s in
    let told = c.in_ok-fits.ensures in
    at_once a m c.args.full c.args.change.now c.args.reserve z command p (g.met.S.Store.is_geometry c.args.s.now) c.requires.there (ends_of_call a m (Ok c.in_ok-fits.field-0) told.called told.damage) told.point told.reads
    c.in_ok-fits.field-0 told.fits c.if-branch.true

pub returns-then-branch-clause-fits : goal.returns-then-branch-clause-fits
returns-then-branch-clause-fits g c z command p =
    let a = g.S.Store.state c.args.s.now in
    let m = g.S.Store.state c.fits.new.s in
    let told = c.in_ok-fits.ensures in
    at_once_fits a m c.args.full c.args.change.now c.args.reserve z command p (g.met.S.Store.is_geometry c.args.s.now) c.requires.there (ends_of_call a m (Ok c.in_ok-fits.field-0) told.called told.damage) told.point told.reads
    c.in_ok-fits.field-0 told.fits c.if-branch.true

pub returns-then-not-gains-clause-judged : goal.returns-then-not-gains-clause-judged
returns-then-not-gains-clause-judged g c z command p =
    let a = g.S.Store.state c.args.s.now in
    let m = g.S.Store.state c.fits.new.s in
    let told = c.in_ok-fits.ensures in
    never a m c.args.full c.args.change.now c.args.reserve z command p (g.met.S.Store.is_geometry c.args.s.now) c.requires.there (ends_of_call a m (Ok c.in_ok-fits.field-0) told.called told.damage) told.point told.reads
    c.in_ok-fits.field-0 told.fits c.if-branch.false c.gains.result c.gains.ensures c.if-not-gains.true

pub returns-then-not-gains-clause-fits : goal.returns-then-not-gains-clause-fits
returns-then-not-gains-clause-fits g c z command p =
    let a = g.S.Store.state c.args.s.now in
    let m = g.S.Store.state c.fits.new.s in
    let told = c.in_ok-fits.ensures in
    never_fits a m c.args.full c.args.change.now c.args.reserve z command p (g.met.S.Store.is_geometry c.args.s.now) c.requires.there (ends_of_call a m (Ok c.in_ok-fits.field-0) told.called told.damage) told.point told.reads
    c.in_ok-fits.field-0 told.fits c.if-branch.false c.gains.result c.gains.ensures c.if-not-gains.true

pub returns-in_err-transact-clause-judged : goal.returns-in_err-transact-clause-judged
returns-in_err-transact-clause-judged g c z command p =
    let a = g.S.Store.state c.args.s.now in
    let m = g.S.Store.state c.fits.new.s in
    let n = g.S.Store.state c.transact.new.self in
    let told = c.in_ok-fits.ensures in
    let point = c.in_err-transact.ensures in
    let e = err_from_is_err_and c.from_residual-in_err-transact.result c.from_residual-in_err-transact.ensures.1 in
    let j = judged a.origin.request z p.done.edit in
    subst (λ r. Comes (fault_in r) a n z j.state j.points) (sym (e.1 ∙ ap Err e.2))
    (point_fault a m c.args.full c.args.change.now c.args.reserve z command p (g.met.S.Store.is_geometry c.args.s.now) c.requires.there (ends_of_call a m (Ok c.in_ok-fits.field-0) told.called told.damage) told.point told.reads
    c.in_ok-fits.field-0 told.fits c.if-branch.false c.gains.result c.gains.ensures c.if-not-gains.false n c.in_err-transact.field-0.0 point.called point.undamaged point.takes)

pub returns-clause-judged : goal.returns-clause-judged
returns-clause-judged g c z command p =
    let a = g.S.Store.state c.args.s.now in
    let m = g.S.Store.state c.fits.new.s in
    let n = g.S.Store.state c.transact.new.self in
    let last = g.S.Store.state c.fits-2.new.s in
    let told = c.in_ok-fits.ensures in
    let point = c.in_ok-transact.ensures in
    let again = c.fits-2.ensures in
    let still = there_still a n c.args.change.now (point.called.origin ∙ told.called.origin) (point.takes.working.working ∙ told.reads.working) c.requires.there in
    once_more a m c.args.full c.args.change.now c.args.reserve z command p (g.met.S.Store.is_geometry c.args.s.now) c.requires.there (ends_of_call a m (Ok c.in_ok-fits.field-0) told.called told.damage) told.point told.reads
    c.in_ok-fits.field-0 told.fits c.if-branch.false c.gains.result c.gains.ensures c.if-not-gains.false n c.in_ok-transact.field-0 point.called point.undamaged point.takes last (fault_in c.fits-2.result)
    (once_more_looks a m c.args.full c.args.change.now c.args.reserve z command p (g.met.S.Store.is_geometry c.args.s.now) c.requires.there (ends_of_call a m (Ok c.in_ok-fits.field-0) told.called told.damage) told.point told.reads
    c.in_ok-fits.field-0 told.fits c.if-branch.false c.gains.result c.gains.ensures c.if-not-gains.false n c.in_ok-transact.field-0 point.called point.undamaged point.takes last c.fits-2.result still again.undamaged
    (ends_of_call n last c.fits-2.result again.called again.damage) again.point again.reads)

pub returns-clause-fits : goal.returns-clause-fits
returns-clause-fits g c z command p =
    let a = g.S.Store.state c.args.s.now in
    let m = g.S.Store.state c.fits.new.s in
    let n = g.S.Store.state c.transact.new.self in
    let told = c.in_ok-fits.ensures in
    let point = c.in_ok-transact.ensures in
    let still = there_still a n c.args.change.now (point.called.origin ∙ told.called.origin) (point.takes.working.working ∙ told.reads.working) c.requires.there in
    once_more_fits a m c.args.full c.args.change.now c.args.reserve z command p (g.met.S.Store.is_geometry c.args.s.now) c.requires.there (ends_of_call a m (Ok c.in_ok-fits.field-0) told.called told.damage) told.point told.reads
    c.in_ok-fits.field-0 told.fits c.if-branch.false c.gains.result c.gains.ensures c.if-not-gains.false n c.in_ok-transact.field-0 point.called point.undamaged point.takes
    (g.S.Store.state c.fits-2.new.s) c.fits-2.result still c.fits-2.ensures.fits
