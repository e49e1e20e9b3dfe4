use Rattle.std.proofs.Common.{◌∙◌, Some, None, sym, ap, subst}
use Rattle.std.specs.Prelude.{Ok, Err}
use Rattle.std.proofs.lemmas.Result.{err_from_is_err_and}
use Rattle.edge_dir.specs.Bounds.{IsFoundWithin}
use Rattle.edge_dir.specs.Directory.{IsFoundIn, OnSlots}
use Rattle.edge_dir.specs.Looked.{SeesName}
use Rattle.edge_volume.specs.Stopped.{fault_of}
use Rattle.edge_volume.proofs.LookLaws.{looks_of_call}
use Rattle.edge_walk.proofs.FindLaws.{found_reached, finds_undamaged, finds_number}
use Rattle.edge_walk.proofs.walk.below.Goals as goal

pub returns-in_err-found-clause-undamaged : goal.returns-in_err-found-clause-undamaged
returns-in_err-found-clause-undamaged g c z stands tree damage e =
    let p = err_from_is_err_and c.from_residual-in_err-found.result c.from_residual-in_err-found.ensures.1 in
    let entered = c.in_ok-enter.ensures in
    finds_undamaged g.S.Store c.args.s.now c.enter.new.s entered.looks c.args.d entered.holder (Err c.in_err-found.field-0.0) c.in_err-found.ensures.undamaged
    z stands tree damage (sym (ap fault_of (p.1 ∙ ap Err p.2)) ∙ e)

pub returns-in-Some-clause-number : goal.returns-in-Some-clause-number
returns-in-Some-clause-number g c =
    let entered = c.in_ok-enter.ensures in
    finds_number g.S.Store c.args.s.now c.enter.new.s entered.looks c.args.d entered.holder c.args.name.now (Some c.in-Some.found) entered.kind
    (subst (λ found. OnSlots (g.S.Store.state c.enter.new.s) c.args.d (λ slots. IsFoundIn slots c.args.name.now found)) c.in-Some.is c.in_ok-found.ensures.found)

pub returns-in-Some-clause-reached : goal.returns-in-Some-clause-reached
returns-in-Some-clause-reached g c =
    let b = g.S.Store.state c.enter.new.s in
    let call = c.in_ok-found.ensures in
    found_reached g.S.Store c.enter.new.s c.find.new.s c.args.d c.args.name.now c.in-Some.found
    (looks_of_call g.S.Store c.enter.new.s c.find.new.s (Ok c.in_ok-found.field-0) call.called call.point call.reads call.below call.clean call.damage)
    c.in_ok-enter.ensures.holder
    (subst (IsFoundWithin b.origin.request) c.in-Some.is call.within)
    (subst (SeesName b c.args.d c.args.name.now) c.in-Some.is call.seen)
    (subst (λ found. OnSlots b c.args.d (λ slots. IsFoundIn slots c.args.name.now found)) c.in-Some.is call.found)

pub returns-in-None-clause-number : goal.returns-in-None-clause-number
returns-in-None-clause-number g c =
    let entered = c.in_ok-enter.ensures in
    finds_number g.S.Store c.args.s.now c.enter.new.s entered.looks c.args.d entered.holder c.args.name.now None entered.kind
    (subst (λ found. OnSlots (g.S.Store.state c.enter.new.s) c.args.d (λ slots. IsFoundIn slots c.args.name.now found)) c.in-None.is c.in_ok-found.ensures.found)
