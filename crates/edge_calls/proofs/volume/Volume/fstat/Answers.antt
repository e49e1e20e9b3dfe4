use Rattle.std.proofs.Common.{◌∙◌, refl, sym, ap, subst}
use Rattle.std.specs.Prelude.{Ok, Err}
use Rattle.std.proofs.lemmas.Result.{err_from_is_err_and}
use Rattle.edge_handles.specs.Table.{descriptor_of}
use Rattle.edge_model.specs.Asked as command
use Rattle.edge_volume.specs.Stopped.{fault_of}
use Rattle.edge_volume.specs.Parts.{KeepsBelow}
use Rattle.edge_volume.specs.Did.{Did}
use Rattle.edge_volume.proofs.LookLaws.{below_same}
use Rattle.edge_calls.specs.State.{volume_of}
use Rattle.edge_calls.proofs.StatusLaws.{fstat_stopped, fstat_ended, fstat_gone, fstat_told}
use Rattle.edge_calls.proofs.volume.Volume.fstat.Goals as goal

pub returns-in_err-slot-clause-did : goal.returns-in_err-slot-clause-did
returns-in_err-slot-clause-did g c out =
    let old = volume_of g.S.Store c.args.self.now in
    let p = err_from_is_err_and c.from_residual.result c.from_residual.ensures.1 in
    subst (λ r. Did (command.fstat c.args.h) r old old out) (sym (p.1 ∙ ap Err p.2))
    (fstat_stopped c.args.h old old out refl refl c.in_err-slot.field-0.0 c.requires.live refl c.in_err-slot.ensures)

pub returns-in_err-slot-clause-below : goal.returns-in_err-slot-clause-below
returns-in_err-slot-clause-below g c = below_same g.S.Store (fault_of c.from_residual.result) c.args.self.now.store c.args.self.now.store refl

pub returns-in_err-head-clause-did : goal.returns-in_err-head-clause-did
returns-in_err-head-clause-did g c out =
    let looked = c.in_err-head.ensures in
    let old = volume_of g.S.Store c.args.self.now in
    let new = volume_of g.S.Store (record c.args.self.now { store = c.node_head.new.s }) in
    let p = err_from_is_err_and c.from_residual-in_err-head.result c.from_residual-in_err-head.ensures.1 in
    subst (λ r. Did (command.fstat c.args.h) r old new out) (sym (p.1 ∙ ap Err p.2))
    (fstat_ended c.args.h old new out refl refl c.in_err-head.field-0.0 looked.looks.ends looked.looks.point looked.undamaged)

pub returns-in_err-head-clause-below : goal.returns-in_err-head-clause-below
returns-in_err-head-clause-below g c =
    let p = err_from_is_err_and c.from_residual-in_err-head.result c.from_residual-in_err-head.ensures.1 in
    subst (λ r. KeepsBelow g.S.Store (fault_of r) c.args.self.now.store c.node_head.new.s) (sym (p.1 ∙ ap Err p.2)) c.in_err-head.ensures.looks.below

pub returns-in_default-clause-did : goal.returns-in_default-clause-did
returns-in_default-clause-did g c out =
    let looked = c.in_ok-head.ensures in
    let old = volume_of g.S.Store c.args.self.now in
    let new = volume_of g.S.Store (record c.args.self.now { store = c.node_head.new.s }) in
    fstat_gone c.args.h old new out refl refl (descriptor_of c.in_ok-slot.slot) c.in_ok-slot.ensures looked.looks.ends looked.looks.point (looked.looks.reads refl)
    (λ z stands tree. sym c.in_default.is ∙ looked.head z stands tree)

pub returns-in_default-clause-below : goal.returns-in_default-clause-below
returns-in_default-clause-below g c = c.in_ok-head.ensures.looks.below

pub returns-clause-did : goal.returns-clause-did
returns-clause-did g c out =
    let looked = c.in_ok-head.ensures in
    let old = volume_of g.S.Store c.args.self.now in
    let new = volume_of g.S.Store (record c.args.self.now { store = c.node_head.new.s }) in
    subst (λ answer. Did (command.fstat c.args.h) (Ok answer) old new out) (sym c.told.ensures)
    (fstat_told c.args.h old new out refl refl (descriptor_of c.in_ok-slot.slot) c.in_ok-slot.ensures looked.looks.ends looked.looks.point (looked.looks.reads refl)
    c.in-Some.head (λ z stands tree. sym c.in-Some.is ∙ looked.head z stands tree))

pub returns-clause-below : goal.returns-clause-below
returns-clause-below g c = c.in_ok-head.ensures.looks.below
