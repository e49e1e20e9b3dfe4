use Rattle.std.proofs.Common.{◌∙◌, refl, sym, ap, subst}
use Rattle.std.specs.Prelude.{Err}
use Rattle.std.proofs.lemmas.Result.{err_from_is_err_and}
use Rattle.std.proofs.lemmas.Bool.{not-true}
use Rattle.edge_base.specs.commands.Descriptors.{descriptor_at}
use Rattle.edge_base.specs.commands.Events as event
use Rattle.edge_model.specs.Asked as command
use Rattle.edge_volume.specs.Stopped.{fault_of}
use Rattle.edge_volume.specs.Did.{Did}
use Rattle.edge_volume.proofs.LookLaws.{below_same}
use Rattle.edge_calls.specs.State.{volume_of}
use Rattle.edge_calls.proofs.DescriptorLaws.{not_some, some_is, close_unopened, closed, close_ended}
use Rattle.edge_calls.proofs.volume.Volume.close.Goals as goal

pub returns-then-not-leave-clause-did : goal.returns-then-not-leave-clause-did
returns-then-not-leave-clause-did g c out =
    let leave = c.if-not-leave.ensures in
    let old = volume_of g.S.Store c.args.self.now in
    let new = volume_of g.S.Store (record c.args.self.now { handles = c.leave.new.self }) in
    close_unopened c.args.h old new out c.requires.live refl refl leave.refused (not_some (descriptor_at c.args.self.now.handles c.args.h) leave.«open».1)

pub returns-in_err-take_point-clause-did : goal.returns-in_err-take_point-clause-did
returns-in_err-take_point-clause-did g c out =
    let leave = c.if-not-leave.ensures in
    let point = c.in_err-take_point.ensures in
    let old = volume_of g.S.Store c.args.self.now in
    let new = volume_of g.S.Store (record { store = c.take_point.new.s; mask = c.args.self.now.mask; handles = c.leave.new.self }) in
    let some = some_is (descriptor_at c.args.self.now.handles c.args.h) (leave.«open».0 refl) in
    let p = err_from_is_err_and c.from_residual.result c.from_residual.ensures.1 in
    subst (λ r. Did (command.close c.args.h) r old new out) (sym (p.1 ∙ ap Err p.2))
    (close_ended c.args.h old new out c.requires.live refl c.has.result (c.has.ensures.one event.close refl) leave.left some.0 some.1 c.in_err-take_point.field-0.0
    point.ends point.most point.comes)

pub returns-in_err-take_point-clause-below : goal.returns-in_err-take_point-clause-below
returns-in_err-take_point-clause-below g c quiet =
    below_same g.S.Store (fault_of c.from_residual.result) c.args.self.now.store c.take_point.new.s
    (c.in_err-take_point.ensures.none_due (c.has.ensures.one event.close refl ∙ not-true _ quiet))

pub returns-clause-did : goal.returns-clause-did
returns-clause-did g c out =
    let leave = c.if-not-leave.ensures in
    let point = c.in_ok-take_point.ensures in
    let old = volume_of g.S.Store c.args.self.now in
    let new = volume_of g.S.Store (record { store = c.take_point.new.s; mask = c.args.self.now.mask; handles = c.leave.new.self }) in
    let some = some_is (descriptor_at c.args.self.now.handles c.args.h) (leave.«open».0 refl) in
    closed c.args.h old new out c.requires.live refl c.has.result (c.has.ensures.one event.close refl) leave.left some.0 some.1 point.ends point.most point.comes

pub returns-clause-below : goal.returns-clause-below
returns-clause-below g c quiet =
    below_same g.S.Store _ c.args.self.now.store c.take_point.new.s (c.in_ok-take_point.ensures.none_due (c.has.ensures.one event.close refl ∙ not-true _ quiet))
