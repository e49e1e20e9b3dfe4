use Rattle.std.proofs.Common.{◌≡◌, ◌∙◌, ℕ, ◌+◌, ◌-◌, ◌≤◌, ◌++◌, drop, take, length, min, length-take-le, Some, None, refl, sym, ap, subst, arith}
use Rattle.std.specs.Prelude.{Ok, Err}
use Rattle.std.proofs.lemmas.Bool.{not-true}
use Rattle.std.proofs.lemmas.Result.{err_from_is_err_and}
use Rattle.edge_base.specs.outside.Below.{Origin}
use Rattle.edge_handles.specs.Table.{descriptor_of}
use Rattle.edge_model.specs.Asked as command
use Rattle.edge_model.specs.Rules.{IsTree}
use Rattle.edge_model.proofs.Changes.{not_false}
use Rattle.edge_volume.specs.Did.{Did}
use Rattle.edge_volume.proofs.LookLaws.{looks_of_call, looks_on, looks_stands}
use Rattle.edge_calls.specs.State.{volume_of}
use Rattle.edge_calls.proofs.ContentLaws.{none_left, piece_left, file_sound}
use Rattle.edge_calls.proofs.DescriptorLaws.{file_is_open}
use Rattle.edge_calls.proofs.ReadLaws.{read_stopped, read_closed, read_no_node, read_ended, read_none, read_told}
use Rattle.edge_calls.proofs.volume.Volume.read.Goals as goal

pub returns-in_err-slot-clause-did : goal.returns-in_err-slot-clause-did
returns-in_err-slot-clause-did g c =
    let old = volume_of g.S.Store c.args.self.now in
    let p = err_from_is_err_and c.from_residual.result c.from_residual.ensures.1 in
    subst (λ r. Did (command.read c.args.h c.args.count) r old old c.args.out.now) (sym (p.1 ∙ ap Err p.2))
    (read_stopped c.args.h c.args.count old old c.args.out.now refl refl c.in_err-slot.field-0.0 c.requires.live refl c.in_err-slot.ensures)

pub returns-then-not-slot-clause-did : goal.returns-then-not-slot-clause-did
returns-then-not-slot-clause-did g c =
    let old = volume_of g.S.Store c.args.self.now in
    read_closed c.args.h c.args.count old old c.args.out.now refl refl (descriptor_of c.in_ok-slot.slot) c.requires.live refl c.in_ok-slot.ensures
    (not-true c.in_ok-slot.slot.read c.if-not-slot.true)

pub returns-in_err-head-clause-did : goal.returns-in_err-head-clause-did
returns-in_err-head-clause-did g c =
    let old = volume_of g.S.Store c.args.self.now in
    let new = volume_of g.S.Store (record c.args.self.now { store = c.open_head.new.s }) in
    let looked = c.in_err-head.ensures in
    let p = err_from_is_err_and c.from_residual-in_err-head.result c.from_residual-in_err-head.ensures.1 in
    subst (λ r. Did (command.read c.args.h c.args.count) r old new c.args.out.now) (sym (p.1 ∙ ap Err p.2))
    (read_no_node c.args.h c.args.count old new c.args.out.now refl refl c.in_err-head.field-0.0 (descriptor_of c.in_ok-slot.slot) c.in_ok-slot.ensures
    looked.looks.ends looked.looks.point looked.looks.reads looked.undamaged looked.head)

pub returns-then-slot-head-clause-did : goal.returns-then-slot-head-clause-did
returns-then-slot-head-clause-did g c =
    let old = volume_of g.S.Store c.args.self.now in
    let new = volume_of g.S.Store (record c.args.self.now { store = c.open_head.new.s }) in
    let looked = c.in_ok-head.ensures in
    let d = descriptor_of c.in_ok-slot.slot in
    read_none c.args.h c.args.count old new c.args.out.now refl refl looked.looks.ends looked.looks.point (looked.looks.reads refl) d c.in_ok-slot.ensures
    (not_false c.in_ok-slot.slot.read c.if-not-slot.false)
    (λ s stands. none_left old s c.args.h d stands (c.in_ok-slot.ensures s (sym stands.descriptors)) c.in_ok-head.head
    (looked.head s stands.store stands.session.trees.tree) c.if-slot-head.true)

pub returns-in_err-done-clause-did : goal.returns-in_err-done-clause-did
returns-in_err-done-clause-did g c =
    let x = c.args.self.now.store in
    let m = c.open_head.new.s in
    let old = volume_of g.S.Store c.args.self.now in
    let new = volume_of g.S.Store (record c.args.self.now { store = c.read_at.new.s }) in
    let out = c.read_at.new.out ++ drop c.min-len.result c.args.out.now in
    let looked = c.in_ok-head.ensures in
    let call = c.in_err-done.ensures in
    let fault = c.in_err-done.field-0.0 in
    let d = descriptor_of c.in_ok-slot.slot in
    let looks = looks_on g.S.Store (Some fault) x m c.read_at.new.s looked.looks
    (looks_of_call g.S.Store m c.read_at.new.s (Err fault) call.called call.point call.reads call.below call.clean call.damage) in
    let p = err_from_is_err_and c.from_residual-in_err-done.result c.from_residual-in_err-done.ensures.1 in
    subst (λ r. Did (command.read c.args.h c.args.count) r old new out) (sym (p.1 ∙ ap Err p.2))
    (read_ended c.args.h c.args.count old new out refl refl fault looks.ends looks.point
    (λ s stands damage e.
    let here = looks_stands g.S.Store x m s looked.looks stands.store in
    let tree = subst (λ (o : Origin). IsTree o.request s.tree) (sym looked.looks.ends.origin) stands.session.trees.tree in
    let sound = file_sound old s c.args.h d stands (c.in_ok-slot.ensures s (sym stands.descriptors)) c.in_ok-head.head
    (looked.head s stands.store stands.session.trees.tree) (g.S.Store.state m) here tree (g.met.S.Store.is_geometry m) in
    call.undamaged here.told sound damage (ap Err (let h : Some fault ≡ Some _ = e in cc))))

pub returns-clause-did : goal.returns-clause-did
returns-clause-did g c =
    let x = c.args.self.now.store in
    let m = c.open_head.new.s in
    let old = volume_of g.S.Store c.args.self.now in
    let new = volume_of g.S.Store (record c.args.self.now { store = c.read_at.new.s; handles = c.move_to-open.new.self }) in
    let len = c.min-len.result in
    let done = c.in_ok-done.done in
    let out = c.read_at.new.out ++ drop len c.args.out.now in
    let looked = c.in_ok-head.ensures in
    let call = c.in_ok-done.ensures in
    let d = descriptor_of c.in_ok-slot.slot in
    let is_open = file_is_open c.args.self.now.handles c.args.h d c.in_ok-slot.ensures in
    let looks = looks_on g.S.Store None x m c.read_at.new.s looked.looks
    (looks_of_call g.S.Store m c.read_at.new.s (Ok done) call.called call.point call.reads call.below call.clean call.damage) in
    let count_is = c.from.ensures in
    let least : len ≡ min (c.in_ok-head.head.size - d.at) c.args.count = c.min-len.ensures ∙ ap (min (c.in_ok-head.head.size - d.at)) count_is in
    let most = c.requires.limits.1 in
    let room = c.requires.buffer in
    let long : length (take len c.args.out.now) ≡ len = length-take-le len c.args.out.now (omega (arith, least, most, room)) in
    let within : done ≤ length (take len c.args.out.now) = call.within in
    read_told c.args.h c.args.count old new out refl d done (d.at + c.from-2.result) looks.ends looks.point (looks.reads refl) c.in_ok-slot.ensures is_open
    (not_false c.in_ok-slot.slot.read c.if-not-slot.false) (c.move_to-open.ensures.moved d is_open) (omega (arith, within, long, least, most))
    (λ s stands.
    let here = looks_stands g.S.Store x m s looked.looks stands.store in
    let tree = subst (λ (o : Origin). IsTree o.request s.tree) (sym looked.looks.ends.origin) stands.session.trees.tree in
    let k = piece_left old s c.args.h d stands (c.in_ok-slot.ensures s (sym stands.descriptors)) c.in_ok-head.head
    (looked.head s stands.store stands.session.trees.tree) (g.S.Store.state m) here tree (g.met.S.Store.is_geometry m)
    (take len c.args.out.now) c.read_at.new.out (drop len c.args.out.now) c.args.count len done c.if-slot-head.false c.requires.limits.0 least long
    (call.count here.told) (call.bytes here.told) in
    (k.0, k.1, ap (λ (n : ℕ). d.at + n) c.from-2.ensures, k.2))
