use Rattle.std.proofs.Common.{◌∙◌, refl, sym, ap, subst}
use Rattle.std.specs.Prelude.{Ok, Err}
use Rattle.std.proofs.lemmas.Result.{err_from_is_err_and}
use Rattle.edge_base.specs.commands.Events as event
use Rattle.edge_base.specs.declared.node.NodeType.TheVariants.{File}
use Rattle.edge_base.specs.layout.Places.{IsWithinLimits}
use Rattle.edge_model.specs.declared.command.Answer.{Answer}
use Rattle.edge_model.specs.Asked as command
use Rattle.edge_names.specs.Made.{MakesNode}
use Rattle.edge_volume.specs.Did.{Did}
use Rattle.edge_calls.specs.State.{volume_of}
use Rattle.edge_calls.proofs.CreateLaws.{create_refused, create_judging, create_unfit, create_faulted, create_none, create_ended, create_done}
use Rattle.edge_calls.proofs.volume.Volume.create.Goals as goal

pub returns-in_err-may_take : goal.returns-in_err-may_take
returns-in_err-may_take g c = record {
  did = λ path out opens.
      let old = volume_of g.S.Store c.args.self.now in
      let e = err_from_is_err_and c.from_residual.result c.from_residual.ensures.1 in
      subst (λ r. Did (command.open_file path c.args.flags.now) r old old out) (sym (e.1 ∙ ap Err e.2))
      (create_refused path c.args.flags.now c.args.at old out c.requires.live c.requires.new opens c.in_err-may_take.field-0.0 c.in_err-may_take.ensures.may);
}

pub returns-in_err-has_room : goal.returns-in_err-has_room
returns-in_err-has_room g c = record {
  did = λ path out opens.
      let old = volume_of g.S.Store c.args.self.now in
      let last = volume_of g.S.Store (record c.args.self.now { store = c.has_room.new.s }) in
      let room = c.in_err-has_room.ensures in
      let e = err_from_is_err_and c.from_residual-in_err-has_room.result c.from_residual-in_err-has_room.ensures.1 in
      subst (λ r. Did (command.open_file path c.args.flags.now) r old last out) (sym (e.1 ∙ ap Err e.2))
      (create_judging path c.args.flags.now c.args.at old out c.requires.live c.requires.new opens
      (g.met.S.Store.is_geometry c.args.self.now.store) (subst IsWithinLimits c.geometry.ensures c.request-within_limits.ensures.limits)
      c.in_ok-may_take.ensures.may c.in_ok-may_take.ensures.block c.has-full.result (c.has-full.ensures.one event.full refl)
      c.in_err-has_room.field-0.0 last refl refl room.ends room.most room.judged);
}

pub returns-then-not-branch : goal.returns-then-not-branch
returns-then-not-branch g c = record {
  did = λ path out opens.
      let old = volume_of g.S.Store c.args.self.now in
      let last = volume_of g.S.Store (record c.args.self.now { store = c.has_room.new.s }) in
      let room = c.in_ok-has_room.ensures in
      create_unfit path c.args.flags.now c.args.at old out c.requires.live c.requires.new opens
      (g.met.S.Store.is_geometry c.args.self.now.store) (subst IsWithinLimits c.geometry.ensures c.request-within_limits.ensures.limits)
      c.in_ok-may_take.ensures.may c.in_ok-may_take.ensures.block c.has-full.result (c.has-full.ensures.one event.full refl)
      last refl refl room.ends room.most room.judged (λ z command p. sym c.if-not-branch.true ∙ room.fits z command p);
}

pub returns-in_err-n : goal.returns-in_err-n
returns-in_err-n g c = record {
  did = λ path out opens.
      let old = volume_of g.S.Store c.args.self.now in
      let mid = volume_of g.S.Store (record c.args.self.now { store = c.has_room.new.s }) in
      let room = c.in_ok-has_room.ensures in
      let last = volume_of g.S.Store (record c.args.self.now { store = c.make_node.new.s }) in
      let made = c.in_err-n.ensures in
      let e = err_from_is_err_and c.from_residual-in_err-n.result c.from_residual-in_err-n.ensures.1 in
      subst (λ r. Did (command.open_file path c.args.flags.now) r old last out) (sym (e.1 ∙ ap Err e.2))
      (create_faulted path c.args.flags.now c.args.at old out c.requires.live c.requires.new opens
      (g.met.S.Store.is_geometry c.args.self.now.store) (subst IsWithinLimits c.geometry.ensures c.request-within_limits.ensures.limits)
      c.in_ok-may_take.ensures.may c.in_ok-may_take.ensures.block c.has-full.result (c.has-full.ensures.one event.full refl)
      mid room.ends room.most room.judged (λ z command p. sym c.if-not-branch.false ∙ room.fits z command p) refl c.in_err-n.field-0.0 last refl refl made.ends made.point made.undamaged
      (λ fit is_told. room.room c.if-not-branch.false is_told));
}

pub returns-in_default : goal.returns-in_default
returns-in_default g c = record {
  did = λ path out opens.
      let old = volume_of g.S.Store c.args.self.now in
      let mid = volume_of g.S.Store (record c.args.self.now { store = c.has_room.new.s }) in
      let room = c.in_ok-has_room.ensures in
      let last = volume_of g.S.Store (record c.args.self.now { store = c.make_node.new.s }) in
      let made = c.in_ok-n.ensures in
      create_none path c.args.flags.now c.args.at old out c.requires.live c.requires.new opens
      (g.met.S.Store.is_geometry c.args.self.now.store) (subst IsWithinLimits c.geometry.ensures c.request-within_limits.ensures.limits)
      c.in_ok-may_take.ensures.may c.in_ok-may_take.ensures.block c.has-full.result (c.has-full.ensures.one event.full refl)
      mid room.ends room.most room.judged (λ z command p. sym c.if-not-branch.false ∙ room.fits z command p) refl last refl refl made.ends made.point
      (subst (MakesNode mid.store last.store File c.args.at.d c.args.at.slot c.args.at.name.now) c.in_default.is made.made);
}

pub returns-in_err-take_point : goal.returns-in_err-take_point
returns-in_err-take_point g c = record {
  did = λ path out opens.
      let old = volume_of g.S.Store c.args.self.now in
      let mid = volume_of g.S.Store (record c.args.self.now { store = c.has_room.new.s }) in
      let room = c.in_ok-has_room.ensures in
      let made = g.S.Store.state c.make_node.new.s in
      let makes = c.in_ok-n.ensures in
      let last = volume_of g.S.Store (record c.args.self.now { store = c.take_point.new.s }) in
      let point = c.in_err-take_point.ensures in
      let e = err_from_is_err_and c.from_residual-in_err-take_point.result c.from_residual-in_err-take_point.ensures.1 in
      subst (λ r. Did (command.open_file path c.args.flags.now) r old last out) (sym (e.1 ∙ ap Err e.2))
      (create_ended path c.args.flags.now c.args.at old out c.requires.live c.requires.new opens
      (g.met.S.Store.is_geometry c.args.self.now.store) (subst IsWithinLimits c.geometry.ensures c.request-within_limits.ensures.limits)
      c.in_ok-may_take.ensures.may c.in_ok-may_take.ensures.block c.has-full.result (c.has-full.ensures.one event.full refl)
      mid room.ends room.most room.judged (λ z command p. sym c.if-not-branch.false ∙ room.fits z command p) refl made
      (λ is_told. g.met.S.Store.working_is_view c.make_node.new.s is_told makes.ends.live) makes.ends makes.point
      c.in-Some.n (subst (MakesNode mid.store made File c.args.at.d c.args.at.slot c.args.at.name.now) c.in-Some.is makes.made)
      c.has.result (c.has.ensures.one event.create refl) last refl refl c.in_err-take_point.field-0.0 point.ends point.most point.comes);
}

pub returns : goal.returns
returns g c = record {
  did = λ path out opens.
      let old = volume_of g.S.Store c.args.self.now in
      let mid = volume_of g.S.Store (record c.args.self.now { store = c.has_room.new.s }) in
      let room = c.in_ok-has_room.ensures in
      let made = g.S.Store.state c.make_node.new.s in
      let makes = c.in_ok-n.ensures in
      let last = volume_of g.S.Store (record c.args.self.now { store = c.take_point.new.s; handles = c.enter_file.new.handles }) in
      let point = c.in_ok-take_point.ensures in
      let entered = c.enter_file.ensures in
      subst (λ (answer : Answer). Did (command.open_file path c.args.flags.now) (Ok answer) old last out) (sym entered.answer)
      (create_done path c.args.flags.now c.args.at old out c.requires.live c.requires.new opens
      (g.met.S.Store.is_geometry c.args.self.now.store) (subst IsWithinLimits c.geometry.ensures c.request-within_limits.ensures.limits)
      c.in_ok-may_take.ensures.may c.in_ok-may_take.ensures.block c.has-full.result (c.has-full.ensures.one event.full refl)
      mid room.ends room.most room.judged (λ z command p. sym c.if-not-branch.false ∙ room.fits z command p) refl made
      (λ is_told. g.met.S.Store.working_is_view c.make_node.new.s is_told makes.ends.live) makes.ends makes.point
      c.in-Some.n (subst (MakesNode mid.store made File c.args.at.d c.args.at.slot c.args.at.name.now) c.in-Some.is makes.made)
      c.has.result (c.has.ensures.one event.create refl) last refl
      (record { room = c.requires.room; free = entered.free; are = entered.entered }) point.ends point.most point.comes);
}
