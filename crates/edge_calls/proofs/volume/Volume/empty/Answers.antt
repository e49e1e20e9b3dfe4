use Rattle.std.proofs.Common.{◌∙◌, refl, sym, ap, subst}
use Rattle.std.specs.Prelude.{Ok, Err}
use Rattle.std.proofs.lemmas.Result.{err_from_is_err_and}
use Rattle.edge_base.specs.commands.Events as event
use Rattle.edge_model.specs.declared.command.Answer.{Answer}
use Rattle.edge_model.specs.Asked as command
use Rattle.edge_volume.specs.Did.{Did}
use Rattle.edge_volume.proofs.FaultLaws.{ends_of_call}
use Rattle.edge_calls.specs.State.{volume_of}
use Rattle.edge_calls.proofs.EmptyLaws.{empty_judging, empty_unfit, empty_faulted, empty_ended, empty_done}
use Rattle.edge_calls.proofs.volume.Volume.empty.Goals as goal

pub returns-in_err-has_room : goal.returns-in_err-has_room
returns-in_err-has_room g c = record {
  did = λ path out opens.
      let old = volume_of g.S.Store c.args.self.now in
      let last = volume_of g.S.Store (record c.args.self.now { store = c.has_room.new.s }) in
      let room = c.in_err-has_room.ensures in
      let e = err_from_is_err_and c.from_residual.result c.from_residual.ensures.1 in
      subst (λ r. Did (command.open_file path c.args.flags.now) r old last out) (sym (e.1 ∙ ap Err e.2))
      (empty_judging path c.args.flags.now c.args.n old out (g.met.S.Store.is_geometry c.args.self.now.store) c.requires.live c.requires.there c.requires.emptied opens
      c.has-full.result (c.has-full.ensures.one event.full refl) c.in_err-has_room.field-0.0 last refl refl room.ends room.most room.judged);
}

pub returns-then-not-branch : goal.returns-then-not-branch
returns-then-not-branch g c = record {
  did = λ path out opens.
      let old = volume_of g.S.Store c.args.self.now in
      let last = volume_of g.S.Store (record c.args.self.now { store = c.has_room.new.s }) in
      let room = c.in_ok-has_room.ensures in
      empty_unfit path c.args.flags.now c.args.n old out (g.met.S.Store.is_geometry c.args.self.now.store) c.requires.live c.requires.there c.requires.emptied opens
      c.has-full.result (c.has-full.ensures.one event.full refl) last refl refl room.ends room.most room.judged (λ z command p. sym c.if-not-branch.true ∙ room.fits z command p);
}

pub returns-in_err-set_size : goal.returns-in_err-set_size
returns-in_err-set_size g c = record {
  did = λ path out opens.
      let old = volume_of g.S.Store c.args.self.now in
      let mid = volume_of g.S.Store (record c.args.self.now { store = c.has_room.new.s }) in
      let room = c.in_ok-has_room.ensures in
      let last = volume_of g.S.Store (record c.args.self.now { store = c.set_size.new.s }) in
      let cut = c.in_err-set_size.ensures in
      let e = err_from_is_err_and c.from_residual-in_err-set_size.result c.from_residual-in_err-set_size.ensures.1 in
      subst (λ r. Did (command.open_file path c.args.flags.now) r old last out) (sym (e.1 ∙ ap Err e.2))
      (empty_faulted path c.args.flags.now c.args.n old out (g.met.S.Store.is_geometry c.args.self.now.store) c.requires.live c.requires.there c.requires.emptied opens
      c.has-full.result (c.has-full.ensures.one event.full refl) mid room.ends room.most room.judged (λ z command p. sym c.if-not-branch.false ∙ room.fits z command p) refl
      _ c.in_err-set_size.field-0.0 last refl refl (ends_of_call mid.store last.store (Err c.in_err-set_size.field-0.0) cut.called cut.damage) cut.point cut.undamaged
      (λ fit is_told. room.room c.if-not-branch.false is_told));
}

pub returns-in_err-take_point : goal.returns-in_err-take_point
returns-in_err-take_point g c = record {
  did = λ path out opens.
      let old = volume_of g.S.Store c.args.self.now in
      let mid = volume_of g.S.Store (record c.args.self.now { store = c.has_room.new.s }) in
      let room = c.in_ok-has_room.ensures in
      let made = g.S.Store.state c.set_size.new.s in
      let cut = c.in_ok-set_size.ensures in
      let last = volume_of g.S.Store (record c.args.self.now { store = c.take_point.new.s }) in
      let point = c.in_err-take_point.ensures in
      let e = err_from_is_err_and c.from_residual-in_err-take_point.result c.from_residual-in_err-take_point.ensures.1 in
      subst (λ r. Did (command.open_file path c.args.flags.now) r old last out) (sym (e.1 ∙ ap Err e.2))
      (empty_ended path c.args.flags.now c.args.n old out (g.met.S.Store.is_geometry c.args.self.now.store) c.requires.live c.requires.there c.requires.emptied opens
      c.has-full.result (c.has-full.ensures.one event.full refl) mid room.ends room.most room.judged (λ z command p. sym c.if-not-branch.false ∙ room.fits z command p) refl
      made (λ is_told. g.met.S.Store.working_is_view c.set_size.new.s is_told cut.called.live) (ends_of_call mid.store made (Ok c.in_ok-set_size.field-0) cut.called cut.damage) cut.point
      cut.shortened cut.lengthened cut.set cut.sized c.has.result (c.has.ensures.one event.truncate refl) last refl refl
      c.in_err-take_point.field-0.0 point.ends point.most point.comes);
}

pub returns : goal.returns
returns g c = record {
  did = λ path out opens.
      let old = volume_of g.S.Store c.args.self.now in
      let mid = volume_of g.S.Store (record c.args.self.now { store = c.has_room.new.s }) in
      let room = c.in_ok-has_room.ensures in
      let made = g.S.Store.state c.set_size.new.s in
      let cut = c.in_ok-set_size.ensures in
      let last = volume_of g.S.Store (record c.args.self.now { store = c.take_point.new.s; handles = c.enter_file.new.handles }) in
      let point = c.in_ok-take_point.ensures in
      let entered = c.enter_file.ensures in
      subst (λ (answer : Answer). Did (command.open_file path c.args.flags.now) (Ok answer) old last out) (sym entered.answer)
      (empty_done path c.args.flags.now c.args.n old out (g.met.S.Store.is_geometry c.args.self.now.store) c.requires.live c.requires.there c.requires.emptied opens
      c.has-full.result (c.has-full.ensures.one event.full refl) mid room.ends room.most room.judged (λ z command p. sym c.if-not-branch.false ∙ room.fits z command p) refl
      made (λ is_told. g.met.S.Store.working_is_view c.set_size.new.s is_told cut.called.live) (ends_of_call mid.store made (Ok c.in_ok-set_size.field-0) cut.called cut.damage) cut.point
      cut.shortened cut.lengthened cut.set cut.sized c.has.result (c.has.ensures.one event.truncate refl) last refl
      (record { room = c.requires.room; free = entered.free; are = entered.entered }) point.ends point.most point.comes);
}
