use Rattle.std.proofs.Common.{◌∙◌, refl, sym, ap, subst}
use Rattle.std.specs.Prelude.{Ok, Err}
use Rattle.std.proofs.lemmas.Result.{err_from_is_err_and}
use Rattle.edge_base.specs.commands.Events as event
use Rattle.edge_model.specs.Asked as command
use Rattle.edge_volume.specs.Did.{Did}
use Rattle.edge_volume.proofs.FaultLaws.{ends_of_call}
use Rattle.edge_calls.specs.State.{volume_of}
use Rattle.edge_calls.proofs.CutLaws.{cut_stopped, cut_judging, cut_unfit, cut_faulted, cut_ended, cut_done}
use Rattle.edge_calls.proofs.volume.Volume.truncate.Goals as goal

pub returns-in_err-sizing : goal.returns-in_err-sizing
returns-in_err-sizing g c = record {
  did = λ out.
      let old = volume_of g.S.Store c.args.self.now in
      let last = volume_of g.S.Store (record c.args.self.now { store = c.sizing_at.new.s }) in
      let told = c.in_err-sizing.ensures in
      let e = err_from_is_err_and c.from_residual.result c.from_residual.ensures.1 in
      subst (λ r. Did (command.truncate c.args.h c.args.size) r old last out) (sym (e.1 ∙ ap Err e.2))
      (cut_stopped c.args.h c.args.size old out c.in_err-sizing.field-0.0 last refl refl told.looks.ends told.looks.point told.looks.reads told.undamaged told.sizing);
}

pub returns-in_err-has_room : goal.returns-in_err-has_room
returns-in_err-has_room g c = record {
  did = λ out.
      let old = volume_of g.S.Store c.args.self.now in
      let told = c.in_ok-sizing.ensures in
      let sizing = c.in_ok-sizing.sizing in
      let b = g.S.Store.state c.sizing_at.new.s in
      let last = volume_of g.S.Store (record c.args.self.now { store = c.has_room.new.s }) in
      let room = c.in_err-has_room.ensures in
      let e = err_from_is_err_and c.from_residual-in_err-has_room.result c.from_residual-in_err-has_room.ensures.1 in
      subst (λ r. Did (command.truncate c.args.h c.args.size) r old last out) (sym (e.1 ∙ ap Err e.2))
      (cut_judging c.args.h c.args.size old out
      (g.met.S.Store.is_geometry c.args.self.now.store) sizing.slot sizing.reserve c.has-full.result b
      (record { ends = told.looks.ends; point = told.looks.point; working = told.looks.reads refl }) (c.has-full.ensures.one event.full refl) told.within told.sizing told.open told.file
      c.in_err-has_room.field-0.0 last refl refl room.ends room.most room.judged);
}

pub returns-then-not-branch : goal.returns-then-not-branch
returns-then-not-branch g c = record {
  did = λ out.
      let old = volume_of g.S.Store c.args.self.now in
      let told = c.in_ok-sizing.ensures in
      let sizing = c.in_ok-sizing.sizing in
      let b = g.S.Store.state c.sizing_at.new.s in
      let last = volume_of g.S.Store (record c.args.self.now { store = c.has_room.new.s }) in
      let room = c.in_ok-has_room.ensures in
      cut_unfit c.args.h c.args.size old out
      (g.met.S.Store.is_geometry c.args.self.now.store) sizing.slot sizing.reserve c.has-full.result b
      (record { ends = told.looks.ends; point = told.looks.point; working = told.looks.reads refl }) (c.has-full.ensures.one event.full refl) told.within told.sizing told.open told.file
      last refl refl room.ends room.most room.judged (λ z command p. sym c.if-not-branch.true ∙ room.fits z command p);
}

pub returns-in_err-set_size : goal.returns-in_err-set_size
returns-in_err-set_size g c = record {
  did = λ out.
      let old = volume_of g.S.Store c.args.self.now in
      let told = c.in_ok-sizing.ensures in
      let sizing = c.in_ok-sizing.sizing in
      let b = g.S.Store.state c.sizing_at.new.s in
      let mid = volume_of g.S.Store (record c.args.self.now { store = c.has_room.new.s }) in
      let room = c.in_ok-has_room.ensures in
      let last = volume_of g.S.Store (record c.args.self.now { store = c.set_size.new.s }) in
      let wrote = c.in_err-set_size.ensures in
      let e = err_from_is_err_and c.from_residual-in_err-set_size.result c.from_residual-in_err-set_size.ensures.1 in
      subst (λ r. Did (command.truncate c.args.h c.args.size) r old last out) (sym (e.1 ∙ ap Err e.2))
      (cut_faulted c.args.h c.args.size old out
      (g.met.S.Store.is_geometry c.args.self.now.store) sizing.slot sizing.reserve c.has-full.result b
      (record { ends = told.looks.ends; point = told.looks.point; working = told.looks.reads refl }) (c.has-full.ensures.one event.full refl) told.within told.sizing told.open told.file
      mid room.ends room.most room.judged (λ z command p. sym c.if-not-branch.false ∙ room.fits z command p) refl _ c.in_err-set_size.field-0.0 last refl refl (ends_of_call mid.store last.store (Err c.in_err-set_size.field-0.0) wrote.called wrote.damage) wrote.point wrote.undamaged
      (λ fit is_told. room.room c.if-not-branch.false is_told));
}

pub returns-in_err-take_point : goal.returns-in_err-take_point
returns-in_err-take_point g c = record {
  did = λ out.
      let old = volume_of g.S.Store c.args.self.now in
      let told = c.in_ok-sizing.ensures in
      let sizing = c.in_ok-sizing.sizing in
      let b = g.S.Store.state c.sizing_at.new.s in
      let mid = volume_of g.S.Store (record c.args.self.now { store = c.has_room.new.s }) in
      let room = c.in_ok-has_room.ensures in
      let made = g.S.Store.state c.set_size.new.s in
      let wrote = c.in_ok-set_size.ensures in
      let last = volume_of g.S.Store (record c.args.self.now { store = c.take_point.new.s }) in
      let point = c.in_err-take_point.ensures in
      let e = err_from_is_err_and c.from_residual-in_err-take_point.result c.from_residual-in_err-take_point.ensures.1 in
      subst (λ r. Did (command.truncate c.args.h c.args.size) r old last out) (sym (e.1 ∙ ap Err e.2))
      (cut_ended c.args.h c.args.size old out
      (g.met.S.Store.is_geometry c.args.self.now.store) sizing.slot sizing.reserve c.has-full.result b
      (record { ends = told.looks.ends; point = told.looks.point; working = told.looks.reads refl }) (c.has-full.ensures.one event.full refl) told.within told.sizing told.open told.file
      mid room.ends room.most room.judged (λ z command p. sym c.if-not-branch.false ∙ room.fits z command p) refl made (λ is_told. g.met.S.Store.working_is_view c.set_size.new.s is_told wrote.called.live) (ends_of_call mid.store made (Ok c.in_ok-set_size.field-0) wrote.called wrote.damage) wrote.point
      wrote.shortened wrote.lengthened wrote.set wrote.sized c.has.result (c.has.ensures.one event.truncate refl) last refl refl
      c.in_err-take_point.field-0.0 point.ends point.most point.comes);
}

pub returns : goal.returns
returns g c = record {
  did = λ out.
      let old = volume_of g.S.Store c.args.self.now in
      let told = c.in_ok-sizing.ensures in
      let sizing = c.in_ok-sizing.sizing in
      let b = g.S.Store.state c.sizing_at.new.s in
      let mid = volume_of g.S.Store (record c.args.self.now { store = c.has_room.new.s }) in
      let room = c.in_ok-has_room.ensures in
      let made = g.S.Store.state c.set_size.new.s in
      let wrote = c.in_ok-set_size.ensures in
      let last = volume_of g.S.Store (record c.args.self.now { store = c.take_point.new.s }) in
      let point = c.in_ok-take_point.ensures in
      cut_done c.args.h c.args.size old out
      (g.met.S.Store.is_geometry c.args.self.now.store) sizing.slot sizing.reserve c.has-full.result b
      (record { ends = told.looks.ends; point = told.looks.point; working = told.looks.reads refl }) (c.has-full.ensures.one event.full refl) told.within told.sizing told.open told.file
      mid room.ends room.most room.judged (λ z command p. sym c.if-not-branch.false ∙ room.fits z command p) refl made (λ is_told. g.met.S.Store.working_is_view c.set_size.new.s is_told wrote.called.live) (ends_of_call mid.store made (Ok c.in_ok-set_size.field-0) wrote.called wrote.damage) wrote.point
      wrote.shortened wrote.lengthened wrote.set wrote.sized c.has.result (c.has.ensures.one event.truncate refl) last refl refl
      point.ends point.most point.comes;
}
