use Rattle.std.proofs.Common.{◌∙◌, ◌+◌, ◌≤◌, replicate, refl, sym, ap, subst, arith}
use Rattle.std.specs.Prelude.{Ok, Err}
use Rattle.std.proofs.lemmas.List.{length-replicate}
use Rattle.std.proofs.lemmas.Result.{err_from_is_err_and}
use Rattle.edge_base.specs.commands.Events as event
use Rattle.edge_base.specs.layout.Places.{max_size_of}
use Rattle.edge_base.specs.outside.Below.{Origin}
use Rattle.edge_handles.specs.Table.{descriptor_of}
use Rattle.edge_file.specs.Writing.{GrowsTo}
use Rattle.edge_model.specs.declared.command.Answer.TheVariants as a
use Rattle.edge_model.specs.Asked as command
use Rattle.edge_model.specs.Open.{moved}
use Rattle.edge_volume.specs.Did.{Did}
use Rattle.edge_volume.proofs.FaultLaws.{ends_of_call}
use Rattle.edge_calls.specs.State.{volume_of}
use Rattle.edge_calls.specs.Writes.{same}
use Rattle.edge_calls.proofs.WriteLaws.{write_stopped, write_judging, write_unfit, write_faulted, write_ended, write_done}
use Rattle.edge_calls.proofs.volume.Volume.fill.Goals as goal

pub end_of-end-requires : goal.end_of-end-requires
end_of-end-requires g c =
    let told = c.in_ok-place.ensures in
    let most = c.geometry.ensures ∙ ap (λ (o : Origin). o.request) told.looks.ends.origin in
    subst (λ r. c.in_ok-place.place.at + c.args.count ≤ max_size_of r) (sym most) told.within

pub returns-in_err-place : goal.returns-in_err-place
returns-in_err-place g c = record {
  did = λ out.
      let old = volume_of g.S.Store c.args.self.now in
      let last = volume_of g.S.Store (record c.args.self.now { store = c.place_of.new.s }) in
      let told = c.in_err-place.ensures in
      let e = err_from_is_err_and c.from_residual.result c.from_residual.ensures.1 in
      subst (λ r. Did (command.fill c.args.h c.args.count c.args.byte) r old last out) (sym (e.1 ∙ ap Err e.2))
      (write_stopped (command.fill c.args.h c.args.count c.args.byte) c.args.h (replicate c.args.count c.args.byte) (same c.args.h c.args.count c.args.byte) c.args.count (sym (length-replicate c.args.count c.args.byte)) old out c.in_err-place.field-0.0 last refl refl told.looks.ends told.looks.point told.looks.reads told.undamaged told.place);
}

pub returns-in_err-has_room : goal.returns-in_err-has_room
returns-in_err-has_room g c = record {
  did = λ out.
      let old = volume_of g.S.Store c.args.self.now in
      let told = c.in_ok-place.ensures in
      let place = c.in_ok-place.place in
      let b = g.S.Store.state c.place_of.new.s in
      let last = volume_of g.S.Store (record c.args.self.now { store = c.has_room.new.s }) in
      let room = c.in_err-has_room.ensures in
      let e = err_from_is_err_and c.from_residual-in_err-has_room.result c.from_residual-in_err-has_room.ensures.1 in
      subst (λ r. Did (command.fill c.args.h c.args.count c.args.byte) r old last out) (sym (e.1 ∙ ap Err e.2))
      (write_judging (command.fill c.args.h c.args.count c.args.byte) c.args.h (replicate c.args.count c.args.byte) (same c.args.h c.args.count c.args.byte) c.args.count (sym (length-replicate c.args.count c.args.byte)) old out
      (g.met.S.Store.is_geometry c.args.self.now.store) place.slot place.at c.has.result b (record { ends = told.looks.ends; point = told.looks.point; working = told.looks.reads refl })
      (c.has.ensures.one event.full refl) (let low = c.requires.limits.0 in omega arith) told.within told.place c.in_err-has_room.field-0.0 last refl refl room.ends room.most room.judged);
}

pub returns-then-not-branch : goal.returns-then-not-branch
returns-then-not-branch g c = record {
  did = λ out.
      let old = volume_of g.S.Store c.args.self.now in
      let told = c.in_ok-place.ensures in
      let place = c.in_ok-place.place in
      let b = g.S.Store.state c.place_of.new.s in
      let last = volume_of g.S.Store (record c.args.self.now { store = c.has_room.new.s }) in
      let room = c.in_ok-has_room.ensures in
      write_unfit (command.fill c.args.h c.args.count c.args.byte) c.args.h (replicate c.args.count c.args.byte) (same c.args.h c.args.count c.args.byte) c.args.count (sym (length-replicate c.args.count c.args.byte)) old out
      (g.met.S.Store.is_geometry c.args.self.now.store) place.slot place.at c.has.result b (record { ends = told.looks.ends; point = told.looks.point; working = told.looks.reads refl })
      (c.has.ensures.one event.full refl) (let low = c.requires.limits.0 in omega arith) told.within told.place last refl refl room.ends room.most room.judged (λ z command p. sym c.if-not-branch.true ∙ room.fits z command p);
}

pub returns-in_err-fill_at : goal.returns-in_err-fill_at
returns-in_err-fill_at g c = record {
  did = λ out.
      let old = volume_of g.S.Store c.args.self.now in
      let told = c.in_ok-place.ensures in
      let place = c.in_ok-place.place in
      let b = g.S.Store.state c.place_of.new.s in
      let mid = volume_of g.S.Store (record c.args.self.now { store = c.has_room.new.s }) in
      let room = c.in_ok-has_room.ensures in
      let last = volume_of g.S.Store (record c.args.self.now { store = c.fill_at.new.s }) in
      let wrote = c.in_err-fill_at.ensures in
      let e = err_from_is_err_and c.from_residual-in_err-fill_at.result c.from_residual-in_err-fill_at.ensures.1 in
      subst (λ r. Did (command.fill c.args.h c.args.count c.args.byte) r old last out) (sym (e.1 ∙ ap Err e.2))
      (write_faulted (command.fill c.args.h c.args.count c.args.byte) c.args.h (replicate c.args.count c.args.byte) (same c.args.h c.args.count c.args.byte) c.args.count (sym (length-replicate c.args.count c.args.byte)) old out
      (g.met.S.Store.is_geometry c.args.self.now.store) place.slot place.at c.has.result b (record { ends = told.looks.ends; point = told.looks.point; working = told.looks.reads refl })
      (c.has.ensures.one event.full refl) (let low = c.requires.limits.0 in omega arith) told.within told.place
      mid room.ends room.most room.judged (λ z command p. sym c.if-not-branch.false ∙ room.fits z command p) refl told.open told.file _ c.in_err-fill_at.field-0.0 last refl refl (ends_of_call mid.store last.store (Err c.in_err-fill_at.field-0.0) wrote.called wrote.damage) wrote.point wrote.undamaged
      (λ fit is_told. room.room c.if-not-branch.false is_told));
}

pub returns-in_err-take_point : goal.returns-in_err-take_point
returns-in_err-take_point g c = record {
  did = λ out.
      let old = volume_of g.S.Store c.args.self.now in
      let told = c.in_ok-place.ensures in
      let place = c.in_ok-place.place in
      let b = g.S.Store.state c.place_of.new.s in
      let mid = volume_of g.S.Store (record c.args.self.now { store = c.has_room.new.s }) in
      let room = c.in_ok-has_room.ensures in
      let made = g.S.Store.state c.fill_at.new.s in
      let wrote = c.in_ok-fill_at.ensures in
      let last = volume_of g.S.Store (record c.args.self.now { store = c.take_point.new.s; handles = c.move_to-open.new.self }) in
      let point = c.in_err-take_point.ensures in
      let e = err_from_is_err_and c.from_residual-in_err-take_point.result c.from_residual-in_err-take_point.ensures.1 in
      subst (λ r. Did (command.fill c.args.h c.args.count c.args.byte) r old last out) (sym (e.1 ∙ ap Err e.2))
      (write_ended (command.fill c.args.h c.args.count c.args.byte) c.args.h (replicate c.args.count c.args.byte) (same c.args.h c.args.count c.args.byte) c.args.count (sym (length-replicate c.args.count c.args.byte)) old out
      (g.met.S.Store.is_geometry c.args.self.now.store) place.slot place.at c.has.result b (record { ends = told.looks.ends; point = told.looks.point; working = told.looks.reads refl })
      (c.has.ensures.one event.full refl) (let low = c.requires.limits.0 in omega arith) told.within told.place
      mid room.ends room.most room.judged (λ z command p. sym c.if-not-branch.false ∙ room.fits z command p) refl told.open told.file made (λ is_told. g.met.S.Store.working_is_view c.fill_at.new.s is_told wrote.called.live) (ends_of_call mid.store made (Ok c.in_ok-fill_at.field-0) wrote.called wrote.damage) wrote.point
      wrote.written (subst (λ k. GrowsTo mid.store made place.slot.number (place.at + k)) (sym (length-replicate c.args.count c.args.byte)) wrote.grown) c.has-2.result (c.has-2.ensures.one event.write refl) last refl
      (c.move_to-open.ensures.moved (descriptor_of place.slot) told.open ∙ ap (moved c.args.self.now.handles c.args.h (descriptor_of place.slot)) c.end_of-end.ensures)
      c.in_err-take_point.field-0.0 point.ends point.most point.comes);
}

pub returns : goal.returns
returns g c = record {
  did = λ out.
      let old = volume_of g.S.Store c.args.self.now in
      let told = c.in_ok-place.ensures in
      let place = c.in_ok-place.place in
      let b = g.S.Store.state c.place_of.new.s in
      let mid = volume_of g.S.Store (record c.args.self.now { store = c.has_room.new.s }) in
      let room = c.in_ok-has_room.ensures in
      let made = g.S.Store.state c.fill_at.new.s in
      let wrote = c.in_ok-fill_at.ensures in
      let last = volume_of g.S.Store (record c.args.self.now { store = c.take_point.new.s; handles = c.move_to-open.new.self }) in
      let point = c.in_ok-take_point.ensures in
      subst (λ k. Did (command.fill c.args.h c.args.count c.args.byte) (Ok (a.Number k)) old last out) (sym c.from.ensures)
      (write_done (command.fill c.args.h c.args.count c.args.byte) c.args.h (replicate c.args.count c.args.byte) (same c.args.h c.args.count c.args.byte) c.args.count (sym (length-replicate c.args.count c.args.byte)) old out
      (g.met.S.Store.is_geometry c.args.self.now.store) place.slot place.at c.has.result b (record { ends = told.looks.ends; point = told.looks.point; working = told.looks.reads refl })
      (c.has.ensures.one event.full refl) (let low = c.requires.limits.0 in omega arith) told.within told.place
      mid room.ends room.most room.judged (λ z command p. sym c.if-not-branch.false ∙ room.fits z command p) refl told.open told.file made (λ is_told. g.met.S.Store.working_is_view c.fill_at.new.s is_told wrote.called.live) (ends_of_call mid.store made (Ok c.in_ok-fill_at.field-0) wrote.called wrote.damage) wrote.point
      wrote.written (subst (λ k. GrowsTo mid.store made place.slot.number (place.at + k)) (sym (length-replicate c.args.count c.args.byte)) wrote.grown) c.has-2.result (c.has-2.ensures.one event.write refl) last refl
      (c.move_to-open.ensures.moved (descriptor_of place.slot) told.open ∙ ap (moved c.args.self.now.handles c.args.h (descriptor_of place.slot)) c.end_of-end.ensures)
      point.ends point.most point.comes);
}
