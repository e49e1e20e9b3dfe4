use Rattle.std.proofs.Common.{◌∙◌, None, refl, sym, ap, subst}
use Rattle.std.specs.Prelude.{IfSome, Ok, Err}
use Rattle.std.proofs.lemmas.Result.{err_from_is_err_and}
use Rattle.edge_base.specs.commands.Events as event
use Rattle.edge_base.specs.layout.Places.{IsWithinLimits}
use Rattle.edge_base.specs.outside.Below.{Origin}
use Rattle.edge_model.specs.Asked as command
use Rattle.edge_volume.specs.Did.{Did}
use Rattle.edge_calls.specs.State.{volume_of}
use Rattle.edge_calls.specs.Renames.{IsReady}
use Rattle.edge_calls.proofs.RenameLaws.{IsTold, rename_stopped, rename_judging, rename_unfit, rename_faulted, rename_ended, rename_done, same_done, same_ended}
use Rattle.edge_calls.proofs.RenameReadyLaws.{ready_still}
use Rattle.edge_calls.proofs.RoomLaws.{IsLooked}
use Rattle.edge_calls.proofs.volume.Volume.rename.Goals as goal

pub returns-in_err-renaming : goal.returns-in_err-renaming
returns-in_err-renaming g c = record {
  did = λ out.
      let old = volume_of g.S.Store c.args.self.now in
      let last = volume_of g.S.Store (record c.args.self.now { store = c.renaming_of.new.s }) in
      let told = c.in_err-renaming.ensures in
      let e = err_from_is_err_and c.from_residual.result c.from_residual.ensures.1 in
      subst (λ r. Did (command.rename c.args.path.now c.args.to.now) r old last out) (sym (e.1 ∙ ap Err e.2))
      (rename_stopped c.args.path.now c.args.to.now old out last refl refl c.in_err-renaming.field-0.0 told.looks.ends told.looks.point told.looks.reads told.undamaged told.renaming);
}

-- ---- two names of one node

pub returns-in_err-take_point : goal.returns-in_err-take_point
returns-in_err-take_point g c = record {
  did = λ out.
      let x = c.args.self.now in
      let path = c.args.path.now in
      let to = c.args.to.now in
      let old = volume_of g.S.Store x in
      let told = c.in_ok-renaming.ensures in
      let b = g.S.Store.state c.renaming_of.new.s in
      let looked : IsLooked old.store b = record { ends = told.looks.ends; point = told.looks.point; working = told.looks.reads refl } in
      let last = volume_of g.S.Store (record x { store = c.take_point.new.s }) in
      let point = c.in_err-take_point.ensures in
      let e = err_from_is_err_and c.from_residual-in_err-take_point.result c.from_residual-in_err-take_point.ensures.1 in
      subst (λ r. Did (command.rename path to) r old last out) (sym (e.1 ∙ ap Err e.2))
      (same_ended path to old out last refl refl b looked (subst (λ m. IsTold path to old out (Ok m)) c.in_default.is told.renaming) c.has.result
      (c.has.ensures.one event.rename refl) c.in_err-take_point.field-0.0 point.ends point.most point.comes);
}

pub returns-in_default : goal.returns-in_default
returns-in_default g c = record {
  did = λ out.
      let x = c.args.self.now in
      let path = c.args.path.now in
      let to = c.args.to.now in
      let old = volume_of g.S.Store x in
      let told = c.in_ok-renaming.ensures in
      let b = g.S.Store.state c.renaming_of.new.s in
      let looked : IsLooked old.store b = record { ends = told.looks.ends; point = told.looks.point; working = told.looks.reads refl } in
      let last = volume_of g.S.Store (record x { store = c.take_point.new.s }) in
      let point = c.in_ok-take_point.ensures in
      same_done path to old out last refl refl b looked (subst (λ m. IsTold path to old out (Ok m)) c.in_default.is told.renaming) c.has.result
      (c.has.ensures.one event.rename refl) point.ends point.most point.comes;
}

-- ---- a name is moved

pub returns-in_err-has_room : goal.returns-in_err-has_room
returns-in_err-has_room g c = record {
  did = λ out.
      let x = c.args.self.now in
      let path = c.args.path.now in
      let to = c.args.to.now in
      let old = volume_of g.S.Store x in
      let told = c.in_ok-renaming.ensures in
      let b = g.S.Store.state c.renaming_of.new.s in
      let looked : IsLooked old.store b = record { ends = told.looks.ends; point = told.looks.point; working = told.looks.reads refl } in
      let r = c.in-Some.moving in
      let moves = subst (λ m. IsTold path to old out (Ok m)) c.in-Some.is told.renaming in
      let limits = subst IsWithinLimits (c.geometry.ensures ∙ ap (λ (o : Origin). o.request) told.looks.ends.origin) c.request-within_limits.ensures.limits in
      let last = volume_of g.S.Store (record x { store = c.has_room.new.s }) in
      let room = c.in_err-has_room.ensures in
      let e = err_from_is_err_and c.from_residual-in_err-has_room.result c.from_residual-in_err-has_room.ensures.1 in
      subst (λ r. Did (command.rename path to) r old last out) (sym (e.1 ∙ ap Err e.2))
      (rename_judging path to old out (g.met.S.Store.is_geometry x.store) limits r c.has-full.result b looked (c.has-full.ensures.one event.full refl) moves
      c.in_err-has_room.field-0.0 last refl refl room.ends room.most room.judged);
}

pub returns-then-not-branch : goal.returns-then-not-branch
returns-then-not-branch g c = record {
  did = λ out.
      let x = c.args.self.now in
      let path = c.args.path.now in
      let to = c.args.to.now in
      let old = volume_of g.S.Store x in
      let told = c.in_ok-renaming.ensures in
      let b = g.S.Store.state c.renaming_of.new.s in
      let looked : IsLooked old.store b = record { ends = told.looks.ends; point = told.looks.point; working = told.looks.reads refl } in
      let r = c.in-Some.moving in
      let moves = subst (λ m. IsTold path to old out (Ok m)) c.in-Some.is told.renaming in
      let limits = subst IsWithinLimits (c.geometry.ensures ∙ ap (λ (o : Origin). o.request) told.looks.ends.origin) c.request-within_limits.ensures.limits in
      let last = volume_of g.S.Store (record x { store = c.has_room.new.s }) in
      let room = c.in_ok-has_room.ensures in
      rename_unfit path to old out (g.met.S.Store.is_geometry x.store) limits r c.has-full.result b looked (c.has-full.ensures.one event.full refl) moves
      last refl refl room.ends room.most room.judged (λ z command p. sym c.if-not-branch.true ∙ room.fits z command p);
}

pub move_name-requires-clause-node : goal.move_name-requires-clause-node
move_name-requires-clause-node g c =
    let b = g.S.Store.state c.renaming_of.new.s in
    let room = c.in_ok-has_room.ensures in
    let r = c.in-Some.moving in
    (ready_still b (g.S.Store.state c.has_room.new.s) room.ends room.reads r (subst (λ m. IfSome m (IsReady b)) c.in-Some.is c.in_ok-renaming.ensures.ready)).node

pub returns-in_err-move_name : goal.returns-in_err-move_name
returns-in_err-move_name g c = record {
  did = λ out.
      let x = c.args.self.now in
      let path = c.args.path.now in
      let to = c.args.to.now in
      let old = volume_of g.S.Store x in
      let told = c.in_ok-renaming.ensures in
      let b = g.S.Store.state c.renaming_of.new.s in
      let looked : IsLooked old.store b = record { ends = told.looks.ends; point = told.looks.point; working = told.looks.reads refl } in
      let r = c.in-Some.moving in
      let moves = subst (λ m. IsTold path to old out (Ok m)) c.in-Some.is told.renaming in
      let limits = subst IsWithinLimits (c.geometry.ensures ∙ ap (λ (o : Origin). o.request) told.looks.ends.origin) c.request-within_limits.ensures.limits in
      let room = c.in_ok-has_room.ensures in
      let mid = volume_of g.S.Store (record x { store = c.has_room.new.s }) in
      let last = volume_of g.S.Store (record x { store = c.move_name.new.s }) in
      let moved = c.in_err-move_name.ensures in
      let e = err_from_is_err_and c.from_residual-in_err-move_name.result c.from_residual-in_err-move_name.ensures.1 in
      subst (λ r. Did (command.rename path to) r old last out) (sym (e.1 ∙ ap Err e.2))
      (rename_faulted path to old out (g.met.S.Store.is_geometry x.store) limits r c.has-full.result b looked (c.has-full.ensures.one event.full refl) moves
      mid room.ends room.most room.judged (λ z command p. sym c.if-not-branch.false ∙ room.fits z command p) refl
      c.in_err-move_name.field-0.0 last refl refl moved.ends moved.point moved.undamaged (λ fit is_told. room.room c.if-not-branch.false is_told));
}

pub returns-in_err-take_point-2 : goal.returns-in_err-take_point-2
returns-in_err-take_point-2 g c = record {
  did = λ out.
      let x = c.args.self.now in
      let path = c.args.path.now in
      let to = c.args.to.now in
      let old = volume_of g.S.Store x in
      let told = c.in_ok-renaming.ensures in
      let b = g.S.Store.state c.renaming_of.new.s in
      let looked : IsLooked old.store b = record { ends = told.looks.ends; point = told.looks.point; working = told.looks.reads refl } in
      let r = c.in-Some.moving in
      let moves = subst (λ m. IsTold path to old out (Ok m)) c.in-Some.is told.renaming in
      let limits = subst IsWithinLimits (c.geometry.ensures ∙ ap (λ (o : Origin). o.request) told.looks.ends.origin) c.request-within_limits.ensures.limits in
      let room = c.in_ok-has_room.ensures in
      let mid = volume_of g.S.Store (record x { store = c.has_room.new.s }) in
      let made = g.S.Store.state c.move_name.new.s in
      let moved = c.in_ok-move_name.ensures in
      let last = volume_of g.S.Store (record x { store = c.take_point-2.new.s }) in
      let point = c.in_err-take_point-2.ensures in
      let e = err_from_is_err_and c.from_residual-in_err-take_point-2.result c.from_residual-in_err-take_point-2.ensures.1 in
      subst (λ r. Did (command.rename path to) r old last out) (sym (e.1 ∙ ap Err e.2))
      (rename_ended path to old out (g.met.S.Store.is_geometry x.store) limits r c.has-full.result b looked (c.has-full.ensures.one event.full refl) moves
      mid room.ends room.most room.judged (λ z command p. sym c.if-not-branch.false ∙ room.fits z command p) refl
      made (λ is_told. g.met.S.Store.working_is_view c.move_name.new.s is_told moved.ends.live) moved.ends moved.point moved.moved c.has-2.result (c.has-2.ensures.one event.rename refl) last refl refl
      c.in_err-take_point-2.field-0.0 point.ends point.most point.comes);
}

pub returns : goal.returns
returns g c = record {
  did = λ out.
      let x = c.args.self.now in
      let path = c.args.path.now in
      let to = c.args.to.now in
      let old = volume_of g.S.Store x in
      let told = c.in_ok-renaming.ensures in
      let b = g.S.Store.state c.renaming_of.new.s in
      let looked : IsLooked old.store b = record { ends = told.looks.ends; point = told.looks.point; working = told.looks.reads refl } in
      let r = c.in-Some.moving in
      let moves = subst (λ m. IsTold path to old out (Ok m)) c.in-Some.is told.renaming in
      let limits = subst IsWithinLimits (c.geometry.ensures ∙ ap (λ (o : Origin). o.request) told.looks.ends.origin) c.request-within_limits.ensures.limits in
      let room = c.in_ok-has_room.ensures in
      let mid = volume_of g.S.Store (record x { store = c.has_room.new.s }) in
      let made = g.S.Store.state c.move_name.new.s in
      let moved = c.in_ok-move_name.ensures in
      let last = volume_of g.S.Store (record x { store = c.take_point-2.new.s }) in
      let point = c.in_ok-take_point-2.ensures in
      rename_done path to old out (g.met.S.Store.is_geometry x.store) limits r c.has-full.result b looked (c.has-full.ensures.one event.full refl) moves
      mid room.ends room.most room.judged (λ z command p. sym c.if-not-branch.false ∙ room.fits z command p) refl
      made (λ is_told. g.met.S.Store.working_is_view c.move_name.new.s is_told moved.ends.live) moved.ends moved.point moved.moved c.has-2.result (c.has-2.ensures.one event.rename refl) last refl refl
      point.ends point.most point.comes;
}
