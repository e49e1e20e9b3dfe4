use Rattle.std.proofs.Common.{◌∙◌, refl, sym, ap, subst}
use Rattle.std.specs.Prelude.{Err}
use Rattle.std.proofs.lemmas.Result.{err_from_is_err_and}
use Rattle.edge_base.specs.commands.Events as event
use Rattle.edge_base.specs.layout.Places.{IsWithinLimits}
use Rattle.edge_model.specs.Asked as command
use Rattle.edge_volume.specs.Did.{Did}
use Rattle.edge_names.specs.Made.{MakesNode}
use Rattle.edge_base.specs.declared.node.NodeType.TheVariants.{Directory}
use Rattle.edge_calls.specs.State.{volume_of}
use Rattle.edge_calls.proofs.MakeDirLaws.{make_stopped, make_judging, make_unfit, make_faulted, make_none, make_ended, make_done}
use Rattle.edge_calls.proofs.volume.Volume.make_dir.Goals as goal

pub returns-in_err-at : goal.returns-in_err-at
returns-in_err-at g c = record {
  did = λ out.
      let old = volume_of g.S.Store c.args.self.now in
      let last = volume_of g.S.Store (record c.args.self.now { store = c.node_place_at.new.s }) in
      let told = c.in_err-at.ensures in
      let e = err_from_is_err_and c.from_residual.result c.from_residual.ensures.1 in
      subst (λ r. Did (command.make_dir c.args.path.now) r old last out) (sym (e.1 ∙ ap Err e.2))
      (make_stopped c.args.path.now old out c.in_err-at.field-0.0 last refl refl told.looks.ends told.looks.point told.looks.reads told.undamaged told.place);
}

pub returns-in_err-has_room : goal.returns-in_err-has_room
returns-in_err-has_room g c = record {
  did = λ out.
      let old = volume_of g.S.Store c.args.self.now in
      let told = c.in_ok-at.ensures in
      let at = c.in_ok-at.at in
      let b = g.S.Store.state c.node_place_at.new.s in
      let last = volume_of g.S.Store (record c.args.self.now { store = c.has_room.new.s }) in
      let room = c.in_err-has_room.ensures in
      let e = err_from_is_err_and c.from_residual-in_err-has_room.result c.from_residual-in_err-has_room.ensures.1 in
      subst (λ r. Did (command.make_dir c.args.path.now) r old last out) (sym (e.1 ∙ ap Err e.2))
      (make_judging c.args.path.now old out
      (g.met.S.Store.is_geometry c.args.self.now.store) (subst IsWithinLimits c.geometry.ensures c.request-within_limits.ensures.limits) at.d at.slot at.name.now c.has-full.result b
      (record { ends = told.looks.ends; point = told.looks.point; working = told.looks.reads refl }) (c.has-full.ensures.one event.full refl) told.block told.place
      c.in_err-has_room.field-0.0 last refl refl room.ends room.most room.judged);
}

pub returns-then-not-branch : goal.returns-then-not-branch
returns-then-not-branch g c = record {
  did = λ out.
      let old = volume_of g.S.Store c.args.self.now in
      let told = c.in_ok-at.ensures in
      let at = c.in_ok-at.at in
      let b = g.S.Store.state c.node_place_at.new.s in
      let last = volume_of g.S.Store (record c.args.self.now { store = c.has_room.new.s }) in
      let room = c.in_ok-has_room.ensures in
      make_unfit c.args.path.now old out
      (g.met.S.Store.is_geometry c.args.self.now.store) (subst IsWithinLimits c.geometry.ensures c.request-within_limits.ensures.limits) at.d at.slot at.name.now c.has-full.result b
      (record { ends = told.looks.ends; point = told.looks.point; working = told.looks.reads refl }) (c.has-full.ensures.one event.full refl) told.block told.place
      last refl refl room.ends room.most room.judged (λ z command p. sym c.if-not-branch.true ∙ room.fits z command p);
}

pub returns-in_err-make_node : goal.returns-in_err-make_node
returns-in_err-make_node g c = record {
  did = λ out.
      let old = volume_of g.S.Store c.args.self.now in
      let told = c.in_ok-at.ensures in
      let at = c.in_ok-at.at in
      let b = g.S.Store.state c.node_place_at.new.s in
      let mid = volume_of g.S.Store (record c.args.self.now { store = c.has_room.new.s }) in
      let room = c.in_ok-has_room.ensures in
      let last = volume_of g.S.Store (record c.args.self.now { store = c.make_node.new.s }) in
      let made = c.in_err-make_node.ensures in
      let e = err_from_is_err_and c.from_residual-in_err-make_node.result c.from_residual-in_err-make_node.ensures.1 in
      subst (λ r. Did (command.make_dir c.args.path.now) r old last out) (sym (e.1 ∙ ap Err e.2))
      (make_faulted c.args.path.now old out
      (g.met.S.Store.is_geometry c.args.self.now.store) (subst IsWithinLimits c.geometry.ensures c.request-within_limits.ensures.limits) at.d at.slot at.name.now c.has-full.result b
      (record { ends = told.looks.ends; point = told.looks.point; working = told.looks.reads refl }) (c.has-full.ensures.one event.full refl) told.block told.place
      mid room.ends room.most room.judged (λ z command p. sym c.if-not-branch.false ∙ room.fits z command p) refl c.in_err-make_node.field-0.0 last refl refl made.ends made.point made.undamaged
      (λ fit is_told. room.room c.if-not-branch.false is_told));
}

pub returns-in_default : goal.returns-in_default
returns-in_default g c = record {
  did = λ out.
      let old = volume_of g.S.Store c.args.self.now in
      let told = c.in_ok-at.ensures in
      let at = c.in_ok-at.at in
      let b = g.S.Store.state c.node_place_at.new.s in
      let mid = volume_of g.S.Store (record c.args.self.now { store = c.has_room.new.s }) in
      let room = c.in_ok-has_room.ensures in
      let last = volume_of g.S.Store (record c.args.self.now { store = c.make_node.new.s }) in
      let made = c.in_ok-make_node.ensures in
      make_none c.args.path.now old out
      (g.met.S.Store.is_geometry c.args.self.now.store) (subst IsWithinLimits c.geometry.ensures c.request-within_limits.ensures.limits) at.d at.slot at.name.now c.has-full.result b
      (record { ends = told.looks.ends; point = told.looks.point; working = told.looks.reads refl }) (c.has-full.ensures.one event.full refl) told.block told.place
      mid room.ends room.most room.judged (λ z command p. sym c.if-not-branch.false ∙ room.fits z command p) refl last refl refl made.ends made.point
      (subst (MakesNode mid.store last.store Directory at.d at.slot at.name.now) c.in_default.is made.made);
}

pub returns-in_err-take_point : goal.returns-in_err-take_point
returns-in_err-take_point g c = record {
  did = λ out.
      let old = volume_of g.S.Store c.args.self.now in
      let told = c.in_ok-at.ensures in
      let at = c.in_ok-at.at in
      let b = g.S.Store.state c.node_place_at.new.s in
      let mid = volume_of g.S.Store (record c.args.self.now { store = c.has_room.new.s }) in
      let room = c.in_ok-has_room.ensures in
      let made = g.S.Store.state c.make_node.new.s in
      let makes = c.in_ok-make_node.ensures in
      let last = volume_of g.S.Store (record c.args.self.now { store = c.take_point.new.s }) in
      let point = c.in_err-take_point.ensures in
      let e = err_from_is_err_and c.from_residual-in_err-take_point.result c.from_residual-in_err-take_point.ensures.1 in
      subst (λ r. Did (command.make_dir c.args.path.now) r old last out) (sym (e.1 ∙ ap Err e.2))
      (make_ended c.args.path.now old out
      (g.met.S.Store.is_geometry c.args.self.now.store) (subst IsWithinLimits c.geometry.ensures c.request-within_limits.ensures.limits) at.d at.slot at.name.now c.has-full.result b
      (record { ends = told.looks.ends; point = told.looks.point; working = told.looks.reads refl }) (c.has-full.ensures.one event.full refl) told.block told.place
      mid room.ends room.most room.judged (λ z command p. sym c.if-not-branch.false ∙ room.fits z command p) refl made
      (λ is_told. g.met.S.Store.working_is_view c.make_node.new.s is_told makes.ends.live) makes.ends makes.point _ makes.made
      c.has.result (c.has.ensures.one event.mkdir refl) last refl refl c.in_err-take_point.field-0.0 point.ends point.most point.comes);
}

pub returns : goal.returns
returns g c = record {
  did = λ out.
      let old = volume_of g.S.Store c.args.self.now in
      let told = c.in_ok-at.ensures in
      let at = c.in_ok-at.at in
      let b = g.S.Store.state c.node_place_at.new.s in
      let mid = volume_of g.S.Store (record c.args.self.now { store = c.has_room.new.s }) in
      let room = c.in_ok-has_room.ensures in
      let made = g.S.Store.state c.make_node.new.s in
      let makes = c.in_ok-make_node.ensures in
      let last = volume_of g.S.Store (record c.args.self.now { store = c.take_point.new.s }) in
      let point = c.in_ok-take_point.ensures in
      make_done c.args.path.now old out
      (g.met.S.Store.is_geometry c.args.self.now.store) (subst IsWithinLimits c.geometry.ensures c.request-within_limits.ensures.limits) at.d at.slot at.name.now c.has-full.result b
      (record { ends = told.looks.ends; point = told.looks.point; working = told.looks.reads refl }) (c.has-full.ensures.one event.full refl) told.block told.place
      mid room.ends room.most room.judged (λ z command p. sym c.if-not-branch.false ∙ room.fits z command p) refl made
      (λ is_told. g.met.S.Store.working_is_view c.make_node.new.s is_told makes.ends.live) makes.ends makes.point _ makes.made
      c.has.result (c.has.ensures.one event.mkdir refl) last refl refl point.ends point.most point.comes;
}
