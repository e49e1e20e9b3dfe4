use Rattle.std.proofs.Common.{◌∙◌, refl, sym, ap, subst}
use Rattle.std.specs.Prelude.{Err}
use Rattle.std.proofs.lemmas.Result.{err_from_is_err_and}
use Rattle.edge_base.specs.commands.Events as event
use Rattle.edge_base.specs.layout.Places.{IsWithinLimits}
use Rattle.edge_model.specs.Asked as command
use Rattle.edge_volume.specs.Did.{Did}
use Rattle.edge_volume.proofs.NodeLaws.{node_still}
use Rattle.edge_calls.specs.State.{volume_of}
use Rattle.edge_calls.proofs.LinkLaws.{link_stopped, link_judging, link_unfit, link_faulted, link_ended, link_done}
use Rattle.edge_calls.proofs.volume.Volume.link.Goals as goal

pub returns-in_err-link : goal.returns-in_err-link
returns-in_err-link g c = record {
  did = λ out.
      let old = volume_of g.S.Store c.args.self.now in
      let last = volume_of g.S.Store (record c.args.self.now { store = c.link_at.new.s }) in
      let told = c.in_err-link.ensures in
      let e = err_from_is_err_and c.from_residual.result c.from_residual.ensures.1 in
      subst (λ r. Did (command.link c.args.path.now c.args.to.now) r old last out) (sym (e.1 ∙ ap Err e.2))
      (link_stopped c.args.path.now c.args.to.now old out c.in_err-link.field-0.0 last refl refl told.looks.ends told.looks.point told.looks.reads told.undamaged told.link);
}

pub returns-in_err-has_room : goal.returns-in_err-has_room
returns-in_err-has_room g c = record {
  did = λ out.
      let old = volume_of g.S.Store c.args.self.now in
      let told = c.in_ok-link.ensures in
      let file = c.in_ok-link.link.file in
      let at = c.in_ok-link.link.at in
      let b = g.S.Store.state c.link_at.new.s in
      let last = volume_of g.S.Store (record c.args.self.now { store = c.has_room.new.s }) in
      let room = c.in_err-has_room.ensures in
      let e = err_from_is_err_and c.from_residual-in_err-has_room.result c.from_residual-in_err-has_room.ensures.1 in
      subst (λ r. Did (command.link c.args.path.now c.args.to.now) r old last out) (sym (e.1 ∙ ap Err e.2))
      (link_judging c.args.path.now c.args.to.now old out
      (g.met.S.Store.is_geometry c.args.self.now.store) (subst IsWithinLimits c.geometry.ensures c.request-within_limits.ensures.limits) file.n at.d at.slot at.name.now c.has-full.result b
      (record { ends = told.looks.ends; point = told.looks.point; working = told.looks.reads refl }) (c.has-full.ensures.one event.full refl) told.block told.link
      c.in_err-has_room.field-0.0 last refl refl room.ends room.most room.judged);
}

pub returns-then-not-branch : goal.returns-then-not-branch
returns-then-not-branch g c = record {
  did = λ out.
      let old = volume_of g.S.Store c.args.self.now in
      let told = c.in_ok-link.ensures in
      let file = c.in_ok-link.link.file in
      let at = c.in_ok-link.link.at in
      let b = g.S.Store.state c.link_at.new.s in
      let last = volume_of g.S.Store (record c.args.self.now { store = c.has_room.new.s }) in
      let room = c.in_ok-has_room.ensures in
      link_unfit c.args.path.now c.args.to.now old out
      (g.met.S.Store.is_geometry c.args.self.now.store) (subst IsWithinLimits c.geometry.ensures c.request-within_limits.ensures.limits) file.n at.d at.slot at.name.now c.has-full.result b
      (record { ends = told.looks.ends; point = told.looks.point; working = told.looks.reads refl }) (c.has-full.ensures.one event.full refl) told.block told.link
      last refl refl room.ends room.most room.judged (λ z command p. sym c.if-not-branch.true ∙ room.fits z command p);
}

pub add_name-requires-clause-node : goal.add_name-requires-clause-node
add_name-requires-clause-node g c =
    let file = c.in_ok-link.link.file in
    node_still (g.S.Store.state c.link_at.new.s) (g.S.Store.state c.has_room.new.s) file.n file.head c.in_ok-has_room.ensures.ends c.in_ok-has_room.ensures.reads c.in_ok-link.ensures.node

pub returns-in_err-add_name : goal.returns-in_err-add_name
returns-in_err-add_name g c = record {
  did = λ out.
      let old = volume_of g.S.Store c.args.self.now in
      let told = c.in_ok-link.ensures in
      let file = c.in_ok-link.link.file in
      let at = c.in_ok-link.link.at in
      let b = g.S.Store.state c.link_at.new.s in
      let mid = volume_of g.S.Store (record c.args.self.now { store = c.has_room.new.s }) in
      let room = c.in_ok-has_room.ensures in
      let last = volume_of g.S.Store (record c.args.self.now { store = c.add_name.new.s }) in
      let made = c.in_err-add_name.ensures in
      let e = err_from_is_err_and c.from_residual-in_err-add_name.result c.from_residual-in_err-add_name.ensures.1 in
      subst (λ r. Did (command.link c.args.path.now c.args.to.now) r old last out) (sym (e.1 ∙ ap Err e.2))
      (link_faulted c.args.path.now c.args.to.now old out
      (g.met.S.Store.is_geometry c.args.self.now.store) (subst IsWithinLimits c.geometry.ensures c.request-within_limits.ensures.limits) file.n at.d at.slot at.name.now c.has-full.result b
      (record { ends = told.looks.ends; point = told.looks.point; working = told.looks.reads refl }) (c.has-full.ensures.one event.full refl) told.block told.link
      mid room.ends room.most room.judged (λ z command p. sym c.if-not-branch.false ∙ room.fits z command p) refl c.in_err-add_name.field-0.0 last refl refl made.ends made.point made.undamaged
      (λ fit is_told. room.room c.if-not-branch.false is_told));
}

pub returns-in_err-take_point : goal.returns-in_err-take_point
returns-in_err-take_point g c = record {
  did = λ out.
      let old = volume_of g.S.Store c.args.self.now in
      let told = c.in_ok-link.ensures in
      let file = c.in_ok-link.link.file in
      let at = c.in_ok-link.link.at in
      let b = g.S.Store.state c.link_at.new.s in
      let mid = volume_of g.S.Store (record c.args.self.now { store = c.has_room.new.s }) in
      let room = c.in_ok-has_room.ensures in
      let made = g.S.Store.state c.add_name.new.s in
      let makes = c.in_ok-add_name.ensures in
      let last = volume_of g.S.Store (record c.args.self.now { store = c.take_point.new.s }) in
      let point = c.in_err-take_point.ensures in
      let e = err_from_is_err_and c.from_residual-in_err-take_point.result c.from_residual-in_err-take_point.ensures.1 in
      subst (λ r. Did (command.link c.args.path.now c.args.to.now) r old last out) (sym (e.1 ∙ ap Err e.2))
      (link_ended c.args.path.now c.args.to.now old out
      (g.met.S.Store.is_geometry c.args.self.now.store) (subst IsWithinLimits c.geometry.ensures c.request-within_limits.ensures.limits) file.n at.d at.slot at.name.now c.has-full.result b
      (record { ends = told.looks.ends; point = told.looks.point; working = told.looks.reads refl }) (c.has-full.ensures.one event.full refl) told.block told.link
      mid room.ends room.most room.judged (λ z command p. sym c.if-not-branch.false ∙ room.fits z command p) refl made
      (λ is_told. g.met.S.Store.working_is_view c.add_name.new.s is_told makes.ends.live) makes.ends makes.point makes.linked
      c.has.result (c.has.ensures.one event.link refl) last refl refl c.in_err-take_point.field-0.0 point.ends point.most point.comes);
}

pub returns : goal.returns
returns g c = record {
  did = λ out.
      let old = volume_of g.S.Store c.args.self.now in
      let told = c.in_ok-link.ensures in
      let file = c.in_ok-link.link.file in
      let at = c.in_ok-link.link.at in
      let b = g.S.Store.state c.link_at.new.s in
      let mid = volume_of g.S.Store (record c.args.self.now { store = c.has_room.new.s }) in
      let room = c.in_ok-has_room.ensures in
      let made = g.S.Store.state c.add_name.new.s in
      let makes = c.in_ok-add_name.ensures in
      let last = volume_of g.S.Store (record c.args.self.now { store = c.take_point.new.s }) in
      let point = c.in_ok-take_point.ensures in
      link_done c.args.path.now c.args.to.now old out
      (g.met.S.Store.is_geometry c.args.self.now.store) (subst IsWithinLimits c.geometry.ensures c.request-within_limits.ensures.limits) file.n at.d at.slot at.name.now c.has-full.result b
      (record { ends = told.looks.ends; point = told.looks.point; working = told.looks.reads refl }) (c.has-full.ensures.one event.full refl) told.block told.link
      mid room.ends room.most room.judged (λ z command p. sym c.if-not-branch.false ∙ room.fits z command p) refl made
      (λ is_told. g.met.S.Store.working_is_view c.add_name.new.s is_told makes.ends.live) makes.ends makes.point makes.linked
      c.has.result (c.has.ensures.one event.link refl) last refl refl point.ends point.most point.comes;
}
