use Rattle.std.proofs.Common.{◌∙◌, refl, sym, ap, subst}
use Rattle.std.specs.Prelude.{Err}
use Rattle.std.proofs.lemmas.Result.{err_from_is_err_and}
use Rattle.edge_base.specs.commands.Events as event
use Rattle.edge_base.specs.layout.Places.{IsWithinLimits}
use Rattle.edge_volume.specs.Did.{Did}
use Rattle.edge_calls.specs.State.{volume_of}
use Rattle.edge_calls.proofs.UnnameLaws.{named_still, unname_done, unname_ended, unname_faulted, unname_judging, unname_unfit}
use Rattle.edge_calls.proofs.volume.Volume.unname.Goals as goal

pub take_away-requires-clause-node : goal.take_away-requires-clause-node
take_away-requires-clause-node g c =
    let room = c.in_ok-has_room.ensures in
    named_still (g.S.Store.state c.args.self.now.store) (g.S.Store.state c.has_room.new.s) c.args.named.now room.ends.origin room.reads.working c.requires.node

pub returns-in_err-has_room : goal.returns-in_err-has_room
returns-in_err-has_room g c = record {
  did = λ command out unnames to.
      let old = volume_of g.S.Store c.args.self.now in
      let last = volume_of g.S.Store (record c.args.self.now { store = c.has_room.new.s }) in
      let room = c.in_err-has_room.ensures in
      let e = err_from_is_err_and c.from_residual.result c.from_residual.ensures.1 in
      subst (λ r. Did command r old last out) (sym (e.1 ∙ ap Err e.2))
      (unname_judging command unnames c.args.named.now old out to (g.met.S.Store.is_geometry c.args.self.now.store) (subst IsWithinLimits c.geometry.ensures c.request-within_limits.ensures.limits)
      c.requires.node.block c.has.result (c.has.ensures.one event.full refl) c.requires.live c.in_err-has_room.field-0.0 last refl refl room.ends room.most room.judged);
}

pub returns-then-not-branch : goal.returns-then-not-branch
returns-then-not-branch g c = record {
  did = λ command out unnames to.
      let old = volume_of g.S.Store c.args.self.now in
      let last = volume_of g.S.Store (record c.args.self.now { store = c.has_room.new.s }) in
      let room = c.in_ok-has_room.ensures in
      unname_unfit command unnames c.args.named.now old out to (g.met.S.Store.is_geometry c.args.self.now.store) (subst IsWithinLimits c.geometry.ensures c.request-within_limits.ensures.limits)
      c.requires.node.block c.has.result (c.has.ensures.one event.full refl) c.requires.live last refl refl room.ends room.most room.judged (λ z command p. sym c.if-not-branch.true ∙ room.fits z command p);
}

pub returns-in_err-take_away : goal.returns-in_err-take_away
returns-in_err-take_away g c = record {
  did = λ command out unnames to.
      let old = volume_of g.S.Store c.args.self.now in
      let mid = volume_of g.S.Store (record c.args.self.now { store = c.has_room.new.s }) in
      let last = volume_of g.S.Store (record c.args.self.now { store = c.take_away.new.s }) in
      let room = c.in_ok-has_room.ensures in
      let took = c.in_err-take_away.ensures in
      let e = err_from_is_err_and c.from_residual-in_err-take_away.result c.from_residual-in_err-take_away.ensures.1 in
      subst (λ r. Did command r old last out) (sym (e.1 ∙ ap Err e.2))
      (unname_faulted command unnames c.args.named.now old out to (g.met.S.Store.is_geometry c.args.self.now.store) (subst IsWithinLimits c.geometry.ensures c.request-within_limits.ensures.limits)
      c.requires.node.block c.has.result (c.has.ensures.one event.full refl) c.requires.live mid room.ends room.most room.judged (λ z command p. sym c.if-not-branch.false ∙ room.fits z command p) refl
      c.in_err-take_away.field-0.0 last refl refl took.ends took.point took.undamaged (λ fit is_told. room.room c.if-not-branch.false is_told));
}

pub returns-in_err-take_point : goal.returns-in_err-take_point
returns-in_err-take_point g c = record {
  did = λ command out unnames to.
      let old = volume_of g.S.Store c.args.self.now in
      let mid = volume_of g.S.Store (record c.args.self.now { store = c.has_room.new.s }) in
      let made = g.S.Store.state c.take_away.new.s in
      let last = volume_of g.S.Store (record c.args.self.now { store = c.take_point.new.s }) in
      let room = c.in_ok-has_room.ensures in
      let took = c.in_ok-take_away.ensures in
      let point = c.in_err-take_point.ensures in
      let e = err_from_is_err_and c.from_residual-in_err-take_point.result c.from_residual-in_err-take_point.ensures.1 in
      subst (λ r. Did command r old last out) (sym (e.1 ∙ ap Err e.2))
      (unname_ended command unnames c.args.named.now old out to (g.met.S.Store.is_geometry c.args.self.now.store) (subst IsWithinLimits c.geometry.ensures c.request-within_limits.ensures.limits)
      c.requires.node.block c.has.result (c.has.ensures.one event.full refl) c.requires.live mid room.ends room.most room.judged (λ z command p. sym c.if-not-branch.false ∙ room.fits z command p) refl
      made (λ is_told. g.met.S.Store.working_is_view c.take_away.new.s is_told took.ends.live) took.ends took.point took.taken c.has-2.result (c.has-2.ensures.one event.unlink refl) last refl refl
      c.in_err-take_point.field-0.0 point.ends point.most point.comes);
}

pub returns : goal.returns
returns g c = record {
  did = λ command out unnames to.
      let old = volume_of g.S.Store c.args.self.now in
      let mid = volume_of g.S.Store (record c.args.self.now { store = c.has_room.new.s }) in
      let made = g.S.Store.state c.take_away.new.s in
      let last = volume_of g.S.Store (record c.args.self.now { store = c.take_point.new.s }) in
      let room = c.in_ok-has_room.ensures in
      let took = c.in_ok-take_away.ensures in
      let point = c.in_ok-take_point.ensures in
      unname_done command unnames c.args.named.now old out to (g.met.S.Store.is_geometry c.args.self.now.store) (subst IsWithinLimits c.geometry.ensures c.request-within_limits.ensures.limits)
      c.requires.node.block c.has.result (c.has.ensures.one event.full refl) c.requires.live mid room.ends room.most room.judged (λ z command p. sym c.if-not-branch.false ∙ room.fits z command p) refl
      made (λ is_told. g.met.S.Store.working_is_view c.take_away.new.s is_told took.ends.live) took.ends took.point took.taken c.has-2.result (c.has-2.ensures.one event.unlink refl) last refl refl
      point.ends point.most point.comes;
}
