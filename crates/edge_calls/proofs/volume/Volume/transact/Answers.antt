use Rattle.std.proofs.Common.{◌∙◌, refl, sym, ap, subst}
use Rattle.std.specs.Prelude.{Err}
use Rattle.std.proofs.lemmas.Result.{err_from_is_err_and}
use Rattle.edge_model.specs.Asked as command
use Rattle.edge_volume.specs.Did.{Did}
use Rattle.edge_calls.specs.State.{volume_of}
use Rattle.edge_calls.proofs.SessionLaws.{transacted, transact_ended}
use Rattle.edge_calls.proofs.volume.Volume.transact.Goals as goal

pub returns-in_err-take_point : goal.returns-in_err-take_point
returns-in_err-take_point g c = record {
  did = λ out.
      let point = c.in_err-take_point.ensures in
      let old = volume_of g.S.Store c.args.self.now in
      let new = volume_of g.S.Store (record c.args.self.now { store = c.take_point.new.s }) in
      let p = err_from_is_err_and c.from_residual.result c.from_residual.ensures.1 in
      subst (λ r. Did command.transact r old new out) (sym (p.1 ∙ ap Err p.2))
      (transact_ended old new out c.requires.live refl refl c.in_err-take_point.field-0.0 point.ends point.most point.comes);
}

pub returns : goal.returns
returns g c = record {
  did = λ out.
      let point = c.in_ok-take_point.ensures in
      let old = volume_of g.S.Store c.args.self.now in
      let new = volume_of g.S.Store (record c.args.self.now { store = c.take_point.new.s }) in
      transacted old new out c.requires.live refl refl point.ends point.most point.comes;
}
