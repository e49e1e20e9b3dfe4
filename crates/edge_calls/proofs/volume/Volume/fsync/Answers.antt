use Rattle.std.proofs.Common.{◌∙◌, refl, sym, ap, subst}
use Rattle.std.specs.Prelude.{Err}
use Rattle.std.proofs.lemmas.Result.{err_from_is_err_and}
use Rattle.edge_base.specs.commands.Events as event
use Rattle.edge_handles.specs.Table.{descriptor_of}
use Rattle.edge_model.specs.Asked as command
use Rattle.edge_volume.specs.Did.{Did}
use Rattle.edge_calls.specs.State.{volume_of}
use Rattle.edge_calls.proofs.DescriptorLaws.{fsync_stopped, fsynced, fsync_ended}
use Rattle.edge_calls.proofs.volume.Volume.fsync.Goals as goal

pub returns-in_err-open_at : goal.returns-in_err-open_at
returns-in_err-open_at g c = record {
  did = λ out.
      let old = volume_of g.S.Store c.args.self.now in
      let p = err_from_is_err_and c.from_residual.result c.from_residual.ensures.1 in
      subst (λ r. Did (command.fsync c.args.h) r old old out) (sym (p.1 ∙ ap Err p.2))
      (fsync_stopped c.args.h old old out c.requires.live refl refl c.in_err-open_at.field-0.0 refl c.in_err-open_at.ensures);
}

pub returns-in_err-take_point : goal.returns-in_err-take_point
returns-in_err-take_point g c = record {
  did = λ out.
      let point = c.in_err-take_point.ensures in
      let old = volume_of g.S.Store c.args.self.now in
      let new = volume_of g.S.Store (record c.args.self.now { store = c.take_point.new.s }) in
      let p = err_from_is_err_and c.from_residual-in_err-take_point.result c.from_residual-in_err-take_point.ensures.1 in
      subst (λ r. Did (command.fsync c.args.h) r old new out) (sym (p.1 ∙ ap Err p.2))
      (fsync_ended c.args.h old new out c.requires.live refl refl c.has.result (c.has.ensures.one event.fsync refl) (descriptor_of c.in_ok-open_at.field-0) c.in_ok-open_at.ensures
      c.in_err-take_point.field-0.0 point.ends point.most point.comes);
}

pub returns : goal.returns
returns g c = record {
  did = λ out.
      let point = c.in_ok-take_point.ensures in
      let old = volume_of g.S.Store c.args.self.now in
      let new = volume_of g.S.Store (record c.args.self.now { store = c.take_point.new.s }) in
      fsynced c.args.h old new out c.requires.live refl refl c.has.result (c.has.ensures.one event.fsync refl) (descriptor_of c.in_ok-open_at.field-0) c.in_ok-open_at.ensures
      point.ends point.most point.comes;
}
