use Rattle.std.proofs.Common.{◌∙◌, refl, sym, ap, subst}
use Rattle.std.specs.Prelude.{Err}
use Rattle.std.proofs.lemmas.Result.{err_from_is_err_and}
use Rattle.edge_model.specs.Asked as command
use Rattle.edge_volume.specs.Did.{Did}
use Rattle.edge_calls.specs.State.{volume_of}
use Rattle.edge_calls.specs.Unnaming.{of_directory}
use Rattle.edge_calls.proofs.LookedLaws.{did_after_looks}
use Rattle.edge_calls.proofs.RoomLaws.{IsLooked}
use Rattle.edge_calls.proofs.UnnameLaws.{to_unname, unname_stopped}
use Rattle.edge_calls.proofs.volume.Volume.remove_dir.Goals as goal

pub returns-in_err-named : goal.returns-in_err-named
returns-in_err-named g c = record {
  did = λ out.
      let old = volume_of g.S.Store c.args.self.now in
      let last = volume_of g.S.Store (record c.args.self.now { store = c.directory_named.new.s }) in
      let told = c.in_err-named.ensures in
      let e = err_from_is_err_and c.from_residual.result c.from_residual.ensures.1 in
      subst (λ r. Did (command.remove_dir c.args.path.now) r old last out) (sym (e.1 ∙ ap Err e.2))
      (unname_stopped (command.remove_dir c.args.path.now) (of_directory c.args.path.now) old last out c.in_err-named.field-0.0 refl refl told.looks.ends told.looks.point told.looks.reads told.undamaged told.plan);
}

pub returns : goal.returns
returns g c = record {
  did = λ out.
      let old = volume_of g.S.Store c.args.self.now in
      let mid = volume_of g.S.Store (record c.args.self.now { store = c.directory_named.new.s }) in
      let last = volume_of g.S.Store c.unname.new.self in
      let told = c.in_ok-named.ensures in
      let looked : IsLooked old.store mid.store = record { ends = told.looks.ends; point = told.looks.point; working = told.looks.reads refl } in
      did_after_looks (command.remove_dir c.args.path.now) c.unname.result old mid last out looked refl refl
      (c.unname.ensures.did (command.remove_dir c.args.path.now) out (of_directory c.args.path.now)
      (to_unname (command.remove_dir c.args.path.now) old mid c.in_ok-named.named looked refl told.plan told.leaf));
}
