use Rattle.std.proofs.Common.{◌∙◌, refl, sym, ap, subst}
use Rattle.std.specs.Prelude.{Err}
use Rattle.std.proofs.lemmas.Result.{err_from_is_err_and}
use Rattle.edge_handles.specs.Table.{descriptor_of}
use Rattle.edge_model.specs.Asked as command
use Rattle.edge_volume.specs.Did.{Did}
use Rattle.edge_calls.specs.State.{volume_of}
use Rattle.edge_calls.proofs.DescriptorLaws.{rewind_stopped, rewound, directory_is_open}
use Rattle.edge_calls.proofs.volume.Volume.rewind.Goals as goal

pub returns-in_err-directory_at-clause-did : goal.returns-in_err-directory_at-clause-did
returns-in_err-directory_at-clause-did g c out =
    let old = volume_of g.S.Store c.args.self.now in
    let p = err_from_is_err_and c.from_residual.result c.from_residual.ensures.1 in
    subst (λ r. Did (command.rewind c.args.h) r old old out) (sym (p.1 ∙ ap Err p.2))
    (rewind_stopped c.args.h old old out c.requires.live refl refl c.in_err-directory_at.field-0.0 refl c.in_err-directory_at.ensures)

pub returns-clause-did : goal.returns-clause-did
returns-clause-did g c out =
    let old = volume_of g.S.Store c.args.self.now in
    let new = volume_of g.S.Store (record c.args.self.now { handles = c.move_to-open.new.self }) in
    let d = descriptor_of c.in_ok-directory_at.field-0 in
    let is_open = directory_is_open c.args.self.now.handles c.args.h d c.in_ok-directory_at.ensures in
    rewound c.args.h old new out c.requires.live refl d 0 refl is_open (c.move_to-open.ensures.moved d is_open) c.in_ok-directory_at.ensures refl
