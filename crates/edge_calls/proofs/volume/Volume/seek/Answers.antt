use Rattle.std.proofs.Common.{◌∙◌, ℕ, ◌<◌, ◌≤◌, refl, sym, ap, subst}
use Rattle.std.specs.Prelude.{Err}
use Rattle.std.proofs.lemmas.Result.{err_from_is_err_and}
use Rattle.edge_base.specs.layout.Places.{max_size_of}
use Rattle.edge_handles.specs.Table.{descriptor_of}
use Rattle.edge_model.specs.Asked as command
use Rattle.edge_volume.specs.Did.{Did}
use Rattle.edge_calls.specs.State.{volume_of}
use Rattle.edge_calls.proofs.DescriptorLaws.{seek_stopped, seek_past, sought, file_is_open}
use Rattle.edge_calls.proofs.volume.Volume.seek.Goals as goal

pub returns-in_err-file_at-clause-did : goal.returns-in_err-file_at-clause-did
returns-in_err-file_at-clause-did g c out =
    let old = volume_of g.S.Store c.args.self.now in
    let p = err_from_is_err_and c.from_residual.result c.from_residual.ensures.1 in
    subst (λ r. Did (command.seek c.args.h c.args.to) r old old out) (sym (p.1 ∙ ap Err p.2))
    (seek_stopped c.args.h old old out c.requires.live refl refl c.args.to c.in_err-file_at.field-0.0 refl c.in_err-file_at.ensures)

pub returns-then-to-max_size-clause-did : goal.returns-then-to-max_size-clause-did
returns-then-to-max_size-clause-did g c out =
    let old = volume_of g.S.Store c.args.self.now in
    seek_past c.args.h old old out c.requires.live refl refl c.args.to (descriptor_of c.in_ok-file_at.field-0) refl c.in_ok-file_at.ensures
    (subst (λ (m : ℕ). m < c.args.to) (c.max_size.ensures ∙ ap max_size_of c.geometry.ensures) c.if-to-max_size.true)

pub returns-clause-did : goal.returns-clause-did
returns-clause-did g c out =
    let old = volume_of g.S.Store c.args.self.now in
    let new = volume_of g.S.Store (record c.args.self.now { handles = c.move_to-open.new.self }) in
    let d = descriptor_of c.in_ok-file_at.field-0 in
    let is_open = file_is_open c.args.self.now.handles c.args.h d c.in_ok-file_at.ensures in
    sought c.args.h old new out c.requires.live refl d c.args.to refl is_open (c.move_to-open.ensures.moved d is_open) c.in_ok-file_at.ensures
    (subst (λ (m : ℕ). c.args.to ≤ m) (c.max_size.ensures ∙ ap max_size_of c.geometry.ensures) c.if-to-max_size.false)
