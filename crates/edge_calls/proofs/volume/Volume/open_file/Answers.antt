use Rattle.std.proofs.Common.{◌∙◌, refl, sym, ap, subst}
use Rattle.std.specs.Prelude.{Ok, Err}
use Rattle.std.proofs.lemmas.Result.{err_from_is_err_and}
use Rattle.edge_model.specs.Asked as command
use Rattle.edge_volume.specs.Did.{Did}
use Rattle.edge_calls.specs.State.{volume_of}
use Rattle.edge_calls.specs.declared.open.Opening.{Opening}
use Rattle.edge_calls.specs.declared.open.Opening.TheVariants.{There, New}
use Rattle.edge_calls.specs.Openings.{OpensAs}
use Rattle.edge_calls.proofs.LookedLaws.{did_after_looks}
use Rattle.edge_calls.proofs.OpenedLaws.{open_stopped}
use Rattle.edge_calls.proofs.OpeningLaws.{opens_after}
use Rattle.edge_calls.proofs.volume.Volume.open_file.Goals as goal

pub returns-in_err-opening-clause-did : goal.returns-in_err-opening-clause-did
returns-in_err-opening-clause-did g c out =
    let old = volume_of g.S.Store c.args.self.now in
    let last = volume_of g.S.Store (record c.args.self.now { store = c.opening_at.new.s }) in
    let told = c.in_err-opening.ensures in
    let e = err_from_is_err_and c.from_residual.result c.from_residual.ensures.1 in
    subst (λ r. Did (command.open_file c.args.path.now c.args.flags) r old last out) (sym (e.1 ∙ ap Err e.2))
    (open_stopped c.args.path.now c.args.flags old last out refl refl c.in_err-opening.field-0.0 told.looks.ends told.looks.point told.looks.reads told.undamaged told.opens)

pub returns-then-flags-clause-did : goal.returns-then-flags-clause-did
returns-then-flags-clause-did g c out =
    let s = c.args.self.now.store in
    let table = c.args.self.now.handles in
    let path = c.args.path.now in
    let flags = c.args.flags in
    let old = volume_of g.S.Store c.args.self.now in
    let mid = volume_of g.S.Store (record c.args.self.now { store = c.opening_at.new.s }) in
    let last = volume_of g.S.Store c.empty.new.self in
    let told = c.in_ok-opening.ensures in
    did_after_looks (command.open_file path flags) c.empty.result old mid last out (record { ends = told.looks.ends; point = told.looks.point; working = told.looks.reads refl }) refl refl
    (c.empty.ensures.did path out
    (opens_after g.S.Store s c.opening_at.new.s told.looks table path flags (Ok (There c.in-There.n))
    (subst (λ (x : Opening). OpensAs (g.S.Store.state s) table path flags (Ok x)) c.in-There.is told.opens)))

pub returns-else-flags-clause-did : goal.returns-else-flags-clause-did
returns-else-flags-clause-did g c out =
    let s = c.args.self.now.store in
    let table = c.args.self.now.handles in
    let path = c.args.path.now in
    let flags = c.args.flags in
    let old = volume_of g.S.Store c.args.self.now in
    let mid = volume_of g.S.Store (record c.args.self.now { store = c.opening_at.new.s }) in
    let last = volume_of g.S.Store c.keep.new.self in
    let told = c.in_ok-opening.ensures in
    did_after_looks (command.open_file path flags) c.keep.result old mid last out (record { ends = told.looks.ends; point = told.looks.point; working = told.looks.reads refl }) refl refl
    (c.keep.ensures.did path out
    (opens_after g.S.Store s c.opening_at.new.s told.looks table path flags (Ok (There c.in-There.n))
    (subst (λ (x : Opening). OpensAs (g.S.Store.state s) table path flags (Ok x)) c.in-There.is told.opens)))

pub returns-in-New-clause-did : goal.returns-in-New-clause-did
returns-in-New-clause-did g c out =
    let s = c.args.self.now.store in
    let table = c.args.self.now.handles in
    let path = c.args.path.now in
    let flags = c.args.flags in
    let old = volume_of g.S.Store c.args.self.now in
    let mid = volume_of g.S.Store (record c.args.self.now { store = c.opening_at.new.s }) in
    let last = volume_of g.S.Store c.create.new.self in
    let told = c.in_ok-opening.ensures in
    did_after_looks (command.open_file path flags) c.create.result old mid last out (record { ends = told.looks.ends; point = told.looks.point; working = told.looks.reads refl }) refl refl
    (c.create.ensures.did path out
    (opens_after g.S.Store s c.opening_at.new.s told.looks table path flags (Ok (New c.in-New.at))
    (subst (λ (x : Opening). OpensAs (g.S.Store.state s) table path flags (Ok x)) c.in-New.is told.opens)))
