use Rattle.std.proofs.Common.{◌≡◌, ◌∙◌, ℕ, Bool, true, false, None, refl, sym, ap, subst}
use Rattle.std.specs.Prelude.{Ok, Err}
use Rattle.std.proofs.lemmas.Result.{err_from_is_err_and}
use Rattle.edge_base.specs.commands.Descriptors.{is_full}
use Rattle.edge_model.specs.declared.command.Answer.TheVariants as a
use Rattle.edge_model.specs.Asked as command
use Rattle.edge_volume.specs.Parts.{IsOfNoDamage}
use Rattle.edge_volume.specs.Stopped.{fault_of}
use Rattle.edge_volume.specs.Did.{Did}
use Rattle.edge_volume.proofs.LookLaws.{looks_on}
use Rattle.edge_walk.specs.Spots.{enters}
use Rattle.edge_walk.proofs.StillLaws.{on_tree_before, answered_before}
use Rattle.edge_calls.specs.State.{volume_of}
use Rattle.edge_calls.proofs.PathLaws.{open_dir_unreached, open_dir_unentered, open_dir_too_many, open_dir_done}
use Rattle.edge_calls.proofs.volume.Volume.open_dir.Goals as goal

not_full : (b : Bool) → (b ≡ true → true ≡ false) → b ≡ false
not_full true h = h refl
not_full false h = refl

pub returns-in_err-number-clause-did : goal.returns-in_err-number-clause-did
returns-in_err-number-clause-did g c out =
    let old = volume_of g.S.Store c.args.self.now in
    let new = volume_of g.S.Store (record c.args.self.now { store = c.reach.new.s }) in
    let reached = c.in_err-number.ensures in
    let p = err_from_is_err_and c.from_residual.result c.from_residual.ensures.1 in
    subst (λ r. Did (command.open_dir c.args.path.now) r old new out) (sym (p.1 ∙ ap Err p.2))
    (open_dir_unreached c.args.path.now old new out refl refl c.in_err-number.field-0.0 reached.looks.ends reached.looks.point reached.looks.reads reached.undamaged reached.number)

pub returns-in_err-enter-clause-did : goal.returns-in_err-enter-clause-did
returns-in_err-enter-clause-did g c out =
    let x = c.args.self.now.store in
    let old = volume_of g.S.Store c.args.self.now in
    let new = volume_of g.S.Store (record c.args.self.now { store = c.enter.new.s }) in
    let reached = c.in_ok-number.ensures in
    let entered = c.in_err-enter.ensures in
    let stop = c.in_err-enter.field-0.0 in
    let looks = looks_on g.S.Store (fault_of {T = ℕ} (Err stop)) x c.reach.new.s c.enter.new.s reached.looks entered.looks in
    let p = err_from_is_err_and c.from_residual-in_err-enter.result c.from_residual-in_err-enter.ensures.1 in
    subst (λ r. Did (command.open_dir c.args.path.now) r old new out) (sym (p.1 ∙ ap Err p.2))
    (open_dir_unentered c.args.path.now old new out refl refl stop looks.ends looks.point looks.reads
    (on_tree_before g.S.Store x c.reach.new.s reached.looks (λ t. IsOfNoDamage (fault_of {T = ℕ} (Err stop))) entered.undamaged)
    c.in_ok-number.number reached.number
    (answered_before g.S.Store x c.reach.new.s reached.looks (Err stop) (λ r t. r ≡ enters t c.in_ok-number.number) entered.kind))

pub returns-in-Some-clause-did : goal.returns-in-Some-clause-did
returns-in-Some-clause-did g c out =
    let x = c.args.self.now.store in
    let table = c.args.self.now.handles in
    let old = volume_of g.S.Store c.args.self.now in
    let new = volume_of g.S.Store (record c.args.self.now { store = c.enter.new.s; handles = c.enter-entered.new.self }) in
    let reached = c.in_ok-number.ensures in
    let n = c.in_ok-number.number in
    let opened = c.in-Some.ensures in
    let looks = looks_on g.S.Store None x c.reach.new.s c.enter.new.s reached.looks c.in_ok-enter.ensures.looks in
    let is : c.from.result ≡ c.in-Some.h = c.from.ensures in
    subst (λ (k : ℕ). Did (command.open_dir c.args.path.now) (Ok (a.Number k)) old new out) (sym is)
    (open_dir_done c.args.path.now old new out refl looks.ends looks.point (looks.reads refl) n c.in-Some.h opened.least opened.below opened.free opened.entered
    reached.number
    (on_tree_before g.S.Store x c.reach.new.s reached.looks (λ t. Ok tt ≡ enters t n) c.in_ok-enter.ensures.kind)
    (not_full (is_full table) (λ full. opened.full.1 full)))

pub returns-in-None-clause-did : goal.returns-in-None-clause-did
returns-in-None-clause-did g c out =
    let x = c.args.self.now.store in
    let old = volume_of g.S.Store c.args.self.now in
    let new = volume_of g.S.Store (record c.args.self.now { store = c.enter.new.s; handles = c.enter-entered.new.self }) in
    let reached = c.in_ok-number.ensures in
    let n = c.in_ok-number.number in
    let looks = looks_on g.S.Store None x c.reach.new.s c.enter.new.s reached.looks c.in_ok-enter.ensures.looks in
    open_dir_too_many c.args.path.now old new out refl c.in-None.ensures.refused looks.ends looks.point (looks.reads refl) n reached.number
    (on_tree_before g.S.Store x c.reach.new.s reached.looks (λ t. Ok tt ≡ enters t n) c.in_ok-enter.ensures.kind)
    (c.in-None.ensures.full.0 refl)
