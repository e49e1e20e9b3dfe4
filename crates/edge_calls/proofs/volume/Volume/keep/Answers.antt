use Rattle.std.proofs.Common.{refl, sym, subst}
use Rattle.std.specs.Prelude.{Ok}
use Rattle.edge_model.specs.declared.command.Answer.{Answer}
use Rattle.edge_model.specs.Asked as command
use Rattle.edge_volume.specs.Did.{Did}
use Rattle.edge_calls.specs.State.{volume_of}
use Rattle.edge_calls.proofs.OpenedLaws.{opened_kept}
use Rattle.edge_calls.proofs.volume.Volume.keep.Goals as goal

pub returns-clause-did : goal.returns-clause-did
returns-clause-did g c path out opens =
    let old = volume_of g.S.Store c.args.self.now in
    let new = volume_of g.S.Store (record c.args.self.now { handles = c.enter_file.new.handles }) in
    let entered = c.enter_file.ensures in
    subst (λ (answer : Answer). Did (command.open_file path c.args.flags.now) (Ok answer) old new out) (sym entered.answer)
    (opened_kept path c.args.flags.now c.args.n old new out c.requires.live refl refl c.requires.kept
    (record { room = c.requires.room; free = entered.free; are = entered.entered }) opens)
