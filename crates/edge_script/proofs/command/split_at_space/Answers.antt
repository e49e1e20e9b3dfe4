use Rattle.std.proofs.Common.{sym, ◌∙◌}
use Rattle.edge_script.proofs.CodeLaws.{space_found, space_missing}
use Rattle.edge_script.proofs.command.split_at_space.Goals as goal

pub returns-in_err-end-clause-exact : goal.returns-in_err-end-clause-exact
returns-in_err-end-clause-exact c = let missing = space_missing c.args.text.now (sym c.space_in.ensures ∙ c.in_err-end.was) in let none =
    c.from_residual.ensures in cc

pub returns-clause-exact : goal.returns-clause-exact
returns-clause-exact c = space_found c.args.text.now c.in_ok-end.end (sym c.space_in.ensures ∙ c.in_ok-end.was)
