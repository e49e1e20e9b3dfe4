use Rattle.std.proofs.Common.{◌≡◌, ◌≤◌, List, ℕ, length, cond, Some, None, Result, Ok, Err, IfOk, OnErr, sym, ap, ◌∙◌}
use Rattle.std.specs.Prelude.{option_map}
use Rattle.std.specs.Result.{result_ok}
use Rattle.edge_model.specs.Asked.{Asked, asked}
use Rattle.edge_model.specs.declared.command.Command.{Command}
use Rattle.edge_script.specs.declared.command.BadLine.{BadLine}
use Rattle.edge_script.specs.Commands.{SpellsCommand}
use Rattle.edge_script.specs.Reading.{command_in, command_of_bytes}
use Rattle.edge_script.proofs.Tests.{of_le}
use Rattle.edge_script.proofs.CommandLaws.{command_read, command_spelled}
use Rattle.edge_script.proofs.command.read_line.Goals as goal

short : (line : List ℕ) → length line ≤ 8209 → command_of_bytes line ≡ command_in line
short line few = sym (ap (λ t. cond t (command_of_bytes line) None) (of_le (length line) 8209 few))

is_spelled : (line : List ℕ) (r : Result Command BadLine) → option_map asked (result_ok r) ≡ command_in line → IfOk r (λ c. SpellsCommand line (asked c))
is_spelled line (Ok c) e = command_spelled line (asked c) (sym e)
is_spelled line (Err bad) e = tt

is_refused : (line : List ℕ) (r : Result Command BadLine) → option_map asked (result_ok r) ≡ command_in line → OnErr r ((c : Asked) → SpellsCommand line c → ⊥)
is_refused line (Ok c) e = tt
is_refused line (Err bad) e = λ c spells. apart c (e ∙ command_read spells)
  where
    apart : (c : Asked) → None ≡ Some c → ⊥
    apart c e = cc

pub returns-clause-spelled : goal.returns-clause-spelled
returns-clause-spelled c =
    is_spelled c.args.line.now c.ok_or.result (ap (option_map asked) (sym c.ok_or.ensures.ok_part) ∙ c.read_command.ensures
    ∙ short c.args.line.now c.requires.line)

pub returns-clause-refused : goal.returns-clause-refused
returns-clause-refused c =
    is_refused c.args.line.now c.ok_or.result (ap (option_map asked) (sym c.ok_or.ensures.ok_part) ∙ c.read_command.ensures
    ∙ short c.args.line.now c.requires.line)
