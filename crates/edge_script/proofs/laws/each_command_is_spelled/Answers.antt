use Rattle.edge_script.proofs.SpellingLaws.{has_line}
use Rattle.edge_script.proofs.laws.each_command_is_spelled.Goals as goal

pub returns : goal.returns
returns c = λ command h. has_line command h
