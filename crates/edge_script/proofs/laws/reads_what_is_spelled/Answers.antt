use Rattle.edge_script.proofs.CommandLaws.{command_read, command_spelled}
use Rattle.edge_script.proofs.laws.reads_what_is_spelled.Goals as goal

pub returns : goal.returns
returns c = λ line command. (λ e. command_spelled line command e, λ spells. command_read spells)
