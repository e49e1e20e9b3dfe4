use Rattle.std.proofs.Common.{◌≡◌, Some, sym, ◌∙◌}
use Rattle.edge_model.specs.Asked.{Asked}
use Rattle.edge_script.proofs.CommandLaws.{command_read}
use Rattle.edge_script.proofs.laws.one_command.Goals as goal

same : (a b : Asked) → Some a ≡ Some b → a ≡ b
same a b e = cc

pub returns : goal.returns
returns c = λ line one two is also. same one two (sym (command_read is) ∙ command_read also)
