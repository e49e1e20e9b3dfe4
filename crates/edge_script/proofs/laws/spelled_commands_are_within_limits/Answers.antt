use Rattle.edge_script.proofs.LimitLaws.{of_bytes, in_limits, line_low}
use Rattle.edge_script.proofs.laws.spelled_commands_are_within_limits.Goals as goal

pub returns-clause-bytes : goal.returns-clause-bytes
returns-clause-bytes x = λ line c spells. of_bytes spells.are_words

pub returns-clause-limits : goal.returns-clause-limits
returns-clause-limits x = λ line c spells. in_limits spells.are_words

pub returns-clause-each_line : goal.returns-clause-each_line
returns-clause-each_line x = line_low
