use Rattle.std.proofs.Common.{arith}
use Rattle.edge_nodes.proofs.WritingLaws.{number_at-set, set_changes}
use Rattle.edge_nodes.proofs.writing.put_u8.Goals as goal

pub returns-clause-here : goal.returns-clause-here
returns-clause-here c = number_at-set c.args.at c.args.x c.args.b.now (omega arith)

pub returns-clause-kept : goal.returns-clause-kept
returns-clause-kept c = set_changes c.args.at c.args.x c.args.b.now
