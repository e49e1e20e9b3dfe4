use Rattle.std.proofs.Common.{arith}
use Rattle.edge_nodes.proofs.WritingLaws.{put_number, put_number_changes}
use Rattle.edge_nodes.proofs.writing.put_u32.Goals as goal

pub returns-clause-here : goal.returns-clause-here
returns-clause-here c = put_number c.args.at 4 c.args.x c.args.b.now _ (omega arith) (omega arith) c.write_u32.ensures

pub returns-clause-kept : goal.returns-clause-kept
returns-clause-kept c = put_number_changes c.args.at 4 c.args.x c.args.b.now _ (omega arith) c.write_u32.ensures
