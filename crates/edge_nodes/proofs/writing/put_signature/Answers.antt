use Rattle.std.proofs.Common.{arith}
use Rattle.edge_nodes.proofs.WritingLaws.{signature_in-bytes, signature_changes}
use Rattle.edge_nodes.proofs.writing.put_signature.Goals as goal

pub returns-clause-here : goal.returns-clause-here
returns-clause-here c = signature_in-bytes c.args.kind c.args.b.now _ (omega arith) c.write_u32.ensures

pub returns-clause-kept : goal.returns-clause-kept
returns-clause-kept c = signature_changes c.args.kind c.args.b.now _ c.write_u32.ensures
