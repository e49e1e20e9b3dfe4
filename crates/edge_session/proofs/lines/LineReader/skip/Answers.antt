use Rattle.edge_session.proofs.StreamLaws.{pending-skip}
use Rattle.edge_session.proofs.lines.LineReader.skip.Goals as goal

pub returns-clause-pending : goal.returns-clause-pending
returns-clause-pending c = pending-skip c.args.self.now.at c.args.n c.args.self.now.end c.args.self.now.input.items
