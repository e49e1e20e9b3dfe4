use Rattle.std.proofs.Common.{None}
use Rattle.edge_handles.proofs.TableLaws.{put-slot}
use Rattle.edge_handles.proofs.Handles.leave.Goals as goal

pub returns-clause-left : goal.returns-clause-left
returns-clause-left c = put-slot c.self.inside.slots c.args.self.now c.args.h None c.self.view_is
